use Rattle.std.proofs.Common.{◌≡◌, ◌⊎◌, ℕ, length, sym, ◌∙◌, subst, refl, arith, inl, inr}
use Rattle.std.proofs.lemmas.Bool.{cases_eq, cases_lt, false≢true}
use Rattle.std.proofs.lemmas.List.{get_or_past}
use Rattle.pp_flow.specs.declared.moves.Act.TheVariants.{Goes, Opens, Closes}
use Rattle.pp_flow.specs.Spans.{act_at}
use Rattle.pp_flow.proofs.moves.have_spans.Goals as goal

pub loop-place-preserved : goal.loop-place-preserved
loop-place-preserved c x s lt named = elim (cases_eq x c.loop-place.place) [
  | inl e ↦ c.has_span.ensures.0 c.if-not-has_span.false s (subst (λ (y : ℕ). (act_at c.args.acts.now y ≡ Opens s) ⊎ (act_at c.args.acts.now y ≡ Closes s)) e named)
  | inr o ↦ c.loop-place.invariant x s (omega arith) named
]

pub returns-then-not-has_span : goal.returns-then-not-has_span
returns-then-not-has_span c = (
  (λ t. absurd (false≢true t)),
  (λ all. absurd (false≢true (sym c.if-not-has_span.true ∙ c.has_span.ensures.1 (λ s named. all c.loop-place.place s named)))),
)

pub returns : goal.returns
returns c = (
  (λ t x s named. elim (cases_lt x (length c.args.acts.now)) [
    | inl lt ↦ c.loop-place.invariant x s (omega (arith, c.loop-place-test.false)) named
    | inr past ↦ (
        let goes : act_at c.args.acts.now x ≡ Goes = get_or_past c.args.acts.now x Goes past in
        elim named [
          | inl e ↦ absurd (let f : Goes ≡ Opens s = sym goes ∙ e in cc)
          | inr e ↦ absurd (let f : Goes ≡ Closes s = sym goes ∙ e in cc)
        ])
  ]),
  (λ all. refl),
)
