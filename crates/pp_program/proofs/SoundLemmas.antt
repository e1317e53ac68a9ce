-- What the rule on targets gives, and where rules fail.
use Rattle.std.proofs.Common.{subst, ◌≡◌, ℕ, zero, suc, ◌<◌, List, [], ◌∷◌, Option, Some, None, Bool, true, false, refl, sym, ◌∙◌, arith, length, ◌&&◌, inl, inr}
use Rattle.std.specs.Prelude.{slice_get, nat_lt}
use Rattle.std.specs.List.{list_all}
use Rattle.std.proofs.lemmas.Bool.{cases_Bool, false≢true, leb-true, ltb-true}
use Rattle.std.proofs.lemmas.Option.{slice_get_within}
use Rattle.pp_program.specs.declared.program.Edge.{Edge}
use Rattle.pp_program.specs.declared.program.Instr.{Instr}
use Rattle.pp_program.specs.declared.program.Instr.TheVariants.{Branch, Invoke, Consume, SpanOpen, SpanClose, Pause, Fail}
use Rattle.pp_program.specs.declared.program.State.{State}
use Rattle.pp_program.specs.declared.program.Program.{Program}
use Rattle.pp_program.specs.declared.fault.VerifyRule.TheVariants.{Target, Width}
use Rattle.pp_program.specs.Targets.{leads, is_plain_state, is_value_state, is_edge, is_rest, is_answer, is_instr, is_state, is_frame, are_counts, in_row, may_follow, answer_follows, is_finish}
use Rattle.pp_program.specs.Widths.{is_wide_instr}
use Rattle.pp_program.specs.Valid.{Holds, IsBroken}
use Rattle.pp_program.specs.steps.Least.{IsFirstState}
use Rattle.pp_program.specs.steps.Rows.{IsSound, LeadsWithin, SpanWithin, Counts}
use Rattle.pp_program.proofs.RowLemmas.{both-true}

-- the least state that fails
pub target-state : (p : Program) (i : ℕ) → IsFirstState (λ (s : State). is_state p s ≡ false) p.states (Some i) → IsBroken p Target i
target-state p i f = record {
  fails = inl f.0;
  least = λ j low fails. elim fails [
    | inl at ↦ f.1 j low at
    | inr end ↦ (let here : i < length p.states = slice_get_within p.states i f.0.0 f.0.1 in omega (arith, low, here, end.0))
  ];
  first = tt;
}

-- no state fails, and what stands behind all states does
pub target-frame : (p : Program) → IsFirstState (λ (s : State). is_state p s ≡ false) p.states None → is_frame p ≡ false → IsBroken p Target (length p.states)
target-frame p none e = record {
  fails = inr (refl, e);
  least = λ j low fails. elim fails [ inl at ↦ none j at | inr end ↦ omega (arith, low, end.0) ];
  first = tt;
}

pub target-holds : (p : Program) → IsFirstState (λ (s : State). is_state p s ≡ false) p.states None → is_frame p ≡ true → Holds p Target
target-holds p none e at (inl f) = none at f
target-holds p none e at (inr f) = false≢true (sym f.1 ∙ e)

pub width-state : (p : Program) (i : ℕ) → Holds p Target → IsFirstState (λ (s : State). is_wide_instr p s.instr ≡ true) p.states (Some i) → IsBroken p Width i
width-state p i targets f = record { fails = f.0; least = λ j low fails. f.1 j low fails; first = targets }

-- each passes
pub each-passes : {X : Type 0} (test : X → Bool) (xs : List X) → list_all test xs ≡ true → (i : ℕ) (x : X) → slice_get xs i ≡ Some x → test x ≡ true
each-passes test [] e i x at = absurd cc
each-passes test (y ∷ xs) e zero x at = (let same : y ≡ x = cc in subst (λ z. test z ≡ true) same (both-true (test y) (list_all test xs) e).0)
each-passes test (y ∷ xs) e (suc i) x at = each-passes test xs (both-true (test y) (list_all test xs) e).1 i x at

plain-there : (p : Program) (o : Option State) → is_plain_state p o ≡ true → (s : State) × (o ≡ Some s)
plain-there p None e = absurd (false≢true e)
plain-there p (Some s) e = (s, refl)

value-there : (p : Program) (o : Option State) → is_value_state p o ≡ true → (s : State) × (o ≡ Some s)
value-there p None e = absurd (false≢true e)
value-there p (Some s) e = (s, refl)

pub leads-within : (p : Program) (number : Option ℕ) (target : ℕ) → leads p number target ≡ true → target < length p.states
leads-within p None target e = (let q = plain-there p (slice_get p.states target) e in slice_get_within p.states target q.0 q.1)
leads-within p (Some n) target e = (let q = value-there p (slice_get p.states target) e in slice_get_within p.states target q.0 q.1)

edge-within : (p : Program) (e : Edge) → is_edge p e ≡ true → e.target < length p.states
edge-within p e h = leads-within p e.number e.target (both-true _ (leads p e.number e.target) h).1

instr-leads : (p : Program) (i : Instr) → is_instr p i ≡ true → LeadsWithin (length p.states) i
instr-leads p (Branch fold stay edges rest) h =
    let both = both-true _ (is_rest p rest) h in
    let three = both-true _ (in_row may_follow edges) both.0 in
    let two = both-true _ (list_all (is_edge p) edges) three.0 in (
      (λ i e at. edge-within p e (each-passes (is_edge p) edges two.1 i e at)),
      leads-within p rest.number rest.target (both-true _ (leads p rest.number rest.target) both.1).1,
    )
instr-leads p (Invoke what answers other) h =
    let both = both-true _ (leads p None other) h in
    let inner = both-true _ _ both.0 in
    let three = both-true _ (in_row answer_follows answers) inner.1 in
    let two = both-true _ (list_all (is_answer p) answers) three.0 in (
      (λ i a at. leads-within p None a.target (each-passes (is_answer p) answers two.1 i a at)),
      leads-within p None other both.1,
    )
instr-leads p (Consume prop next) h = leads-within p None next (both-true _ (leads p None next) h).1
instr-leads p (SpanOpen span next) h = leads-within p None next (both-true _ (leads p None next) h).1
instr-leads p (SpanClose span next) h = leads-within p None next (both-true _ (leads p None next) h).1
instr-leads p (Pause code reason next) h = leads-within p None next h
instr-leads p (Fail code reason) h = tt

instr-span : (p : Program) (i : Instr) → is_instr p i ≡ true → SpanWithin (length p.spans) i
instr-span p (Branch fold stay edges rest) h = tt
instr-span p (Invoke what answers other) h = tt
instr-span p (Consume prop next) h = tt
instr-span p (SpanOpen span next) h = ltb-true span (length p.spans) (both-true (nat_lt span (length p.spans)) (leads p None next) h).0
instr-span p (SpanClose span next) h = ltb-true span (length p.spans) (both-true (nat_lt span (length p.spans)) (leads p None next) h).0
instr-span p (Pause code reason next) h = tt
instr-span p (Fail code reason) h = tt

state-right : (p : Program) → Holds p Target → (i : ℕ) (s : State) → slice_get p.states i ≡ Some s → is_instr p s.instr ≡ true
state-right p holds i s at = elim (cases_Bool (is_state p s)) [
  | inl right ↦ (both-true _ (is_instr p s.instr) right).1
  | inr wrong ↦ absurd (holds i (inl (s, at, wrong)))
]

pub frame-right : (p : Program) → Holds p Target → is_frame p ≡ true
frame-right p holds = elim (cases_Bool (is_frame p)) [ inl right ↦ right | inr wrong ↦ absurd (holds (length p.states) (inr (refl, wrong))) ]

pub counts-of : (p : Program) → Holds p Target → Counts p
counts-of p holds =
    let counts : are_counts p ≡ true = (both-true (leads p None p.entry && is_finish p p.finish) (are_counts p) (frame-right p holds)).1 in
    let a = both-true _ _ counts in
    let b = both-true _ _ a.0 in
    let c = both-true _ _ b.0 in
    let d = both-true _ _ c.0 in
    let e = both-true _ _ d.0 in
    let f = both-true _ _ e.0 in
    let g = both-true _ _ f.0 in
    record {
      props = leb-true _ _ g.0;
      hosts = leb-true _ _ g.1;
      spans = leb-true _ _ f.1;
      names = leb-true _ _ d.1;
      states = leb-true _ _ b.1;
    }

-- what the flow of a program rests on
pub sound-of : (p : Program) → Holds p Target → IsSound p
sound-of p holds =
    let frame = both-true (leads p None p.entry && is_finish p p.finish) (are_counts p) (frame-right p holds) in
    let counts : Counts p = counts-of p holds in
    record {
      entry = leads-within p None p.entry (both-true (leads p None p.entry) (is_finish p p.finish) frame.0).0;
      few_states = counts.states;
      few_spans = counts.spans;
      lead = λ i s at. instr-leads p s.instr (state-right p holds i s at);
      span = λ i s at. instr-span p s.instr (state-right p holds i s at);
    }
