use Rattle.std.proofs.Common.{◌≡◌, ℕ, ◌+◌, ◌<◌, true, sym, ap, ◌∙◌, arith, below_more}
use Rattle.std.specs.FinSet as set
use Rattle.pp_bytes.specs.Fold.{folded}
use Rattle.pp_check.proofs.KeyLemmas.{folded-byte}
use Rattle.pp_check.proofs.keys.is_live.Goals as goal

pub loop-b-preserved : goal.loop-b-preserved
loop-b-preserved c = below_more _ _ c.loop-b.invariant (ap (λ (b : ℕ). set.contains c.next_bytes-next.result b) (sym c.of.ensures) ∙ sym c.has.ensures ∙ c.if-not-has.false)

pub returns-else-not-has : goal.returns-else-not-has
returns-else-not-has c =
    let here : set.contains c.next_bytes-next.result (folded c.args.fold c.loop-b.b) ≡ true =
    ap (λ (b : ℕ). set.contains c.next_bytes-next.result b) (sym c.of.ensures) ∙ sym c.has.ensures ∙ c.if-not-has.false in
    let all : (b : ℕ) → b < c.loop-b.b + 1 → set.contains c.next_bytes-next.result (folded c.args.fold b) ≡ true = below_more _ _ c.loop-b.invariant here in (
      (λ h. absurd (cc h)),
      (λ live. absurd (live.2 ((c.next_bytes-next.ensures (folded c.args.fold live.0) (folded-byte c.args.fold live.0 live.1)).0 (all live.0 (omega (arith, live.1)))))),
    )
