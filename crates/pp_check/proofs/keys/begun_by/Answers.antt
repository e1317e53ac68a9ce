use Rattle.std.proofs.Common.{◌≡◌, ℕ, ◌+◌, sym, ◌∙◌, arith, inl, inr}
use Rattle.pp_bytes.specs.Fold.{folded}
use Rattle.pp_check.proofs.KeyLemmas.{below-none, below-more, below-all}
use Rattle.pp_check.proofs.keys.begun_by.Goals as goal
use Rattle.pp_check.proofs.keys.begun_by.Goals.{then-of-byte, else-of-byte}

pub loop-b-init : goal.loop-b-init
loop-b-init c = below-none (λ (b : ℕ). c.args.byte ≡ folded c.args.fold b) c.new-bytes.result c.new-bytes.ensures

pub loop-b-preserved : goal.loop-b-preserved
loop-b-preserved c =
    below-more (λ (b : ℕ). c.args.byte ≡ folded c.args.fold b) c.loop-b.bytes c.if-of-byte.bytes c.loop-b.b
    (elim c.if-of-byte.branch [
      | then-of-byte w ↦ inl (cc, cc)
      | else-of-byte w ↦ inr ((λ same. w.if-of-byte.false (c.of.ensures ∙ sym same)), w.bytes-is)
    ])
    c.loop-b.invariant

pub returns-after-of-byte : goal.returns-after-of-byte
returns-after-of-byte c =
    below-all (λ (b : ℕ). c.args.byte ≡ folded c.args.fold b) c.if-of-byte.bytes (c.loop-b.b + 1) (omega arith)
    (below-more (λ (b : ℕ). c.args.byte ≡ folded c.args.fold b) c.loop-b.bytes c.if-of-byte.bytes c.loop-b.b
    (elim c.if-of-byte.branch [
      | then-of-byte w ↦ inl (cc, cc)
      | else-of-byte w ↦ inr ((λ same. w.if-of-byte.false (c.of.ensures ∙ sym same)), w.bytes-is)
    ])
    c.loop-b.invariant)
