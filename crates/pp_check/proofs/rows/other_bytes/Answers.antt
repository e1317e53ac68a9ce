use Rattle.std.proofs.Common.{ℕ, ◌+◌, ◌∙◌, sym, arith, inl, inr}
use Rattle.std.proofs.lemmas.Bool.{false≢true}
use Rattle.pp_bytes.specs.Fold.{folded}
use Rattle.pp_check.specs.steps.Ends.{IsOtherByte}
use Rattle.pp_check.proofs.KeyLemmas.{below-none, below-more, below-all}
use Rattle.pp_check.proofs.RowLemmas.{told-neither}
use Rattle.pp_check.proofs.rows.other_bytes.Goals as goal
use Rattle.pp_check.proofs.rows.other_bytes.Goals.{then-in_neither, else-in_neither}

pub loop-b-init : goal.loop-b-init
loop-b-init c = below-none (λ (x : ℕ). IsOtherByte c.args.keys.now c.args.peeks.now (folded c.args.fold x)) c.new-bytes.result c.new-bytes.ensures

pub loop-b-preserved : goal.loop-b-preserved
loop-b-preserved c =
    let tells = told-neither c.args.keys.now c.args.peeks.now _ _ c.first_bytes-begun.ensures c.peek_bytes-peeked.ensures c.of.result _ c.of.type_inv c.of.ensures in
    below-more (λ (x : ℕ). IsOtherByte c.args.keys.now c.args.peeks.now (folded c.args.fold x)) c.loop-b.bytes c.if-in_neither.bytes c.loop-b.b
    (elim c.if-in_neither.branch [
      | then-in_neither w ↦ inl (tells.0 (c.in_neither.ensures.0 w.if-in_neither.true), w.bytes-is ∙ w.add.ensures)
      | else-in_neither w ↦ inr ((λ other. false≢true (sym w.if-in_neither.false ∙ c.in_neither.ensures.1 (tells.1 other))), w.bytes-is)
    ])
    c.loop-b.invariant

pub returns-after-in_neither : goal.returns-after-in_neither
returns-after-in_neither c =
    let tells = told-neither c.args.keys.now c.args.peeks.now _ _ c.first_bytes-begun.ensures c.peek_bytes-peeked.ensures c.of.result _ c.of.type_inv c.of.ensures in
    below-all (λ (x : ℕ). IsOtherByte c.args.keys.now c.args.peeks.now (folded c.args.fold x)) c.if-in_neither.bytes (c.loop-b.b + 1) (omega arith)
    (below-more (λ (x : ℕ). IsOtherByte c.args.keys.now c.args.peeks.now (folded c.args.fold x)) c.loop-b.bytes c.if-in_neither.bytes c.loop-b.b
    (elim c.if-in_neither.branch [
      | then-in_neither w ↦ inl (tells.0 (c.in_neither.ensures.0 w.if-in_neither.true), w.bytes-is ∙ w.add.ensures)
      | else-in_neither w ↦ inr ((λ other. false≢true (sym w.if-in_neither.false ∙ c.in_neither.ensures.1 (tells.1 other))), w.bytes-is)
    ])
    c.loop-b.invariant)

pub returns : goal.returns
returns c = below-all (λ (x : ℕ). IsOtherByte c.args.keys.now c.args.peeks.now (folded c.args.fold x)) c.loop-b.bytes c.loop-b.b (omega arith) c.loop-b.invariant
