use Rattle.std.proofs.Common.{ℕ, ◌+◌, ◌∙◌, sym, arith, inl, inr}
use Rattle.pp_bytes.specs.Fold.{folded}
use Rattle.pp_check.specs.steps.Ends.{StopsBehind}
use Rattle.pp_check.proofs.KeyLemmas.{below-none, below-more, below-all}
use Rattle.pp_check.proofs.RowLemmas.{told-in, told-out}
use Rattle.pp_check.proofs.rows.taken_bytes.Goals as goal
use Rattle.pp_check.proofs.rows.taken_bytes.Goals.{then-has, else-has}

pub loop-b-init : goal.loop-b-init
loop-b-init c = below-none (λ (x : ℕ). StopsBehind c.args.fold c.args.keys.now (folded c.args.fold x)) c.new-bytes.result c.new-bytes.ensures

pub loop-b-preserved : goal.loop-b-preserved
loop-b-preserved c =
    below-more (λ (x : ℕ). StopsBehind c.args.fold c.args.keys.now (folded c.args.fold x)) c.loop-b.bytes c.if-has.bytes c.loop-b.b
    (elim c.if-has.branch [
      | then-has w ↦
          let has = told-in c.stop_bytes-behind.result (StopsBehind c.args.fold c.args.keys.now) c.stop_bytes-behind.ensures c.of.result _ c.of.type_inv c.of.ensures in
          inl (has (sym c.has.ensures ∙ w.if-has.true), w.bytes-is ∙ w.add.ensures)
      | else-has w ↦
          let lacks = told-out c.stop_bytes-behind.result (StopsBehind c.args.fold c.args.keys.now) c.stop_bytes-behind.ensures c.of.result _ c.of.type_inv c.of.ensures in
          inr (lacks (sym c.has.ensures ∙ w.if-has.false), w.bytes-is)
    ])
    c.loop-b.invariant

pub returns-after-has : goal.returns-after-has
returns-after-has c =
    below-all (λ (x : ℕ). StopsBehind c.args.fold c.args.keys.now (folded c.args.fold x)) c.if-has.bytes (c.loop-b.b + 1) (omega arith)
    (below-more (λ (x : ℕ). StopsBehind c.args.fold c.args.keys.now (folded c.args.fold x)) c.loop-b.bytes c.if-has.bytes c.loop-b.b
    (elim c.if-has.branch [
      | then-has w ↦
          let has = told-in c.stop_bytes-behind.result (StopsBehind c.args.fold c.args.keys.now) c.stop_bytes-behind.ensures c.of.result _ c.of.type_inv c.of.ensures in
          inl (has (sym c.has.ensures ∙ w.if-has.true), w.bytes-is ∙ w.add.ensures)
      | else-has w ↦
          let lacks = told-out c.stop_bytes-behind.result (StopsBehind c.args.fold c.args.keys.now) c.stop_bytes-behind.ensures c.of.result _ c.of.type_inv c.of.ensures in
          inr (lacks (sym c.has.ensures ∙ w.if-has.false), w.bytes-is)
    ])
    c.loop-b.invariant)

pub returns : goal.returns
returns c = below-all (λ (x : ℕ). StopsBehind c.args.fold c.args.keys.now (folded c.args.fold x)) c.loop-b.bytes c.loop-b.b (omega arith) c.loop-b.invariant
