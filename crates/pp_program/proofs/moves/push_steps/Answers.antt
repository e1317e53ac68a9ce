use Rattle.std.proofs.Common.{ℕ, ◌≡◌, ◌≤◌, ◌+◌, ◌-◌, refl, sym, ◌∙◌, arith}
use Rattle.std.proofs.lemmas.Result.{on_ok_weaker}
use Rattle.pp_program.specs.declared.branch.Step.{Step}
use Rattle.pp_program.specs.steps.Ends.{step_on}
use Rattle.pp_program.proofs.RowLemmas.{steps-cut, same-step, steps-on, steps-here}
use Rattle.pp_program.proofs.moves.push_steps.Goals as goal
use Rattle.pp_program.proofs.moves.push_steps.Goals.{then-ne+in_ok-push, else-ne}

pub loop-b-preserved : goal.loop-b-preserved
loop-b-preserved c =
    let step : ℕ → Step = step_on c.args.state c.args.fold c.args.stay.now c.args.edges.now c.args.rest in
    elim c.if-ne.branch [
      | then-ne+in_ok-push w ↦
          let low : c.loop-b.lo ≤ c.loop-b.b - 1 = omega (arith, c.loop-b.invariant.1) in
          let next : c.loop-b.b - 1 + 1 ≡ c.loop-b.b = omega (arith, c.loop-b.invariant.1) in
          rw (w.flow-is, w.lo-is, w.last-is) (
            steps-cut _ _ _ _ c.args.state step c.loop-b.last c.loop-b.lo (c.loop-b.b - 1) c.loop-b.b low next c.loop-b.invariant.2 w.row_of.ensures c.loop-b.invariant.0 w.in_ok-push.ensures,
            omega arith,
            steps-here step c.step_on-step.result c.loop-b.b (sym (c.step_on-step.ensures c.args.edges.now c.edges_by_byte-by_byte.ensures)),
          )
      | else-ne w ↦
          let same : c.step_on-step.result ≡ c.loop-b.last = same-step _ _ c.ne.result c.ne.ensures w.if-ne.false in
          rw (w.flow-is, w.lo-is, w.last-is) (
            c.loop-b.invariant.0,
            omega (arith, c.loop-b.invariant.1),
            steps-on step c.loop-b.last c.loop-b.lo c.loop-b.b c.loop-b.invariant.2 (sym (c.step_on-step.ensures c.args.edges.now c.edges_by_byte-by_byte.ensures) ∙ same),
          )
    ]

pub returns : goal.returns
returns c =
    let end : c.loop-b.b ≤ 256 = c.loop-b.auto.b-end (omega arith) in
    let all : 256 ≤ c.loop-b.b = c.loop-b-test.false in
    let low : c.loop-b.lo ≤ 255 = omega (arith, c.loop-b.invariant.1, end) in
    on_ok_weaker c.push-2.result
    (λ last. steps-cut _ _ _ _ c.args.state (step_on c.args.state c.args.fold c.args.stay.now c.args.edges.now c.args.rest) c.loop-b.last c.loop-b.lo 255 256 low refl
    (λ x from to. c.loop-b.invariant.2 x from (omega (arith, to, all))) c.row_of-2.ensures c.loop-b.invariant.0 last)
    c.push-2.ensures
