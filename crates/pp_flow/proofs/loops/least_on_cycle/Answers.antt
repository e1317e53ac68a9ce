use Rattle.std.proofs.Common.{◌≡◌, ◌+◌, ℕ, Option, subst, sym, arith}
use Rattle.pp_flow.specs.steps.Judging.{IsLeastSoFar}
use Rattle.pp_flow.proofs.JudgeLemmas.{so_far_first, so_far_on, so_far_all}
use Rattle.pp_flow.proofs.loops.least_on_cycle.Goals as goal

pub loop-number-init : goal.loop-number-init
loop-number-init c = so_far_first c.args.moves.now c.args.entry

pub loop-number-preserved : goal.loop-number-preserved
loop-number-preserved c =
    subst (λ (o : Option ℕ). IsLeastSoFar c.args.moves.now c.args.entry (c.loop-number.number + 1) o) (sym c.lesser-least.ensures)
    (so_far_on c.args.moves.now c.args.entry c.loop-number.number c.loop-number.least c.in_ok-found.found c.loop-number.invariant c.in_ok-found.ensures)

pub returns : goal.returns
returns c =
    let end : c.loop-number.number ≡ 256 = omega arith in
    so_far_all c.args.moves.now c.args.entry c.loop-number.least
    (subst (λ (n : ℕ). IsLeastSoFar c.args.moves.now c.args.entry n c.loop-number.least) end c.loop-number.invariant)
