use Rattle.std.proofs.Common.{arith, [], ◌∷◌, ◌+◌}
use Rattle.pp_lower.specs.Lowered.{inner_of, branch_of}
use Rattle.pp_lower.proofs.RowLemmas.{state_more, states_all}
use Rattle.pp_lower.proofs.states.push_match.Goals as goal

pub loop-i-preserved : goal.loop-i-preserved
loop-i-preserved c =
    λ f g.
    state_more (branch_of f c.args.root c.args.fold c.args.keys.now c.args.peeks.now c.args.other) c.args.origin c.args.keys.now c.loop-i.i (c.loop-i.i + 1) c.in_ok-instr.instr
    c.args.states.now.items c.loop-i.states.items c.push_state.new.states.items (omega arith) (omega (arith, c.in_ok-rows.ensures.ends.long)) (λ p e. c.in_ok-instr.ensures f p g e)
    (c.loop-i.invariant f g) c.in_ok-push_state.ensures

pub returns : goal.returns
returns c =
    λ f g.
    states_all (branch_of f c.args.root c.args.fold c.args.keys.now c.args.peeks.now c.args.other) c.args.origin ([] ∷ inner_of c.args.keys.now) c.loop-i.i c.args.states.now.items c.loop-i.states.items
    (omega (arith, c.in_ok-rows.ensures.ends.long)) (c.loop-i.invariant f g)
