use Rattle.std.proofs.Common.{subst, ◌<◌, ℕ, sym, length}
use Rattle.std.proofs.lemmas.Result.{on_ok_weaker}
use Rattle.pp_program.proofs.FlowLemmas.{step-within}
use Rattle.pp_flow.proofs.RowLemmas.{rowed-then}
use Rattle.pp_program.proofs.moves.push_branch.Goals as goal

pub push_steps-requires-clause-to : goal.push_steps-requires-clause-to
push_steps-requires-clause-to c =
    step-within c.args.state c.args.fold c.args.stay.now c.args.edges.now c.args.rest (length c.args.flow.now.acts)
    (subst (λ (n : ℕ). n < length c.args.flow.now.acts) (sym c.requires.from) c.requires.told) c.requires.edges c.requires.rest

pub returns : goal.returns
returns c =
    on_ok_weaker c.push_dead.result
    (λ last. rowed-then _ _ _ _ _ c.in_ok-push_steps.ensures (rowed-then _ _ _ _ _ c.in_ok-push_edges.ensures last))
    c.push_dead.ensures
