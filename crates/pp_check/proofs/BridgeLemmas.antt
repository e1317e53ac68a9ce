-- The flow of a graph has the moves of its machine.
use Rattle.std.proofs.Common.{subst, ◌<◌, ℕ, List, Option, length, inl, inr}
use Rattle.std.specs.Prelude.{slice_get}
use Rattle.std.proofs.lemmas.Option.{slice_get_past}
use Rattle.std.proofs.lemmas.Bool.{cases_lt}
use Rattle.pp_flow.specs.Chart.{Chart}
use Rattle.pp_flow.specs.Rows.{Way}
use Rattle.pp_flow.proofs.RowLemmas.{free-ends, onward-ends}
use Rattle.pp_graph.specs.declared.node.Node.{Node}
use Rattle.pp_graph.specs.Plan.{Plan, IsWellFormed}
use Rattle.pp_event.proofs.FlowLemmas.{HasMoves}
use Rattle.pp_mean.specs.Loops.{graph_moves}
use Rattle.pp_check.specs.steps.Ends.{EndsAt, ends_of}
use Rattle.pp_check.specs.steps.Rows.{TellsBelow, IsFlowOf}
use Rattle.pp_check.proofs.KindLemmas.{free-told, onward-told, free-made-by, onward-made-by}
use Rattle.pp_check.proofs.WellLemmas.{nodes-fit}

pub ends-there : (nodes : List Node) (way : Way) (b node next : ℕ) → EndsAt (slice_get nodes node) way b next → node < length nodes
ends-there nodes way b node next e = elim (cases_lt node (length nodes)) [
  | inl less ↦ less
  | inr past ↦ absurd (subst (λ (o : Option Node). EndsAt o way b next) (slice_get_past nodes node past) e)
]

-- a flow that tells all nodes
pub has-moves : (g : Plan) (c : Chart) → IsWellFormed g → IsFlowOf g c → TellsBelow g.nodes (length g.nodes) c.moves → HasMoves (graph_moves g) c
has-moves g c well is tells = record {
  entry = is.entry;
  free = λ b node next h.
      (let ends = free-ends (ends_of g.nodes) (length g.nodes) c.moves tells (ends-there g.nodes) b node next h in
      ((λ f. free-made-by g (nodes-fit g well) b node next (ends.0 f)), (λ m. ends.1 (free-told g (nodes-fit g well) b node next h m))));
  onward = λ b node next h.
      (let ends = onward-ends (ends_of g.nodes) (length g.nodes) c.moves tells (ends-there g.nodes) b node next h in
      ((λ f. onward-made-by g (nodes-fit g well) b node next (ends.0 f)), (λ m. ends.1 (onward-told g (nodes-fit g well) b node next h m))));
}
