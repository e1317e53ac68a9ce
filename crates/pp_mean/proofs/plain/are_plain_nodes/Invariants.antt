use Rattle.std.proofs.Common.{◌≡◌, ℕ, ◌<◌, Some}
use Rattle.std.specs.Prelude.{slice_get}
use Rattle.pp_graph.specs.declared.node.Node.{Node}
use Rattle.pp_mean.specs.Plain.{IsPlainKind}
use Rattle.pp_mean.proofs.plain.are_plain_nodes.Given as goal

abbrev pub invariant-loop-node : goal.invariant-loop-node
invariant-loop-node l = (i : ℕ) (n : Node) → i < l.node-index → slice_get l.nodes i ≡ Some n → IsPlainKind n.kind
