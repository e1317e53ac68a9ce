use Rattle.std.proofs.Common.{◌≡◌, [], ◌∷◌, take, map}
use Rattle.pp_lower.specs.Tree.{node_among}
use Rattle.pp_lower.proofs.tree.nodes_of.Given as goal

abbrev pub invariant-loop-i : goal.invariant-loop-i
invariant-loop-i l = l.nodes.items ≡ map (node_among ([] ∷ l.list) l.texts) (take l.i ([] ∷ l.list))
