use Rattle.std.proofs.Common.{◌≡◌, ◌++◌, drop}
use Rattle.pp_program.specs.Merge.{merged_from}
use Rattle.pp_program.proofs.merge.merge_onto.Given as goal

abbrev pub invariant-loop-next : goal.invariant-loop-next
invariant-loop-next l = l.merged.items ++ merged_from l.last (drop l.next-index l.edges) ≡ merged_from l.fn.first l.edges
