use Rattle.std.proofs.Common.{arith}
use Rattle.pp_lower.specs.steps.Links.{next_on}
use Rattle.pp_lower.proofs.KeyTree.{below_all}
use Rattle.pp_lower.proofs.tree.next_of.Goals as goal

pub returns : goal.returns
returns c = below_all (next_on c.args.links.now) c.of-list.result c.loop-byte.next.items c.loop-byte.byte 256 c.of-list.ensures c.loop-byte.invariant (omega arith)
