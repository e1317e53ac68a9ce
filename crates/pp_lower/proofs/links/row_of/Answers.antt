use Rattle.std.proofs.Common.{◌<◌, length, arith}
use Rattle.pp_lower.proofs.LinkLaws.{place_within}
use Rattle.pp_lower.proofs.links.row_of.Goals as goal

pub overflow_add-result : goal.overflow_add-result
overflow_add-result c = (let inside : c.in-Some.place < length c.args.list.now = place_within c.args.text.now c.args.list.now c.in-Some.place c.in-Some.ensures in omega arith)
