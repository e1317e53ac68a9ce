use Rattle.pp_lower.proofs.LinkLaws.{row_pushed}
use Rattle.pp_lower.proofs.links.push_link.Goals as goal

pub returns : goal.returns
returns c = row_pushed c.args.rows.now.items c.args.row c.index_mut.result.now c.push.new.self c.args.link c.requires c.index_mut.ensures.value c.in_ok-push.ensures.items
