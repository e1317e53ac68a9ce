use Rattle.pp_mean.proofs.RunLemmas.{CountsCalls-none}
use Rattle.pp_mean.proofs.items.Items.new.Goals as goal

pub invariant_of-result : goal.invariant_of-result
invariant_of-result c = CountsCalls-none c.new.result.items c.new.ensures.items
