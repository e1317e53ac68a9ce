use Rattle.pp_lower.proofs.OrderLaws.{rows_ordered}
use Rattle.pp_lower.proofs.PrefixLaws.{prefix_only, prefix_there}
use Rattle.pp_lower.proofs.laws.prefixes_in_order.Goals as goal

pub returns-clause-ordered : goal.returns-clause-ordered
returns-clause-ordered c texts = rows_ordered 0 texts

pub returns-clause-only : goal.returns-clause-only
returns-clause-only c = prefix_only

pub returns-clause-there : goal.returns-clause-there
returns-clause-there c = prefix_there
