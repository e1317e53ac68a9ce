use Rattle.pp_lower.proofs.TreeForms.{keys_differ, keys_fit}
use Rattle.pp_lower.proofs.laws.nodes_have_trees.Goals as goal

pub returns-clause-distinct : goal.returns-clause-distinct
returns-clause-distinct c g place node form there is = keys_differ g node.kind (form.kinds place node there) is

pub returns-clause-fits : goal.returns-clause-fits
returns-clause-fits c g place node form there is = keys_fit g node.kind (form.kinds place node there) is
