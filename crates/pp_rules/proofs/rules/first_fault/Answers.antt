use Rattle.pp_rules.specs.Sets.{all_calls}
use Rattle.pp_rules.proofs.FirstFaultLemmas.{fails-within}
use Rattle.pp_rules.proofs.rules.first_fault.Goals as goal

pub returns-in-Some-clause-within : goal.returns-in-Some-clause-within
returns-in-Some-clause-within c =
    fails-within _ (all_calls c.args.values.now c.args.sets.now) c.in-Some.call c.in-Some.ensures.holds
