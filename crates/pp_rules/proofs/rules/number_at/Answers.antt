use Rattle.std.proofs.Common.{◌<◌, length, sym, subst, Some, arith}
use Rattle.std.specs.Prelude.{IfSome}
use Rattle.pp_rules.specs.Rules.{FailsAt}
use Rattle.pp_rules.specs.Sets.{all_calls}
use Rattle.pp_rules.specs.steps.Least.{IsLeast}
use Rattle.pp_rules.specs.steps.Seen.{IsFirstFailing}
use Rattle.pp_rules.proofs.SetLemmas.{length-sets}
use Rattle.pp_rules.proofs.FirstFaultLemmas.{sum-within, least-kept, least-none}
use Rattle.pp_rules.proofs.rules.number_at.Goals as goal

pub number_of-requires-clause-within : goal.number_of-requires-clause-within
number_of-requires-clause-within c =
    let inside : c.in-Some.place < length c.args.values.now = subst (λ o. IfSome o (λ p. p < length c.args.values.now)) c.in-Some.is c.requires.within in
    omega (arith, inside, length-sets c.args.values.now c.args.sets.now c.requires.sets)

pub number_of-requires-clause-small : goal.number_of-requires-clause-small
number_of-requires-clause-small c =
    omega (arith, sum-within c.args.values.now c.args.sets.now c.in-Some.place c.requires.sets, c.requires.small)

pub returns-in-Some : goal.returns-in-Some
returns-in-Some c rule named ends first =
    let told = subst (IsFirstFailing rule c.args.values.now) c.in-Some.is first in
    subst (λ n. IsLeast (FailsAt rule (all_calls c.args.values.now c.args.sets.now)) (Some n)) (sym c.number_of.ensures)
    (least-kept rule named c.args.values.now c.args.sets.now c.requires.sets c.in-Some.place told.0 told.1 told.2)

pub returns-in-None : goal.returns-in-None
returns-in-None c rule named ends first =
    least-none rule named c.args.values.now c.args.sets.now c.requires.sets (subst (IsFirstFailing rule c.args.values.now) c.in-None.is first) ends
