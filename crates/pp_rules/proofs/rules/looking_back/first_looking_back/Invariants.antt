use Rattle.std.proofs.Common.{[], take}
use Rattle.std.specs.Prelude.{None as none}
use Rattle.pp_rules.specs.Sets.{all_calls}
use Rattle.pp_rules.specs.steps.Least.{IsLeast}
use Rattle.pp_rules.specs.steps.Seen.{TakesIn, FailsBehind}
use Rattle.pp_rules.proofs.rules.looking_back.first_looking_back.Given as goal

-- the calls of the first kept ones are taken in, and the rule fails at none of them
abbrev pub invariant-loop-i : goal.invariant-loop-i
invariant-loop-i l =
    TakesIn l.rule l.seen (all_calls (take l.i l.calls) (take l.i l.sets))
    × IsLeast (FailsBehind l.rule [] (all_calls (take l.i l.calls) (take l.i l.sets))) none
