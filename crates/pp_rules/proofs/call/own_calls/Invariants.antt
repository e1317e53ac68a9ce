use Rattle.std.proofs.Common.{◌≡◌, ◌++◌, take, drop}
use Rattle.pp_rules.specs.Calls.{own_calls}
use Rattle.pp_rules.proofs.call.own_calls.Given as goal

abbrev pub invariant-loop-i : goal.invariant-loop-i
invariant-loop-i l = own_calls l.after ≡ take l.i l.after ++ own_calls (drop l.i l.after)
