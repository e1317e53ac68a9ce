use Rattle.std.proofs.Common.{◌≡◌, take}
use Rattle.pp_lower.proofs.copies.copy_of_hosts.Given as goal

abbrev pub invariant-loop-host : goal.invariant-loop-host
invariant-loop-host l = l.list.items ≡ take l.host-index l.hosts
