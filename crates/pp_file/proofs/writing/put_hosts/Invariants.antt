-- What is written so far and what is left give the whole.
use Rattle.std.proofs.Common.{◌≡◌, ◌++◌, drop, flat_map}
use Rattle.pp_file.specs.Spelling.{spelled_host}
use Rattle.pp_file.proofs.writing.put_hosts.Given as goal

abbrev pub invariant-loop-i : goal.invariant-loop-i
invariant-loop-i l = l.out.items ++ flat_map spelled_host (drop l.i l.program.program.hosts) ≡ l.fn.out.items ++ flat_map spelled_host l.program.program.hosts
