use Rattle.std.proofs.Common.{◌≡◌, drop}
use Rattle.pp_rules.specs.Declarations.{tables_of}
use Rattle.pp_graph.specs.Built.{entry_in}
use Rattle.pp_graph.proofs.build.entry_of.Given as goal

abbrev pub invariant-loop-call : goal.invariant-loop-call
invariant-loop-call l = entry_in (tables_of l.places) (drop l.call-index l.calls) ≡ entry_in (tables_of l.places) l.calls
