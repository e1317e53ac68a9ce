use Rattle.std.proofs.Common.{◌≡◌, drop}
use Rattle.pp_rules.specs.Declarations.{tables_of}
use Rattle.pp_graph.specs.Built.{finish_in}
use Rattle.pp_graph.proofs.build.finish_of.Given as goal

abbrev pub invariant-loop-call : goal.invariant-loop-call
invariant-loop-call l = finish_in (tables_of l.places) (drop l.call-index l.calls) ≡ finish_in (tables_of l.places) l.calls
