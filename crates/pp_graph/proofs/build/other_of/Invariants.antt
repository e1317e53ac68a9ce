use Rattle.std.proofs.Common.{◌≡◌, drop}
use Rattle.pp_rules.specs.Declarations.{tables_of}
use Rattle.pp_graph.specs.Built.{other_in}
use Rattle.pp_graph.proofs.build.other_of.Given as goal

abbrev pub invariant-loop-call : goal.invariant-loop-call
invariant-loop-call l = other_in (tables_of l.places) (drop l.call-index l.own) ≡ other_in (tables_of l.places) l.own
