-- Why a builder gives no graph.
use Rattle.std.specs.Prelude.{List}
use Rattle.pp_rules.specs.declared.call.BuilderCall.{BuilderCall}
use Rattle.pp_graph.specs.declared.fault.GraphFault.{GraphFault}
use Rattle.pp_graph.specs.declared.fault.GraphFault.TheVariants.{Broken, NoMemory}
use Rattle.pp_rules.specs.Rules.{IsFirstFault}

-- a refusal names the first fault, or memory ran out
abbrev pub IsFault : List BuilderCall → GraphFault → Type 0
IsFault calls (Broken rule i) = IsFirstFault calls rule i
IsFault calls NoMemory = Unit {0}
