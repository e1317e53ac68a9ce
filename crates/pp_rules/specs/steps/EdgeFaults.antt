-- The first calls at which the rules fail that ask for the byte of an edge.
use Rattle.pp_rules.specs.declared.call.BuilderCall.{BuilderCall}
use Rattle.pp_rules.specs.declared.rules.EdgeFaults.{EdgeFaults}
use Rattle.pp_rules.specs.declared.rules.GraphRule.TheVariants.{KeyClash, PrefixGap, KeyNotFolded, TooMany}
use Rattle.pp_rules.specs.Rules.{FailsAt}
use Rattle.pp_rules.specs.steps.Least.{IsLeast}
use Rattle.std.specs.Prelude.{List}

-- each is the first call at which its rule fails
pub record AreEdgeFaults (calls : List BuilderCall) (faults : EdgeFaults) : Type 0 where
  pub clash : IsLeast (FailsAt KeyClash calls) faults.clash
  pub gap : IsLeast (FailsAt PrefixGap calls) faults.gap
  pub not_folded : IsLeast (FailsAt KeyNotFolded calls) faults.not_folded
  pub too_many : IsLeast (FailsAt TooMany calls) faults.too_many
