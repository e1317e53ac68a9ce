-- How a graph is checked.
use Rattle.std.specs.Prelude.{◌≡◌, ◌⊎◌}
use Rattle.pp_graph.specs.Plan.{Plan}
use Rattle.pp_tool.specs.declared.refusal.CheckReason.{CheckReason}
use Rattle.pp_tool.specs.declared.refusal.Refusal.TheVariants as refusal
use Rattle.pp_tool.specs.declared.stop.Stop.{Stop}
use Rattle.pp_tool.specs.declared.stop.Stop.TheVariants as stop
use Rattle.pp_tool.specs.Checks.{FailsFor}

-- the checks of a graph stop so: for a reason why they fail, or for want of memory
abbrev pub IsCheckStop : Plan → Stop → Type 0
IsCheckStop g s = (s ≡ stop.NoMemory) ⊎ ((reason : CheckReason) × (s ≡ stop.Refused (refusal.Check reason)) × FailsFor g reason)
