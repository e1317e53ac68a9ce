-- What is told of the faults of one point.
use Rattle.std.specs.Prelude.{◌≡◌, ℕ, ◌+◌, ◌*◌, ◌<◌, List, Option, Some, None}
use Rattle.pp_flow.specs.declared.faults.SpanFault.{SpanFault}
use Rattle.pp_flow.specs.declared.faults.SpanFault.TheVariants.{Reopened, NotOpen, Mixed}
use Rattle.pp_flow.specs.declared.moves.Act.{Act}
use Rattle.pp_flow.specs.Faults.{HasNoFault, IsFirstAt}

-- what is told of one point
abbrev pub IsToldAt : (ℕ → ℕ → Type 0) → List Act → ℕ → Option SpanFault → Type 0
IsToldAt stands acts n None = HasNoFault stands acts n
IsToldAt stands acts n (Some fault) = IsFirstAt stands acts n fault

-- the least span that may be open and may be shut at the point
abbrev pub IsMixedFault : (ℕ → ℕ → Type 0) → ℕ → Option SpanFault → Type 0
IsMixedFault stands n None = (t : ℕ) → t < 32 → stands (t * 2 + 1) n → stands (t * 2) n → ⊥
IsMixedFault stands n (Some (Reopened m s)) = ⊥
IsMixedFault stands n (Some (NotOpen m s)) = ⊥
IsMixedFault stands n (Some (Mixed m s)) = (m ≡ n) × (s < 32) × stands (s * 2 + 1) n × stands (s * 2) n × ((t : ℕ) → t < s → stands (t * 2 + 1) n → stands (t * 2) n → ⊥)
