-- The table of the reachable pairs.
use Rattle.std.specs.Prelude.{◌≡◌, ℕ, ◌*◌, ◌<◌, ◌↔◌, List, length}
use Rattle.pp_flow.specs.declared.moves.Move.{Move}
use Rattle.pp_flow.specs.steps.Bits.{Has}
use Rattle.pp_flow.specs.Flow.{IsReachable}

-- the table has exactly the pairs that can be come to
pub record IsReachTable (moves : List Move) (entry count : ℕ) (words : List ℕ) : Type 0 where
  pub long : length words ≡ count * 4
  pub exact : (node b : ℕ) → b < 256 → Has words node b ↔ IsReachable moves entry b node
