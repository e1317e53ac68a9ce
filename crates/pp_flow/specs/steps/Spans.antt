-- How the standings of spans are passed on along edges.
use Rattle.std.specs.Prelude.{◌≡◌, ℕ, ◌*◌, ◌+◌, ◌<◌, ◌⊎◌, ◌↔◌, Bool, true, false, List, [], ◌∷◌, ◌++◌, length, slice_index, slice_index_or, slice_set}
use Rattle.pp_flow.specs.declared.moves.Move.{Move}
use Rattle.pp_flow.specs.declared.moves.Act.{Act}
use Rattle.pp_flow.specs.Spans.{leads, MayStand}
use Rattle.pp_flow.specs.steps.Bits.{Has, has_low, has_pair}
use Rattle.pp_flow.specs.steps.Spread.{Grows}

-- the table has exactly the standings that there may be
pub record IsSpanTable (moves : List Move) (acts : List Act) (entry count : ℕ) (words : List ℕ) : Type 0 where
  pub long : length words ≡ count * 4
  pub exact : (node b : ℕ) → b < 64 → Has words node b ↔ MayStand moves acts entry b node

-- the standings of one point were passed on along an edge
pub record PassesOn (act : Act) (from to : ℕ) (old new : List ℕ) : Type 0 where
  pub source : (c : ℕ) → c < 256 → Has new to c → Has old to c ⊎ ((a : ℕ) × (a < 64) × Has old from a × (leads act a ≡ c))
  pub all : (a : ℕ) → a < 64 → Has old from a → Has new to (leads act a)

pub record SpanSteps (act : Act) (from to : ℕ) (old new : List ℕ) (waiting later : List Bool) (stack more : List ℕ) : Type 0 where
  pub changed : Bool
  pub grows : Grows to old new changed
  pub passes : PassesOn act from to old new
  pub rest : (((changed ≡ false) ⊎ (slice_index_or waiting to false ≡ true)) × (later ≡ waiting) × (more ≡ stack)) ⊎ ((changed ≡ true) × (later ≡ slice_set waiting to true) × (more ≡ stack ++ to ∷ []))

-- of each of the first points its mask has exactly the spans that may be open there by the table
pub record TellsMasks (words : List ℕ) (count : ℕ) (masks : List ℕ) : Type 0 where
  pub long : length masks ≡ count
  pub exact : (x s : ℕ) → x < count → s < 32 → has_low (slice_index masks x) s ≡ has_pair words x (s * 2 + 1)
