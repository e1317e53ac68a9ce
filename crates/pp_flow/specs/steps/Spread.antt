-- How a table of pairs grows at one point.
use Rattle.std.specs.Prelude.{◌≡◌, ◌≢◌, ℕ, ◌<◌, ◌≤◌, Bool, true, false, List, [], ◌∷◌, ◌++◌, length, ◌⊎◌, IsTrue, slice_index_or, slice_set}
use Rattle.pp_flow.specs.declared.moves.Move.{Move}
use Rattle.pp_flow.specs.steps.Bits.{has_pair, Has}

-- pairs of one point were added, and changed says whether any was
pub record Grows (to : ℕ) (old new : List ℕ) (changed : Bool) : Type 0 where
  pub long : length new ≡ length old
  pub keeps : (x b : ℕ) → b < 256 → Has old x b → Has new x b
  pub others : (x b : ℕ) → b < 256 → x ≢ to → Has new x b → Has old x b
  pub same : changed ≡ false → (x b : ℕ) → b < 256 → Has new x b → Has old x b
  pub more : changed ≡ true → (b : ℕ) × (b < 256) × Has new to b × (has_pair old to b ≡ false)

-- what a move leads to was added at its end
pub record Spreads (m : Move) (old new : List ℕ) : Type 0 where
  pub source : (b : ℕ) → b < 256 → Has new m.to b → Has old m.to b ⊎ ((IsTrue m.free × (m.lo ≤ b) × (b ≤ m.hi) × Has old m.from b) ⊎ (IsTrue m.onward × (a : ℕ) × (a < 256) × (m.lo ≤ a) × (a ≤ m.hi) × Has old m.from a))
  pub free : IsTrue m.free → (b : ℕ) → m.lo ≤ b → b ≤ m.hi → Has old m.from b → Has new m.to b
  pub onward : IsTrue m.onward → (a : ℕ) → m.lo ≤ a → a ≤ m.hi → Has old m.from a → (b : ℕ) → b < 256 → Has new m.to b

-- Pairs spread along a move. Its end is told to wait where any was added there and it did not wait yet.
pub record Steps (m : Move) (old new : List ℕ) (waiting later : List Bool) (stack more : List ℕ) : Type 0 where
  pub changed : Bool
  pub grows : Grows m.to old new changed
  pub spreads : Spreads m old new
  pub rest : (((changed ≡ false) ⊎ (slice_index_or waiting m.to false ≡ true)) × (later ≡ waiting) × (more ≡ stack)) ⊎ ((changed ≡ true) × (later ≡ slice_set waiting m.to true) × (more ≡ stack ++ m.to ∷ []))
