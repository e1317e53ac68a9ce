-- Where a run tells its pauses.
use Rattle.std.specs.Prelude.{◌≡◌, ℕ, List, [], ◌∷◌, ◌++◌}
use Rattle.pp_event.specs.declared.item.Item.{Item}
use Rattle.pp_event.specs.declared.item.Item.TheVariants as item
use Rattle.pp_event.specs.Joined.{besides_pauses}
use Rattle.pp_event.specs.Run.{Config, Turn, Goes, Asks, Rests, Stops, Fails, Machine, Finish, Waiting, Paused, Failed}

-- no pause
abbrev pub IsQuiet : List Item → Type 0
IsQuiet items = besides_pauses items ≡ items

-- a turn tells no pause by itself
abbrev pub QuietTurn : Turn → Type 0
QuietTurn (Goes d k items) = IsQuiet items
QuietTurn (Asks code value next) = Unit {0}
QuietTurn (Rests d) = Unit {0}
QuietTurn (Stops code d) = Unit {0}
QuietTurn (Fails code) = Unit {0}

-- a machine tells no pause but where it pauses
abbrev pub IsQuietMachine : Machine → Type 0
IsQuietMachine turn = (c : Config) (rest : List ℕ) → QuietTurn (turn c rest)

-- no pause, or one at the very end, at the place where the run paused
abbrev pub QuietEnd : Finish → ℕ → List Item → Type 0
QuietEnd Waiting at items = IsQuiet items
QuietEnd (Paused code) at items = (xs : List Item) × IsQuiet xs × (items ≡ xs ++ item.Pause code at ∷ [])
QuietEnd (Failed code) at items = IsQuiet items
