-- Machines that take no turn back when more bytes come, go on where they waited, and keep their place.
use Rattle.std.specs.Prelude.{◌≡◌, ℕ, ◌+◌, ◌≤◌, List, ◌++◌, length}
use Rattle.pp_event.specs.Run.{Config, Turn, Goes, Asks, Rests, Stops, Fails, Machine}

-- with more bytes behind the n bytes that were left, the turn is the same, unless it waited for them
abbrev pub Keeps : ℕ → Turn → Turn → Type 0
Keeps n (Goes d k items) later = (k ≤ n) × (later ≡ Goes d k items)
Keeps n (Asks code value next) later = later ≡ Asks code value next
Keeps n (Rests d) later = Unit {0}
Keeps n (Stops code d) later = later ≡ Stops code d
Keeps n (Fails code) later = later ≡ Fails code

-- more bytes change no turn but one that waits
abbrev pub IsSteady : Machine → Type 0
IsSteady turn = (c : Config) (rest more : List ℕ) → Keeps (length rest) (turn c rest) (turn c (rest ++ more))

-- how a turn at all the bytes follows from the turn at those that came later, where the n bytes before them were
-- waited behind: what waits for bytes takes bytes, or waits on
abbrev pub GoesOn : ℕ → Turn → Turn → Type 0
GoesOn n whole (Goes d k items) = whole ≡ Goes d (n + k) items
GoesOn n whole (Rests d) = whole ≡ Rests d
GoesOn n whole (Asks code value next) = ⊥
GoesOn n whole (Stops code d) = ⊥
GoesOn n whole (Fails code) = ⊥

-- what waited goes on with more bytes as it would have gone on with all of them
abbrev pub IsResumable : Machine → Type 0
IsResumable turn = (c d : Config) (rest more : List ℕ) →
    turn c rest ≡ Rests d → GoesOn (length rest) (turn c (rest ++ more)) (turn d more)

-- the place grows by the bytes that a turn takes, and what waits stands behind all n bytes that were left
abbrev pub Placed : Config → ℕ → Turn → Type 0
Placed c n (Goes d k items) = d.at ≡ c.at + k
Placed c n (Asks code value next) = (answer : ℕ) → (next answer).at ≡ c.at
Placed c n (Rests d) = d.at ≡ c.at + n
Placed c n (Stops code d) = d.at ≡ c.at
Placed c n (Fails code) = Unit {0}

-- each turn keeps the place
abbrev pub IsPlaced : Machine → Type 0
IsPlaced turn = (c : Config) (rest : List ℕ) → Placed c (length rest) (turn c rest)
