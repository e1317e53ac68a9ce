-- What each reading step says.
use Rattle.std.specs.Prelude.{◌≡◌, ℕ, List, Result, Ok, Err}
use Rattle.pp_file.specs.declared.fault.FileFault.{FileFault}
use Rattle.pp_file.specs.declared.fault.FileFault.TheVariants.{Magic, Version, Short, Form, Verify, NoMemory}
use Rattle.pp_file.specs.Fields.{Left, Next}
use Rattle.pp_program.specs.Valid.{Sound, IsVerified}
use Rattle.pp_file.specs.Reading.{IsWhole, stated, judged, Refuses}

-- the field at the place of the fault is wrong, unless memory ran out
abbrev pub Fails : {Y : Type 0} → FileFault → Result Y ℕ → Type 0
Fails (Form offset) next = next ≡ Err offset
Fails NoMemory next = Unit {0}
Fails Magic next = ⊥
Fails (Version found) next = ⊥
Fails Short next = ⊥
Fails (Verify rule at) next = ⊥

-- What a step returned, and what it left, is what the next fields are.
abbrev pub Gives : {X : Type 0} → Result X FileFault → Left → Next X → Type 0
Gives (Ok x) left next = next ≡ Ok (x, left)
Gives (Err fault) left next = Fails fault next

-- The length that the bytes state, all of which are there
pub record IsHeadOf (bytes : List ℕ) (length : ℕ) : Type 0 where
  pub whole : IsWhole bytes
  pub is_stated : length ≡ stated bytes

-- The answer of reading: the program that the bytes are, or why they are none. Memory runs out behind a head alone.
abbrev pub IsAnswer : List ℕ → Result (Sound × ℕ) FileFault → Type 0
IsAnswer bytes (Ok found) = IsWhole bytes × (judged bytes ≡ Ok found.0.program) × IsVerified found.0 × (found.1 ≡ stated bytes)
IsAnswer bytes (Err fault) = Refuses bytes fault × (fault ≡ NoMemory → IsWhole bytes)
