-- What bytes are to the files of programs: which program they begin with, and why they begin with none.
use Rattle.std.specs.Prelude.{◌≡◌, ◌≢◌, ℕ, ◌<◌, ◌≤◌, ◌⊎◌, Option, Some, List, length, take, slice_get, slice_range, ◌==◌, if◌then◌else◌, Result, Ok, Err}
use Rattle.std.specs.Int.{w32, from_be_bytes}
use Rattle.pp_program.specs.declared.fault.VerifyRule.{VerifyRule}
use Rattle.pp_program.specs.declared.program.Program.{Program}
use Rattle.pp_program.specs.Targets.{most_file_bytes}
use Rattle.pp_program.specs.Valid.{IsBroken, Sound}
use Rattle.pp_file.specs.declared.fault.FileFault.{FileFault}
use Rattle.pp_file.specs.declared.fault.FileFault.TheVariants.{Magic, Version, Short, Form, Verify, NoMemory}
use Rattle.pp_file.specs.Spelling.{Spells, mark, version}
use Rattle.pp_file.specs.Fields.{Left, Next, ◌>>=◌, place}
use Rattle.pp_file.specs.Parts.{parts_at}

-- The first bytes are the file of the program, which has this length. Bytes may follow it.
pub record BeginWith (bytes : List ℕ) (p : Program) (len : ℕ) : Type 0 where
  pub within : len ≤ length bytes
  pub front : Spells (take len bytes) p

-- the least length of a file
abbrev pub least_file_bytes : ℕ
least_file_bytes = 19

-- the first four bytes are the mark, as far as there are bytes
abbrev pub HasMark : List ℕ → Type 0
HasMark bytes = take 4 bytes ≡ take (length bytes) mark

-- there is another version
abbrev pub HasOther : List ℕ → ℕ → Type 0
HasOther bytes found = (slice_get bytes 4 ≡ Some found) × (found ≢ version)

-- the mark and the version are right, as far as there are bytes
pub record IsFile (bytes : List ℕ) : Type 0 where
  pub marked : HasMark bytes
  pub known : (found : ℕ) → HasOther bytes found → ⊥

-- the length that the bytes state
abbrev pub stated : List ℕ → ℕ
stated bytes = from_be_bytes w32 (slice_range bytes 5 9)

-- the bytes state a length that no file has
pub record IsMisstated (bytes : List ℕ) : Type 0 where
  pub there : 9 ≤ length bytes
  pub outside : (stated bytes < least_file_bytes) ⊎ (most_file_bytes < stated bytes)

-- The bytes end before the length, or before as many bytes as they state.
abbrev pub IsShort : List ℕ → Type 0
IsShort bytes = (length bytes < 9) ⊎ (length bytes < stated bytes)

-- the head is right, and all bytes are there
pub record IsWhole (bytes : List ℕ) : Type 0 where
  pub file : IsFile bytes
  pub stated_well : IsMisstated bytes → ⊥
  pub there : IsShort bytes → ⊥

-- All parts. Behind the last field no byte is left over; the first that is is wrong.
unfoldable pub all_at : Left → Result Program ℕ
all_at left = do
  program ← parts_at left
  if length program.1.bytes == 0 then Ok program.0 else Err (place program.1)

-- What the bytes behind the head, up to the stated length, are: a program; or the place of the first field that is wrong.
abbrev pub judged : List ℕ → Result Program ℕ
judged bytes = all_at (record { limit = stated bytes; bytes = slice_range bytes 9 (stated bytes) })

-- Why the bytes begin with no file of a valid program: the first thing that is wrong.
abbrev pub Refuses : List ℕ → FileFault → Type 0
Refuses bytes Magic = HasMark bytes → ⊥
Refuses bytes (Version found) = HasMark bytes × HasOther bytes found
Refuses bytes Short = IsFile bytes × (IsMisstated bytes → ⊥) × IsShort bytes
Refuses bytes (Form offset) =
    (IsFile bytes × IsMisstated bytes × (offset ≡ 5)) ⊎ (IsWhole bytes × (judged bytes ≡ Err offset))
Refuses bytes (Verify rule at) = IsWhole bytes × ((p : Program) × (judged bytes ≡ Ok p) × IsBroken p rule at)
Refuses bytes NoMemory = Unit {0}

-- the answer is the program and its length, unless memory ran out
abbrev pub IsRead : Program → ℕ → Result (Sound × ℕ) FileFault → Type 0
IsRead p len (Ok found) = (found.0.program ≡ p) × (found.1 ≡ len)
IsRead p len (Err fault) = fault ≡ NoMemory

-- the answer is the fault, unless memory ran out
abbrev pub IsRefused : FileFault → Result (Sound × ℕ) FileFault → Type 0
IsRefused fault (Ok found) = ⊥
IsRefused fault (Err answered) = (answered ≡ fault) ⊎ (answered ≡ NoMemory)
