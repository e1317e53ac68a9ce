-- Which records can come behind others.
use Rattle.std.specs.Prelude.{◌≡◌, ℕ, ◌<◌, ◌≤◌, List, [], ◌∷◌, ◌++◌, Bool, true, false, ◌==◌, All, length, slice_index}
use Rattle.std.specs.List.{list_any}
use Rattle.pp_capture.specs.Spelling.{Record, Begins, Carries, Resumes, Finishes, Halts}
use Rattle.pp_event.specs.declared.script.ScriptEntry.{ScriptEntry}
use Rattle.pp_event.specs.declared.script.ScriptTo.{ScriptTo}
use Rattle.pp_event.specs.declared.script.ScriptTo.TheVariants.{Code, Span}
use Rattle.pp_trace.specs.Script.{script_of}
use Rattle.pp_trace.specs.Subject.{Subject}

-- a record begins this connection
abbrev pub begins : ℕ → Record → Bool
begins n (Begins conn sets script) = conn == n
begins n (Carries conn part) = false
begins n (Resumes conn) = false
begins n (Finishes conn) = false
begins n Halts = false

-- a connection is begun behind these records
abbrev pub is_begun : ℕ → List Record → Bool
is_begun n list = list_any (begins n) list

-- behind these records: a Begin of a begun connection, or another record of one that isn't begun
abbrev pub IsOutOfOrder : List Record → Record → Type 0
IsOutOfOrder before (Begins conn sets script) = is_begun conn before ≡ true
IsOutOfOrder before (Carries conn part) = is_begun conn before ≡ false
IsOutOfOrder before (Resumes conn) = is_begun conn before ≡ false
IsOutOfOrder before (Finishes conn) = is_begun conn before ≡ false
IsOutOfOrder before Halts = ⊥

-- a set names a property that can hold its value
abbrev pub FitsProperty : Subject → ℕ × ℕ → Type 0
FitsProperty s set = (set.0 < length s.most) × (set.1 ≤ slice_index s.most set.0)

-- an entry names a host code, or a span
abbrev pub NamesAsked : Subject → ScriptTo → Type 0
NamesAsked s (Code host) = host < length s.hosts
NamesAsked s (Span span) = span < length s.spans

-- the sets and the script of a Begin record
abbrev pub HasFittingLists : Subject → Record → Type 0
HasFittingLists s (Begins conn sets script) = All (FitsProperty s) sets × All (λ (e : ScriptEntry). NamesAsked s e.to) (script_of script)
HasFittingLists s (Carries conn part) = Unit {0}
HasFittingLists s (Resumes conn) = Unit {0}
HasFittingLists s (Finishes conn) = Unit {0}
HasFittingLists s Halts = Unit {0}

-- a record that is taken behind these
pub record IsTaken (s : Subject) (before : List Record) (rec : Record) : Type 0 where
  pub order : IsOutOfOrder before rec → ⊥
  pub lists : HasFittingLists s rec

-- each record is taken behind those before it
abbrev pub AreTaken : Subject → List Record → List Record → Type 0
AreTaken s before [] = Unit {0}
AreTaken s before (rec ∷ later) = IsTaken s before rec × AreTaken s (before ++ rec ∷ []) later
