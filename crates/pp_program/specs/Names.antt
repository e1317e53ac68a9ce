-- The names and reasons of a program, and those that are wrong.
use Rattle.std.specs.Prelude.{◌≡◌, ℕ, ◌+◌, List, [], ◌∷◌, ◌++◌, Some, Bool, false, ◌||◌, not, length, map, take, slice_get, bytes_eq, ◌⊎◌, IsTrue}
use Rattle.std.specs.List.{list_any}
use Rattle.pp_rules.specs.Names.{is_name, is_reason}
use Rattle.pp_rules.specs.declared.declaration.PropDecl.{PropDecl}
use Rattle.pp_rules.specs.declared.declaration.HostDecl.{HostDecl}
use Rattle.pp_rules.specs.declared.declaration.SpanDecl.{SpanDecl}
use Rattle.pp_program.specs.declared.program.Instr.{Instr}
use Rattle.pp_program.specs.declared.program.Instr.TheVariants.{Branch, Invoke, Consume, SpanOpen, SpanClose, Pause, Fail}
use Rattle.pp_program.specs.declared.program.State.{State}
use Rattle.pp_program.specs.declared.program.Program.{Program}

-- the name lacks its form, or an earlier one is the same
abbrev pub is_wrong_name : List (List ℕ) → List ℕ → Bool
is_wrong_name before name = not (is_name name) || list_any (λ other. bytes_eq other name) before

-- the name at a place is wrong
abbrev pub NameFails : List (List ℕ) → ℕ → Type 0
NameFails names i = (name : List ℕ) × (slice_get names i ≡ Some name) × IsTrue (is_wrong_name (take i names) name)

-- the reason of a pause or an error
abbrev pub reason_of : Instr → List (List ℕ)
reason_of (Branch fold stay edges rest) = []
reason_of (Invoke what answers other) = []
reason_of (Consume prop next) = []
reason_of (SpanOpen span next) = []
reason_of (SpanClose span next) = []
reason_of (Pause number reason next) = reason ∷ []
reason_of (Fail number reason) = reason ∷ []

-- the reasons of states, in order
abbrev pub reasons_of : List State → List (List ℕ)
reasons_of [] = []
reasons_of (s ∷ states) = reason_of s.instr ++ reasons_of states

-- the reason at a place lacks its form
abbrev pub ReasonFails : List (List ℕ) → ℕ → Type 0
ReasonFails reasons i = (reason : List ℕ) × (slice_get reasons i ≡ Some reason) × (is_reason reason ≡ false)

-- at a place behind so many others
abbrev pub Behind : ℕ → (ℕ → Type 0) → ℕ → Type 0
Behind count P place = (i : ℕ) × (place ≡ count + i) × P i

-- In the list of properties, hosts, spans, names and reasons, the one at a place is wrong.
abbrev pub TextFails : Program → ℕ → Type 0
TextFails p place =
    Behind 0 (NameFails (map (λ (d : PropDecl). d.name) p.props)) place
    ⊎ (Behind (length p.props) (NameFails (map (λ (d : HostDecl). d.name) p.hosts)) place
    ⊎ (Behind (length p.props + length p.hosts) (NameFails (map (λ (d : SpanDecl). d.name) p.spans)) place
    ⊎ (Behind (length p.props + length p.hosts + length p.spans) (NameFails p.names) place
    ⊎ Behind (length p.props + length p.hosts + length p.spans + length p.names) (ReasonFails (reasons_of p.states)) place)))
