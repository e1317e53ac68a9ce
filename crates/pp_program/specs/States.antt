-- What a state of a program does at a configuration, with these bytes left. A branch looks at one byte.
use Rattle.std.specs.Prelude.{ℕ, List, [], ◌∷◌, Option, Some, None, Bool, false, not, length, replicate, slice_get, if◌then◌else◌, unwrap_or, find}
use Rattle.pp_bytes.specs.declared.fold.Fold.{Fold}
use Rattle.pp_bytes.specs.Fold.{folded}
use Rattle.pp_bytes.specs.Ranges.{in_pair, in_ranges}
use Rattle.pp_program.specs.declared.program.Edge.{Edge}
use Rattle.pp_program.specs.declared.program.Rest.{Rest}
use Rattle.pp_program.specs.declared.program.Instr.{Instr}
use Rattle.pp_program.specs.declared.program.Instr.TheVariants.{Branch, Invoke, Consume, SpanOpen, SpanClose, Pause, Fail}
use Rattle.pp_program.specs.declared.program.State.{State}
use Rattle.pp_program.specs.declared.program.Program.{Program}
use Rattle.pp_event.specs.Run.{Config, Turn, Rests, Stops, Fails, Machine, Oracle, RunResult, RunEnds}
use Rattle.pp_event.specs.Turns.{to, effect_turn, consume_turn, open_turn, close_turn}
use Rattle.pp_event.specs.Codes.{answered, effect_of}

-- the rest's edge, which takes the byte that comes first where it is a skip
abbrev pub rest_turn : Config → Rest → Turn
rest_turn c rest = to c rest.target (if rest.skip then 1 else 0) (unwrap_or rest.number 0)

-- an edge, which takes the byte that comes first or looks at it, or the rest's where there is none
abbrev pub edge_turn : Config → Rest → Option Edge → Turn
edge_turn c rest None = rest_turn c rest
edge_turn c rest (Some e) = to c e.target (if e.take then 1 else 0) (unwrap_or e.number 0)

-- the first edge that has a byte
abbrev pub edge_on : ℕ → List Edge → Option Edge
edge_on b edges = find (λ (e : Edge). in_pair b (e.lo, e.hi)) edges

-- a branch that needs no byte: it has no stay, no edge, and a rest that isn't a skip
abbrev pub is_empty_branch : List (ℕ × ℕ) → List Edge → Rest → Bool
is_empty_branch [] [] rest = not rest.skip
is_empty_branch [] (e ∷ edges) rest = false
is_empty_branch (r ∷ stay) edges rest = false

-- Without a byte a branch waits, unless it needs none. A raw byte of its stay is taken, and the state stays. Else the
-- byte, folded, chooses an edge.
abbrev pub branch_turn : Config → Fold → List (ℕ × ℕ) → List Edge → Rest → List ℕ → Turn
branch_turn c fold stay edges rest [] = if is_empty_branch stay edges rest then rest_turn c rest else Rests (record c { carried = 0 })
branch_turn c fold stay edges rest (b ∷ bytes) =
    if in_ranges stay b then to c c.node 1 0 else edge_turn c rest (edge_on (folded fold b) edges)

-- what a state with an instruction does
abbrev pub instr_turn : Instr → Config → List ℕ → Turn
instr_turn (Branch fold stay edges rest) c bytes = branch_turn c fold stay edges rest bytes
instr_turn (Invoke code answers other) c bytes = effect_turn c (answered answers other) (effect_of c.values c.carried code)
instr_turn (Consume prop next) c bytes = consume_turn c bytes prop next
instr_turn (SpanOpen span next) c bytes = open_turn c span next
instr_turn (SpanClose span next) c bytes = close_turn c span next
instr_turn (Pause code reason next) c bytes = Stops code (record c { node = next; carried = 0 })
instr_turn (Fail code reason) c bytes = Fails code

-- a place without a state has no move
abbrev pub state_turn : Option State → Config → List ℕ → Turn
state_turn None c bytes = Fails 0
state_turn (Some s) c bytes = instr_turn s.instr c bytes

-- a program as a machine
abbrev pub program_turn : Program → Machine
program_turn p c bytes = state_turn (slice_get p.states c.node) c bytes

-- the entry at place 0, with these values of the properties, and no span open
abbrev pub program_entry : Program → List ℕ → Config
program_entry p values = record { node = p.entry; at = 0; carried = 0; values = values; spans = replicate (length p.spans) None }

-- the run of the program on the string, which passes so many pauses and ends at the next, has this result
abbrev pub ProgramMeans : Program → List ℕ → List ℕ → Oracle → ℕ → RunResult → Type 0
ProgramMeans p values bytes oracle resumes r = RunEnds (program_turn p) oracle (program_entry p values) bytes resumes r
