-- The moves of a program, and the programs in which those that take no byte form no cycle.
use Rattle.std.specs.Prelude.{◌≡◌, ◌⊎◌, ℕ, Option, Some, None, slice_get}
use Rattle.std.specs.List.{Any}
use Rattle.pp_graph.specs.declared.node.Answer.{Answer}
use Rattle.pp_program.specs.declared.program.Instr.{Instr}
use Rattle.pp_program.specs.declared.program.Instr.TheVariants.{Branch, Invoke, Consume, SpanOpen, SpanClose, Pause, Fail}
use Rattle.pp_program.specs.declared.program.State.{State}
use Rattle.pp_program.specs.declared.program.Program.{Program}
use Rattle.pp_event.specs.Loops.{Moves, LoopFree}
use Rattle.pp_event.specs.Loops as loops
use Rattle.pp_program.specs.States.{program_turn}

-- an answer edge of an invoke, or its other one, leads to this state
abbrev pub AnswersWith : Instr → ℕ → Type 0
AnswersWith (Branch fold stay edges rest) next = ⊥
AnswersWith (Invoke what answers other) next = (other ≡ next) ⊎ Any (λ (a : Answer). a.target ≡ next) answers
AnswersWith (Consume prop n) next = ⊥
AnswersWith (SpanOpen span n) next = ⊥
AnswersWith (SpanClose span n) next = ⊥
AnswersWith (Pause code reason n) next = ⊥
AnswersWith (Fail code reason) next = ⊥

-- of a state that is there
abbrev pub AnswerEdge : Option State → ℕ → Type 0
AnswerEdge None next = ⊥
AnswerEdge (Some s) next = AnswersWith s.instr next

-- the moves of a program: those of its machine, and all edges of an invoke, whatever its code answers
abbrev pub program_moves : Program → Moves
program_moves p = record { entry = p.entry; turn = program_turn p; edge = λ state next. AnswerEdge (slice_get p.states state) next }

-- the program has no loop
abbrev pub IsLoopFree : Program → Type 0
IsLoopFree p = LoopFree (program_moves p)

-- a state that can be come to with some byte next is on a cycle of free moves there
abbrev pub IsOnCycle : Program → ℕ → Type 0
IsOnCycle p state = (byte : ℕ) × loops.IsOnCycle (program_moves p) byte state
