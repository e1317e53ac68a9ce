-- A program whose edges are merged.
use Rattle.std.specs.Prelude.{suc, ℕ, ◌≤◌, List, [], ◌∷◌, map}
use Rattle.pp_program.specs.declared.program.Edge.{Edge}
use Rattle.pp_program.specs.declared.program.Instr.{Instr}
use Rattle.pp_program.specs.declared.program.Instr.TheVariants.{Branch, Invoke, Consume, SpanOpen, SpanClose, Pause, Fail}
use Rattle.pp_program.specs.declared.program.State.{State}
use Rattle.pp_program.specs.declared.program.Program.{Program}
use Rattle.pp_program.specs.Merge.{merged}

-- an instruction with its edges merged
abbrev pub merged_instr : Instr → Instr
merged_instr (Branch fold stay edges rest) = Branch fold stay (merged edges) rest
merged_instr (Invoke code answers other) = Invoke code answers other
merged_instr (Consume prop next) = Consume prop next
merged_instr (SpanOpen span next) = SpanOpen span next
merged_instr (SpanClose span next) = SpanClose span next
merged_instr (Pause code reason next) = Pause code reason next
merged_instr (Fail code reason) = Fail code reason

-- such a state
abbrev pub merged_state : State → State
merged_state s = record s { instr = merged_instr s.instr }

-- and such a program
abbrev pub merged_program : Program → Program
merged_program p = record p { states = map merged_state p.states }

-- each edge is on some bytes, from n on, and the next one on bytes above
abbrev pub Ascend : ℕ → List Edge → Type 0
Ascend n [] = Unit {0}
Ascend n (e ∷ edges) = (n ≤ e.lo) × (e.lo ≤ e.hi) × Ascend (suc e.hi) edges

-- this holds of the edges of a branch
abbrev pub EdgesAre : (List Edge → Type 0) → Instr → Type 0
EdgesAre P (Branch fold stay edges rest) = P edges
EdgesAre P (Invoke code answers other) = Unit {0}
EdgesAre P (Consume prop next) = Unit {0}
EdgesAre P (SpanOpen span next) = Unit {0}
EdgesAre P (SpanClose span next) = Unit {0}
EdgesAre P (Pause code reason next) = Unit {0}
EdgesAre P (Fail code reason) = Unit {0}
