-- How many bytes the file of a program has. A text is its length as one byte, and its bytes.
use Rattle.std.specs.Prelude.{ℕ, ◌+◌, ◌*◌, List, Option, Some, None, length, sum_by}
use Rattle.pp_rules.specs.declared.declaration.PropDecl.{PropDecl}
use Rattle.pp_rules.specs.declared.declaration.HostDecl.{HostDecl}
use Rattle.pp_rules.specs.declared.declaration.SpanDecl.{SpanDecl}
use Rattle.pp_graph.specs.declared.node.Answer.{Answer}
use Rattle.pp_graph.specs.declared.node.Code.{Code}
use Rattle.pp_graph.specs.declared.node.Code.TheVariants as code
use Rattle.pp_program.specs.declared.program.Edge.{Edge}
use Rattle.pp_program.specs.declared.program.Rest.{Rest}
use Rattle.pp_program.specs.declared.program.Instr.{Instr}
use Rattle.pp_program.specs.declared.program.Instr.TheVariants.{Branch, Invoke, Consume, SpanOpen, SpanClose, Pause, Fail}
use Rattle.pp_program.specs.declared.program.State.{State}
use Rattle.pp_program.specs.declared.program.Program.{Program}

abbrev pub text_length : List ℕ → ℕ
text_length text = 1 + length text

-- four bytes where there is a number
abbrev pub number_length : Option ℕ → ℕ
number_length None = 0
number_length (Some n) = 4

-- its two bytes, a flag, the target, and the number
abbrev pub edge_length : Edge → ℕ
edge_length e = 5 + number_length e.number

-- a flag, the target, and the number
abbrev pub rest_length : Rest → ℕ
rest_length r = 3 + number_length r.number

-- how many answers there are, each with its number and target, and the other target
abbrev pub answers_length : List Answer → ℕ
answers_length answers = 4 + 6 * length answers

-- the places and constants of a code
abbrev pub code_length : Code → ℕ
code_length (code.Call host) = 1
code_length (code.Store prop) = 1
code_length (code.Load prop) = 1
code_length (code.Update prop value) = 9
code_length (code.Equal prop value) = 9
code_length (code.And prop value) = 9
code_length (code.Or prop value) = 9
code_length (code.Test prop value) = 9
code_length (code.MulAdd prop base most) = 13

-- A branch has its fold, how many ranges its stay has and these, how many edges and these, and the rest. A consume and
-- a span have a place and the next state; a pause has a code, a reason and the next state; an error a code and a reason.
abbrev pub instr_length : Instr → ℕ
instr_length (Branch fold stay edges rest) = 4 + 2 * length stay + sum_by edge_length edges + rest_length rest
instr_length (Invoke what answers other) = code_length what + answers_length answers
instr_length (Consume prop next) = 3
instr_length (SpanOpen span next) = 3
instr_length (SpanClose span next) = 3
instr_length (Pause number reason next) = 6 + text_length reason
instr_length (Fail number reason) = 4 + text_length reason

-- the origin, the kind, and what the state does
abbrev pub state_length : State → ℕ
state_length s = 3 + instr_length s.instr

-- the finish rule, if there is one, has two places
abbrev pub finish_length : Option (ℕ × ℕ) → ℕ
finish_length None = 1
finish_length (Some rule) = 3

-- the mark, the version, the length and the counts, and then all parts
abbrev pub file_length : Program → ℕ
file_length p =
    18 + finish_length p.finish
    + sum_by (λ (d : PropDecl). text_length d.name + 1) p.props
    + sum_by (λ (d : HostDecl). text_length d.name + 1) p.hosts
    + sum_by (λ (d : SpanDecl). text_length d.name) p.spans
    + sum_by text_length p.names
    + sum_by state_length p.states
