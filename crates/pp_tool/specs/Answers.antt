-- The answers of a command: their numbers, their lines on the errors sink, and when one comes.
use Rattle.std.specs.Prelude.{◌≡◌, ℕ, ◌≤◌, ◌⊎◌, List, [], ◌∷◌, ◌++◌, Option, Some, codes, decimal, length, take}
use Rattle.hex.specs.Hex.{encode_lower}
use Rattle.pp_outside.specs.Faults.{Rose}
use Rattle.pp_rules.specs.Rules.Texts.{text_of}
use Rattle.pp_tool.specs.declared.refusal.GraphReason.{GraphReason}
use Rattle.pp_tool.specs.declared.refusal.GraphReason.TheVariants as reason
use Rattle.pp_tool.specs.declared.refusal.CheckReason.{CheckReason}
use Rattle.pp_tool.specs.declared.refusal.CheckReason.TheVariants as check
use Rattle.pp_tool.specs.declared.refusal.Refusal.{Refusal}
use Rattle.pp_tool.specs.declared.refusal.Refusal.TheVariants as refusal
use Rattle.pp_tool.specs.declared.stop.Stop.{Stop}
use Rattle.pp_tool.specs.declared.stop.Stop.TheVariants as stop
use Rattle.pp_tool.specs.declared.words.WordsFault.{WordsFault}
use Rattle.pp_tool.specs.declared.words.WordsFault.TheVariants as words_fault
use Rattle.pp_tool.specs.declared.status.Status.{Status}
use Rattle.pp_tool.specs.declared.status.Status.TheVariants as status

-- the number with which the program ends
abbrev pub number_of : Status → ℕ
number_of status.Ok = 0
number_of status.Words = 2
number_of status.Graph = 3
number_of status.Check = 4
number_of status.Program = 5
number_of status.Capture = 6
number_of status.ReadFault = 7
number_of status.WriteFault = 8
number_of status.NoMemory = 9
number_of status.TooLong = 10

-- the line where the words are no command
abbrev pub words_line : List ℕ
words_line = codes "words: no such command\n"

-- the line of a refused graph text, which tells where and why
abbrev pub graph_line : GraphReason → List ℕ
graph_line reason.LongLine = codes "graph: too long\n"
graph_line (reason.WrongLine line) = codes "graph: line " ++ decimal line ++ codes ": syntax\n"
graph_line (reason.BrokenRule line broken) = codes "graph: line " ++ decimal line ++ codes ": " ++ text_of broken ++ codes "\n"

-- a loop at a node, on a byte
abbrev pub loop_line : List ℕ → ℕ → List ℕ
loop_line node byte = codes "check: loop at " ++ node ++ codes " on byte " ++ encode_lower (byte ∷ []) ++ codes "\n"

-- what is wrong with a span at a node
abbrev pub span_line : List ℕ → List ℕ → List ℕ → List ℕ
span_line span what node = codes "check: span " ++ span ++ what ++ node ++ codes "\n"

-- the line of failed checks
abbrev pub check_line : CheckReason → List ℕ
check_line check.NotYet = codes "check: not yet\n"
check_line (check.Loop node byte) = loop_line node byte
check_line (check.Reopened span node) = span_line span (codes " reopened at ") node
check_line (check.NotOpen span node) = span_line span (codes " not open at ") node
check_line (check.Mixed span node) = span_line span (codes " mixed at ") node

-- the status of a refusal
abbrev pub status_of : Refusal → Status
status_of (refusal.Graph why) = status.Graph
status_of (refusal.Check why) = status.Check
status_of refusal.TooLong = status.TooLong
status_of refusal.Capture = status.Capture

-- the line of a refusal
abbrev pub line_of : Refusal → List ℕ
line_of (refusal.Graph why) = graph_line why
line_of (refusal.Check why) = check_line why
line_of refusal.TooLong = codes "input too long\n"
line_of refusal.Capture = codes "capture: refused\n"

-- the status of an early end
abbrev pub stop_status : Stop → Status
stop_status (stop.Refused why) = status_of why
stop_status stop.ReadFault = status.ReadFault
stop_status stop.WriteFault = status.WriteFault
stop_status stop.NoMemory = status.NoMemory

-- the line of an early end
abbrev pub stop_line : Stop → List ℕ
stop_line (stop.Refused why) = line_of why
stop_line stop.ReadFault = codes "read fault\n"
stop_line stop.WriteFault = codes "write fault\n"
stop_line stop.NoMemory = codes "out of memory\n"

-- the status of a program that has no words
abbrev pub fault_status : WordsFault → Status
fault_status words_fault.NoText = status.Words
fault_status words_fault.NoMemory = status.NoMemory

-- The line on the errors sink, with its LF; none for Ok. Those of a refused graph and of failed checks tell why. No
-- answer is Program, so there is no line for it.
abbrev pub IsErrorLine : Status → List ℕ → Type 0
IsErrorLine status.Ok line = line ≡ []
IsErrorLine status.Words line = line ≡ words_line
IsErrorLine status.Graph line = (why : GraphReason) × (line ≡ graph_line why)
IsErrorLine status.Check line = (why : CheckReason) × (line ≡ check_line why)
IsErrorLine status.Program line = ⊥
IsErrorLine status.Capture line = line ≡ codes "capture: refused\n"
IsErrorLine status.ReadFault line = line ≡ codes "read fault\n"
IsErrorLine status.WriteFault line = line ≡ codes "write fault\n"
IsErrorLine status.NoMemory line = line ≡ codes "out of memory\n"
IsErrorLine status.TooLong line = line ≡ codes "input too long\n"

-- The answer comes exactly where the fact holds. It yields to a read fault and to want of memory: where the
-- fact holds, the answer is this one or one of these two.
pub record ComesWhere (answer this : Status) (fact : Type 0) : Type 0 where
  pub only : answer ≡ this → fact
  pub always : fact → (answer ≡ this) ⊎ (answer ≡ status.ReadFault) ⊎ (answer ≡ status.NoMemory)

-- a sink that tells its bytes holds this line behind what it held, or the front of it where its count rose
abbrev pub Tells : Option (List ℕ) → Option (List ℕ) → ℕ → ℕ → List ℕ → Type 0
Tells before after old new line = (held : List ℕ) → before ≡ Some held →
    (after ≡ Some (held ++ line)) ⊎ (Rose old new × (n : ℕ) × (n ≤ length line) × (after ≡ Some (held ++ take n line)))

-- the sink told what it held before, and then what the input asks for
abbrev pub Adds : (List ℕ → Type 0) → Option (List ℕ) → Option (List ℕ) → Type 0
Adds Asked before after = (held : List ℕ) → before ≡ Some held →
    (asked : List ℕ) × Asked asked × (after ≡ Some (held ++ asked))
