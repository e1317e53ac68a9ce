-- What a run of a verified program rests on: each place is there, each number and constant fits, moves that take no byte
-- end within the gap, and the table of open spans goes with every run.
use Rattle.std.specs.Prelude.{◌≡◌, ◌↔◌, ℕ, ◌<◌, ◌≤◌, List, Option, Some, None, Bool, true, false, length, slice_get, slice_index}
use Rattle.std.specs.Int.{bit_at}
use Rattle.pp_rules.specs.Names.{is_reason}
use Rattle.pp_rules.specs.Widths.{greatest}
use Rattle.pp_rules.specs.declared.declaration.PropDecl.{PropDecl}
use Rattle.pp_rules.specs.declared.declaration.HostDecl.{HostDecl}
use Rattle.pp_graph.specs.declared.node.Answer.{Answer}
use Rattle.pp_graph.specs.declared.node.Code.{Code}
use Rattle.pp_graph.specs.declared.node.Code.TheVariants as code
use Rattle.pp_event.specs.Loops.{IsGap}
use Rattle.pp_event.specs.Run.{Config, Turn, Goes, Asks, Rests, Stops, Fails}
use Rattle.pp_event.specs.Turns.{slot}
use Rattle.pp_program.specs.declared.program.Edge.{Edge}
use Rattle.pp_program.specs.declared.program.Rest.{Rest}
use Rattle.pp_program.specs.declared.program.Instr.{Instr}
use Rattle.pp_program.specs.declared.program.Instr.TheVariants.{Branch, Invoke, Consume, SpanOpen, SpanClose, Pause, Fail}
use Rattle.pp_program.specs.declared.program.State.{State}
use Rattle.pp_program.specs.declared.program.Program.{Program}
use Rattle.pp_program.specs.Moves.{program_moves}
use Rattle.pp_program.specs.Spans.{MayStand}
use Rattle.pp_program.specs.Spans as spans
use Rattle.pp_program.specs.States.{program_turn, program_entry}
use Rattle.pp_program.specs.Targets.{is_value_instr}
use Rattle.pp_program.specs.Valid.{Sound, HasRanks, IsInstrAt}

-- the property is there, and can hold the value
pub record CanHold (p : Program) (prop value : ℕ) : Type 0 where
  pub within : prop < length p.props
  pub wide : (d : PropDecl) → slice_get p.props prop ≡ Some d → value ≤ greatest d.width

-- what a code reads, writes and asks is there, and its constants fit
abbrev pub CodeFits : Program → Code → Type 0
CodeFits p (code.Call host) = host < length p.hosts
CodeFits p (code.Store prop) = prop < length p.props
CodeFits p (code.Load prop) = prop < length p.props
CodeFits p (code.Update prop value) = CanHold p prop value
CodeFits p (code.Equal prop value) = CanHold p prop value
CodeFits p (code.And prop value) = CanHold p prop value
CodeFits p (code.Or prop value) = CanHold p prop value
CodeFits p (code.Test prop value) = CanHold p prop value
CodeFits p (code.MulAdd prop base most) = CanHold p prop most

-- where a code stores the number that is carried, its property can hold this one
abbrev pub StoresFit : Program → ℕ → Code → Type 0
StoresFit p number (code.Call host) = Unit {0}
StoresFit p number (code.Store prop) = CanHold p prop number
StoresFit p number (code.Load prop) = Unit {0}
StoresFit p number (code.Update prop value) = Unit {0}
StoresFit p number (code.Equal prop value) = Unit {0}
StoresFit p number (code.And prop value) = Unit {0}
StoresFit p number (code.Or prop value) = Unit {0}
StoresFit p number (code.Test prop value) = Unit {0}
StoresFit p number (code.MulAdd prop base most) = Unit {0}

-- of an invoke
abbrev pub NumberFits : Program → ℕ → Instr → Type 0
NumberFits p number (Branch fold stay edges rest) = Unit {0}
NumberFits p number (Invoke what answers other) = StoresFit p number what
NumberFits p number (Consume prop next) = Unit {0}
NumberFits p number (SpanOpen span next) = Unit {0}
NumberFits p number (SpanClose span next) = Unit {0}
NumberFits p number (Pause code reason next) = Unit {0}
NumberFits p number (Fail code reason) = Unit {0}

-- a number comes to an invoke that uses it, and fits there; no number comes to any other state
abbrev pub Suits : Program → Option ℕ → Instr → Type 0
Suits p None i = is_value_instr p i ≡ false
Suits p (Some number) i = (is_value_instr p i ≡ true) × NumberFits p number i

-- an edge leads to a state, with a number that suits it
pub record Leads (p : Program) (number : Option ℕ) (target : ℕ) : Type 0 where
  pub within : target < length p.states
  pub suits : (s : State) → slice_get p.states target ≡ Some s → Suits p number s.instr

-- edges have bytes, lie in order apart from one another, and lead to states; one that doesn't take its byte has no number
pub record EdgesFit (p : Program) (edges : List Edge) : Type 0 where
  pub few : length edges ≤ 256
  pub some : (i : ℕ) (e : Edge) → slice_get edges i ≡ Some e → e.lo ≤ e.hi
  pub ascend : (i j : ℕ) (e f : Edge) → i < j → slice_get edges i ≡ Some e → slice_get edges j ≡ Some f → e.hi < f.lo
  pub looks : (i : ℕ) (e : Edge) → slice_get edges i ≡ Some e → e.take ≡ false → e.number ≡ None
  pub lead : (i : ℕ) (e : Edge) → slice_get edges i ≡ Some e → Leads p e.number e.target

-- the rest leads to a state; a skip has no number
pub record RestFits (p : Program) (rest : Rest) : Type 0 where
  pub skips : rest.skip ≡ true → rest.number ≡ None
  pub lead : Leads p rest.number rest.target

-- answers lie in order, and lead to states
pub record AnswersFit (p : Program) (answers : List Answer) : Type 0 where
  pub few : length answers ≤ 65535
  pub ascend : (i j : ℕ) (a b : Answer) → i < j → slice_get answers i ≡ Some a → slice_get answers j ≡ Some b → a.number < b.number
  pub lead : (i : ℕ) (a : Answer) → slice_get answers i ≡ Some a → Leads p None a.target

-- what an instruction names is there, and fits
abbrev pub InstrFits : Program → Instr → Type 0
InstrFits p (Branch fold stay edges rest) = EdgesFit p edges × RestFits p rest
InstrFits p (Invoke what answers other) = CodeFits p what × AnswersFit p answers × Leads p None other
InstrFits p (Consume prop next) = (prop < length p.props) × Leads p None next
InstrFits p (SpanOpen span next) = (span < length p.spans) × Leads p None next
InstrFits p (SpanClose span next) = (span < length p.spans) × Leads p None next
InstrFits p (Pause code reason next) = (is_reason reason ≡ true) × Leads p None next
InstrFits p (Fail code reason) = is_reason reason ≡ true

-- so does a state, and the node that it comes from has a name
abbrev pub StateFits : Program → State → Type 0
StateFits p s = (s.origin < length p.names) × InstrFits p s.instr

-- the finish rule's property and host code are there, and the code is asked without a value
abbrev pub FinishFits : Program → Option (ℕ × ℕ) → Type 0
FinishFits p None = Unit {0}
FinishFits p (Some rule) = (rule.0 < length p.props) × (host : HostDecl) × (slice_get p.hosts rule.1 ≡ Some host) × (host.value ≡ false)

-- no list is longer than this
pub record HasLimits (p : Program) : Type 0 where
  pub props : length p.props ≤ 64
  pub hosts : length p.hosts ≤ 64
  pub spans : length p.spans ≤ 32
  pub names : length p.names ≤ 4096
  pub states : length p.states ≤ 65535

-- a span is open where its slot has a start
abbrev pub is_open : Option ℕ → Bool
is_open None = false
is_open (Some from) = true

-- there is a slot for each span, and each span is open or shut as it may be at this state
pub record StandsRight (p : Program) (c : Config) : Type 0 where
  pub slots : length c.spans ≡ length p.spans
  pub each : (span : ℕ) → MayStand p span (is_open (slot c.spans span)) c.node

-- a turn leads on to a configuration, or waits at it
abbrev pub LeadsOnto : Turn → Config → Type 0
LeadsOnto (Goes d k items) e = d ≡ e
LeadsOnto (Asks code value next) e = (answer : ℕ) × (next answer ≡ e)
LeadsOnto (Rests d) e = d ≡ e
LeadsOnto (Stops code d) e = d ≡ e
LeadsOnto (Fails code) e = ⊥

-- Spans stand right at the entry and behind each turn. Where they do, a span is shut where it is opened, open where it is
-- closed, and the mask of a state that isn't an error has exactly the open ones.
pub record KeepsSpans (v : Sound) : Type 0 where
  pub entry : (values : List ℕ) → StandsRight v.program (program_entry v.program values)
  pub kept : (c d : Config) (rest : List ℕ) → StandsRight v.program c → LeadsOnto (program_turn v.program c rest) d → StandsRight v.program d
  pub opens_shut : (c : Config) (span next : ℕ) → StandsRight v.program c → IsInstrAt v.program.states c.node (SpanOpen span next) → slot c.spans span ≡ None
  pub closes_open : (c : Config) (span next : ℕ) → StandsRight v.program c → IsInstrAt v.program.states c.node (SpanClose span next) →
      (from : ℕ) × (slot c.spans span ≡ Some from)
  pub masks : (c : Config) (span : ℕ) → StandsRight v.program c → (spans.Fails (slice_get v.program.states c.node) → ⊥) → c.node < length v.program.states →
      span < 32 → (bit_at (slice_index v.opened c.node) span ≡ 1) ↔ (is_open (slot c.spans span) ≡ true)

-- what a run of a verified program rests on
pub record IsRunnable (v : Sound) : Type 0 where
  pub limits : HasLimits v.program
  pub entry : Leads v.program None v.program.entry
  pub finish : FinishFits v.program v.program.finish
  pub states : (i : ℕ) (s : State) → slice_get v.program.states i ≡ Some s → StateFits v.program s
  pub gap : IsGap (program_moves v.program) v.gap
  pub ranks : HasRanks v.program v.gap
  pub spans : KeepsSpans v
