-- The steps of the reader that add calls and read lines.
use Rattle.std.specs.Prelude.{◌≡◌, ℕ, ◌+◌, ◌*◌, ◌≤◌, ◌<◌, ◌⊎◌, List, [], ◌∷◌, ◌++◌, Bool, true, false, Option, Some, length, map, max}
use Rattle.std.specs.FinSet as set
use Rattle.std.specs.Ordering.{nat_cmp}
use Rattle.pp_bytes.specs.Bytes.{bytes_of}
use Rattle.pp_rules.specs.declared.call.NamedEdge.TheVariants as edge
use Rattle.pp_rules.specs.declared.call.BuilderCall.{BuilderCall}
use Rattle.pp_rules.specs.declared.call.BuilderCall.TheVariants as call
use Rattle.pp_graph.specs.Calls.{MayFollow}
use Rattle.pp_rules.specs.Rules.{IsFirstFault}
use Rattle.pp_text.specs.declared.calls.KeyUse.{KeyUse}
use Rattle.pp_text.specs.declared.calls.KeyUse.TheVariants as key_use
use Rattle.pp_text.specs.declared.fault.TextFault.{TextFault}
use Rattle.pp_text.specs.declared.fault.TextFault.TheVariants as fault
use Rattle.pp_text.specs.declared.reading.RowEnd.{RowEnd}
use Rattle.pp_text.specs.declared.reading.RowEnd.TheVariants as row_end
use Rattle.pp_text.specs.declared.reading.LineEnd.{LineEnd}
use Rattle.pp_text.specs.declared.reading.LineEnd.TheVariants as line_end
use Rattle.pp_text.specs.Tokens.{Token}
use Rattle.pp_text.specs.Keys.{GivesKeys, GiveKeys}
use Rattle.pp_text.specs.Statements.{Statement, IsStatement, statement_calls}
use Rattle.pp_text.specs.Sequence.{Follow}
use Rattle.pp_text.specs.steps.Reading.{count_told}
use Rattle.pp_text.specs.Text.{Told, tell, end_tokens, Leads, RowLeads, RowEnds, TextFrom, WrongFrom, EndlessFrom, LongFrom, limit, line_at}

-- of what is left comes what comes of the whole
pub record SameEnds {A : Type 0} (Left Whole : A → Type 0) : Type 0 where
  pub to : (a : A) → Left a → Whole a
  pub from : (a : A) → Whole a → Left a

-- this comes of a step, and nothing else
abbrev pub IsOnly : {A : Type 0} → (A → Type 0) → A → Type 0
IsOnly Comes one = Comes one × ((other : _) → Comes other → one ≡ other)

-- An answer to whether something can come of a step: true, and this is the one thing that can; or false, and nothing can.
abbrev pub IsAnswer : {A : Type 0} → Bool → A → (A → Type 0) → Type 0
IsAnswer true new Comes = IsOnly Comes new
IsAnswer false new Comes = (other : _) → ¬ (Comes other)

-- the edge of a key: a peek edge takes its first byte
abbrev pub edge_call : KeyUse → List ℕ → List ℕ → BuilderCall
edge_call (key_use.Key number) target key = call.Edge (edge.Key key number) target
edge_call key_use.Peek target [] = call.Edge (edge.Peek 0) target
edge_call key_use.Peek target (byte ∷ key) = call.Edge (edge.Peek byte) target

-- the key of a peek edge is one byte
abbrev pub FitsUse : KeyUse → List ℕ → Type 0
FitsUse (key_use.Key number) key = Unit {0}
FitsUse key_use.Peek key = length key ≡ 1

abbrev pub FitUse : KeyUse → List (List ℕ) → Type 0
FitUse how [] = Unit {0}
FitUse how (key ∷ keys) = FitsUse how key × FitUse how keys

-- a builder takes an edge of this key
abbrev pub TakesEdge : KeyUse → List ℕ → List ℕ → List BuilderCall → List BuilderCall → Type 0
TakesEdge how target key before after = FitsUse how key × MayFollow before (edge_call how target key) × (after ≡ before ++ edge_call how target key ∷ [])

-- a call is told
abbrev pub AddsCall : ℕ → BuilderCall → Told → Told → Type 0
AddsCall line what before after = MayFollow before.calls what × (after ≡ tell line (what ∷ []) before)

-- the edges of these keys are told, in order
abbrev pub AddsKeys : ℕ → KeyUse → List ℕ → List (List ℕ) → Told → Told → Type 0
AddsKeys line how target keys before after =
    FitUse how keys × Follow before.calls (map (edge_call how target) keys) × (after ≡ tell line (map (edge_call how target) keys) before)

-- the edges of the keys that a token gives
abbrev pub AddsToken : ℕ → KeyUse → List ℕ → Token → Told → Told → Type 0
AddsToken line how target token before after = (keys : List (List ℕ)) × GivesKeys token keys × AddsKeys line how target keys before after

-- the edges of the keys that tokens give
abbrev pub AddsTokens : ℕ → KeyUse → List ℕ → List Token → Told → Told → Type 0
AddsTokens line how target tokens before after = (keys : List (List ℕ)) × GiveKeys tokens keys × AddsKeys line how target keys before after

-- the calls of a statement of these tokens
abbrev pub AddsStatement : ℕ → List Token → Told → Told → Type 0
AddsStatement line tokens before after =
    (s : Statement) × IsStatement tokens s × Follow before.calls (statement_calls s) × (after ≡ tell line (statement_calls s) before)

-- the bytes of a set, each as a key
abbrev pub keys_of : set.FinSet nat_cmp → List (List ℕ)
keys_of s = map (λ b. b ∷ []) (bytes_of s)

-- What a row can come to: it leads on, or ends the text.
pub data RowOutcome : Type 0 where
  LeadsTo : (after : Option Told) → RowOutcome
  EndsWith : (told : Told) → RowOutcome

abbrev pub RowIs : ℕ → List ℕ → Option Told → RowOutcome → Type 0
RowIs line row before (LeadsTo after) = RowLeads line row before after
RowIs line row before (EndsWith told) = RowEnds line row before told

-- what the last statement of a row can come to
abbrev pub LastIs : ℕ → List Token → Option Told → RowOutcome → Type 0
LastIs line tokens before (LeadsTo after) = Leads line before tokens after
LastIs line tokens before (EndsWith told) = (tokens ≡ end_tokens) × (before ≡ Some told)

-- an answer to what a row comes to
abbrev pub IsRowAnswer : RowEnd → Option Told → (RowOutcome → Type 0) → Type 0
IsRowAnswer row_end.Leads new Comes = IsOnly Comes (LeadsTo new)
IsRowAnswer row_end.Ends new Comes = (told : Told) × (new ≡ Some told) × IsOnly Comes (EndsWith told)
IsRowAnswer row_end.Wrong new Comes = (other : RowOutcome) → ¬ (Comes other)

-- What lines can come to: the end of a text, a wrong line, no `end`, or one line that is too long.
pub data Verdict : Type 0 where
  Ended : (told : Told) (last : ℕ) (rest : List ℕ) → Verdict
  WrongAt : (wrong : ℕ) → Verdict
  Endless : (last : ℕ) → Verdict
  Long : Verdict

abbrev pub LinesAre : ℕ → ℕ → Option Told → List ℕ → Verdict → Type 0
LinesAre room line before bytes (Ended told last rest) = TextFrom room line before bytes told last rest
LinesAre room line before bytes (WrongAt wrong) = WrongFrom room line before bytes wrong
LinesAre room line before bytes (Endless last) = EndlessFrom room line before bytes last
LinesAre room line before bytes Long = LongFrom room line before bytes

-- the first line leads on, and then the rest decides
pub record GoesOn (room line : ℕ) (before : Option Told) (bytes : List ℕ) (after : Option Told) (rest : List ℕ) : Type 0 where
  pub shorter : length rest < length bytes
  pub within : length bytes ≤ room + length rest
  pub few : count_told after + 256 * length rest ≤ count_told before + 256 * length bytes
  pub same : (left : ℕ) → left + length bytes ≡ room + length rest → SameEnds (LinesAre left (line + 1) after rest) (LinesAre room line before bytes)

-- the first line ends the text
pub record EndsHere (room line : ℕ) (before : Option Told) (bytes : List ℕ) (after : Option Told) (rest : List ℕ) : Type 0 where
  pub told : Told
  pub after_is : after ≡ Some told
  pub shorter : length rest ≤ length bytes
  pub only : IsOnly (LinesAre room line before bytes) (Ended told line rest)

abbrev pub IsLineAnswer : ℕ → ℕ → Option Told → List ℕ → Option Told → LineEnd → Type 0
IsLineAnswer room line before bytes after (line_end.Leads rest) = GoesOn room line before bytes after rest.now
IsLineAnswer room line before bytes after (line_end.Ends rest) = EndsHere room line before bytes after rest.now

-- the fault that lines come to
abbrev pub IsLineFault : (Verdict → Type 0) → TextFault → Type 0
IsLineFault Comes (fault.Syntax line) = IsOnly Comes (WrongAt line) ⊎ ((last : ℕ) × IsOnly Comes (Endless last) × (line ≡ max 1 last))
IsLineFault Comes fault.TooLong = IsOnly Comes Long
IsLineFault Comes (fault.Graph line rule) = ⊥
IsLineFault Comes fault.NoMemory = Unit {0}

-- the lines are a text, whose `end` is at this line, and which takes so many bytes
pub record IsText (bytes : List ℕ) (before after : Option Told) (last used : ℕ) : Type 0 where
  pub told : Told
  pub rest : List ℕ
  pub after_is : after ≡ Some told
  pub used_is : used + length rest ≡ length bytes
  pub only : IsOnly (LinesAre limit 1 before bytes) (Ended told last rest)

-- the fault that the calls of a text come to
abbrev pub IsGraphFault : Told → ℕ → TextFault → Type 0
IsGraphFault told last (fault.Graph line rule) = (call : ℕ) × IsFirstFault told.calls rule call × (line ≡ line_at told last call)
IsGraphFault told last fault.NoMemory = Unit {0}
IsGraphFault told last (fault.Syntax line) = ⊥
IsGraphFault told last fault.TooLong = ⊥
