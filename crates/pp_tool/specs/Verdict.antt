-- What a command makes of an input: a verdict, built of stages in sequence.
use Rattle.std.specs.Prelude.{◌≡◌, ◌≢◌, ◌⊎◌, ℕ, List, [], Option, Result, Ok, Err, MatchResult}
use Rattle.pp_outside.specs.Sink.{Adds, AddsSome}
use Rattle.pp_tool.specs.declared.refusal.Refusal.{Refusal}
use Rattle.pp_tool.specs.declared.stop.Stop.{Stop}
use Rattle.pp_tool.specs.declared.stop.Stop.TheVariants as stop
use Rattle.pp_tool.specs.declared.status.Status.{Status}
use Rattle.pp_tool.specs.declared.status.Status.TheVariants as status
use Rattle.pp_tool.specs.Answers.{status_of, line_of}

-- What a stage comes to: it hands something on, or it refuses the input, behind lines that stay written.
pub data Outcome (A : Type 0) : Type 0 where
  Gives : A → Outcome A
  Refuses : (why : Refusal) (before : List ℕ) → Outcome A

-- what a whole command comes to: the lines that it writes
abbrev pub Verdict : Type 0
Verdict = Outcome (List ℕ)

-- one stage, then the next on what it hands on; a refusal ends both
abbrev pub Then : {A B C : Type 0} → (A → Outcome B → Type 0) → (B → Outcome C → Type 0) → A → Outcome C → Type 0
Then {A} {B} first next a o = ((b : B) × first a (Gives b) × next b o) ⊎ ((why : Refusal) × (before : List ℕ) × first a (Refuses why before) × (o ≡ Refuses why before))

-- a stage that hands on what it is handed where the fact holds, and else refuses
abbrev pub Test : {A : Type 0} → (A → Type 0) → Refusal → A → Outcome A → Type 0
Test fact refusal a (Gives b) = fact a × (b ≡ a)
Test fact refusal a (Refuses why before) = ¬ (fact a) × (why ≡ refusal) × (before ≡ [])

-- a last stage that refuses nothing and writes these lines
abbrev pub Writes : {A : Type 0} → (A → List ℕ) → A → Verdict → Type 0
Writes lines a (Gives written) = written ≡ lines a
Writes lines a (Refuses why before) = ⊥

-- at most one
abbrev pub AtMostOne : {A : Type 0} → (A → Type 0) → Type 0
AtMostOne Holds = (x y : _) → Holds x → Holds y → x ≡ y

-- At least one: that there is none is absurd. Which one it is, no definition decides.
abbrev pub AtLeastOne : {A : Type 0} → (A → Type 0) → Type 0
AtLeastOne Holds = ¬ (¬ ((x : _) × Holds x))

-- this one and no other
abbrev pub IsOnly : {A : Type 0} → (A → Type 0) → A → Type 0
IsOnly Holds one = Holds one × ((other : _) → Holds other → other ≡ one)

-- the status of a verdict
abbrev pub status_by : Verdict → Status
status_by (Gives lines) = status.Ok
status_by (Refuses why before) = status_of why

-- the lines that it writes
abbrev pub lines_by : Verdict → List ℕ
lines_by (Gives lines) = lines
lines_by (Refuses why before) = before

-- its line on the errors sink
abbrev pub line_by : Verdict → List ℕ
line_by (Gives lines) = []
line_by (Refuses why before) = line_of why

-- it asks for a write
abbrev pub HasLines : Verdict → Type 0
HasLines (Gives lines) = Unit {0}
HasLines (Refuses why before) = before ≢ []

-- an answer that comes of no verdict: the outside failed, or memory ran out
abbrev pub IsFault : Status → Type 0
IsFault answer = (answer ≡ status.ReadFault) ⊎ (answer ≡ status.WriteFault) ⊎ (answer ≡ status.NoMemory)

-- What an answer says of an input on which a command decides so: it yields to a read fault and to want of memory; else
-- there is one verdict, and the answer is its status and its lines were written, or, where the output failed, a front of
-- them was.
abbrev pub Concludes : (Verdict → Type 0) → Status → Option (List ℕ) → Option (List ℕ) → Type 0
Concludes Decided answer before after =
    (answer ≡ status.ReadFault) ⊎ (answer ≡ status.NoMemory)
    ⊎ ((v : Verdict) × IsOnly Decided v
    × (((answer ≡ status_by v) × Adds before after (lines_by v)) ⊎ ((answer ≡ status.WriteFault) × HasLines v × AddsSome before after (lines_by v))))

-- what a stage's function ends with early is the one outcome, or a fault
abbrev pub Stops : {B : Type 0} → (Outcome B → Type 0) → Stop → Type 0
Stops Decided (stop.Refused why) = IsOnly Decided (Refuses why [])
Stops Decided stop.ReadFault = Unit {0}
Stops Decided stop.WriteFault = Unit {0}
Stops Decided stop.NoMemory = Unit {0}

-- what it answers is the one outcome, or a fault
abbrev pub Answers : {A B : Type 0} → (Outcome B → Type 0) → (A → B) → Result A Stop → Type 0
Answers Decided value result = MatchResult result (λ a. IsOnly Decided (Gives (value a))) (Stops Decided)

-- And so is what a command did to the output. Before a read fault or want of memory a front of the lines may have been
-- written, whatever the verdict is.
abbrev pub Ends : (Verdict → Type 0) → Result (Unit {0}) Stop → Option (List ℕ) → Option (List ℕ) → Type 0
Ends Decided (Ok done) before after = (lines : List ℕ) × IsOnly Decided (Gives lines) × Adds before after lines
Ends Decided (Err (stop.Refused why)) before after = (lines : List ℕ) × IsOnly Decided (Refuses why lines) × Adds before after lines
Ends Decided (Err stop.ReadFault) before after = (v : Verdict) → Decided v → AddsSome before after (lines_by v)
Ends Decided (Err stop.WriteFault) before after = (v : Verdict) × IsOnly Decided v × HasLines v × AddsSome before after (lines_by v)
Ends Decided (Err stop.NoMemory) before after = (v : Verdict) → Decided v → AddsSome before after (lines_by v)
