-- What the calls of a parser do.
use Rattle.std.specs.Prelude.{◌≡◌, ℕ, ◌+◌, List, [], Result, Ok, Err}
use Rattle.pp_event.specs.Told.{Told}
use Rattle.pp_event.specs.Events.{Shown}
use Rattle.pp_event.specs.Run.{Config}
use Rattle.pp_program.specs.States.{program_entry}
use Rattle.pp_program.specs.Valid.{Sound}
use Rattle.pp_engine.specs.declared.standing.NotPaused.{NotPaused}
use Rattle.pp_engine.specs.declared.standing.Outcome.{Outcome}
use Rattle.pp_engine.specs.declared.standing.Outcome.TheVariants as outcome
use Rattle.pp_engine.specs.declared.standing.Stand.{Stand}
use Rattle.pp_engine.specs.declared.standing.Stand.TheVariants as stand
use Rattle.pp_engine.specs.declared.run.Ended.{Ended}
use Rattle.pp_engine.specs.declared.run.Ended.TheVariants as ended
use Rattle.pp_engine.specs.Feeds.{Fed, resumed}
use Rattle.pp_engine.specs.Stood.{Shows}

-- a new parser: at the entry, with these values
abbrev pub begun : Sound → List ℕ → Shows
begun v values = record { program = v; config = program_entry v.program values; stand = stand.Ready; reason = [] }

-- the call did nothing
pub record Same {View : Type 0} {Answer : Type 0} (a b : Shows) (old new : Shown View) (result was : Answer) : Type 0 where
  pub parser : b ≡ a
  pub host : new ≡ old
  pub answer : result ≡ was

-- How a parser stands behind a run that ended so, the reason that it shows, and the outcome. The run began at c and left d,
-- and the reason before it was `before`.
abbrev pub Tells : Config → Config → List ℕ → Ended → Stand → List ℕ → Outcome → Type 0
Tells c d before ended.Waits s reason o = (s ≡ stand.Waiting) × (reason ≡ before) × (o ≡ outcome.Waits)
Tells c d before (ended.Paused code next why) s reason o =
    (s ≡ stand.Paused code next) × (reason ≡ why.now) × (taken : ℕ) × (c.at + taken ≡ d.at) × (o ≡ outcome.Paused code taken)
Tells c d before (ended.Failed code why) s reason o = (s ≡ stand.Failed code) × (reason ≡ why.now) × (o ≡ outcome.Failed code d.at)
Tells c d before (ended.Stopped answer) s reason o = (s ≡ stand.Stopped answer) × (reason ≡ before) × (o ≡ outcome.Stopped answer d.at)
Tells c d before ended.Out s reason o = (s ≡ stand.Spent) × (reason ≡ before) × (o ≡ outcome.HostOut)

-- a feed that runs
pub record Ran {View : Type 0} (allows : View → Told → Type 0) (next : View → Told → View) (a b : Shows) (w : List ℕ) (old new : Shown View) (fetches : ℕ) (o : Outcome) : Type 0 where
  pub program : b.program ≡ a.program
  pub ended : Ended
  pub fed : Fed allows next a.program.program a.program.gap a.config b.config w old new fetches ended
  pub tells : Tells a.config b.config a.reason ended b.stand b.reason o

-- A feed of w, by how the parser stood before.
abbrev pub IsFedAt : {View : Type 0} → (View → Told → Type 0) → (View → Told → View) → Shows → Shows → List ℕ → Shown View → Shown View → ℕ → Outcome → Stand → Type 0
IsFedAt allows next a b w old new n o stand.Ready = Ran allows next a b w old new n o
IsFedAt allows next a b w old new n o stand.Waiting = Ran allows next a b w old new n o
IsFedAt allows next a b w old new n o (stand.Paused code onto) = Same a b old new o outcome.StillPaused
IsFedAt allows next a b w old new n o (stand.Failed code) = Same a b old new o outcome.AlreadyFailed
IsFedAt allows next a b w old new n o (stand.Stopped answer) = Same a b old new o outcome.AlreadyFailed
IsFedAt allows next a b w old new n o (stand.Refused answer) = Same a b old new o outcome.AlreadyFailed
IsFedAt allows next a b w old new n o stand.Unsafe = Same a b old new o outcome.AlreadyFailed
IsFedAt allows next a b w old new n o stand.Spent = Same a b old new o outcome.AlreadyFailed
IsFedAt allows next a b w old new n o stand.Finished = Same a b old new o outcome.AlreadyFinished

-- a feed of w
abbrev pub IsFed : {View : Type 0} → (View → Told → Type 0) → (View → Told → View) → Shows → Shows → List ℕ → Shown View → Shown View → ℕ → Outcome → Type 0
IsFed allows next a b w old new n o = IsFedAt allows next a b w old new n o a.stand

-- it was not paused, and nothing changed
pub record StaysAs (a b : Shows) (result : Result (Unit {0}) NotPaused) : Type 0 where
  pub parser : b ≡ a
  pub answer : (u : NotPaused) × (result ≡ Err u)

-- A resume, by how the parser stood before: the move of the pause, or nothing.
abbrev pub IsResumedAt : Shows → Shows → Result (Unit {0}) NotPaused → Stand → Type 0
IsResumedAt a b result (stand.Paused code onto) = (b ≡ record a { config = resumed a.config onto; stand = stand.Ready }) × (result ≡ Ok tt)
IsResumedAt a b result stand.Ready = StaysAs a b result
IsResumedAt a b result stand.Waiting = StaysAs a b result
IsResumedAt a b result (stand.Failed code) = StaysAs a b result
IsResumedAt a b result (stand.Stopped answer) = StaysAs a b result
IsResumedAt a b result (stand.Refused answer) = StaysAs a b result
IsResumedAt a b result stand.Unsafe = StaysAs a b result
IsResumedAt a b result stand.Spent = StaysAs a b result
IsResumedAt a b result stand.Finished = StaysAs a b result

-- a resume
abbrev pub IsResumed : Shows → Shows → Result (Unit {0}) NotPaused → Type 0
IsResumed a b result = IsResumedAt a b result a.stand
