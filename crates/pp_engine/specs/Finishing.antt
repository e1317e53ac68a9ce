-- What `finish` does.
use Rattle.std.specs.Prelude.{◌≡◌, ◌⊎◌, ℕ, zero, suc, Option, Some, None, slice_index}
use Rattle.pp_event.specs.Run.{Config}
use Rattle.pp_event.specs.Told.{Told, Called}
use Rattle.pp_event.specs.Events.{Shown, Answered, Refused}
use Rattle.pp_engine.specs.declared.standing.FinishOutcome.{FinishOutcome}
use Rattle.pp_engine.specs.declared.standing.FinishOutcome.TheVariants as outcome
use Rattle.pp_engine.specs.declared.standing.Stand.{Stand}
use Rattle.pp_engine.specs.declared.standing.Stand.TheVariants as stand
use Rattle.pp_engine.specs.Stood.{Shows}
use Rattle.pp_engine.specs.Parsers.{Same}

-- how the parser stands afterwards, and what it answers
abbrev pub Said : Type 0
Said = Stand × FinishOutcome

-- the host was not asked, and this is said
pub record Quiet {View : Type 0} (old new : Shown View) (said is : Said) : Type 0 where
  pub host : new ≡ old
  pub said_is : said ≡ is

-- what is said by the answer of the rule's host code: 0 lets the input end
abbrev pub by_answer : ℕ → Said
by_answer zero = (stand.Finished, outcome.Done)
by_answer (suc n) = (stand.Refused (suc n), outcome.Refused (suc n))

-- the host answered the rule's question: its code, with value 0, at this place, with these values
pub record IsAnswered {View : Type 0} (allows : View → Told → Type 0) (next : View → Told → View) (c : Config) (code : ℕ) (old new : Shown View) (said : Said) : Type 0 where
  pub number : ℕ
  pub went : Answered allows next old new (Called code 0 c.at c.values number)
  pub said_is : said ≡ by_answer number

-- it refused the question
pub record IsRefusedBy {View : Type 0} (old new : Shown View) (said : Said) : Type 0 where
  pub refused : Refused old new
  pub said_is : said ≡ (stand.Spent, outcome.HostOut)

-- by the value of the rule's property: at 0 the input may end, at 1 the host is asked, and above the input may not end
abbrev pub ByValue : {View : Type 0} → (View → Told → Type 0) → (View → Told → View) → Config → ℕ → Shown View → Shown View → Said → ℕ → Type 0
ByValue allows next c code old new said zero = Quiet old new said (stand.Finished, outcome.Done)
ByValue allows next c code old new said (suc zero) = IsAnswered allows next c code old new said ⊎ IsRefusedBy old new said
ByValue allows next c code old new said (suc (suc n)) = Quiet old new said (stand.Unsafe, outcome.Unsafe c.at)

-- by the finish rule, a property and a host code, if there is one
abbrev pub ByRule : {View : Type 0} → (View → Told → Type 0) → (View → Told → View) → Config → Shown View → Shown View → Said → Option (ℕ × ℕ) → Type 0
ByRule allows next c old new said None = Quiet old new said (stand.Finished, outcome.Done)
ByRule allows next c old new said (Some rule) = ByValue allows next c rule.1 old new said (slice_index c.values rule.0)

-- a finish that goes by the rule; nothing of the parser changes but how it stands
pub record Ruled {View : Type 0} (allows : View → Told → Type 0) (next : View → Told → View) (a b : Shows) (old new : Shown View) (o : FinishOutcome) : Type 0 where
  pub parser : b ≡ record a { stand = b.stand }
  pub said : ByRule allows next a.config old new (b.stand, o) a.program.program.finish

-- by how the parser stood before
abbrev pub IsFinishedAt : {View : Type 0} → (View → Told → Type 0) → (View → Told → View) → Shows → Shows → Shown View → Shown View → FinishOutcome → Stand → Type 0
IsFinishedAt allows next a b old new o stand.Ready = Ruled allows next a b old new o
IsFinishedAt allows next a b old new o stand.Waiting = Ruled allows next a b old new o
IsFinishedAt allows next a b old new o (stand.Paused code onto) = Same a b old new o outcome.StillPaused
IsFinishedAt allows next a b old new o (stand.Failed code) = Same a b old new o outcome.AlreadyFailed
IsFinishedAt allows next a b old new o (stand.Stopped answer) = Same a b old new o outcome.AlreadyFailed
IsFinishedAt allows next a b old new o (stand.Refused answer) = Same a b old new o outcome.AlreadyFailed
IsFinishedAt allows next a b old new o stand.Unsafe = Same a b old new o outcome.AlreadyFailed
IsFinishedAt allows next a b old new o stand.Spent = Same a b old new o outcome.AlreadyFailed
IsFinishedAt allows next a b old new o stand.Finished = Same a b old new o outcome.AlreadyFinished

-- a finish
abbrev pub IsFinished : {View : Type 0} → (View → Told → Type 0) → (View → Told → View) → Shows → Shows → Shown View → Shown View → FinishOutcome → Type 0
IsFinished allows next a b old new o = IsFinishedAt allows next a b old new o a.stand
