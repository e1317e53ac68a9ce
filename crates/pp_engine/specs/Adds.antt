-- What a feed adds to what a parser stands for.
use Rattle.std.specs.Prelude.{◌≡◌, ℕ, ◌⊎◌, drop, List, [], ◌++◌, ◌≤◌, ◌+◌, length}
use Rattle.std.proofs.Common.{inl, inr}
use Rattle.pp_event.specs.Answers.{by_list}
use Rattle.pp_event.specs.declared.item.Item.{Item}
use Rattle.pp_event.specs.Told.{Told}
use Rattle.pp_event.specs.Events.{Shown}
use Rattle.pp_event.specs.Asked.{answers_of, Went}
use Rattle.pp_event.specs.Growth.{behind_result}
use Rattle.pp_event.specs.Joined.{joined, joined_from, begun_after, none_begun, besides_pauses}
use Rattle.pp_event.specs.Pieces.{pieces}
use Rattle.pp_event.specs.Run.{Config, RunResult, RunEnds}
use Rattle.pp_program.specs.States.{program_turn, ProgramMeans}
use Rattle.pp_program.specs.Valid.{Sound}
use Rattle.pp_engine.specs.declared.standing.Stand.{Stand}
use Rattle.pp_engine.specs.declared.standing.Stand.TheVariants as stand
use Rattle.pp_engine.specs.declared.standing.Outcome.{Outcome}
use Rattle.pp_engine.specs.declared.run.Ended.{Ended}
use Rattle.pp_engine.specs.Feeds.{IsEnded}
use Rattle.pp_engine.specs.Stood.{Shows}
use Rattle.pp_engine.specs.Parsers.{Tells}
use Rattle.pp_engine.specs.Sessions.{Spanned, StandsAt, Stands, Fresh, Resumed, Runs}

-- the items of a parser that is ready
abbrev pub ready_items : (v : Sound) (values s : List ℕ) (log : List Told) (r : ℕ) (left : List ℕ) (d : Config) →
    Fresh v values s log r d left ⊎ Resumed v values s log r d left → List Item
ready_items v values s log r left d (inl f) = []
ready_items v values s log r left d (inr f) = f.before.run.result.last.items

-- the items of the run that a parser stands for, which a feed would go on with
abbrev pub stood_items : (v : Sound) (values s : List ℕ) (log : List Told) (r : ℕ) (left : List ℕ) (d : Config) (st : Stand) →
    StandsAt v values s log r left d st → List Item
stood_items v values s log r left d stand.Ready h = ready_items v values s log r left d h
stood_items v values s log r left d stand.Waiting h = h.0.run.result.last.items
stood_items v values s log r left d (stand.Paused code next) h = []
stood_items v values s log r left d (stand.Failed code) h = []
stood_items v values s log r left d (stand.Stopped answer) h = []
stood_items v values s log r left d (stand.Refused answer) h = []
stood_items v values s log r left d stand.Unsafe h = []
stood_items v values s log r left d stand.Spent h = []
stood_items v values s log r left d stand.Finished h = []

-- A feed of w by a parser that stood for a string, a log and a number of resumes, and afterwards stands for more of the
-- string: the events that its host went by; its own run, and what that asks; and the whole run, which is the one before with
-- the items of this run behind. The pieces of this feed, joined, are its items.
pub record Adds {View : Type 0} (allows : View → Told → Type 0) (next : View → Told → View) (a b : Shows) (w : List ℕ) (old new : Shown View) (o : Outcome)
    (values s : List ℕ) (log : List Told) (r : ℕ) (left more : List ℕ) (before : List Item) : Type 0 where
  pub program : b.program ≡ a.program
  pub events : List Told
  pub went : Went allows next old new events
  pub result : RunResult
  pub ran : RunEnds (program_turn a.program.program) (by_list (answers_of events)) a.config w 0 result
  pub ended : Ended
  pub ended_is : IsEnded a.program.program b.config result (pieces result.last.items a.config.at result w) events old new ended
  pub tells : Tells a.config b.config a.reason ended b.stand b.reason o
  pub whole : ProgramMeans a.program.program values (s ++ more) (by_list (answers_of (log ++ events))) r (behind_result before result)
  pub earlier : joined log ≡ besides_pauses before
  pub joins : joined_from (begun_after none_begun log) (pieces result.last.items a.config.at result w) ≡ besides_pauses result.last.items
  pub spanned : Spanned a.program.program s log left a.config
  pub input : drop a.config.at (s ++ more) ≡ w
  pub place : result.last.config.at ≤ a.config.at + length w
  pub unread : List ℕ
  pub stands : Stands b values (s ++ more) (log ++ events) r unread

-- Whatever a parser stands for, a feed that runs adds to it, where its input begins with the bytes that a pause left.
abbrev pub FeedAdds : {View : Type 0} → (View → Told → Type 0) → (View → Told → View) → Shows → Shows → List ℕ → Shown View → Shown View → Outcome → Type 0
FeedAdds allows next a b w old new o =
    (values s : List ℕ) (log : List Told) (r : ℕ) (left more : List ℕ) → Runs a.stand → w ≡ left ++ more → (h : Stands a values s log r left) →
    Adds allows next a b w old new o values s log r left more (stood_items a.program values s log r left a.config a.stand h)
