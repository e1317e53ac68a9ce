-- What a parser stands for, over a session of feeds and resumes.
use Rattle.std.specs.Prelude.{◌≡◌, ℕ, ◌≤◌, drop, suc, List, [], ◌++◌, ◌⊎◌, Option, Some, None, length, nat_lt, if◌then◌else◌}
use Rattle.pp_event.specs.Answers.{by_list}
use Rattle.pp_event.specs.declared.item.Item.{Item}
use Rattle.pp_event.specs.Told.{Told}
use Rattle.pp_event.specs.Asked.{answers_of}
use Rattle.pp_event.specs.Joined.{joined, begun_after, none_begun, besides_pauses}
use Rattle.pp_event.specs.Run.{Config, Stops, Finish, Waiting, Paused, Failed, RunResult}
use Rattle.pp_event.specs.Turns.{slot}
use Rattle.pp_program.specs.States.{program_turn, program_entry, ProgramMeans}
use Rattle.pp_program.specs.declared.program.Program.{Program}
use Rattle.pp_program.specs.Runnable.{StandsRight}
use Rattle.pp_program.specs.Valid.{Sound}
use Rattle.pp_engine.specs.declared.standing.Stand.{Stand}
use Rattle.pp_engine.specs.declared.standing.Stand.TheVariants as stand
use Rattle.pp_engine.specs.Feeds.{resumed}
use Rattle.pp_engine.specs.Parted.{parts_after, IsParted}
use Rattle.pp_engine.specs.Stood.{Shows}

-- where a span was opened before this place, and so has a part already
abbrev pub earlier_than : ℕ → Option ℕ → Option ℕ
earlier_than at None = None
earlier_than at (Some from) = if nat_lt from at then Some from else None

-- the first pieces are those of the open spans that have a part before this place
pub record Begun (begun : List (Option ℕ)) (spans : List (Option ℕ)) (at : ℕ) : Type 0 where
  pub long : length begun ≡ 32
  pub each : (s : ℕ) → slot begun s ≡ earlier_than at (slot spans s)

-- The spans are as the log and the program say, and so are their pieces: those of each open span since its last piece are
-- the string's bytes from its start to the place. These bytes of the string are left.
pub record Spanned (p : Program) (s : List ℕ) (log : List Told) (left : List ℕ) (d : Config) : Type 0 where
  pub begun : Begun (begun_after none_begun log) d.spans d.at
  pub right : StandsRight p d
  pub parted : (i : ℕ) → IsParted s (slot d.spans i) d.at (parts_after i [] log)
  pub left_is : drop d.at s ≡ left
  pub within : d.at ≤ length s

-- the run of the string, answered as the log says and passing exactly r pauses; the log, joined, is what it tells
pub record RunOf (v : Sound) (values : List ℕ) (s : List ℕ) (log : List Told) (r : ℕ) (finish : Finish) : Type 0 where
  pub result : RunResult
  pub ran : ProgramMeans v.program values s (by_list (answers_of log)) r result
  pub passed : result.last.resumes ≡ 0
  pub finish_is : result.finish ≡ finish
  pub items : joined log ≡ besides_pauses result.last.items

-- the run ended at what is shown, and can be gone on with
pub record EndsAt (v : Sound) (values : List ℕ) (s : List ℕ) (log : List Told) (r : ℕ) (finish : Finish) (d : Config) : Type 0 where
  pub run : RunOf v values s log r finish
  pub config_is : run.result.last.config ≡ d
  pub spanned : Spanned v.program s log run.result.last.rest d

-- the run ended at what is shown
pub record FailsAt (v : Sound) (values : List ℕ) (s : List ℕ) (log : List Told) (r : ℕ) (finish : Finish) (d : Config) : Type 0 where
  pub run : RunOf v values s log r finish
  pub config_is : run.result.last.config ≡ d

-- the run ended at a pause, which leads to d; these bytes were not taken
pub record PausedBefore (v : Sound) (values : List ℕ) (s : List ℕ) (log : List Told) (r code : ℕ) (d : Config) (left : List ℕ) : Type 0 where
  pub run : RunOf v values s log r (Paused code)
  pub leads : program_turn v.program run.result.last.config run.result.last.rest ≡ Stops code d
  pub left_is : run.result.last.rest ≡ left
  pub spanned : Spanned v.program s log left d

-- the log, joined, is how the run of its answers begins
pub record PrefixOf (v : Sound) (values : List ℕ) (s : List ℕ) (log : List Told) (r : ℕ) : Type 0 where
  pub result : RunResult
  pub ran : ProgramMeans v.program values s (by_list (answers_of log)) r result
  pub more : List Item
  pub items : besides_pauses result.last.items ≡ joined log ++ more

-- nothing was run
pub record Fresh (v : Sound) (values : List ℕ) (s : List ℕ) (log : List Told) (r : ℕ) (d : Config) (left : List ℕ) : Type 0 where
  pub string : s ≡ []
  pub log_is : log ≡ []
  pub resumes : r ≡ 0
  pub config_is : d ≡ program_entry v.program values
  pub left_is : left ≡ []

-- a resume follows a pause
pub record Resumed (v : Sound) (values : List ℕ) (s : List ℕ) (log : List Told) (r : ℕ) (d : Config) (left : List ℕ) : Type 0 where
  pub earlier : ℕ
  pub code : ℕ
  pub resumes : r ≡ suc earlier
  pub before : PausedBefore v values s log earlier code d left

-- by how a parser stands: the run so far, of the whole string; `left` are the bytes that a pause left
abbrev pub StandsAt : Sound → List ℕ → List ℕ → List Told → ℕ → List ℕ → Config → Stand → Type 0
StandsAt v values s log r left d stand.Ready = Fresh v values s log r d left ⊎ Resumed v values s log r d left
StandsAt v values s log r left d stand.Waiting = EndsAt v values s log r Waiting d × (left ≡ [])
StandsAt v values s log r left d (stand.Paused code next) = EndsAt v values s log r (Paused code) d × PausedBefore v values s log r code (resumed d next) left
StandsAt v values s log r left d (stand.Failed code) = FailsAt v values s log r (Failed code) d
StandsAt v values s log r left d (stand.Stopped answer) = PrefixOf v values s log r
StandsAt v values s log r left d (stand.Refused answer) = Unit {0}
StandsAt v values s log r left d stand.Unsafe = Unit {0}
StandsAt v values s log r left d stand.Spent = PrefixOf v values s log r
StandsAt v values s log r left d stand.Finished = Unit {0}

-- A parser made with these values stands for a string, the log of its host, and a number of resumes. `left` are the bytes
-- of the string that a pause left, which the next feed begins with.
abbrev pub Stands : Shows → List ℕ → List ℕ → List Told → ℕ → List ℕ → Type 0
Stands q values s log r left = StandsAt q.program values s log r left q.config q.stand

-- a feed would run
abbrev pub Runs : Stand → Type 0
Runs stand.Ready = Unit {0}
Runs stand.Waiting = Unit {0}
Runs (stand.Paused code next) = ⊥
Runs (stand.Failed code) = ⊥
Runs (stand.Stopped answer) = ⊥
Runs (stand.Refused answer) = ⊥
Runs stand.Unsafe = ⊥
Runs stand.Spent = ⊥
Runs stand.Finished = ⊥

-- a resume of a parser that is paused keeps what it stands for, with one resume more
abbrev pub ResumeKeeps : Shows → Shows → Type 0
ResumeKeeps a b =
    (code next : ℕ) → a.stand ≡ stand.Paused code next →
    (values s : List ℕ) (log : List Told) (r : ℕ) (left : List ℕ) → Stands a values s log r left → Stands b values s log (suc r) left
