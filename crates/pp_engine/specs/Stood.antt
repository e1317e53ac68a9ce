-- What a parser shows.
use Rattle.std.specs.Prelude.{◌≡◌, ℕ, List, Option, Some}
use Rattle.pp_event.specs.Run.{Config}
use Rattle.pp_event.specs.Turns.{slot}
use Rattle.pp_program.specs.declared.program.Program.{Program}
use Rattle.pp_program.specs.Valid.{Sound, IsOriginAt}
use Rattle.pp_engine.specs.declared.standing.Stand.{Stand}
use Rattle.pp_engine.specs.declared.standing.Stand.TheVariants as stand
use Rattle.pp_engine.specs.declared.standing.Standing.{Standing}
use Rattle.pp_engine.specs.declared.standing.Standing.TheVariants as standing
use Rattle.pp_engine.specs.Feeds.{Fits, CanStand, resumed}

-- the span is open, from some place
abbrev pub IsOpen : List (Option ℕ) → ℕ → Type 0
IsOpen spans span = (from : ℕ) × (slot spans span ≡ Some from)

-- a program, where the run stands, how, and the reason of the pause or the error that it met last
pub record Shows : Type 0 where
  pub program : Sound
  pub config : Config
  pub stand : Stand
  pub reason : List ℕ

-- a feed or a resume can go on from here
abbrev pub CanGo : Program → Config → Stand → Type 0
CanGo p d stand.Ready = CanStand p d
CanGo p d stand.Waiting = CanStand p d
CanGo p d (stand.Paused code next) = CanStand p (resumed d next)
CanGo p d (stand.Failed code) = Unit {0}
CanGo p d (stand.Stopped answer) = Unit {0}
CanGo p d (stand.Refused answer) = Unit {0}
CanGo p d stand.Unsafe = Unit {0}
CanGo p d stand.Spent = Unit {0}
CanGo p d stand.Finished = Unit {0}

-- what a parser keeps of itself
pub record IsKept (q : Shows) : Type 0 where
  pub fits : Fits q.program.program q.config
  pub can_go : CanGo q.program.program q.config q.stand

-- the node that the state comes from
abbrev pub ComesFrom : Shows → ℕ → Type 0
ComesFrom q node = IsOriginAt q.program.program.states q.config.node node

-- how a parser says that it stands
abbrev pub SaysStanding : Shows → Stand → Standing → Type 0
SaysStanding q stand.Ready s = s ≡ standing.Ready
SaysStanding q stand.Waiting s = (node : ℕ) × (s ≡ standing.Waiting node) × ComesFrom q node
SaysStanding q (stand.Paused code next) s = (node : ℕ) × (s ≡ standing.Paused node code) × ComesFrom q node
SaysStanding q (stand.Failed code) s = s ≡ standing.Failed code
SaysStanding q (stand.Stopped answer) s = s ≡ standing.Stopped answer
SaysStanding q (stand.Refused answer) s = s ≡ standing.Refused answer
SaysStanding q stand.Unsafe s = s ≡ standing.Unsafe
SaysStanding q stand.Spent s = s ≡ standing.Spent
SaysStanding q stand.Finished s = s ≡ standing.Finished
