-- What a feed does: the run that it makes, and what its host is asked.
use Rattle.std.specs.Prelude.{◌≡◌, ℕ, ◌+◌, ◌*◌, ◌<◌, ◌≤◌, ◌⊎◌, List, [], Option, Some, Bool, length, map, max, slice_get, slice_index}
use Rattle.pp_outside.specs.Faults.{Rose}
use Rattle.pp_event.specs.Answers.{by_list}
use Rattle.pp_event.specs.Told.{Told}
use Rattle.pp_event.specs.Events.{Shown}
use Rattle.pp_event.specs.Asked.{Went, answers_of, IsStopped, IsRefused}
use Rattle.pp_event.specs.Loops.{Reaches}
use Rattle.pp_event.specs.Pieces.{AskPiece, parts, pieces, told_ask}
use Rattle.pp_event.specs.Run.{Config, Finish, Waiting, Paused, Failed, RunResult, RunEnds, move, start}
use Rattle.pp_event.specs.Cost.{taking_moves}
use Rattle.pp_program.specs.declared.program.Instr.TheVariants.{Consume, Pause, Fail}
use Rattle.pp_program.specs.declared.program.Program.{Program}
use Rattle.pp_program.specs.Moves.{program_moves}
use Rattle.pp_program.specs.States.{program_turn}
use Rattle.pp_program.specs.Valid.{IsInstrAt}
use Rattle.pp_engine.specs.declared.host.Fired.{Fired}
use Rattle.pp_engine.specs.declared.host.Fired.TheVariants as fired
use Rattle.pp_engine.specs.declared.run.Ended.{Ended}
use Rattle.pp_engine.specs.declared.run.Ended.TheVariants as ended

-- each open span was opened at or before a place
abbrev pub OpenBelow : List (Option ℕ) → ℕ → Type 0
OpenBelow spans at = (i from : ℕ) → slice_get spans i ≡ Some (Some from) → from ≤ at

-- a configuration of a program: its state is there, and it has the program's properties and spans
pub record Fits (p : Program) (d : Config) : Type 0 where
  pub node : d.node < length p.states
  pub values : length d.values ≡ length p.props
  pub spans : length d.spans ≡ length p.spans
  pub open_below : OpenBelow d.spans d.at

-- the state can be come to with every byte next
abbrev pub ReachedAll : Program → ℕ → Type 0
ReachedAll p node = (b : ℕ) → b < 256 → Reaches (program_moves p) b node

-- a consume that waits for bytes, and leads to a state that can be come to
pub record Drains (p : Program) (d : Config) : Type 0 where
  pub prop : ℕ
  pub next : ℕ
  pub instr : IsInstrAt p.states d.node (Consume prop next)
  pub more : 0 < slice_index d.values prop
  pub onward : ReachedAll p next

-- where a run can stand between two feeds
abbrev pub Lies : Program → Config → Type 0
Lies p d = ReachedAll p d.node ⊎ Drains p d

-- a configuration at which a feed can begin
pub record CanStand (p : Program) (d : Config) : Type 0 where
  pub fits : Fits p d
  pub lies : Lies p d

-- the move of a pause
abbrev pub resumed : Config → ℕ → Config
resumed d next = record d { node = next; carried = 0 }

-- the piece of a span that was opened at `from`, up to a place, in a feed of w that begins at o
abbrev pub piece_of : ℕ → List ℕ → ℕ → ℕ → ℕ → Bool → Told
piece_of o w span from at last = told_ask o w (AskPiece span from (max from o) at last)

-- the parts of the open spans up to a place, of which the first slot is that of `span`
abbrev pub parts_of : ℕ → List ℕ → ℕ → ℕ → List (Option ℕ) → List Told
parts_of o w at span spans = map (told_ask o w) (parts o at span spans)

-- of what was due all was asked, or what comes before an answer other than 0 or a refusal
abbrev pub Fires : {View : Type 0} → Shown View → Shown View → List Told → List Told → ℕ → Fired → Type 0
Fires old new due events place fired.All = events ≡ due
Fires old new due events place (fired.Stopped answer) = IsStopped due events answer place
Fires old new due events place fired.Out = IsRefused due events × Rose old.refusals new.refusals

-- a host was given the pieces that were due, or the first of them
pub record Fire {View : Type 0} (allows : View → Told → Type 0) (next : View → Told → View) (old new : Shown View) (due : List Told) (place : ℕ) (f : Fired) : Type 0 where
  pub events : List Told
  pub none : answers_of events ≡ []
  pub went : Went allows next old new events
  pub fires : Fires old new due events place f

-- the run ended so, at d
pub record Comes (d : Config) (r : RunResult) (finish : Finish) : Type 0 where
  pub finish_is : r.finish ≡ finish
  pub config_is : r.last.config ≡ d

-- the place is in the input
pub record Within (c d : Config) (w : List ℕ) : Type 0 where
  pub least : c.at ≤ d.at
  pub most : d.at ≤ c.at + length w

-- How the run of an input, which left d, ended. `due` is what its whole run asks, and `events` what was asked. A run that
-- waits or paused can be gone on with; a pause and an error are those of the state, with its reason.
abbrev pub IsEnded : {View : Type 0} → Program → Config → RunResult → List Told → List Told → Shown View → Shown View → Ended → Type 0
IsEnded p d r due events old new ended.Waits = (events ≡ due) × Comes d r Waiting × CanStand p d
IsEnded p d r due events old new (ended.Paused code next reason) =
    (events ≡ due) × Comes d r (Paused code) × CanStand p (resumed d next) × IsInstrAt p.states d.node (Pause code reason.now next)
IsEnded p d r due events old new (ended.Failed code reason) = (events ≡ due) × Comes d r (Failed code) × IsInstrAt p.states d.node (Fail code reason.now)
IsEnded p d r due events old new (ended.Stopped answer) = IsStopped due events answer d.at
IsEnded p d r due events old new ended.Out = IsRefused due events × Rose old.refusals new.refusals

-- A feed of w from c left d. There is one list of events: the host went by them; the run is that of the answers in them; and
-- they are what this run asks, whole, or up to the piece that stopped it, or up to the question that was refused. It made at
-- least one fetch, and at most (k + 1) * (gap + 1), of which k is how many of its moves took bytes.
pub record Fed {View : Type 0} (allows : View → Told → Type 0) (next : View → Told → View) (p : Program) (gap : ℕ) (c d : Config) (w : List ℕ) (old new : Shown View) (fetches : ℕ) (e : Ended) : Type 0 where
  pub events : List Told
  pub went : Went allows next old new events
  pub result : RunResult
  pub ran : RunEnds (program_turn p) (by_list (answers_of events)) c w 0 result
  pub ended : IsEnded p d result (pieces result.last.items c.at result w) events old new e
  pub within : Within c d w
  pub fits : Fits p d
  pub made : ℕ
  pub least_fetches : 1 ≤ fetches
  pub most_fetches : fetches ≤ (taking_moves (move (program_turn p) (by_list (answers_of events))) made (start c w 0) + 1) * (gap + 1)
