-- What a record feeds, what is kept of a connection, and what a tracer keeps of all.
use Rattle.std.specs.Prelude.{◌≡◌, ℕ, ◌-◌, ◌<◌, ◌^◌, List, [], Option, Some, None, Bool, false, count_by, drop, length, min, slice_get, slice_index, slice_index_or, slice_range}
use Rattle.pp_capture.specs.Spelling.{Record, Begins, Carries, Resumes, Finishes, Halts}
use Rattle.pp_event.specs.declared.script.ScriptEntry.{ScriptEntry}
use Rattle.pp_event.specs.Run.{Finish, Waiting, Paused, Failed}
use Rattle.pp_event.specs.Turns.{slot}
use Rattle.pp_trace.specs.declared.mode.Mode.{Mode}
use Rattle.pp_trace.specs.declared.mode.Mode.TheVariants.{Joined, Raw}
use Rattle.pp_trace.specs.Connection.{Connection}
use Rattle.pp_trace.specs.Report.{own, stands}
use Rattle.pp_trace.specs.Script.{asks_code, asks_span}
use Rattle.pp_trace.specs.Subject.{Subject}

-- a part is fed while the run waits
abbrev pub fed_part : List ℕ → Finish → Option (List ℕ)
fed_part part Waiting = Some part
fed_part part (Paused code) = None
fed_part part (Failed code) = None

-- the unread bytes are fed where it is paused
abbrev pub fed_unread : List ℕ → Finish → Option (List ℕ)
fed_unread unread Waiting = None
fed_unread unread (Paused code) = Some unread
fed_unread unread (Failed code) = None

-- what a record feeds to a connection that isn't done, if it feeds it
abbrev pub feed_of : Connection → Record → Option (List ℕ)
feed_of c (Begins conn sets script) = Some []
feed_of c (Carries conn part) = fed_part part c.run.finish
feed_of c (Resumes conn) = fed_unread (drop c.run.at c.bytes) c.run.finish
feed_of c (Finishes conn) = None
feed_of c Halts = None

-- a run that ended so can go on
abbrev pub CanGoOn : Finish → Type 0
CanGoOn Waiting = Unit {0}
CanGoOn (Paused code) = Unit {0}
CanGoOn (Failed code) = ⊥

-- the bytes behind the place of a paused run
abbrev pub unread_bytes : Connection → Finish → List ℕ
unread_bytes c Waiting = []
unread_bytes c (Paused code) = drop c.run.at c.bytes
unread_bytes c (Failed code) = []

-- of a span that is open, the bytes from its start to the place
abbrev pub open_part : Connection → Option ℕ → List ℕ
open_part c None = []
open_part c (Some from) = slice_range c.bytes from c.run.at

-- the bytes so far of a span, which are only kept for a joined report
abbrev pub part_kept : Mode → Connection → Option ℕ → List ℕ
part_kept Raw c slot = []
part_kept Joined c slot = open_part c slot

-- a count of questions, which stays at the greatest 64-bit number
abbrev pub count_kept : ℕ → ℕ
count_kept n = min n (2 ^ 64 - 1)

-- What is kept of a begun connection besides its parser, as plain data: its script, how often each code and each span was
-- asked, the unread bytes, the bytes so far of each open span, and whether it is done.
pub record Kept : Type 0 where
  pub script : List ScriptEntry
  pub codes : List ℕ
  pub pieces : List ℕ
  pub unread : List ℕ
  pub joined : List (List ℕ)
  pub done : Bool

-- this is kept of a connection that stands so
pub record IsKeptOf (mode : Mode) (c : Connection) (kept : Kept) : Type 0 where
  pub script_is : kept.script ≡ c.script
  pub codes_are : (code : ℕ) → code < 64 → slice_index kept.codes code ≡ count_kept (count_by (asks_code code) c.asked)
  pub pieces_are : (span : ℕ) → span < 32 → slice_index kept.pieces span ≡ count_kept (count_by (asks_span span) c.asked)
  pub done_is : kept.done ≡ c.done
  pub unread_is : c.done ≡ false → kept.unread ≡ unread_bytes c c.run.finish
  pub joined_is : c.done ≡ false → (span : ℕ) → slice_index_or kept.joined span [] ≡ part_kept mode c (slot c.run.spans span)

-- A tracer has a place for each of 256 connections, by number. `stands_for` says when what it has there stands for a
-- connection.
module _ {Conn : Type 0} (stands_for : Conn → Connection → Type 0) (subject : Subject) (mode : Mode) (limit : ℕ) where
  -- there is something exactly where the connection is begun
  abbrev pub Keeps : Option Conn → Option Connection → Type 0
  Keeps None None = Unit {0}
  Keeps None (Some c) = ⊥
  Keeps (Some conn) None = ⊥
  Keeps (Some conn) (Some c) = stands_for conn c

  -- they stand for these records: each for its connection as its own records leave it
  pub record StandForAll (conns : List (Option Conn)) (list : List Record) : Type 0 where
    pub count : length conns ≡ 256
    pub each : (n : ℕ) (conn : Option Conn) → slice_get conns n ≡ Some conn → Keeps conn (stands subject mode limit (own n list))
