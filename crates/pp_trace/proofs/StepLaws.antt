-- What a step leaves of a connection: its values, script, string, resumes and run are those that the record advanced.
use Rattle.std.proofs.Common.{◌≡◌, ℕ, zero, suc, List, Option, Some, None, Bool, true, false, cond, refl, ◌∙◌, []}
use Rattle.std.specs.Prelude.{◌++◌, drop, flat_map, length, nat_lt}
use Rattle.pp_event.specs.Pieces.{asks}
use Rattle.pp_capture.specs.Spelling.{Record, Begins, Carries, Resumes, Finishes, Halts}
use Rattle.pp_event.specs.declared.item.Item.{Item}
use Rattle.pp_event.specs.Run.{Finish, Waiting, Paused, Failed}
use Rattle.pp_event.specs.declared.script.ScriptEntry.{ScriptEntry}
use Rattle.pp_trace.specs.declared.mode.Mode.{Mode}
use Rattle.pp_trace.specs.Connection.{Connection, advanced}
use Rattle.pp_trace.specs.Feed.{Step, tells, error_end, feed_end, fed, ask_lines}
use Rattle.pp_trace.specs.Finishing.{finish_answered, finish_at, finish_by, finished, finish_step}
use Rattle.pp_trace.specs.Heard.{heard}
use Rattle.pp_trace.specs.Standing.{held}
use Rattle.pp_trace.specs.Step.{over_step, unless_done, then_on, step}
use Rattle.pp_trace.specs.Subject.{Subject, Seen}

-- what runs of a connection rest on, and its run
pub record Core : Type 0 where
  pub values : List ℕ
  pub script : List ScriptEntry
  pub bytes : List ℕ
  pub resumes : ℕ
  pub run : Seen

-- of a connection
abbrev pub core : Connection → Core
core c = record { values = c.values; script = c.script; bytes = c.bytes; resumes = c.resumes; run = c.run }

error_end-core : (finish : Finish) (s : Step) → core (error_end finish s).connection ≡ core s.connection
error_end-core Waiting s = refl
error_end-core (Paused code) s = refl
error_end-core (Failed code) s = refl

feed_end-core : (news : List Item) (stop : Option (ℕ × ℕ)) (s : Step) → core (feed_end news stop s).connection ≡ core s.connection
feed_end-core news (Some stop) s = refl
feed_end-core news None s = error_end-core s.connection.run.finish (tells s _)

fed-core : (mode : Mode) (c d : Connection) → core (fed mode c d).connection ≡ core d
fed-core mode c d =
    let new = drop (length c.run.items) d.run.items in
    let h = heard c.script c.asked (asks new c.run.at d.run.finish d.run.at d.run.spans) in
    feed_end-core new h.stop (record { connection = record d { asked = c.asked ++ h.asks }; lines = flat_map (ask_lines mode d.bytes) h.asks })

finish_answered-core : (mode : Mode) (s : Step) (a : ℕ) → core (finish_answered mode s a).connection ≡ core s.connection
finish_answered-core mode s zero = refl
finish_answered-core mode s (suc n) = refl

finish_at-core : (mode : Mode) (s : Step) (host value : ℕ) → core (finish_at mode s host value).connection ≡ core s.connection
finish_at-core mode s host zero = refl
finish_at-core mode s host (suc zero) = finish_answered-core mode _ _
finish_at-core mode s host (suc (suc n)) = refl

finish_by-core : (mode : Mode) (s : Step) (rule : Option (ℕ × ℕ)) → core (finish_by mode s rule).connection ≡ core s.connection
finish_by-core mode s None = refl
finish_by-core mode s (Some rule) = finish_at-core mode s rule.1 _

finished-core : (mode : Mode) (rule : Option (ℕ × ℕ)) (s : Step) (finish : Finish) → core (finished mode rule s finish).connection ≡ core s.connection
finished-core mode rule s Waiting = finish_by-core mode s rule
finished-core mode rule s (Paused code) = refl
finished-core mode rule s (Failed code) = refl

finish_step-core : (mode : Mode) (rule : Option (ℕ × ℕ)) (s : Step) (rec : Record) → core (finish_step mode rule s rec).connection ≡ core s.connection
finish_step-core mode rule s (Begins conn sets script) = refl
finish_step-core mode rule s (Carries conn part) = refl
finish_step-core mode rule s (Resumes conn) = refl
finish_step-core mode rule s (Finishes conn) = finished-core mode rule s s.connection.run.finish
finish_step-core mode rule s Halts = refl

if-core : (b : Bool) (s t : Step) → core t.connection ≡ core s.connection → core (cond b t s).connection ≡ core s.connection
if-core true s t h = h
if-core false s t h = refl

over_step-core : (mode : Mode) (limit : ℕ) (s : Step) → core (over_step mode limit s).connection ≡ core s.connection
over_step-core mode limit s = if-core (nat_lt limit (held mode s.connection)) s _ refl

unless_done-core : (b : Bool) (go : Step → Step) (s : Step) → core (go s).connection ≡ core s.connection → core (unless_done b go s).connection ≡ core s.connection
unless_done-core true go s h = refl
unless_done-core false go s h = h

-- the connection that a record advances, or the same one where it is done
abbrev pub moved : Subject → Connection → Record → Bool → Connection
moved subject c rec true = c
moved subject c rec false = advanced subject c rec

module _ (subject : Subject) (mode : Mode) (limit : ℕ) where
  first-core : (c : Connection) (rec : Record) (b : Bool) →
      core (unless_done b (λ s. fed mode c (advanced subject c rec)) (record { connection = c; lines = [] })).connection ≡ core (moved subject c rec b)
  first-core c rec true = refl
  first-core c rec false = fed-core mode c (advanced subject c rec)

  -- whatever its end, a step leaves these as the record advanced them
  pub step-core : (c : Connection) (rec : Record) → core (step subject mode limit c rec).connection ≡ core (moved subject c rec c.done)
  step-core c rec =
      let first : Step = then_on (λ s. fed mode c (advanced subject c rec)) (record { connection = c; lines = [] }) in
      let second : Step = then_on (λ s. finish_step mode subject.finish_rule s rec) first in
      unless_done-core second.connection.done (over_step mode limit) second (over_step-core mode limit second)
      ∙ unless_done-core first.connection.done (λ s. finish_step mode subject.finish_rule s rec) first (finish_step-core mode subject.finish_rule first rec)
      ∙ first-core c rec c.done
