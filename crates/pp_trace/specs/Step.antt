-- What one more record of a connection changes and tells.
use Rattle.std.specs.Prelude.{ℕ, [], ◌∷◌, Bool, true, false, nat_lt, if◌then◌else◌}
use Rattle.pp_capture.specs.Spelling.{Record}
use Rattle.pp_trace.specs.declared.mode.Mode.{Mode}
use Rattle.pp_trace.specs.Connection.{Connection, advanced}
use Rattle.pp_trace.specs.Feed.{Step, closes, fed}
use Rattle.pp_trace.specs.Finishing.{finish_step}
use Rattle.pp_trace.specs.Lines.{OverLine}
use Rattle.pp_trace.specs.Standing.{held}
use Rattle.pp_trace.specs.Subject.{Subject}

-- a connection that holds more bytes than the limit ends
abbrev pub over_step : Mode → ℕ → Step → Step
over_step mode limit s = if nat_lt limit (held mode s.connection) then closes s (OverLine s.connection.run.at ∷ []) else s

-- what only comes where a connection isn't done
abbrev pub unless_done : Bool → (Step → Step) → Step → Step
unless_done true go s = s
unless_done false go s = go s

-- what comes next, where the connection isn't done by now
abbrev pub then_on : (Step → Step) → Step → Step
then_on go s = unless_done s.connection.done go s

-- One more record of a connection: it is fed, then finished where the record says so, then it is seen whether it holds too
-- much, each only where it isn't done by then.
abbrev pub step : Subject → Mode → ℕ → Connection → Record → Step
step subject mode limit c rec =
    let same : Step = record { connection = c; lines = [] } in
    then_on (over_step mode limit)
    (then_on (λ s. finish_step mode subject.finish_rule s rec)
    (then_on (λ s. fed mode c (advanced subject c rec)) same))
