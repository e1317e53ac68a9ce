-- What holds of every begun connection behind its Begin record.
use Rattle.std.specs.Prelude.{◌≡◌, true}
use Rattle.pp_event.specs.Loops.{AreBytes}
use Rattle.pp_event.specs.Runs.{script_fits}
use Rattle.pp_trace.specs.Connection.{Connection}
use Rattle.pp_trace.specs.Subject.{Subject}

-- its run is that of its string and its resumes, its answers are 32-bit numbers, and its string has bytes
pub record Coherent (subject : Subject) (c : Connection) : Type 0 where
  pub run : c.run ≡ subject.run c.values c.script c.bytes c.resumes
  pub answers : script_fits c.script ≡ true
  pub bytes : AreBytes c.bytes
