use Rattle.std.proofs.Common.{ℕ, subst, length, zero-add}
use Rattle.pp_event.specs.Places.{LiesIn}
use Rattle.pp_event.proofs.PlaceLaws.{lies}
use Rattle.pp_program.specs.States.{program_turn, program_entry}
use Rattle.pp_program.proofs.StateTurns.{program-steady, program-placed, program-orderly, entry-behind}
use Rattle.pp_program.proofs.laws.lies_in_its_string.Goals as goal

pub returns : goal.returns
returns c p values bytes oracle resumes r h =
    subst (λ (n : ℕ). LiesIn 0 n r.last) (zero-add (length bytes))
    (lies (program_turn p) (program-steady p) (program-placed p) (program-orderly p) oracle (program_entry p values) bytes resumes r (entry-behind p values) h)
