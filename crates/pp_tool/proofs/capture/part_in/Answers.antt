-- Where another record, or none, begins the bytes, this one does not.
use Rattle.pp_capture.specs.Spelling.{Carries}
use Rattle.pp_tool.proofs.capture.part_in.Goals as goal

pub returns-in_default-clause-none : goal.returns-in_default-clause-none
returns-in_default-clause-none c part len h = absurd (c.in_default.ensures.only (Carries 0 part) len h)

pub returns-in_err-part-clause-none : goal.returns-in_err-part-clause-none
returns-in_err-part-clause-none c part len h = absurd (c.in_err-part.ensures.none part (c.in-Ok.ensures.only (Carries 0 part) len h).0)
