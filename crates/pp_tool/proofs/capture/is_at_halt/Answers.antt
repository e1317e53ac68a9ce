-- The record is the halt, and nothing follows it.
use Rattle.std.proofs.Common.{◌≡◌, length, false, true, sym, ◌∙◌}
use Rattle.pp_capture.specs.Spelling.{Halts}
use Rattle.pp_capture.proofs.CallerLemmas.{capture_halt}
use Rattle.pp_tool.proofs.capture.is_at_halt.Goals as goal

pub returns-else-is_halt : goal.returns-else-is_halt
returns-else-is_halt c = (
  (λ t. absurd (let no : false ≡ true = sym c.if-is_halt.false ∙ t in cc)),
  (λ h. c.is_halt.ensures.1 (c.in-Ok.ensures.only Halts (length c.args.bytes.now) (capture_halt c.args.bytes.now h)).0),
)
