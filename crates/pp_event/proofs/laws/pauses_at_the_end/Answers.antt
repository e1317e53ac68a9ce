use Rattle.std.proofs.Common.{refl}
use Rattle.pp_event.specs.Run.{start}
use Rattle.pp_event.proofs.QuietLaws.{quiet_for}
use Rattle.pp_event.proofs.laws.pauses_at_the_end.Goals as goal

pub returns : goal.returns
returns c turn oracle d bytes r quiet h = quiet_for turn quiet oracle h.0 (start d bytes 0) r h.1 refl refl
