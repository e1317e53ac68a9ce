use Rattle.std.proofs.Common.{None, ℕ}
use Rattle.std.specs.Prelude.{Option}
use Rattle.std.proofs.lemmas.List.{take-replicate}
use Rattle.pp_event.proofs.spans.Spans.shut.Goals as goal

pub returns : goal.returns
returns c = take-replicate {X = Option ℕ} c.args.count 32 None c.requires
