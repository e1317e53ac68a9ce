use Rattle.std.proofs.lemmas.List.{take-replicate}
use Rattle.std.proofs.Common.{ℕ}
use Rattle.pp_event.proofs.props.Props.zeros.Goals as goal

pub returns : goal.returns
returns c = take-replicate {X = ℕ} c.args.count 64 0 c.requires
