use Rattle.pp_clean.proofs.SkipLaws.{skipped_keeps}
use Rattle.pp_clean.proofs.laws.skipping_keeps.Goals as goal

pub returns : goal.returns
returns c p numberless = skipped_keeps p numberless
