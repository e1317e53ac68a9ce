use Rattle.pp_text.proofs.SomeReadingLemmas.{reading_some}
use Rattle.pp_text.proofs.laws.some_reading.Goals as goal

pub returns : goal.returns
returns c bytes = reading_some bytes
