use Rattle.pp_clean.proofs.SpanLaws.{finished_spans_fit}
use Rattle.pp_clean.proofs.laws.finishing_keeps_spans.Goals as goal

pub returns : goal.returns
returns c p finishable fits = finished_spans_fit p finishable fits
