use Rattle.pp_text.proofs.WordTextLemmas.{text-of, reason-utf8}
use Rattle.pp_text.proofs.word.reason_of.Goals as goal

pub returns-then-is_reason-clause-only : goal.returns-then-is_reason-clause-only
returns-then-is_reason-clause-only c = λ reason. text-of c.args.bytes.now _ c.from_utf8.result _ c.ok.ensures.value c.from_utf8.ensures.cases (reason-utf8 _ reason)
