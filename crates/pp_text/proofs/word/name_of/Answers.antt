use Rattle.pp_text.proofs.WordTextLemmas.{text-of, name-utf8}
use Rattle.pp_text.proofs.word.name_of.Goals as goal

pub returns-then-is_name-clause-only : goal.returns-then-is_name-clause-only
returns-then-is_name-clause-only c = λ name. text-of c.args.bytes.now _ c.from_utf8.result _ c.ok.ensures.value c.from_utf8.ensures.cases (name-utf8 _ name)
