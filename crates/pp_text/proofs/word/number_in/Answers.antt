use Rattle.pp_text.proofs.WordTextLemmas.{word-only}
use Rattle.pp_text.proofs.word.number_in.Goals as goal

pub returns-in-Word-clause-only : goal.returns-in-Word-clause-only
returns-in-Word-clause-only c = word-only c.args.token.now c.in-Word.bytes c.read_number.result c.in-Word.is c.read_number.ensures.some c.read_number.ensures.none
