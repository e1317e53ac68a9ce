use Rattle.std.proofs.Common.{ap, arith, rules, codes}
use Rattle.std.proofs.lemmas.Slice.Eq.{text_from_reads}
use Rattle.pp_text.specs.Tokens.{Word}
use Rattle.pp_text.proofs.node.constant_of.Goals as goal

pub returns-in-update-clause-found : goal.returns-in-update-clause-found
returns-in-update-clause-found c = ap Word (text_from_reads c.args.word.now (codes "update") (omega arith) (search rules))

pub returns-in-equal-clause-found : goal.returns-in-equal-clause-found
returns-in-equal-clause-found c = ap Word (text_from_reads c.args.word.now (codes "equal") (omega arith) (search rules))
