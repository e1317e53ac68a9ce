use Rattle.std.proofs.Common.{arith}
use Rattle.pp_flow.proofs.MaskLemmas.{merged_grows, merged_source, merged_all, merged_same}
use Rattle.pp_flow.proofs.words.merge.Goals as goal

pub returns-then-new-old-clause-all : goal.returns-then-new-old-clause-all
returns-then-new-old-clause-all c = merged_same c.args.words.now c.args.to c.args.quarter c.args.bits c.if-new-old.true

pub returns : goal.returns
returns c = record {
  grows = merged_grows c.args.words.now c.args.to c.args.quarter c.args.bits c.requires.room c.requires.quarter (omega arith) c.if-new-old.false;
  source = merged_source c.args.words.now c.args.to c.args.quarter c.args.bits c.requires.room c.requires.quarter;
  all = merged_all c.args.words.now c.args.to c.args.quarter c.args.bits c.requires.room c.requires.quarter;
}
