use Rattle.pp_flow.proofs.MaskLemmas.{ones_shifted, ones_tell, shifts_rise}
use Rattle.pp_flow.proofs.words.ones.Goals as goal

pub returns : goal.returns
returns c i = rw (ones_shifted c.args.first c.args.end c.requires.order c.requires.end) (ones_tell c.args.first c.args.end i)

pub overflow_sub-result : goal.overflow_sub-result
overflow_sub-result c = shifts_rise c.args.first c.args.end c.requires.order c.requires.end
