use Rattle.pp_trace.proofs.BeginLaws.{tells_all}
use Rattle.pp_trace.proofs.CutLaws.{tells_the_run, cuts_change_nothing}
use Rattle.pp_trace.proofs.laws.whole_strings.Goals as goal

pub returns : goal.returns
returns c = record {
  run = λ subject mode limit grow. tells_the_run subject grow mode limit;
  same = λ subject mode limit grow. cuts_change_nothing subject grow mode limit;
  begun = λ subject mode limit grow. tells_all subject grow mode limit;
}
