use Rattle.pp_trace.proofs.IsolationLaws.{gives_its_own, isolated}
use Rattle.pp_trace.proofs.laws.own_records_alone.Goals as goal

pub returns : goal.returns
returns c = record { own = gives_its_own; same = isolated }
