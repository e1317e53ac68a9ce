use Rattle.pp_trace.proofs.RunsLaws.{program_runs, only_report}
use Rattle.pp_trace.proofs.laws.one_report.Goals as goal

pub returns : goal.returns
returns c = record { runs = program_runs; only = only_report }
