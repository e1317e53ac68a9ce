-- What is kept from program to program is kept over all of them.
use Rattle.std.proofs.Common.{◌∙◌}
use Rattle.pp_program.specs.declared.program.Program.{Program}
use Rattle.pp_program.specs.States.{ProgramMeans}
use Rattle.pp_event.specs.Run.{Config, RunResult}
use Rattle.pp_clean.specs.Keeps.{StandsAlike, EndsAlike, Keeps, KeepsRuns}

stands-trans : (p q r : Program) (a b c : Config) → StandsAlike p q a b → StandsAlike q r b c → StandsAlike p r a c
stands-trans p q r a b c h k = record {
  at = h.at ∙ k.at;
  values = h.values ∙ k.values;
  spans = h.spans ∙ k.spans;
  name = h.name ∙ k.name;
  reason = h.reason ∙ k.reason;
}

ends-trans : (p q r : Program) (a b c : RunResult) → EndsAlike p q a b → EndsAlike q r b c → EndsAlike p r a c
ends-trans p q r a b c h k = record {
  finish = h.finish ∙ k.finish;
  last = record {
    config = stands-trans p q r a.last.config b.last.config c.last.config h.last.config k.last.config;
    rest = h.last.rest ∙ k.last.rest;
    items = h.last.items ∙ k.last.items;
    resumes = h.last.resumes ∙ k.last.resumes;
  };
}

runs-trans : (p q r : Program) → KeepsRuns p q → KeepsRuns q r → KeepsRuns p r
runs-trans p q r h k values bytes oracle resumes x m =
    let first : (y : RunResult) × ProgramMeans q values bytes oracle resumes y × EndsAlike p q x y = h values bytes oracle resumes x m in
    let next : (z : RunResult) × ProgramMeans r values bytes oracle resumes z × EndsAlike q r first.0 z = k values bytes oracle resumes first.0 first.1 in
    (next.0, next.1, ends-trans p q r x first.0 next.0 first.2 next.2)

-- what is kept twice is kept
pub Keeps-trans : (p q r : Program) → Keeps p q → Keeps q r → Keeps p r
Keeps-trans p q r h k = record {
  props = k.props ∙ h.props;
  hosts = k.hosts ∙ h.hosts;
  spans = k.spans ∙ h.spans;
  finish = k.finish ∙ h.finish;
  runs = runs-trans p q r h.runs k.runs;
}
