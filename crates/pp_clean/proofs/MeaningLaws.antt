-- A program that keeps what a program means keeps what a graph means.
use Rattle.std.proofs.Common.{subst, ℕ, List, ◌∙◌}
use Rattle.pp_graph.specs.Plan.{Plan}
use Rattle.pp_event.specs.Run.{Oracle, RunResult, move, start}
use Rattle.pp_event.proofs.ChainLaws.{one_result}
use Rattle.pp_mean.specs.Mean.{Means}
use Rattle.pp_program.specs.declared.program.Program.{Program}
use Rattle.pp_program.specs.States.{program_turn, program_entry, ProgramMeans}
use Rattle.pp_lower.specs.Kept.{SameRun, KeepsMeaning}
use Rattle.pp_clean.specs.Keeps.{EndsAlike, Keeps}

same_on : (g : Plan) (p q : Program) (r x y : RunResult) → SameRun g p r x → EndsAlike p q x y → SameRun g q r y
same_on g p q r x y h k = record {
  finish = h.finish ∙ k.finish;
  items = h.items ∙ k.last.items;
  at = h.at ∙ k.last.config.at;
  values = h.values ∙ k.last.config.values;
  spans = h.spans ∙ k.last.config.spans;
  rest = h.rest ∙ k.last.rest;
  name = h.name ∙ k.last.config.name;
  reason = h.reason ∙ k.last.config.reason;
}

kept_on : (g : Plan) (p q : Program) → KeepsMeaning g p → Keeps p q → (values bytes : List ℕ) (oracle : Oracle) (resumes : ℕ) (r : RunResult) → Means g values bytes oracle resumes r →
    (y : RunResult) × ProgramMeans q values bytes oracle resumes y × SameRun g q r y
kept_on g p q h k values bytes oracle resumes r m =
    let first : (x : RunResult) × ProgramMeans p values bytes oracle resumes x × SameRun g p r x = h.kept values bytes oracle resumes r m in
    let next : (y : RunResult) × ProgramMeans q values bytes oracle resumes y × EndsAlike p q first.0 y = k.runs values bytes oracle resumes first.0 first.1 in
    (next.0, next.1, same_on g p q r first.0 next.0 first.2 next.2)

-- the second program means what the graph means, if the first does
pub keeps_meaning_on : (g : Plan) (p q : Program) → KeepsMeaning g p → Keeps p q → KeepsMeaning g q
keeps_meaning_on g p q h k = record {
  props = k.props ∙ h.props;
  hosts = k.hosts ∙ h.hosts;
  spans = k.spans ∙ h.spans;
  finish = k.finish ∙ h.finish;
  kept = kept_on g p q h k;
  back = λ values bytes oracle resumes r y m n.
      let own : (x : RunResult) × ProgramMeans q values bytes oracle resumes x × SameRun g q r x = kept_on g p q h k values bytes oracle resumes r m in
      subst (SameRun g q r) (one_result (move (program_turn q) oracle) (start (program_entry q values) bytes resumes) own.0 y own.1 n) own.2;
}
