-- What a program keeps of another one.
use Rattle.std.specs.Prelude.{◌≡◌, ℕ, List, slice_get}
use Rattle.pp_program.specs.declared.program.Program.{Program}
use Rattle.pp_program.specs.States.{ProgramMeans}
use Rattle.pp_lower.specs.Kept.{state_reason, origin_name}
use Rattle.pp_event.specs.Run.{Config, Oracle, RunResult}
use Rattle.pp_event.specs.Simulates.{Alike}

-- Two programs stand alike: at the same place, with the same values and open spans, at states of nodes with one name,
-- which show the same reason.
pub record StandsAlike (p q : Program) (c d : Config) : Type 0 where
  pub at : c.at ≡ d.at
  pub values : c.values ≡ d.values
  pub spans : c.spans ≡ d.spans
  pub name : origin_name p.names (slice_get p.states c.node) ≡ origin_name q.names (slice_get q.states d.node)
  pub reason : state_reason (slice_get p.states c.node) ≡ state_reason (slice_get q.states d.node)

-- Their runs ended alike: in the same way, where they stand alike, with the same items, bytes left and resumes.
pub record EndsAlike (p q : Program) (r s : RunResult) : Type 0 where
  pub finish : r.finish ≡ s.finish
  pub last : Alike (StandsAlike p q) r.last s.last

-- where a run of the first program ends, that of the second ends alike
abbrev pub KeepsRuns : Program → Program → Type 0
KeepsRuns p q = (values bytes : List ℕ) (oracle : Oracle) (resumes : ℕ) (r : RunResult) → ProgramMeans p values bytes oracle resumes r →
    (s : RunResult) × ProgramMeans q values bytes oracle resumes s × EndsAlike p q r s

-- The second program keeps the declarations and the finish rule of the first, and what it means.
pub record Keeps (p q : Program) : Type 0 where
  pub props : q.props ≡ p.props
  pub hosts : q.hosts ≡ p.hosts
  pub spans : q.spans ≡ p.spans
  pub finish : q.finish ≡ p.finish
  pub runs : KeepsRuns p q
