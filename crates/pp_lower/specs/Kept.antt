-- What a graph keeps when it is lowered.
use Rattle.std.specs.Prelude.{◌≡◌, ℕ, List, Option, Some, None, slice_get, option_map}
use Rattle.pp_graph.specs.declared.node.Kind.{Kind}
use Rattle.pp_graph.specs.declared.node.Kind.TheVariants as kind
use Rattle.pp_graph.specs.declared.node.Node.{Node}
use Rattle.pp_graph.specs.Plan.{Plan}
use Rattle.pp_program.specs.declared.program.Instr.{Instr}
use Rattle.pp_program.specs.declared.program.Instr.TheVariants as instr
use Rattle.pp_program.specs.declared.program.State.{State}
use Rattle.pp_program.specs.declared.program.Program.{Program}
use Rattle.pp_event.specs.Run.{Oracle, RunResult}
use Rattle.pp_mean.specs.Mean.{Means}
use Rattle.pp_program.specs.States.{ProgramMeans}

-- the reason that a node shows where a run ends at it: a pause and an error have one
abbrev pub kind_reason : Kind → Option (List ℕ)
kind_reason (kind.Match fold keys peeks other) = None
kind_reason (kind.Invoke code answers other) = None
kind_reason (kind.Consume prop next) = None
kind_reason (kind.SpanOpen span next) = None
kind_reason (kind.SpanClose span next) = None
kind_reason (kind.Pause code reason next) = Some reason
kind_reason (kind.Fail code reason) = Some reason

-- the reason that a state shows
abbrev pub instr_reason : Instr → Option (List ℕ)
instr_reason (instr.Branch fold stay edges rest) = None
instr_reason (instr.Invoke code answers other) = None
instr_reason (instr.Consume prop next) = None
instr_reason (instr.SpanOpen span next) = None
instr_reason (instr.SpanClose span next) = None
instr_reason (instr.Pause code reason next) = Some reason
instr_reason (instr.Fail code reason) = Some reason

abbrev pub node_reason : Option Node → Option (List ℕ)
node_reason None = None
node_reason (Some n) = kind_reason n.kind

abbrev pub state_reason : Option State → Option (List ℕ)
state_reason None = None
state_reason (Some s) = instr_reason s.instr

-- the name of the node that a state comes from, among these names
abbrev pub origin_name : List (List ℕ) → Option State → Option (List ℕ)
origin_name names None = None
origin_name names (Some s) = slice_get names s.origin

-- A run of the program ended as the run of the graph did: in the same way and with the same code, at a state of the node
-- where that ended, which has the same name and shows the same reason, with the same items, place, values, open spans and
-- bytes left.
pub record SameRun (g : Plan) (p : Program) (r q : RunResult) : Type 0 where
  pub finish : r.finish ≡ q.finish
  pub items : r.last.items ≡ q.last.items
  pub at : r.last.config.at ≡ q.last.config.at
  pub values : r.last.config.values ≡ q.last.config.values
  pub spans : r.last.config.spans ≡ q.last.config.spans
  pub rest : r.last.rest ≡ q.last.rest
  pub name : option_map (λ (n : Node). n.name) (slice_get g.nodes r.last.config.node) ≡ origin_name p.names (slice_get p.states q.last.config.node)
  pub reason : node_reason (slice_get g.nodes r.last.config.node) ≡ state_reason (slice_get p.states q.last.config.node)

-- The program means what the graph means: it has the same declarations and the same finish rule; where the graph's run
-- has a result the program's has the same one; and it has no other. That holds for all values, strings, answers and resumes.
pub record KeepsMeaning (g : Plan) (p : Program) : Type 0 where
  pub props : p.props ≡ g.props
  pub hosts : p.hosts ≡ g.hosts
  pub spans : p.spans ≡ g.spans
  pub finish : p.finish ≡ g.finish
  pub kept : (values bytes : List ℕ) (oracle : Oracle) (resumes : ℕ) (r : RunResult) → Means g values bytes oracle resumes r →
      (q : RunResult) × ProgramMeans p values bytes oracle resumes q × SameRun g p r q
  pub back : (values bytes : List ℕ) (oracle : Oracle) (resumes : ℕ) (r q : RunResult) → Means g values bytes oracle resumes r →
      ProgramMeans p values bytes oracle resumes q → SameRun g p r q
