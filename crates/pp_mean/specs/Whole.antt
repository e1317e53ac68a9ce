-- What `run_whole` promises.
use Rattle.std.specs.Prelude.{◌≡◌, ℕ, suc, List, [], ◌∷◌, Option, Some, None, map, slice_get}
use Rattle.std.specs.List.{Contains}
use Rattle.pp_graph.specs.Plan.{Plan}
use Rattle.pp_event.specs.declared.script.ScriptEntry.{ScriptEntry}
use Rattle.pp_event.specs.Answers.{by_script}
use Rattle.pp_event.specs.Chain.{Move, run_for, stages, after}
use Rattle.pp_event.specs.Run.{Oracle, Stage, RunResult, Finish, Waiting, Paused, Failed, move, start}
use Rattle.pp_event.specs.Loops.{stand, NoneTwice}
use Rattle.pp_mean.specs.Nodes.{graph_turn}
use Rattle.pp_mean.specs.Mean.{entry_with, values_by}
use Rattle.pp_mean.specs.declared.whole.End.{End}
use Rattle.pp_mean.specs.declared.whole.End.TheVariants as end
use Rattle.pp_mean.specs.declared.whole.WholeRun.{WholeRun}
use Rattle.pp_mean.specs.declared.whole.MeanFault.{MeanFault}
use Rattle.pp_mean.specs.declared.whole.MeanFault.TheVariants.{Loop, NoMemory}

-- what a run is given: a graph, the values of its properties, who answers, how many pauses it passes, and a whole string
pub record Given : Type 0 where
  pub graph : Plan
  pub values : List ℕ
  pub oracle : Oracle
  pub resumes : ℕ
  pub bytes : List ℕ

-- with values by sets, and answers by a script
abbrev pub by_sets : Plan → List (ℕ × ℕ) → List ScriptEntry → ℕ → List ℕ → Given
by_sets g sets script resumes bytes =
    record { graph = g; values = values_by g sets; oracle = by_script script; resumes = resumes; bytes = bytes }

-- the moves of the run
abbrev pub moves : Given → Stage → Move Stage RunResult
moves x = move (graph_turn x.graph) x.oracle

-- its beginning
abbrev pub begin : Given → Stage
begin x = start (entry_with x.graph x.values) x.bytes x.resumes

-- where it stood before each of its first n moves
abbrev pub stands : Given → ℕ → List (ℕ × ℕ)
stands x n = map stand (stages (moves x) n (begin x))

-- the open spans in order, each with its start, where the first slot is that of span n
abbrev pub open_from : ℕ → List (Option ℕ) → List (ℕ × ℕ)
open_from n [] = []
open_from n (None ∷ slots) = open_from (suc n) slots
open_from n (Some from ∷ slots) = (n, from) ∷ open_from (suc n) slots

-- an end of the code, for a run that ended so at this node
abbrev pub IsEnd : End → ℕ → Finish → Type 0
IsEnd (end.Waits n) node finish = (n ≡ node) × (finish ≡ Waiting)
IsEnd (end.PausedAt n code) node finish = (n ≡ node) × (finish ≡ Paused code)
IsEnd (end.Failed n code) node finish = (n ≡ node) × (finish ≡ Failed code)

-- the code's items, end, values, place and open spans are those of a result
pub record Shows (r : RunResult) (w : WholeRun) : Type 0 where
  pub items : w.items ≡ r.last.items
  pub end : IsEnd w.end r.last.config.node r.finish
  pub props : w.props ≡ r.last.config.values
  pub at : w.at ≡ r.last.config.at
  pub spans : w.spans ≡ open_from 0 r.last.config.spans

-- the run ended with this result, and came to no node twice at one place
pub record EndsOnce (x : Given) (r : RunResult) : Type 0 where
  pub moves_made : ℕ
  pub ended : run_for (moves x) moves_made (begin x) ≡ Some r
  pub once : NoneTwice (stands x moves_made)

-- so it did, and this shows the result
pub record IsRun (x : Given) (w : WholeRun) : Type 0 where
  pub result : RunResult
  pub ends : EndsOnce x result
  pub shows : Shows result w

-- the run comes to this node a second time at one place, where this byte comes next, and to none before it
pub record ComesBack (x : Given) (node : ℕ) (byte : Option ℕ) : Type 0 where
  pub moves_made : ℕ
  pub stage : Stage
  pub there : after (moves x) moves_made (begin x) ≡ Some stage
  pub node_is : stage.config.node ≡ node
  pub byte_is : slice_get x.bytes stage.config.at ≡ byte
  pub once : NoneTwice (stands x moves_made)
  pub again : Contains (stands x moves_made) (stand stage)

abbrev pub IsLoop : Given → MeanFault → Type 0
IsLoop x (Loop node byte) = ComesBack x node byte
IsLoop x NoMemory = Unit {0}
