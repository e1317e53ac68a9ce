-- What is judged of the flow of a graph is so of the graph.
use Rattle.std.proofs.Common.{ℕ, ◌<◌, List, subst, length, ◌∙◌}
use Rattle.pp_flow.specs.Chart.{Chart, IsWhole}
use Rattle.pp_flow.specs.Faults as faults
use Rattle.pp_flow.specs.Loops as judged
use Rattle.pp_flow.specs.Spans as points
use Rattle.pp_flow.specs.Standing as standing
use Rattle.pp_flow.specs.declared.faults.SpanFault.{SpanFault}
use Rattle.pp_flow.specs.declared.faults.SpanFault.TheVariants.{Reopened, NotOpen, Mixed}
use Rattle.pp_flow.proofs.StandingLemmas.{HasWays, spans-fit, same-masks, same-fault}
use Rattle.pp_graph.specs.Plan.{Plan, IsWellFormed}
use Rattle.pp_event.proofs.FlowLemmas.{HasMoves, loop-free, same-gap, same-loop}
use Rattle.pp_mean.specs.Loops.{graph_moves, IsLoopFree}
use Rattle.pp_check.specs.Checked.{IsChecked, IsFault}
use Rattle.pp_check.specs.Loops.{IsLeastLoop}
use Rattle.pp_check.specs.Spans.{ways}
use Rattle.pp_check.specs.steps.Rows.{TellsBelow, IsFlowOf, fault_of}
use Rattle.pp_check.proofs.BridgeLemmas.{has-moves}
use Rattle.pp_check.proofs.SpanLemmas.{has-ways}
use Rattle.pp_check.proofs.TableLemmas.{acts-length}

-- a first fault of spans, where there is no loop
fault-of : (g : Plan) → IsLoopFree g → (fault : SpanFault) → standing.IsFirstFault (ways g) fault → IsFault g (fault_of fault)
fault-of g free (Reopened node span) h = (free, h.0, h.1)
fault-of g free (NotOpen node span) h = (free, h.0, h.1, h.2)
fault-of g free (Mixed node span) h = (free, h.0, h.1, h.2, h.3)

module _ (g : Plan) (flow : Chart) (well : IsWellFormed g) (is : IsFlowOf g flow) (whole : IsWhole flow) where
  -- the rows of all nodes are told
  tells-all : TellsBelow g.nodes (length g.nodes) flow.moves
  tells-all = subst (λ (n : ℕ). TellsBelow g.nodes n flow.moves) (whole ∙ acts-length g flow is) is.tells

  moves : HasMoves (graph_moves g) flow
  moves = has-moves g flow well is tells-all

  spans : HasWays (ways g) flow
  spans = has-ways g flow well is tells-all (acts-length g flow is)

  -- the least loop
  pub loop-told : (byte : ℕ) (cycle : List ℕ) → judged.IsLeastLoop flow.moves flow.entry byte cycle → IsLeastLoop g byte cycle
  loop-told byte cycle loop = same-loop (graph_moves g) flow moves byte cycle loop

  -- no loop
  free-told : (gap : ℕ) → judged.IsWithoutLoop flow.moves flow.entry (length flow.acts) gap → IsLoopFree g
  free-told gap none = loop-free (graph_moves g) flow moves none.free

  -- the first fault of spans, where there is no loop
  pub fault-told : (gap : ℕ) → judged.IsWithoutLoop flow.moves flow.entry (length flow.acts) gap → (fault : SpanFault) →
      faults.IsFirstFault (points.MayStand flow.moves flow.acts flow.entry) flow.acts fault → IsFault g (fault_of fault)
  fault-told gap none fault first = fault-of g (free-told gap none) fault (same-fault (ways g) flow spans fault first)

  -- the gap and the masks, where there is no loop and no fault of spans
  pub found-told : (gap : ℕ) → judged.IsWithoutLoop flow.moves flow.entry (length flow.acts) gap → (opened : List ℕ) →
      ((x : ℕ) → x < length flow.acts → faults.HasNoFault (points.MayStand flow.moves flow.acts flow.entry) flow.acts x) →
      points.TellsOpen flow.moves flow.acts flow.entry (length flow.acts) opened → IsChecked (record { graph = g; gap = gap; opened = opened })
  found-told gap none opened fit tells = record {
    well_formed = well;
    loop_free = free-told gap none;
    spans_fit = spans-fit (ways g) flow spans fit;
    exact_gap = same-gap (graph_moves g) flow moves gap none.exact;
    exact_spans = subst (λ (n : ℕ). standing.TellsOpen (ways g) n opened) (acts-length g flow is) (same-masks (ways g) flow spans opened tells);
  }
