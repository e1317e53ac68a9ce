-- The flow of a program has its ways.
use Rattle.std.proofs.Common.{subst, ◌≡◌, ◌↔◌, ℕ, ◌<◌, ◌⊎◌, List, Option, Some, None, Bool, true, false, cond, refl, sym, ◌∙◌, ap, length, inl, inr}
use Rattle.std.specs.Prelude.{slice_get, slice_index_or}
use Rattle.std.specs.List.{Any}
use Rattle.std.proofs.lemmas.Option.{slice_get_within}
use Rattle.pp_bytes.specs.declared.fold.Fold.{Fold}
use Rattle.pp_bytes.specs.Fold.{folded}
use Rattle.pp_bytes.specs.Ranges.{in_ranges}
use Rattle.pp_flow.specs.Chart.{Chart}
use Rattle.pp_flow.specs.declared.moves.Act.TheVariants as act
use Rattle.pp_flow.specs.Rows.{edge as counts}
use Rattle.pp_flow.proofs.ListLemmas.{any-at, any-listed}
use Rattle.pp_flow.proofs.RowLemmas.{edge-ends}
use Rattle.pp_flow.proofs.StandingLemmas.{HasWays}
use Rattle.pp_graph.specs.declared.node.Answer.{Answer}
use Rattle.pp_program.specs.declared.program.Edge.{Edge}
use Rattle.pp_program.specs.declared.program.Rest.{Rest}
use Rattle.pp_program.specs.declared.program.Instr.{Instr}
use Rattle.pp_program.specs.declared.program.Instr.TheVariants.{Branch, Invoke, Consume, SpanOpen, SpanClose, Pause, Fail}
use Rattle.pp_program.specs.declared.program.State.{State}
use Rattle.pp_program.specs.declared.program.Program.{Program}
use Rattle.pp_program.specs.States.{edge_on}
use Rattle.pp_program.specs.Edges.{HasEdge, EdgeFrom}
use Rattle.pp_program.specs.Spans.{ways}
use Rattle.pp_program.specs.steps.Ends.{EndsOf, EndsAt, ends_of, edge_step}
use Rattle.pp_program.specs.steps.Rows.{IsSound, LeadsWithin, IsFlowOf}
use Rattle.pp_program.proofs.FlowLemmas.{acts-at, found-in, have-spans}
use Rattle.pp_program.proofs.BridgeLemmas.{ends-there, tells}

step-to : (t : Bool) (o : Option Edge) (edges : List Edge) (rest : Rest) (state next : ℕ) → ((e : Edge) → o ≡ Some e → (i : ℕ) × (slice_get edges i ≡ Some e)) →
    (cond t (record { target = state; takes = true }) (edge_step rest o)).target ≡ next → ((t ≡ true) × (state ≡ next)) ⊎ (Any (λ (e : Edge). e.target ≡ next) edges ⊎ (rest.target ≡ next))
step-to true o edges rest state next found e = inl (refl, e)
step-to false None edges rest state next found e = inr (inr e)
step-to false (Some x) edges rest state next found e = (let q = found x refl in inr (inl (any-at (λ (y : Edge). y.target ≡ next) edges q.0 x q.1 e)))

branch-edge : (fold : Fold) (stay : List (ℕ × ℕ)) (edges : List Edge) (rest : Rest) (state b next : ℕ) → HasEdge state (Branch fold stay edges rest) next ↔ EndsOf state (Branch fold stay edges rest) counts b next
branch-edge fold stay edges rest state b next = (
  (λ e. elim e [
    | inl own ↦ inl (own.1, own.2, ap (λ (t : Bool). (cond t (record { target = state; takes = true }) (edge_step rest (edge_on (folded fold own.1) edges))).target) own.3 ∙ own.0)
    | inr more ↦ inr more
  ]),
  (λ e. elim e [
    | inl step ↦ elim (step-to (in_ranges stay step.0) (edge_on (folded fold step.0) edges) edges rest state next (λ x f. found-in edges (folded fold step.0) x f) step.2) [
      | inl own ↦ inl (own.1, step.0, step.1, own.0)
      | inr more ↦ inr more
    ]
    | inr more ↦ inr more
  ]),
)

kind-edge : (i : Instr) (node b next : ℕ) → HasEdge node i next ↔ EndsOf node i counts b next
kind-edge (Branch fold stay edges rest) node b next = branch-edge fold stay edges rest node b next
kind-edge (Invoke what answers other) node b next = ((λ e. e), (λ e. e))
kind-edge (Consume prop n) node b next = ((λ e. e), (λ e. e))
kind-edge (SpanOpen span n) node b next = ((λ e. e), (λ e. e))
kind-edge (SpanClose span n) node b next = ((λ e. e), (λ e. e))
kind-edge (Pause code reason n) node b next = ((λ e. e), (λ e. e))
kind-edge (Fail code reason) node b next = ((λ e. e), (λ e. e))

pub edge-is : (o : Option State) (node b next : ℕ) → EdgeFrom node o next ↔ EndsAt node o counts b next
edge-is None node b next = ((λ e. e), (λ e. e))
edge-is (Some n) node b next = kind-edge n.instr node b next

-- edges lead to states
kind-within : (i : Instr) (node next count : ℕ) → node < count → LeadsWithin count i → HasEdge node i next → next < count
kind-within (Branch fold stay edges rest) node next count low lead (inl own) = subst (λ n. n < count) own.0 low
kind-within (Branch fold stay edges rest) node next count low lead (inr (inl a)) = subst (λ n. n < count) a.4 (lead.0 a.0 a.1 (any-listed (λ (e : Edge). e.target ≡ next) edges a))
kind-within (Branch fold stay edges rest) node next count low lead (inr (inr e)) = subst (λ n. n < count) e lead.1
kind-within (Invoke what answers other) node next count low lead (inl e) = subst (λ n. n < count) e lead.1
kind-within (Invoke what answers other) node next count low lead (inr a) = subst (λ n. n < count) a.4 (lead.0 a.0 a.1 (any-listed (λ (e : Answer). e.target ≡ next) answers a))
kind-within (Consume prop n) node next count low lead e = subst (λ n. n < count) e lead
kind-within (SpanOpen span n) node next count low lead e = subst (λ n. n < count) e lead
kind-within (SpanClose span n) node next count low lead e = subst (λ n. n < count) e lead
kind-within (Pause code reason n) node next count low lead e = subst (λ n. n < count) e lead
kind-within (Fail code reason) node next count low lead e = absurd e

edge-by : (o : Option State) (node next count : ℕ) → ((n : State) → o ≡ Some n → (node < count) × LeadsWithin count n.instr) → EdgeFrom node o next → next < count
edge-by None node next count fit e = absurd e
edge-by (Some n) node next count fit e = (let f = fit n refl in kind-within n.instr node next count f.0 f.1 e)

pub edge-within : (p : Program) → IsSound p → (node next : ℕ) → EdgeFrom node (slice_get p.states node) next → next < length p.states
edge-within p well node next e = edge-by (slice_get p.states node) node next (length p.states) (λ n f. (slice_get_within p.states node n f, well.lead node n f)) e

-- a flow that tells all states
pub has-ways : (p : Program) (c : Chart) → IsSound p → IsFlowOf p c → c.told ≡ length p.states → length c.acts ≡ length p.states → HasWays (ways p) c
has-ways p c sound is told long = record {
  entry = is.entry;
  acts = λ node. ap (λ xs. slice_index_or xs node act.Goes) is.acts ∙ acts-at p.states node;
  edges = λ node next.
      (let ends = edge-ends (ends_of p.states) (length p.states) c.moves (tells p c is told) (ends-there p.states) node next in
      let same = edge-is (slice_get p.states node) node 0 next in
      ((λ e. same.1 (ends.0 e)), (λ e. ends.1 (same.0 e))));
  spans = have-spans p c.acts is.acts sound;
  entry_in = subst (λ n. p.entry < n) (sym long) sound.entry;
  within = λ node next e. subst (λ n. next < n) (sym long) (edge-within p sound node next e);
}
