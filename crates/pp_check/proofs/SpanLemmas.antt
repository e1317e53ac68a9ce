-- The flow of a graph has its ways.
use Rattle.std.proofs.Common.{subst, ◌≡◌, ◌↔◌, ℕ, suc, ◌<◌, ◌⊎◌, List, [], ◌∷◌, Option, Some, None, refl, sym, ◌∙◌, ap, arith, length, map, inl, inr, zero}
use Rattle.std.specs.Prelude.{slice_get, slice_index_or}
use Rattle.pp_flow.specs.Chart.{Chart}
use Rattle.pp_flow.specs.Spans.{HaveSpans}
use Rattle.pp_flow.specs.declared.moves.Act.TheVariants as act
use Rattle.pp_flow.specs.Rows.{edge as counts}
use Rattle.pp_flow.proofs.RowLemmas.{edge-ends}
use Rattle.pp_flow.proofs.StandingLemmas.{HasWays}
use Rattle.pp_graph.specs.declared.node.Kind.{Kind}
use Rattle.pp_graph.specs.declared.node.Kind.TheVariants.{Match, Invoke, Consume, SpanOpen, SpanClose, Pause, Fail}
use Rattle.pp_graph.specs.declared.node.Node.{Node}
use Rattle.pp_graph.specs.Plan.{Plan, FitsIn, IsWellFormed}
use Rattle.pp_check.specs.Edges.{HasEdge, EdgeFrom}
use Rattle.pp_check.specs.Spans.{act_of, act_by, ways}
use Rattle.pp_check.specs.steps.Ends.{EndsOf, EndsAt, ends_of}
use Rattle.pp_check.specs.steps.Rows.{TellsBelow, IsFlowOf}
use Rattle.pp_check.proofs.BridgeLemmas.{ends-there}
use Rattle.pp_check.proofs.WellLemmas.{edge-within, entry-within}

kind-edge : (k : Kind) (b next : ℕ) → HasEdge k next ↔ EndsOf k counts b next
kind-edge (Match fold keys peeks other) b next = ((λ e. e), (λ e. e))
kind-edge (Invoke what answers other) b next = ((λ e. e), (λ e. e))
kind-edge (Consume prop n) b next = ((λ e. e), (λ e. e))
kind-edge (SpanOpen span n) b next = ((λ e. e), (λ e. e))
kind-edge (SpanClose span n) b next = ((λ e. e), (λ e. e))
kind-edge (Pause code reason n) b next = ((λ e. e), (λ e. e))
kind-edge (Fail code reason) b next = ((λ e. e), (λ e. e))

pub edge-is : (o : Option Node) (b next : ℕ) → EdgeFrom o next ↔ EndsAt o counts b next
edge-is None b next = ((λ e. e), (λ e. e))
edge-is (Some n) b next = kind-edge n.kind b next

pub acts-at : (nodes : List Node) (x : ℕ) → slice_index_or (map (λ (n : Node). act_of n.kind) nodes) x act.Goes ≡ act_by (slice_get nodes x)
acts-at [] x = refl
acts-at (n ∷ nodes) zero = refl
acts-at (n ∷ nodes) (suc x) = acts-at nodes x

-- a span that a node names is declared
kind-named : (g : Plan) (k : Kind) (s : ℕ) → FitsIn g k → (act_of k ≡ act.Opens s) ⊎ (act_of k ≡ act.Closes s) → s < length g.spans
kind-named g (Match fold keys peeks other) s fit (inl e) = absurd cc
kind-named g (Match fold keys peeks other) s fit (inr e) = absurd cc
kind-named g (Invoke what answers other) s fit (inl e) = absurd cc
kind-named g (Invoke what answers other) s fit (inr e) = absurd cc
kind-named g (Consume prop n) s fit (inl e) = absurd cc
kind-named g (Consume prop n) s fit (inr e) = absurd cc
kind-named g (SpanOpen span n) s fit (inl e) = (let same : span ≡ s = cc in subst (λ x. x < length g.spans) same fit.0)
kind-named g (SpanOpen span n) s fit (inr e) = absurd cc
kind-named g (SpanClose span n) s fit (inl e) = absurd cc
kind-named g (SpanClose span n) s fit (inr e) = (let same : span ≡ s = cc in subst (λ x. x < length g.spans) same fit.0)
kind-named g (Pause code reason n) s fit (inl e) = absurd cc
kind-named g (Pause code reason n) s fit (inr e) = absurd cc
kind-named g (Fail code reason) s fit (inl e) = absurd cc
kind-named g (Fail code reason) s fit (inr e) = absurd cc

named-by : (g : Plan) (o : Option Node) (s : ℕ) → ((n : Node) → o ≡ Some n → FitsIn g n.kind) → (act_by o ≡ act.Opens s) ⊎ (act_by o ≡ act.Closes s) → s < length g.spans
named-by g None s fit (inl e) = absurd cc
named-by g None s fit (inr e) = absurd cc
named-by g (Some n) s fit e = kind-named g n.kind s (fit n refl) e

-- spans are below 32
pub have-spans : (g : Plan) → IsWellFormed g → HaveSpans (map (λ (n : Node). act_of n.kind) g.nodes)
have-spans g well x s e =
    let low : s < length g.spans = named-by g (slice_get g.nodes x) s (λ n at. well.kinds x n at) (elim e [ inl o ↦ inl (sym (acts-at g.nodes x) ∙ o) | inr o ↦ inr (sym (acts-at g.nodes x) ∙ o) ]) in
    omega (arith, low, well.few_spans)

-- a flow that tells all nodes
pub has-ways : (g : Plan) (c : Chart) → IsWellFormed g → IsFlowOf g c → TellsBelow g.nodes (length g.nodes) c.moves → length c.acts ≡ length g.nodes → HasWays (ways g) c
has-ways g c well is tells long = record {
  entry = is.entry;
  acts = λ node. ap (λ xs. slice_index_or xs node act.Goes) is.acts ∙ acts-at g.nodes node;
  edges = λ node next.
      (let ends = edge-ends (ends_of g.nodes) (length g.nodes) c.moves tells (ends-there g.nodes) node next in
      let same = edge-is (slice_get g.nodes node) 0 next in
      ((λ e. same.1 (ends.0 e)), (λ e. ends.1 (same.0 e))));
  spans = subst HaveSpans (sym is.acts) (have-spans g well);
  entry_in = subst (λ n. g.entry < n) (sym long) (entry-within g well);
  within = λ node next e. subst (λ n. next < n) (sym long) (edge-within g well node next e);
}
