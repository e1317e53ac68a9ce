-- Each call that tells a graph in its place: a node stands in front of its edges, and an edge among those of its node.
use Rattle.std.proofs.Common.{◌≡◌, ℕ, List, [], ◌∷◌, ◌++◌, Bool, true, false, ◌||◌, if◌then◌else◌, map, flat_map, Option, Some, refl, ap, sym, ◌∙◌, subst, append_assoc}
use Rattle.std.specs.Prelude.{None as none}
use Rattle.std.specs.List.{list_any}
use Rattle.std.proofs.lemmas.List.{append-nil}
use Rattle.std.proofs.lemmas.List.Sums.{fold_push}
use Rattle.pp_graph.specs.declared.node.Kind.{Kind}
use Rattle.pp_graph.specs.declared.node.Node.{Node}
use Rattle.pp_rules.specs.declared.call.BuilderCall.{BuilderCall}
use Rattle.pp_rules.specs.declared.call.BuilderCall.TheVariants as call
use Rattle.pp_graph.specs.declared.builder.LastNode.TheVariants as last
use Rattle.pp_graph.specs.Plan.{Plan, IsWellFormed, FitsIn}
use Rattle.pp_rules.specs.Calls.{own_calls, since_node, since_after}
use Rattle.pp_graph.specs.Calls.{last_node, last_of, last_after, has_otherwise, otherwise_after}
use Rattle.pp_rules.specs.Rules.Form.{is_lower, lower_kind, lower_after}
use Rattle.pp_rules.specs.Rules.Otherwise.{is_otherwise}
use Rattle.pp_graph.proofs.TableLemmas.{Each}
use Rattle.pp_text.specs.Telling.{calls_of, prop_call, host_call, span_call, finish_calls, node_calls, edge_calls, named_kind}
use Rattle.pp_text.proofs.ListLemmas.{Along, AtEach, along-each, along-free, any-push, each-all, each-map_of, each-from_is}
use Rattle.pp_text.proofs.ShapeLemmas.{IsEdge, each-edge, own-edges, own-nodes, own-node, calls_of-parts, ends_calls, nodes_calls}

-- among the edges of a node that fits
pub record IsPlaced (g : Plan) (before : List BuilderCall) (c : BuilderCall) (after : List BuilderCall) : Type 0 where
  pub kind : Kind
  pub fits : FitsIn g kind
  pub own : since_node before ++ c ∷ own_calls after ≡ edge_calls g kind
  pub lower : is_lower before ≡ lower_kind (named_kind g kind)
  pub after_node : last_node before ≡ last_of (named_kind g kind)
  pub closed : has_otherwise before ≡ list_any is_otherwise (since_node before)

abbrev pub InPlace : Plan → List BuilderCall → BuilderCall → List BuilderCall → Type 0
InPlace g before (call.Prop name width) after = Unit {0}
InPlace g before (call.Host name value) after = Unit {0}
InPlace g before (call.Span name) after = Unit {0}
InPlace g before (call.Entry node) after = Unit {0}
InPlace g before (call.Finish prop host) after = Unit {0}
InPlace g before (call.Node name what) after = (k : Kind) × (what ≡ named_kind g k) × (own_calls after ≡ edge_calls g k)
InPlace g before (call.Edge when target) after = IsPlaced g before (call.Edge when target) after

-- behind these calls the rest of a node's edges stand
record Continues (g : Plan) (k : Kind) (front later : List BuilderCall) : Type 0 where
  pub own : since_node front ++ later ≡ edge_calls g k
  pub lower : is_lower front ≡ lower_kind (named_kind g k)
  pub after_node : last_node front ≡ last_of (named_kind g k)
  pub closed : has_otherwise front ≡ list_any is_otherwise (since_node front)

closed-step : (b o : Bool) → (if b then true else o) ≡ (o || (b || false))
closed-step true true = refl
closed-step true false = refl
closed-step false true = refl
closed-step false false = refl

along-edges : (g : Plan) (k : Kind) (front later rest : List BuilderCall) → FitsIn g k → Each IsEdge later → Continues g k front later → own_calls rest ≡ [] → ((b : List BuilderCall) → Along (InPlace g) b rest) → Along (InPlace g) front (later ++ rest)
along-edges g k front [] rest f s p e h = h front
along-edges g k front (call.Edge when target ∷ later) rest f s p e h =
    let c = call.Edge when target in
    let own : own_calls (later ++ rest) ≡ later = own-edges later rest s.1 ∙ ap (λ cs. later ++ cs) e ∙ append-nil later in
    let since : since_node (front ++ c ∷ []) ≡ since_node front ++ c ∷ [] = fold_push since_after [] front c in (
      record {
        kind = k;
        fits = f;
        own = ap (λ cs. since_node front ++ c ∷ cs) own ∙ p.own;
        lower = p.lower;
        after_node = p.after_node;
        closed = p.closed;
      },
      along-edges g k (front ++ c ∷ []) later rest f s.1
          (record {
            own = ap (λ cs. cs ++ later) since ∙ append_assoc (since_node front) (c ∷ []) later ∙ p.own;
            lower = fold_push lower_after false front c ∙ p.lower;
            after_node = fold_push last_after last.None front c ∙ p.after_node;
            closed = fold_push otherwise_after false front c ∙ ap (λ b. if is_otherwise c then true else b) p.closed ∙ closed-step (is_otherwise c) (list_any is_otherwise (since_node front)) ∙ sym (any-push is_otherwise (since_node front) c) ∙ sym (ap (list_any is_otherwise) since);
          })
          e h,
    )
along-edges g k front (c ∷ later) rest f s p e h = absurd s.0

along-nodes : (g : Plan) (nodes : List Node) → Each (λ (n : Node). FitsIn g n.kind) nodes → (front : List BuilderCall) → Along (InPlace g) front (flat_map (node_calls g) nodes)
along-nodes g [] s front = tt
along-nodes g (n ∷ nodes) s front =
    let c = call.Node n.name (named_kind g n.kind) in
    let rest = flat_map (node_calls g) nodes in
    let since : since_node (front ++ c ∷ []) ≡ [] = fold_push since_after [] front c in (
      (n.kind, refl, own-node g n.kind nodes),
      along-edges g n.kind (front ++ c ∷ []) (edge_calls g n.kind) rest s.0 (each-edge g n.kind)
          (record {
            own = ap (λ cs. cs ++ edge_calls g n.kind) since;
            lower = fold_push lower_after false front c;
            after_node = fold_push last_after last.None front c;
            closed = fold_push otherwise_after false front c ∙ sym (ap (list_any is_otherwise) since);
          })
          (own-nodes g nodes) (along-nodes g nodes s.1),
    )

finish-free : (g : Plan) (rule : Option (ℕ × ℕ)) → Each (λ c. (b a : List BuilderCall) → InPlace g b c a) (finish_calls g rule)
finish-free g none = tt
finish-free g (Some rule) = (λ b a. tt, tt)

-- each call that tells a graph is in its place
pub along-calls : (g : Plan) → IsWellFormed g → Along (InPlace g) [] (calls_of g)
along-calls g w =
    let P : BuilderCall → Type 0 = λ c. (b a : List BuilderCall) → InPlace g b c a in
    let props = map prop_call g.props in
    let hosts = map host_call g.hosts in
    let spans = map span_call g.spans in
    subst (Along (InPlace g) []) (sym (calls_of-parts g))
    (along-free (InPlace g) [] props (hosts ++ (spans ++ (ends_calls g ++ nodes_calls g))) (each-map_of prop_call P g.props (each-all (λ p. P (prop_call p)) g.props (λ p b a. tt)))
    (λ front. along-free (InPlace g) front hosts (spans ++ (ends_calls g ++ nodes_calls g)) (each-map_of host_call P g.hosts (each-all (λ p. P (host_call p)) g.hosts (λ p b a. tt)))
    (λ front. along-free (InPlace g) front spans (ends_calls g ++ nodes_calls g) (each-map_of span_call P g.spans (each-all (λ p. P (span_call p)) g.spans (λ p b a. tt)))
    (λ front. along-free (InPlace g) front (ends_calls g) (nodes_calls g) (λ b a. tt, finish-free g g.finish)
    (along-nodes g g.nodes (each-from_is (λ (n : Node). FitsIn g n.kind) g.nodes w.kinds))))))

pub each-in_place : (g : Plan) → IsWellFormed g → AtEach (InPlace g) (calls_of g)
each-in_place g w = along-each (InPlace g) (calls_of g) (along-calls g w)
