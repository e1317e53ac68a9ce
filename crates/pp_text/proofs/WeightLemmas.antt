-- The calls that tell a graph weigh what its nodes weigh.
use Rattle.std.proofs.Common.{◌≡◌, ℕ, ◌≤◌, List, [], ◌∷◌, ◌++◌, length, map, flat_map, sum_by, Option, Some, refl, ap, ◌∙◌, arith}
use Rattle.std.specs.Prelude.{None as none}
use Rattle.std.proofs.lemmas.List.Sums.{sum_by-cons, sum_by-append}
use Rattle.pp_graph.specs.declared.node.Key.{Key}
use Rattle.pp_graph.specs.declared.node.Kind.{Kind}
use Rattle.pp_graph.specs.declared.node.Kind.TheVariants as placed
use Rattle.pp_graph.specs.declared.node.Node.{Node}
use Rattle.pp_rules.specs.declared.call.BuilderCall.TheVariants as call
use Rattle.pp_graph.specs.Plan.{Plan, IsWellFormed, weight_of}
use Rattle.pp_rules.specs.Rules.Limits.{weight_of_call}
use Rattle.pp_text.specs.Telling.{calls_of, prop_call, host_call, span_call, finish_calls, node_calls, edge_calls, key_call, peek_call, answer_call, other_call, else_call, node_name, named_kind}
use Rattle.pp_text.proofs.ShapeLemmas.{calls_of-parts, ends_calls, nodes_calls}

-- the sum over what is told of each element
sum-told : {X Y : Type 0} (h : X → Y) (f : Y → ℕ) (k : X → ℕ) (xs : List X) → ((x : X) → f (h x) ≡ k x) → sum_by f (map h xs) ≡ sum_by k xs
sum-told h f k [] e = refl
sum-told h f k (x ∷ xs) e =
    omega (arith, sum_by-cons f (h x) (map h xs), sum_by-cons k x xs, e x, sum-told h f k xs e)

sum-ones : {X Y : Type 0} (h : X → Y) (f : Y → ℕ) (xs : List X) → ((x : X) → f (h x) ≡ 1) → sum_by f (map h xs) ≡ length xs
sum-ones h f [] e = refl
sum-ones h f (x ∷ xs) e = omega (arith, sum_by-cons f (h x) (map h xs), e x, sum-ones h f xs e)

sum-zeros : {X Y : Type 0} (h : X → Y) (f : Y → ℕ) (xs : List X) → ((x : X) → f (h x) ≡ 0) → sum_by f (map h xs) ≡ 0
sum-zeros h f [] e = refl
sum-zeros h f (x ∷ xs) e = omega (arith, sum_by-cons f (h x) (map h xs), e x, sum-zeros h f xs e)

edges-weight : (g : Plan) (k : Kind) → sum_by weight_of_call (edge_calls g k) ≡ weight_of k
edges-weight g (placed.Match fold keys peeks other) =
    let ks = map (key_call g) keys in
    let ps = map (peek_call g) peeks in
    omega (
      arith,
      sum_by-append weight_of_call (ks ++ ps) (other_call g other ∷ []),
      sum_by-append weight_of_call ks ps,
      sum_by-cons weight_of_call (other_call g other) [],
      sum-told (key_call g) weight_of_call (λ (k : Key). length k.bytes) keys (λ k. refl),
      sum-ones (peek_call g) weight_of_call peeks (λ p. refl),
    )
edges-weight g (placed.Invoke what answers other) =
    let xs = map (answer_call g) answers in
    omega (
      arith,
      sum_by-append weight_of_call xs (else_call g other ∷ []),
      sum_by-cons weight_of_call (else_call g other) [],
      sum-ones (answer_call g) weight_of_call answers (λ a. refl),
    )
edges-weight g (placed.Consume prop next) = refl
edges-weight g (placed.SpanOpen span next) = refl
edges-weight g (placed.SpanClose span next) = refl
edges-weight g (placed.Pause number reason next) = refl
edges-weight g (placed.Fail number reason) = refl

abbrev node_weight : Node → ℕ
node_weight n = weight_of n.kind

nodes-weight : (g : Plan) (nodes : List Node) → sum_by weight_of_call (flat_map (node_calls g) nodes) ≡ sum_by node_weight nodes
nodes-weight g [] = refl
nodes-weight g (n ∷ nodes) =
    let c = call.Node n.name (named_kind g n.kind) in
    omega (
      arith,
      sum_by-append weight_of_call (node_calls g n) (flat_map (node_calls g) nodes),
      sum_by-cons weight_of_call c (edge_calls g n.kind),
      edges-weight g n.kind,
      sum_by-cons node_weight n nodes,
      nodes-weight g nodes,
    )

ends-weight : (g : Plan) (i : ℕ) (rule : Option (ℕ × ℕ)) → sum_by weight_of_call (call.Entry (node_name g i) ∷ finish_calls g rule) ≡ 0
ends-weight g i none = refl
ends-weight g i (Some rule) = refl

pub calls-weight : (g : Plan) → sum_by weight_of_call (calls_of g) ≡ sum_by node_weight g.nodes
calls-weight g =
    let props = map prop_call g.props in
    let hosts = map host_call g.hosts in
    let spans = map span_call g.spans in
    let ends = ends_calls g in
    let nodes = nodes_calls g in
    ap (sum_by weight_of_call) (calls_of-parts g) ∙ omega (
      arith,
      sum_by-append weight_of_call props (hosts ++ (spans ++ (ends ++ nodes))),
      sum_by-append weight_of_call hosts (spans ++ (ends ++ nodes)),
      sum_by-append weight_of_call spans (ends ++ nodes),
      sum_by-append weight_of_call ends nodes,
      sum-zeros prop_call weight_of_call g.props (λ p. refl),
      sum-zeros host_call weight_of_call g.hosts (λ p. refl),
      sum-zeros span_call weight_of_call g.spans (λ p. refl),
      ends-weight g g.entry g.finish,
      nodes-weight g g.nodes,
    )

pub calls-light : (g : Plan) → IsWellFormed g → sum_by weight_of_call (calls_of g) ≤ 20000
calls-light g w = omega (arith, calls-weight g, w.light)
