-- The weight of a graph is at most that of its calls.
use Rattle.std.proofs.Common.{◌≡◌, ℕ, ◌+◌, ◌≤◌, List, [], ◌∷◌, ◌++◌, false, ◌||◌, nat_lt, nat_le, length, filter_map, sum_by, Option, Some, arith}
use Rattle.std.specs.Prelude.{None as none}
use Rattle.std.specs.List.{cons_option}
use Rattle.std.proofs.lemmas.List.Sums.{sum_by-cons, sum_by_push}
use Rattle.pp_graph.specs.declared.node.Key.{Key}
use Rattle.pp_graph.specs.declared.node.Node.{Node}
use Rattle.pp_rules.specs.declared.call.NamedKind.{NamedKind}
use Rattle.pp_rules.specs.declared.call.NamedKind.TheVariants as kind
use Rattle.pp_rules.specs.declared.call.NamedEdge.{NamedEdge}
use Rattle.pp_rules.specs.declared.call.NamedEdge.TheVariants as edge
use Rattle.pp_rules.specs.declared.call.BuilderCall.{BuilderCall}
use Rattle.pp_rules.specs.declared.call.BuilderCall.TheVariants as call
use Rattle.pp_graph.specs.Plan.{weight_of}
use Rattle.pp_rules.specs.Calls.{own_calls}
use Rattle.pp_rules.specs.Declarations.{Tables}
use Rattle.pp_graph.specs.Built.{key_edge, peek_edge, answer_edge, kind_of, nodes_in}
use Rattle.pp_rules.specs.Rules.Limits.{weight_of_edge, weight_of_call, passes_limit}
use Rattle.pp_rules.specs.Edges.{keys_of}
use Rattle.pp_rules.specs.Calls.{since_node}
use Rattle.pp_rules.proofs.ListLemmas.{or_false_right}
use Rattle.pp_graph.proofs.SoundLemmas.{IsSound, AreSound, along, below_from, within_from}

-- the weight of a value that is there
abbrev of_some : {Y : Type 0} → (Y → ℕ) → Option Y → ℕ
of_some f none = 0
of_some f (Some y) = f y

sum-cons_option : {Y : Type 0} (f : Y → ℕ) (o : Option Y) (ys : List Y) → sum_by f (cons_option o ys) ≡ of_some f o + sum_by f ys
sum-cons_option f none ys = omega arith
sum-cons_option f (Some y) ys = sum_by-cons f y ys

length-cons : {Y : Type 0} (o : Option Y) (ys : List Y) → length (cons_option o ys) ≡ of_some (λ y. 1) o + length ys
length-cons none ys = omega arith
length-cons (Some y) ys = omega arith

abbrev key_weight : Key → ℕ
key_weight k = length k.bytes

-- at each call
match-weight : (t : Tables) (c : BuilderCall) → of_some key_weight (key_edge t c) + of_some (λ p. 1) (peek_edge t c) ≤ weight_of_call c
match-weight t (call.Edge (edge.Key bytes number) target) = omega arith
match-weight t c = omega arith

answer-weight : (t : Tables) (c : BuilderCall) → of_some (λ a. 1) (answer_edge t c) ≤ weight_of_call c
answer-weight t (call.Edge (edge.Answer number) target) = omega arith
answer-weight t c = omega arith

matches-weight : (t : Tables) (own : List BuilderCall) → sum_by key_weight (filter_map (key_edge t) own) + length (filter_map (peek_edge t) own) ≤ sum_by weight_of_call own
matches-weight t [] = omega arith
matches-weight t (c ∷ own) =
    omega (arith, sum_by-cons weight_of_call c own, match-weight t c, matches-weight t own, sum-cons_option key_weight (key_edge t c) (filter_map (key_edge t) own), length-cons (peek_edge t c) (filter_map (peek_edge t) own))

answers-weight : (t : Tables) (own : List BuilderCall) → length (filter_map (answer_edge t) own) ≤ sum_by weight_of_call own
answers-weight t [] = omega arith
answers-weight t (c ∷ own) =
    omega (arith, sum_by-cons weight_of_call c own, answer-weight t c, answers-weight t own, length-cons (answer_edge t c) (filter_map (answer_edge t) own))

kind-weight : (t : Tables) (what : NamedKind) (own : List BuilderCall) → weight_of (kind_of t what own) ≤ sum_by weight_of_call own
kind-weight t (kind.Match fold) own = matches-weight t own
kind-weight t (kind.Invoke what) own = answers-weight t own
kind-weight t (kind.Consume prop) own = omega arith
kind-weight t (kind.SpanOpen span) own = omega arith
kind-weight t (kind.SpanClose span) own = omega arith
kind-weight t (kind.Pause number reason) own = omega arith
kind-weight t (kind.Fail number reason) own = omega arith

abbrev pub node_weight : Node → ℕ
node_weight n = weight_of n.kind

-- the nodes together weigh at most as much as the calls, beside those before the first node
other-weight : (c : BuilderCall) (nodes : ℕ) (own calls : List BuilderCall) → nodes + sum_by weight_of_call own ≤ sum_by weight_of_call calls → nodes + sum_by weight_of_call (c ∷ own) ≤ sum_by weight_of_call (c ∷ calls)
other-weight c nodes own calls h = omega (arith, sum_by-cons weight_of_call c own, sum_by-cons weight_of_call c calls)

pub nodes-weight : (t : Tables) (calls : List BuilderCall) → sum_by node_weight (nodes_in t calls) + sum_by weight_of_call (own_calls calls) ≤ sum_by weight_of_call calls
nodes-weight t [] = omega arith
nodes-weight t (call.Prop name width ∷ calls) = other-weight (call.Prop name width) _ (own_calls calls) calls (nodes-weight t calls)
nodes-weight t (call.Host name value ∷ calls) = other-weight (call.Host name value) _ (own_calls calls) calls (nodes-weight t calls)
nodes-weight t (call.Span name ∷ calls) = other-weight (call.Span name) _ (own_calls calls) calls (nodes-weight t calls)
nodes-weight t (call.Entry node ∷ calls) = other-weight (call.Entry node) _ (own_calls calls) calls (nodes-weight t calls)
nodes-weight t (call.Finish prop host ∷ calls) = other-weight (call.Finish prop host) _ (own_calls calls) calls (nodes-weight t calls)
nodes-weight t (call.Node name what ∷ calls) =
    let here : Node = record { name = name; kind = kind_of t what (own_calls calls) } in
    omega (arith, sum_by-cons weight_of_call (call.Node name what) calls, sum_by-cons node_weight here (nodes_in t calls), kind-weight t what (own_calls calls), nodes-weight t calls)
nodes-weight t (call.Edge when target ∷ calls) = other-weight (call.Edge when target) _ (own_calls calls) calls (nodes-weight t calls)

-- the calls weigh at most 20,000
edge-light : (front : List BuilderCall) (when : NamedEdge) (target : List ℕ) → passes_limit front (call.Edge when target) ≡ false → sum_by weight_of_call front ≤ 20000 → sum_by weight_of_call front + weight_of_edge when ≤ 20000
edge-light front (edge.Key bytes number) target h n =
    within_from 20000 (sum_by weight_of_call front + length bytes) (or_false_right (nat_lt 64 (length bytes) || nat_le 2048 (length (keys_of (since_node front)))) _ h)
edge-light front (edge.Peek byte) target h n = omega (arith, below_from 20000 (sum_by weight_of_call front) h)
edge-light front (edge.Answer number) target h n = omega (arith, below_from 20000 (sum_by weight_of_call front) h)
edge-light front (edge.Otherwise skip) target h n = omega arith

call-light : (front : List BuilderCall) (c : BuilderCall) → passes_limit front c ≡ false → sum_by weight_of_call front ≤ 20000 → sum_by weight_of_call front + weight_of_call c ≤ 20000
call-light front (call.Edge when target) h n = edge-light front when target h n
call-light front c h n = omega arith

light-step : (all front : List BuilderCall) (c : BuilderCall) (rest : List BuilderCall) → IsSound all front c rest → sum_by weight_of_call front ≤ 20000 → sum_by weight_of_call (front ++ c ∷ []) ≤ 20000
light-step all front c rest s n = rw (sum_by_push weight_of_call front c) (call-light front c s.within n)

pub calls-light : (all : List BuilderCall) → AreSound all [] all → sum_by weight_of_call all ≤ 20000
calls-light all s = along (λ cs. sum_by weight_of_call cs ≤ 20000) all [] all s (light-step all) (omega arith)
