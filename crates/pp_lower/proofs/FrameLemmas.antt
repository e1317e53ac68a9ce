-- The entry, the finish rule and the counts of the program of a well-formed graph.
use Rattle.std.proofs.Common.{◌≡◌, ℕ, suc, ◌+◌, ◌≤◌, ◌<◌, List, [], ◌∷◌, ◌++◌, Option, Some, None, Bool, true, refl, ◌∙◌, ap, arith, length, map, leb, ltb, ◌&&◌, length-append}
use Rattle.std.specs.Prelude.{slice_get, sum_by, not}
use Rattle.std.proofs.lemmas.Bool.{le-leb, lt-ltb}
use Rattle.pp_graph.specs.declared.node.Node.{Node}
use Rattle.pp_graph.specs.declared.node.Kind.{Kind}
use Rattle.pp_graph.specs.declared.node.Kind.TheVariants.{Match, Invoke, Consume, SpanOpen, SpanClose, Pause, Fail}
use Rattle.pp_graph.specs.Plan.{Plan, FinishFits, IsWellFormed, weight_of}
use Rattle.pp_program.specs.declared.program.Instr.{Instr}
use Rattle.pp_program.specs.FileLength.{file_length}
use Rattle.pp_program.specs.Targets.{leads, is_match_host, is_finish, are_counts, is_frame}
use Rattle.pp_lower.specs.Lowered.{inner_of, branch_of, size, root_of, states_of, states_from, states_by, lowered}
use Rattle.pp_lower.proofs.FromStates.{leads_first}
use Rattle.pp_lower.proofs.LengthLemmas.{file_short}
use Rattle.pp_lower.proofs.PlaceLemmas.{total_light, leads_below}
use Rattle.pp_lower.proofs.ValidTargets.{and_both}

map_long : {X Y : Type 0} (f : X → Y) (xs : List X) → length (map f xs) ≡ length xs
map_long f [] = refl
map_long f (x ∷ xs) = ap suc (map_long f xs)

-- how many states there are
states_size : (roots : ℕ → ℕ) (origin root : ℕ) (k : Kind) → length (states_of roots origin root k) ≡ size k
states_size roots origin root (Match folding keys peeks other) =
    map_long (λ (i : Instr). record { origin = origin; instr = i }) (map (branch_of roots root folding keys peeks other) ([] ∷ inner_of keys)) ∙ map_long (branch_of roots root folding keys peeks other) ([] ∷ inner_of keys)
states_size roots origin root (Invoke what answers other) = refl
states_size roots origin root (Consume prop next) = refl
states_size roots origin root (SpanOpen span next) = refl
states_size roots origin root (SpanClose span next) = refl
states_size roots origin root (Pause number reason next) = refl
states_size roots origin root (Fail number reason) = refl

states_count : (roots : ℕ → ℕ) (origin root : ℕ) (nodes : List Node) → length (states_from roots origin root nodes) ≡ root_of nodes (length nodes)
states_count roots origin root [] = refl
states_count roots origin root (n ∷ nodes) =
    let here : length (states_of roots origin root n.kind) ≡ size n.kind = states_size roots origin root n.kind in
    let rest : length (states_from roots (suc origin) (root + size n.kind) nodes) ≡ root_of nodes (length nodes) = states_count roots (suc origin) (root + size n.kind) nodes in
    let all : length (states_of roots origin root n.kind ++ states_from roots (suc origin) (root + size n.kind) nodes) ≡
    length (states_of roots origin root n.kind) + length (states_from roots (suc origin) (root + size n.kind) nodes) =
    length-append (states_of roots origin root n.kind) (states_from roots (suc origin) (root + size n.kind) nodes) in
    omega (arith, here, rest, all)

-- a well-formed graph gives so many states at most: one for each node, and one for each unit of weight
pub few_states : (g : Plan) → IsWellFormed g → length (lowered g).states ≤ 24096
few_states g form =
    let few_nodes : length g.nodes ≤ 4096 = form.few_nodes in
    let light : sum_by (λ (n : Node). weight_of n.kind) g.nodes ≤ 20000 = form.light in
    let count : length (lowered g).states ≡ root_of g.nodes (length g.nodes) = states_count (root_of g.nodes) 0 0 g.nodes in
    let most : root_of g.nodes (length g.nodes) ≤ length g.nodes + sum_by (λ (n : Node). weight_of n.kind) g.nodes = total_light g.nodes in
    omega (arith, few_nodes, light, count, most)

size_least : (k : Kind) → 1 ≤ size k
size_least (Match folding keys peeks other) = omega arith
size_least (Invoke what answers other) = omega arith
size_least (Consume prop next) = omega arith
size_least (SpanOpen span next) = omega arith
size_least (SpanClose span next) = omega arith
size_least (Pause number reason next) = omega arith
size_least (Fail number reason) = omega arith

some_states : (nodes : List Node) → 1 ≤ length nodes → 1 ≤ root_of nodes (length nodes)
some_states [] h = h
some_states (n ∷ nodes) h = (let one : 1 ≤ size n.kind = size_least n.kind in omega (arith, one))

finish_right : (g : Plan) (f : Option (ℕ × ℕ)) → FinishFits g f → is_finish (lowered g) f ≡ true
finish_right g None h = refl
finish_right g (Some rule) (low, host, there, plain) =
    and_both (ltb rule.0 (length g.props)) (is_match_host (slice_get g.hosts rule.1)) (lt-ltb rule.0 (length g.props) low)
    (ap is_match_host there ∙ ap not plain)

counts_right : (g : Plan) → IsWellFormed g → are_counts (lowered g) ≡ true
counts_right g form =
    let few_props : length g.props ≤ 64 = form.few_props in
    let few_hosts : length g.hosts ≤ 64 = form.few_hosts in
    let few_spans : length g.spans ≤ 32 = form.few_spans in
    let few_nodes : length g.nodes ≤ 4096 = form.few_nodes in
    let light : sum_by (λ (n : Node). weight_of n.kind) g.nodes ≤ 20000 = form.light in
    let entry : g.entry < length g.nodes = leads_below g None g.entry form.entry in
    let names : length (map (λ (n : Node). n.name) g.nodes) ≡ length g.nodes = map_long (λ (n : Node). n.name) g.nodes in
    let states : length (states_by g.nodes) ≡ root_of g.nodes (length g.nodes) = states_count (root_of g.nodes) 0 0 g.nodes in
    let most : root_of g.nodes (length g.nodes) ≤ length g.nodes + sum_by (λ (n : Node). weight_of n.kind) g.nodes = total_light g.nodes in
    let some : 1 ≤ root_of g.nodes (length g.nodes) = some_states g.nodes (omega (arith, entry)) in
    all (leb (length g.props) 64) (leb (length g.hosts) 64) (leb (length g.spans) 32) (leb 1 (length (map (λ (n : Node). n.name) g.nodes))) (leb (length (map (λ (n : Node). n.name) g.nodes)) 4096)
    (leb 1 (length (states_by g.nodes))) (leb (length (states_by g.nodes)) 65535) (leb (file_length (lowered g)) 16777216)
    (le-leb (length g.props) 64 few_props) (le-leb (length g.hosts) 64 few_hosts) (le-leb (length g.spans) 32 few_spans)
    (le-leb 1 (length (map (λ (n : Node). n.name) g.nodes)) (omega (arith, names, entry))) (le-leb (length (map (λ (n : Node). n.name) g.nodes)) 4096 (omega (arith, names, few_nodes)))
    (le-leb 1 (length (states_by g.nodes)) (omega (arith, states, some))) (le-leb (length (states_by g.nodes)) 65535 (omega (arith, states, most, few_nodes, light)))
    (le-leb (file_length (lowered g)) 16777216 (file_short g form))
  where
    all : (a b c d e f h i : Bool) → a ≡ true → b ≡ true → c ≡ true → d ≡ true → e ≡ true → f ≡ true → h ≡ true → i ≡ true → (a && b && c && d && e && f && h && i) ≡ true
    all a b c d e f h i p q r s t u v w =
        and_both (a && b && c && d && e && f && h) i (and_both (a && b && c && d && e && f) h (and_both (a && b && c && d && e) f (and_both (a && b && c && d) e (and_both (a && b && c) d
        (and_both (a && b) c (and_both a b p q) r) s) t) u) v) w

pub frame_right : (g : Plan) → IsWellFormed g → is_frame (lowered g) ≡ true
frame_right g form =
    and_both (leads (lowered g) None (root_of g.nodes g.entry) && is_finish (lowered g) g.finish) (are_counts (lowered g))
    (and_both (leads (lowered g) None (root_of g.nodes g.entry)) (is_finish (lowered g) g.finish) (leads_first g None g.entry form.entry) (finish_right g g.finish form.finish))
    (counts_right g form)
