-- The file of the program of a well-formed graph keeps its limit.
use Rattle.std.proofs.Common.{◌≡◌, ℕ, suc, ◌+◌, ◌*◌, ◌≤◌, List, [], ◌∷◌, ◌++◌, Option, Some, None, Bool, true, false, refl, arith, length, map, leb, ◌&&◌, zero-le}
use Rattle.std.specs.Prelude.{sum_by}
use Rattle.std.specs.List.{list_all}
use Rattle.std.proofs.lemmas.Bool.{leb-true, false≢true}
use Rattle.std.proofs.lemmas.List.Sums.{sum_by-cons, sum_by-append}
use Rattle.pp_bytes.specs.declared.fold.Fold.{Fold}
use Rattle.pp_rules.specs.Names.{IsName, IsReason, begins_name, continues_name, is_plain_byte}
use Rattle.pp_rules.specs.declared.declaration.PropDecl.{PropDecl}
use Rattle.pp_rules.specs.declared.declaration.HostDecl.{HostDecl}
use Rattle.pp_rules.specs.declared.declaration.SpanDecl.{SpanDecl}
use Rattle.pp_graph.specs.declared.node.Code.{Code}
use Rattle.pp_graph.specs.declared.node.Code.TheVariants as code
use Rattle.pp_graph.specs.declared.node.Key.{Key}
use Rattle.pp_graph.specs.declared.node.Peek.{Peek}
use Rattle.pp_graph.specs.declared.node.Other.{Other}
use Rattle.pp_graph.specs.declared.node.Kind.{Kind}
use Rattle.pp_graph.specs.declared.node.Kind.TheVariants.{Match, Invoke, Consume, SpanOpen, SpanClose, Pause, Fail}
use Rattle.pp_graph.specs.declared.node.Node.{Node}
use Rattle.pp_graph.specs.Plan.{Plan, EachIs, FitsIn, IsWellFormed, weight_of}
use Rattle.pp_program.specs.declared.program.Edge.{Edge}
use Rattle.pp_program.specs.declared.program.Instr.{Instr}
use Rattle.pp_program.specs.declared.program.Instr.TheVariants as instr
use Rattle.pp_program.specs.declared.program.State.{State}
use Rattle.pp_program.specs.FileLength.{text_length, number_length, edge_length, code_length, state_length, finish_length, file_length}
use Rattle.pp_program.specs.Merge.{merged}
use Rattle.pp_lower.specs.Tree.{each_below}
use Rattle.pp_lower.specs.Lowered.{inner_of, key_of, edge_at, rest_by, branch_of, answers_of, size, root_of, states_of, states_from, states_by, lowered}
use Rattle.pp_lower.proofs.EdgeCounts.{node_edges}
use Rattle.pp_lower.proofs.ValidTargets.{length-answers}
use Rattle.pp_lower.proofs.PlaceLemmas.{size_light}

-- each term is so large at most
sum_most : {X : Type 0} (f : X → ℕ) (m : ℕ) (xs : List X) → EachIs (λ (x : X). f x ≤ m) xs → sum_by f xs ≤ m * length xs
sum_most f m [] each = zero-le
sum_most f m (x ∷ xs) each =
    let here : f x ≤ m = each 0 x refl in
    let rest : sum_by f xs ≤ m * length xs = sum_most f m xs (λ i y e. each (suc i) y e) in
    let wide : m * suc (length xs) ≡ m + m * length xs = omega arith in
    omega (arith, here, rest, wide, sum_by-cons f x xs)

last_of : (a b c : Bool) → (a && b && c) ≡ true → c ≡ true
last_of true true c h = h
last_of true false c h = absurd (false≢true h)
last_of false b c h = absurd (false≢true h)

name_long : (name : List ℕ) → IsName name → text_length name ≤ 33
name_long [] h = omega arith
name_long (b ∷ bytes) h =
    let short : length bytes ≤ 31 = leb-true (length bytes) 31 (last_of (begins_name b) (list_all continues_name bytes) (leb (length bytes) 31) h) in
    omega (arith, short)

mid_of : (a b c : Bool) → (a && b && c) ≡ true → b ≡ true
mid_of true true c h = refl
mid_of true false c h = h
mid_of false b c h = absurd (false≢true h)

reason_long : (reason : List ℕ) → IsReason reason → text_length reason ≤ 81
reason_long reason h =
    let short : length reason ≤ 80 = leb-true (length reason) 80 (mid_of (leb 1 (length reason)) (leb (length reason) 80) (list_all is_plain_byte reason) h) in
    omega (arith, short)

number_long : (n : Option ℕ) → number_length n ≤ 4
number_long None = omega arith
number_long (Some n) = omega arith

edges_long : (edges : List Edge) → sum_by edge_length edges ≤ 9 * length edges
edges_long edges = sum_most edge_length 9 edges (λ i e h. (let n : number_length e.number ≤ 4 = number_long e.number in omega (arith, n)))

code_long : (c : Code) → code_length c ≤ 13
code_long (code.Call host) = omega arith
code_long (code.Store prop) = omega arith
code_long (code.Load prop) = omega arith
code_long (code.Update prop value) = omega arith
code_long (code.Equal prop value) = omega arith
code_long (code.And prop value) = omega arith
code_long (code.Or prop value) = omega arith
code_long (code.Test prop value) = omega arith
code_long (code.MulAdd prop base most) = omega arith

-- the states of a match node
module _ (roots : ℕ → ℕ) (origin root : ℕ) (folding : Fold) (keys : List Key) (peeks : List Peek) (other : Other) where
  abbrev edges_of : List ℕ → List Edge
  edges_of p = merged (each_below (edge_at roots root keys peeks p) 256)

  abbrev made : List ℕ → State
  made p = record { origin = origin; instr = branch_of roots root folding keys peeks other p }

  branch_long : (p : List ℕ) → state_length (made p) ≤ 14 + 9 * length (edges_of p)
  branch_long p =
      let edges : sum_by edge_length (edges_of p) ≤ 9 * length (edges_of p) = edges_long (edges_of p) in
      let rest : number_length (rest_by roots other (key_of keys p)).number ≤ 4 = number_long (rest_by roots other (key_of keys p)).number in
      omega (arith, edges, rest)

  rows_long : (rows : List (List ℕ)) → sum_by state_length (map (λ (i : Instr). record { origin = origin; instr = i }) (map (branch_of roots root folding keys peeks other) rows)) ≤ 14 * length rows + 9 * sum_by (λ (p : List ℕ). length (edges_of p)) rows
  rows_long [] = omega arith
  rows_long (p ∷ rows) =
      let here : state_length (made p) ≤ 14 + 9 * length (edges_of p) = branch_long p in
      let rest : sum_by state_length (map (λ (i : Instr). record { origin = origin; instr = i }) (map (branch_of roots root folding keys peeks other) rows)) ≤ 14 * length rows + 9 * sum_by (λ (q : List ℕ). length (edges_of q)) rows = rows_long rows in
      let all : sum_by state_length (made p ∷ map (λ (i : Instr). record { origin = origin; instr = i }) (map (branch_of roots root folding keys peeks other) rows)) ≡
      state_length (made p) + sum_by state_length (map (λ (i : Instr). record { origin = origin; instr = i }) (map (branch_of roots root folding keys peeks other) rows)) =
      sum_by-cons state_length (made p) (map (λ (i : Instr). record { origin = origin; instr = i }) (map (branch_of roots root folding keys peeks other) rows)) in
      omega (arith, here, rest, all, sum_by-cons (λ (q : List ℕ). length (edges_of q)) p rows)

one_long : (s : State) (n : ℕ) → state_length s ≤ n → sum_by state_length (s ∷ []) ≤ n
one_long s n h = (let all : sum_by state_length (s ∷ []) ≡ state_length s + 0 = sum_by-cons state_length s [] in omega (arith, h, all))

-- the states of a node
node_long : (g : Plan) (roots : ℕ → ℕ) (origin root : ℕ) (k : Kind) → FitsIn g k → sum_by state_length (states_of roots origin root k) ≤ 90 + 99 * weight_of k
node_long g roots origin root (Match folding keys peeks other) fits =
    let rows : sum_by state_length (states_of roots origin root (Match folding keys peeks other)) ≤
    14 * suc (length (inner_of keys)) + 9 * sum_by (λ (p : List ℕ). length (merged (each_below (edge_at roots root keys peeks p) 256))) ([] ∷ inner_of keys) =
    rows_long roots origin root folding keys peeks other ([] ∷ inner_of keys) in
    let edges : sum_by (λ (p : List ℕ). length (merged (each_below (edge_at roots root keys peeks p) 256))) ([] ∷ inner_of keys) ≤ sum_by (λ (k : Key). length k.bytes) keys + length peeks = node_edges roots root keys peeks in
    let light : suc (length (inner_of keys)) ≤ suc (sum_by (λ (k : Key). length k.bytes) keys + length peeks) = size_light (Match folding keys peeks other) in
    omega (arith, rows, edges, light)
node_long g roots origin root (Invoke what answers other) fits =
    let long : length (answers_of roots answers) ≡ length answers = length-answers roots answers in
    let few : code_length what ≤ 13 = code_long what in
    one_long (record { origin = origin; instr = instr.Invoke what (answers_of roots answers) (roots other) }) (90 + 99 * length answers) (omega (arith, long, few))
node_long g roots origin root (Consume prop next) fits = one_long (record { origin = origin; instr = instr.Consume prop (roots next) }) 90 (omega arith)
node_long g roots origin root (SpanOpen span next) fits = one_long (record { origin = origin; instr = instr.SpanOpen span (roots next) }) 90 (omega arith)
node_long g roots origin root (SpanClose span next) fits = one_long (record { origin = origin; instr = instr.SpanClose span (roots next) }) 90 (omega arith)
node_long g roots origin root (Pause number reason next) fits = (let few : text_length reason ≤ 81 = reason_long reason fits.0 in one_long (record { origin = origin; instr = instr.Pause number reason (roots next) }) 90 (omega (arith, few)))
node_long g roots origin root (Fail number reason) fits = (let few : text_length reason ≤ 81 = reason_long reason fits in one_long (record { origin = origin; instr = instr.Fail number reason }) 90 (omega (arith, few)))

nodes_long : (g : Plan) (roots : ℕ → ℕ) (origin root : ℕ) (nodes : List Node) → EachIs (λ (n : Node). FitsIn g n.kind) nodes →
    sum_by state_length (states_from roots origin root nodes) ≤ 90 * length nodes + 99 * sum_by (λ (n : Node). weight_of n.kind) nodes
nodes_long g roots origin root [] fits = zero-le
nodes_long g roots origin root (n ∷ nodes) fits =
    let here : sum_by state_length (states_of roots origin root n.kind) ≤ 90 + 99 * weight_of n.kind = node_long g roots origin root n.kind (fits 0 n refl) in
    let rest : sum_by state_length (states_from roots (suc origin) (root + size n.kind) nodes) ≤ 90 * length nodes + 99 * sum_by (λ (m : Node). weight_of m.kind) nodes =
    nodes_long g roots (suc origin) (root + size n.kind) nodes (λ i m e. fits (suc i) m e) in
    let all : sum_by state_length (states_of roots origin root n.kind ++ states_from roots (suc origin) (root + size n.kind) nodes) ≡
    sum_by state_length (states_of roots origin root n.kind) + sum_by state_length (states_from roots (suc origin) (root + size n.kind) nodes) =
    sum_by-append state_length (states_of roots origin root n.kind) (states_from roots (suc origin) (root + size n.kind) nodes) in
    omega (arith, here, rest, all, sum_by-cons (λ (m : Node). weight_of m.kind) n nodes)

names_long : (nodes : List Node) → EachIs (λ (n : Node). IsName n.name) nodes → sum_by text_length (map (λ (n : Node). n.name) nodes) ≤ 33 * length nodes
names_long [] named = zero-le
names_long (n ∷ nodes) named =
    let here : text_length n.name ≤ 33 = name_long n.name (named 0 n refl) in
    let rest : sum_by text_length (map (λ (m : Node). m.name) nodes) ≤ 33 * length nodes = names_long nodes (λ i m e. named (suc i) m e) in
    omega (arith, here, rest, sum_by-cons text_length n.name (map (λ (m : Node). m.name) nodes))

finish_long : (f : Option (ℕ × ℕ)) → finish_length f ≤ 3
finish_long None = omega arith
finish_long (Some rule) = omega arith

pub file_short : (g : Plan) → IsWellFormed g → file_length (lowered g) ≤ 16777216
file_short g form =
    let props : sum_by (λ (d : PropDecl). text_length d.name + 1) g.props ≤ 34 * length g.props =
    sum_most (λ (d : PropDecl). text_length d.name + 1) 34 g.props (λ i d e. (let few : text_length d.name ≤ 33 = name_long d.name (form.props_named i d e) in omega (arith, few))) in
    let hosts : sum_by (λ (d : HostDecl). text_length d.name + 1) g.hosts ≤ 34 * length g.hosts =
    sum_most (λ (d : HostDecl). text_length d.name + 1) 34 g.hosts (λ i d e. (let few : text_length d.name ≤ 33 = name_long d.name (form.hosts_named i d e) in omega (arith, few))) in
    let spans : sum_by (λ (d : SpanDecl). text_length d.name) g.spans ≤ 33 * length g.spans = sum_most (λ (d : SpanDecl). text_length d.name) 33 g.spans (λ i d e. name_long d.name (form.spans_named i d e)) in
    let names : sum_by text_length (map (λ (n : Node). n.name) g.nodes) ≤ 33 * length g.nodes = names_long g.nodes form.nodes_named in
    let states : sum_by state_length (states_by g.nodes) ≤ 90 * length g.nodes + 99 * sum_by (λ (n : Node). weight_of n.kind) g.nodes = nodes_long g (root_of g.nodes) 0 0 g.nodes form.kinds in
    let finish : finish_length g.finish ≤ 3 = finish_long g.finish in
    let few_props : length g.props ≤ 64 = form.few_props in
    let few_hosts : length g.hosts ≤ 64 = form.few_hosts in
    let few_spans : length g.spans ≤ 32 = form.few_spans in
    let few_nodes : length g.nodes ≤ 4096 = form.few_nodes in
    let light : sum_by (λ (n : Node). weight_of n.kind) g.nodes ≤ 20000 = form.light in
    omega (arith, props, hosts, spans, names, states, finish, few_props, few_hosts, few_spans, few_nodes, light)
