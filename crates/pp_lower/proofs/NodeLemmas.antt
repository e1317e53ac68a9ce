-- Where the states of nodes begin, and what the states of all nodes are, node by node.
use Rattle.std.proofs.Common.{subst, ◌≡◌, ℕ, zero, suc, ◌+◌, ◌<◌, ◌≤◌, List, [], ◌∷◌, ◌++◌, refl, sym, ◌∙◌, ap, arith, length, get_or, drop, append_assoc, append-nil, zero-le, length-append, ◌^◌}
use Rattle.std.specs.List.{Contains}
use Rattle.pp_graph.specs.declared.node.Kind.{Kind}
use Rattle.pp_graph.specs.declared.node.Kind.TheVariants as kind
use Rattle.pp_graph.specs.declared.node.Node.{Node}
use Rattle.pp_bytes.specs.declared.fold.Fold.{Fold}
use Rattle.pp_graph.specs.declared.node.Key.{Key}
use Rattle.pp_graph.specs.declared.node.Peek.{Peek}
use Rattle.pp_graph.specs.declared.node.Other.{Other}
use Rattle.pp_graph.specs.declared.node.Code.{Code}
use Rattle.pp_graph.specs.declared.node.Answer.{Answer}
use Rattle.pp_program.specs.declared.program.State.{State}
use Rattle.pp_lower.specs.Lowered.{size, root_of, states_of, states_from}
use Rattle.pp_lower.specs.steps.Parts.{Gives, CanBePlaced, KindBelow, total}
use Rattle.pp_lower.proofs.CutLemmas.{drop_at, drop_all}

root_zero : (nodes : List Node) → root_of nodes 0 ≡ 0
root_zero [] = refl
root_zero (x ∷ nodes) = refl

size_some : (k : Kind) → 1 ≤ size k
size_some (kind.Match fold keys peeks other) = omega arith
size_some (kind.Invoke code answers other) = omega arith
size_some (kind.Consume p next) = omega arith
size_some (kind.SpanOpen s next) = omega arith
size_some (kind.SpanClose s next) = omega arith
size_some (kind.Pause code reason next) = omega arith
size_some (kind.Fail code reason) = omega arith

root_next : (nodes : List Node) (i : ℕ) (n : Node) → i < length nodes → n ≡ get_or nodes i n → root_of nodes (suc i) ≡ root_of nodes i + size n.kind
root_next [] i n h e = absurd (omega arith)
root_next (x ∷ nodes) zero n h e =
    let first : root_of nodes 0 ≡ 0 = root_zero nodes in
    let same : size n.kind ≡ size x.kind = ap (λ (z : Node). size z.kind) e in
    omega (arith, first, same)
root_next (x ∷ nodes) (suc i) n h e =
    let rest : root_of nodes (suc i) ≡ root_of nodes i + size n.kind = root_next nodes i n (omega arith) e in
    omega (arith, rest)

pub root_most : (nodes : List Node) (i : ℕ) → i ≤ length nodes → root_of nodes i ≤ total nodes
root_most [] i h = zero-le
root_most (x ∷ nodes) zero h = zero-le
root_most (x ∷ nodes) (suc i) h = (let rest : root_of nodes i ≤ root_of nodes (length nodes) = root_most nodes i (omega arith) in omega arith)

root_least : (nodes : List Node) (i : ℕ) → i ≤ length nodes → i ≤ root_of nodes i
root_least [] i h = omega arith
root_least (x ∷ nodes) zero h = zero-le
root_least (x ∷ nodes) (suc i) h =
    let rest : i ≤ root_of nodes i = root_least nodes i (omega arith) in
    let one : 1 ≤ size x.kind = size_some x.kind in
    omega arith

-- the places of the first i nodes
pub record Rooted (nodes : List Node) (roots : List ℕ) (next i : ℕ) : Type 0 where
  pub long : length roots ≡ i
  pub next_is : next ≡ root_of nodes i
  pub gives : Gives roots (root_of nodes)

pub rooted_none : (nodes : List Node) → Rooted nodes [] 0 0
rooted_none nodes = record { long = refl; next_is = sym (root_zero nodes); gives = λ i h. absurd (omega arith) }

pub rooted_fits : (nodes : List Node) (roots : List ℕ) (next i : ℕ) (n : Node) (s : ℕ) → Rooted nodes roots next i → i < length nodes → n ≡ get_or nodes i n → s ≡ size n.kind → next + s ≤ total nodes
rooted_fits nodes roots next i n s r h e d =
    let step : root_of nodes (suc i) ≡ root_of nodes i + size n.kind = root_next nodes i n h e in
    let most : root_of nodes (suc i) ≤ total nodes = root_most nodes (suc i) (omega arith) in
    omega (arith, r.next_is, step, most, d)

get_last : (l : List ℕ) (x : ℕ) (f : ℕ → ℕ) → Gives l f → x ≡ f (length l) → Gives (l ++ x ∷ []) f
get_last [] x f h e = λ i n. go i n
  where
    go : (i : ℕ) → i < 1 → get_or (x ∷ []) i 0 ≡ f i
    go zero n = e
    go (suc i) n = absurd (omega arith)
get_last (y ∷ l) x f h e = both (get_last l x (λ n. f (suc n)) (λ i n. h (suc i) (omega arith)) e)
  where
    both : Gives (l ++ x ∷ []) (λ n. f (suc n)) → Gives (y ∷ l ++ x ∷ []) f
    both r = λ i n. go i n
      where
        go : (i : ℕ) → i < length (y ∷ l ++ x ∷ []) → get_or (y ∷ l ++ x ∷ []) i 0 ≡ f i
        go zero n = h 0 (omega arith)
        go (suc i) n = r i (omega arith)

pub rooted_more : (nodes : List Node) (old new : List ℕ) (next later i j : ℕ) (n : Node) (s : ℕ) → Rooted nodes old next i → j ≡ suc i → i < length nodes → n ≡ get_or nodes i n → s ≡ size n.kind →
    new ≡ old ++ next ∷ [] → later ≡ next + s → Rooted nodes new later j
rooted_more nodes old new next later i j n s r u h e d w l =
    let step : root_of nodes (suc i) ≡ root_of nodes i + size n.kind = root_next nodes i n h e in
    let long : length (old ++ next ∷ []) ≡ length old + 1 = length-append old (next ∷ []) in
    let same : length new ≡ length (old ++ next ∷ []) = ap length w in
    let gives : Gives (old ++ next ∷ []) (root_of nodes) = get_last old next (root_of nodes) r.gives (r.next_is ∙ ap (root_of nodes) (sym r.long)) in
    record {
      long = omega (arith, long, same, r.long, u);
      next_is = l ∙ (let total_is : next + s ≡ root_of nodes (suc i) = omega (arith, r.next_is, step, d) in total_is) ∙ ap (root_of nodes) (sym u);
      gives = subst (λ (x : List ℕ). Gives x (root_of nodes)) (sym w) gives;
    }

-- the states so far, and those of the nodes that are left
abbrev pub StatesSo : List Node → List State → ℕ → Type 0
StatesSo nodes states i = states ++ states_from (root_of nodes) i (root_of nodes i) (drop i nodes) ≡ states_from (root_of nodes) 0 0 nodes

pub states_none : (nodes : List Node) → StatesSo nodes [] 0
states_none nodes = ap (λ (x : ℕ). states_from (root_of nodes) 0 x nodes) (root_zero nodes)

pub states_next : (nodes : List Node) (old new : List State) (i j : ℕ) (n : Node) (root : ℕ) → StatesSo nodes old i → j ≡ suc i → i < length nodes → n ≡ get_or nodes i n → root ≡ root_of nodes i →
    new ≡ old ++ states_of (root_of nodes) i root n.kind → StatesSo nodes new j
states_next nodes old new i j n root h u l e r w =
    subst (StatesSo nodes new) (sym u)
    (ap (λ (x : List State). x ++ states_from (root_of nodes) (suc i) (root_of nodes (suc i)) (drop (suc i) nodes)) (w ∙ ap (λ (x : ℕ). old ++ states_of (root_of nodes) i x n.kind) r)
    ∙ append_assoc old (states_of (root_of nodes) i (root_of nodes i) n.kind) (states_from (root_of nodes) (suc i) (root_of nodes (suc i)) (drop (suc i) nodes))
    ∙ ap (λ (x : ℕ). old ++ (states_of (root_of nodes) i (root_of nodes i) n.kind ++ states_from (root_of nodes) (suc i) x (drop (suc i) nodes))) (root_next nodes i n l e)
    ∙ ap (λ (x : List Node). old ++ states_from (root_of nodes) i (root_of nodes i) x) (sym (drop_at nodes i n l e))
    ∙ h)

pub states_whole : (nodes : List Node) (states : List State) (i : ℕ) → StatesSo nodes states i → i ≡ length nodes → states ≡ states_from (root_of nodes) 0 0 nodes
states_whole nodes states i h e =
    let whole : StatesSo nodes states (length nodes) = subst (StatesSo nodes states) e h in
    sym (append-nil states)
    ∙ ap (λ (x : List Node). states ++ states_from (root_of nodes) (length nodes) (root_of nodes (length nodes)) x) (sym (drop_all nodes))
    ∙ whole

pub place_fits : (nodes : List Node) (i : ℕ) → total nodes < 2 ^ 32 → i < length nodes → i < 2 ^ 32
place_fits nodes i f h =
    let least : i ≤ root_of nodes i = root_least nodes i (omega arith) in
    let most : root_of nodes i ≤ total nodes = root_most nodes i (omega arith) in
    omega (arith, least, most, f)

pub node_below : (nodes : List Node) (i : ℕ) (n : Node) (m : ℕ) → CanBePlaced nodes → i < length nodes → n ≡ get_or nodes i n → m ≡ length nodes → KindBelow m n.kind
node_below nodes i n m c h e u = subst (λ (x : ℕ). KindBelow x n.kind) (sym u) (c.below n (i, h, sym e))

pub node_fits : (nodes : List Node) (i : ℕ) (n : Node) (root : ℕ) → total nodes < 2 ^ 32 → i < length nodes → n ≡ get_or nodes i n → root ≡ root_of nodes i → root + size n.kind ≤ 2 ^ 32
node_fits nodes i n root f h e r =
    let step : root_of nodes (suc i) ≡ root_of nodes i + size n.kind = root_next nodes i n h e in
    let most : root_of nodes (suc i) ≤ total nodes = root_most nodes (suc i) (omega arith) in
    omega (arith, r, step, most, f)

pub match_keys : (n : ℕ) (k : Kind) (fold : Fold) (keys l : List Key) (peeks : List Peek) (other : Other) → k ≡ kind.Match fold keys peeks other → KindBelow n k → l ≡ keys → (x : Key) → Contains l x → x.target < n
match_keys n k fold keys l peeks other e b h =
    subst (λ (m : List Key). (x : Key) → Contains m x → x.target < n) (sym h) (subst (KindBelow n) e b).0

pub match_peeks : (n : ℕ) (k : Kind) (fold : Fold) (keys : List Key) (peeks l : List Peek) (other : Other) → k ≡ kind.Match fold keys peeks other → KindBelow n k → l ≡ peeks → (x : Peek) → Contains l x → x.target < n
match_peeks n k fold keys peeks l other e b h =
    subst (λ (m : List Peek). (x : Peek) → Contains m x → x.target < n) (sym h) (subst (KindBelow n) e b).1

pub invoke_answers : (n : ℕ) (k : Kind) (code : Code) (answers l : List Answer) (other : ℕ) → k ≡ kind.Invoke code answers other → KindBelow n k → l ≡ answers → (x : Answer) → Contains l x → x.target < n
invoke_answers n k code answers l other e b h =
    subst (λ (m : List Answer). (x : Answer) → Contains m x → x.target < n) (sym h) (subst (KindBelow n) e b).0

pub table_gives : (table roots : List ℕ) (f : ℕ → ℕ) → table ≡ roots → Gives roots f → Gives table f
table_gives table roots f e g = subst (λ (l : List ℕ). Gives l f) (sym e) g
