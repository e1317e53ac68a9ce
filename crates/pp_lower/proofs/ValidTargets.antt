-- Each state of a lowered program keeps the rule on targets.
use Rattle.std.proofs.Common.{subst, ◌≡◌, ℕ, zero, suc, ◌+◌, ◌≤◌, ◌<◌, List, [], ◌∷◌, ◌++◌, Option, Some, None, Bool, true, false, cond, refl, sym, ◌∙◌, ap, arith, length, map, inl, inr, get_or, ◌&&◌, leb, length-append}
use Rattle.std.specs.Prelude.{◌⊎◌, nat_le, nat_lt, is_none, slice_get, sum_by}
use Rattle.std.specs.List.{Any, list_all}
use Rattle.std.proofs.lemmas.Bool.{lt-ltb, le-leb, leb-true, leb-false, false≢true}
use Rattle.std.proofs.lemmas.List.{length-map}
use Rattle.std.proofs.lemmas.List.Sums.{sum_by-cons}
use Rattle.std.proofs.lemmas.Option.{slice_get_within}
use Rattle.pp_bytes.specs.declared.fold.Fold.{Fold}
use Rattle.pp_graph.specs.declared.node.Key.{Key}
use Rattle.pp_graph.specs.declared.node.Peek.{Peek}
use Rattle.pp_graph.specs.declared.node.Answer.{Answer}
use Rattle.pp_graph.specs.declared.node.Other.{Other}
use Rattle.pp_graph.specs.declared.node.Code.{Code}
use Rattle.pp_graph.specs.declared.node.Code.TheVariants as code
use Rattle.pp_graph.specs.declared.node.Kind.{Kind}
use Rattle.pp_graph.specs.declared.node.Kind.TheVariants as kind
use Rattle.pp_graph.specs.declared.node.Node.{Node}
use Rattle.pp_graph.specs.Plan.{Plan, AreDistinct, Leads, Holds, CodeFits, AreEdges, AreAnswers, FitsIn, weight_of, IsWellFormed}
use Rattle.pp_program.specs.declared.program.Edge.{Edge}
use Rattle.pp_program.specs.declared.program.Instr.{Instr}
use Rattle.pp_program.specs.declared.program.State.{State}
use Rattle.pp_program.specs.declared.program.Program.{Program}
use Rattle.pp_program.specs.Targets.{leads, is_plain_state, is_edge, is_rest, may_follow, in_row, row_behind, is_answer, answer_follows, is_code, are_edges, are_answers, is_instr, is_state, most_edges, most_answers}
use Rattle.pp_program.specs.Merge.{merged}
use Rattle.pp_program.proofs.MergeLaws.{bare, AscendsFrom, HasEdge, merged-short, merged-ascends, merged-in-row, merged-has}
use Rattle.pp_lower.specs.Tree.{listed, each_below, place_of}
use Rattle.pp_lower.specs.Lowered.{inner_of, key_of, edge_by, edge_at, peek_of, rest_by, root_of, with_answer, answers_of, states_by, lowered}
use Rattle.pp_lower.specs.steps.Order.{Has}
use Rattle.pp_flow.proofs.ListLemmas.{any-at, any-listed}
use Rattle.pp_lower.proofs.TreeLaws.{KeyIs, key_is, PlaceIs, place_is, get_has}
use Rattle.pp_lower.proofs.FormLaws.{has_get}
use Rattle.pp_lower.proofs.EdgeLaws.{OnOwn, own_ascend}
use Rattle.pp_lower.proofs.WalkLaws.{own_by, PeekIs, peek_is}
use Rattle.pp_lower.proofs.FromStates.{InstrIs, instr_is, FromNode, from_node, inner_stands, leads_first}

pub and_both : (a b : Bool) → a ≡ true → b ≡ true → (a && b) ≡ true
and_both true b p q = q
and_both false b p q = absurd (false≢true p)

has_edge-append : (l r : List Edge) (x : Edge) → HasEdge (l ++ r) x → HasEdge l x ⊎ HasEdge r x
has_edge-append [] r x h = inr h
has_edge-append (y ∷ l) r x (inl e) = inl (inl e)
has_edge-append (y ∷ l) r x (inr h) = go (has_edge-append l r x h)
  where
    go : HasEdge l x ⊎ HasEdge r x → HasEdge (y ∷ l) x ⊎ HasEdge r x
    go (inl i) = inl (inr i)
    go (inr i) = inr i

-- an edge for each byte is the edge of one
pub each_has : (f : ℕ → Option Edge) (n : ℕ) (x : Edge) → HasEdge (each_below f n) x → (b : ℕ) × (f b ≡ Some x)
each_has f zero x h = absurd h
each_has f (suc n) x h = go (has_edge-append (each_below f n) (listed (f n)) x h) (each_has f n x)
  where
    one : (o : Option Edge) → HasEdge (listed o) x → o ≡ Some x
    one None i = absurd i
    one (Some y) (inl e) = ap (λ (z : Edge). Some z) e
    one (Some y) (inr i) = absurd i

    go : HasEdge (each_below f n) x ⊎ HasEdge (listed (f n)) x → (HasEdge (each_below f n) x → (b : ℕ) × (f b ≡ Some x)) → (b : ℕ) × (f b ≡ Some x)
    go (inl i) before = before i
    go (inr i) before = (n, one (f n) i)

pub each_short : (f : ℕ → Option Edge) (n : ℕ) → length (each_below f n) ≤ n
each_short f zero = omega arith
each_short f (suc n) =
    let long : length (each_below f (suc n)) ≡ length (each_below f n) + length (listed (f n)) = length-append (each_below f n) (listed (f n)) in
    let before : length (each_below f n) ≤ n = each_short f n in
    let last : length (listed (f n)) ≤ 1 = one (f n) in
    omega (arith, long, before, last)
  where
    one : (o : Option Edge) → length (listed o) ≤ 1
    one None = omega arith
    one (Some y) = omega arith

pub edges_pass : (test : Edge → Bool) (l : List Edge) → ((e : Edge) → HasEdge l e → test e ≡ true) → list_all test l ≡ true
edges_pass test [] h = refl
edges_pass test (x ∷ l) h = and_both (test x) (list_all test l) (h x (inl refl)) (edges_pass test l (λ e i. h e (inr i)))

edges_low : (n : ℕ) (l : List Edge) (e : Edge) → AscendsFrom n l → HasEdge l e → e.lo ≤ e.hi
edges_low n [] e a h = absurd h
edges_low n (x ∷ l) e a (inl i) = subst (λ (y : Edge). y.lo ≤ y.hi) i a.1
edges_low n (x ∷ l) e a (inr i) = edges_low (suc x.hi) l e a.2 i

-- an edge leads where it may, and takes its byte where it has a number
abbrev pub Does : Program → Edge → Type 0
Does p e = (cond e.take true (is_none e.number) ≡ true) × (leads p e.number e.target ≡ true)

module _ (g : Plan) where
  abbrev roots : ℕ → ℕ
  roots = root_of g.nodes

  abbrev p : Program
  p = lowered g

  -- what an edge of a state does
  edge_does : (i : ℕ) (n : Node) (fold : Fold) (keys : List Key) (peeks : List Peek) (other : Other) → slice_get g.nodes i ≡ Some n → n.kind ≡ kind.Match fold keys peeks other → AreEdges g fold keys peeks →
      (text : List ℕ) (b : ℕ) (o : Option ℕ) → PlaceIs text (inner_of keys) o → (k : Option Key) → KeyIs keys text k → (q : Option Peek) → PeekIs peeks b q → (y : Edge) →
      edge_by roots (roots i) b o k q ≡ Some y → Does p y
  edge_does i n fold keys peeks other e is fits text b (Some j) place k key q peek y h =
      let x : Edge = record { lo = b; hi = b; take = true; number = None; target = roots i + suc j } in
      let same : x ≡ y = cc in
      subst (Does p) same (refl, ap (is_plain_state p) (inner_stands g.nodes i j n fold keys peeks other text e is place))
  edge_does i n fold keys peeks other e is fits text b None place (Some k) key q peek y h =
      let x : Edge = record { lo = b; hi = b; take = true; number = k.number; target = roots k.target } in
      let same : x ≡ y = cc in
      let at : (j : ℕ) × (slice_get keys j ≡ Some k) = has_get keys k key.0 in
      subst (Does p) same (refl, leads_first g k.number k.target (fits.each_key at.0 k at.1).leads)
  edge_does i n fold keys peeks other e is fits text b None place None key (Some q) peek y h =
      let x : Edge = record { lo = b; hi = b; take = false; number = None; target = roots q.target } in
      let same : x ≡ y = cc in
      let at : (j : ℕ) × (slice_get peeks j ≡ Some q) = has_get peeks q peek.0 in
      subst (Does p) same (refl, leads_first g None q.target (fits.each_peek at.0 q at.1).leads)
  edge_does i n fold keys peeks other e is fits text b None place None key None peek y h = absurd cc

  edges_are : (i : ℕ) (n : Node) (fold : Fold) (keys : List Key) (peeks : List Peek) (other : Other) → slice_get g.nodes i ≡ Some n → n.kind ≡ kind.Match fold keys peeks other → AreEdges g fold keys peeks → (prefix : List ℕ) →
      are_edges p (merged (each_below (edge_at roots (roots i) keys peeks prefix) 256)) ≡ true
  edges_are i n fold keys peeks other e is fits prefix =
      and_both (nat_le (length l) most_edges && list_all (is_edge p) l) (in_row may_follow l)
      (and_both (nat_le (length l) most_edges) (list_all (is_edge p) l) (le-leb (length l) 256 few) (edges_pass (is_edge p) l each))
      (merged-in-row 0 all ascend)
    where
      edge : ℕ → Option Edge
      edge b = edge_at roots (roots i) keys peeks prefix b

      all : List Edge
      all = each_below (edge_at roots (roots i) keys peeks prefix) 256

      l : List Edge
      l = merged (each_below (edge_at roots (roots i) keys peeks prefix) 256)

      few : length (merged (each_below (edge_at roots (roots i) keys peeks prefix) 256)) ≤ 256
      few =
          let one : length (merged (each_below (edge_at roots (roots i) keys peeks prefix) 256)) ≤ length (each_below (edge_at roots (roots i) keys peeks prefix) 256) = merged-short (each_below (edge_at roots (roots i) keys peeks prefix) 256) in
          let two : length (each_below (edge_at roots (roots i) keys peeks prefix) 256) ≤ 256 = each_short (edge_at roots (roots i) keys peeks prefix) 256 in
          omega (arith, one, two)

      own : OnOwn (edge_at roots (roots i) keys peeks prefix)
      own b y h = own_by roots (roots i) b (place_of (prefix ++ b ∷ []) (inner_of keys)) (key_of keys (prefix ++ b ∷ [])) (peek_of peeks prefix b) y h

      ascend : AscendsFrom 0 (each_below (edge_at roots (roots i) keys peeks prefix) 256)
      ascend = own_ascend (edge_at roots (roots i) keys peeks prefix) own 256

      each : (y : Edge) → HasEdge (merged (each_below (edge_at roots (roots i) keys peeks prefix) 256)) y → is_edge p y ≡ true
      each y h =
          let from : (z : Edge) × HasEdge (each_below (edge_at roots (roots i) keys peeks prefix) 256) z × (bare y ≡ bare z) = merged-has (each_below (edge_at roots (roots i) keys peeks prefix) 256) y h in
          let at : (b : ℕ) × (edge_at roots (roots i) keys peeks prefix b ≡ Some from.0) = each_has (edge_at roots (roots i) keys peeks prefix) 256 from.0 from.1 in
          let does : Does p from.0 =
          edge_does i n fold keys peeks other e is fits (prefix ++ at.0 ∷ []) at.0 (place_of (prefix ++ at.0 ∷ []) (inner_of keys)) (place_is (prefix ++ at.0 ∷ []) (inner_of keys))
          (key_of keys (prefix ++ at.0 ∷ [])) (key_is keys (prefix ++ at.0 ∷ [])) (peek_of peeks prefix at.0) (peek_is peeks prefix at.0) from.0 at.1 in
          let own_does : Does p y = subst (λ (z : Edge). Does p z) (sym from.2) does in
          let low : y.lo ≤ y.hi = edges_low 0 (merged (each_below (edge_at roots (roots i) keys peeks prefix) 256)) y (merged-ascends 0 (each_below (edge_at roots (roots i) keys peeks prefix) 256) ascend) h in
          and_both (nat_le y.lo y.hi && cond y.take true (is_none y.number)) (leads p y.number y.target) (and_both (nat_le y.lo y.hi) (cond y.take true (is_none y.number)) (le-leb y.lo y.hi low) own_does.0) own_does.1

  rest_is : (fold : Fold) (keys : List Key) (peeks : List Peek) (other : Other) → AreEdges g fold keys peeks → Leads g None other.target → (prefix : List ℕ) (o : Option Key) → KeyIs keys prefix o →
      is_rest p (rest_by roots other o) ≡ true
  rest_is fold keys peeks other fits leads_on prefix None key =
      and_both (cond other.skip true true) (leads p None (roots other.target)) (always other.skip) (leads_first g None other.target leads_on)
    where
      always : (v : Bool) → cond v true true ≡ true
      always true = refl
      always false = refl
  rest_is fold keys peeks other fits leads_on prefix (Some k) key =
      let at : (j : ℕ) × (slice_get keys j ≡ Some k) = has_get keys k key.0 in
      leads_first g k.number k.target (fits.each_key at.0 k at.1).leads

  holds_within : (prop value : ℕ) → Holds g prop value → nat_lt prop (length g.props) ≡ true
  holds_within prop value h = lt-ltb prop (length g.props) (slice_get_within g.props prop h.0 h.1)

  code_is : (c : Code) → CodeFits g c → is_code p c ≡ true
  code_is (code.Call host) h = lt-ltb host (length g.hosts) h
  code_is (code.Store prop) h = lt-ltb prop (length g.props) h
  code_is (code.Load prop) h = lt-ltb prop (length g.props) h
  code_is (code.Update prop value) h = holds_within prop value h
  code_is (code.Equal prop value) h = holds_within prop value h
  code_is (code.And prop value) h = holds_within prop value h
  code_is (code.Or prop value) h = holds_within prop value h
  code_is (code.Test prop value) h = holds_within prop value h
  code_is (code.MulAdd prop base most) h = holds_within prop most h

-- Answers.
abbrev AnswersAbove : ℕ → List Answer → Type 0
AnswersAbove n [] = Unit {0}
AnswersAbove n (x ∷ l) = (n ≤ x.number) × AnswersAbove (suc x.number) l

above_row : (x : Answer) (l : List Answer) → AnswersAbove (suc x.number) l → row_behind answer_follows x l ≡ true
above_row x [] h = refl
above_row x (y ∷ l) h = and_both (nat_lt x.number y.number) (row_behind answer_follows y l) (lt-ltb x.number y.number (omega (arith, h.0))) (above_row y l h.1)

above_in_row : (n : ℕ) (l : List Answer) → AnswersAbove n l → in_row answer_follows l ≡ true
above_in_row n [] h = refl
above_in_row n (x ∷ l) h = above_row x l h.1

above_with : (n : ℕ) (a : Answer) (l : List Answer) → n ≤ a.number → AnswersAbove n l → ((x : Answer) → Has l x → x.number ≡ a.number → ⊥) → AnswersAbove n (with_answer a l)
above_with n a [] h above other = (h, tt)
above_with n a (x ∷ l) h above other = go (leb a.number x.number) refl (λ m. above_with (suc x.number) a l m above.1 (λ y i. other y (inr i)))
  where
    apart : x.number ≡ a.number → ⊥
    apart = other x (inl refl)

    below : a.number ≤ x.number → suc a.number ≤ x.number
    below le = grind (arith, apart)

    go : (v : Bool) → leb a.number x.number ≡ v → (suc x.number ≤ a.number → AnswersAbove (suc x.number) (with_answer a l)) → AnswersAbove n (cond v (a ∷ x ∷ l) (x ∷ with_answer a l))
    go true e later = (h, (below (leb-true a.number x.number e), above.1))
    go false e later = (let less : x.number < a.number = leb-false a.number x.number e in (above.0, later (omega (arith, less))))

pub with_has_answer : (a : Answer) (l : List Answer) (x : Answer) → Has (with_answer a l) x → (a ≡ x) ⊎ Has l x
with_has_answer a [] x h = h
with_has_answer a (y ∷ l) x h = go (leb a.number y.number) h (with_has_answer a l x)
  where
    deep : (a ≡ x) ⊎ Has l x → (a ≡ x) ⊎ Has (y ∷ l) x
    deep (inl e) = inl e
    deep (inr i) = inr (inr i)

    last : Has (y ∷ with_answer a l) x → (Has (with_answer a l) x → (a ≡ x) ⊎ Has l x) → (a ≡ x) ⊎ Has (y ∷ l) x
    last (inl e) later = inr (inl e)
    last (inr i) later = deep (later i)

    go : (v : Bool) → Has (cond v (a ∷ y ∷ l) (y ∷ with_answer a l)) x → (Has (with_answer a l) x → (a ≡ x) ⊎ Has l x) → (a ≡ x) ⊎ Has (y ∷ l) x
    go true i later = i
    go false i later = last i later

-- an answer of a state leads to the first state of where one of the node's leads
pub answers_has : (roots : ℕ → ℕ) (answers : List Answer) (x : Answer) → Has (answers_of roots answers) x → (a : Answer) × Has answers a × (record { number = a.number; target = roots a.target } ≡ x)
answers_has roots [] x h = absurd h
answers_has roots (a ∷ answers) x h = go (with_has_answer (record { number = a.number; target = roots a.target }) (answers_of roots answers) x h) (answers_has roots answers x)
  where
    go : (record { number = a.number; target = roots a.target } ≡ x) ⊎ Has (answers_of roots answers) x → (Has (answers_of roots answers) x → (b : Answer) × Has answers b × (record { number = b.number; target = roots b.target } ≡ x)) →
        (b : Answer) × Has (a ∷ answers) b × (record { number = b.number; target = roots b.target } ≡ x)
    go (inl e) later = (a, inl refl, e)
    go (inr i) later = (let r : (b : Answer) × Has answers b × (record { number = b.number; target = roots b.target } ≡ x) = later i in (r.0, inr r.1, r.2))

-- some element, from one that is there
pub has_any : {X : Type 0} (P : X → Type 0) (xs : List X) (x : X) → Has xs x → P x → Any P xs
has_any P xs x h holds = (let at : (i : ℕ) × (slice_get xs i ≡ Some x) = has_get xs x h in any-at P xs at.0 x at.1 holds)

-- where the answers of a state lead, those of the node lead as well
pub answers_ahead : (roots : ℕ → ℕ) (next : ℕ) (answers : List Answer) → Any (λ (a : Answer). a.target ≡ next) (answers_of roots answers) → (m : ℕ) × Any (λ (a : Answer). a.target ≡ m) answers × (roots m ≡ next)
answers_ahead roots next answers some =
    let listed : slice_get (answers_of roots answers) some.0 ≡ Some some.1 = any-listed (λ (x : Answer). x.target ≡ next) (answers_of roots answers) some in
    let from : (a : Answer) × Has answers a × (record { number = a.number; target = roots a.target } ≡ some.1) = answers_has roots answers some.1 (get_has (answers_of roots answers) some.0 some.1 listed) in
    (from.0.target, has_any (λ (a : Answer). a.target ≡ from.0.target) answers from.0 from.1 refl, ap (λ (a : Answer). a.target) from.2 ∙ some.4)

length-with : (a : Answer) (l : List Answer) → length (with_answer a l) ≡ suc (length l)
length-with a [] = refl
length-with a (x ∷ l) = go (leb a.number x.number) (length-with a l)
  where
    go : (v : Bool) → length (with_answer a l) ≡ suc (length l) → length (cond v (a ∷ x ∷ l) (x ∷ with_answer a l)) ≡ suc (suc (length l))
    go true e = refl
    go false e = ap suc e

pub length-answers : (roots : ℕ → ℕ) (answers : List Answer) → length (answers_of roots answers) ≡ length answers
length-answers roots [] = refl
length-answers roots (a ∷ answers) = length-with (record { number = a.number; target = roots a.target }) (answers_of roots answers) ∙ ap suc (length-answers roots answers)

numbers : List Answer → List ℕ
numbers answers = map (λ (a : Answer). a.number) answers

get_number : (answers : List Answer) (i d : ℕ) (a : Answer) → slice_get answers i ≡ Some a → get_or (map (λ (x : Answer). x.number) answers) i d ≡ a.number
get_number [] i d a e = absurd cc
get_number (x ∷ answers) zero d a e = (let same : x ≡ a = cc in ap (λ (y : Answer). y.number) same)
get_number (x ∷ answers) (suc i) d a e = get_number answers i d a e

answers_above : (roots : ℕ → ℕ) (answers : List Answer) → AreDistinct (map (λ (a : Answer). a.number) answers) → AnswersAbove 0 (answers_of roots answers)
answers_above roots [] h = tt
answers_above roots (a ∷ answers) h =
    above_with 0 (record { number = a.number; target = roots a.target }) (answers_of roots answers) (omega arith) (answers_above roots answers (λ i j d less low. h (suc i) (suc j) d (omega (arith, less)) (omega (arith, low)))) other
  where
    other : (x : Answer) → Has (answers_of roots answers) x → x.number ≡ a.number → ⊥
    other x i e =
        let from : (b : Answer) × Has answers b × (record { number = b.number; target = roots b.target } ≡ x) = answers_has roots answers x i in
        let at : (j : ℕ) × (slice_get answers j ≡ Some from.0) = has_get answers from.0 from.1 in
        let within : at.0 < length answers = slice_get_within answers at.0 from.0 at.1 in
        let long : length (map (λ (y : Answer). y.number) answers) ≡ length answers = length-map answers (λ (y : Answer). y.number) in
        let same : from.0.number ≡ a.number = ap (λ (y : Answer). y.number) from.2 ∙ e in
        h 0 (suc at.0) 0 (omega arith) (omega (arith, within, long)) (sym (get_number answers at.0 0 from.0 at.1 ∙ same))

answers_pass : (test : Answer → Bool) (l : List Answer) → ((x : Answer) → Has l x → test x ≡ true) → list_all test l ≡ true
answers_pass test [] h = refl
answers_pass test (x ∷ l) h = and_both (test x) (list_all test l) (h x (inl refl)) (answers_pass test l (λ e i. h e (inr i)))

-- a part of a sum
pub part_of_sum : {X : Type 0} (f : X → ℕ) (xs : List X) (i : ℕ) (x : X) → slice_get xs i ≡ Some x → f x ≤ sum_by f xs
part_of_sum f [] i x e = absurd cc
part_of_sum f (y ∷ xs) zero x e = (let same : f y ≡ f x = (let s : y ≡ x = cc in ap f s) in let all : sum_by f (y ∷ xs) ≡ f y + sum_by f xs = sum_by-cons f y xs in omega (arith, same, all))
part_of_sum f (y ∷ xs) (suc i) x e = (let part : f x ≤ sum_by f xs = part_of_sum f xs i x e in let all : sum_by f (y ∷ xs) ≡ f y + sum_by f xs = sum_by-cons f y xs in omega (arith, part, all))

answers_are : (g : Plan) (answers : List Answer) → AreAnswers g answers → length answers ≤ 20000 → are_answers (lowered g) (answers_of (root_of g.nodes) answers) ≡ true
answers_are g answers fits light =
    and_both (nat_le (length l) most_answers && list_all (is_answer (lowered g)) l) (in_row answer_follows l)
    (and_both (nat_le (length l) most_answers) (list_all (is_answer (lowered g)) l) (le-leb (length (answers_of (root_of g.nodes) answers)) 65535 (omega (arith, light, long)))
    (answers_pass (is_answer (lowered g)) (answers_of (root_of g.nodes) answers) each))
    (above_in_row 0 (answers_of (root_of g.nodes) answers) (answers_above (root_of g.nodes) answers fits.distinct))
  where
    l : List Answer
    l = answers_of (root_of g.nodes) answers

    long : length (answers_of (root_of g.nodes) answers) ≡ length answers
    long = length-answers (root_of g.nodes) answers

    each : (x : Answer) → Has (answers_of (root_of g.nodes) answers) x → is_answer (lowered g) x ≡ true
    each x h =
        let from : (a : Answer) × Has answers a × (record { number = a.number; target = root_of g.nodes a.target } ≡ x) = answers_has (root_of g.nodes) answers x h in
        let at : (j : ℕ) × (slice_get answers j ≡ Some from.0) = has_get answers from.0 from.1 in
        subst (λ (y : Answer). leads (lowered g) None y.target ≡ true) from.2 (leads_first g None from.0.target (fits.leads at.0 from.0 at.1))

instr_fits : (g : Plan) (i : ℕ) (n : Node) (k : Kind) → slice_get g.nodes i ≡ Some n → n.kind ≡ k → FitsIn g k → weight_of k ≤ 20000 → (j : ℕ) (x : Instr) → InstrIs (root_of g.nodes) (root_of g.nodes i) k j x →
    is_instr (lowered g) x ≡ true
instr_fits g i n (kind.Match fold keys peeks other) e is fits light j x (prefix, at, same) =
    subst (λ (y : Instr). is_instr (lowered g) y ≡ true) same
    (and_both (are_edges (lowered g) (merged (each_below (edge_at (root_of g.nodes) (root_of g.nodes i) keys peeks prefix) 256))) (is_rest (lowered g) (rest_by (root_of g.nodes) other (key_of keys prefix)))
    (edges_are g i n fold keys peeks other e is fits.0 prefix) (rest_is g fold keys peeks other fits.0 fits.1 prefix (key_of keys prefix) (key_is keys prefix)))
instr_fits g i n (kind.Invoke what answers other) e is fits light j x (at, same) =
    subst (λ (y : Instr). is_instr (lowered g) y ≡ true) same
    (and_both (is_code (lowered g) what && are_answers (lowered g) (answers_of (root_of g.nodes) answers)) (leads (lowered g) None (root_of g.nodes other))
    (and_both (is_code (lowered g) what) (are_answers (lowered g) (answers_of (root_of g.nodes) answers)) (code_is g what fits.0) (answers_are g answers fits.1 light)) (leads_first g None other fits.2))
instr_fits g i n (kind.Consume prop next) e is fits light j x (at, same) =
    subst (λ (y : Instr). is_instr (lowered g) y ≡ true) same (and_both (nat_lt prop (length g.props)) (leads (lowered g) None (root_of g.nodes next)) (lt-ltb prop (length g.props) fits.0) (leads_first g None next fits.1))
instr_fits g i n (kind.SpanOpen span next) e is fits light j x (at, same) =
    subst (λ (y : Instr). is_instr (lowered g) y ≡ true) same (and_both (nat_lt span (length g.spans)) (leads (lowered g) None (root_of g.nodes next)) (lt-ltb span (length g.spans) fits.0) (leads_first g None next fits.1))
instr_fits g i n (kind.SpanClose span next) e is fits light j x (at, same) =
    subst (λ (y : Instr). is_instr (lowered g) y ≡ true) same (and_both (nat_lt span (length g.spans)) (leads (lowered g) None (root_of g.nodes next)) (lt-ltb span (length g.spans) fits.0) (leads_first g None next fits.1))
instr_fits g i n (kind.Pause number reason next) e is fits light j x (at, same) = subst (λ (y : Instr). is_instr (lowered g) y ≡ true) same (leads_first g None next fits.1)
instr_fits g i n (kind.Fail number reason) e is fits light j x (at, same) = subst (λ (y : Instr). is_instr (lowered g) y ≡ true) same refl

-- each state names what is there
pub state_fits : (g : Plan) → IsWellFormed g → (t : ℕ) (s : State) → slice_get (states_by g.nodes) t ≡ Some s → is_state (lowered g) s ≡ true
state_fits g form t s e =
    let from : FromNode g.nodes t s = from_node g.nodes t s e in
    let made : (s.origin ≡ from.place) × InstrIs (root_of g.nodes) (root_of g.nodes from.place) from.node.kind from.step s.instr = instr_is (root_of g.nodes) from.place (root_of g.nodes from.place) from.node.kind from.step s from.listed in
    let part : weight_of from.node.kind ≤ sum_by (λ (n : Node). weight_of n.kind) g.nodes = part_of_sum (λ (n : Node). weight_of n.kind) g.nodes from.place from.node from.there in
    let all : sum_by (λ (n : Node). weight_of n.kind) g.nodes ≤ 20000 = form.light in
    let within : from.place < length g.nodes = slice_get_within g.nodes from.place from.node from.there in
    let long : length (map (λ (n : Node). n.name) g.nodes) ≡ length g.nodes = length-map g.nodes (λ (n : Node). n.name) in
    let origin : s.origin ≡ from.place = made.0 in
    and_both (nat_lt s.origin (length (map (λ (n : Node). n.name) g.nodes))) (is_instr (lowered g) s.instr)
    (lt-ltb s.origin (length (map (λ (n : Node). n.name) g.nodes)) (omega (arith, within, long, origin)))
    (instr_fits g from.place from.node from.node.kind from.there refl (form.kinds from.place from.node from.there) (omega (arith, part, all)) from.step s.instr made.1)
