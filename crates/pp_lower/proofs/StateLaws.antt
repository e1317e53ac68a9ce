-- Where the states of a node stand, and what its answers become.
use Rattle.std.proofs.Common.{subst, ◌≡◌, ℕ, zero, suc, ◌+◌, ◌<◌, List, [], ◌∷◌, ◌++◌, Option, Some, None, Bool, true, false, cond, refl, sym, ◌∙◌, ap, arith, length, map, leb, zero-add, add-zero}
use Rattle.std.proofs.Math.Nat.{suc-add}
use Rattle.std.specs.Prelude.{◌==◌, slice_get, option_map, find}
use Rattle.std.proofs.lemmas.List.{length-map}
use Rattle.std.proofs.lemmas.Option.{slice_get-map}
use Rattle.std.proofs.lemmas.Bool.{eqb-true, leb-false}
use Rattle.pp_graph.specs.declared.node.Answer.{Answer}
use Rattle.pp_graph.specs.declared.node.Kind.{Kind}
use Rattle.pp_graph.specs.declared.node.Kind.TheVariants as kind
use Rattle.pp_graph.specs.declared.node.Node.{Node}
use Rattle.pp_program.specs.declared.program.Instr.{Instr}
use Rattle.pp_program.specs.declared.program.State.{State}
use Rattle.pp_event.specs.Codes.{answered, target_or}
use Rattle.pp_lower.specs.Lowered.{inner_of, size, root_of, with_answer, answers_of, branch_of, instrs_of, states_of, states_from}

get_left : {A : Type 0} (xs ys : List A) (j : ℕ) (x : A) → slice_get xs j ≡ Some x → slice_get (xs ++ ys) j ≡ Some x
get_left [] ys j x h = cc
get_left (y ∷ xs) ys zero x h = h
get_left (y ∷ xs) ys (suc j) x h = get_left xs ys j x h

get_add : {A : Type 0} (xs ys : List A) (n : ℕ) → slice_get (xs ++ ys) (length xs + n) ≡ slice_get ys n
get_add [] ys n = ap (slice_get ys) (zero-add n)
get_add (x ∷ xs) ys n = ap (slice_get (x ∷ xs ++ ys)) (suc-add (length xs) n) ∙ get_add xs ys n

-- as many states as the size says
pub length-states : (roots : ℕ → ℕ) (origin root : ℕ) (k : Kind) → length (states_of roots origin root k) ≡ size k
length-states roots origin root (kind.Match fold keys peeks other) =
    length-map (map (branch_of roots root fold keys peeks other) ([] ∷ inner_of keys)) (λ (i : Instr). record { origin = origin; instr = i })
    ∙ length-map ([] ∷ inner_of keys) (branch_of roots root fold keys peeks other)
length-states roots origin root (kind.Invoke code answers other) = refl
length-states roots origin root (kind.Consume p next) = refl
length-states roots origin root (kind.SpanOpen s next) = refl
length-states roots origin root (kind.SpanClose s next) = refl
length-states roots origin root (kind.Pause code reason next) = refl
length-states roots origin root (kind.Fail code reason) = refl

-- the j-th state of the i-th node
pub state_there : (roots : ℕ → ℕ) (nodes : List Node) (i j origin root o r t : ℕ) (n : Node) (s : State) → slice_get nodes i ≡ Some n →
    o ≡ origin + i → r ≡ root + root_of nodes i → t ≡ root_of nodes i + j → slice_get (states_of roots o r n.kind) j ≡ Some s → slice_get (states_from roots origin root nodes) t ≡ Some s
state_there roots [] i j origin root o r t n s e p q w h = cc
state_there roots (x ∷ nodes) zero j origin root o r t n s e p q w h =
    let node : n ≡ x = cc in
    let first : o ≡ origin = p ∙ add-zero origin in
    let begin : r ≡ root = q ∙ add-zero root in
    let place : t ≡ j = w ∙ zero-add j in
    let here : slice_get (states_of roots origin root x.kind) j ≡ Some s =
    subst (λ (z : Node). slice_get (states_of roots origin root z.kind) j ≡ Some s) node
    (subst (λ (z : ℕ). slice_get (states_of roots origin z n.kind) j ≡ Some s) begin
    (subst (λ (z : ℕ). slice_get (states_of roots z r n.kind) j ≡ Some s) first h)) in
    ap (slice_get (states_from roots origin root (x ∷ nodes))) place
    ∙ get_left (states_of roots origin root x.kind) (states_from roots (suc origin) (root + size x.kind) nodes) j s here
state_there roots (x ∷ nodes) (suc i) j origin root o r t n s e p q w h =
    let long : length (states_of roots origin root x.kind) ≡ size x.kind = length-states roots origin root x.kind in
    let place : t ≡ length (states_of roots origin root x.kind) + (root_of nodes i + j) = omega (arith, w, long) in
    ap (slice_get (states_from roots origin root (x ∷ nodes))) place
    ∙ get_add (states_of roots origin root x.kind) (states_from roots (suc origin) (root + size x.kind) nodes) (root_of nodes i + j)
    ∙ state_there roots nodes i j (suc origin) (root + size x.kind) o r (root_of nodes i + j) n s e (omega (arith, p)) (omega (arith, q)) refl h

-- there is no state where there is no node
pub state_none : (roots : ℕ → ℕ) (nodes : List Node) (i origin root : ℕ) → slice_get nodes i ≡ None → slice_get (states_from roots origin root nodes) (root_of nodes i) ≡ None
state_none roots [] i origin root e = refl
state_none roots (x ∷ nodes) zero origin root e = cc
state_none roots (x ∷ nodes) (suc i) origin root e =
    ap (λ (z : ℕ). slice_get (states_from roots origin root (x ∷ nodes)) (z + root_of nodes i)) (sym (length-states roots origin root x.kind))
    ∙ get_add (states_of roots origin root x.kind) (states_from roots (suc origin) (root + size x.kind) nodes) (root_of nodes i)
    ∙ state_none roots nodes i (suc origin) (root + size x.kind) e

-- the states of a match node
pub branch_there : (roots : ℕ → ℕ) (origin root : ℕ) (k : Kind) (f : List ℕ → Instr) (l : List (List ℕ)) (j : ℕ) (p : List ℕ) → instrs_of roots root k ≡ map f l → slice_get l j ≡ Some p →
    slice_get (states_of roots origin root k) j ≡ Some (record { origin = origin; instr = f p })
branch_there roots origin root k f l j p e h =
    slice_get-map (λ (i : Instr). record { origin = origin; instr = i }) (instrs_of roots root k) j
    ∙ ap (λ (m : List Instr). option_map (λ (i : Instr). record { origin = origin; instr = i }) (slice_get m j)) e
    ∙ ap (option_map (λ (i : Instr). record { origin = origin; instr = i })) (slice_get-map f l j ∙ ap (option_map f) h)

-- Answers.
find_with : (a : Answer) (l : List Answer) (n : ℕ) → find (λ (x : Answer). x.number == n) (with_answer a l) ≡ cond (a.number == n) (Some a) (find (λ (x : Answer). x.number == n) l)
find_with a [] n = refl
find_with a (x ∷ l) n = go (leb a.number x.number) refl (find_with a l n)
  where
    swap : (v w : Bool) (o : Option Answer) → (v ≡ true → w ≡ true → ⊥) → cond v (Some x) (cond w (Some a) o) ≡ cond w (Some a) (cond v (Some x) o)
    swap true true o h = absurd (h refl refl)
    swap true false o h = refl
    swap false w o h = refl

    go : (u : Bool) → leb a.number x.number ≡ u → find (λ (x : Answer). x.number == n) (with_answer a l) ≡ cond (a.number == n) (Some a) (find (λ (x : Answer). x.number == n) l) →
        find (λ (y : Answer). y.number == n) (cond u (a ∷ x ∷ l) (x ∷ with_answer a l)) ≡ cond (a.number == n) (Some a) (cond (x.number == n) (Some x) (find (λ (y : Answer). y.number == n) l))
    go true e i = refl
    go false e i =
        ap (cond (x.number == n) (Some x)) i
        ∙ swap (x.number == n) (a.number == n) (find (λ (y : Answer). y.number == n) l)
        (λ p q.
        let one : x.number ≡ n = eqb-true x.number n p in
        let two : a.number ≡ n = eqb-true a.number n q in
        let less : x.number < a.number = leb-false a.number x.number e in
        omega arith)

abbrev answer_of : (ℕ → ℕ) → Answer → Answer
answer_of roots a = record { number = a.number; target = roots a.target }

find_answers : (roots : ℕ → ℕ) (answers : List Answer) (n : ℕ) → find (λ (a : Answer). a.number == n) (answers_of roots answers) ≡ option_map (answer_of roots) (find (λ (a : Answer). a.number == n) answers)
find_answers roots [] n = refl
find_answers roots (a ∷ answers) n =
    find_with (answer_of roots a) (answers_of roots answers) n
    ∙ ap (cond (a.number == n) (Some (answer_of roots a))) (find_answers roots answers n)
    ∙ go (a.number == n) (find (λ (x : Answer). x.number == n) answers)
  where
    go : (v : Bool) (o : Option Answer) → cond v (Some (answer_of roots a)) (option_map (answer_of roots) o) ≡ option_map (answer_of roots) (cond v (Some a) o)
    go true o = refl
    go false o = refl

target_mapped : (roots : ℕ → ℕ) (other : ℕ) (o : Option Answer) → target_or (roots other) (option_map (answer_of roots) o) ≡ roots (target_or other o)
target_mapped roots other None = refl
target_mapped roots other (Some a) = refl

-- the edge of an answer leads to the root of where the node's edge leads
pub answered_mapped : (roots : ℕ → ℕ) (answers : List Answer) (other n : ℕ) → answered (answers_of roots answers) (roots other) n ≡ roots (answered answers other n)
answered_mapped roots answers other n =
    ap (target_or (roots other)) (find_answers roots answers n) ∙ target_mapped roots other (find (λ (a : Answer). a.number == n) answers)
