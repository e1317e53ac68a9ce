-- What the code's edges are.
use Rattle.std.proofs.Common.{subst, ◌≡◌, ℕ, zero, suc, ◌+◌, ◌<◌, List, [], ◌∷◌, ◌++◌, Option, Some, None, true, false, refl, sym, ◌∙◌, ap, arith, length, get_or}
use Rattle.std.specs.Prelude.{option_map, slice_get}
use Rattle.pp_bytes.specs.declared.fold.Fold.{Fold}
use Rattle.pp_graph.specs.declared.node.Key.{Key}
use Rattle.pp_graph.specs.declared.node.Peek.{Peek}
use Rattle.pp_graph.specs.declared.node.Other.{Other}
use Rattle.pp_program.specs.declared.program.Edge.{Edge}
use Rattle.pp_program.specs.declared.program.Rest.{Rest}
use Rattle.pp_program.specs.declared.program.Instr.TheVariants.{Branch}
use Rattle.pp_program.specs.Merge.{merged}
use Rattle.pp_lower.specs.declared.links.Link.{Link}
use Rattle.pp_lower.specs.Tree.{each_below, listed}
use Rattle.pp_lower.specs.Lowered.{edge_by, rest_by}
use Rattle.pp_lower.specs.steps.Links.{link_by}
use Rattle.pp_lower.specs.steps.Parts.{Gives, key_by, peek_by, edge_from, KeysBelow, PeeksBelow}
use Rattle.pp_lower.proofs.Keys.{has_contains}
use Rattle.pp_lower.proofs.WalkLaws.{PeekIs, find_peek}
use Rattle.pp_lower.proofs.CutLemmas.{get_same}

-- to an inner state
pub edge_inner : (f : ℕ → ℕ) (root b i t : ℕ) (o : Option ℕ) (k : Option Key) (p : Option Peek) → o ≡ Some i → t ≡ root + suc i →
    Some (record { lo = b; hi = b; take = true; number = None; target = t }) ≡ edge_by f root b o k p
edge_inner f root b i t o k p e u =
    let to : ℕ → Option Edge = λ x. Some (record { lo = b; hi = b; take = true; number = None; target = x }) in
    ap to u ∙ sym (ap (λ (x : Option ℕ). edge_by f root b x k p) e)

-- a key at a place leads to a node
pub key_target : (keys : List Key) (i n : ℕ) (k : Key) → KeysBelow n keys → i < length keys → k ≡ get_or keys i k → k.target < n
key_target keys i n k below h e = below k (i, h, sym e)

key_there : (keys : List Key) (i : ℕ) (k : Key) → i < length keys → k ≡ get_or keys i k → slice_get keys i ≡ Some k
key_there [] i k h e = absurd (omega arith)
key_there (x ∷ keys) zero k h e = ap (λ (z : Key). Some z) (sym e)
key_there (x ∷ keys) (suc i) k h e = key_there keys i k (omega arith) e

-- by a key
pub edge_key : (f : ℕ → ℕ) (roots : List ℕ) (root b i : ℕ) (keys : List Key) (k : Key) (o : Option ℕ) (p : Option Peek) → Gives roots f → KeysBelow (length roots) keys → o ≡ Some i → i < length keys → k ≡ get_or keys i k →
    Some (record { lo = b; hi = b; take = true; number = k.number; target = get_or roots k.target 0 }) ≡ edge_by f root b None (key_by keys o) p
edge_key f roots root b i keys k o p gives below u h e =
    let to : ℕ → Option Edge = λ x. Some (record { lo = b; hi = b; take = true; number = k.number; target = x }) in
    ap to (gives k.target (key_target keys i (length roots) k below h e))
    ∙ sym (ap (λ (x : Option Key). edge_by f root b None x p) (ap (key_by keys) u ∙ key_there keys i k h e))

-- the same, read out of the list
pub target_at : (keys : List Key) (i n : ℕ) (d : Key) → KeysBelow n keys → i < length keys → (get_or keys i d).target < n
target_at keys i n d below h = key_target keys i n (get_or keys i d) below h (get_same keys i d (get_or keys i d) h)

pub edge_key_at : (f : ℕ → ℕ) (roots : List ℕ) (root b i : ℕ) (keys : List Key) (c d : Key) (o : Option ℕ) (p : Option Peek) → Gives roots f → KeysBelow (length roots) keys → o ≡ Some i → i < length keys →
    Some (record { lo = b; hi = b; take = true; number = (get_or keys i c).number; target = get_or roots (get_or keys i d).target 0 }) ≡ edge_by f root b None (key_by keys o) p
edge_key_at f roots root b i keys c d o p gives below u h =
    let k : Key = get_or keys i c in
    let to : Key → Option Edge = λ x. Some (record { lo = b; hi = b; take = true; number = k.number; target = get_or roots x.target 0 }) in
    ap to (get_same keys i d c h) ∙ edge_key f roots root b i keys k o p gives below u h (get_same keys i c k h)

peek_leads : (peeks : List Peek) (b n t : ℕ) → PeeksBelow n peeks → (o : Option Peek) → PeekIs peeks b o → Some t ≡ option_map (λ (p : Peek). p.target) o → t < n
peek_leads peeks b n t below None h g = cc
peek_leads peeks b n t below (Some p) h g =
    let same : t ≡ p.target = cc in
    subst (λ (x : ℕ). x < n) (sym same) (below p (has_contains peeks p h.0))

-- a peek that was found leads to a node
pub peek_below : (peeks : List Peek) (b n t : ℕ) → PeeksBelow n peeks → Some t ≡ option_map (λ (p : Peek). p.target) (peek_by peeks b) → t < n
peek_below peeks b n t below g = peek_leads peeks b n t below (peek_by peeks b) (find_peek peeks b) g

-- by a peek
pub edge_peek : (f : ℕ → ℕ) (roots : List ℕ) (root b t : ℕ) (peeks : List Peek) → Gives roots f → PeeksBelow (length roots) peeks → Some t ≡ option_map (λ (p : Peek). p.target) (peek_by peeks b) →
    Some (record { lo = b; hi = b; take = false; number = None; target = get_or roots t 0 }) ≡ edge_by f root b None None (peek_by peeks b)
edge_peek f roots root b t peeks gives below g = ap to (gives t (peek_below peeks b (length roots) t below g)) ∙ go (peek_by peeks b) g
  where
    to : ℕ → Option Edge
    to x = Some (record { lo = b; hi = b; take = false; number = None; target = x })

    go : (o : Option Peek) → Some t ≡ option_map (λ (p : Peek). p.target) o → to (f t) ≡ edge_by f root b None None o
    go None h = cc
    go (Some p) h = (let same : t ≡ p.target = cc in ap (λ (x : ℕ). to (f x)) same)

-- by none
pub edge_none : (f : ℕ → ℕ) (root b : ℕ) (peeks : List Peek) → None ≡ option_map (λ (p : Peek). p.target) (peek_by peeks b) → None ≡ edge_by f root b None None (peek_by peeks b)
edge_none f root b peeks g = go (peek_by peeks b) g
  where
    go : (o : Option Peek) → None ≡ option_map (λ (p : Peek). p.target) o → None ≡ edge_by f root b None None o
    go None h = refl
    go (Some p) h = cc

-- where no inner state is there
pub edge_outer : (f : ℕ → ℕ) (root b : ℕ) (o : Option ℕ) (k : Option Key) (p : Option Peek) (e : Option Edge) → o ≡ None → e ≡ edge_by f root b None k p → e ≡ edge_by f root b o k p
edge_outer f root b o k p e h g = g ∙ sym (ap (λ (x : Option ℕ). edge_by f root b x k p) h)

-- where no key is there
pub edge_keyless : (f : ℕ → ℕ) (root b : ℕ) (keys : List Key) (o : Option ℕ) (p : Option Peek) (e : Option Edge) → o ≡ None → e ≡ edge_by f root b None None p → e ≡ edge_by f root b None (key_by keys o) p
edge_keyless f root b keys o p e h g = g ∙ sym (ap (λ (x : Option ℕ). edge_by f root b None (key_by keys x) p) h)

-- one byte more
pub edges_more : {A : Type 0} (edge : ℕ → Option A) (n m : ℕ) (e : Option A) (old new : List A) → m ≡ suc n → old ≡ each_below edge n → e ≡ edge n → new ≡ old ++ listed e → new ≡ each_below edge m
edges_more edge n m e old new u o h w =
    w ∙ ap (λ (l : List _). l ++ listed e) o ∙ ap (λ (x : Option _). each_below edge n ++ listed x) h ∙ ap (each_below edge) (sym u)

-- all of them, merged
pub edges_all : (edge : ℕ → Option Edge) (n : ℕ) (l m r : List Edge) → r ≡ merged m → m ≡ l → l ≡ each_below edge n → n ≡ 256 → r ≡ merged (each_below edge 256)
edges_all edge n l m r s e h u = s ∙ ap merged (e ∙ h ∙ ap (each_below edge) u)

-- the edge of a byte by its links
pub edge_linked : (f : ℕ → ℕ) (root b : ℕ) (keys : List Key) (peeks : List Peek) (inner ends : List Link) (i k : Option ℕ) (e : Option Edge) → i ≡ link_by inner b → k ≡ link_by ends b →
    e ≡ edge_by f root b i (key_by keys k) (peek_by peeks b) → e ≡ edge_from f root keys peeks inner ends b
edge_linked f root b keys peeks inner ends i k e p q h =
    h ∙ ap (λ (x : Option ℕ). edge_by f root b x (key_by keys k) (peek_by peeks b)) p ∙ ap (λ (x : Option ℕ). edge_by f root b (link_by inner b) (key_by keys x) (peek_by peeks b)) q

pub rest_key : (f : ℕ → ℕ) (roots : List ℕ) (keys : List Key) (other : Other) (i : ℕ) (k : Key) (o : Option ℕ) → Gives roots f → KeysBelow (length roots) keys → o ≡ Some i → i < length keys → k ≡ get_or keys i k →
    record { skip = false; number = k.number; target = get_or roots k.target 0 } ≡ rest_by f other (key_by keys o)
rest_key f roots keys other i k o gives below u h e =
    let to : ℕ → Rest = λ x. record { skip = false; number = k.number; target = x } in
    ap to (gives k.target (key_target keys i (length roots) k below h e)) ∙ sym (ap (rest_by f other) (ap (key_by keys) u ∙ key_there keys i k h e))

pub rest_key_at : (f : ℕ → ℕ) (roots : List ℕ) (keys : List Key) (other : Other) (i : ℕ) (c d : Key) (o : Option ℕ) → Gives roots f → KeysBelow (length roots) keys → o ≡ Some i → i < length keys →
    record { skip = false; number = (get_or keys i c).number; target = get_or roots (get_or keys i d).target 0 } ≡ rest_by f other (key_by keys o)
rest_key_at f roots keys other i c d o gives below u h =
    let k : Key = get_or keys i c in
    let to : Key → Rest = λ x. record { skip = false; number = k.number; target = get_or roots x.target 0 } in
    ap to (get_same keys i d c h) ∙ rest_key f roots keys other i k o gives below u h (get_same keys i c k h)

pub rest_other : (f : ℕ → ℕ) (roots : List ℕ) (keys : List Key) (other : Other) (o : Option ℕ) → Gives roots f → o ≡ None → other.target < length roots →
    record { skip = other.skip; number = None; target = get_or roots other.target 0 } ≡ rest_by f other (key_by keys o)
rest_other f roots keys other o gives u h =
    let to : ℕ → Rest = λ x. record { skip = other.skip; number = None; target = x } in
    ap to (gives other.target h) ∙ sym (ap (λ (x : Option ℕ). rest_by f other (key_by keys x)) u)

-- a branch from its edges and its rest
pub branch_from : (fold : Fold) (edges list : List Edge) (rest other : Rest) (stay : List (ℕ × ℕ)) → stay ≡ [] → edges ≡ list → rest ≡ other → Branch fold stay edges rest ≡ Branch fold [] list other
branch_from fold edges list rest other stay s e r =
    ap (λ (x : List (ℕ × ℕ)). Branch fold x edges rest) s ∙ ap (λ (x : List Edge). Branch fold [] x rest) e ∙ ap (Branch fold [] list) r

-- edges that are the same on each byte
pub each_same : {A : Type 0} (f g : ℕ → Option A) → ((b : ℕ) → f b ≡ g b) → (n : ℕ) → each_below f n ≡ each_below g n
each_same f g h zero = refl
each_same f g h (suc n) = ap (λ (l : List _). l ++ listed (f n)) (each_same f g h n) ∙ ap (λ (o : Option _). each_below g n ++ listed o) (h n)
