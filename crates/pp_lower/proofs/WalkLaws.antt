-- From the root of a match node, byte by byte, the program comes to where the node's one move leads.
use Rattle.std.proofs.Common.{subst, ◌≡◌, ℕ, zero, suc, ◌+◌, ◌≤◌, ◌<◌, List, [], ◌∷◌, ◌++◌, Option, Some, None, Bool, true, false, cond, refl, sym, ◌∙◌, ap, arith, drop, eqb, inl, inr, append_assoc}
use Rattle.std.specs.Prelude.{◌⊎◌, ◌==◌, slice_get, find, not}
use Rattle.std.proofs.lemmas.Bool.{eq-eqb, eqb-true}
use Rattle.pp_graph.specs.declared.node.Key.{Key}
use Rattle.pp_graph.specs.declared.node.Peek.{Peek}
use Rattle.pp_graph.specs.declared.node.Other.{Other}
use Rattle.pp_program.specs.declared.program.Edge.{Edge}
use Rattle.pp_program.specs.declared.program.Rest.{Rest}
use Rattle.pp_program.specs.declared.program.State.{State}
use Rattle.pp_event.specs.Run.{Config, Turn, Goes, Asks, Rests, Stops, Fails, Machine}
use Rattle.pp_event.specs.Turns.{to}
use Rattle.pp_event.specs.Simulates.{Way, step, Bond, Turning, Matches}
use Rattle.pp_mean.specs.Nodes.{match_turn, other_turn, rests_at}
use Rattle.pp_program.specs.States.{state_turn, is_empty_branch}
use Rattle.pp_lower.specs.Tree.{each_below}
use Rattle.pp_lower.specs.Lowered.{inner_of, edge_by, peek_of}
use Rattle.pp_lower.proofs.Bond.{GoodKeys, GoodPeeks}
use Rattle.pp_lower.specs.steps.Order.{Has}
use Rattle.pp_lower.proofs.Keys.{has_contains, IsInner}
use Rattle.pp_lower.proofs.TreeLaws.{KeyIs, PlaceIs, get_has, inner_only, inner_there}

abbrev pub turn_in : List State → Machine
turn_in states d rest = state_turn (slice_get states d.node) d rest

-- from d, with rest left of whole, the machine comes to what a turn on whole leads to
abbrev pub Walks : Bond → Machine → Config → List ℕ → List ℕ → Turn → Type 0
Walks bond turn d whole rest (Goes to k items) = (e : Config) × Way turn d rest items e (drop k whole) × bond.meet to e
Walks bond turn d whole rest (Rests to) = (e : Config) × (left : List ℕ) × (f : Config) × Turning turn d rest e left (Rests f) × bond.close to f
Walks bond turn d whole rest (Asks code value next) = ⊥
Walks bond turn d whole rest (Stops code to) = ⊥
Walks bond turn d whole rest (Fails code) = ⊥

pub walks_match : (bond : Bond) (turn : Machine) (c d : Config) (rest : List ℕ) (t : Turn) → Walks bond turn d rest rest t → Matches bond turn c d rest t
walks_match bond turn c d rest (Goes to k items) h = h
walks_match bond turn c d rest (Rests to) h = h
walks_match bond turn c d rest (Asks code value next) h = absurd h
walks_match bond turn c d rest (Stops code to) h = absurd h
walks_match bond turn c d rest (Fails code) h = absurd h

-- a turn first, and then the walk
pub walks_step : (bond : Bond) (turn : Machine) (d e : Config) (whole rest : List ℕ) (k : ℕ) (t : Turn) → turn d rest ≡ Goes e k [] → Walks bond turn e whole (drop k rest) t → Walks bond turn d whole rest t
walks_step bond turn d e whole rest k (Goes to n items) g h = (h.0, step g h.1 refl, h.2)
walks_step bond turn d e whole rest k (Rests to) g h = (h.0, h.1, h.2, record { way = step g h.3.way refl; turn_is = h.3.turn_is }, h.4)
walks_step bond turn d e whole rest k (Asks code value next) g h = absurd h
walks_step bond turn d e whole rest k (Stops code to) g h = absurd h
walks_step bond turn d e whole rest k (Fails code) g h = absurd h

-- Edges.
pub own_by : (roots : ℕ → ℕ) (root b : ℕ) (i : Option ℕ) (k : Option Key) (q : Option Peek) (e : Edge) → edge_by roots root b i k q ≡ Some e → (e.lo ≡ b) × (e.hi ≡ b)
own_by roots root b (Some i) k q e h =
    let x : Edge = record { lo = b; hi = b; take = true; number = None; target = root + suc i } in
    let same : x ≡ e = cc in
    (sym (ap (λ (y : Edge). y.lo) same), sym (ap (λ (y : Edge). y.hi) same))
own_by roots root b None (Some k) q e h =
    let x : Edge = record { lo = b; hi = b; take = true; number = k.number; target = roots k.target } in
    let same : x ≡ e = cc in
    (sym (ap (λ (y : Edge). y.lo) same), sym (ap (λ (y : Edge). y.hi) same))
own_by roots root b None None (Some p) e h =
    let x : Edge = record { lo = b; hi = b; take = false; number = None; target = roots p.target } in
    let same : x ≡ e = cc in
    (sym (ap (λ (y : Edge). y.lo) same), sym (ap (λ (y : Edge). y.hi) same))
own_by roots root b None None None e h = cc

abbrev pub PeekIs : List Peek → ℕ → Option Peek → Type 0
PeekIs peeks b (Some q) = Has peeks q × (q.byte ≡ b)
PeekIs peeks b None = Unit {0}

peek_more : (p : Peek) (peeks : List Peek) (b : ℕ) (o : Option Peek) → PeekIs peeks b o → PeekIs (p ∷ peeks) b o
peek_more p peeks b None h = tt
peek_more p peeks b (Some q) h = (inr h.0, h.1)

pub find_peek : (peeks : List Peek) (b : ℕ) → PeekIs peeks b (find (λ (p : Peek). p.byte == b) peeks)
find_peek [] b = tt
find_peek (p ∷ peeks) b = go (eqb p.byte b) refl (find_peek peeks b)
  where
    go : (v : Bool) → eqb p.byte b ≡ v → PeekIs peeks b (find (λ (q : Peek). q.byte == b) peeks) → PeekIs (p ∷ peeks) b (cond v (Some p) (find (λ (q : Peek). q.byte == b) peeks))
    go true e h = (inl refl, eqb-true p.byte b e)
    go false e h = peek_more p peeks b (find (λ (q : Peek). q.byte == b) peeks) h

pub peek_is : (peeks : List Peek) (p : List ℕ) (b : ℕ) → PeekIs peeks b (peek_of peeks p b)
peek_is peeks [] b = find_peek peeks b
peek_is peeks (x ∷ p) b = tt

not_below : (b : ℕ) → 256 ≤ b → b < 256 → ⊥
not_below b h k = omega arith

pub none_by : (roots : ℕ → ℕ) (root : ℕ) (keys : List Key) (peeks : List Peek) (p : List ℕ) (b : ℕ) → GoodKeys keys → GoodPeeks peeks → 256 ≤ b →
    (i : Option ℕ) → PlaceIs (p ++ b ∷ []) (inner_of keys) i → (k : Option Key) → KeyIs keys (p ++ b ∷ []) k → (q : Option Peek) → PeekIs peeks b q →
    edge_by roots root b i k q ≡ None
none_by roots root keys peeks p b good small h (Some i) place k key q peek =
    let inner : IsInner keys (p ++ b ∷ []) = inner_only keys (p ++ b ∷ []) (get_has (inner_of keys) i (p ++ b ∷ []) place) in
    absurd (not_below b h (good.small inner.0 p (inner.2 ∷ inner.3) b (has_contains keys inner.0 inner.1) (inner.4 ∙ append_assoc p (b ∷ []) (inner.2 ∷ inner.3))))
none_by roots root keys peeks p b good small h None place (Some k) key q peek = absurd (not_below b h (good.small k p [] b (has_contains keys k key.0) key.1))
none_by roots root keys peeks p b good small h None place None key (Some q) peek =
    let below : q.byte < 256 = small.small q (has_contains peeks q peek.0) in
    let same : q.byte ≡ b = peek.1 in
    absurd (not_below b h (subst (λ (x : ℕ). x < 256) same below))
none_by roots root keys peeks p b good small h None place None key None peek = refl

-- an inner prefix has an edge: on the next byte of its key
pub some_by : (roots : ℕ → ℕ) (root : ℕ) (keys : List Key) (p : List ℕ) (b : ℕ) (more : List ℕ) (l : Key) → Has keys l → l.bytes ≡ p ++ b ∷ more →
    (i : Option ℕ) → PlaceIs (p ++ b ∷ []) (inner_of keys) i → (k : Option Key) → KeyIs keys (p ++ b ∷ []) k → (q : Option Peek) → (e : Edge) × (edge_by roots root b i k q ≡ Some e)
some_by roots root keys p b more l h e (Some i) place k key q = (record { lo = b; hi = b; take = true; number = None; target = root + suc i }, refl)
some_by roots root keys p b more l h e None place (Some k) key q = (record { lo = b; hi = b; take = true; number = k.number; target = roots k.target }, refl)
some_by roots root keys p b [] l h e None place None key q = absurd (key l h e)
some_by roots root keys p b (x ∷ more) l h e None place None key q =
    absurd (place (inner_there keys p b (l, h, x, more, e ∙ sym (append_assoc p (b ∷ []) (x ∷ more)))))

pub some_peek : (roots : ℕ → ℕ) (root b : ℕ) (i : Option ℕ) (k : Option Key) (q : Peek) → (e : Edge) × (edge_by roots root b i k (Some q) ≡ Some e)
some_peek roots root b (Some i) k q = (record { lo = b; hi = b; take = true; number = None; target = root + suc i }, refl)
some_peek roots root b None (Some k) q = (record { lo = b; hi = b; take = true; number = k.number; target = roots k.target }, refl)
some_peek roots root b None None q = (record { lo = b; hi = b; take = false; number = None; target = roots q.target }, refl)

pub no_edges : (edge : ℕ → Option Edge) → ((b : ℕ) → edge b ≡ None) → (n : ℕ) → each_below edge n ≡ []
no_edges edge none zero = refl
no_edges edge none (suc n) = rw (no_edges edge none n, none n) refl

-- at the end of the bytes
pub full_branch : (edges : List Edge) (r : Rest) (x : Edge) (l : List Edge) → edges ≡ x ∷ l → is_empty_branch [] edges r ≡ false
full_branch edges r x l e = ap (λ (y : List Edge). is_empty_branch [] y r) e

pub skip_branch : (edges : List Edge) (r : Rest) → r.skip ≡ true → is_empty_branch [] edges r ≡ false
skip_branch [] r e = ap not e
skip_branch (x ∷ l) r e = refl

pub empty_branch : (edges : List Edge) (r : Rest) → edges ≡ [] → r.skip ≡ false → is_empty_branch [] edges r ≡ true
empty_branch edges r e s = ap (λ (y : List Edge). is_empty_branch [] y r) e ∙ ap not s

-- a node has no key, or is inside of one from the beginning
pub key_or_none : (keys : List Key) → GoodKeys keys → (keys ≡ []) ⊎ IsInner keys []
key_or_none [] good = inl refl
key_or_none (k ∷ keys) good = go k.bytes refl
  where
    go : (l : List ℕ) → k.bytes ≡ l → (k ∷ keys ≡ []) ⊎ IsInner (k ∷ keys) []
    go [] e = absurd (good.filled k (has_contains (k ∷ keys) k (inl refl)) e)
    go (b ∷ more) e = inr (k, inl refl, b, more, e)

pub peek_or_none : (peeks : List Peek) → (peeks ≡ []) ⊎ ((q : Peek) × (find (λ (p : Peek). p.byte == q.byte) peeks ≡ Some q))
peek_or_none [] = inl refl
peek_or_none (q ∷ peeks) = inr (q, ap (λ (v : Bool). cond v (Some q) (find (λ (p : Peek). p.byte == q.byte) peeks)) (eq-eqb q.byte q.byte refl))

-- what the graph's node does with no key and no byte
pub end_peeks : (c : Config) (whole : List ℕ) (peeks : List Peek) (other : Other) (q : Peek) → find (λ (p : Peek). p.byte == q.byte) peeks ≡ Some q →
    match_turn c whole [] peeks other [] ≡ Rests (rests_at c whole)
end_peeks c whole [] other q e = cc
end_peeks c whole (p ∷ peeks) other q e = refl

pub end_skip : (c : Config) (whole : List ℕ) (peeks : List Peek) (other : Other) → other.skip ≡ true → match_turn c whole [] peeks other [] ≡ Rests (rests_at c whole)
end_skip c whole [] other e = ap (λ (v : Bool). cond v (Rests (rests_at c whole)) (other_turn c other 0)) e
end_skip c whole (p ∷ peeks) other e = refl

pub end_plain : (c : Config) (whole : List ℕ) (other : Other) → other.skip ≡ false → match_turn c whole [] [] other [] ≡ to c other.target 0 0
end_plain c whole other e =
    ap (λ (v : Bool). cond v (Rests (rests_at c whole)) (other_turn c other 0)) e
    ∙ ap (λ (v : Bool). to c other.target (cond v 1 0) 0) e
