-- The keys of none or of several bytes that come again, node by node.
use Rattle.std.proofs.Common.{◌≡◌, ◌≢◌, ℕ, ◌<◌, inl, inr, List, [], ◌∷◌, ◌++◌, Bool, true, false, not, ◌&&◌, ◌==◌, Option, Some, option_and_then, filter_map, get_or, slice_get, take, length, refl, ap, sym, ◌∙◌, subst, arith}
use Rattle.std.specs.Prelude.{bytes_eq, IsTrue, IsSomeAnd}
use Rattle.std.specs.Prelude.{None as none}
use Rattle.std.specs.List.{list_any}
use Rattle.std.proofs.lemmas.Bool.{false≢true, cases_lt}
use Rattle.std.proofs.lemmas.Bool.Decides.{nat_tests}
use Rattle.std.proofs.lemmas.List.{take_at}
use Rattle.std.proofs.lemmas.Option.{slice_get_read, slice_get_past}
use Rattle.std.proofs.lemmas.Slice.Eq.{bytes_eq-Decides}
use Rattle.pp_rules.specs.declared.call.NamedEdge.{NamedEdge}
use Rattle.pp_rules.specs.declared.call.NamedEdge.TheVariants as edge
use Rattle.pp_rules.specs.declared.call.BuilderCall.{BuilderCall}
use Rattle.pp_rules.specs.Calls.{is_node}
use Rattle.pp_rules.specs.Edges.{edge_of, edges_of, key_of_edge, keys_of}
use Rattle.pp_rules.specs.steps.Clashes.{same_longer, any_with, comes_again, ComesAgainAt}
use Rattle.pp_rules.specs.steps.Gaps.{IsKeyAt}
use Rattle.pp_rules.specs.steps.KeyFaults.{IsAgainAt}
use Rattle.pp_rules.proofs.KeyLemmas.{place-of_any, any-of_place, key-below, or-true, and-true, both-true}
use Rattle.pp_rules.proofs.ListLemmas.{any-filter_map, passes_some}
use Rattle.pp_rules.proofs.RuleLemmas.{slice_get-split}
use Rattle.pp_rules.proofs.NodeLemmas.{IsByNode, node-edge}
use Rattle.pp_rules.proofs.GapLemmas.{key-append, append-key, key-split}

-- a key is this one, which has not one byte
abbrev is_same : List ℕ → List ℕ → Bool
is_same bytes k = bytes_eq k bytes && not (length bytes == 1)

-- the edges that are the same longer key are those of the keys that are
same-keys : (front : List BuilderCall) (bytes : List ℕ) (number : Option ℕ) → any_with same_longer (filter_map edge_of front) (Some (edge.Key bytes number)) ≡ list_any (is_same bytes) (keys_of front)
same-keys front bytes number =
    any-filter_map key_of_edge (is_same bytes) (λ e. same_longer e (edge.Key bytes number)) (filter_map edge_of front) each
  where
    each : (e : NamedEdge) → same_longer e (edge.Key bytes number) ≡ passes_some (is_same bytes) (key_of_edge e)
    each (edge.Key other n) = refl
    each (edge.Peek byte) = refl
    each (edge.Answer n) = refl
    each (edge.Otherwise skip) = refl

-- no edge but a key is the same longer key as another
never : (when : NamedEdge) → ((e : NamedEdge) → same_longer e when ≡ false) → (edges : List NamedEdge) → list_any (λ e. same_longer e when) edges ≡ true → ⊥
never when f [] h = false≢true h
never when f (e ∷ edges) h =
    elim (or-true (same_longer e when) (list_any (λ d. same_longer d when) edges) h) [
      | inl here ↦ false≢true (sym (f e) ∙ here)
      | inr later ↦ never when f edges later
    ]

-- so the call adds a key
again-edge : (edges : List NamedEdge) (o : Option NamedEdge) → any_with same_longer edges o ≡ true → (bytes : List ℕ) × (number : Option ℕ) × (o ≡ Some (edge.Key bytes number))
again-edge edges none h = absurd (false≢true h)
again-edge edges (Some (edge.Key bytes number)) h = (bytes, number, refl)
again-edge edges (Some (edge.Peek byte)) h = absurd (never (edge.Peek byte) each edges h)
  where
    each : (e : NamedEdge) → same_longer e (edge.Peek byte) ≡ false
    each (edge.Key other n) = refl
    each e = refl
again-edge edges (Some (edge.Answer n)) h = absurd (never (edge.Answer n) each edges h)
  where
    each : (e : NamedEdge) → same_longer e (edge.Answer n) ≡ false
    each (edge.Key other m) = refl
    each e = refl
again-edge edges (Some (edge.Otherwise skip)) h = absurd (never (edge.Otherwise skip) each edges h)
  where
    each : (e : NamedEdge) → same_longer e (edge.Otherwise skip) ≡ false
    each (edge.Key other m) = refl
    each e = refl

-- the edge of a key
key-edge : (o : Option NamedEdge) (bytes : List ℕ) → option_and_then key_of_edge o ≡ Some bytes → (number : Option ℕ) × (o ≡ Some (edge.Key bytes number))
key-edge none bytes s = absurd cc
key-edge (Some (edge.Key own number)) bytes s =
    let same : own ≡ bytes = cc in
    (number, ap (λ b. Some (edge.Key b number)) same)
key-edge (Some (edge.Peek byte)) bytes s = absurd cc
key-edge (Some (edge.Answer number)) bytes s = absurd cc
key-edge (Some (edge.Otherwise skip)) bytes s = absurd cc

-- the test of a length, both ways
not-one : (n : ℕ) → not (n == 1) ≡ true → n ≢ 1
not-one n h = grind (arith, nat_tests)

one-not : (n : ℕ) → n ≢ 1 → not (n == 1) ≡ true
one-not n h = grind (arith, nat_tests)

-- a call of a node that adds such a key again
again-of_test : (front : List BuilderCall) (c : BuilderCall) (later : List BuilderCall) → any_with same_longer (filter_map edge_of front) (edge_of c) ≡ true → IsAgainAt (front ++ c ∷ later) (length front)
again-of_test front c later h =
    let m = length front in
    let e = again-edge (filter_map edge_of front) (edge_of c) h in
    let bytes = e.0 in
    let here : IsKeyAt (front ++ c ∷ later) m bytes = key-split front c later ∙ ap (option_and_then key_of_edge) e.2 in
    let r = place-of_any (is_same bytes) front (sym (ap (any_with same_longer (filter_map edge_of front)) e.2 ∙ same-keys front bytes e.1) ∙ h) in
    let p = r.0 in
    let parts = and-true (bytes_eq r.1 bytes) (not (length bytes == 1)) r.3 in
    let there : IsKeyAt front p bytes = subst (IsKeyAt front p) ((bytes_eq-Decides r.1 bytes).0 parts.0) r.2 in
    (m, (bytes, here, not-one (length bytes) parts.1, p, key-below front p bytes there, key-append front (c ∷ later) p bytes there, refl))

-- and so each such call
test-of_again : (front : List BuilderCall) (c : BuilderCall) (later : List BuilderCall) → IsAgainAt (front ++ c ∷ later) (length front) → any_with same_longer (filter_map edge_of front) (edge_of c) ≡ true
test-of_again front c later (q, (bytes, at, many, p, low, there, e)) =
    let here : IsKeyAt (front ++ c ∷ later) (length front) bytes = subst (λ k. IsKeyAt (front ++ c ∷ later) k bytes) (sym e) at in
    let edge = key-edge (edge_of c) bytes (sym (key-split front c later) ∙ here) in
    let earlier : IsKeyAt front p bytes = append-key front (c ∷ later) p bytes (omega arith) there in
    ap (any_with same_longer (filter_map edge_of front)) edge.1
    ∙ same-keys front bytes edge.0
    ∙ any-of_place (is_same bytes) front p bytes earlier (both-true (bytes_eq bytes bytes) (not (length bytes == 1)) ((bytes_eq-Decides bytes bytes).1 refl) (one-not (length bytes) many))

-- the call behind these adds such a key again
again-here : (before after : List BuilderCall) (c : BuilderCall) → ComesAgainAt (before ++ c ∷ after) (length before) → comes_again before c ≡ true
again-here before after c f =
    let all = before ++ c ∷ after in
    let n = length before in
    subst (λ o. IsSomeAnd o (λ d. IsTrue (comes_again before d))) (slice_get-split before c after)
    (subst (λ b. IsSomeAnd (slice_get all n) (λ d. IsTrue (comes_again b d))) (take_at before (c ∷ after) n refl) f)

-- and the other way round
here-again : (before after : List BuilderCall) (c : BuilderCall) → comes_again before c ≡ true → ComesAgainAt (before ++ c ∷ after) (length before)
here-again before after c f =
    let all = before ++ c ∷ after in
    let n = length before in
    subst (λ b. IsSomeAnd (slice_get all n) (λ d. IsTrue (comes_again b d))) (sym (take_at before (c ∷ after) n refl))
    (subst (λ o. IsSomeAnd o (λ d. IsTrue (comes_again before d))) (sym (slice_get-split before c after)) f)

-- the call is one of all
again-within : (calls : List BuilderCall) (m : ℕ) → ComesAgainAt calls m → m < length calls
again-within calls m f =
    elim (cases_lt m (length calls)) [
      | inl low ↦ low
      | inr past ↦ absurd (subst (λ o. IsSomeAnd o (λ c. IsTrue (comes_again (take m calls) c))) (slice_get_past calls m past) f)
    ]

-- and adds no node
again-node : (calls : List BuilderCall) (i : ℕ) (c : BuilderCall) → i < length calls → c ≡ get_or calls i c → is_node c ≡ true → ComesAgainAt calls i → ⊥
again-node calls i c h e n f =
    let at : slice_get calls i ≡ Some c = slice_get_read calls (length calls) i c refl h e in
    let again : comes_again (take i calls) c ≡ true = subst (λ o. IsSomeAnd o (λ d. IsTrue (comes_again (take i calls) d))) at f in
    false≢true (sym (ap (any_with same_longer (edges_of (take i calls))) (node-edge c n)) ∙ again)

-- among those of its node it is one of them
again-below : (own : List BuilderCall) (m : ℕ) → IsAgainAt own m → m < length own
again-below own m (q, (key, at, many, p, low, there, e)) = let h : q < length own = key-below own q key at in omega arith

-- so it is a fact of calls by their node
pub again-by_node : IsByNode ComesAgainAt IsAgainAt
again-by_node = record {
  within = again-within;
  no_node = again-node;
  below = again-below;
  to = λ before front after c e f. again-of_test front c _ (subst (λ x. any_with same_longer (filter_map edge_of x) (edge_of c) ≡ true) e (again-here before after c f));
  from = λ before front after c e again. here-again before after c (subst (λ x. any_with same_longer (filter_map edge_of x) (edge_of c) ≡ true) (sym e) (test-of_again front c _ again));
}
