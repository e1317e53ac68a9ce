-- The rule on prefix gaps, node by node: a call fails exactly where the later of two keys that leave a gap stands.
use Rattle.std.proofs.Common.{◌≡◌, ℕ, ◌+◌, ◌<◌, ◌⊎◌, inl, inr, zero, suc, max, List, [], ◌∷◌, ◌++◌, Bool, true, ◌||◌, ◌==◌, Option, Some, option_and_then, get_or, take, drop, slice_get, length, refl, ap, sym, ◌∙◌, subst, arith}
use Rattle.std.specs.Prelude.{None as none}
use Rattle.std.proofs.lemmas.Bool.{false≢true, cases_lt}
use Rattle.std.proofs.lemmas.Option.{slice_get_past}
use Rattle.pp_rules.specs.declared.call.NamedEdge.{NamedEdge}
use Rattle.pp_rules.specs.declared.call.NamedEdge.TheVariants as edge
use Rattle.pp_rules.specs.declared.call.BuilderCall.{BuilderCall}
use Rattle.pp_rules.specs.declared.rules.GraphRule.TheVariants.{PrefixGap}
use Rattle.pp_rules.specs.Calls.{is_node, own_calls, since_node}
use Rattle.pp_rules.specs.Keys.{has_gap}
use Rattle.pp_rules.specs.Edges.{edge_of, key_of_edge, keys_of}
use Rattle.pp_rules.specs.Rules.SortedKeys.{gaps_with, gaps_with_any}
use Rattle.pp_rules.specs.Rules.{fails_at, fails_at_call, FailsAt}
use Rattle.pp_rules.specs.steps.Gaps.{key_of, IsKeyAt, IsGapAt}
use Rattle.pp_rules.proofs.KeyLemmas.{place-of_any, any-of_place, key-below, or-true, or-left, or-right, and-true, and-no, lt-of_test}
use Rattle.pp_rules.proofs.RuleLemmas.{slice_get-split, fails_at-split, fails_at-within}
use Rattle.pp_rules.proofs.NodeLemmas.{IsByNode, node-edge}

-- the key of an edge that leaves a gap
gap-edge : (keys earlier : List (List ℕ)) (e : Option NamedEdge) → gaps_with_any keys earlier e ≡ true → (bytes : List ℕ) × (option_and_then key_of_edge e ≡ Some bytes) × (gaps_with keys earlier bytes ≡ true)
gap-edge keys earlier none h = absurd (false≢true h)
gap-edge keys earlier (Some (edge.Key bytes number)) h = (bytes, refl, h)
gap-edge keys earlier (Some (edge.Peek byte)) h = absurd (false≢true h)
gap-edge keys earlier (Some (edge.Answer number)) h = absurd (false≢true h)
gap-edge keys earlier (Some (edge.Otherwise skip)) h = absurd (false≢true h)

edge-gap : (keys earlier : List (List ℕ)) (e : Option NamedEdge) (bytes : List ℕ) → option_and_then key_of_edge e ≡ Some bytes → gaps_with keys earlier bytes ≡ true → gaps_with_any keys earlier e ≡ true
edge-gap keys earlier none bytes s h = absurd cc
edge-gap keys earlier (Some (edge.Key own number)) bytes s h =
    let same : bytes ≡ own = cc in
    subst (λ b. gaps_with keys earlier b ≡ true) same h
edge-gap keys earlier (Some (edge.Peek byte)) bytes s h = absurd cc
edge-gap keys earlier (Some (edge.Answer number)) bytes s h = absurd cc
edge-gap keys earlier (Some (edge.Otherwise skip)) bytes s h = absurd cc

-- a key among the first calls, and among all
pub key-append : (front more : List BuilderCall) (p : ℕ) (key : List ℕ) → IsKeyAt front p key → IsKeyAt (front ++ more) p key
key-append [] more p key h = absurd cc
key-append (c ∷ front) more zero key h = h
key-append (c ∷ front) more (suc p) key h = key-append front more p key h

pub append-key : (front more : List BuilderCall) (p : ℕ) (key : List ℕ) → p < length front → IsKeyAt (front ++ more) p key → IsKeyAt front p key
append-key [] more p key low h = absurd (omega arith)
append-key (c ∷ front) more zero key low h = h
append-key (c ∷ front) more (suc p) key low h = append-key front more p key (omega arith) h

-- the key of the call behind these
pub key-split : (front : List BuilderCall) (c : BuilderCall) (after : List BuilderCall) → option_and_then key_of (slice_get (front ++ c ∷ after) (length front)) ≡ key_of c
key-split front c after = ap (option_and_then key_of) (slice_get-split front c after)

max-left : (p q : ℕ) → q < p → p ≡ max p q
max-left p q h = omega arith

max-right : (p q : ℕ) → p < q → q ≡ max p q
max-right p q h = omega arith

-- the test of a gap with an earlier key
abbrev gap_either : List (List ℕ) → List ℕ → List ℕ → Bool
gap_either keys bytes k = has_gap keys k bytes || has_gap keys bytes k

-- a call of a node that leaves a gap with an earlier one
gap-of_test : (front : List BuilderCall) (c : BuilderCall) (later : List BuilderCall) → gaps_with_any (keys_of (front ++ c ∷ later)) (keys_of front) (edge_of c) ≡ true → IsGapAt (front ++ c ∷ later) (length front)
gap-of_test front c later h =
    let own = front ++ c ∷ later in
    let m = length front in
    let e = gap-edge (keys_of own) (keys_of front) (edge_of c) h in
    let bytes = e.0 in
    let here : IsKeyAt own m bytes = key-split front c later ∙ e.1 in
    let r = place-of_any (gap_either (keys_of own) bytes) front e.2 in
    let p = r.0 in
    let low : p < m = key-below front p r.1 r.2 in
    let there : IsKeyAt own p r.1 = key-append front (c ∷ later) p r.1 r.2 in
    elim (or-true (has_gap (keys_of own) r.1 bytes) (has_gap (keys_of own) bytes r.1) r.3) [
      | inl gap ↦ (m, (bytes, here, p, (r.1, there, gap), max-right p m low))
      | inr gap ↦ (p, (r.1, there, m, (bytes, here, gap), max-left m p low))
    ]

-- of two keys that leave a gap one is longer, so they stand at two places
gap-shorter : (keys : List (List ℕ)) (short long : List ℕ) → has_gap keys short long ≡ true → length short < length long
gap-shorter keys short long h = lt-of_test (length short) (length long) (and-true _ _ (and-true _ _ h).0).1

gap-apart : (own : List BuilderCall) (p q : ℕ) (short long : List ℕ) → IsKeyAt own p short → IsKeyAt own q long → has_gap (keys_of own) short long ≡ true → p ≡ q → ⊥
gap-apart own p q short long s t gap e =
    let u : IsKeyAt own q short = subst (λ k. IsKeyAt own k short) e s in
    let same : short ≡ long = cc in
    let less : length short < length long = gap-shorter (keys_of own) short long gap in
    let equal : length short ≡ length long = ap length same in
    omega arith

two-places : (p q : ℕ) → (p ≡ q → ⊥) → (p < q) ⊎ (q < p)
two-places p q h = grind arith

test-here : (front : List BuilderCall) (c : BuilderCall) (later : List BuilderCall) (bytes other : List ℕ) (p : ℕ) → IsKeyAt (front ++ c ∷ later) (length front) bytes → IsKeyAt (front ++ c ∷ later) p other → p < length front → gap_either (keys_of (front ++ c ∷ later)) bytes other ≡ true → gaps_with_any (keys_of (front ++ c ∷ later)) (keys_of front) (edge_of c) ≡ true
test-here front c later bytes other p here there low gap =
    let own = front ++ c ∷ later in
    let key : key_of c ≡ Some bytes = sym (key-split front c later) ∙ here in
    let earlier : IsKeyAt front p other = append-key front (c ∷ later) p other low there in
    edge-gap (keys_of own) (keys_of front) (edge_of c) bytes key (any-of_place (gap_either (keys_of own) bytes) front p other earlier gap)

-- and so each such call
test-of_gap : (front : List BuilderCall) (c : BuilderCall) (later : List BuilderCall) → IsGapAt (front ++ c ∷ later) (length front) → gaps_with_any (keys_of (front ++ c ∷ later)) (keys_of front) (edge_of c) ≡ true
test-of_gap front c later (q, (long, at, p, (short, below, gap), e)) =
    let own = front ++ c ∷ later in
    let m = length front in
    elim (two-places p q (gap-apart own p q short long below at gap)) [
      | inl h ↦
          (let last : q ≡ m = omega arith in
          test-here front c later long short p (subst (λ k. IsKeyAt own k long) last at) below (omega arith) (or-left (has_gap (keys_of own) short long) (has_gap (keys_of own) long short) gap))
      | inr h ↦
          (let last : p ≡ m = omega arith in
          test-here front c later short long q (subst (λ k. IsKeyAt own k short) last below) at (omega arith) (or-right (has_gap (keys_of own) long short) (has_gap (keys_of own) short long) gap))
    ]

-- the later of two keys that leave a gap is one of the calls
gap-below : (own : List BuilderCall) (m : ℕ) → IsGapAt own m → m < length own
gap-below own m (q, (long, at, p, (short, below, gap), e)) =
    let a : q < length own = key-below own q long at in
    let b : p < length own = key-below own p short below in
    omega arith

-- no call that adds a node leaves a gap
gap-node : (calls : List BuilderCall) (i : ℕ) (c : BuilderCall) → i < length calls → c ≡ get_or calls i c → is_node c ≡ true → FailsAt PrefixGap calls i → ⊥
gap-node calls i c h e n f =
    let before = since_node (take i calls) in
    let at = fails_at-within PrefixGap calls i c h e in
    false≢true (sym (ap (gaps_with_any (keys_of (before ++ c ∷ own_calls (drop (i + 1) calls))) (keys_of before)) (node-edge c n)) ∙ sym at ∙ f)

-- and none behind the last
gap-within : (calls : List BuilderCall) (m : ℕ) → FailsAt PrefixGap calls m → m < length calls
gap-within calls m f =
    elim (cases_lt m (length calls)) [
      | inl low ↦ low
      | inr past ↦ absurd (false≢true (sym (ap (fails_at_call PrefixGap calls m) (slice_get_past calls m past) ∙ and-no (m == length calls)) ∙ f))
    ]

-- what the rule says at a call, by the calls of its node before it
gap-here : (before front after : List BuilderCall) (c : BuilderCall) → since_node before ≡ front → fails_at PrefixGap (before ++ c ∷ after) (length before) ≡ gaps_with_any (keys_of (front ++ c ∷ own_calls after)) (keys_of front) (edge_of c)
gap-here before front after c e =
    fails_at-split PrefixGap before c after ∙ ap (λ x. gaps_with_any (keys_of (x ++ c ∷ own_calls after)) (keys_of x) (edge_of c)) e

-- so it is a fact of calls by their node
pub gap-by_node : IsByNode (FailsAt PrefixGap) IsGapAt
gap-by_node = record {
  within = gap-within;
  no_node = gap-node;
  below = gap-below;
  to = λ before front after c e f. gap-of_test front c (own_calls after) (sym (gap-here before front after c e) ∙ f);
  from = λ before front after c e gap. gap-here before front after c e ∙ test-of_gap front c (own_calls after) gap;
}
