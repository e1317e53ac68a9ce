-- Ways that tests find: the free moves and the taking moves that a list of nodes and next bytes tells.
use Rattle.std.proofs.Common.{◌≡◌, refl, sym, ◌∙◌, ℕ, zero, suc, ◌<◌, List, [], ◌∷◌, Bool, true, false, not, ◌&&◌, ◌||◌, inl, inr, Option, Some, None, slice_get, slice_index, nat_lt, nat_le, ◌==◌, eqb-true, arith, length}
use Rattle.std.specs.List.{Any, list_all, list_any}
use Rattle.std.proofs.lemmas.Bool.{ltb-true, leb-true, or_cases, cases_Bool, false≢true}
use Rattle.pp_bytes.specs.declared.fold.Fold.{Fold}
use Rattle.pp_bytes.specs.Fold.{folded}
use Rattle.pp_graph.specs.declared.node.Key.{Key}
use Rattle.pp_graph.specs.declared.node.Peek.{Peek}
use Rattle.pp_graph.specs.declared.node.Answer.{Answer}
use Rattle.pp_graph.specs.declared.node.Other.{Other}
use Rattle.pp_graph.specs.declared.node.Kind.{Kind}
use Rattle.pp_graph.specs.declared.node.Kind.TheVariants.{Match, Invoke, Consume, SpanOpen, SpanClose, Pause, Fail}
use Rattle.pp_graph.specs.declared.node.Node.{Node}
use Rattle.pp_graph.specs.Plan.{Plan, IsWellFormed}
use Rattle.pp_flow.specs.Rows.{free, onward as behind}
use Rattle.pp_flow.proofs.ListLemmas.{any-first, any-later, any-either, any-none}
use Rattle.pp_event.specs.Loops.{FreeWay, stay, onward, Reaches, by_free, by_taking, by_pause}
use Rattle.pp_mean.specs.Loops.{graph_moves}
use Rattle.pp_check.specs.steps.Ends.{EndsOf, EndsAt, GoesOnBy, IsLive}
use Rattle.pp_check.proofs.KindLemmas.{free-made-by, onward-made-by}
use Rattle.pp_check.proofs.WellLemmas.{nodes-fit}
use Rattle.pp_http.proofs.TestLemmas.{and_left, and_right}

-- a test that finds an element finds one of which it holds
pub some_found : {X : Type 0} (P : X → Type 0) (f : X → Bool) (xs : List X) → ((x : X) → f x ≡ true → P x) → list_any f xs ≡ true → Any P xs
some_found P f [] is e = absurd (false≢true e)
some_found P f (x ∷ xs) is e = elim (or_cases (f x) (list_any f xs) e) [
  | inl here ↦ any-first P x xs (is x here)
  | inr rest ↦ any-later P x xs (some_found P f xs is rest)
]

-- a test that finds none
pub none_found : {X : Type 0} (P : X → Type 0) (f : X → Bool) (xs : List X) → ((x : X) → P x → f x ≡ true) → list_any f xs ≡ false → Any P xs → ⊥
none_found P f [] is e a = any-none P a
none_found P f (x ∷ xs) is e a = elim (any-either P x xs a) [
  | inl here ↦ false≢true (sym (or_none (f x) (list_any f xs) e).0 ∙ is x here)
  | inr rest ↦ none_found P f xs is (or_none (f x) (list_any f xs) e).1 rest
]
  where
    or_none : (a b : Bool) → (a || b) ≡ false → (a ≡ false) × (b ≡ false)
    or_none true b e = absurd cc
    or_none false b e = (refl, e)

not_from : (b : Bool) → not b ≡ true → b ≡ false
not_from true e = sym e
not_from false e = refl

eqb-same : (a b : ℕ) → a ≡ b → (a == b) ≡ true
eqb-same a b e = grind (arith, e)

-- whether a match node's otherwise is taken on this byte, folded, without taking it
abbrev pub otherwise_on : List Key → List Peek → Other → ℕ → ℕ → Bool
otherwise_on keys peeks other c next =
    (other.target == next) && (not other.skip && (not (list_any (λ (k : Key). slice_index k.bytes 0 == c) keys) && not (list_any (λ (p : Peek). p.byte == c) peeks)))

abbrev pub peeks_to : List Peek → ℕ → ℕ → Bool
peeks_to peeks c next = list_any (λ (p : Peek). (p.byte == c) && (p.target == next)) peeks

-- whether a node of this kind has a free move to the next on this byte
abbrev pub is_free : Kind → ℕ → ℕ → Bool
is_free (Match fold keys peeks other) b next = peeks_to peeks (folded fold b) next || otherwise_on keys peeks other (folded fold b) next
is_free (Invoke what answers other) b next = (other == next) || list_any (λ (a : Answer). a.target == next) answers
is_free (Consume prop n) b next = n == next
is_free (SpanOpen span n) b next = n == next
is_free (SpanClose span n) b next = n == next
is_free (Pause code reason n) b next = n == next
is_free (Fail code reason) b next = false

-- whether one of its longest keys begins with the byte and leads to the next
abbrev pub takes_key : Fold → List Key → ℕ → ℕ → Bool
takes_key fold keys b next =
    list_any (λ (k : Key). (slice_index k.bytes 0 == folded fold b) && ((k.target == next) && list_all (λ (l : Key). nat_le (length l.bytes) (length k.bytes)) keys)) keys

abbrev pub is_taking : Kind → ℕ → ℕ → Bool
is_taking (Match fold keys peeks other) b next = takes_key fold keys b next
is_taking (Invoke what answers other) b next = false
is_taking (Consume prop n) b next = false
is_taking (SpanOpen span n) b next = false
is_taking (SpanClose span n) b next = false
is_taking (Pause code reason n) b next = false
is_taking (Fail code reason) b next = false

pub free-found : (k : Kind) (b next : ℕ) → is_free k b next ≡ true → EndsOf k free b next
free-found (Match fold keys peeks other) b next e = elim (or_cases (peeks_to peeks (folded fold b) next) (otherwise_on keys peeks other (folded fold b) next) e) [
  | inl peeked ↦ inr (inl (some_found (λ (p : Peek). (p.byte ≡ folded fold b) × (p.target ≡ next)) (λ (p : Peek). (p.byte == folded fold b) && (p.target == next)) peeks
      (λ p h. (eqb-true p.byte (folded fold b) (and_left (p.byte == folded fold b) (p.target == next) h), eqb-true p.target next (and_right (p.byte == folded fold b) (p.target == next) h))) peeked))
  | inr passed ↦
      let keyless : Bool = not (list_any (λ (k : Key). slice_index k.bytes 0 == folded fold b) keys) in
      let peekless : Bool = not (list_any (λ (p : Peek). p.byte == folded fold b) peeks) in
      let rest : (not other.skip && (keyless && peekless)) ≡ true = and_right (other.target == next) (not other.skip && (keyless && peekless)) passed in
      let apart : (keyless && peekless) ≡ true = and_right (not other.skip) (keyless && peekless) rest in
      inr (inr (
        eqb-true other.target next (and_left (other.target == next) (not other.skip && (keyless && peekless)) passed),
        not_from other.skip (and_left (not other.skip) (keyless && peekless) rest),
        (
          none_found (λ (k : Key). slice_index k.bytes 0 ≡ folded fold b) (λ (k : Key). slice_index k.bytes 0 == folded fold b) keys (λ k h. eqb-same (slice_index k.bytes 0) (folded fold b) h) (not_from (list_any (λ (k : Key). slice_index k.bytes 0 == folded fold b) keys) (and_left keyless peekless apart)),
          none_found (λ (p : Peek). p.byte ≡ folded fold b) (λ (p : Peek). p.byte == folded fold b) peeks (λ p h. eqb-same p.byte (folded fold b) h) (not_from (list_any (λ (p : Peek). p.byte == folded fold b) peeks) (and_right keyless peekless apart)),
        ),
      ))
]
free-found (Invoke what answers other) b next e = elim (or_cases (other == next) (list_any (λ (a : Answer). a.target == next) answers) e) [
  | inl plain ↦ inl (eqb-true other next plain)
  | inr answered ↦ inr (some_found (λ (a : Answer). a.target ≡ next) (λ (a : Answer). a.target == next) answers (λ a h. eqb-true a.target next h) answered)
]
free-found (Consume prop n) b next e = eqb-true n next e
free-found (SpanOpen span n) b next e = eqb-true n next e
free-found (SpanClose span n) b next e = eqb-true n next e
free-found (Pause code reason n) b next e = eqb-true n next e
free-found (Fail code reason) b next e = absurd (false≢true e)

all_at : {X : Type 0} (f : X → Bool) (P : X → Type 0) (xs : List X) → ((x : X) → P x → f x ≡ false) → list_all f xs ≡ true → Any P xs → ⊥
all_at f P [] is e a = any-none P a
all_at f P (x ∷ xs) is e a = elim (any-either P x xs a) [
  | inl here ↦ false≢true (sym (is x here) ∙ and_left (f x) (list_all f xs) e)
  | inr rest ↦ all_at f P xs is (and_right (f x) (list_all f xs) e) rest
]

-- behind a longest key no key goes on
longest-live : (fold : Fold) (keys : List Key) (bytes : List ℕ) → list_all (λ (l : Key). nat_le (length l.bytes) (length bytes)) keys ≡ true → IsLive fold keys bytes
longest-live fold keys bytes e =
    (0, omega arith, all_at (λ (l : Key). nat_le (length l.bytes) (length bytes)) (λ (k : Key). GoesOnBy bytes k.bytes (folded fold 0)) keys (λ k h. too_short (length k.bytes) (length bytes) h.0) e)
  where
    too_short : (m n : ℕ) → n < m → nat_le m n ≡ false
    too_short m n h = elim (cases_Bool (nat_le m n)) [
      | inl yes_it ↦ absurd (omega (arith, h, leb-true m n yes_it))
      | inr no_it ↦ no_it
    ]

pub taking-found : (k : Kind) (b next : ℕ) → is_taking k b next ≡ true → EndsOf k behind b next
taking-found (Match fold keys peeks other) b next e =
    inl (some_found (λ (k : Key). (slice_index k.bytes 0 ≡ folded fold b) × IsLive fold keys k.bytes × (k.target ≡ next))
    (λ (k : Key). (slice_index k.bytes 0 == folded fold b) && ((k.target == next) && list_all (λ (l : Key). nat_le (length l.bytes) (length k.bytes)) keys)) keys
    (λ k h.
    (let longest : Bool = list_all (λ (l : Key). nat_le (length l.bytes) (length k.bytes)) keys in
    let rest : ((k.target == next) && longest) ≡ true = and_right (slice_index k.bytes 0 == folded fold b) ((k.target == next) && longest) h in (
      eqb-true (slice_index k.bytes 0) (folded fold b) (and_left (slice_index k.bytes 0 == folded fold b) ((k.target == next) && longest) h),
      longest-live fold keys k.bytes (and_right (k.target == next) longest rest),
      eqb-true k.target next (and_left (k.target == next) longest rest),
    ))) e)
taking-found (Invoke what answers other) b next e = absurd (false≢true e)
taking-found (Consume prop n) b next e = absurd (false≢true e)
taking-found (SpanOpen span n) b next e = absurd (false≢true e)
taking-found (SpanClose span n) b next e = absurd (false≢true e)
taking-found (Pause code reason n) b next e = absurd (false≢true e)
taking-found (Fail code reason) b next e = absurd (false≢true e)

-- the same of the node at a place
abbrev pub is_free_at : Option Node → ℕ → ℕ → Bool
is_free_at None b next = false
is_free_at (Some n) b next = is_free n.kind b next

abbrev pub is_taking_at : Option Node → ℕ → ℕ → Bool
is_taking_at None b next = false
is_taking_at (Some n) b next = is_taking n.kind b next

free-there : (o : Option Node) (b next : ℕ) → is_free_at o b next ≡ true → EndsAt o free b next
free-there None b next e = absurd (false≢true e)
free-there (Some n) b next e = free-found n.kind b next e

taking-there : (o : Option Node) (b next : ℕ) → is_taking_at o b next ≡ true → EndsAt o behind b next
taking-there None b next e = absurd (false≢true e)
taking-there (Some n) b next e = taking-found n.kind b next e

-- free moves on one byte from a node to the first of these, and so on
abbrev pub are_free : List Node → ℕ → ℕ → List ℕ → Bool
are_free nodes b node [] = true
are_free nodes b node (next ∷ rest) = is_free_at (slice_get nodes node) b next && are_free nodes b next rest

-- the last of these nodes
abbrev pub last_from : ℕ → List ℕ → ℕ
last_from node [] = node
last_from node (next ∷ rest) = last_from next rest

-- a part of a way: free moves on one byte, then a move that takes bytes, with the byte that comes behind it
abbrev pub Part : Type 0
Part = List ℕ × ℕ × ℕ

-- parts of a way, each from the node where the one before it ends
abbrev pub are_parts : List Node → ℕ → ℕ → List Part → Bool
are_parts nodes b node [] = true
are_parts nodes b node ((frees, next, a) ∷ parts) =
    are_free nodes b node frees && (is_taking_at (slice_get nodes (last_from node frees)) b next && (nat_lt a 256 && are_parts nodes a next parts))

-- where they end
abbrev pub end_of : ℕ → ℕ → List Part → ℕ × ℕ
end_of b node [] = (b, node)
end_of b node ((frees, next, a) ∷ parts) = end_of a next parts

module _ (g : Plan) (well : IsWellFormed g) where
  pub free-way : (b node : ℕ) (frees : List ℕ) → are_free g.nodes b node frees ≡ true → FreeWay (graph_moves g) b node (length frees) (last_from node frees)
  free-way b node [] e = stay
  free-way b node (next ∷ rest) e =
      onward (free-made-by g (nodes-fit g well) b node next (free-there (slice_get g.nodes node) b next (and_left (is_free_at (slice_get g.nodes node) b next) (are_free g.nodes b next rest) e)))
      (free-way b next rest (and_right (is_free_at (slice_get g.nodes node) b next) (are_free g.nodes b next rest) e))

  along : (b node n end : ℕ) → Reaches (graph_moves g) b node → FreeWay (graph_moves g) b node n end → Reaches (graph_moves g) b end
  along b node zero end r stay = r
  along b node (suc n) end r (onward {next = next} m w) = along b next n end (by_free r m) w

  pub parts-reach : (b node : ℕ) (parts : List Part) → Reaches (graph_moves g) b node → are_parts g.nodes b node parts ≡ true →
      Reaches (graph_moves g) (end_of b node parts).0 (end_of b node parts).1
  parts-reach b node [] r e = r
  parts-reach b node ((frees, next, a) ∷ parts) r e =
      let last : ℕ = last_from node frees in
      let taking : Bool = is_taking_at (slice_get g.nodes last) b next in
      let more : Bool = are_parts g.nodes a next parts in
      let rest : (taking && (nat_lt a 256 && more)) ≡ true = and_right (are_free g.nodes b node frees) (taking && (nat_lt a 256 && more)) e in
      let later : (nat_lt a 256 && more) ≡ true = and_right taking (nat_lt a 256 && more) rest in
      let byte : a < 256 = ltb-true a 256 (and_left (nat_lt a 256) more later) in
      let here : Reaches (graph_moves g) b last = along b node (length frees) last r (free-way b node frees (and_left (are_free g.nodes b node frees) (taking && (nat_lt a 256 && more)) e)) in
      let there : Reaches (graph_moves g) a next = elim (onward-made-by g (nodes-fit g well) b last next (taking-there (slice_get g.nodes last) b next (and_left taking (nat_lt a 256 && more) rest))) [
        | inl taken ↦ by_taking byte here taken
        | inr paused ↦ by_pause byte here paused
      ] in
      parts-reach a next parts there (and_right (nat_lt a 256) more later)
