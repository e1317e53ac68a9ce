-- The edges of one node in tables: one edge more, and a clash with one more.
use Rattle.std.proofs.Common.{◌≡◌, ℕ, List, [], ◌∷◌, ◌++◌, Bool, true, false, not, ◌||◌, ◌&&◌, ◌==◌, cond, length, filter_map, Option, refl, ap, ap₂, sym, ◌∙◌, subst}
use Rattle.std.specs.Prelude.{bytes_eq}
use Rattle.std.specs.List.{list_any}
use Rattle.std.specs.FinSet.{contains, insert}
use Rattle.std.specs.BTreeSet as tree
use Rattle.std.specs.BTreeMap.{is_at}
use Rattle.std.specs.Ordering.{nat_cmp}
use Rattle.std.specs.Cmp.{unsigned_tied}
use Rattle.std.proofs.Math.Bool.{and-true, and-or_distrib_right}
use Rattle.std.proofs.lemmas.Bool.Decides.{Decides-eqb, Decides-like, same_from_decides}
use Rattle.std.proofs.lemmas.Bool.{false≢true, or_right}
use Rattle.std.proofs.lemmas.List.{append-nil}
use Rattle.std.proofs.lemmas.List.Elements.{filter_map-append}
use Rattle.pp_rules.specs.declared.call.NamedEdge.{NamedEdge}
use Rattle.pp_rules.specs.declared.call.NamedEdge.TheVariants as edge
use Rattle.pp_rules.specs.declared.rules.clash.OwnEdges.{OwnEdges}
use Rattle.pp_rules.specs.Keys.{is_key}
use Rattle.pp_rules.specs.Edges.{key_of_edge}
use Rattle.pp_rules.specs.Rules.Clash.{begins_with_byte}
use Rattle.pp_rules.specs.steps.Clashes.{short_clash}
use Rattle.pp_rules.specs.steps.OwnKeys.{HasKeys}
use Rattle.pp_rules.specs.steps.OwnEdges.{is_peek, is_answer, key_clash, begins_in, HasEdges}
use Rattle.pp_rules.proofs.ListLemmas.{or_false, any-filter_map, passes_some}
use Rattle.pp_rules.proofs.KeySetLemmas.{any-push, contains-byte}

-- equal either way round
turned : (a b : ℕ) → (a == b) ≡ (b == a)
turned a b = same_from_decides (a == b) (b == a) (Decides-eqb a b) (Decides-like (b == a) sym sym (Decides-eqb b a))

-- the keys with one edge more
keys-push : (own : List NamedEdge) (when : NamedEdge) → filter_map key_of_edge (own ++ when ∷ []) ≡ filter_map key_of_edge own ++ filter_map key_of_edge (when ∷ [])
keys-push own when = filter_map-append key_of_edge own (when ∷ [])

-- the tables with one edge more
abbrev pub HasMore : OwnEdges → List NamedEdge → NamedEdge → Type 0
HasMore new own when = HasEdges new (own ++ when ∷ [])

-- what each table has behind one more edge
push : (old new : OwnEdges) (own : List NamedEdge) (when : NamedEdge) → HasKeys new.keys (filter_map key_of_edge own ++ filter_map key_of_edge (when ∷ [])) → ((b : ℕ) → contains new.peeks b ≡ (contains old.peeks b || is_peek b when)) → ((n : ℕ) → tree.contains nat_cmp new.answers n ≡ (tree.contains nat_cmp old.answers n || is_answer n when)) → HasEdges old own → HasEdges new (own ++ when ∷ [])
push old new own when keys peeks answers h = record {
  keys = subst (HasKeys new.keys) (sym (keys-push own when)) keys;
  peeks = λ b. peeks b ∙ ap (λ (t : Bool). t || is_peek b when) (h.peeks b) ∙ sym (any-push (is_peek b) own when);
  answers = λ n. answers n ∙ ap (λ (t : Bool). t || is_answer n when) (h.answers n) ∙ sym (any-push (is_answer n) own when);
}

-- the keys behind an edge that is none
same-keys : (old new : OwnEdges) (own : List NamedEdge) → new.keys ≡ old.keys → HasEdges old own → HasKeys new.keys (filter_map key_of_edge own ++ [])
same-keys old new own e h =
    subst (λ k. HasKeys k (filter_map key_of_edge own ++ [])) (sym e) (subst (HasKeys old.keys) (sym (append-nil (filter_map key_of_edge own))) h.keys)

-- behind a key
pub push-key : (old new : OwnEdges) (own : List NamedEdge) (bytes : List ℕ) (number : Option ℕ) (key : List ℕ) → key ≡ bytes → ((keys : List (List ℕ)) → HasKeys old.keys keys → HasKeys new.keys (keys ++ key ∷ [])) → new.peeks ≡ old.peeks → new.answers ≡ old.answers → HasEdges old own → HasEdges new (own ++ edge.Key bytes number ∷ [])
push-key old new own bytes number key e added p a h =
    push old new own (edge.Key bytes number) (subst (λ k. HasKeys new.keys (filter_map key_of_edge own ++ k ∷ [])) e (added (filter_map key_of_edge own) h.keys))
    (λ b. ap (λ s. contains s b) p ∙ sym (or_false (contains old.peeks b)))
    (λ n. ap (λ s. tree.contains nat_cmp s n) a ∙ sym (or_false (tree.contains nat_cmp old.answers n)))
    h

-- behind a peek byte
pub push-peek : (old new : OwnEdges) (own : List NamedEdge) (byte : ℕ) → new.keys ≡ old.keys → new.peeks ≡ insert old.peeks byte → new.answers ≡ old.answers → HasEdges old own → HasEdges new (own ++ edge.Peek byte ∷ [])
push-peek old new own byte k p a h =
    push old new own (edge.Peek byte) (same-keys old new own k h)
    (λ b. ap (λ s. contains s b) p ∙ contains-byte old.peeks byte b ∙ ap (λ (t : Bool). contains old.peeks b || t) (turned b byte))
    (λ n. ap (λ s. tree.contains nat_cmp s n) a ∙ sym (or_false (tree.contains nat_cmp old.answers n)))
    h

-- the set of answer numbers with one more
answers-more : (number n : ℕ) (was now : Bool) → now ≡ cond (is_at (nat_cmp number) n) true was → now ≡ (was || number == n)
answers-more number n was now e = e ∙ ap (λ t. cond t true was) (unsigned_tied number n) ∙ by (number == n) was
  where
    by : (t w : Bool) → cond t true w ≡ (w || t)
    by true w = sym (or_right w true refl)
    by false w = sym (or_false w)

-- behind an answer number
pub push-answer : (old new : OwnEdges) (own : List NamedEdge) (number : ℕ) → new.keys ≡ old.keys → new.peeks ≡ old.peeks → tree.Updates nat_cmp old.answers new.answers number true → HasEdges old own → HasEdges new (own ++ edge.Answer number ∷ [])
push-answer old new own number k p a h =
    push old new own (edge.Answer number) (same-keys old new own k h)
    (λ b. ap (λ s. contains s b) p ∙ sym (or_false (contains old.peeks b)))
    (λ n. answers-more number n (tree.contains nat_cmp old.answers n) (tree.contains nat_cmp new.answers n) (a.0 n))
    h

-- behind an otherwise
pub push-otherwise : (old new : OwnEdges) (own : List NamedEdge) (skip : Bool) → new ≡ old → HasEdges old own → HasEdges new (own ++ edge.Otherwise skip ∷ [])
push-otherwise old new own skip e h =
    push old new own (edge.Otherwise skip) (same-keys old new own (ap (λ t. t.keys) e) h)
    (λ b. ap (λ t. contains t.peeks b) e ∙ sym (or_false (contains old.peeks b)))
    (λ n. ap (λ t. tree.contains nat_cmp t.answers n) e ∙ sym (or_false (tree.contains nat_cmp old.answers n)))
    h

-- clashes, as the tables answer
abbrev pub Tells : Bool → List NamedEdge → NamedEdge → Type 0
Tells r own when = r ≡ list_any (λ e. short_clash e when) own

module _ {X : Type 0} where
  -- tests that agree on each element
  any-same : (p q : X → Bool) (xs : List X) → ((x : X) → p x ≡ q x) → list_any p xs ≡ list_any q xs
  any-same p q [] e = refl
  any-same p q (x ∷ xs) e = ap₂ ◌||◌ (e x) (any-same p q xs e)

  -- a test that one of two tests passes
  pub any-split : (p q r : X → Bool) (xs : List X) → ((x : X) → p x ≡ (q x || r x)) → list_any p xs ≡ (list_any q xs || list_any r xs)
  any-split p q r [] e = refl
  any-split p q r (x ∷ xs) e = ap₂ ◌||◌ (e x) (any-split p q r xs e) ∙ four (q x) (r x) (list_any q xs) (list_any r xs)
    where
      four : (a b c d : Bool) → ((a || b) || (c || d)) ≡ ((a || c) || (b || d))
      four true b c d = refl
      four false true true d = refl
      four false true false d = refl
      four false false c d = refl

  -- a test with a condition that is the same for all elements
  any-and : (p : X → Bool) (b : Bool) (xs : List X) → list_any (λ x. p x && b) xs ≡ (list_any p xs && b)
  any-and p b [] = refl
  any-and p b (x ∷ xs) = ap (λ t. p x && b || t) (any-and p b xs) ∙ sym (and-or_distrib_right (p x) (list_any p xs) b)

  -- no element passes
  any-never : (xs : List X) → list_any (λ x. false) xs ≡ false
  any-never [] = refl
  any-never (x ∷ xs) = any-never xs

-- an edge is this key
abbrev is_key_edge : List ℕ → NamedEdge → Bool
is_key_edge key (edge.Key bytes number) = bytes_eq bytes key
is_key_edge key (edge.Peek byte) = false
is_key_edge key (edge.Answer number) = false
is_key_edge key (edge.Otherwise skip) = false

-- a key is one of the edges where it is one of their keys
key-among : (own : List NamedEdge) (key : List ℕ) → list_any (is_key_edge key) own ≡ is_key (filter_map key_of_edge own) key
key-among own key = any-filter_map key_of_edge (λ k. bytes_eq k key) (is_key_edge key) own each
  where
    each : (e : NamedEdge) → is_key_edge key e ≡ passes_some (λ k. bytes_eq k key) (key_of_edge e)
    each (edge.Key bytes number) = refl
    each (edge.Peek byte) = refl
    each (edge.Answer number) = refl
    each (edge.Otherwise skip) = refl

-- an edge is a key that begins with this byte
abbrev begins_edge : ℕ → NamedEdge → Bool
begins_edge b (edge.Key bytes number) = begins_with_byte b bytes
begins_edge b (edge.Peek byte) = false
begins_edge b (edge.Answer number) = false
begins_edge b (edge.Otherwise skip) = false

-- an edge is such a key where one of their keys is
begun-among : (own : List NamedEdge) (b : ℕ) → list_any (begins_edge b) own ≡ list_any (begins_with_byte b) (filter_map key_of_edge own)
begun-among own b = any-filter_map key_of_edge (begins_with_byte b) (begins_edge b) own each
  where
    each : (e : NamedEdge) → begins_edge b e ≡ passes_some (begins_with_byte b) (key_of_edge e)
    each (edge.Key bytes number) = refl
    each (edge.Peek byte) = refl
    each (edge.Answer number) = refl
    each (edge.Otherwise skip) = refl

-- an edge is a peek byte that the key begins with
abbrev peeks_at : List ℕ → NamedEdge → Bool
peeks_at [] e = false
peeks_at (b ∷ key) e = is_peek b e

-- the table finds the peek byte that a key begins with
peeked-among : (table : OwnEdges) (own : List NamedEdge) (key : List ℕ) → HasEdges table own → begins_in table.peeks key ≡ list_any (peeks_at key) own
peeked-among table own [] h = sym (any-never own)
peeked-among table own (b ∷ key) h = h.peeks b

-- a key among the edges, if it has one byte
byte-key-among : (own : List NamedEdge) (key : List ℕ) → list_any (λ e. is_key_edge key e && length key == 1) own ≡ (is_key (filter_map key_of_edge own) key && length key == 1)
byte-key-among own key = any-and (is_key_edge key) (length key == 1) own ∙ ap (λ t. t && length key == 1) (key-among own key)

-- what the tables answer of a key is whether an edge is this key, of one byte, or a peek byte that it begins with
pub clash-key : (table : OwnEdges) (own : List NamedEdge) (key : List ℕ) → HasEdges table own → (is_key (filter_map key_of_edge own) key && length key == 1 || begins_in table.peeks key) ≡ list_any (λ e. key_clash key e) own
clash-key table own key h =
    ap₂ ◌||◌ (sym (byte-key-among own key)) (peeked-among table own key h)
    ∙ sym (any-split (λ e. key_clash key e) (λ e. is_key_edge key e && length key == 1) (peeks_at key) own (each key))
  where
    each : (k : List ℕ) (e : NamedEdge) → key_clash k e ≡ (is_key_edge k e && length k == 1 || peeks_at k e)
    each [] (edge.Key bytes number) = sym (or_false _)
    each (b ∷ k) (edge.Key bytes number) = sym (or_false _)
    each [] (edge.Peek byte) = refl
    each (b ∷ k) (edge.Peek byte) = refl
    each [] (edge.Answer number) = refl
    each (b ∷ k) (edge.Answer number) = refl
    each [] (edge.Otherwise skip) = refl
    each (b ∷ k) (edge.Otherwise skip) = refl

-- the same of a key of one byte
pub clash-byte : (table : OwnEdges) (own : List NamedEdge) (b : ℕ) → HasEdges table own → (is_key (filter_map key_of_edge own) (b ∷ []) || contains table.peeks b) ≡ list_any (λ e. key_clash (b ∷ []) e) own
clash-byte table own b h =
    ap (λ (t : Bool). t || contains table.peeks b) (sym (and-true (is_key (filter_map key_of_edge own) (b ∷ [])))) ∙ clash-key table own (b ∷ []) h

-- equal keys that are not longer have one byte
one-byte : (a b : Bool) → (a && b) ≡ (a && not (a && not b))
one-byte true true = refl
one-byte true false = refl
one-byte false b = refl

-- these edges are those that clash with the edge of the key
pub clash-as-key : (own : List NamedEdge) (key : List ℕ) (number : Option ℕ) → list_any (λ e. key_clash key e) own ≡ list_any (λ e. short_clash e (edge.Key key number)) own
clash-as-key own key number = any-same (λ e. key_clash key e) (λ e. short_clash e (edge.Key key number)) own each
  where
    each : (e : NamedEdge) → key_clash key e ≡ short_clash e (edge.Key key number)
    each (edge.Key bytes n) = one-byte (bytes_eq bytes key) (length key == 1)
    each (edge.Peek byte) = sym (and-true (begins_with_byte byte key))
    each (edge.Answer n) = refl
    each (edge.Otherwise skip) = refl

-- what the tables answer of a peek byte is whether an edge clashes with it
pub clash-peek : (table : OwnEdges) (own : List NamedEdge) (b : ℕ) → HasEdges table own → (list_any (begins_with_byte b) (filter_map key_of_edge own) || contains table.peeks b) ≡ list_any (λ e. short_clash e (edge.Peek b)) own
clash-peek table own b h =
    ap₂ ◌||◌ (sym (begun-among own b)) (h.peeks b) ∙ sym (any-split (λ e. short_clash e (edge.Peek b)) (begins_edge b) (is_peek b) own each)
  where
    each : (e : NamedEdge) → short_clash e (edge.Peek b) ≡ (begins_edge b e || is_peek b e)
    each (edge.Key bytes n) = and-true (begins_with_byte b bytes) ∙ sym (or_false (begins_with_byte b bytes))
    each (edge.Peek byte) = and-true (byte == b)
    each (edge.Answer n) = refl
    each (edge.Otherwise skip) = refl

-- the same answer numbers are what an answer number clashes with
pub clash-answer : (own : List NamedEdge) (n : ℕ) → list_any (is_answer n) own ≡ list_any (λ e. short_clash e (edge.Answer n)) own
clash-answer own n = any-same (is_answer n) (λ e. short_clash e (edge.Answer n)) own each
  where
    each : (e : NamedEdge) → is_answer n e ≡ short_clash e (edge.Answer n)
    each (edge.Key bytes m) = refl
    each (edge.Peek byte) = refl
    each (edge.Answer m) = sym (and-true (m == n))
    each (edge.Otherwise skip) = refl

-- nothing clashes with an otherwise
pub clash-otherwise : (own : List NamedEdge) (skip : Bool) → false ≡ list_any (λ e. short_clash e (edge.Otherwise skip)) own
clash-otherwise own skip = sym (any-never own) ∙ any-same (λ e. false) (λ e. short_clash e (edge.Otherwise skip)) own each
  where
    each : (e : NamedEdge) → false ≡ short_clash e (edge.Otherwise skip)
    each (edge.Key bytes m) = refl
    each (edge.Peek byte) = refl
    each (edge.Answer m) = refl
    each (edge.Otherwise s) = refl

-- what `||` answers where its left side is known
pub or_then : (a x y r : Bool) → a ≡ true → a ≡ x → (x || y) ≡ r → a ≡ r
or_then a true y r t e h = e ∙ h
or_then a false y r t e h = absurd (false≢true (sym e ∙ t))

pub or_else : (a b x y r : Bool) → a ≡ false → a ≡ x → b ≡ y → (x || y) ≡ r → b ≡ r
or_else a b true y r f e g h = absurd (false≢true (sym f ∙ e))
or_else a b false y r f e g h = g ∙ h
