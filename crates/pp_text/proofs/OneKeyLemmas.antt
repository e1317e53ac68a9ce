-- Keys and sets have one reading: no writing of a byte goes on to be another one.
use Rattle.std.proofs.Common.{◌≡◌, ℕ, ◌<◌, true, List, [], ◌∷◌, ◌++◌, ◌==◌, length, map, flat_map, append_assoc, refl, sym, ap, ap₂, subst, ◌∙◌, arith, IsTrue}
use Rattle.std.proofs.lemmas.Bool.{and_parts, both_ways, not-true, false≢true}
use Rattle.std.proofs.lemmas.List.{length-append}
use Rattle.std.specs.List.{list_all}
use Rattle.pp_text.specs.declared.key.Place.{Place}
use Rattle.pp_text.specs.declared.key.Place.TheVariants as place
use Rattle.pp_text.specs.Tokens.{Token, Word, Quoted, Bracketed}
use Rattle.pp_text.specs.Keys.{Written, Raw, Escape, Hex, written_text, byte_of, is_key_byte, is_set_byte, SpellsKey, Item, One, Range, item_text, is_item, set_bytes, SpellsSet, GivesKeys, GiveKeys}
use Rattle.pp_text.specs.steps.Places.{is_byte_in}
use Rattle.pp_text.specs.steps.Lexing.{begins_with}
use Rattle.pp_text.specs.steps.Shapes.{AreKeyTokens}
use Rattle.pp_text.proofs.WrittenLemmas.{same_first, same_behind, no_escape_x, no_raw_backslash}
use Rattle.pp_text.proofs.KeyLemmas.{some_text}

-- a text begins with one writing
raw_not : (p : Place) (b : ℕ) → IsTrue (is_byte_in p (Raw b)) → b ≡ 92 → ⊥
raw_not p b is e = no_raw_backslash p (subst (λ (c : ℕ). IsTrue (is_byte_in p (Raw c))) e is)

escape_not : (p : Place) (c : ℕ) → IsTrue (is_byte_in p (Escape c)) → c ≡ 120 → ⊥
escape_not p c is e = no_escape_x p (subst (λ (c : ℕ). IsTrue (is_byte_in p (Escape c))) e is)

pub written_same : (p : Place) (a b : Written) (after rest : List ℕ) → IsTrue (is_byte_in p a) → IsTrue (is_byte_in p b) →
    written_text a ++ after ≡ written_text b ++ rest → (a ≡ b) × (after ≡ rest)
written_same p (Raw a) (Raw b) after rest x y e = (ap Raw (same_first a b after rest e), same_behind a b after rest e)
written_same p (Raw a) (Escape b) after rest x y e = absurd (raw_not p a x (same_first a 92 after (b ∷ rest) e))
written_same p (Raw a) (Hex b c) after rest x y e = absurd (raw_not p a x (same_first a 92 after (120 ∷ b ∷ c ∷ rest) e))
written_same p (Escape a) (Raw b) after rest x y e = absurd (raw_not p b y (sym (same_first 92 b (a ∷ after) rest e)))
written_same p (Escape a) (Escape b) after rest x y e =
    let tails = same_behind 92 92 (a ∷ after) (b ∷ rest) e in
    (ap Escape (same_first a b after rest tails), same_behind a b after rest tails)
written_same p (Escape a) (Hex b c) after rest x y e =
    let tails = same_behind 92 92 (a ∷ after) (120 ∷ b ∷ c ∷ rest) e in
    absurd (escape_not p a x (same_first a 120 after (b ∷ c ∷ rest) tails))
written_same p (Hex a d) (Raw b) after rest x y e = absurd (raw_not p b y (sym (same_first 92 b (120 ∷ a ∷ d ∷ after) rest e)))
written_same p (Hex a d) (Escape b) after rest x y e =
    let tails = same_behind 92 92 (120 ∷ a ∷ d ∷ after) (b ∷ rest) e in
    absurd (escape_not p b y (sym (same_first 120 b (a ∷ d ∷ after) rest tails)))
written_same p (Hex a d) (Hex b c) after rest x y e =
    let tails = same_behind 120 120 (a ∷ d ∷ after) (b ∷ c ∷ rest) (same_behind 92 92 (120 ∷ a ∷ d ∷ after) (120 ∷ b ∷ c ∷ rest) e) in
    let lows = same_behind a b (d ∷ after) (c ∷ rest) tails in
    (ap₂ Hex (same_first a b (d ∷ after) (c ∷ rest) tails) (same_first d c after rest lows), same_behind d c after rest lows)

-- a key is written by one list of bytes
writings_same : (a b : List Written) → IsTrue (list_all is_key_byte a) → IsTrue (list_all is_key_byte b) → flat_map written_text a ≡ flat_map written_text b → a ≡ b
writings_same [] [] p q e = refl
writings_same [] (w ∷ b) p q e = absurd (omega (arith, ap length e, length-append (written_text w) (flat_map written_text b), some_text w))
writings_same (w ∷ a) [] p q e = absurd (omega (arith, ap length e, length-append (written_text w) (flat_map written_text a), some_text w))
writings_same (w ∷ a) (v ∷ b) p q e =
    let left = and_parts (is_key_byte w) (list_all is_key_byte a) p in
    let right = and_parts (is_key_byte v) (list_all is_key_byte b) q in
    let both = written_same place.Key w v (flat_map written_text a) (flat_map written_text b) left.0 right.0 e in
    ap₂ ◌∷◌ both.0 (writings_same a b left.1 right.1 both.1)

key_same : (inside a b : List ℕ) → SpellsKey inside a → SpellsKey inside b → a ≡ b
key_same inside a b p q = p.bytes ∙ ap (map byte_of) (writings_same p.written q.written p.each q.each (sym p.spelled ∙ q.spelled)) ∙ sym q.bytes

-- no item and no end of a set begins with `-`
abbrev dash_first : List ℕ → Type 0
dash_first text = begins_with (λ b. b == 45) text ≡ true

no_dash_written : (w : Written) (rest : List ℕ) → IsTrue (is_set_byte w) → ¬ (dash_first (written_text w ++ rest))
no_dash_written (Raw b) rest is dash =
    let parts = and_parts _ _ is in
    both_ways (b == 45) (not-true (b == 45) parts.1) dash
no_dash_written (Escape c) rest is dash = false≢true dash
no_dash_written (Hex a b) rest is dash = false≢true dash

no_dash_items : (items : List Item) → IsTrue (list_all is_item items) → ¬ (dash_first (flat_map item_text items))
no_dash_items [] each dash = false≢true dash
no_dash_items (One w ∷ items) each dash = no_dash_written w (flat_map item_text items) (and_parts _ _ each).0 dash
no_dash_items (Range low high ∷ items) each dash =
    let is = (and_parts _ _ each).0 in
    let bytes = and_parts (is_set_byte low) (is_set_byte high) (and_parts _ _ is).0 in
    no_dash_written low ((45 ∷ written_text high) ++ flat_map item_text items) bytes.0
    (ap (begins_with (λ b. b == 45)) (sym (append_assoc (written_text low) (45 ∷ written_text high) (flat_map item_text items))) ∙ dash)

-- the two bytes of a range
range_bytes : (low high : Written) → IsTrue (is_item (Range low high)) → IsTrue (is_set_byte low) × IsTrue (is_set_byte high)
range_bytes low high is = and_parts (is_set_byte low) (is_set_byte high) (and_parts _ _ is).0

-- a text of items begins with one item
item_same : (a b : Item) (xs ys : List Item) → IsTrue (is_item a) → IsTrue (is_item b) → IsTrue (list_all is_item xs) → IsTrue (list_all is_item ys) →
    item_text a ++ flat_map item_text xs ≡ item_text b ++ flat_map item_text ys → (a ≡ b) × (flat_map item_text xs ≡ flat_map item_text ys)
item_same (One w) (One v) xs ys p q each others e =
    let both = written_same place.Set w v (flat_map item_text xs) (flat_map item_text ys) p q e in
    (ap One both.0, both.1)
item_same (One w) (Range low high) xs ys p q each others e =
    let bytes = range_bytes low high q in
    let tail = (45 ∷ written_text high) ++ flat_map item_text ys in
    let both = written_same place.Set w low (flat_map item_text xs) tail p bytes.0 (e ∙ append_assoc (written_text low) (45 ∷ written_text high) (flat_map item_text ys)) in
    absurd (no_dash_items xs each (ap (begins_with (λ b. b == 45)) both.1))
item_same (Range low high) (One v) xs ys p q each others e =
    let bytes = range_bytes low high p in
    let tail = (45 ∷ written_text high) ++ flat_map item_text xs in
    let both = written_same place.Set v low (flat_map item_text ys) tail q bytes.0 (sym e ∙ append_assoc (written_text low) (45 ∷ written_text high) (flat_map item_text xs)) in
    absurd (no_dash_items ys others (ap (begins_with (λ b. b == 45)) both.1))
item_same (Range low high) (Range l h) xs ys p q each others e =
    let left = range_bytes low high p in
    let right = range_bytes l h q in
    let more = (45 ∷ written_text high) ++ flat_map item_text xs in
    let rest = (45 ∷ written_text h) ++ flat_map item_text ys in
    let first = written_same place.Set low l more rest left.0 right.0
    (sym (append_assoc (written_text low) (45 ∷ written_text high) (flat_map item_text xs)) ∙ e ∙ append_assoc (written_text l) (45 ∷ written_text h) (flat_map item_text ys)) in
    let second = written_same place.Set high h (flat_map item_text xs) (flat_map item_text ys) left.1 right.1 (same_behind 45 45 (written_text high ++ flat_map item_text xs) (written_text h ++ flat_map item_text ys) first.1) in
    (ap₂ Range first.0 second.0, second.1)

item_some : (item : Item) → 0 < length (item_text item)
item_some (One w) = some_text w
item_some (Range low high) = omega (arith, length-append (written_text low) (45 ∷ written_text high), some_text low)

items_same : (a b : List Item) → IsTrue (list_all is_item a) → IsTrue (list_all is_item b) → flat_map item_text a ≡ flat_map item_text b → a ≡ b
items_same [] [] p q e = refl
items_same [] (i ∷ b) p q e = absurd (omega (arith, ap length e, length-append (item_text i) (flat_map item_text b), item_some i))
items_same (i ∷ a) [] p q e = absurd (omega (arith, ap length e, length-append (item_text i) (flat_map item_text a), item_some i))
items_same (i ∷ a) (j ∷ b) p q e =
    let left = and_parts (is_item i) (list_all is_item a) p in
    let right = and_parts (is_item j) (list_all is_item b) q in
    let both = item_same i j a b left.0 right.0 left.1 right.1 e in
    ap₂ ◌∷◌ both.0 (items_same a b left.1 right.1 both.1)

set_same : (inside a b : List ℕ) → SpellsSet inside a → SpellsSet inside b → a ≡ b
set_same inside a b p q = p.are ∙ ap set_bytes (items_same p.items q.items p.each q.each (sym p.spelled ∙ q.spelled)) ∙ sym q.are

-- a token gives the same keys in each reading
gives_same : (token : Token) (a b : List (List ℕ)) → GivesKeys token a → GivesKeys token b → a ≡ b
gives_same (Word bytes) a b p q = absurd p
gives_same (Quoted inside) a b p q = p.2 ∙ ap (λ (key : List ℕ). key ∷ []) (key_same inside p.0 q.0 p.1 q.1) ∙ sym q.2
gives_same (Bracketed inside) a b p q = p.2 ∙ ap (map (λ (b : ℕ). b ∷ [])) (set_same inside p.0 q.0 p.1 q.1) ∙ sym q.2

-- and so do tokens
pub keys_same : (tokens : List Token) (a b : List (List ℕ)) → GiveKeys tokens a → GiveKeys tokens b → a ≡ b
keys_same [] a b p q = p ∙ sym q
keys_same (token ∷ tokens) a b p q =
    p.4 ∙ ap₂ ◌++◌ (gives_same token p.0 q.0 p.2 q.2) (keys_same tokens p.1 q.1 p.3 q.3) ∙ sym q.4

-- no word is a key
pub are_keys : (tokens : List Token) (keys : List (List ℕ)) → GiveKeys tokens keys → AreKeyTokens tokens
are_keys [] keys given = tt
are_keys (Word bytes ∷ tokens) keys given = absurd given.2
are_keys (Quoted inside ∷ tokens) keys given = (tt, are_keys tokens given.1 given.3)
are_keys (Bracketed inside ∷ tokens) keys given = (tt, are_keys tokens given.1 given.3)
