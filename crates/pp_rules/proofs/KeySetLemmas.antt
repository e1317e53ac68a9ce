-- The keys of one node in a table: no keys, and one key more.
use Rattle.std.proofs.Common.{◌≡◌, ◌≢◌, ℕ, ◌-◌, ◌<◌, List, [], ◌∷◌, ◌++◌, Bool, true, false, ◌||◌, ◌==◌, length, get_or, refl, ap, ap₂, sym, ◌∙◌, arith}
use Rattle.std.proofs.Math.Bool.{or_comm}
use Rattle.std.specs.Prelude.{bytes_eq}
use Rattle.std.specs.List.{list_any}
use Rattle.std.specs.FinSet.{FinSet, contains, insert, empty, contains-insert, contains-empty}
use Rattle.std.specs.Ordering.{nat_cmp}
use Rattle.std.specs.Cmp.{unsigned_tied}
use Rattle.std.proofs.lemmas.Cmp.{nat_cmp_total}
use Rattle.std.proofs.lemmas.Bool.Decides.{Decides-eqb, Decides-like, same_from_decides}
use Rattle.std.proofs.lemmas.List.{length_push}
use Rattle.std.proofs.lemmas.List.Folds.{list_any-append}
use Rattle.std.proofs.lemmas.Slice.Eq.{bytes_eq-Decides}
use Rattle.pp_rules.specs.declared.rules.clash.key_set.KeySet.{KeySet}
use Rattle.pp_rules.specs.Keys.{is_key}
use Rattle.pp_rules.specs.Rules.Clash.{begins_with_byte}
use Rattle.pp_rules.specs.steps.OwnKeys.{HasKeys}
use Rattle.pp_rules.proofs.ListLemmas.{or_false}

-- a set of bytes with one byte more
pub contains-byte : (s : FinSet nat_cmp) (b q : ℕ) → contains (insert s b) q ≡ (contains s q || q == b)
contains-byte s b q =
    contains-insert nat_cmp_total s b q ∙ ap (λ (t : Bool). t || contains s q) (unsigned_tied q b) ∙ or_comm (q == b) (contains s q)

-- a key that is there begins with its first byte
pub begins-some : (b : ℕ) (bytes : List ℕ) → 0 < length bytes → begins_with_byte b bytes ≡ (b == get_or bytes 0 0)
begins-some b [] h = absurd (omega arith)
begins-some b (c ∷ bytes) h = refl

module _ {X : Type 0} where
  -- a test of a list with one more
  pub any-push : (p : X → Bool) (xs : List X) (x : X) → list_any p (xs ++ x ∷ []) ≡ (list_any p xs || p x)
  any-push p xs x = list_any-append p xs (x ∷ []) ∙ ap (λ b. list_any p xs || b) (or_false (p x))

-- different keys are not taken for equal
pub differ : (a b : List ℕ) → a ≢ b → bytes_eq a b ≡ false
differ a b n = by (bytes_eq a b) refl
  where
    by : (t : Bool) → bytes_eq a b ≡ t → bytes_eq a b ≡ false
    by true e = absurd (n ((bytes_eq-Decides a b).0 e))
    by false e = e

-- keys of one byte are equal where their bytes are
pub same-byte : (a b : ℕ) → bytes_eq (a ∷ []) (b ∷ []) ≡ (b == a)
same-byte a b =
    same_from_decides (bytes_eq (a ∷ []) (b ∷ [])) (b == a) (bytes_eq-Decides (a ∷ []) (b ∷ [])) (Decides-like (b == a) (λ e. ap (λ x. x ∷ []) (sym e)) (λ e. cc) (Decides-eqb b a))

-- one key more that is not this one
another : (keys : List (List ℕ)) (key bytes : List ℕ) → key ≢ bytes → is_key (keys ++ key ∷ []) bytes ≡ is_key keys bytes
another keys key bytes n =
    any-push (λ k. bytes_eq k bytes) keys key ∙ ap (λ (t : Bool). is_key keys bytes || t) (differ key bytes n) ∙ or_false (is_key keys bytes)

-- one key more of none or of several bytes
pub HasKeys-push : (old new : KeySet) (keys : List (List ℕ)) (key : List ℕ) → length key ≢ 1 → new.bytes ≡ old.bytes → ((b : ℕ) → contains new.first_bytes b ≡ (contains old.first_bytes b || begins_with_byte b key)) → new.more ≡ old.more - 1 → HasKeys old keys → HasKeys new (keys ++ key ∷ [])
HasKeys-push old new keys key long same firsts less h = record {
  bytes = λ b. ap (λ s. contains s b) same ∙ h.bytes b ∙ sym (another keys key (b ∷ []) (λ d. long (ap length d)));
  first_bytes = λ b. firsts b ∙ ap (λ (t : Bool). t || begins_with_byte b key) (h.first_bytes b) ∙ sym (any-push (begins_with_byte b) keys key);
  more = omega (arith, less, h.more, length_push keys key);
}

-- one key more, of one byte
pub HasKeys-push_byte : (old new : KeySet) (keys : List (List ℕ)) (byte : ℕ) → new.bytes ≡ insert old.bytes byte → new.first_bytes ≡ insert old.first_bytes byte → new.more ≡ old.more - 1 → HasKeys old keys → HasKeys new (keys ++ (byte ∷ []) ∷ [])
HasKeys-push_byte old new keys byte added firsts less h = record {
  bytes = λ b.
      ap (λ s. contains s b) added
      ∙ contains-byte old.bytes byte b
      ∙ ap₂ (λ (x y : Bool). x || y) (h.bytes b) (sym (same-byte byte b))
      ∙ sym (any-push (λ k. bytes_eq k (b ∷ [])) keys (byte ∷ []));
  first_bytes = λ b.
      ap (λ s. contains s b) firsts
      ∙ contains-byte old.first_bytes byte b
      ∙ ap (λ (t : Bool). t || b == byte) (h.first_bytes b)
      ∙ sym (any-push (begins_with_byte b) keys (byte ∷ []));
  more = omega (arith, less, h.more, length_push keys (byte ∷ []));
}

-- no keys
pub HasKeys-new : (table : KeySet) → table.bytes ≡ empty → table.first_bytes ≡ empty → table.more ≡ 2048 → HasKeys table []
HasKeys-new table no_bytes no_firsts room = record {
  bytes = λ b. ap (λ (s : FinSet nat_cmp). contains s b) no_bytes ∙ contains-empty nat_cmp b;
  first_bytes = λ b. ap (λ (s : FinSet nat_cmp). contains s b) no_firsts ∙ contains-empty nat_cmp b;
  more = room;
}
