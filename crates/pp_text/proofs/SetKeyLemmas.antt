-- The bytes of a set, as its items say them and as it holds them.
use Rattle.std.proofs.Common.{◌≡◌, ℕ, zero, suc, ◌+◌, ◌<◌, Bool, true, false, ◌||◌, ◌&&◌, ◌==◌, cond, List, [], ◌∷◌, map, refl, sym, ap, ◌∙◌, arith}
use Rattle.std.proofs.lemmas.Bool.Decides.{nat_tests}
use Rattle.std.specs.Prelude.{filter}
use Rattle.std.specs.List.{range_with_len, list_any}
use Rattle.std.specs.FinSet as set
use Rattle.std.specs.Ordering.{nat_cmp}
use Rattle.pp_bytes.specs.Bytes.{all_bytes, bytes_of}
use Rattle.pp_text.specs.Keys.{SpellsSet, item_has}
use Rattle.pp_text.specs.steps.Reading.{HasBytes}
use Rattle.pp_text.specs.steps.Rows.{keys_of}

any_cond : (b from : ℕ) (q : Bool) (rest : List ℕ) → list_any (λ c. b == c) (cond q (from ∷ rest) rest) ≡ (q && b == from || list_any (λ c. b == c) rest)
any_cond b from true rest = refl
any_cond b from false rest = refl

here_alone : (q here there : Bool) → here ≡ true → there ≡ false → (q && here || there) ≡ q
here_alone true here there p r = cc
here_alone false here there p r = cc

there_alone : (q here there : Bool) → here ≡ false → (q && here || there) ≡ there
there_alone true here there p = cc
there_alone false here there p = refl

-- below a range none of its numbers is found
not_below : (p : ℕ → Bool) (b n from : ℕ) → b < from → list_any (λ c. b == c) (filter p (range_with_len from n)) ≡ false
not_below p b zero from below = refl
not_below p b (suc n) from below =
    let other : (b == from) ≡ false = grind (arith, nat_tests) in
    any_cond b from (p from) (filter p (range_with_len (from + 1) n)) ∙ there_alone (p from) (b == from) _ other ∙ not_below p b n (from + 1) (omega arith)

-- the test says which numbers of a range are found
found_in : (p : ℕ → Bool) (b k n from : ℕ) → b ≡ from + k → k < n → list_any (λ c. b == c) (filter p (range_with_len from n)) ≡ p b
found_in p b k zero from at within = absurd (omega arith)
found_in p b zero (suc n) from at within =
    let same : b ≡ from = omega arith in
    let here : (b == from) ≡ true = grind (arith, nat_tests) in
    any_cond b from (p from) (filter p (range_with_len (from + 1) n)) ∙ here_alone (p from) (b == from) _ here (not_below p b n (from + 1) (omega arith)) ∙ ap p (sym same)
found_in p b (suc k) (suc n) from at within =
    let other : (b == from) ≡ false = grind (arith, nat_tests) in
    any_cond b from (p from) (filter p (range_with_len (from + 1) n)) ∙ there_alone (p from) (b == from) _ other ∙ found_in p b k n (from + 1) (omega arith) (omega arith)

same_cond : (q r : Bool) (b : ℕ) (xs ys : List ℕ) → q ≡ r → xs ≡ ys → cond q (b ∷ xs) xs ≡ cond r (b ∷ ys) ys
same_cond q r b xs ys e f = cc

-- tests that agree on a range find the same there
same_found : (p q : ℕ → Bool) (n from : ℕ) → ((b : ℕ) → b < from + n → p b ≡ q b) → filter p (range_with_len from n) ≡ filter q (range_with_len from n)
same_found p q zero from same = refl
same_found p q (suc n) from same =
    same_cond (p from) (q from) from _ _ (same from (omega arith)) (same_found p q n (from + 1) (λ b below. same b (omega arith)))

-- the bytes of a set are found in the range of them all
bytes_are : (s : set.FinSet nat_cmp) → filter (set.contains s) (range_with_len 0 256) ≡ bytes_of s
unfolding all_bytes
bytes_are s = refl

-- a set that has the bytes of such items has them as keys
pub set_keys : (inside bytes : List ℕ) (s : set.FinSet nat_cmp) → SpellsSet inside bytes → HasBytes s bytes → map (λ b. b ∷ []) bytes ≡ keys_of s
set_keys inside bytes s spells has =
    let p = λ (b : ℕ). list_any (item_has b) spells.items in
    let same : bytes ≡ filter (set.contains s) (range_with_len 0 256) =
    spells.are ∙ same_found p (set.contains s) 256 0 (λ b below.
    sym (has b below ∙ ap (list_any (λ c. b == c)) spells.are ∙ found_in p b b 256 0 (omega arith) below)) in
    ap (map (λ (b : ℕ). b ∷ [])) (same ∙ bytes_are s)
