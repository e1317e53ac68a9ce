-- Sets of ranges of bytes.
use Rattle.std.proofs.Common.{◌≡◌, refl, sym, subst, ap, ◌∙◌, ℕ, suc, ◌+◌, List, [], ◌∷◌, Bool, true, false, cond, filter, nat_eq, arith}
use Rattle.std.specs.List.{list_any}
use Rattle.std.specs.Ordering.{nat_cmp}
use Rattle.std.specs.FinSet.{FinSet, from_list, insert, contains, contains-from_list_nat}
use Rattle.pp_bytes.specs.Bytes.{bytes_of, all_bytes}
use Rattle.pp_bytes.specs.Ranges.{in_ranges}
use Rattle.pp_http.specs.ByteSets.{down}

pub down_taken : (n : ℕ) (ranges : List (ℕ × ℕ)) (s new : FinSet nat_cmp) → s ≡ from_list (down n ranges) → in_ranges ranges n ≡ true → new ≡ insert s n → new ≡ from_list (down (n + 1) ranges)
down_taken n ranges s new e h i =
    let one : suc n ≡ n + 1 = omega arith in
    subst (λ m. new ≡ from_list (down m ranges)) one
    (i ∙ ap (λ (t : FinSet nat_cmp). insert t n) e ∙ sym (ap (λ b. from_list (cond b (n ∷ down n ranges) (down n ranges))) h))

pub down_passed : (n : ℕ) (ranges : List (ℕ × ℕ)) (s : FinSet nat_cmp) → s ≡ from_list (down n ranges) → in_ranges ranges n ≡ false → s ≡ from_list (down (n + 1) ranges)
down_passed n ranges s e h =
    let one : suc n ≡ n + 1 = omega arith in
    subst (λ m. s ≡ from_list (down m ranges)) one (e ∙ sym (ap (λ b. from_list (cond b (n ∷ down n ranges) (down n ranges))) h))

pub filter_same : (f g : ℕ → Bool) → ((q : ℕ) → f q ≡ g q) → (xs : List ℕ) → filter f xs ≡ filter g xs
filter_same f g h [] = refl
filter_same f g h (x ∷ xs) = ap (λ b. cond b (x ∷ filter f xs) (filter f xs)) (h x) ∙ ap (λ ys. cond (g x) (x ∷ ys) ys) (filter_same f g h xs)

pub made : (s : FinSet nat_cmp) (xs bytes : List ℕ) → s ≡ from_list xs → filter (λ q. list_any (λ y. nat_eq y q) xs) all_bytes ≡ bytes → bytes_of s ≡ bytes
made s xs bytes e f = ap (λ (t : FinSet nat_cmp). bytes_of t) e ∙ filter_same (contains (from_list {R = nat_cmp} xs)) (λ q. list_any (λ y. nat_eq y q) xs) (contains-from_list_nat xs) all_bytes ∙ f
