-- The longest prefix that passes a test, found from the front on.
use Rattle.std.proofs.Common.{◌≡◌, ℕ, ◌+◌, ◌<◌, ◌≤◌, Bool, List, ◌++◌, length, length-take, length-drop, take, drop, sym, ap, ◌∙◌, arith, take-append-drop}
use Rattle.std.proofs.lemmas.Bool.{eq-eqb, ne_eqb, cond-true, cond-false}
use Rattle.std.proofs.lemmas.List.{drop-drop, length-take-le}
use Rattle.std.proofs.lemmas.List.Folds.{prefix_len-append}
use Rattle.std.proofs.lemmas.List.Sums.{prefix_len-le-length}
use Rattle.std.specs.List.{prefix_len}

module _ (p : ℕ → Bool) (n : ℕ) (bytes : List ℕ) (room : n ≤ length bytes) where
  -- the prefix of the bytes, by a front of them
  split : prefix_len p bytes ≡ prefix_len p (take n bytes ++ drop n bytes)
  split = ap (prefix_len p) (sym (take-append-drop n bytes))

  -- where the front passes whole, the prefix goes on behind it
  whole_front : prefix_len p (take n bytes) ≡ n → prefix_len p bytes ≡ n + prefix_len p (drop n bytes)
  whole_front whole =
      let long : length (take n bytes) ≡ n = length-take-le n bytes room in
      split ∙ prefix_len-append p (take n bytes) (drop n bytes) ∙ cond-true _ _ _ (eq-eqb _ _ (whole ∙ sym long)) ∙ ap (λ (m : ℕ). m + prefix_len p (drop n bytes)) long

  -- where it does not, the prefix ends in it
  part_front : prefix_len p (take n bytes) < n → prefix_len p bytes ≡ prefix_len p (take n bytes)
  part_front short =
      let long : length (take n bytes) ≡ n = length-take-le n bytes room in
      split ∙ prefix_len-append p (take n bytes) (drop n bytes) ∙ cond-false _ _ _ (ne_eqb _ _ (λ (e : prefix_len p (take n bytes) ≡ length (take n bytes)). omega arith))

-- the run goes on by a block that passes whole
pub run_more : (p : ℕ → Bool) (n at : ℕ) (bytes : List ℕ) → at + n ≤ length bytes → prefix_len p (take n (drop at bytes)) ≡ n →
    at + prefix_len p (drop at bytes) ≡ (at + n) + prefix_len p (drop (at + n) bytes)
run_more p n at bytes room whole =
    omega (arith, whole_front p n (drop at bytes) (omega (arith, length-drop at bytes)) whole, ap (prefix_len p) (drop-drop n at bytes))

-- and ends in one that does not
pub run_ends : (p : ℕ → Bool) (n at : ℕ) (bytes : List ℕ) → at + n ≤ length bytes → prefix_len p (take n (drop at bytes)) < n →
    at + prefix_len p (drop at bytes) ≡ at + prefix_len p (take n (drop at bytes))
run_ends p n at bytes room short =
    ap (λ (m : ℕ). at + m) (part_front p n (drop at bytes) (omega (arith, length-drop at bytes)) short)

-- a run in a part of the bytes ends in them
pub run_within : (p : ℕ → Bool) (n at : ℕ) (bytes : List ℕ) → at ≤ length bytes → at + prefix_len p (take n (drop at bytes)) ≤ length bytes
run_within p n at bytes inside =
    omega (arith, prefix_len-le-length p (take n (drop at bytes)), length-take n (drop at bytes), length-drop at bytes)
