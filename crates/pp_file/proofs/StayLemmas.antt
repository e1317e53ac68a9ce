-- Ranges that are read one behind another make a stay.
use Rattle.std.proofs.Common.{◌≡◌, ℕ, ◌+◌, ◌<◌, ◌≤◌, List, [], ◌∷◌, ◌++◌, length, get_or, All, Option, Some, None, refl, arith}
use Rattle.std.proofs.lemmas.List.{length_push}
use Rattle.std.proofs.lemmas.List.Elements.{All-push, All-nil}
use Rattle.pp_bytes.specs.Ranges.{CanFollow}
use Rattle.pp_file.specs.Parts.{least_stay}

-- so many ranges, each below where the next may begin
pub record IsPartly (stay : List (ℕ × ℕ)) (before : Option (ℕ × ℕ)) (count : ℕ) : Type 0 where
  pub few : length stay ≡ count
  pub below : All (λ (pair : ℕ × ℕ). pair.1 + 2 ≤ least_stay before) stay

pub none_yet : IsPartly [] None 0
none_yet = record { few = refl; below = All-nil (λ (pair : ℕ × ℕ). pair.1 + 2 ≤ 0) }

-- a range that may begin there may follow
pub follows : (stay : List (ℕ × ℕ)) (before : Option (ℕ × ℕ)) (count lo hi : ℕ) → IsPartly stay before count → count < 8 → least_stay before ≤ lo → lo ≤ hi → CanFollow stay lo hi
follows stay before count lo hi so_far room above ordered = record {
  room = omega (arith, so_far.few);
  ordered = ordered;
  apart = λ k d within. omega (arith, so_far.below k d within);
}

-- with it there is one more
pub one_more : (stay : List (ℕ × ℕ)) (before : Option (ℕ × ℕ)) (count lo hi : ℕ) → IsPartly stay before count → least_stay before ≤ lo → lo ≤ hi
    → IsPartly (stay ++ (lo, hi) ∷ []) (Some (lo, hi)) (count + 1)
one_more stay before count lo hi so_far above ordered = record {
  few = omega (arith, length_push stay (lo, hi), so_far.few);
  below = All-push (λ (pair : ℕ × ℕ). pair.1 + 2 ≤ hi + 2) stay (lo, hi) (λ k d within. omega (arith, so_far.below k d within)) (omega arith);
}
