-- The runs of a set of bytes, found from the least byte on.
use Rattle.std.proofs.Common.{◌≡◌, ℕ, zero, suc, ◌+◌, ◌<◌, ◌≤◌, true, false, inl, inr, List, [], ◌∷◌, ◌++◌, length, get_or, take, ap, sym, ◌∙◌, arith}
use Rattle.std.proofs.lemmas.Bool.{and_cases, and_from, not-false, both_ways, cases_lt, cases_Bool, false_from_ne_true, le-leb, or_left, or_right}
use Rattle.std.proofs.lemmas.List.{take_all, length_push}
use Rattle.std.proofs.lemmas.List.Elements.{All-push}
use Rattle.std.proofs.lemmas.List.Sums.{count_by_more_yes, count_by_more_no, sum_by-take-le}
use Rattle.std.specs.List.{All, count_by}
use Rattle.std.specs.Ordering.{nat_cmp}
use Rattle.std.specs.FinSet.{FinSet, contains}
use Rattle.pp_bytes.specs.Bytes.{all_bytes}
use Rattle.pp_bytes.specs.Ranges.{in_ranges}
use Rattle.pp_bytes.specs.steps.Found.{EndsRun, HasRunsBelow}
use Rattle.pp_bytes.specs.Runs.{begins_run, runs_of}
use Rattle.pp_bytes.proofs.TableLemmas.{length-all_bytes, get_or-all_bytes}
use Rattle.pp_bytes.proofs.RangesLemmas.{in_ranges-from_pair, pair_of_byte, in_ranges-push}

-- where no run begins at a byte of the set, the byte below is in the set too
begins_not : (bytes : FinSet nat_cmp) (b : ℕ) → begins_run bytes b ≡ false → contains bytes b ≡ true → (a : ℕ) × (a + 1 ≡ b) × (contains bytes a ≡ true)
begins_not bytes zero none held = absurd (both_ways _ none held)
begins_not bytes (suc b) none held = elim (and_cases _ _ none) [
  | inl out ↦ absurd (both_ways _ out held)
  | inr below ↦ (b, omega arith, not-false _ below)
]

-- what begins below a byte begins below the next
one_further : (bytes : FinSet nat_cmp) (pairs : List (ℕ × ℕ)) (b : ℕ) → All (λ pair. EndsRun bytes pair.0 pair.1 × (pair.0 < b)) pairs →
    All (λ pair. EndsRun bytes pair.0 pair.1 × (pair.0 < b + 1)) pairs
one_further bytes pairs b each k d within = let h = each k d within in (h.0, omega (arith, h.1))

-- the byte b is in the last run, where none begins there
still_covered : (bytes : FinSet nat_cmp) (pairs : List (ℕ × ℕ)) (b : ℕ) → HasRunsBelow bytes pairs b → b < 256 →
    begins_run bytes b ≡ false → contains bytes b ≡ true → in_ranges pairs b ≡ true
still_covered bytes pairs b found byte none held =
    let below = begins_not bytes b none held in
    let place = pair_of_byte pairs below.0 (found.covers below.0 (omega arith) below.2) in
    let pair : ℕ × ℕ = get_or pairs place.0 place.1 in
    let run : EndsRun bytes pair.0 pair.1 = (found.each place.0 place.1 place.2).0 in
    elim (cases_lt pair.1 b) [
      | inl short ↦
          let same : pair.1 + 1 ≡ b = omega arith in
          absurd (both_ways _ (ap (contains bytes) (sym same) ∙ run.ends (omega arith)) held)
      | inr long ↦ in_ranges-from_pair pairs b place.0 place.1 place.2 (omega arith) long
    ]

-- the runs below the next byte are the same, where none begins at this one
pub runs_below_more_no : (bytes : FinSet nat_cmp) (pairs : List (ℕ × ℕ)) (b : ℕ) → HasRunsBelow bytes pairs b → b < 256 →
    begins_run bytes b ≡ false → HasRunsBelow bytes pairs (b + 1)
runs_below_more_no bytes pairs b found byte none = record {
  few = found.few;
  count = found.count ∙ sym (count_by_more_no (begins_run bytes) all_bytes b 0 (omega (arith, length-all_bytes)) (ap (begins_run bytes) (get_or-all_bytes b byte) ∙ none));
  each = one_further bytes pairs b found.each;
  covers = λ x below held. elim (cases_lt x b) [
    | inl before ↦ found.covers x before held
    | inr at ↦
        let same : x ≡ b = omega arith in
        ap (in_ranges pairs) same ∙ still_covered bytes pairs b found byte none (ap (contains bytes) (sym same) ∙ held)
  ];
}

-- and one more, where one begins at this one
pub runs_below_more_yes : (bytes : FinSet nat_cmp) (pairs : List (ℕ × ℕ)) (b hi : ℕ) → HasRunsBelow bytes pairs b → b < 256 →
    begins_run bytes b ≡ true → length pairs < 8 → EndsRun bytes b hi → HasRunsBelow bytes (pairs ++ (b, hi) ∷ []) (b + 1)
runs_below_more_yes bytes pairs b hi found byte begins room run = record {
  few = omega (arith, length_push pairs (b, hi));
  count =
      length_push pairs (b, hi)
      ∙ ap (λ (n : ℕ). n + 1) found.count
      ∙ sym (count_by_more_yes (begins_run bytes) all_bytes b 0 (omega (arith, length-all_bytes)) (ap (begins_run bytes) (get_or-all_bytes b byte) ∙ begins));
  each = All-push (λ pair. EndsRun bytes pair.0 pair.1 × (pair.0 < b + 1)) pairs (b, hi) (one_further bytes pairs b found.each) (run, omega arith);
  covers = λ x below held. in_ranges-push pairs (b, hi) x ∙ elim (cases_lt x b) [
    | inl before ↦ or_left _ _ (found.covers x before held)
    | inr at ↦ or_right _ _ (and_from _ _ (le-leb _ _ at) (le-leb _ _ (omega (arith, run.ordered))))
  ];
}

-- where one more run begins, the set has more runs than were found
pub more_runs : (bytes : FinSet nat_cmp) (pairs : List (ℕ × ℕ)) (b : ℕ) → HasRunsBelow bytes pairs b → b < 256 →
    begins_run bytes b ≡ true → length pairs < runs_of bytes
more_runs bytes pairs b found byte begins =
    let one_more : count_by (begins_run bytes) (take (b + 1) all_bytes) ≡ count_by (begins_run bytes) (take b all_bytes) + 1 =
    count_by_more_yes (begins_run bytes) all_bytes b 0 (omega (arith, length-all_bytes)) (ap (begins_run bytes) (get_or-all_bytes b byte) ∙ begins) in
    let bounded : count_by (begins_run bytes) (take (b + 1) all_bytes) ≤ runs_of bytes = sum_by-take-le _ all_bytes (b + 1) in
    omega (arith, found.count)

-- behind the greatest byte all runs are found
pub all_runs : (bytes : FinSet nat_cmp) (pairs : List (ℕ × ℕ)) (b : ℕ) → HasRunsBelow bytes pairs b → 256 ≤ b → length pairs ≡ runs_of bytes
all_runs bytes pairs b found past = found.count ∙ ap (count_by (begins_run bytes)) (take_all b all_bytes (omega (arith, length-all_bytes)))

-- and a byte is in them where it is in the set
pub same_bytes : (bytes : FinSet nat_cmp) (pairs : List (ℕ × ℕ)) (b : ℕ) → HasRunsBelow bytes pairs b → 256 ≤ b →
    (x : ℕ) → x < 256 → in_ranges pairs x ≡ contains bytes x
same_bytes bytes pairs b found past x byte = elim (cases_Bool (in_ranges pairs x)) [
  | inl inside ↦
      let place = pair_of_byte pairs x inside in
      inside ∙ sym ((found.each place.0 place.1 place.2).0.held x place.3 place.4)
  | inr outside ↦ outside ∙ sym (false_from_ne_true _ (λ held. both_ways _ outside (found.covers x (omega arith) held)))
]
