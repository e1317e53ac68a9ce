-- The head of a file, and what stands behind it.
use Rattle.std.proofs.Common.{◌≡◌, ℕ, zero, suc, ◌+◌, ◌-◌, ◌^◌, ◌<◌, ◌≤◌, ◌⊎◌, inl, inr, Bool, true, false, List, [], ◌∷◌, ◌++◌, length, take, drop, get_or, Option, Some, None, Result, Ok, Err, refl, sym, ap, subst, ◌∙◌, arith}
use Rattle.std.specs.Prelude.{slice_get, slice_range}
use Rattle.std.specs.Int.{w32, from_be_bytes, to_be_bytes}
use Rattle.std.proofs.lemmas.Bool.{cases_lt, cases_eq}
use Rattle.std.proofs.lemmas.List.{length-take, length-drop, take-append-drop, take-take, drop-take, take_at, append-nil}
use Rattle.std.proofs.lemmas.List.Folds.{drop_split}
use Rattle.pp_program.specs.declared.program.Program.{Program}
use Rattle.pp_program.specs.FileLength.{file_length}
use Rattle.pp_program.specs.Countable.{IsCountable}
use Rattle.pp_program.specs.Targets.{most_file_bytes}
use Rattle.pp_program.specs.Valid.{IsValid}
use Rattle.pp_file.specs.Fields.{Left}
use Rattle.pp_file.specs.Spelling.{mark, version, spelled_parts, spelled, Spells}
use Rattle.pp_file.specs.Reading.{BeginWith, HasMark, HasOther, IsFile, stated, least_file_bytes, IsMisstated, IsShort, IsWhole, all_at, judged}
use Rattle.pp_file.proofs.NumberLemmas.{AreBytes, AreBytes-drop, AreBytes-take, wide32}
use Rattle.pp_file.proofs.StatesRead.{all_takes}
use Rattle.pp_file.proofs.LengthLemmas.{length-parts}
use Rattle.pp_file.proofs.CountLemmas.{countable}

at_least : (m n : ℕ) → (n < m → ⊥) → m ≤ n
at_least m n h = elim (cases_lt n m) [ inl lt ↦ absurd (h lt) | inr le ↦ le ]

-- a head that is right states a length within its limits, which the bytes reach
pub record IsLong (bytes : List ℕ) : Type 0 where
  pub least : 19 ≤ stated bytes
  pub most : stated bytes ≤ 16777216
  pub there : stated bytes ≤ length bytes

pub long : (bytes : List ℕ) → IsWhole bytes → IsLong bytes
long bytes whole =
    let nine : 9 ≤ length bytes = at_least 9 (length bytes) (λ lt. whole.there (inl lt)) in
    record {
      least = at_least 19 (stated bytes) (λ lt. whole.stated_well (record { there = nine; outside = inl lt }));
      most = at_least (stated bytes) 16777216 (λ lt. whole.stated_well (record { there = nine; outside = inr lt }));
      there = at_least (stated bytes) (length bytes) (λ lt. whole.there (inr lt));
    }

-- the bytes behind the head
abbrev pub parts_of : List ℕ → List ℕ
parts_of bytes = slice_range bytes 9 (stated bytes)

pub parts_fit : (bytes : List ℕ) → AreBytes bytes → AreBytes (parts_of bytes)
parts_fit bytes fits = AreBytes-take (stated bytes - 9) (drop 9 bytes) (AreBytes-drop 9 bytes fits)

-- what the bytes give stands behind the head, and its file has the length that is stated
pub parts_are : (bytes : List ℕ) (p : Program) → AreBytes bytes → judged bytes ≡ Ok p → parts_of bytes ≡ spelled_parts p
parts_are bytes p fits e = all_takes (record { limit = stated bytes; bytes = parts_of bytes }) p (parts_fit bytes fits) e

pub length_is : (bytes : List ℕ) (p : Program) → AreBytes bytes → IsWhole bytes → judged bytes ≡ Ok p → file_length p ≡ stated bytes
length_is bytes p fits whole e =
    let l = long bytes whole in
    let size : length (parts_of bytes) ≡ stated bytes - 9 = omega (arith, length-take (stated bytes - 9) (drop 9 bytes), length-drop 9 bytes, l.least, l.there) in
    omega (arith, length-parts p, ap length (parts_are bytes p fits e), size, l.least)

pub is_countable : (bytes : List ℕ) (p : Program) → AreBytes bytes → IsWhole bytes → judged bytes ≡ Ok p → IsCountable p
is_countable bytes p fits whole e = countable p (omega (arith, length_is bytes p fits whole e, (long bytes whole).most))

-- what a reader of the bytes behind the head was given
pub cursor_is : (bytes : List ℕ) (limit : ℕ) (left : Left) (p : Program) → limit ≡ stated bytes → left ≡ record { limit = limit; bytes = slice_range bytes 9 limit }
    → all_at left ≡ Ok p → judged bytes ≡ Ok p
cursor_is bytes limit left p limit_is left_is e =
    let same : left ≡ record { limit = stated bytes; bytes = parts_of bytes } = left_is ∙ ap (λ (n : ℕ). record { limit = n; bytes = slice_range bytes 9 n }) limit_is in
    subst (λ (l : Left). all_at l ≡ Ok p) same e

-- a front is a shorter one and what comes behind it
front_split : (xs : List ℕ) (i n : ℕ) → take (i + n) xs ≡ take i xs ++ take n (drop i xs)
front_split xs i n =
    sym (take-append-drop i (take (i + n) xs))
    ∙ ap (λ (front : List ℕ). front ++ drop i (take (i + n) xs)) (take-take i (i + n) xs (omega arith))
    ∙ ap (λ (back : List ℕ). take i xs ++ back) (drop-take i n xs)

-- nine bytes that are a head, by the mark, the version and the length
pub head_is : (bytes : List ℕ) → 9 ≤ length bytes → AreBytes bytes → IsFile bytes → take 9 bytes ≡ mark ++ (version ∷ to_be_bytes w32 (stated bytes))
head_is (a ∷ b ∷ c ∷ d ∷ v ∷ e ∷ f ∷ g ∷ h ∷ bytes) nine fits file =
    let field : List ℕ = e ∷ f ∷ g ∷ h ∷ [] in
    let number : to_be_bytes w32 (from_be_bytes w32 field) ≡ field =
    wide32.back field refl (AreBytes-take 4 (e ∷ f ∷ g ∷ h ∷ bytes) (AreBytes-drop 5 (a ∷ b ∷ c ∷ d ∷ v ∷ e ∷ f ∷ g ∷ h ∷ bytes) fits)) in
    let front : a ∷ b ∷ c ∷ d ∷ [] ≡ mark = file.marked in
    let known : v ≡ version = elim (cases_eq v version) [ inl same ↦ same | inr other ↦ absurd (file.known v (refl, other)) ] in
    ap (λ (four : List ℕ). four ++ (v ∷ field)) front
    ∙ ap (λ (n : ℕ). mark ++ (n ∷ field)) known
    ∙ ap (λ (four : List ℕ). mark ++ (version ∷ four)) (sym number)
head_is bytes nine fits file = absurd (omega arith)

-- a program that the bytes give is their front's
pub begins : (bytes : List ℕ) (p : Program) → AreBytes bytes → IsWhole bytes → judged bytes ≡ Ok p → IsValid p → BeginWith bytes p (stated bytes)
unfolding spelled
begins bytes p fits whole e valid =
    let l = long bytes whole in
    let size : stated bytes ≡ 9 + (stated bytes - 9) = omega (arith, l.least) in
    let split : take (stated bytes) bytes ≡ take 9 bytes ++ parts_of bytes = ap (λ (n : ℕ). take n bytes) size ∙ front_split bytes 9 (stated bytes - 9) in
    let head = head_is bytes (omega (arith, l.least, l.there)) fits whole.file in
    let back : (mark ++ (version ∷ to_be_bytes w32 (stated bytes))) ++ parts_of bytes ≡ (mark ++ (version ∷ to_be_bytes w32 (file_length p))) ++ spelled_parts p =
    ap (λ (n : ℕ). (mark ++ (version ∷ to_be_bytes w32 n)) ++ parts_of bytes) (sym (length_is bytes p fits whole e))
    ∙ ap (λ (parts : List ℕ). (mark ++ (version ∷ to_be_bytes w32 (file_length p))) ++ parts) (parts_are bytes p fits e) in
    record {
      within = l.there;
      front = record { valid = valid; bytes_are = split ∙ ap (λ (front : List ℕ). front ++ parts_of bytes) head ∙ back };
    }
