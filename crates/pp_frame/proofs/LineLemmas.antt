-- The first line of bytes.
use Rattle.std.proofs.Common.{◌≡◌, ◌≢◌, ℕ, ◌+◌, ◌-◌, ◌<◌, ◌≤◌, List, ◌∷◌, ◌++◌, length, get_or, take, drop, inl, inr, sym, ap, ◌∙◌, refl, arith}
use Rattle.std.proofs.lemmas.Bool.{cases_lt, cases_order}
use Rattle.std.proofs.lemmas.List.{get_or_past, get_or-take, length-take-le, take-append-drop, drop_more, get_or_at, get_or_append_left, get_or-append_right, take_at, drop_at}
use Rattle.pp_frame.specs.Bytes.{crlf}
use Rattle.pp_frame.specs.Lines.{HasNoEnd}
use Rattle.pp_frame.specs.steps.Heads.{BeginsWithLine}

-- the bytes before the first CRLF have none
no_end-take : (bytes : List ℕ) (n : ℕ) → n ≤ length bytes → ((k : ℕ) → k < n → get_or bytes k 0 ≡ 13 → get_or bytes (k + 1) 0 ≢ 10) → HasNoEnd (take n bytes)
no_end-take bytes n within none k cr lf = elim (cases_lt (k + 1) n) [
  | inl inside ↦
      none k (omega arith) (sym (get_or-take n bytes k 0 (omega arith)) ∙ cr) (sym (get_or-take n bytes (k + 1) 0 inside) ∙ lf)
  | inr past ↦
      absurd (omega (arith, lf, get_or_past (take n bytes) (k + 1) 0 (omega (arith, length-take-le n bytes within))))
]

-- a CR and an LF, with no such pair before them, end the first line
pub begins_with_line : (bytes : List ℕ) (n : ℕ) → n + 2 ≤ length bytes → get_or bytes n 0 ≡ 13 → get_or bytes (n + 1) 0 ≡ 10 →
    ((k : ℕ) → k < n → get_or bytes k 0 ≡ 13 → get_or bytes (k + 1) 0 ≢ 10) → BeginsWithLine bytes n
begins_with_line bytes n within cr lf none =
    let first : drop n bytes ≡ 13 ∷ drop (n + 1) bytes = drop_more bytes n 0 (omega arith) ∙ ap (λ (b : ℕ). b ∷ drop (n + 1) bytes) cr in
    let second : drop (n + 1) bytes ≡ 10 ∷ drop (n + 1 + 1) bytes = drop_more bytes (n + 1) 0 (omega arith) ∙ ap (λ (b : ℕ). b ∷ drop (n + 1 + 1) bytes) lf in
    let place : n + 1 + 1 ≡ n + 2 = omega arith in
    let rest : drop n bytes ≡ crlf ++ drop (n + 2) bytes = first ∙ ap (λ (xs : List ℕ). 13 ∷ xs) second ∙ ap (λ (m : ℕ). 13 ∷ 10 ∷ drop m bytes) place in
    record {
      within = within;
      no_end = no_end-take bytes n (omega arith) none;
      bytes_are = sym (take-append-drop n bytes) ∙ ap (λ (xs : List ℕ). take n bytes ++ xs) rest;
    }

-- of two first lines of the same bytes, none is shorter
not_shorter : (l m r s : List ℕ) → HasNoEnd m → l ++ (crlf ++ r) ≡ m ++ (crlf ++ s) → length l < length m → ⊥
not_shorter l m r s no_end same less =
    let n : ℕ = length l in
    let cr : get_or (m ++ (crlf ++ s)) n 0 ≡ 13 = ap (λ (xs : List ℕ). get_or xs n 0) (sym same) ∙ get_or_at l 13 (10 ∷ r) 0 n refl in
    let lf : get_or (m ++ (crlf ++ s)) (n + 1) 0 ≡ 10 =
    ap (λ (xs : List ℕ). get_or xs (n + 1) 0) (sym same) ∙ get_or-append_right l (crlf ++ r) n (n + 1) 0 refl (omega arith) ∙ ap (λ (k : ℕ). get_or (13 ∷ 10 ∷ r) k 0) (let one : n + 1 - n ≡ 1 = omega arith in one) in
    let cr_in : get_or m n 0 ≡ 13 = sym (get_or_append_left m (crlf ++ s) 0 n less) ∙ cr in
    elim (cases_lt (n + 1) (length m)) [
      | inl inside ↦ no_end n cr_in (sym (get_or_append_left m (crlf ++ s) 0 (n + 1) inside) ∙ lf)
      | inr past ↦
          let ends : length m ≡ n + 1 = omega arith in
          absurd (omega (arith, lf, get_or_at m 13 (10 ∷ s) 0 (n + 1) ends))
    ]

-- bytes begin with one line
pub first_line : (l m r s : List ℕ) → HasNoEnd l → HasNoEnd m → l ++ (crlf ++ r) ≡ m ++ (crlf ++ s) → (l ≡ m) × (r ≡ s)
first_line l m r s no_end_l no_end_m same = elim (cases_order (length l) (length m)) [
  | inl equal ↦
      let front : l ≡ m = sym (take_at l (crlf ++ r) (length l) refl) ∙ ap (take (length l)) same ∙ take_at m (crlf ++ s) (length l) (sym equal) in
      let back : crlf ++ r ≡ crlf ++ s = sym (drop_at l (crlf ++ r) (length l) refl) ∙ ap (drop (length l)) same ∙ drop_at m (crlf ++ s) (length l) (sym equal) in
      (front, cc)
  | inr (inl less) ↦ absurd (not_shorter l m r s no_end_m same less)
  | inr (inr more) ↦ absurd (not_shorter m l s r no_end_l (sym same) more)
]
