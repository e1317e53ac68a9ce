-- The bits of the open spans.
use Rattle.std.proofs.Common.{◌≡◌, ◌≢◌, ◌↔◌, ◌⊎◌, inl, inr, ℕ, suc, ◌<◌, ◌≤◌, List, Option, None, sym, ◌∙◌, ap, subst, arith, length}
use Rattle.std.specs.Prelude.{unwrap_or}
use Rattle.std.specs.Int.{bit_at}
use Rattle.std.proofs.lemmas.Bool.{cases_lt}
use Rattle.std.proofs.lemmas.Nat.Bits.{bit_at-zero}
use Rattle.std.proofs.lemmas.Option.{slice_get_past}
use Rattle.pp_event.specs.Turns.{slot}
use Rattle.pp_engine.specs.Stood.{IsOpen}

-- bit i is 1 exactly where span i is open and stands before a place
abbrev pub OpenUpTo : List (Option ℕ) → ℕ → ℕ → Type 0
OpenUpTo spans bits n = (span : ℕ) → span < 32 → (bit_at bits span ≡ 1) ↔ ((span < n) × IsOpen spans span)

pub open_first : (spans : List (Option ℕ)) → OpenUpTo spans 0 0
open_first spans span h = ((λ b. absurd (omega (arith, b, bit_at-zero span))), (λ o. absurd (omega (arith, o.0))))

-- a span that is shut
pub open_shut : (spans : List (Option ℕ)) (bits n : ℕ) → OpenUpTo spans bits n → slot spans n ≡ None → OpenUpTo spans bits (suc n)
open_shut spans bits n up shut span h =
    ((λ b. (let o = (up span h).0 b in (omega (arith, o.0), o.1))), (λ o. go o.0 o.1 (cases_lt span n)))
  where
    go : span < suc n → IsOpen spans span → (span < n) ⊎ (n ≤ span) → bit_at bits span ≡ 1
    go l o (inl before) = (up span h).1 (before, o)
    go l o (inr at) =
        let same : span ≡ n = omega arith in
        let none : slot spans span ≡ None = ap (slot spans) same ∙ shut in
        cc (o.1, none)

-- a span that is open
pub open_here : (spans : List (Option ℕ)) (bits more n : ℕ) → OpenUpTo spans bits n → IsOpen spans n → bit_at more n ≡ 1 → ((i : ℕ) → i ≢ n → bit_at more i ≡ bit_at bits i) →
    OpenUpTo spans more (suc n)
open_here spans bits more n up is here others span h = ((λ b. yes_then b (cases_lt span n)), (λ o. go o.0 o.1 (cases_lt span n)))
  where
    go : span < suc n → IsOpen spans span → (span < n) ⊎ (n ≤ span) → bit_at more span ≡ 1
    go l o (inl before) = others span (λ e. absurd (omega (arith, e))) ∙ (up span h).1 (before, o)
    go l o (inr at) = (let same : span ≡ n = omega arith in ap (bit_at more) same ∙ here)

    after : (n < span) ⊎ (span ≤ n) → n ≤ span → bit_at more span ≡ 1 → (span < suc n) × IsOpen spans span
    after (inl above) at b = (let o = (up span h).0 (sym (others span (λ e. absurd (omega (arith, e)))) ∙ b) in absurd (omega (arith, o.0)))
    after (inr below) at b = (let same : n ≡ span = omega arith in (omega arith, subst (IsOpen spans) same is))

    yes_then : bit_at more span ≡ 1 → (span < n) ⊎ (n ≤ span) → (span < suc n) × IsOpen spans span
    yes_then b (inl before) = (let o = (up span h).0 (sym (others span (λ e. absurd (omega (arith, e)))) ∙ b) in (omega arith, o.1))
    yes_then b (inr at) = after (cases_lt n span) at b

-- all spans
pub open_all : (spans : List (Option ℕ)) (bits n : ℕ) → OpenUpTo spans bits n → length spans ≤ n → (span : ℕ) → span < 32 → (bit_at bits span ≡ 1) ↔ IsOpen spans span
open_all spans bits n up long span h = ((λ b. ((up span h).0 b).1), (λ o. go o (cases_lt span n)))
  where
    go : IsOpen spans span → (span < n) ⊎ (n ≤ span) → bit_at bits span ≡ 1
    go o (inl before) = (up span h).1 (before, o)
    go o (inr past) =
        let none : slot spans span ≡ None = ap (λ (x : Option (Option ℕ)). unwrap_or x None) (slice_get_past spans span (omega arith)) in
        cc (o.1, none)
