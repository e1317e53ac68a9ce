-- Where bytes are cut at their first LF.
use Rattle.std.proofs.Common.{◌≡◌, ◌≢◌, ℕ, ◌+◌, ◌<◌, List, ◌∷◌, ◌++◌, length, take, drop, get_or, length-take, take-append-drop, sym, ap, ◌∙◌, arith}
use Rattle.std.proofs.lemmas.List.{drop_more, get_or-take}
use Rattle.std.specs.List.{AllWithin, HoldsAt}
use Rattle.pp_text.specs.Text.{IsOneLine}

-- a first LF within some front cuts the whole
pub cut_at_lf : (room : ℕ) (bytes : List ℕ) (end : ℕ) → end < length (take room bytes) → HoldsAt (λ b. b ≡ 10) (take room bytes) end → AllWithin (λ b. b ≢ 10) (take room bytes) 0 end →
    IsOneLine (take end bytes) × (bytes ≡ take end bytes ++ 10 ∷ drop (end + 1) bytes)
cut_at_lf room bytes end within at before =
    let inside : end < room = omega (arith, length-take room bytes) in
    let below : end < length bytes = omega (arith, length-take room bytes) in
    let here : get_or bytes end 0 ≡ 10 = sym (get_or-take room bytes end 0 inside) ∙ at 0 in
    let cut : drop end bytes ≡ get_or bytes end 0 ∷ drop (end + 1) bytes = drop_more bytes end 0 below in (
      (λ k d short e.
          let first : k < end = omega (arith, length-take end bytes) in
          let room_too : k < room = omega arith in
          before k d (omega arith) first (get_or-take room bytes k d room_too ∙ sym (get_or-take end bytes k d first) ∙ e)),
      sym (take-append-drop end bytes) ∙ ap (λ l. take end bytes ++ l) (cut ∙ ap (λ (b : ℕ). b ∷ drop (end + 1) bytes) here),
    )
