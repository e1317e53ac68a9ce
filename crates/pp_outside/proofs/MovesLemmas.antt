-- Reads, one after the other.
use Rattle.std.proofs.Common.{◌≡◌, ℕ, ◌+◌, ◌≤◌, List, [], length, drop, None, Some, refl, subst, ap, ◌∙◌, arith}
use Rattle.std.specs.declared.option.Option.{Option}
use Rattle.std.proofs.lemmas.List.{drop-drop, length-drop}
use borrow.Rule.Slice.PartMut.{put_mid}
use Rattle.pp_outside.specs.Source.{Moves, IsMost, IsAtEnd}
use Rattle.pp_outside.proofs.TakeLemmas.{take-add, take-add-put_mid}

-- a move of m bytes and then one of n bytes behind them are a move of m + n bytes
pub Moves-then : (a b c : Option (List ℕ)) (m n k : ℕ) (xs ys : List ℕ) → m ≤ length xs → n ≤ length ys
    → Moves a b m xs → Moves b c n ys → Moves a c (m + n) (put_mid m k xs ys)
Moves-then None b c m n k xs ys within enough first second = subst (λ (o : Option (List ℕ)). Moves o c n ys) first second
Moves-then (Some bytes) b c m n k xs ys within enough first second =
    let next = subst (λ (o : Option (List ℕ)). Moves o c n ys) first.rest second in
    record {
      enough = omega (arith, length-drop m bytes, next.enough, first.enough);
      same = rw (take-add-put_mid m n k xs ys within enough, take-add m n bytes, first.same, next.same) refl;
      rest = next.rest ∙ ap Some (drop-drop n m bytes);
    }

-- a move that ends at the end of the input moved all that it could
pub IsMost-at_end : (a b : Option (List ℕ)) (room n : ℕ) (xs : List ℕ) → Moves a b n xs → IsAtEnd b → n ≤ room → IsMost a room n
IsMost-at_end None b room n xs moved end within = tt
IsMost-at_end (Some bytes) b room n xs moved end within =
    let none : drop n bytes ≡ [] = subst IsAtEnd moved.rest end in
    omega (arith, length-drop n bytes, ap length none, moved.enough)

-- a move of nothing adds nothing
pub Moves-then_nothing : (a b c : Option (List ℕ)) (m n k : ℕ) (xs ys : List ℕ) → m ≤ length xs → n ≤ length ys
    → Moves a b m xs → Moves b c n ys → n ≡ 0 → Moves a c m (put_mid m k xs ys)
Moves-then_nothing a b c m n k xs ys within enough first second nothing =
    let same : m + n ≡ m = omega arith in
    subst (λ (l : ℕ). Moves a c l (put_mid m k xs ys)) same (Moves-then a b c m n k xs ys within enough first second)
