-- Fronts of lists that are taken in two steps.
use Rattle.std.proofs.Common.{◌≡◌, ℕ, ◌+◌, ◌≤◌, List, ◌++◌, length, take, drop, ap, subst, ◌∙◌, arith}
use Rattle.std.proofs.lemmas.List.{take-append-drop, take-take, drop-take, take-append-le, length-take-le}
use Rattle.std.proofs.Math.Seq.{take-append-add}
use borrow.Rule.Slice.PartMut.{put_mid, post_of}

-- the first m + n items are the first m and then the first n of the rest
pub take-add : (m n : ℕ) (xs : List ℕ) → take (m + n) xs ≡ take m xs ++ take n (drop m xs)
take-add m n xs =
    let front = take-take m (m + n) xs (omega arith) in
    let rest = drop-take m n xs in
    let whole = take-append-drop m (take (m + n) xs) in
    cc

-- after a write behind the first m items: those, and then the front of what was written
pub take-add-put_mid : (m n k : ℕ) (xs ys : List ℕ) → m ≤ length xs → n ≤ length ys → take (m + n) (put_mid m k xs ys) ≡ take m xs ++ take n ys
take-add-put_mid m n k xs ys within enough =
    let rest = ys ++ post_of m k xs in
    let front : take (m + n) (take m xs ++ rest) ≡ take m xs ++ take n rest =
    subst (λ (l : ℕ). take (l + n) (take m xs ++ rest) ≡ take m xs ++ take n rest) (length-take-le m xs within) (take-append-add (take m xs) rest n) in
    front ∙ ap (λ (l : List ℕ). take m xs ++ l) (take-append-le n ys (post_of m k xs) enough)
