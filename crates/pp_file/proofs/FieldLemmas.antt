-- A field that is read is the field that was written, and what was written is read again.
use Rattle.std.proofs.Common.{◌≡◌, ℕ, zero, suc, ◌+◌, ◌^◌, ◌<◌, ◌≤◌, Bool, true, false, cond, ltb, List, [], ◌∷◌, ◌++◌, length, take, drop, Option, Some, None, Result, Ok, Err, refl, sym, ap, subst, ◌∙◌, append_assoc, arith}
use Rattle.std.specs.Int.{Width, w8, byte_len, from_be_bytes, to_be_bytes}
use Rattle.std.specs.List.{flat_map}
use Rattle.std.proofs.lemmas.Bool.{ltb-false, le-ltb}
use Rattle.std.proofs.lemmas.List.{take_at, drop_at, take-append-drop, length-append, length-take}
use Rattle.std.proofs.lemmas.List.Concat.{flat_map-cons}
use Rattle.pp_file.specs.Fields.{Left, Next, ◌>>=◌, place, behind, bytes_at, field_at, number_at, text_at, items_at}
use Rattle.pp_file.specs.Spelling.{text}
use Rattle.pp_file.proofs.NumberLemmas.{AreBytes, AreBytes-drop, AreBytes-take, IsWide, small_mod, wide8}

abbrev pub done : {A : Type 0} → A → Result A ℕ
done x = Ok x

-- two answers with a value are of one value
pub ok_is : {A : Type 0} (x y : A) → done x ≡ done y → x ≡ y
ok_is x y e = cc

-- the value of a step that did not fail
pub bind_ok : {A B : Type 0} (r : Result A ℕ) (f : A → Result B ℕ) (y : B) → (r >>= f) ≡ Ok y → (x : A) × (r ≡ Ok x) × (f x ≡ Ok y)
bind_ok (Ok x) f y e = (x, refl, e)
bind_ok (Err d) f y e = absurd cc

-- a test that did not fail
pub guard_ok : {A : Type 0} (b : Bool) (d : ℕ) (x y : A) → cond b (Err d) (Ok x) ≡ Ok y → (b ≡ false) × (x ≡ y)
guard_ok true d x y e = absurd cc
guard_ok false d x y e = (refl, cc)

pub passed : {A : Type 0} (b : Bool) (d : ℕ) (x y : A) → cond b (Ok x) (Err d) ≡ Ok y → (b ≡ true) × (x ≡ y)
passed true d x y e = (refl, cc)
passed false d x y e = absurd cc

-- what a part took from the front
pub record Takes (left : Left) (part : List ℕ) (after : Left) : Type 0 where
  pub parts : left.bytes ≡ part ++ after.bytes
  pub limit : after.limit ≡ left.limit
  pub rest_fits : AreBytes after.bytes

pub Takes-then : (a b c : Left) (x y : List ℕ) → Takes a x b → Takes b y c → Takes a (x ++ y) c
Takes-then a b c x y p q = record {
  parts = p.parts ∙ ap (λ (t : List ℕ). x ++ t) q.parts ∙ sym (append_assoc x y c.bytes);
  limit = q.limit ∙ p.limit;
  rest_fits = q.rest_fits;
}

pub then : {a b c : Left} {x y : List ℕ} → Takes a x b → Takes b y c → Takes a (x ++ y) c
then {a} {b} {c} {x} {y} p q = Takes-then a b c x y p q

-- nothing was taken
pub Takes-none : (a : Left) → AreBytes a.bytes → Takes a [] a
Takes-none a fits = record { parts = refl; limit = refl; rest_fits = fits }

pub bytes_takes : (count : ℕ) (left : Left) (x : List ℕ × Left) → AreBytes left.bytes → bytes_at count left ≡ Ok x → Takes left x.0 x.1 × (length x.0 ≡ count)
bytes_takes count left x fits e =
    let g = guard_ok (ltb (length left.bytes) count) left.limit (take count left.bytes, behind count left) x e in
    let long : count ≤ length left.bytes = ltb-false _ _ g.0 in
    let made : Takes left (take count left.bytes) (behind count left) × (length (take count left.bytes) ≡ count) =
    (record { parts = sym (take-append-drop count left.bytes); limit = refl; rest_fits = AreBytes-drop count left.bytes fits }, omega (arith, length-take count left.bytes)) in
    subst (λ (y : List ℕ × Left). Takes left y.0 y.1 × (length y.0 ≡ count)) g.1 made

pub field_takes : (w : Width) (limit : ℕ) (wide : IsWide w limit) (left : Left) (x : ℕ × Left) → AreBytes left.bytes → field_at w left ≡ Ok x
    → Takes left (to_be_bytes w x.0) x.1 × (x.0 < limit)
field_takes w limit wide left x fits e =
    let g = guard_ok (ltb (length left.bytes) (byte_len w)) left.limit (from_be_bytes w (take (byte_len w) left.bytes), behind (byte_len w) left) x e in
    let long : byte_len w ≤ length left.bytes = ltb-false _ _ g.0 in
    let front : List ℕ = take (byte_len w) left.bytes in
    let front_fits : AreBytes front = AreBytes-take (byte_len w) left.bytes fits in
    let spelled : to_be_bytes w (from_be_bytes w front) ≡ front = wide.back front (omega (arith, length-take (byte_len w) left.bytes)) front_fits in
    let made : Takes left (to_be_bytes w (from_be_bytes w front)) (behind (byte_len w) left) × (from_be_bytes w front < limit) = (
      record {
        parts = sym (take-append-drop (byte_len w) left.bytes) ∙ ap (λ (t : List ℕ). t ++ drop (byte_len w) left.bytes) (sym spelled);
        limit = refl;
        rest_fits = AreBytes-drop (byte_len w) left.bytes fits;
      },
      wide.below front front_fits,
    ) in
    subst (λ (y : ℕ × Left). Takes left (to_be_bytes w y.0) y.1 × (y.0 < limit)) g.1 made

pub number_takes : (w : Width) (limit : ℕ) (wide : IsWide w limit) (is_right : ℕ → Bool) (left : Left) (x : ℕ × Left) → AreBytes left.bytes → number_at w is_right left ≡ Ok x
    → Takes left (to_be_bytes w x.0) x.1 × (x.0 < limit) × (is_right x.0 ≡ true)
number_takes w limit wide is_right left x fits e =
    let b = bind_ok (field_at w left) _ x e in
    let t = field_takes w limit wide left b.0 fits b.1 in
    let g = passed (is_right b.0.0) (place left) b.0 x b.2 in
    subst (λ (y : ℕ × Left). Takes left (to_be_bytes w y.0) y.1 × (y.0 < limit) × (is_right y.0 ≡ true)) g.1 (t.0, t.1, g.0)

-- one byte is itself
byte_bytes : (n : ℕ) → n < 256 → to_be_bytes w8 n ≡ n ∷ []
byte_bytes n lt = ap (λ (m : ℕ). m ∷ []) (small_mod n lt)

pub byte_takes : (left : Left) (x : ℕ × Left) → AreBytes left.bytes → field_at w8 left ≡ Ok x → Takes left (x.0 ∷ []) x.1 × (x.0 < 256)
byte_takes left x fits e =
    let t = field_takes w8 256 wide8 left x fits e in
    (subst (λ (part : List ℕ). Takes left part x.1) (byte_bytes x.0 t.1) t.0, t.1)

pub right_byte_takes : (is_right : ℕ → Bool) (left : Left) (x : ℕ × Left) → AreBytes left.bytes → number_at w8 is_right left ≡ Ok x
    → Takes left (x.0 ∷ []) x.1 × (x.0 < 256) × (is_right x.0 ≡ true)
right_byte_takes is_right left x fits e =
    let t = number_takes w8 256 wide8 is_right left x fits e in
    (subst (λ (part : List ℕ). Takes left part x.1) (byte_bytes x.0 t.1) t.0, t.1, t.2)

pub text_takes : (left : Left) (x : List ℕ × Left) → AreBytes left.bytes → text_at left ≡ Ok x → Takes left (text x.0) x.1
unfolding text_at
text_takes left x fits e =
    let b = bind_ok (field_at w8 left) _ x e in
    let t = byte_takes left b.0 fits b.1 in
    let u = bytes_takes b.0.0 b.0.1 x t.0.rest_fits b.2 in
    subst (λ (n : ℕ). Takes left (n ∷ x.0) x.1) (sym u.1) (Takes-then left b.0.1 x.1 (b.0.0 ∷ []) x.0 t.0 u.0)

-- a part that is read is spelled so
abbrev pub IsReader : {X : Type 0} → (Left → Next X) → (X → List ℕ) → Type 0
IsReader {X} item_at spelled = (left : Left) (x : X × Left) → AreBytes left.bytes → item_at left ≡ Ok x → Takes left (spelled x.0) x.1

pub items_take : {X : Type 0} (item_at : Option X → Left → Next X) (spelled : X → List ℕ) → ((before : Option X) → IsReader (item_at before) spelled)
    → (count : ℕ) (before : Option X) (left : Left) (x : List X × Left) → AreBytes left.bytes → items_at item_at count before left ≡ Ok x
    → Takes left (flat_map spelled x.0) x.1 × (length x.0 ≡ count)
unfolding items_at
items_take {X} item_at spelled takes zero before left x fits e =
    subst (λ (y : List X × Left). Takes left (flat_map spelled y.0) y.1 × (length y.0 ≡ 0)) (ok_is ([], left) x e) (Takes-none left fits, refl)
items_take {X} item_at spelled takes (suc count) before left x fits e =
    let a = bind_ok (item_at before left) _ x e in
    let b = bind_ok (items_at item_at count (Some a.0.0) a.0.1) _ x a.2 in
    let first = takes before left a.0 fits a.1 in
    let second = items_take item_at spelled takes count (Some a.0.0) a.0.1 b.0 first.rest_fits b.1 in
    let both = Takes-then left a.0.1 b.0.1 (spelled a.0.0) (flat_map spelled b.0.0) first second.0 in
    subst (λ (y : List X × Left). Takes left (flat_map spelled y.0) y.1 × (length y.0 ≡ suc count)) (ok_is (a.0.0 ∷ b.0.0, b.0.1) x b.2) (rw flat_map-cons both, ap suc second.1)

-- ---- again

-- bytes and what follows them, at one end of a file
abbrev pub to_end : ℕ → List ℕ → Left
to_end limit bytes = record { limit = limit; bytes = bytes }

pub bytes_again : (limit : ℕ) (part rest : List ℕ) → bytes_at (length part) (to_end limit (part ++ rest)) ≡ Ok (part, to_end limit rest)
bytes_again limit part rest =
    let long : ltb (length (part ++ rest)) (length part) ≡ false = le-ltb _ _ (omega (arith, length-append part rest)) in
    rw (long, take_at part rest (length part) refl, drop_at part rest (length part) refl) refl

pub field_again : (w : Width) (most : ℕ) (wide : IsWide w most) (limit n : ℕ) (rest : List ℕ) → n < most → field_at w (to_end limit (to_be_bytes w n ++ rest)) ≡ Ok (n, to_end limit rest)
field_again w most wide limit n rest lt =
    let len = wide.len n in
    let long : ltb (length (to_be_bytes w n ++ rest)) (byte_len w) ≡ false = le-ltb _ _ (omega (arith, length-append (to_be_bytes w n) rest)) in
    rw (long, take_at (to_be_bytes w n) rest (byte_len w) len, drop_at (to_be_bytes w n) rest (byte_len w) len, wide.again n lt) refl

pub number_again : (w : Width) (most : ℕ) (wide : IsWide w most) (is_right : ℕ → Bool) (limit n : ℕ) (rest : List ℕ) → n < most → is_right n ≡ true
    → number_at w is_right (to_end limit (to_be_bytes w n ++ rest)) ≡ Ok (n, to_end limit rest)
number_again w most wide is_right limit n rest lt right = rw (field_again w most wide limit n rest lt, right) refl

pub byte_again : (limit n : ℕ) (rest : List ℕ) → n < 256 → field_at w8 (to_end limit (n ∷ rest)) ≡ Ok (n, to_end limit rest)
byte_again limit n rest lt =
    subst (λ (part : List ℕ). field_at w8 (to_end limit (part ++ rest)) ≡ Ok (n, to_end limit rest)) (byte_bytes n lt) (field_again w8 256 wide8 limit n rest lt)

pub right_byte_again : (is_right : ℕ → Bool) (limit n : ℕ) (rest : List ℕ) → n < 256 → is_right n ≡ true → number_at w8 is_right (to_end limit (n ∷ rest)) ≡ Ok (n, to_end limit rest)
right_byte_again is_right limit n rest lt right = rw (byte_again limit n rest lt, right) refl

pub text_again : (limit : ℕ) (part rest : List ℕ) → length part < 256 → text_at (to_end limit (text part ++ rest)) ≡ Ok (part, to_end limit rest)
unfolding text_at
text_again limit part rest lt = rw (byte_again limit (length part) (part ++ rest) lt) (bytes_again limit part rest)
