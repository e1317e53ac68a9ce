-- Small facts of truth values and of lists: sums of tests, a test of what a list gives, and equality of bytes.
use Rattle.std.proofs.Common.{◌≡◌, List, [], ◌∷◌, Bool, true, false, ◌||◌, Option, Some, filter_map, refl, ap₂, sym, ◌∙◌, ℕ}
use Rattle.std.specs.Prelude.{bytes_eq}
use Rattle.std.specs.Prelude.{None as none}
use Rattle.std.specs.List.{list_any, cons_option}
use Rattle.std.proofs.lemmas.Bool.Decides.{same_from_decides, Decides-like}
use Rattle.std.proofs.lemmas.Slice.Eq.{bytes_eq-Decides}

-- what a failed `||` says of its sides
pub or_false_left : (a b : Bool) → (a || b) ≡ false → a ≡ false
or_false_left true b h = h
or_false_left false b h = refl

pub or_false_right : (a b : Bool) → (a || b) ≡ false → b ≡ false
or_false_right true true h = h
or_false_right true false h = refl
or_false_right false b h = h

pub or_false : (b : Bool) → (b || false) ≡ b
or_false true = refl
or_false false = refl

-- a test of a value that is there
abbrev pub passes_some : {X : Type 0} → (X → Bool) → Option X → Bool
passes_some test none = false
passes_some test (Some x) = test x

any-cons : {Y : Type 0} (test : Y → Bool) (o : Option Y) (ys : List Y) → list_any test (cons_option o ys) ≡ (passes_some test o || list_any test ys)
any-cons test none ys = refl
any-cons test (Some y) ys = refl

pub any-filter_map : {X Y : Type 0} (f : X → Option Y) (test : Y → Bool) (p : X → Bool) (xs : List X) → ((x : X) → p x ≡ passes_some test (f x)) → list_any p xs ≡ list_any test (filter_map f xs)
any-filter_map f test p [] e = refl
any-filter_map f test p (x ∷ xs) e =
    ap₂ ◌||◌ (e x) (any-filter_map f test p xs e) ∙ sym (any-cons test (f x) (filter_map f xs))

-- equality of bytes goes both ways
pub bytes_eq-comm : (a b : List ℕ) → bytes_eq a b ≡ bytes_eq b a
bytes_eq-comm a b =
    same_from_decides (bytes_eq a b) (bytes_eq b a) (bytes_eq-Decides a b) (Decides-like (bytes_eq b a) sym sym (bytes_eq-Decides b a))
