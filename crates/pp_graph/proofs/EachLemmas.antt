-- Facts of each element of a list and of each two of its elements, and the first element of a name.
use Rattle.std.proofs.Common.{◌≡◌, ◌≢◌, ℕ, ◌+◌, ◌<◌, suc, zero, List, [], ◌∷◌, ◌++◌, Bool, true, false, not, ◌&&◌, ◌||◌, cond, length, map, slice_get, get_or, find, filter_map, count_by, Option, Some, IfSome, option_map, option_and_then, is_some, refl, ap, ap₂, sym, ◌∙◌, subst, arith}
use Rattle.std.specs.Prelude.{bytes_eq}
use Rattle.std.specs.Prelude.{None as none}
use Rattle.std.specs.List.{list_any, cons_option}
use Rattle.std.proofs.lemmas.Bool.{false≢true}
use Rattle.std.proofs.lemmas.List.Sums.{sum_by-cons}
use Rattle.std.proofs.lemmas.Slice.Eq.{bytes_eq-Decides}
use Rattle.pp_graph.specs.Plan.{AreDistinct}
use Rattle.pp_graph.specs.Built.{place_of}
use Rattle.pp_graph.proofs.TableLemmas.{Each}
use Rattle.pp_rules.proofs.ListLemmas.{bytes_eq-comm, or_false_left, or_false_right, or_false, passes_some}

-- what a failed `&&` says of its right side
pub and_false_right : (a b : Bool) → a ≡ true → (a && b) ≡ false → b ≡ false
and_false_right true b e h = h
and_false_right false b e h = absurd (false≢true e)

-- what a failed `not` says
pub true_from_not : (b : Bool) → not b ≡ false → b ≡ true
true_from_not true h = refl
true_from_not false h = sym h

pub and_false : (b : Bool) → (b && false) ≡ false
and_false true = refl
and_false false = refl

-- it holds of each element and each later one
abbrev pub Pairs : {X : Type 0} → (X → X → Type 0) → List X → Type 0
Pairs R [] = Unit {0}
Pairs R (x ∷ xs) = Each (R x) xs × Pairs R xs

none-step : (b t r : Bool) → (b ≡ true → ⊥) → r ≡ false → (b && t || r) ≡ false
none-step true t r f e = absurd (f refl)
none-step false t r f e = e

module _ {X : Type 0} where
  pub each-map : (P Q : X → Type 0) (xs : List X) → ((x : X) → P x → Q x) → Each P xs → Each Q xs
  each-map P Q [] f s = tt
  each-map P Q (x ∷ xs) f s = (f x s.0, each-map P Q xs f s.1)

  pub each-both : (P Q R : X → Type 0) (xs : List X) → ((x : X) → P x → Q x → R x) → Each P xs → Each Q xs → Each R xs
  each-both P Q R [] f s t = tt
  each-both P Q R (x ∷ xs) f s t = (f x s.0 t.0, each-both P Q R xs f s.1 t.1)

  pub each-append : (P : X → Type 0) (xs ys : List X) → Each P xs → Each P ys → Each P (xs ++ ys)
  each-append P [] ys s t = t
  each-append P (x ∷ xs) ys s t = (s.0, each-append P xs ys s.1 t)

  pub each-read : (P : X → Type 0) (xs : List X) → Each P xs → (i : ℕ) (d : X) → i < length xs → P (get_or xs i d)
  each-read P [] s i d h = absurd (omega arith)
  each-read P (x ∷ xs) s zero d h = s.0
  each-read P (x ∷ xs) s (suc i) d h = each-read P xs s.1 i d (omega arith)

  -- where no element passes, each fails
  pub each-fails : (test : X → Bool) (xs : List X) → list_any test xs ≡ false → Each (λ x. test x ≡ false) xs
  each-fails test [] h = tt
  each-fails test (x ∷ xs) h =
      (or_false_left (test x) (list_any test xs) h, each-fails test xs (or_false_right (test x) (list_any test xs) h))

  each-cons : (Q : X → Type 0) (o : Option X) (ys : List X) → IfSome o Q → Each Q ys → Each Q (cons_option o ys)
  each-cons Q none ys p s = s
  each-cons Q (Some y) ys p s = (p, s)

  pub pairs-push : (R : X → X → Type 0) (xs : List X) (z : X) → Pairs R xs → Each (λ x. R x z) xs → Pairs R (xs ++ z ∷ [])
  pairs-push R [] z p e = (tt, tt)
  pairs-push R (x ∷ xs) z p e = (each-append (R x) xs (z ∷ []) p.0 (e.0, tt), pairs-push R xs z p.1 e.1)

  pub pairs-read : (R : X → X → Type 0) (xs : List X) → Pairs R xs → (i j : ℕ) (d : X) → i < j → j < length xs → R (get_or xs i d) (get_or xs j d)
  pairs-read R [] s i j d p q = absurd (omega arith)
  pairs-read R (x ∷ xs) s i zero d p q = absurd (omega arith)
  pairs-read R (x ∷ xs) s zero (suc j) d p q = each-read (R x) xs s.0 j d (omega arith)
  pairs-read R (x ∷ xs) s (suc i) (suc j) d p q = pairs-read R xs s.1 i j d (omega arith) (omega arith)

  pairs-cons : (S : X → X → Type 0) (o : Option X) (ys : List X) → IfSome o (λ a. Each (S a) ys) → Pairs S ys → Pairs S (cons_option o ys)
  pairs-cons S none ys p s = s
  pairs-cons S (Some y) ys p s = (p, s)

  -- what holds of each two either way round, and of each with itself, holds of any two
  pub pairs-all : (R S : X → X → Type 0) (xs : List X) → ((x y : X) → R x y → S x y × S y x) → ((x : X) → S x x) → Pairs R xs → Each (λ x. Each (S x) xs) xs
  pairs-all R S [] f d s = tt
  pairs-all R S (x ∷ xs) f d s = (
    (d x, each-map (R x) (S x) xs (λ y r. (f x y r).0) s.0),
    each-both (R x) (λ y. Each (S y) xs) (λ y. Each (S y) (x ∷ xs)) xs (λ y r e. ((f x y r).1, e)) s.0 (pairs-all R S xs f d s.1),
  )

  -- the first element of a name stands at its place among the names
  find-step : (x : X) (xs : List X) (b : Bool) (m : ℕ) (r : Option X) → r ≡ slice_get xs m → cond b (Some x) r ≡ slice_get (x ∷ xs) (cond (not b) (1 + m) 0)
  find-step x xs true m r h = refl
  find-step x xs false m r h = let e : 1 + m ≡ suc m = omega arith in rw e h

  pub find-place : (name : X → List ℕ) (xs : List X) (n : List ℕ) → find (λ x. bytes_eq n (name x)) xs ≡ slice_get xs (place_of (map name xs) n)
  find-place name [] n = refl
  find-place name (x ∷ xs) n = find-step x xs (bytes_eq n (name x)) (place_of (map name xs) n) _ (find-place name xs n)

  -- among names that differ, only the first of a name counts
  any-none : (name : X → List ℕ) (test : X → Bool) (xs : List X) (n : List ℕ) → Each (λ m. n ≢ m) (map name xs) → list_any (λ x. bytes_eq (name x) n && test x) xs ≡ false
  any-none name test [] n s = refl
  any-none name test (x ∷ xs) n s =
      none-step (bytes_eq (name x) n) (test x) _ (λ e. s.0 (sym ((bytes_eq-Decides (name x) n).0 e))) (any-none name test xs n s.1)

  any-step : (test : X → Bool) (x : X) (b : Bool) (r : Bool) (o : Option X) → (b ≡ true → r ≡ false) → r ≡ passes_some test o → (b && test x || r) ≡ passes_some test (cond b (Some x) o)
  any-step test x true r o f e = ap (λ z. test x || z) (f refl) ∙ or_false (test x)
  any-step test x false r o f e = e

  any-find : (name : X → List ℕ) (test : X → Bool) (xs : List X) (n : List ℕ) → Pairs ◌≢◌ (map name xs) → list_any (λ x. bytes_eq (name x) n && test x) xs ≡ passes_some test (find (λ x. bytes_eq (name x) n) xs)
  any-find name test [] n s = refl
  any-find name test (x ∷ xs) n s =
      any-step test x (bytes_eq (name x) n) _ (find (λ y. bytes_eq (name y) n) xs)
      (λ e. any-none name test xs n (subst (λ m. Each (λ k. m ≢ k) (map name xs)) ((bytes_eq-Decides (name x) n).0 e) s.0))
      (any-find name test xs n s.1)

  find-comm : (name : X → List ℕ) (xs : List X) (n : List ℕ) → find (λ x. bytes_eq (name x) n) xs ≡ find (λ x. bytes_eq n (name x)) xs
  find-comm name [] n = refl
  find-comm name (x ∷ xs) n =
      ap₂ (λ b r. cond b (Some x) r) (bytes_eq-comm (name x) n) (find-comm name xs n)

  pub any-place : (name : X → List ℕ) (test : X → Bool) (xs : List X) (n : List ℕ) → Pairs ◌≢◌ (map name xs) → list_any (λ x. bytes_eq (name x) n && test x) xs ≡ passes_some test (slice_get xs (place_of (map name xs) n))
  any-place name test xs n s =
      any-find name test xs n s ∙ ap (passes_some test) (find-comm name xs n ∙ find-place name xs n)

pub distinct-from_pairs : {X : Type 0} (xs : List X) → Pairs ◌≢◌ xs → AreDistinct xs
distinct-from_pairs xs s = λ i j d p q. pairs-read ◌≢◌ xs s i j d p q

length-cons_option : {Y : Type 0} (o : Option Y) (ys : List Y) → length (cons_option o ys) ≡ cond (is_some o) 1 0 + length ys
length-cons_option none ys = omega arith
length-cons_option (Some y) ys = omega arith

module _ {X Y : Type 0} where
  pub each-filter_map : (f : X → Option Y) (P : X → Type 0) (Q : Y → Type 0) (xs : List X) → ((x : X) → P x → IfSome (f x) Q) → Each P xs → Each Q (filter_map f xs)
  each-filter_map f P Q [] g s = tt
  each-filter_map f P Q (x ∷ xs) g s = each-cons Q (f x) (filter_map f xs) (g x s.0) (each-filter_map f P Q xs g s.1)

  if_some-each : (f : X → Option Y) (P : X → Type 0) (S : Y → Y → Type 0) (xs : List X) (o : Option Y) → ((y : X) → P y → IfSome o (λ a. IfSome (f y) (S a))) → Each P xs → IfSome o (λ a. Each (S a) (filter_map f xs))
  if_some-each f P S xs none h s = tt
  if_some-each f P S xs (Some a) h s = each-filter_map f P (S a) xs h s

  pub pairs-filter_map : (f : X → Option Y) (R : X → X → Type 0) (S : Y → Y → Type 0) (xs : List X) → ((x y : X) → R x y → IfSome (f x) (λ a. IfSome (f y) (S a))) → Pairs R xs → Pairs S (filter_map f xs)
  pairs-filter_map f R S [] g s = tt
  pairs-filter_map f R S (x ∷ xs) g s =
      pairs-cons S (f x) (filter_map f xs) (if_some-each f (R x) S xs (f x) (g x) s.0) (pairs-filter_map f R S xs g s.1)

  pub each-from_map : (f : X → Y) (P : Y → Type 0) (xs : List X) → Each P (map f xs) → Each (λ x. P (f x)) xs
  each-from_map f P [] s = tt
  each-from_map f P (x ∷ xs) s = (s.0, each-from_map f P xs s.1)

  pub count-filter_map : (f : X → Option Y) (p : X → Bool) (xs : List X) → ((x : X) → p x ≡ is_some (f x)) → count_by p xs ≡ length (filter_map f xs)
  count-filter_map f p [] e = refl
  count-filter_map f p (x ∷ xs) e =
      omega (arith, sum_by-cons (λ y. cond (p y) 1 0) x xs, ap {B = ℕ} (λ b. cond b 1 0) (e x), length-cons_option (f x) (filter_map f xs), count-filter_map f p xs e)

map-cons_option : {Y Z : Type 0} (g : Y → Z) (o : Option Y) (ys : List Y) → map g (cons_option o ys) ≡ cons_option (option_map g o) (map g ys)
map-cons_option g none ys = refl
map-cons_option g (Some y) ys = refl

filter_map-cons_option : {Y Z : Type 0} (g : Y → Option Z) (o : Option Y) (ys : List Y) → filter_map g (cons_option o ys) ≡ cons_option (option_and_then g o) (filter_map g ys)
filter_map-cons_option g none ys = refl
filter_map-cons_option g (Some y) ys = refl

module _ {X Y Z : Type 0} where
  pub map-filter_map : (g : Y → Z) (f : X → Option Y) (h : X → Option Z) (xs : List X) → ((x : X) → option_map g (f x) ≡ h x) → map g (filter_map f xs) ≡ filter_map h xs
  map-filter_map g f h [] e = refl
  map-filter_map g f h (x ∷ xs) e =
      map-cons_option g (f x) (filter_map f xs) ∙ ap₂ cons_option (e x) (map-filter_map g f h xs e)

  pub filter_map-twice : (g : Y → Option Z) (f : X → Option Y) (h : X → Option Z) (xs : List X) → ((x : X) → option_and_then g (f x) ≡ h x) → filter_map g (filter_map f xs) ≡ filter_map h xs
  filter_map-twice g f h [] e = refl
  filter_map-twice g f h (x ∷ xs) e =
      filter_map-cons_option g (f x) (filter_map f xs) ∙ ap₂ cons_option (e x) (filter_map-twice g f h xs e)
