-- Lists: what holds of each element with those around it, of each two, and the parts of lists that are joined.
use Rattle.std.proofs.Common.{◌≡◌, ◌≢◌, ℕ, ◌+◌, ◌<◌, suc, zero, List, [], ◌∷◌, ◌++◌, Bool, true, false, not, ◌||◌, cond, length, map, take, drop, slice_get, get_or, filter_map, Option, Some, option_map, unwrap_or, refl, ap, ap₂, sym, ◌∙◌, subst, arith, append_assoc}
use Rattle.std.specs.Prelude.{bytes_eq, AllPairs}
use Rattle.std.specs.Prelude.{None as none}
use Rattle.std.specs.List.{cons_option, list_any}
use Rattle.std.proofs.lemmas.Bool.{false≢true}
use Rattle.std.proofs.lemmas.List.{append-nil}
use Rattle.std.proofs.lemmas.Slice.Eq.{bytes_eq-Decides}
use Rattle.pp_graph.specs.Plan.{EachIs}
use Rattle.pp_graph.specs.Built.{place_of}
use Rattle.pp_rules.proofs.RuleLemmas.{false_from_not}
use Rattle.pp_graph.proofs.TableLemmas.{Each, each-at}
use Rattle.pp_graph.proofs.EachLemmas.{Pairs, each-map, each-from_map}

-- it holds of each element with those before it and those behind it
abbrev pub Along : {X : Type 0} → (List X → X → List X → Type 0) → List X → List X → Type 0
Along P before [] = Unit {0}
Along P before (x ∷ after) = P before x after × Along P (before ++ x ∷ []) after

-- the same, told by any way to part the list
abbrev pub AtEach : {X : Type 0} → (List X → X → List X → Type 0) → List X → Type 0
AtEach {X} P all = (before : List X) (x : X) (after : List X) → all ≡ before ++ x ∷ after → P before x after

differ-step : (b : Bool) (m i : ℕ) → b ≡ false → m ≡ i → cond (not b) (1 + m) 0 ≡ suc i
differ-step true m i e h = absurd (false≢true (sym e))
differ-step false m i e h = omega arith

or_assoc : (a b c : Bool) → ((a || b) || c) ≡ (a || (b || c))
or_assoc true b c = refl
or_assoc false b c = refl

-- names that differ are not equal
pub not_equal : (a b : List ℕ) → a ≢ b → bytes_eq b a ≡ false
not_equal a b h = false_from_not (bytes_eq b a) (λ e. h (sym ((bytes_eq-Decides b a).0 e)))

pub differ_bytes : (a b : List ℕ) → a ≢ b → bytes_eq a b ≡ false
differ_bytes a b h = not_equal b a (λ e. h (sym e))

module _ {X : Type 0} where
  along-parted : (P : List X → X → List X → Type 0) (front before : List X) (x : X) (after : List X) → Along P front (before ++ x ∷ after) → P (front ++ before) x after
  along-parted P front [] x after s = subst (λ xs. P xs x after) (sym (append-nil front)) s.0
  along-parted P front (b ∷ before) x after s =
      subst (λ xs. P xs x after) (append_assoc front (b ∷ []) before) (along-parted P (front ++ b ∷ []) before x after s.1)

  pub along-each : (P : List X → X → List X → Type 0) (all : List X) → Along P [] all → AtEach P all
  along-each P all s before x after e = along-parted P [] before x after (subst (Along P []) e s)

  -- elements of which it holds wherever they stand
  pub along-free : (P : List X → X → List X → Type 0) (front xs ys : List X) → Each (λ x. (b a : List X) → P b x a) xs → ((b : List X) → Along P b ys) → Along P front (xs ++ ys)
  along-free P front [] ys s f = f front
  along-free P front (x ∷ xs) ys s f = (s.0 front (xs ++ ys), along-free P (front ++ x ∷ []) xs ys s.1 f)

  pub each-middle : (P : X → Type 0) (before : List X) (x : X) (after : List X) → Each P (before ++ x ∷ after) → P x
  each-middle P [] x after s = s.0
  each-middle P (b ∷ before) x after s = each-middle P before x after s.1

  pub each-front : (P : X → Type 0) (xs ys : List X) → Each P (xs ++ ys) → Each P xs
  each-front P [] ys s = tt
  each-front P (x ∷ xs) ys s = (s.0, each-front P xs ys s.1)

  pub pairs-middle : (R : X → X → Type 0) (before : List X) (x : X) (after : List X) → Pairs R (before ++ x ∷ after) → Each (λ b. R b x) before
  pairs-middle R [] x after s = tt
  pairs-middle R (b ∷ before) x after s = (each-middle (R b) before x after s.0, pairs-middle R before x after s.1)

  pub pairs-weaker : (R S : X → X → Type 0) (xs : List X) → ((x y : X) → R x y → S x y) → Pairs R xs → Pairs S xs
  pairs-weaker R S [] f s = tt
  pairs-weaker R S (x ∷ xs) f s = (each-map (R x) (S x) xs (f x) s.0, pairs-weaker R S xs f s.1)

  pub any-push : (test : X → Bool) (xs : List X) (x : X) → list_any test (xs ++ x ∷ []) ≡ (list_any test xs || (test x || false))
  any-push test [] x = refl
  any-push test (y ∷ ys) x =
      ap (λ b. test y || b) (any-push test ys x) ∙ sym (or_assoc (test y) (list_any test ys) (test x || false))

  pub any-fails : (test : X → Bool) (xs : List X) → Each (λ x. test x ≡ false) xs → list_any test xs ≡ false
  any-fails test [] s = refl
  any-fails test (x ∷ xs) s = ap₂ ◌||◌ s.0 (any-fails test xs s.1)

  pub each-all : (P : X → Type 0) (xs : List X) → ((x : X) → P x) → Each P xs
  each-all P [] f = tt
  each-all P (x ∷ xs) f = (f x, each-all P xs f)

  pub each-from_is : (P : X → Type 0) (xs : List X) → EachIs P xs → Each P xs
  each-from_is P [] s = tt
  each-from_is P (x ∷ xs) s = (s 0 x refl, each-from_is P xs (λ i y e. s (suc i) y e))

  -- the element at a place parts the list
  pub parted : (xs : List X) (i : ℕ) (x : X) → slice_get xs i ≡ Some x → xs ≡ take i xs ++ x ∷ drop (suc i) xs
  parted [] i x e = absurd cc
  parted (y ∷ ys) zero x e = let same : y ≡ x = cc in ap (λ z. z ∷ ys) same
  parted (y ∷ ys) (suc i) x e = ap (λ zs. y ∷ zs) (parted ys i x e)

  -- what holds of each two by their places holds of each two
  each-from_places : (P : X → Type 0) (xs : List X) → ((j : ℕ) (d : X) → j < length xs → P (get_or xs j d)) → Each P xs
  each-from_places P [] f = tt
  each-from_places P (x ∷ xs) f = (f 0 x (omega arith), each-from_places P xs (λ j d h. f (suc j) d (omega arith)))

  pub pairs-from_places : (R : X → X → Type 0) (xs : List X) → AllPairs R xs → Pairs R xs
  pairs-from_places R [] f = tt
  pairs-from_places R (x ∷ xs) f = (
    each-from_places (R x) xs (λ j d h. f 0 (suc j) d (omega arith) (omega arith)),
    pairs-from_places R xs (λ i j d p q. f (suc i) (suc j) d (omega arith) (omega arith)),
  )

  pub pairs-joined : (R : X → X → Type 0) (xs ys : List X) → Pairs R xs → Each (λ x. Each (R x) ys) xs → Pairs R ys → Pairs R (xs ++ ys)
  pairs-joined R [] ys p s q = q
  pairs-joined R (x ∷ xs) ys p s q = (each-joined (R x) xs ys p.0 s.0, pairs-joined R xs ys p.1 s.1 q)
    where
      each-joined : (P : X → Type 0) (xs ys : List X) → Each P xs → Each P ys → Each P (xs ++ ys)
      each-joined P [] ys s t = t
      each-joined P (x ∷ xs) ys s t = (s.0, each-joined P xs ys s.1 t)

  -- a name that differs from others has its own place among them
  pub place-own : (name : X → List ℕ) (xs : List X) → Pairs ◌≢◌ (map name xs) → (i : ℕ) (x : X) → slice_get xs i ≡ Some x → place_of (map name xs) (name x) ≡ i
  place-own name [] s i x e = absurd cc
  place-own name (y ∷ ys) s zero x e =
      let same : y ≡ x = cc in
      let equal : bytes_eq (name x) (name y) ≡ true = (bytes_eq-Decides (name x) (name y)).1 (ap name (sym same)) in
      rw equal refl
  place-own name (y ∷ ys) s (suc i) x e =
      let other : name y ≢ name x = each-at (λ z. name y ≢ name z) ys (each-from_map name (λ m. name y ≢ m) ys s.0) i x e in
      differ-step (bytes_eq (name x) (name y)) (place_of (map name ys) (name x)) i (not_equal (name y) (name x) other) (place-own name ys s.1 i x e)

  -- the name of what stands at a place
  abbrev pub name_at : (X → List ℕ) → List X → ℕ → List ℕ
  name_at name xs i = unwrap_or (option_map name (slice_get xs i)) []

  pub name-at : (name : X → List ℕ) (xs : List X) (i : ℕ) (x : X) → slice_get xs i ≡ Some x → name_at name xs i ≡ name x
  name-at name xs i x e = ap (λ o. unwrap_or (option_map name o) []) e

  pub place-told : (name : X → List ℕ) (xs : List X) → Pairs ◌≢◌ (map name xs) → (i : ℕ) (x : X) → slice_get xs i ≡ Some x → place_of (map name xs) (name_at name xs i) ≡ i
  place-told name xs s i x e = ap (place_of (map name xs)) (name-at name xs i x e) ∙ place-own name xs s i x e

-- what is given again of what was told, and what gives nothing
module _ {X Y : Type 0} where
  pub each-map_of : (h : X → Y) (P : Y → Type 0) (xs : List X) → Each (λ x. P (h x)) xs → Each P (map h xs)
  each-map_of h P [] s = tt
  each-map_of h P (x ∷ xs) s = (s.0, each-map_of h P xs s.1)

  pub pairs-map_of : (h : X → Y) (R : Y → Y → Type 0) (xs : List X) → Pairs (λ x y. R (h x) (h y)) xs → Pairs R (map h xs)
  pairs-map_of h R [] s = tt
  pairs-map_of h R (x ∷ xs) s = (each-map_of h (R (h x)) xs s.0, pairs-map_of h R xs s.1)

  pub pairs-of_map : (h : X → Y) (R : Y → Y → Type 0) (xs : List X) → Pairs R (map h xs) → Pairs (λ x y. R (h x) (h y)) xs
  pairs-of_map h R [] s = tt
  pairs-of_map h R (x ∷ xs) s = (each-from_map h (R (h x)) xs s.0, pairs-of_map h R xs s.1)

  pub told-again : (h : X → Y) (f : Y → Option X) (xs : List X) → Each (λ x. f (h x) ≡ Some x) xs → filter_map f (map h xs) ≡ xs
  told-again h f [] s = refl
  told-again h f (x ∷ xs) s = ap₂ cons_option s.0 (told-again h f xs s.1)

  pub nothing-of : (f : X → Option Y) (xs : List X) → Each (λ x. f x ≡ none) xs → filter_map f xs ≡ []
  nothing-of f [] s = refl
  nothing-of f (x ∷ xs) s = ap₂ cons_option s.0 (nothing-of f xs s.1)

module _ {X Y Z : Type 0} where
  pub told-as : (h : X → Y) (f : Y → Option Z) (k : X → Z) (xs : List X) → ((x : X) → f (h x) ≡ Some (k x)) → filter_map f (map h xs) ≡ map k xs
  told-as h f k [] s = refl
  told-as h f k (x ∷ xs) s = ap₂ cons_option (s x) (told-as h f k xs s)

  pub nothing-told : (h : X → Y) (f : Y → Option Z) (xs : List X) → ((x : X) → f (h x) ≡ none) → filter_map f (map h xs) ≡ []
  nothing-told h f xs s = nothing-of f (map h xs) (each-map_of h (λ y. f y ≡ none) xs (each-all (λ x. f (h x) ≡ none) xs s))
