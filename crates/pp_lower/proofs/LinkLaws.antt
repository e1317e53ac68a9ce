-- What one text more changes in rows of links and in ends.
use Rattle.std.proofs.Common.{subst, ◌≡◌, ℕ, zero, suc, ◌+◌, ◌<◌, ◌≤◌, List, [], ◌∷◌, ◌++◌, Option, Some, None, Bool, true, false, cond, refl, sym, ◌∙◌, ap, arith, length, take, set, get_or, eqb, inl, inr, length-append}
use Rattle.std.specs.Prelude.{◌⊎◌, ◌==◌, slice_get, option_map, find, bytes_eq, Vec}
use Rattle.std.specs.Option.{is_some}
use Rattle.std.specs.declared.alloc.Global.{Global}
use Rattle.std.proofs.Math.ListN.{length-set}
use Rattle.std.proofs.lemmas.Bool.{eqb-true, eqb-false, false_from_ne_true}
use Rattle.std.proofs.lemmas.Option.{slice_get_within}
use Rattle.pp_lower.specs.declared.links.Link.{Link}
use Rattle.pp_lower.specs.Tree.{place_of}
use Rattle.pp_lower.specs.steps.Order.{Has, IsOrdered}
use Rattle.pp_lower.specs.steps.Links.{link_by, links_in, AreLinks, AreEnds}
use Rattle.pp_lower.proofs.EdgeLaws.{or_else, find-append}
use Rattle.pp_lower.proofs.TreeLaws.{same_is, same_self, PlaceIs, place_is, get_has}
use Rattle.pp_lower.proofs.OrderLaws.{one_place}

-- a list with one more behind it
get_snoc : {X : Type 0} (xs : List X) (y : X) (j : ℕ) (x : X) → slice_get (xs ++ y ∷ []) j ≡ Some x → slice_get xs j ≡ Some x ⊎ (x ≡ y)
get_snoc [] y zero x e = inr cc
get_snoc [] y (suc j) x e = cc
get_snoc (z ∷ xs) y zero x e = inl e
get_snoc (z ∷ xs) y (suc j) x e = get_snoc xs y j x e

-- a list with another element at one place
get_set : {X : Type 0} (xs : List X) (i : ℕ) (v : X) (j : ℕ) (x : X) → slice_get (set xs i v) j ≡ Some x → ((j ≡ i) × (x ≡ v)) ⊎ ((j ≡ i → ⊥) × (slice_get xs j ≡ Some x))
get_set [] i v j x e = cc
get_set (y ∷ xs) zero v zero x e = inl (refl, cc)
get_set (y ∷ xs) zero v (suc j) x e = inr ((λ h. omega arith), e)
get_set (y ∷ xs) (suc i) v zero x e = inr ((λ h. omega arith), e)
get_set (y ∷ xs) (suc i) v (suc j) x e = go (get_set xs i v j x e)
  where
    go : ((j ≡ i) × (x ≡ v)) ⊎ ((j ≡ i → ⊥) × (slice_get xs j ≡ Some x)) → ((suc j ≡ suc i) × (x ≡ v)) ⊎ ((suc j ≡ suc i → ⊥) × (slice_get xs j ≡ Some x))
    go (inl h) = inl (ap suc h.0, h.1)
    go (inr h) = inr ((λ s. h.0 (omega arith)), h.1)

pub get_there : {X : Type 0} (xs : List X) (i : ℕ) (d : X) → i < length xs → slice_get xs i ≡ Some (get_or xs i d)
get_there [] i d h = absurd (omega arith)
get_there (x ∷ xs) zero d h = refl
get_there (x ∷ xs) (suc i) d h = get_there xs i d (omega arith)

-- one text more
place_more : (t : List ℕ) (texts : List (List ℕ)) (x : List ℕ) → place_of t (texts ++ x ∷ []) ≡ or_else (place_of t texts) (cond (bytes_eq t x) (Some (length texts)) None)
place_more t [] x = go (bytes_eq t x)
  where
    nothing : Option ℕ
    nothing = None

    go : (v : Bool) → cond v (Some 0) (option_map suc nothing) ≡ cond v (Some 0) nothing
    go true = refl
    go false = refl
place_more t (y ∷ texts) x = go (bytes_eq t y) (place_more t texts x)
  where
    later : (o : Option ℕ) (v : Bool) → option_map suc (or_else o (cond v (Some (length texts)) None)) ≡ or_else (option_map suc o) (cond v (Some (suc (length texts))) None)
    later (Some i) v = refl
    later None true = refl
    later None false = refl

    go : (v : Bool) → place_of t (texts ++ x ∷ []) ≡ or_else (place_of t texts) (cond (bytes_eq t x) (Some (length texts)) None) →
        cond v (Some 0) (option_map suc (place_of t (texts ++ x ∷ []))) ≡ or_else (cond v (Some 0) (option_map suc (place_of t texts))) (cond (bytes_eq t x) (Some (suc (length texts))) None)
    go true i = refl
    go false i = ap (option_map suc) i ∙ later (place_of t texts) (bytes_eq t x)

or_none : (o : Option ℕ) → or_else o None ≡ o
or_none None = refl
or_none (Some i) = refl

place_other : (t : List ℕ) (texts : List (List ℕ)) (x : List ℕ) → (t ≡ x → ⊥) → place_of t texts ≡ place_of t (texts ++ x ∷ [])
place_other t texts x differ =
    let f : bytes_eq t x ≡ false = false_from_ne_true (bytes_eq t x) (λ e. differ (same_is t x e)) in
    sym (place_more t texts x ∙ ap (λ (v : Bool). or_else (place_of t texts) (cond v (Some (length texts)) None)) f ∙ or_none (place_of t texts))

link_more : (row : List Link) (l : Link) (b : ℕ) → link_by (row ++ l ∷ []) b ≡ or_else (link_by row b) (cond (eqb l.byte b) (Some l.place) None)
link_more row l b =
    ap (option_map (λ (k : Link). k.place)) (find-append (λ (k : Link). k.byte == b) row (l ∷ []))
    ∙ go (find (λ (k : Link). k.byte == b) row) (eqb l.byte b)
  where
    go : (o : Option Link) (v : Bool) → option_map (λ (k : Link). k.place) (or_else o (cond v (Some l) None)) ≡ or_else (option_map (λ (k : Link). k.place) o) (cond v (Some l.place) None)
    go (Some k) v = refl
    go None true = refl
    go None false = refl

-- the last byte and what stands before it
snoc_same : (p q : List ℕ) (a b : ℕ) → p ++ a ∷ [] ≡ q ++ b ∷ [] → (p ≡ q) × (a ≡ b)
snoc_same [] [] a b e = (refl, cc)
snoc_same [] (y ∷ q) a b e = (let l : length (q ++ b ∷ []) ≡ length q + 1 = length-append q (b ∷ []) in let m : 1 ≡ suc (length (q ++ b ∷ [])) = ap length e in absurd (omega arith))
snoc_same (x ∷ p) [] a b e = (let l : length (p ++ a ∷ []) ≡ length p + 1 = length-append p (a ∷ []) in let m : suc (length (p ++ a ∷ [])) ≡ 1 = ap length e in absurd (omega arith))
snoc_same (x ∷ p) (y ∷ q) a b e =
    let head : x ≡ y = cc in
    let tail : p ++ a ∷ [] ≡ q ++ b ∷ [] = cc in
    let r : (p ≡ q) × (a ≡ b) = snoc_same p q a b tail in
    (ap (λ (z : ℕ). z ∷ p) head ∙ ap (λ (z : List ℕ). y ∷ z) r.0, r.1)

-- a text that is longer than none of the rows' texts by one byte changes no row
pub links_kept : (list texts : List (List ℕ)) (rows : List (List Link)) (x : List ℕ) → ((p : List ℕ) (b : ℕ) → Has ([] ∷ list) p → p ++ b ∷ [] ≡ x → ⊥) → AreLinks list texts rows → AreLinks list (texts ++ x ∷ []) rows
links_kept list texts rows x differ h = record {
  long = h.long;
  each = λ j p row b e f. h.each j p row b e f ∙ place_other (p ++ b ∷ []) texts x (differ p b (get_has ([] ∷ list) j p e));
}

-- the empty text is longer than none
pub links_empty : (list texts : List (List ℕ)) (rows : List (List Link)) (x : List ℕ) → length x ≡ 0 → AreLinks list texts rows → AreLinks list (texts ++ x ∷ []) rows
links_empty list texts rows x z h = links_kept list texts rows x (λ p b i e. (let l : length (p ++ b ∷ []) ≡ length p + 1 = length-append p (b ∷ []) in let m : length (p ++ b ∷ []) ≡ length x = ap length e in omega arith)) h

-- a front and its last byte
pub split_last : (x : List ℕ) (n : ℕ) (b : ℕ) → length x ≡ suc n → b ≡ get_or x n 0 → x ≡ take n x ++ b ∷ []
split_last [] n b e f = absurd (omega arith)
split_last (y ∷ []) zero b e f = ap (λ (z : ℕ). z ∷ []) (sym f)
split_last (y ∷ z ∷ x) zero b e f = absurd (omega arith)
split_last (y ∷ x) (suc n) b e f = ap (λ (z : List ℕ). y ∷ z) (split_last x n b (omega arith) f)

-- a text whose front is in no row
pub links_apart : (list texts : List (List ℕ)) (rows : List (List Link)) (x front : List ℕ) (last : ℕ) → x ≡ front ++ last ∷ [] → None ≡ place_of front ([] ∷ list) → AreLinks list texts rows → AreLinks list (texts ++ x ∷ []) rows
links_apart list texts rows x front last split none h =
    links_kept list texts rows x (λ p b i e. go (place_of front ([] ∷ list)) (place_is front ([] ∷ list)) none (subst (Has ([] ∷ list)) (snoc_same p front b last (e ∙ split)).0 i)) h
  where
    go : (o : Option ℕ) → PlaceIs front ([] ∷ list) o → None ≡ o → Has ([] ∷ list) front → ⊥
    go None n e i = n i
    go (Some k) n e i = cc

place_at : (p : List ℕ) (l : List (List ℕ)) (r : ℕ) → Some r ≡ place_of p l → slice_get l r ≡ Some p
place_at p l r e = go (place_of p l) (place_is p l) e
  where
    go : (o : Option ℕ) → PlaceIs p l o → Some r ≡ o → slice_get l r ≡ Some p
    go None n s = cc
    go (Some k) n s = (let same : k ≡ r = cc in subst (λ (i : ℕ). slice_get l i ≡ Some p) same n)

-- where a text stands among the rows
pub row_within : (p : List ℕ) (list : List (List ℕ)) (r n : ℕ) → Some r ≡ place_of p ([] ∷ list) → n ≡ suc (length list) → r < n
row_within p list r n e l = (let inside : r < length ([] ∷ list) = slice_get_within ([] ∷ list) r p (place_at p ([] ∷ list) r e) in omega arith)

-- a text that is longer than that of a row
pub links_set : (list texts : List (List ℕ)) (old new : List (List Link)) (x front : List ℕ) (last r : ℕ) (l : Link) → IsOrdered ([] ∷ list) → x ≡ front ++ last ∷ [] → Some r ≡ place_of front ([] ∷ list) →
    l ≡ record { byte = last; place = length texts } → new ≡ set old r (get_or old r [] ++ l ∷ []) → AreLinks list texts old → AreLinks list (texts ++ x ∷ []) new
links_set list texts old new x front last r l o split at link is h = record {
  long = ap length is ∙ length-set old r (get_or old r [] ++ l ∷ []) ∙ h.long;
  each = λ j p row b e f. go j p row b e (get_set old r (get_or old r [] ++ l ∷ []) j row (sym (ap (λ (z : List (List Link)). slice_get z j) is) ∙ f));
}
  where
    there : slice_get ([] ∷ list) r ≡ Some front
    there = place_at front ([] ∷ list) r at

    inside : r < length old
    inside = row_within front list r (length old) at h.long

    bytes : (b : ℕ) → bytes_eq (front ++ b ∷ []) x ≡ eqb l.byte b
    bytes b = go (eqb l.byte b) refl
      where
        byte : l.byte ≡ last
        byte = ap (λ (k : Link). k.byte) link

        go : (v : Bool) → eqb l.byte b ≡ v → bytes_eq (front ++ b ∷ []) x ≡ v
        go true e = ap (bytes_eq (front ++ b ∷ [])) (split ∙ ap (λ (z : ℕ). front ++ z ∷ []) (sym byte ∙ eqb-true l.byte b e)) ∙ same_self (front ++ b ∷ [])
        go false e =
            false_from_ne_true (bytes_eq (front ++ b ∷ []) x)
            (λ t. eqb-false l.byte b e (byte ∙ sym (snoc_same front front b last (same_is (front ++ b ∷ []) x t ∙ split)).1))

    here : (row : List Link) (b : ℕ) → row ≡ get_or old r [] ++ l ∷ [] → link_by row b ≡ place_of (front ++ b ∷ []) (texts ++ x ∷ [])
    here row b e =
        ap (λ (z : List Link). link_by z b) e
        ∙ link_more (get_or old r []) l b
        ∙ ap (λ (z : Option ℕ). or_else z (cond (eqb l.byte b) (Some l.place) None)) (h.each r front (get_or old r []) b there (get_there old r [] inside))
        ∙ ap (λ (k : ℕ). or_else (place_of (front ++ b ∷ []) texts) (cond (eqb l.byte b) (Some k) None)) (ap (λ (k : Link). k.place) link)
        ∙ ap (λ (v : Bool). or_else (place_of (front ++ b ∷ []) texts) (cond v (Some (length texts)) None)) (sym (bytes b))
        ∙ sym (place_more (front ++ b ∷ []) texts x)

    go : (j : ℕ) (p : List ℕ) (row : List Link) (b : ℕ) → slice_get ([] ∷ list) j ≡ Some p → ((j ≡ r) × (row ≡ get_or old r [] ++ l ∷ [])) ⊎ ((j ≡ r → ⊥) × (slice_get old j ≡ Some row)) →
        link_by row b ≡ place_of (p ++ b ∷ []) (texts ++ x ∷ [])
    go j p row b e (inl k) =
        let same : Some p ≡ Some front = sym e ∙ ap (slice_get ([] ∷ list)) k.0 ∙ there in
        let text : p ≡ front = cc in
        here row b k.1 ∙ ap (λ (z : List ℕ). place_of (z ++ b ∷ []) (texts ++ x ∷ [])) (sym text)
    go j p row b e (inr k) =
        h.each j p row b e k.1
        ∙ place_other (p ++ b ∷ []) texts x (λ s. k.0 (one_place ([] ∷ list) j r front o (e ∙ ap (λ (z : List ℕ). Some z) (snoc_same p front b last (s ∙ split)).0) there))

-- rows without links
pub record AreEmpty (count : ℕ) (rows : List (List Link)) : Type 0 where
  pub long : length rows ≡ count
  pub each : (j : ℕ) (row : List Link) → slice_get rows j ≡ Some row → row ≡ []

pub empty_none : AreEmpty 0 []
empty_none = record { long = refl; each = λ j row e. cc }

pub empty_more : (count n : ℕ) (old new : List (List Link)) → n ≡ suc count → new ≡ old ++ [] ∷ [] → AreEmpty count old → AreEmpty n new
empty_more count n old new u e h = record {
  long = (let l : length (old ++ [] ∷ []) ≡ length old + 1 = length-append old ([] ∷ []) in let m : length new ≡ length (old ++ [] ∷ []) = ap length e in omega (arith, h.long));
  each = λ j row f. go j row (get_snoc old [] j row (sym (ap (λ (z : List (List Link)). slice_get z j) e) ∙ f));
}
  where
    go : (j : ℕ) (row : List Link) → slice_get old j ≡ Some row ⊎ (row ≡ []) → row ≡ []
    go j row (inl f) = h.each j row f
    go j row (inr f) = f

pub empty_links : (list : List (List ℕ)) (rows : List (List Link)) (n : ℕ) → n ≡ suc (length list) → AreEmpty n rows → AreLinks list [] rows
empty_links list rows n u h = record {
  long = h.long ∙ u;
  each = λ j p row b e f. ap (λ (z : List Link). link_by z b) (h.each j row f);
}

-- ends of no text
pub record AreNone (count : ℕ) (ends : List (Option ℕ)) : Type 0 where
  pub long : length ends ≡ count
  pub each : (j : ℕ) (end : Option ℕ) → slice_get ends j ≡ Some end → end ≡ None

pub none_none : AreNone 0 []
none_none = record { long = refl; each = λ j end e. cc }

pub none_more : (count n : ℕ) (old new : List (Option ℕ)) → n ≡ suc count → new ≡ old ++ None ∷ [] → AreNone count old → AreNone n new
none_more count n old new u e h = record {
  long = (let l : length (old ++ None ∷ []) ≡ length old + 1 = length-append old (None ∷ []) in let m : length new ≡ length (old ++ None ∷ []) = ap length e in omega (arith, h.long));
  each = λ j end f. go j end (get_snoc old None j end (sym (ap (λ (z : List (Option ℕ)). slice_get z j) e) ∙ f));
}
  where
    go : (j : ℕ) (end : Option ℕ) → slice_get old j ≡ Some end ⊎ (end ≡ None) → end ≡ None
    go j end (inl f) = h.each j end f
    go j end (inr f) = f

pub none_ends : (list : List (List ℕ)) (ends : List (Option ℕ)) (n : ℕ) → n ≡ suc (length list) → AreNone n ends → AreEnds list [] ends
none_ends list ends n u h = record { long = h.long ∙ u; each = λ j p end e f. h.each j end f }

-- a text that is in no row
pub ends_apart : (list texts : List (List ℕ)) (ends : List (Option ℕ)) (x : List ℕ) → None ≡ place_of x ([] ∷ list) → AreEnds list texts ends → AreEnds list (texts ++ x ∷ []) ends
ends_apart list texts ends x none h = record {
  long = h.long;
  each = λ j p end e f. h.each j p end e f ∙ place_other p texts x (λ s. go (place_of x ([] ∷ list)) (place_is x ([] ∷ list)) none (subst (Has ([] ∷ list)) s (get_has ([] ∷ list) j p e)));
}
  where
    go : (o : Option ℕ) → PlaceIs x ([] ∷ list) o → None ≡ o → Has ([] ∷ list) x → ⊥
    go None n e i = n i
    go (Some k) n e i = cc

-- a text that has an end already
pub ends_kept : (list texts : List (List ℕ)) (ends : List (Option ℕ)) (x : List ℕ) (r k : ℕ) → IsOrdered ([] ∷ list) → Some r ≡ place_of x ([] ∷ list) → get_or ends r None ≡ Some k → AreEnds list texts ends → AreEnds list (texts ++ x ∷ []) ends
ends_kept list texts ends x r k o at has h = record {
  long = h.long;
  each = λ j p end e f. go j p end e f (eqb j r) refl;
}
  where
    there : slice_get ([] ∷ list) r ≡ Some x
    there = place_at x ([] ∷ list) r at

    inside : r < length ends
    inside = row_within x list r (length ends) at h.long

    found : Some k ≡ place_of x texts
    found = sym has ∙ h.each r x (get_or ends r None) there (get_there ends r None inside)

    go : (j : ℕ) (p : List ℕ) (end : Option ℕ) → slice_get ([] ∷ list) j ≡ Some p → slice_get ends j ≡ Some end → (v : Bool) → eqb j r ≡ v → end ≡ place_of p (texts ++ x ∷ [])
    go j p end e f true v =
        let same : Some p ≡ Some x = sym e ∙ ap (slice_get ([] ∷ list)) (eqb-true j r v) ∙ there in
        let text : p ≡ x = cc in
        h.each j p end e f ∙ ap (λ (z : List ℕ). place_of z texts) text ∙ sym found
        ∙ sym (place_more p texts x ∙ ap (λ (z : Option ℕ). or_else z (cond (bytes_eq p x) (Some (length texts)) None)) (ap (λ (z : List ℕ). place_of z texts) text ∙ sym found))
    go j p end e f false v =
        h.each j p end e f
        ∙ place_other p texts x (λ s. eqb-false j r v (one_place ([] ∷ list) j r x o (e ∙ ap (λ (z : List ℕ). Some z) s) there))

pub ends_held : (list texts : List (List ℕ)) (ends : List (Option ℕ)) (x : List ℕ) (r : ℕ) → IsOrdered ([] ∷ list) → Some r ≡ place_of x ([] ∷ list) → is_some (get_or ends r None) ≡ true → AreEnds list texts ends →
    AreEnds list (texts ++ x ∷ []) ends
ends_held list texts ends x r o at some h = go (get_or ends r None) refl some
  where
    go : (e : Option ℕ) → get_or ends r None ≡ e → is_some e ≡ true → AreEnds list (texts ++ x ∷ []) ends
    go None e s = cc
    go (Some k) e s = ends_kept list texts ends x r k o at e h

pub none_there : (o : Option ℕ) → is_some o ≡ false → o ≡ None
none_there None e = refl
none_there (Some k) e = cc

-- a text that had no end
pub ends_set : (list texts : List (List ℕ)) (old new : List (Option ℕ)) (x : List ℕ) (r place : ℕ) → IsOrdered ([] ∷ list) → Some r ≡ place_of x ([] ∷ list) → get_or old r None ≡ None → place ≡ length texts →
    new ≡ set old r (Some place) → AreEnds list texts old → AreEnds list (texts ++ x ∷ []) new
ends_set list texts old new x r place o at has count is h = record {
  long = ap length is ∙ length-set old r (Some place) ∙ h.long;
  each = λ j p end e f. go j p end e (get_set old r (Some place) j end (sym (ap (λ (z : List (Option ℕ)). slice_get z j) is) ∙ f));
}
  where
    there : slice_get ([] ∷ list) r ≡ Some x
    there = place_at x ([] ∷ list) r at

    inside : r < length old
    inside = row_within x list r (length old) at h.long

    missing : None ≡ place_of x texts
    missing = sym has ∙ h.each r x (get_or old r None) there (get_there old r None inside)

    here : place_of x (texts ++ x ∷ []) ≡ Some (length texts)
    here =
        place_more x texts x
        ∙ ap (λ (z : Option ℕ). or_else z (cond (bytes_eq x x) (Some (length texts)) None)) (sym missing)
        ∙ ap (λ (v : Bool). cond v (Some (length texts)) None) (same_self x)

    go : (j : ℕ) (p : List ℕ) (end : Option ℕ) → slice_get ([] ∷ list) j ≡ Some p → ((j ≡ r) × (end ≡ Some place)) ⊎ ((j ≡ r → ⊥) × (slice_get old j ≡ Some end)) → end ≡ place_of p (texts ++ x ∷ [])
    go j p end e (inl k) =
        let same : Some p ≡ Some x = sym e ∙ ap (slice_get ([] ∷ list)) k.0 ∙ there in
        let text : p ≡ x = cc in
        k.1 ∙ ap (λ (n : ℕ). Some n) count ∙ sym here ∙ ap (λ (z : List ℕ). place_of z (texts ++ x ∷ [])) (sym text)
    go j p end e (inr k) =
        h.each j p end e k.1
        ∙ place_other p texts x (λ s. k.0 (one_place ([] ∷ list) j r x o (e ∙ ap (λ (z : List ℕ). Some z) s) there))

-- one of the texts more, by a number
take_more : (texts : List (List ℕ)) (i : ℕ) (x : List ℕ) → i < length texts → x ≡ get_or texts i x → take i texts ++ x ∷ [] ≡ take (suc i) texts
take_more [] i x h e = absurd (omega arith)
take_more (t ∷ texts) zero x h e = ap (λ (z : List ℕ). z ∷ []) e
take_more (t ∷ texts) (suc i) x h e = ap (λ (z : List (List ℕ)). t ∷ z) (take_more texts i x (omega arith) e)

pub take_next : (texts : List (List ℕ)) (i j : ℕ) (x : List ℕ) → i < length texts → x ≡ get_or texts i x → j ≡ suc i → take i texts ++ x ∷ [] ≡ take j texts
take_next texts i j x h e u = take_more texts i x h e ∙ ap (λ (k : ℕ). take k texts) (sym u)

pub take_count : (texts : List (List ℕ)) (i : ℕ) → i ≤ length texts → i ≡ length (take i texts)
take_count texts zero h = refl
take_count [] (suc i) h = absurd (omega arith)
take_count (t ∷ texts) (suc i) h = ap suc (take_count texts i (omega arith))

pub take_whole : (texts : List (List ℕ)) (i : ℕ) → i ≡ length texts → take i texts ≡ texts
take_whole [] zero h = refl
take_whole [] (suc i) h = refl
take_whole (t ∷ texts) zero h = absurd (omega arith)
take_whole (t ∷ texts) (suc i) h = ap (λ (z : List (List ℕ)). t ∷ z) (take_whole texts i (omega arith))

-- where a text of a list stands
pub place_within : (p : List ℕ) (l : List (List ℕ)) (r : ℕ) → Some r ≡ place_of p l → r < length l
place_within p l r e = slice_get_within l r p (place_at p l r e)

rows_set : (rows : List (Vec Link Global)) (r : ℕ) (v : Vec Link Global) → links_in (set rows r v) ≡ set (links_in rows) r v.items
rows_set [] r v = refl
rows_set (x ∷ rows) zero v = refl
rows_set (x ∷ rows) (suc r) v = ap (λ (z : List (List Link)). x.items ∷ z) (rows_set rows r v)

rows_get : (rows : List (Vec Link Global)) (r : ℕ) (d : Vec Link Global) → r < length rows → (get_or rows r d).items ≡ get_or (links_in rows) r []
rows_get [] r d h = absurd (omega arith)
rows_get (x ∷ rows) zero d h = refl
rows_get (x ∷ rows) (suc r) d h = rows_get rows r d (omega arith)

-- a link more behind those of one row
pub row_pushed : (rows : List (Vec Link Global)) (r : ℕ) (old new : Vec Link Global) (l : Link) → r < length rows → old ≡ get_or rows r old → new.items ≡ old.items ++ l ∷ [] →
    links_in (set rows r new) ≡ set (links_in rows) r (get_or (links_in rows) r [] ++ l ∷ [])
row_pushed rows r old new l h e f =
    rows_set rows r new
    ∙ ap (set (links_in rows) r) (f ∙ ap (λ (z : List Link). z ++ l ∷ []) (ap (λ (v : Vec Link Global). v.items) e ∙ rows_get rows r old h))

-- as many rows of links as rows
pub rows_long : (rows : List (Vec Link Global)) → length (links_in rows) ≡ length rows
rows_long [] = refl
rows_long (x ∷ rows) = ap suc (rows_long rows)
