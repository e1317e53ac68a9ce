-- The keys and the prefixes that a walk looks up.
use Rattle.std.proofs.Common.{subst, ◌≡◌, ℕ, zero, suc, ◌+◌, ◌-◌, ◌≤◌, ◌<◌, List, [], ◌∷◌, ◌++◌, Option, Some, None, Bool, true, false, cond, refl, sym, ◌∙◌, ap, arith, length, take, ltb, inl, inr, length-append}
use Rattle.std.specs.Prelude.{◌⊎◌, slice_get, option_map, fold, bytes_eq}
use Rattle.std.proofs.Math.Seq.{take-append_seam}
use Rattle.std.proofs.lemmas.Bool.{ltb-true, ltb-false}
use Rattle.std.proofs.lemmas.Slice.Eq.{bytes_eq-Decides}
use Rattle.pp_graph.specs.declared.node.Key.{Key}
use Rattle.pp_graph.specs.Plan.{key_bytes}
use Rattle.pp_lower.specs.Tree.{comes_before, with_prefix, with_prefixes, with_text, prefixes_by, place_of}
use Rattle.pp_lower.specs.Lowered.{inner_of, key_of}
use Rattle.pp_lower.specs.steps.Order.{Has, IsTake}
use Rattle.pp_lower.proofs.Keys.{IsInner}

-- equal bytes are the same
pub same_is : (p q : List ℕ) → bytes_eq p q ≡ true → p ≡ q
same_is p q h = (bytes_eq-Decides p q).0 h

pub same_self : (p : List ℕ) → bytes_eq p p ≡ true
same_self p = (bytes_eq-Decides p p).1 refl

pub same_not : (p q : List ℕ) → bytes_eq p q ≡ false → p ≡ q → ⊥
same_not p q h e = let t : bytes_eq p q ≡ true = (bytes_eq-Decides p q).1 e in cc

-- what is found among keys
abbrev pub KeyIs : List Key → List ℕ → Option Key → Type 0
KeyIs keys p (Some k) = Has keys k × (k.bytes ≡ p)
KeyIs keys p None = (l : Key) → Has keys l → l.bytes ≡ p → ⊥

key_more : (k : Key) (keys : List Key) (p : List ℕ) (o : Option Key) → bytes_eq p k.bytes ≡ false → KeyIs keys p o → KeyIs (k ∷ keys) p o
key_more k keys p (Some m) e h = (inr h.0, h.1)
key_more k keys p None e h = none
  where
    none : (l : Key) → Has (k ∷ keys) l → l.bytes ≡ p → ⊥
    none l (inl d) c = same_not p k.bytes e (sym (ap (λ (x : Key). x.bytes) d ∙ c))
    none l (inr i) c = h l i c

pub key_is : (keys : List Key) (p : List ℕ) → KeyIs keys p (key_of keys p)
key_is [] p = λ l h c. h
key_is (k ∷ keys) p = go (bytes_eq p k.bytes) refl (key_is keys p)
  where
    go : (v : Bool) → bytes_eq p k.bytes ≡ v → KeyIs keys p (key_of keys p) → KeyIs (k ∷ keys) p (cond v (Some k) (key_of keys p))
    go true e h = (inl refl, sym (same_is p k.bytes e))
    go false e h = key_more k keys p (key_of keys p) e h

-- what is found among texts
abbrev pub PlaceIs : List ℕ → List (List ℕ) → Option ℕ → Type 0
PlaceIs p l (Some i) = slice_get l i ≡ Some p
PlaceIs p l None = Has l p → ⊥

place_more : (p q : List ℕ) (l : List (List ℕ)) (o : Option ℕ) → bytes_eq p q ≡ false → PlaceIs p l o → PlaceIs p (q ∷ l) (option_map suc o)
place_more p q l (Some i) e h = h
place_more p q l None e h = none
  where
    none : Has (q ∷ l) p → ⊥
    none (inl d) = same_not p q e (sym d)
    none (inr i) = h i

pub place_is : (p : List ℕ) (l : List (List ℕ)) → PlaceIs p l (place_of p l)
place_is p [] = λ h. h
place_is p (q ∷ l) = go (bytes_eq p q) refl (place_is p l)
  where
    go : (v : Bool) → bytes_eq p q ≡ v → PlaceIs p l (place_of p l) → PlaceIs p (q ∷ l) (cond v (Some 0) (option_map suc (place_of p l)))
    go true e h = ap (λ (x : List ℕ). Some x) (sym (same_is p q e))
    go false e h = place_more p q l (place_of p l) e h

pub get_has : {A : Type 0} (l : List A) (i : ℕ) (x : A) → slice_get l i ≡ Some x → Has l x
get_has [] i x e = cc
get_has (y ∷ l) zero x e = inl cc
get_has (y ∷ l) (suc i) x e = inr (get_has l i x e)

-- a text more in the list
pub with_only : (p : List ℕ) (l : List (List ℕ)) (x : List ℕ) → Has (with_prefix p l) x → (p ≡ x) ⊎ Has l x
with_only p [] x h = h
with_only p (q ∷ l) x h = go (bytes_eq p q) (comes_before p q) (λ i. with_only p l x i) h
  where
    deeper : (p ≡ x) ⊎ Has l x → (p ≡ x) ⊎ Has (q ∷ l) x
    deeper (inl e) = inl e
    deeper (inr n) = inr (inr n)

    last : (Has (with_prefix p l) x → (p ≡ x) ⊎ Has l x) → Has (q ∷ with_prefix p l) x → (p ≡ x) ⊎ Has (q ∷ l) x
    last i (inl e) = inr (inl e)
    last i (inr n) = deeper (i n)

    go : (v w : Bool) → (Has (with_prefix p l) x → (p ≡ x) ⊎ Has l x) → Has (cond v (q ∷ l) (cond w (p ∷ q ∷ l) (q ∷ with_prefix p l))) x → (p ≡ x) ⊎ Has (q ∷ l) x
    go true w i h = inr h
    go false true i h = h
    go false false i h = last i h

pub with_there : (p : List ℕ) (l : List (List ℕ)) → Has (with_prefix p l) p
with_there p [] = inl refl
with_there p (q ∷ l) = go (bytes_eq p q) refl (comes_before p q) (with_there p l)
  where
    go : (v : Bool) → bytes_eq p q ≡ v → (w : Bool) → Has (with_prefix p l) p → Has (cond v (q ∷ l) (cond w (p ∷ q ∷ l) (q ∷ with_prefix p l))) p
    go true e w i = inl (sym (same_is p q e))
    go false e true i = inl refl
    go false e false i = inr i

pub with_keeps : (p : List ℕ) (l : List (List ℕ)) (x : List ℕ) → Has l x → Has (with_prefix p l) x
with_keeps p [] x h = absurd h
with_keeps p (q ∷ l) x h = go (bytes_eq p q) (comes_before p q) (λ i. with_keeps p l x i) h
  where
    last : (Has l x → Has (with_prefix p l) x) → Has (q ∷ l) x → Has (q ∷ with_prefix p l) x
    last i (inl e) = inl e
    last i (inr n) = inr (i n)

    go : (v w : Bool) → (Has l x → Has (with_prefix p l) x) → Has (q ∷ l) x → Has (cond v (q ∷ l) (cond w (p ∷ q ∷ l) (q ∷ with_prefix p l))) x
    go true w i h = h
    go false true i h = inr h
    go false false i h = last i h

pub prefixes_only : (l : List (List ℕ)) (text : List ℕ) (n : ℕ) (x : List ℕ) → Has (with_prefixes l text n) x → Has l x ⊎ IsTake text n x
prefixes_only l text zero x h = inl h
prefixes_only l text (suc n) x h =
    go (with_only (take (suc n) text) (with_prefixes l text n) x h) (λ i. prefixes_only l text n x i)
  where
    wider : Has l x ⊎ IsTake text n x → Has l x ⊎ IsTake text (suc n) x
    wider (inl i) = inl i
    wider (inr t) = inr (record { at = t.at; below = omega (arith, t.below); is = t.is })

    go : (take (suc n) text ≡ x) ⊎ Has (with_prefixes l text n) x → (Has (with_prefixes l text n) x → Has l x ⊎ IsTake text n x) → Has l x ⊎ IsTake text (suc n) x
    go (inl e) i = inr (record { at = n; below = omega arith; is = sym e })
    go (inr h) i = wider (i h)

pub prefixes_keeps : (l : List (List ℕ)) (text : List ℕ) (n : ℕ) (x : List ℕ) → Has l x → Has (with_prefixes l text n) x
prefixes_keeps l text zero x h = h
prefixes_keeps l text (suc n) x h = with_keeps (take (suc n) text) (with_prefixes l text n) x (prefixes_keeps l text n x h)

prefixes_there : (l : List (List ℕ)) (text : List ℕ) (n m : ℕ) → m < n → Has (with_prefixes l text n) (take (suc m) text)
prefixes_there l text zero m h = absurd (omega arith)
prefixes_there l text (suc n) m h = go (ltb m n) refl (λ k. prefixes_there l text n m k)
  where
    go : (v : Bool) → ltb m n ≡ v → (m < n → Has (with_prefixes l text n) (take (suc m) text)) → Has (with_prefix (take (suc n) text) (with_prefixes l text n)) (take (suc m) text)
    go true e i = with_keeps (take (suc n) text) (with_prefixes l text n) (take (suc m) text) (i (ltb-true m n e))
    go false e i =
        let least : n ≤ m = ltb-false m n e in
        let same : m ≡ n = omega arith in
        subst (λ (j : ℕ). Has (with_prefix (take (suc n) text) (with_prefixes l text n)) (take (suc j) text)) (sym same) (with_there (take (suc n) text) (with_prefixes l text n))

-- a prefix of one of the texts that isn't empty and leaves so many bytes
pub record IsFront (left : ℕ) (texts : List (List ℕ)) (x : List ℕ) : Type 0 where
  pub text : List ℕ
  pub has : Has texts text
  pub front : IsTake text (length text - left) x

fold_only : (left : ℕ) (l : List (List ℕ)) (texts : List (List ℕ)) (x : List ℕ) → Has (fold (with_text left) l texts) x → Has l x ⊎ IsFront left texts x
fold_only left l [] x h = inl h
fold_only left l (t ∷ texts) x h = go (fold_only left (with_text left l t) texts x h)
  where
    here : Has l x ⊎ IsTake t (length t - left) x → Has l x ⊎ IsFront left (t ∷ texts) x
    here (inl i) = inl i
    here (inr f) = inr (record { text = t; has = inl refl; front = f })

    go : Has (with_text left l t) x ⊎ IsFront left texts x → Has l x ⊎ IsFront left (t ∷ texts) x
    go (inl i) = here (prefixes_only l t (length t - left) x i)
    go (inr f) = inr (record { text = f.text; has = inr f.has; front = f.front })

fold_keeps : (left : ℕ) (l : List (List ℕ)) (texts : List (List ℕ)) (x : List ℕ) → Has l x → Has (fold (with_text left) l texts) x
fold_keeps left l [] x h = h
fold_keeps left l (t ∷ texts) x h = fold_keeps left (with_text left l t) texts x (prefixes_keeps l t (length t - left) x h)

fold_there : (left : ℕ) (l : List (List ℕ)) (texts : List (List ℕ)) (text x : List ℕ) → Has texts text → IsTake text (length text - left) x → Has (fold (with_text left) l texts) x
fold_there left l [] text x h f = absurd h
fold_there left l (t ∷ texts) text x (inr h) f = fold_there left (with_text left l t) texts text x h f
fold_there left l (t ∷ texts) text x (inl e) f =
    let at : IsTake t (length t - left) x = subst (λ (z : List ℕ). IsTake z (length z - left) x) (sym e) f in
    fold_keeps left (with_text left l t) texts x
    (subst (λ (z : List ℕ). Has (with_prefixes l t (length t - left)) z) (sym at.is) (prefixes_there l t (length t - left) at.at at.below))

-- the list has the prefixes of texts
pub front_only : (left : ℕ) (texts : List (List ℕ)) (x : List ℕ) → Has (prefixes_by left texts) x → IsFront left texts x
front_only left texts x h = go (fold_only left [] texts x h)
  where
    go : Has {A = List ℕ} [] x ⊎ IsFront left texts x → IsFront left texts x
    go (inl i) = absurd i
    go (inr i) = i

pub front_there : (left : ℕ) (texts : List (List ℕ)) (x : List ℕ) → IsFront left texts x → Has (prefixes_by left texts) x
front_there left texts x f = fold_there left [] texts f.text x f.has f.front

-- the bytes of a key
pub bytes_has : (keys : List Key) (k : Key) → Has keys k → Has (key_bytes keys) k.bytes
bytes_has [] k h = h
bytes_has (l ∷ keys) k (inl e) = inl (ap (λ (x : Key). x.bytes) e)
bytes_has (l ∷ keys) k (inr h) = inr (bytes_has keys k h)

pub has_bytes : (keys : List Key) (t : List ℕ) → Has (key_bytes keys) t → (k : Key) × Has keys k × (k.bytes ≡ t)
has_bytes [] t h = absurd h
has_bytes (l ∷ keys) t (inl e) = (l, inl refl, e)
has_bytes (l ∷ keys) t (inr h) = (let r : (k : Key) × Has keys k × (k.bytes ≡ t) = has_bytes keys t h in (r.0, inr r.1, r.2))

-- a text is cut behind a proper prefix
take_cut : (n : ℕ) (l : List ℕ) → n < length l → (b : ℕ) × (more : List ℕ) × (l ≡ take n l ++ b ∷ more)
take_cut n [] h = absurd (omega arith)
take_cut zero (x ∷ l) h = (x, l, refl)
take_cut (suc n) (x ∷ l) h =
    let r : (b : ℕ) × (more : List ℕ) × (l ≡ take n l ++ b ∷ more) = take_cut n l (omega arith) in
    (r.0, r.1, ap (λ (z : List ℕ). x ∷ z) r.2)

inner_cut : (text x : List ℕ) → IsTake text (length text - 1) x → (b : ℕ) × (more : List ℕ) × (text ≡ x ++ b ∷ more)
inner_cut text x t =
    let r : (b : ℕ) × (more : List ℕ) × (text ≡ take (suc t.at) text ++ b ∷ more) = take_cut (suc t.at) text (omega (arith, t.below)) in
    (r.0, r.1, r.2 ∙ ap (λ (z : List ℕ). z ++ r.0 ∷ r.1) (sym t.is))

-- a front that isn't empty is one of the first prefixes
pub front_take : (left : ℕ) (text p more : List ℕ) (x : ℕ) → text ≡ (x ∷ p) ++ more → left ≤ length more → IsTake text (length text - left) (x ∷ p)
front_take left text p more x e h =
    let long : length text ≡ length (x ∷ p) + length more = ap length e ∙ length-append (x ∷ p) more in
    let front : take (suc (length p)) text ≡ x ∷ p = ap (take (suc (length p))) e ∙ take-append_seam (x ∷ p) more in
    record { at = length p; below = omega (arith, long); is = sym front }

-- the inner prefixes of a node are the proper prefixes of its keys
pub inner_only : (keys : List Key) (x : List ℕ) → Has (inner_of keys) x → IsInner keys x
inner_only keys x h =
    let f : IsFront 1 (key_bytes keys) x = front_only 1 (key_bytes keys) x h in
    let k : (k : Key) × Has keys k × (k.bytes ≡ f.text) = has_bytes keys f.text f.has in
    let c : (b : ℕ) × (more : List ℕ) × (f.text ≡ x ++ b ∷ more) = inner_cut f.text x f.front in
    (k.0, k.1, c.0, c.1, k.2 ∙ c.2)

not_nil : (p : List ℕ) (b : ℕ) → (x : ℕ) × (q : List ℕ) × (p ++ b ∷ [] ≡ x ∷ q)
not_nil [] b = (b, [], refl)
not_nil (x ∷ p) b = (x, p ++ b ∷ [], refl)

inner_there_at : (keys : List Key) (x : ℕ) (p : List ℕ) → IsInner keys (x ∷ p) → Has (inner_of keys) (x ∷ p)
inner_there_at keys x p i =
    front_there 1 (key_bytes keys) (x ∷ p)
    (record { text = i.0.bytes; has = bytes_has keys i.0 i.1; front = front_take 1 i.0.bytes p (i.2 ∷ i.3) x i.4 (omega arith) })

pub inner_there : (keys : List Key) (p : List ℕ) (b : ℕ) → IsInner keys (p ++ b ∷ []) → Has (inner_of keys) (p ++ b ∷ [])
inner_there keys p b i =
    let c : (x : ℕ) × (q : List ℕ) × (p ++ b ∷ [] ≡ x ∷ q) = not_nil p b in
    subst (Has (inner_of keys)) (sym c.2) (inner_there_at keys c.0 c.1 (subst (IsInner keys) c.2 i))
