-- The values of one name, and whether the last of their elements is "chunked".
use Rattle.std.proofs.Common.{◌≡◌, inl, inr, ℕ, suc, ◌+◌, ◌-◌, ◌<◌, ◌≤◌, Bool, true, false, ◌||◌, eqb, ltb, List, [], ◌∷◌, length, get_or, take, drop, map, Option, Some, None, sym, ap, ◌∙◌, refl, arith}
use Rattle.std.specs.List.{filter, list_any, slice_split, slice_get, position, position_or_len, cons_option}
use Rattle.std.specs.Option.{is_some}
use Rattle.std.proofs.lemmas.Bool.{lt-ltb, ltb-false, cases_Bool, cond-true}
use Rattle.std.proofs.lemmas.List.{drop_more, drop_all}
use Rattle.std.proofs.lemmas.List.Sums.{fold-append, fails_before_first}
use Rattle.std.proofs.lemmas.List.Splits.{slice_split_none, slice_split_first}
use Rattle.pp_frame.specs.declared.parts.Field.{Field}
use Rattle.pp_frame.specs.Bytes.{folds_to, comma}
use Rattle.pp_frame.specs.Framing.{values_named, elements, without_blanks, all_elements, last_of, ends_chunked, is_quoted, chunked, is_named, transfer_encoding}
use Rattle.pp_frame.specs.steps.Codings.{last_is_chunked, after_part, after_value, after_field, quotes, value_if_named}
use Rattle.pp_frame.proofs.FieldLemmas.{place_found}

-- the values from one field on
pub values_named-cons : (name head : List ℕ) (field : Field) (fields : List Field) → values_named name head (field ∷ fields) ≡ cons_option (value_if_named name head field) (values_named name head fields)
unfolding values_named
values_named-cons name head field fields = elim (cases_Bool (is_named name head field)) [
  | inl passes ↦ rw passes refl
  | inr fails ↦ rw fails refl
]

pub values_at : (name head : List ℕ) (fields : List Field) (i : ℕ) (d : Field) (shown : Option (List ℕ)) → i < length fields → shown ≡ value_if_named name head (get_or fields i d) →
    values_named name head (drop i fields) ≡ cons_option shown (values_named name head (drop (i + 1) fields))
values_at name head fields i d shown within is =
    ap (values_named name head) (drop_more fields i d within)
    ∙ values_named-cons name head (get_or fields i d) (drop (i + 1) fields)
    ∙ ap (λ (o : Option (List ℕ)). cons_option o (values_named name head (drop (i + 1) fields))) (sym is)

-- behind all fields there are none
pub values_named-all : (name head : List ℕ) (fields : List Field) (i : ℕ) → length fields ≤ i → values_named name head (drop i fields) ≡ []
unfolding values_named
values_named-all name head fields i past = ap (values_named name head) (drop_all i fields past)

-- a second value is there where one stands behind the first
pub second_behind : (value : List ℕ) (values : List (List ℕ)) → is_some (slice_get values 0) ≡ ltb 1 (length (value ∷ values))
second_behind value [] = refl
second_behind value (second ∷ values) = sym (lt-ltb 1 (length (value ∷ second ∷ values)) (omega arith))

-- the last element by a fold
fold_last : (before : List ℕ) (texts : List (List ℕ)) → last_is_chunked (folds_to chunked before) texts ≡ folds_to chunked (get_or (before ∷ texts) (length texts) [])
fold_last before [] = refl
fold_last before (text ∷ texts) = fold_last text texts

pub ends_chunked_is : (values : List (List ℕ)) → ends_chunked values ≡ last_is_chunked false (all_elements values)
unfolding ends_chunked
ends_chunked_is values = by_elements (all_elements values)
  where
    by_elements : (texts : List (List ℕ)) → folds_to chunked (last_of texts) ≡ last_is_chunked false texts
    by_elements [] = refl
    by_elements (text ∷ texts) = ap (λ (n : ℕ). folds_to chunked (get_or (text ∷ texts) n [])) (let e : suc (length texts) - 1 ≡ length texts = omega arith in e) ∙ sym (fold_last text texts)

-- the elements of one value, and then those of the others
pub last_is_chunked-cons : (before : Bool) (value : List ℕ) (values : List (List ℕ)) → last_is_chunked before (all_elements (value ∷ values)) ≡ last_is_chunked (after_value before value) (all_elements values)
last_is_chunked-cons before value values = fold-append (λ _ text. folds_to chunked text) before (elements value) (all_elements values)

-- the parts between commas, one by one
abbrev kept : List (List ℕ) → List (List ℕ)
kept parts = filter (λ element. ltb 0 (length element)) (map without_blanks parts)

kept-cons : (before : Bool) (part : List ℕ) (parts : List (List ℕ)) → last_is_chunked before (kept (part ∷ parts)) ≡ last_is_chunked (after_part before part) (kept parts)
kept-cons before part parts = elim (cases_Bool (ltb 0 (length (without_blanks part)))) [
  | inl passes ↦ rw passes refl
  | inr fails ↦ rw fails refl
]

-- the part before a comma, and what follows the comma
pub after_value-more : (before : Bool) (value : List ℕ) (k : ℕ) → position (λ b. eqb b comma) value ≡ Some k → after_value before value ≡ after_value (after_part before (take k value)) (drop (k + 1) value)
unfolding elements
after_value-more before value k found =
    let place = place_found (λ b. eqb b comma) value k found in
    let within : position_or_len (λ b. eqb b comma) value < length value = omega (arith, place.0, place.1) in
    let parts : slice_split (λ b. eqb b comma) value ≡ take k value ∷ slice_split (λ b. eqb b comma) (drop (k + 1) value) =
    slice_split_first (λ b. eqb b comma) value 0 within ∙ ap (λ (n : ℕ). take n value ∷ slice_split (λ b. eqb b comma) (drop (n + 1) value)) place.0 in
    ap (λ (ps : List (List ℕ)). last_is_chunked before (kept ps)) parts ∙ kept-cons before (take k value) (slice_split (λ b. eqb b comma) (drop (k + 1) value))

-- a value without a comma is one part
pub after_value-last : (before : Bool) (value : List ℕ) → position (λ b. eqb b comma) value ≡ None → after_value before value ≡ after_part before value
unfolding elements
after_value-last before value none =
    let past : length value ≤ position_or_len (λ b. eqb b comma) value = ltb-false (position_or_len (λ b. eqb b comma) value) (length value) (test none) in
    let one : slice_split (λ b. eqb b comma) value ≡ value ∷ [] = slice_split_none (λ b. eqb b comma) value (λ i d within. fails_before_first (λ b. eqb b comma) value i d (omega arith)) in
    ap (λ (ps : List (List ℕ)). last_is_chunked before (kept ps)) one ∙ kept-cons before value []
  where
    test : position (λ b. eqb b comma) value ≡ None → ltb (position_or_len (λ b. eqb b comma) value) (length value) ≡ false
    test e = elim (cases_Bool (ltb (position_or_len (λ b. eqb b comma) value) (length value))) [
      | inl passes ↦ absurd (let some = sym (cond-true (ltb (position_or_len (λ b. eqb b comma) value) (length value)) (Some (position_or_len (λ b. eqb b comma) value)) None passes) ∙ e in (cc))
      | inr fails ↦ fails
    ]

-- the quotes from one field on
pub quoted-more : (head : List ℕ) (fields : List Field) (i : ℕ) (d : Field) → i < length fields →
    list_any is_quoted (values_named transfer_encoding head (drop i fields)) ≡ (quotes (value_if_named transfer_encoding head (get_or fields i d)) || list_any is_quoted (values_named transfer_encoding head (drop (i + 1) fields)))
quoted-more head fields i d within =
    ap (list_any is_quoted) (values_at transfer_encoding head fields i d (value_if_named transfer_encoding head (get_or fields i d)) within refl) ∙ onto (value_if_named transfer_encoding head (get_or fields i d)) (values_named transfer_encoding head (drop (i + 1) fields))
  where
    onto : (value : Option (List ℕ)) (values : List (List ℕ)) → list_any is_quoted (cons_option value values) ≡ (quotes value || list_any is_quoted values)
    onto None values = refl
    onto (Some value) values = refl

-- the codings from one field on
pub codings-more : (before : Bool) (head : List ℕ) (fields : List Field) (i : ℕ) (d : Field) → i < length fields →
    last_is_chunked before (all_elements (values_named transfer_encoding head (drop i fields)))
    ≡ last_is_chunked (after_field before (value_if_named transfer_encoding head (get_or fields i d))) (all_elements (values_named transfer_encoding head (drop (i + 1) fields)))
codings-more before head fields i d within =
    ap (λ (values : List (List ℕ)). last_is_chunked before (all_elements values)) (values_at transfer_encoding head fields i d (value_if_named transfer_encoding head (get_or fields i d)) within refl)
    ∙ onto (value_if_named transfer_encoding head (get_or fields i d)) (values_named transfer_encoding head (drop (i + 1) fields))
  where
    onto : (value : Option (List ℕ)) (values : List (List ℕ)) → last_is_chunked before (all_elements (cons_option value values)) ≡ last_is_chunked (after_field before value) (all_elements values)
    onto None values = refl
    onto (Some value) values = last_is_chunked-cons before value values

-- a quote in a field's value is one from there on
pub quoted_yes : (head : List ℕ) (fields : List Field) (i : ℕ) (d : Field) → i < length fields → true ≡ quotes (value_if_named transfer_encoding head (get_or fields i d)) →
    true ≡ list_any is_quoted (values_named transfer_encoding head (drop i fields))
quoted_yes head fields i d within has =
    ap (λ (b : Bool). b || list_any is_quoted (values_named transfer_encoding head (drop (i + 1) fields))) has ∙ sym (quoted-more head fields i d within)

-- without one there, it is as from the next field on
pub quoted_no : (head : List ℕ) (fields : List Field) (i : ℕ) (d : Field) → i < length fields → false ≡ quotes (value_if_named transfer_encoding head (get_or fields i d)) →
    list_any is_quoted (values_named transfer_encoding head (drop i fields)) ≡ list_any is_quoted (values_named transfer_encoding head (drop (i + 1) fields))
quoted_no head fields i d within none =
    quoted-more head fields i d within ∙ ap (λ (b : Bool). b || list_any is_quoted (values_named transfer_encoding head (drop (i + 1) fields))) (sym none)

-- after a field, it is as from the next field on
pub codings_at : (before last : Bool) (head : List ℕ) (fields : List Field) (i : ℕ) (d : Field) → i < length fields → last ≡ after_field before (value_if_named transfer_encoding head (get_or fields i d)) →
    last_is_chunked before (all_elements (values_named transfer_encoding head (drop i fields))) ≡ last_is_chunked last (all_elements (values_named transfer_encoding head (drop (i + 1) fields)))
codings_at before last head fields i d within is =
    codings-more before head fields i d within ∙ ap (λ (b : Bool). last_is_chunked b (all_elements (values_named transfer_encoding head (drop (i + 1) fields)))) (sym is)
