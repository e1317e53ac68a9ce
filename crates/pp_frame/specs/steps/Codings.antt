-- What the steps through the codings of a head tell: whether the last element so far is "chunked".
use Rattle.std.specs.Prelude.{ℕ, Bool, false, nat_lt, if◌then◌else◌, List, length, Option, Some, None}
use Rattle.std.specs.List.{fold}
use Rattle.pp_frame.specs.declared.parts.Field.{Field}
use Rattle.pp_frame.specs.Bytes.{folds_to}
use Rattle.pp_frame.specs.Fields.{bytes_in}
use Rattle.pp_frame.specs.Framing.{chunked, without_blanks, elements, is_named, is_quoted}

-- after the elements, if it was so before them
abbrev pub last_is_chunked : Bool → List (List ℕ) → Bool
last_is_chunked before texts = fold (λ _ text. folds_to chunked text) before texts

-- after the bytes between two commas
abbrev pub after_part : Bool → List ℕ → Bool
after_part before part = if nat_lt 0 (length (without_blanks part)) then folds_to chunked (without_blanks part) else before

-- after the elements of a value
abbrev pub after_value : Bool → List ℕ → Bool
after_value before value = last_is_chunked before (elements value)

-- a field's value, if the field has this name
abbrev pub value_if_named : List ℕ → List ℕ → Field → Option (List ℕ)
value_if_named lower head field = if is_named lower head field then Some (bytes_in head field.value) else None

-- after a field's value, which counts if there is one
abbrev pub after_field : Bool → Option (List ℕ) → Bool
after_field before None = before
after_field before (Some value) = after_value before value

-- whether a value, if there is one, has a double quote
abbrev pub quotes : Option (List ℕ) → Bool
quotes None = false
quotes (Some value) = is_quoted value
