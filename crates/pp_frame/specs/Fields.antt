-- The fields of a head. RFC 9112, section 5.
use Rattle.std.specs.Prelude.{◌≡◌, ℕ, ◌+◌, ◌-◌, ◌<◌, ◌≤◌, ◌==◌, List, [], ◌∷◌, ◌++◌, length, drop, slice_range, All}
use Rattle.std.specs.List.{prefix_len, suffix_len, position_or_len}
use Rattle.pp_frame.specs.declared.parts.Part.{Part}
use Rattle.pp_frame.specs.declared.parts.Field.{Field}
use Rattle.pp_frame.specs.Bytes.{is_blank, colon}
use Rattle.pp_frame.specs.Lines.{IsHead, ended}

-- the place of the first colon of a line, or the line's length where it has none
abbrev pub colon_of : List ℕ → ℕ
colon_of line = position_or_len (λ b. b == colon) line

-- a line with a colon
abbrev pub HasColon : List ℕ → Type 0
HasColon line = colon_of line < length line

-- where the bytes stand without the blanks at both ends; at their end, where all are blanks
unfoldable pub trimmed : List ℕ → Part
trimmed bytes =
    let from = prefix_len is_blank bytes in
    record { from = from; to = length bytes - suffix_len is_blank (drop from bytes) }

-- a part, counted from so many bytes earlier
abbrev pub shifted : ℕ → Part → Part
shifted by part = record { from = by + part.from; to = by + part.to }

-- the field of a line that begins at this place: the name up to the first colon, and what follows that, trimmed
unfoldable pub field_at : ℕ → List ℕ → Field
field_at from line =
    let after = colon_of line + 1 in
    record {
      name = record { from = from; to = from + colon_of line };
      value = shifted (from + after) (trimmed (drop after line));
    }

-- the fields of lines that stand in a row from this place on, each with its CRLF
unfoldable pub fields_from : ℕ → List (List ℕ) → List Field
fields_from from [] = []
fields_from from (line ∷ lines) = field_at from line ∷ fields_from (from + length (ended line)) lines

-- the head has these fields: each of its lines has a colon, and they are the fields of its lines
pub record HasFields (head : List ℕ) (fields : List Field) : Type 0 where
  pub lines : List (List ℕ)
  pub rest : List ℕ
  pub is_head : IsHead head lines rest
  pub each : All HasColon lines
  pub fields_are : fields ≡ fields_from 0 lines

-- the head has an empty line, and of the lines before it this one, from 1, is the first without a colon
pub record LacksColonAt (head : List ℕ) (number : ℕ) : Type 0 where
  pub before : List (List ℕ)
  pub line : List ℕ
  pub after : List (List ℕ)
  pub rest : List ℕ
  pub is_head : IsHead head (before ++ (line ∷ after)) rest
  pub each : All HasColon before
  pub lacks : ¬ (HasColon line)
  pub counted : number ≡ length before + 1

-- the bytes of a part
abbrev pub bytes_in : List ℕ → Part → List ℕ
bytes_in head part = slice_range head part.from part.to

-- a part of a head
abbrev pub IsPartOf : List ℕ → Part → Type 0
IsPartOf head part = (part.from ≤ part.to) × (part.to ≤ length head)

-- a field whose name and value are parts of a head
abbrev pub IsFieldOf : List ℕ → Field → Type 0
IsFieldOf head field = IsPartOf head field.name × IsPartOf head field.value
