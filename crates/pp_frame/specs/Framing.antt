-- How a message's body is framed. RFC 9112, section 6.3.
use Rattle.std.specs.Prelude.{ℕ, ◌-◌, Bool, ◌&&◌, ◌||◌, ◌==◌, ◌^◌, nat_lt, if◌then◌else◌, List, [], ◌∷◌, length, map, filter, codes, Option, None, Some, slice_index_or}
use Rattle.std.specs.List.{slice_split, flat_map, list_any, list_all}
use Rattle.std.specs.Char.{digit_value}
use Rattle.std.specs.Str.Parse.{digits_value}
use Rattle.pp_frame.specs.declared.parts.Field.{Field}
use Rattle.pp_frame.specs.declared.message.Start.{Start}
use Rattle.pp_frame.specs.declared.message.Framing.{Framing}
use Rattle.pp_frame.specs.declared.message.Framing.TheVariants.{Nothing, Tunnel, Length, Chunked, UntilClose, Refused}
use Rattle.pp_frame.specs.Bytes.{comma, folds_to, in_run}
use Rattle.pp_frame.specs.Fields.{trimmed, bytes_in}

-- "content-length"
abbrev pub content_length : List ℕ
content_length = codes "content-length"

-- "transfer-encoding"
abbrev pub transfer_encoding : List ℕ
transfer_encoding = codes "transfer-encoding"

-- "chunked"
abbrev pub chunked : List ℕ
chunked = codes "chunked"

-- whether a field's name folds to this one
abbrev pub is_named : List ℕ → List ℕ → Field → Bool
is_named lower head field = folds_to lower (bytes_in head field.name)

-- the values of the fields of this name, in order
unfoldable pub values_named : List ℕ → List ℕ → List Field → List (List ℕ)
values_named lower head fields = map (λ field. bytes_in head field.value) (filter (is_named lower head) fields)

-- the bytes without the blanks at both ends
abbrev pub without_blanks : List ℕ → List ℕ
without_blanks bytes = bytes_in bytes (trimmed bytes)

-- the elements of a value: what stands between its commas, trimmed, without those that are then empty
unfoldable pub elements : List ℕ → List (List ℕ)
elements value = filter (λ element. nat_lt 0 (length element)) (map without_blanks (slice_split (λ b. b == comma) value))

-- the elements of all values
abbrev pub all_elements : List (List ℕ) → List (List ℕ)
all_elements values = flat_map elements values

-- the last of the texts, or an empty one where there are none
abbrev pub last_of : List (List ℕ) → List ℕ
last_of texts = slice_index_or texts (length texts - 1) []

-- whether the last element of all values is "chunked"
unfoldable pub ends_chunked : List (List ℕ) → Bool
ends_chunked values = folds_to chunked (last_of (all_elements values))

-- whether a double quote stands in a value
unfoldable pub is_quoted : List ℕ → Bool
is_quoted value = list_any (λ b. b == 34) value

-- the number that a value writes: one or more digits, and below 2 ^ 64
unfoldable pub length_in : List ℕ → Option ℕ
length_in value =
    if nat_lt 0 (length value) && list_all (λ b. nat_lt (digit_value b) 10) value && nat_lt (digits_value 10 value) (2 ^ 64)
    then Some (digits_value 10 value)
    else None

-- a length, and error 11 without one
abbrev pub framed_by : Option ℕ → Framing
framed_by None = Refused 11
framed_by (Some n) = Length n

-- a response that never has a body: status 100 to 199, 204 or 304
abbrev pub is_bare : Start → Bool
is_bare start = start.response && (in_run 100 199 start.status || start.status == 204 || start.status == 304)

-- a body whose head has Transfer-Encoding fields of these values: error 15 below minor 1 and with a quote; chunked
-- where the last coding is; else all the rest of a response, and error 15 for a request
abbrev pub coded : Start → List (List ℕ) → Framing
coded start codings =
    if start.minor == 0 || list_any is_quoted codings then Refused 15
    else (if ends_chunked codings then Chunked
    else (if start.response then UntilClose else Refused 15))

-- a body whose head has neither field: all the rest of a response, and none for a request
abbrev pub unstated : Start → Framing
unstated start = if start.response then UntilClose else Length 0

-- a body by the values of the Content-Length and of the Transfer-Encoding fields: error 4 for two lengths, and for a
-- length beside a coding
abbrev pub stated : Start → List (List ℕ) → List (List ℕ) → Framing
stated start [] [] = unstated start
stated start [] (coding ∷ codings) = coded start (coding ∷ codings)
stated start (value ∷ []) [] = framed_by (length_in value)
stated start (value ∷ []) (coding ∷ codings) = Refused 4
stated start (value ∷ second ∷ values) codings = Refused 4

-- the framing of a message: by the host's answer and by the status before anything else
abbrev pub framing_of : Start → List ℕ → List Field → ℕ → Framing
framing_of start head fields answer =
    if answer == 2 then Tunnel
    else (if answer == 1 || is_bare start then Nothing
    else stated start (values_named content_length head fields) (values_named transfer_encoding head fields))
