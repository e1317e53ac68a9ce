-- The names of methods and of errors, by their numbers.
use Rattle.std.specs.Prelude.{ℕ, suc, List, [], ◌∷◌, Option, Some, None, Bool, ◌==◌, if◌then◌else◌, codes}
use Rattle.std.specs.List.{list_any}
use Rattle.pp_http.specs.Lines.{method_names}

-- these names, with the numbers from n on
abbrev pub number_from : ℕ → List (List ℕ) → List (ℕ × List ℕ)
number_from n [] = []
number_from n (name ∷ names) = (n, name) ∷ number_from (suc n) names

-- the methods with their numbers, which are those that the graph's keys of methods carry
abbrev pub methods : List (ℕ × List ℕ)
methods = number_from 0 method_names

-- the errors with their numbers
unfoldable pub errors : List (ℕ × List ℕ)
errors =
    (0, codes "OK") ∷ (3, codes "LF_EXPECTED") ∷ (4, codes "UNEXPECTED_CONTENT_LENGTH") ∷ (5, codes "CLOSED_CONNECTION") ∷
    (6, codes "INVALID_METHOD") ∷ (7, codes "INVALID_URL") ∷ (8, codes "INVALID_CONSTANT") ∷ (9, codes "INVALID_VERSION") ∷
    (10, codes "INVALID_HEADER_TOKEN") ∷ (11, codes "INVALID_CONTENT_LENGTH") ∷ (12, codes "INVALID_CHUNK_SIZE") ∷
    (13, codes "INVALID_STATUS") ∷ (14, codes "INVALID_EOF_STATE") ∷ (15, codes "INVALID_TRANSFER_ENCODING") ∷
    (16, codes "CB_MESSAGE_BEGIN") ∷ (17, codes "CB_HEADERS_COMPLETE") ∷ (18, codes "CB_MESSAGE_COMPLETE") ∷
    (19, codes "CB_CHUNK_HEADER") ∷ (20, codes "CB_CHUNK_COMPLETE") ∷ (21, codes "PAUSED") ∷ (22, codes "PAUSED_UPGRADE") ∷
    (25, codes "CR_EXPECTED") ∷ (26, codes "CB_URL_COMPLETE") ∷ (27, codes "CB_STATUS_COMPLETE") ∷
    (28, codes "CB_HEADER_FIELD_COMPLETE") ∷ (29, codes "CB_HEADER_VALUE_COMPLETE") ∷ []

-- the name of a number in a table
abbrev pub name_of : List (ℕ × List ℕ) → ℕ → Option (List ℕ)
name_of [] number = None
name_of (row ∷ rows) number = if row.0 == number then Some row.1 else name_of rows number

-- a table lists the number
abbrev pub is_listed : List (ℕ × List ℕ) → ℕ → Bool
is_listed rows number = list_any (λ row. row.0 == number) rows
