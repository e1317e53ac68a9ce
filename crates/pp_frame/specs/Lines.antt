-- The lines of a head. RFC 9112, section 2.1.
use Rattle.std.specs.Prelude.{◌≡◌, ◌≢◌, ℕ, ◌+◌, ◌<◌, List, ◌++◌, length, slice_index, All}
use Rattle.std.specs.List.{flat_map}
use Rattle.pp_frame.specs.Bytes.{carriage_return, line_feed, crlf}

-- no CR that an LF follows stands in the bytes
abbrev pub HasNoEnd : List ℕ → Type 0
HasNoEnd bytes = (k : ℕ) → slice_index bytes k ≡ carriage_return → slice_index bytes (k + 1) ≢ line_feed

-- a line that is not empty, without its CRLF
pub record IsLine (line : List ℕ) : Type 0 where
  pub some : 0 < length line
  pub no_end : HasNoEnd line

-- a line and its CRLF
abbrev pub ended : List ℕ → List ℕ
ended line = line ++ crlf

-- the bytes begin with these lines, an empty line, and then come the rest
pub record IsHead (bytes : List ℕ) (lines : List (List ℕ)) (rest : List ℕ) : Type 0 where
  pub each : All IsLine lines
  pub bytes_are : bytes ≡ flat_map ended lines ++ (crlf ++ rest)

-- an empty line stands among the lines of the bytes
abbrev pub HasEmptyLine : List ℕ → Type 0
HasEmptyLine bytes = (lines : List (List ℕ)) × (rest : List ℕ) × IsHead bytes lines rest
