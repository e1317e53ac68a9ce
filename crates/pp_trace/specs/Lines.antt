-- The lines of a report, and their text.
use Rattle.std.specs.Prelude.{ℕ, List, [], ◌∷◌, ◌++◌, codes, decimal, flat_map, length, slice_get, unwrap_or, zip}
use Rattle.hex.specs.Hex.{encode_lower}
use Rattle.pp_trace.specs.Subject.{Subject}

-- a line, without the number of its connection
pub data Line : Type 0 where
  -- a host code was called
  CallLine : (host value at answer : ℕ) (values : List ℕ) → Line
  -- joined: a span was closed
  SpanLine : (span from : ℕ) (bytes : List ℕ) → Line
  -- raw: a piece, and the last piece of its span
  MoreLine : (span at : ℕ) (bytes : List ℕ) → Line
  LastLine : (span at : ℕ) (bytes : List ℕ) → Line
  -- the run paused, or failed
  PauseLine : (code at : ℕ) (reason : List ℕ) → Line
  ErrorLine : (code at : ℕ) (reason : List ℕ) → Line
  -- a piece was answered by this number, not 0
  StopLine : (answer at : ℕ) → Line
  -- the connection holds too much
  OverLine : (at : ℕ) → Line
  -- the finish was granted, or refused by this answer
  DoneLine : (at : ℕ) (values : List ℕ) → Line
  RefusedLine : (answer at : ℕ) (values : List ℕ) → Line
  -- where a run waits, or is held up at a pause with so many bytes unread
  WaitLine : (node : List ℕ) (at : ℕ) (values : List ℕ) → Line
  HeldLine : (node : List ℕ) (at unread : ℕ) (values : List ℕ) → Line
  -- joined: the bytes so far of a span that is open
  PartLine : (span from : ℕ) (bytes : List ℕ) → Line

-- the name at a place, or nothing where there is none
abbrev pub name_at : List (List ℕ) → ℕ → List ℕ
name_at names i = unwrap_or (slice_get names i) []

-- ` NUMBER`
abbrev pub number_text : ℕ → List ℕ
number_text n = codes " " ++ decimal n

-- ` @AT`
abbrev pub at_text : ℕ → List ℕ
at_text at = codes " @" ++ decimal at

-- ` +LEN HEX`, or ` +0`
abbrev pub bytes_text : List ℕ → List ℕ
bytes_text [] = codes " +0"
bytes_text (b ∷ bytes) = codes " +" ++ decimal (length (b ∷ bytes)) ++ codes " " ++ encode_lower (b ∷ bytes)

-- ` name=value` for each property
abbrev pub props_text : List (List ℕ) → List ℕ → List ℕ
props_text names values = flat_map (λ p. codes " " ++ p.0 ++ codes "=" ++ decimal p.1) (zip names values)

-- what a line says behind its connection
abbrev pub line_text : Subject → Line → List ℕ
line_text s (CallLine host value at answer values) =
    codes " call " ++ name_at s.hosts host ++ number_text value ++ at_text at ++ codes " =" ++ number_text answer ++ props_text s.props values
line_text s (SpanLine span from bytes) = codes " span " ++ name_at s.spans span ++ at_text from ++ bytes_text bytes
line_text s (MoreLine span at bytes) = codes " more " ++ name_at s.spans span ++ at_text at ++ bytes_text bytes
line_text s (LastLine span at bytes) = codes " last " ++ name_at s.spans span ++ at_text at ++ bytes_text bytes
line_text s (PauseLine code at reason) = codes " pause" ++ number_text code ++ at_text at ++ codes " " ++ reason
line_text s (ErrorLine code at reason) = codes " error" ++ number_text code ++ at_text at ++ codes " " ++ reason
line_text s (StopLine answer at) = codes " stop" ++ number_text answer ++ at_text at
line_text s (OverLine at) = codes " over" ++ at_text at
line_text s (DoneLine at values) = codes " done" ++ at_text at ++ props_text s.props values
line_text s (RefusedLine answer at values) = codes " refused" ++ number_text answer ++ at_text at ++ props_text s.props values
line_text s (WaitLine node at values) = codes " wait " ++ node ++ at_text at ++ props_text s.props values
line_text s (HeldLine node at unread values) =
    codes " held " ++ node ++ at_text at ++ codes " +" ++ decimal unread ++ props_text s.props values
line_text s (PartLine span from bytes) = codes " part " ++ name_at s.spans span ++ at_text from ++ bytes_text bytes

-- a line of a connection, with its LF
abbrev pub text : Subject → ℕ × Line → List ℕ
text s line = decimal line.0 ++ line_text s line.1 ++ 10 ∷ []
