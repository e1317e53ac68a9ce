-- What the steps through a chunked body know: at which place of it the next byte stands, and what may stand from there on.
use Rattle.std.specs.Prelude.{◌≡◌, ℕ, ◌+◌, ◌-◌, ◌*◌, ◌<◌, ◌^◌, ◌⊎◌, Bool, ◌&&◌, ◌==◌, nat_lt, true, false, if◌then◌else◌, List, [], ◌∷◌, ◌++◌, length, All, Option, None, Some}
use Rattle.std.specs.List.{flat_map, AllPass}
use Rattle.std.specs.Char.{digit_value}
use Rattle.std.specs.Str.Parse.{AllDigits, digits_value_after}
use Rattle.pp_frame.specs.declared.places.Place.{Place}
use Rattle.pp_frame.specs.declared.places.Place.TheVariants.{FirstDigit, Digits, Extension, SizeFeed, Data, DataReturn, DataFeed, FieldStart, Name, Value, ValueFeed, LastFeed, Whole}
use Rattle.pp_frame.specs.Bytes.{crlf, colon, semicolon, carriage_return, line_feed, is_text_byte, is_token_byte}
use Rattle.pp_frame.specs.Chunked.{ChunkedBody, IsChunkedBody, IsExtension, spelled, no_data, all_data, FieldLine, IsFieldLine, field_line, extension_bytes, unmarked, data_in}

-- whether the byte at a place is data
abbrev pub holds_data : Place → Bool
holds_data (Data left) = true
holds_data _ = false

-- whether the body is there to its end
abbrev pub is_whole : Place → Bool
is_whole Whole = true
is_whole _ = false

-- whether a byte is one more digit of a size of which so much is read
abbrev pub is_more : ℕ → ℕ → Bool
is_more size b = nat_lt (digit_value b) 16 && nat_lt (size * 16 + digit_value b) (2 ^ 64)

-- the place behind one more digit, or else another
abbrev pub digit_or : ℕ → ℕ → Option Place → Option Place
digit_or size b other = if is_more size b then Some (Digits (size * 16 + digit_value b)) else other

-- a place behind this byte, or else another
abbrev pub when_is : ℕ → ℕ → Place → Option Place → Option Place
when_is wanted b place other = if b == wanted then Some place else other

-- the place behind a size line
abbrev pub behind_size : ℕ → Place
behind_size size = if size == 0 then FieldStart else Data (size - 1)

-- the place behind a byte of data
abbrev pub behind_data : ℕ → Place
behind_data left = if left == 0 then DataReturn else Data (left - 1)

-- the place behind a byte, if the byte may stand at its place
unfoldable pub next : Place → ℕ → Option Place
next FirstDigit b = digit_or 0 b None
next (Digits size) b = digit_or size b (when_is carriage_return b (SizeFeed size) (when_is semicolon b (Extension size) None))
next (Extension size) b = if is_text_byte b then Some (Extension size) else when_is carriage_return b (SizeFeed size) None
next (SizeFeed size) b = when_is line_feed b (behind_size size) None
next (Data left) b = Some (behind_data left)
next DataReturn b = when_is carriage_return b DataFeed None
next DataFeed b = when_is line_feed b FirstDigit None
next FieldStart b = if is_token_byte b then Some Name else when_is carriage_return b LastFeed None
next Name b = if is_token_byte b then Some Name else when_is colon b Value None
next Value b = if is_text_byte b then Some Value else when_is carriage_return b ValueFeed None
next ValueFeed b = when_is line_feed b FieldStart None
next LastFeed b = when_is line_feed b Whole None
next Whole b = None

-- marked bytes
abbrev pub Marked : Type 0
Marked = List (ℕ × Bool)

-- this byte, which is no data, and then what the test says
abbrev pub Lit : ℕ → (Marked → Type 0) → Marked → Type 0
Lit b Then more = (tail : Marked) × (more ≡ (b, false) ∷ tail) × Then tail

-- bytes of a set, which are no data, and then what the test says
abbrev pub Run : (ℕ → Bool) → (Marked → Type 0) → Marked → Type 0
Run test Then more = (xs : List ℕ) × (tail : Marked) × AllPass test xs × (more ≡ no_data xs ++ tail) × Then tail

-- so many bytes of data, and then what the test says
abbrev pub Counted : ℕ → (Marked → Type 0) → Marked → Type 0
Counted count Then more = (xs : List ℕ) × (tail : Marked) × (length xs ≡ count) × (more ≡ all_data xs ++ tail) × Then tail

-- a CRLF, and then what the test says
abbrev pub LineEnd : (Marked → Type 0) → Marked → Type 0
LineEnd Then more = Lit carriage_return (Lit line_feed Then) more

-- nothing at all
abbrev pub Nothing : Marked → Type 0
Nothing more = more ≡ []

-- a whole chunked body
abbrev pub Body : Marked → Type 0
Body more = (body : ChunkedBody) × IsChunkedBody body × (more ≡ spelled body)

-- field lines and an empty line
abbrev pub Lines : Marked → Type 0
Lines more = (fields : List FieldLine) × All IsFieldLine fields × (more ≡ no_data (flat_map field_line fields ++ crlf))

-- what follows a size line: field lines behind size 0, and else so many bytes of data, a CRLF and a whole chunked body
abbrev pub BehindSize : ℕ → Marked → Type 0
BehindSize size more = ((size ≡ 0) × Lines more) ⊎ ((0 < size) × Counted size (LineEnd Body) more)

-- a size is below 2 ^ 64, where there are digits of it
abbrev pub IsFitting : List ℕ → ℕ → Type 0
IsFitting [] size = Unit {0}
IsFitting (digit ∷ digits) size = size < 2 ^ 64

-- what follows digits of a size of which so much is read
pub record BehindDigits (size : ℕ) (more : Marked) : Type 0 where
  pub digits : List ℕ
  pub extension : Option (List ℕ)
  pub tail : Marked
  pub each : AllDigits 16 digits
  pub small : IsFitting digits (digits_value_after 16 size digits)
  pub text : IsExtension extension
  pub bytes_are : more ≡ no_data (digits ++ (extension_bytes extension ++ crlf)) ++ tail
  pub behind : BehindSize (digits_value_after 16 size digits) tail

-- what may stand from a place on
abbrev pub Rest : Place → Marked → Type 0
Rest FirstDigit more = Body more
Rest (Digits size) more = BehindDigits size more
Rest (Extension size) more = Run is_text_byte (LineEnd (BehindSize size)) more
Rest (SizeFeed size) more = Lit line_feed (BehindSize size) more
Rest (Data left) more = Counted (left + 1) (LineEnd Body) more
Rest DataReturn more = LineEnd Body more
Rest DataFeed more = Lit line_feed Body more
Rest FieldStart more = Lines more
Rest Name more = Run is_token_byte (Lit colon (Run is_text_byte (LineEnd Lines))) more
Rest Value more = Run is_text_byte (LineEnd Lines) more
Rest ValueFeed more = Lit line_feed Lines more
Rest LastFeed more = Lit line_feed Nothing more
Rest Whole more = Nothing more

-- the bytes of a body with one more byte, if that is data
abbrev pub kept : Bool → ℕ → List ℕ → List ℕ
kept keep b body = if keep then body ++ b ∷ [] else body

-- The bytes were read up to this place: they are marked in one way, this data is among them, and just what may stand from
-- the place on makes them a whole chunked body.
pub record HasCome (bytes body : List ℕ) (place : Place) : Type 0 where
  pub marks : Marked
  pub bytes_are : unmarked marks ≡ bytes
  pub body_is : body ≡ data_in marks
  pub forth : (more : Marked) → Rest place more → Body (marks ++ more)
  pub only : (front more : Marked) → unmarked front ≡ bytes → Body (front ++ more) → (front ≡ marks) × Rest place more
