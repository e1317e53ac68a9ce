-- The cut of a stream into messages. RFC 9112, sections 2.2, 6.3, 8 and 9.3.
use Rattle.std.specs.Prelude.{◌≡◌, ℕ, ◌<◌, ◌⊎◌, Bool, ◌&&◌, ◌||◌, ◌==◌, not, true, false, List, [], ◌∷◌, ◌++◌, length, replicate, codes, All, IsTrue}
use Rattle.std.specs.List.{concat, flat_map, list_any}
use Rattle.std.specs.Str.{bytes_eq}
use Rattle.pp_frame.specs.declared.message.Framing.{Framing}
use Rattle.pp_frame.specs.declared.message.Framing.TheVariants as framing
use Rattle.pp_frame.specs.Bytes.{crlf, carriage_return, line_feed, folds_to}
use Rattle.pp_frame.specs.Lines.{IsLine, ended}
use Rattle.pp_frame.specs.Fields.{HasColon, fields_from}
use Rattle.pp_frame.specs.Framing.{values_named, all_elements, framing_of}
use Rattle.pp_frame.specs.StartLine.{StartLine, Request, Response, IsStartLine, start_line, start_of}
use Rattle.pp_frame.specs.Chunked.{IsChunked, IsChunkedFront}

-- A message: the empty lines in front of it, its start line, the lines of its head, what the host answered to the head,
-- the bytes of its body, and the body that they carry.
pub record Message : Type 0 where
  pub blanks : ℕ
  pub start : StartLine
  pub lines : List (List ℕ)
  pub answer : ℕ
  pub sent : List ℕ
  pub body : List ℕ

-- the bytes of a head with these lines
abbrev pub head_of : List (List ℕ) → List ℕ
head_of lines = flat_map ended lines ++ crlf

-- so many empty lines
abbrev pub empty_lines : ℕ → List ℕ
empty_lines n = concat (replicate n crlf)

-- empty lines, a start line with this digit before its point, and a head
abbrev pub opening : ℕ → ℕ → StartLine → List (List ℕ) → List ℕ
opening major blanks start lines = empty_lines blanks ++ (start_line major start ++ head_of lines)

-- the bytes of a message
abbrev pub message_bytes : Message → List ℕ
message_bytes m = opening 1 m.blanks m.start m.lines ++ m.sent

-- how the body of a message is framed
abbrev pub framing_in : Message → Framing
framing_in m = framing_of (start_of m.start) (head_of m.lines) (fields_from 0 m.lines) m.answer

-- the values of the message's fields of this name
abbrev pub values_in : List ℕ → Message → List (List ℕ)
values_in lower m = values_named lower (head_of m.lines) (fields_from 0 m.lines)

-- whether an element of its Connection fields is this one
abbrev pub connects : List ℕ → Message → Bool
connects lower m = list_any (folds_to lower) (all_elements (values_in (codes "connection") m))

-- whether the message has an Upgrade field
abbrev pub has_upgrade : Message → Bool
has_upgrade m = list_any (λ _. true) (values_in (codes "upgrade") m)

-- whether the start line alone makes a message upgrade: a CONNECT, or a response of status 101
abbrev pub upgrades_at_once : StartLine → Bool
upgrades_at_once (Request method target minor) = bytes_eq method (codes "CONNECT")
upgrades_at_once (Response minor digits reason) = bytes_eq digits (codes "101")

-- whether it is a request
abbrev pub is_request : StartLine → Bool
is_request (Request method target minor) = true
is_request (Response minor digits reason) = false

-- whether what follows the message is no more HTTP/1 at first
unfoldable pub upgrades : Message → Bool
upgrades m = m.answer == 2 || upgrades_at_once m.start || is_request m.start && has_upgrade m && connects (codes "upgrade") m

-- the digit behind the version's point
abbrev pub minor_of : StartLine → ℕ
minor_of (Request method target minor) = minor
minor_of (Response minor digits reason) = minor

-- whether no message may follow: it does not upgrade, and it says `close`, or its minor digit is 0 and it does not say
-- `keep-alive`
unfoldable pub closes : Message → Bool
closes m = not (upgrades m) && (connects (codes "close") m || minor_of m.start == 0 && not (connects (codes "keep-alive") m))

-- the start line and the lines of the head are of their kinds
pub record IsOpened (start : StartLine) (lines : List (List ℕ)) : Type 0 where
  pub line : IsStartLine start
  pub each : All IsLine lines
  pub colons : All HasColon lines

-- What a whole body is. A body until close is never whole.
abbrev pub IsWholeBody : Framing → List ℕ → List ℕ → Type 0
IsWholeBody framing.Nothing sent body = (sent ≡ []) × (body ≡ [])
IsWholeBody framing.Tunnel sent body = (sent ≡ []) × (body ≡ [])
IsWholeBody (framing.Length n) sent body = (length sent ≡ n) × (body ≡ sent)
IsWholeBody framing.Chunked sent body = IsChunked sent body
IsWholeBody framing.UntilClose sent body = ⊥
IsWholeBody (framing.Refused code) sent body = ⊥

-- What a body is that is cut off. A body until close may always go on.
abbrev pub IsCutBody : Framing → List ℕ → List ℕ → Type 0
IsCutBody (framing.Length n) sent body = (length sent < n) × (body ≡ sent)
IsCutBody framing.Chunked sent body = IsChunkedFront sent body
IsCutBody framing.UntilClose sent body = body ≡ sent
IsCutBody _ sent body = ⊥

-- a whole message
pub record IsWhole (m : Message) : Type 0 where
  pub opened : IsOpened m.start m.lines
  pub body : IsWholeBody (framing_in m) m.sent m.body

-- a message whose body is cut off
pub record IsCutOff (m : Message) : Type 0 where
  pub opened : IsOpened m.start m.lines
  pub body : IsCutBody (framing_in m) m.sent m.body

-- The bytes are a front of empty lines, a start line and a head, all of them included. The digit before the point of
-- the start line may be any.
pub record IsFrontOfOpening (bytes : List ℕ) : Type 0 where
  pub major : ℕ
  pub digit : major < 10
  pub blanks : ℕ
  pub start : StartLine
  pub lines : List (List ℕ)
  pub opened : IsOpened start lines
  pub more : List ℕ
  pub bytes_are : bytes ++ more ≡ opening major blanks start lines

-- a CR or an LF
abbrev pub IsLineByte : ℕ → Type 0
IsLineByte b = IsTrue (b == carriage_return || b == line_feed)

-- The bytes are these messages in turn, and then a front of an opening, or bytes of line ends behind a message that
-- closes. The last message may have its body cut off.
abbrev pub Cut : List ℕ → List Message → Type 0
Cut bytes [] = IsFrontOfOpening bytes
Cut bytes (m ∷ messages) =
    (IsCutOff m × (bytes ≡ message_bytes m) × (messages ≡ []))
    ⊎ ((rest : List ℕ) × IsWhole m × (bytes ≡ message_bytes m ++ rest)
    × ((IsTrue (closes m) × All IsLineByte rest × (messages ≡ [])) ⊎ (IsTrue (not (closes m)) × Cut rest messages)))
