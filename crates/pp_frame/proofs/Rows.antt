-- Worked cuts of streams, which show that the definitions hold of something.
use Rattle.std.proofs.Common.{◌≡◌, ℕ, ◌<◌, true, not, eqb, List, [], ◌∷◌, ◌++◌, length, get_or, None, inl, inr, refl, arith, All, codes}
use Rattle.std.specs.List.{list_all}
use Rattle.std.proofs.lemmas.Bool.{cases_lt, not-true, eqb-false}
use Rattle.std.proofs.lemmas.List.{get_or_past}
use Rattle.std.proofs.lemmas.List.Elements.{All-cons}
use Rattle.std.proofs.lemmas.List.Sums.{AllPass-from_list_all}
use Rattle.pp_frame.specs.Bytes.{crlf, is_target_byte}
use Rattle.pp_frame.specs.Lines.{IsLine, HasNoEnd}
use Rattle.pp_frame.specs.Fields.{HasColon, fields_from, field_at, trimmed}
use Rattle.pp_frame.specs.Framing.{values_named, elements, length_in, ends_chunked, is_quoted}
use Rattle.pp_frame.specs.StartLine.{StartLine, Request, Response, IsStartLine, methods, start_line}
use Rattle.pp_frame.specs.Chunked.{SizeLine, ChunkedBody, IsSizeLine, IsChunk, IsChunked, spelled}
use Rattle.pp_frame.specs.Cut.{Message, Cut, closes, upgrades, IsLineByte}

-- bytes without a CR have no CRLF
no_cr : (bytes : List ℕ) → list_all (λ b. not (eqb b 13)) bytes ≡ true → HasNoEnd bytes
no_cr bytes pass k cr lf = elim (cases_lt k (length bytes)) [
  | inl inside ↦ eqb-false (get_or bytes k 0) 13 (not-true (eqb (get_or bytes k 0) 13) (AllPass-from_list_all (λ b. not (eqb b 13)) bytes pass k 0 inside)) cr
  | inr past ↦ omega (arith, cr, get_or_past bytes k 0 past)
]

-- a head without lines has lines of their kind
no_lines : (P : List ℕ → Type 0) → All P []
no_lines P k d within = absurd (omega arith)

-- `GET / HTTP/1.1` and a message of it
abbrev get : StartLine
get = Request (codes "GET") (codes "/") 1

abbrev get_message : List (List ℕ) → Message
get_message lines = record { blanks = 0; start = get; lines = lines; answer = 0; sent = []; body = [] }

is_get : IsStartLine get
unfolding methods is_target_byte
is_get = ((1, omega arith, refl), record { some = omega arith; visible = AllPass-from_list_all is_target_byte (codes "/") refl }, omega arith)

-- the bytes of one GET
abbrev get_bytes : List ℕ
get_bytes = codes "GET / HTTP/1.1" ++ crlf ++ crlf

-- no bytes are the front of a message
nothing_yet : Cut [] []
unfolding start_line
nothing_yet = record {
  major = 1;
  digit = omega arith;
  blanks = 0;
  start = get;
  lines = [];
  opened = record { line = is_get; each = no_lines IsLine; colons = no_lines HasColon };
  more = get_bytes;
  bytes_are = refl;
}

-- a GET, after which another message may come
goes_on_after_get : (rest : List ℕ) (messages : List Message) → Cut rest messages → Cut (get_bytes ++ rest) (get_message [] ∷ messages)
unfolding start_line values_named fields_from closes upgrades elements
goes_on_after_get rest messages behind =
    inr (rest, record { opened = record { line = is_get; each = no_lines IsLine; colons = no_lines HasColon }; body = (refl, refl) }, refl, inr (refl, behind))

-- a whole GET
whole_get : Cut get_bytes (get_message [] ∷ [])
whole_get = goes_on_after_get [] [] nothing_yet

-- two of them, one behind the other
two_gets : Cut (get_bytes ++ get_bytes) (get_message [] ∷ get_message [] ∷ [])
two_gets = goes_on_after_get get_bytes (get_message [] ∷ []) whole_get

-- a head of one line
one_line : (line : List ℕ) → 0 < length line → list_all (λ b. not (eqb b 13)) line ≡ true → All IsLine (line ∷ [])
one_line line some pass = All-cons IsLine line [] (record { some = some; no_end = no_cr line pass }) (no_lines IsLine)

one_colon : (line : List ℕ) → HasColon line → All HasColon (line ∷ [])
one_colon line has = All-cons HasColon line [] has (no_lines HasColon)

-- a request whose body of five bytes is cut off after three
abbrev five : List ℕ
five = codes "Content-Length: 5"

cut_off : Cut (codes "GET / HTTP/1.1" ++ crlf ++ five ++ crlf ++ crlf ++ codes "HEL") (record (get_message (five ∷ [])) { sent = codes "HEL"; body = codes "HEL" } ∷ [])
unfolding start_line values_named fields_from field_at trimmed length_in
cut_off = inl (record { opened = record { line = is_get; each = one_line five (omega arith) refl; colons = one_colon five (omega arith) }; body = (omega arith, refl) }, refl, refl)

-- a chunked request
abbrev chunked_line : List ℕ
chunked_line = codes "Transfer-Encoding: chunked"

abbrev five_line : SizeLine
five_line = record { digits = codes "5"; extension = None }

abbrev zero_line : SizeLine
zero_line = record { digits = codes "0"; extension = None }

abbrev hello : ChunkedBody
hello = record { chunks = record { line = five_line; content = codes "HELLO" } ∷ []; last = zero_line; fields = [] }

abbrev hello_bytes : List ℕ
hello_bytes = codes "5" ++ crlf ++ codes "HELLO" ++ crlf ++ codes "0" ++ crlf ++ crlf

five_fits : IsSizeLine five_line
five_fits = record { some = omega arith; digits = (omega arith, tt); small = omega arith; extension = tt }

zero_fits : IsSizeLine zero_line
zero_fits = record { some = omega arith; digits = (omega arith, tt); small = omega arith; extension = tt }

is_hello : IsChunked hello_bytes (codes "HELLO")
unfolding spelled
is_hello = record {
  whole = hello;
  fits = record {
    chunks = All-cons IsChunk (record { line = five_line; content = codes "HELLO" }) [] (record { line = five_fits; some = omega arith; long = refl }) (λ k d within. absurd (omega arith));
    last = zero_fits;
    zero_size = refl;
    fields = λ k d within. absurd (omega arith);
  };
  bytes_are = refl;
  body_is = refl;
}

whole_chunked : Cut (codes "GET / HTTP/1.1" ++ crlf ++ chunked_line ++ crlf ++ crlf ++ hello_bytes) (record (get_message (chunked_line ∷ [])) { sent = hello_bytes; body = codes "HELLO" } ∷ [])
unfolding start_line values_named fields_from field_at trimmed closes upgrades elements ends_chunked is_quoted
whole_chunked =
    inr ([], record { opened = record { line = is_get; each = one_line chunked_line (omega arith) refl; colons = one_colon chunked_line (omega arith) }; body = is_hello }, refl, inr (refl, nothing_yet))

-- a response until close
abbrev ok : StartLine
ok = Response 1 (codes "200") None

until_close : Cut (codes "HTTP/1.1 200" ++ crlf ++ crlf ++ codes "abc") (record { blanks = 0; start = ok; lines = []; answer = 0; sent = codes "abc"; body = codes "abc" } ∷ [])
unfolding start_line values_named fields_from
until_close = inl (
  record {
    opened = record { line = (omega arith, record { three = refl; each = (omega arith, (omega arith, (omega arith, tt))) }, tt); each = no_lines IsLine; colons = no_lines HasColon };
    body = refl;
  },
  refl,
  refl,
)

-- a message that closes, and a line end behind it
abbrev close_line : List ℕ
close_line = codes "Connection: close"

line_end : All IsLineByte crlf
line_end = All-cons IsLineByte 13 (10 ∷ []) refl (All-cons IsLineByte 10 [] refl (λ k d within. absurd (omega arith)))

closed : Cut (codes "GET / HTTP/1.1" ++ crlf ++ close_line ++ crlf ++ crlf ++ crlf) (get_message (close_line ∷ []) ∷ [])
unfolding start_line values_named fields_from field_at trimmed closes upgrades elements
closed = inr (crlf, record { opened = record { line = is_get; each = one_line close_line (omega arith) refl; colons = one_colon close_line (omega arith) }; body = (refl, refl) }, refl, inl (refl, line_end, refl))
