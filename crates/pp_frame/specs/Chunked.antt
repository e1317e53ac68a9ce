-- Chunked bodies. RFC 9112, section 7.1. Each byte of one is marked: whether it is data.
use Rattle.std.specs.Prelude.{◌≡◌, ℕ, ◌+◌, ◌<◌, ◌^◌, Bool, true, false, List, [], ◌∷◌, ◌++◌, length, take, map, filter, All, Option, None, Some}
use Rattle.std.specs.List.{AllPass, flat_map}
use Rattle.std.specs.Str.Parse.{AllDigits, digits_value}
use Rattle.pp_frame.specs.Bytes.{crlf, colon, semicolon, is_text_byte, is_token_byte}

-- A size line: the digits of its size, and the extension, if a semicolon follows them.
pub record SizeLine : Type 0 where
  pub digits : List ℕ
  pub extension : Option (List ℕ)

-- a semicolon and the extension, if there is one
abbrev pub extension_bytes : Option (List ℕ) → List ℕ
extension_bytes None = []
extension_bytes (Some extension) = semicolon ∷ extension

-- the bytes of a size line
abbrev pub size_line : SizeLine → List ℕ
size_line line = line.digits ++ (extension_bytes line.extension ++ crlf)

-- the number that the digits write
abbrev pub size_of : SizeLine → ℕ
size_of line = digits_value 16 line.digits

-- bytes that may stand behind the semicolon
abbrev pub IsExtension : Option (List ℕ) → Type 0
IsExtension None = Unit {0}
IsExtension (Some extension) = AllPass is_text_byte extension

-- one or more hexadecimal digits of a size below 2 ^ 64, and an extension
pub record IsSizeLine (line : SizeLine) : Type 0 where
  pub some : 0 < length line.digits
  pub digits : AllDigits 16 line.digits
  pub small : size_of line < 2 ^ 64
  pub extension : IsExtension line.extension

-- A chunk: its size line and its data.
pub record Chunk : Type 0 where
  pub line : SizeLine
  pub content : List ℕ

-- the data is as long as the size line says, and is not empty
pub record IsChunk (chunk : Chunk) : Type 0 where
  pub line : IsSizeLine chunk.line
  pub some : 0 < length chunk.content
  pub long : length chunk.content ≡ size_of chunk.line

-- A field line behind the last chunk: its name, and what follows the colon.
pub record FieldLine : Type 0 where
  pub name : List ℕ
  pub value : List ℕ

-- the bytes of a field line
abbrev pub field_line : FieldLine → List ℕ
field_line field = field.name ++ (colon ∷ (field.value ++ crlf))

-- the name is a token, and the value has text bytes alone
pub record IsFieldLine (field : FieldLine) : Type 0 where
  pub some : 0 < length field.name
  pub name : AllPass is_token_byte field.name
  pub value : AllPass is_text_byte field.value

-- A chunked body: chunks, a size line of size 0, and field lines.
pub record ChunkedBody : Type 0 where
  pub chunks : List Chunk
  pub last : SizeLine
  pub fields : List FieldLine

-- each part is of its kind
pub record IsChunkedBody (body : ChunkedBody) : Type 0 where
  pub chunks : All IsChunk body.chunks
  pub last : IsSizeLine body.last
  pub zero_size : size_of body.last ≡ 0
  pub fields : All IsFieldLine body.fields

-- bytes that are no data, and bytes that are
abbrev pub no_data : List ℕ → List (ℕ × Bool)
no_data bytes = map (λ b. (b, false)) bytes

abbrev pub all_data : List ℕ → List (ℕ × Bool)
all_data bytes = map (λ b. (b, true)) bytes

-- the bytes of a chunk
abbrev pub chunk_bytes : Chunk → List (ℕ × Bool)
chunk_bytes chunk = no_data (size_line chunk.line) ++ (all_data chunk.content ++ no_data crlf)

-- the bytes of a chunked body: its chunks, the last size line, the field lines and an empty line
unfoldable pub spelled : ChunkedBody → List (ℕ × Bool)
spelled body = flat_map chunk_bytes body.chunks ++ no_data (size_line body.last ++ (flat_map field_line body.fields ++ crlf))

-- marked bytes without their marks, and those that are data
abbrev pub unmarked : List (ℕ × Bool) → List ℕ
unmarked bytes = map (λ b. b.0) bytes

abbrev pub data_in : List (ℕ × Bool) → List ℕ
data_in bytes = map (λ b. b.0) (filter (λ b. b.1) bytes)

-- The bytes are a chunked body, all of them, with this data.
pub record IsChunked (bytes body : List ℕ) : Type 0 where
  pub whole : ChunkedBody
  pub fits : IsChunkedBody whole
  pub bytes_are : bytes ≡ unmarked (spelled whole)
  pub body_is : body ≡ data_in (spelled whole)

-- The bytes are a chunked body that is cut off. This data is among them.
pub record IsChunkedFront (bytes body : List ℕ) : Type 0 where
  pub whole : ChunkedBody
  pub fits : IsChunkedBody whole
  pub within : length bytes < length (spelled whole)
  pub bytes_are : bytes ≡ unmarked (take (length bytes) (spelled whole))
  pub body_is : body ≡ data_in (take (length bytes) (spelled whole))

-- The first wrong byte: the bytes before it are a chunked body that is cut off, and no chunked body begins with these
-- and the byte itself.
pub record IsFirstWrong (bytes : List ℕ) (offset : ℕ) : Type 0 where
  pub within : offset < length bytes
  pub so_far : List ℕ
  pub before : IsChunkedFront (take offset bytes) so_far
  pub none : (whole : ChunkedBody) → IsChunkedBody whole → take (offset + 1) bytes ≡ unmarked (take (offset + 1) (spelled whole)) → ⊥
