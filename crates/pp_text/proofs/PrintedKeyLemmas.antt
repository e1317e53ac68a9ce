-- Printed keys: what stands between the quotes spells the key, and is the inside of a token.
use Rattle.std.proofs.Common.{◌≡◌, ℕ, ◌/◌, ◌%◌, ◌<◌, List, [], ◌∷◌, ◌++◌, Bool, true, false, not, ◌&&◌, ◌==◌, map, flat_map, refl, ap₂, sym, ◌∙◌}
use Rattle.std.specs.Prelude.{All, if◌then◌else◌}
use Rattle.std.specs.List.{list_all}
use Rattle.std.proofs.lemmas.Bool.{false≢true, agree_below_at, and_parts, and_from, eqb-true}
use Rattle.std.proofs.lemmas.List.Elements.{All-head, All-tail}
use Rattle.pp_rules.specs.Names.{is_plain_byte}
use Rattle.pp_text.specs.Tokens.{is_printed, is_inside}
use Rattle.pp_text.specs.Keys.{Written, Raw, Hex, written_text, byte_of, is_key_byte, SpellsKey}
use Rattle.pp_text.specs.Printed.{hex_digit, printed_byte}

-- a byte as it is printed
abbrev written_by : Bool → ℕ → Written
written_by true b = Raw b
written_by false b = Hex (hex_digit (b / 16)) (hex_digit (b % 16))

abbrev written_of : ℕ → Written
written_of b = written_by (is_plain_byte b) b

text-by : (t : Bool) (b : ℕ) → (if t then b ∷ [] else 92 ∷ 120 ∷ hex_digit (b / 16) ∷ hex_digit (b % 16) ∷ []) ≡ written_text (written_by t b)
text-by true b = refl
text-by false b = refl

key-text : (bytes : List ℕ) → flat_map printed_byte bytes ≡ flat_map written_text (map written_of bytes)
key-text [] = refl
key-text (b ∷ bytes) = ap₂ ◌++◌ (text-by (is_plain_byte b) b) (key-text bytes)

-- it is a byte of a key, and says this byte
key_byte-of : (b : ℕ) → b < 256 → is_key_byte (written_of b) ≡ true
key_byte-of b h = agree_below_at (λ b. is_key_byte (written_of b)) (λ b. true) 256 b refl h

byte-of : (b : ℕ) → b < 256 → byte_of (written_of b) ≡ b
byte-of b h =
    eqb-true (byte_of (written_of b)) b (agree_below_at (λ b. byte_of (written_of b) == b) (λ b. true) 256 b refl h)

key_bytes-of : (bytes : List ℕ) → All (λ b. b < 256) bytes → list_all is_key_byte (map written_of bytes) ≡ true
key_bytes-of [] h = refl
key_bytes-of (b ∷ bytes) h =
    and_from (is_key_byte (written_of b)) (list_all is_key_byte (map written_of bytes))
    (key_byte-of b (All-head (λ b. b < 256) b bytes h))
    (key_bytes-of bytes (All-tail (λ b. b < 256) b bytes h))

bytes-of : (bytes : List ℕ) → All (λ b. b < 256) bytes → bytes ≡ map byte_of (map written_of bytes)
bytes-of [] h = refl
bytes-of (b ∷ bytes) h =
    ap₂ ◌∷◌ (sym (byte-of b (All-head (λ b. b < 256) b bytes h))) (bytes-of bytes (All-tail (λ b. b < 256) b bytes h))

pub printed-spells : (bytes : List ℕ) → All (λ b. b < 256) bytes → SpellsKey (flat_map printed_byte bytes) bytes
printed-spells bytes h = record {
  written = map written_of bytes;
  each = key_bytes-of bytes h;
  spelled = key-text bytes;
  bytes = bytes-of bytes h;
}

-- a byte that stands for itself changes nothing between quotes
pass : (p q : Bool) (f : Bool → Bool) → (p && not q) ≡ true → (p && f q) ≡ f false
pass true true f h = absurd (false≢true h)
pass true false f h = refl
pass false q f h = absurd (false≢true h)

plain-inside : (b : ℕ) (rest : List ℕ) → is_plain_byte b ≡ true → is_inside 34 false (b ∷ rest) ≡ is_inside 34 false rest
plain-inside b rest h = pass (is_printed b && not (b == 34)) (b == 92) (λ e. is_inside 34 e rest) h

pub reason-inside : (bytes : List ℕ) → list_all is_plain_byte bytes ≡ true → is_inside 34 false bytes ≡ true
reason-inside [] h = refl
reason-inside (b ∷ bytes) h =
    let parts = and_parts (is_plain_byte b) (list_all is_plain_byte bytes) h in
    plain-inside b bytes parts.0 ∙ reason-inside bytes parts.1

-- nor do the digits of a byte
high-plain : (b : ℕ) → b < 256 → is_plain_byte (hex_digit (b / 16)) ≡ true
high-plain b h = agree_below_at (λ b. is_plain_byte (hex_digit (b / 16))) (λ b. true) 256 b refl h

low-plain : (b : ℕ) → b < 256 → is_plain_byte (hex_digit (b % 16)) ≡ true
low-plain b h = agree_below_at (λ b. is_plain_byte (hex_digit (b % 16))) (λ b. true) 256 b refl h

inside-by : (t : Bool) (b : ℕ) (rest : List ℕ) → b < 256 → is_plain_byte b ≡ t → is_inside 34 false ((if t then b ∷ [] else 92 ∷ 120 ∷ hex_digit (b / 16) ∷ hex_digit (b % 16) ∷ []) ++ rest) ≡ is_inside 34 false rest
inside-by true b rest h e = plain-inside b rest e
inside-by false b rest h e =
    plain-inside (hex_digit (b / 16)) (hex_digit (b % 16) ∷ rest) (high-plain b h) ∙ plain-inside (hex_digit (b % 16)) rest (low-plain b h)

pub key-inside : (bytes : List ℕ) → All (λ b. b < 256) bytes → is_inside 34 false (flat_map printed_byte bytes) ≡ true
key-inside [] h = refl
key-inside (b ∷ bytes) h =
    inside-by (is_plain_byte b) b (flat_map printed_byte bytes) (All-head (λ b. b < 256) b bytes h) refl
    ∙ key-inside bytes (All-tail (λ b. b < 256) b bytes h)
