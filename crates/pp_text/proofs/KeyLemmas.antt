-- A key that is read byte by byte.
use Rattle.std.proofs.Common.{◌≡◌, ℕ, ◌<◌, List, [], ◌∷◌, ◌++◌, length, map, refl, sym, ap, ◌∙◌, subst, arith, IsTrue, append_assoc, flat_map}
use Rattle.std.proofs.lemmas.Bool.{and_parts}
use Rattle.std.proofs.lemmas.List.{append-nil, length-append, map-append}
use Rattle.std.specs.List.{list_all}
use Rattle.pp_text.proofs.PushLemmas.{flat_map-push, list_all-push}
use Rattle.pp_text.specs.declared.key.Place.TheVariants as place
use Rattle.pp_text.specs.Keys.{Written, Raw, Escape, Hex, written_text, byte_of, is_key_byte, SpellsKey}
use Rattle.pp_text.specs.steps.Places.{BeginsByte}

-- these bytes are written in front of the rest
pub record HasRead (inside rest key : List ℕ) : Type 0 where
  pub written : List Written
  pub each : IsTrue (list_all is_key_byte written)
  pub spelled : inside ≡ flat_map written_text written ++ rest
  pub bytes : key ≡ map byte_of written

-- at the start none is
pub none_read : (inside key : List ℕ) → key ≡ [] → HasRead inside inside key
none_read inside key none = record { written = []; each = refl; spelled = refl; bytes = none }

-- one more byte is read
pub one_more_read : (inside rest key : List ℕ) (byte : ℕ) (behind : List ℕ) → HasRead inside rest key → BeginsByte place.Key rest byte behind → HasRead inside behind (key ++ byte ∷ [])
one_more_read inside rest key byte behind read begins = record {
  written = read.written ++ begins.written ∷ [];
  each = list_all-push is_key_byte read.written begins.written read.each begins.is;
  spelled = read.spelled ∙ ap (λ (z : List ℕ). flat_map written_text read.written ++ z) begins.spelled ∙ sym (flat_map-push written_text read.written begins.written behind);
  bytes = ap (λ (z : List ℕ). z ++ byte ∷ []) read.bytes
      ∙ ap (λ (b : ℕ). map byte_of read.written ++ b ∷ []) begins.means
      ∙ sym (map-append byte_of read.written (begins.written ∷ []));
}

-- where nothing is left, the key is read
pub all_read : (inside rest key : List ℕ) → HasRead inside rest key → rest ≡ [] → SpellsKey inside key
all_read inside rest key read none = record {
  written = read.written;
  each = read.each;
  spelled = read.spelled ∙ ap (λ (z : List ℕ). flat_map written_text read.written ++ z) none ∙ append-nil (flat_map written_text read.written);
  bytes = read.bytes;
}

-- a byte that is written takes text
pub some_text : (written : Written) → 0 < length (written_text written)
some_text (Raw byte) = omega arith
some_text (Escape character) = omega arith
some_text (Hex high low) = omega arith

pub shorter_behind : (rest : List ℕ) (byte : ℕ) (behind : List ℕ) → BeginsByte place.Key rest byte behind → length behind < length rest
shorter_behind rest byte behind begins =
    omega (arith, ap length begins.spelled, length-append (written_text begins.written) behind, some_text begins.written)

-- each key of the whole text goes on behind what is read with a key of the rest
abbrev pub GoesOnAs : List ℕ → List ℕ → List ℕ → Type 0
GoesOnAs inside rest key = (other : List ℕ) → SpellsKey inside other → (tail : List ℕ) × SpellsKey rest tail × (other ≡ key ++ tail)

pub goes_on_all : (inside key : List ℕ) → key ≡ [] → GoesOnAs inside inside key
goes_on_all inside key none other spells = (other, spells, sym (ap (λ (z : List ℕ). z ++ other) none))

-- the first byte of a key that is not empty
record FirstByte (rest tail : List ℕ) : Type 0 where
  byte : ℕ
  behind : List ℕ
  more : List ℕ
  begins : BeginsByte place.Key rest byte behind
  others : SpellsKey behind more
  tail_is : tail ≡ byte ∷ more

first_as : (rest tail : List ℕ) (written : List Written) → 0 < length rest → IsTrue (list_all is_key_byte written) → rest ≡ flat_map written_text written → tail ≡ map byte_of written → FirstByte rest tail
first_as rest tail [] some each spelled bytes = absurd (omega (arith, some, ap length spelled))
first_as rest tail (w ∷ written) some each spelled bytes =
    let parts = and_parts (is_key_byte w) (list_all is_key_byte written) each in
    record {
      byte = byte_of w;
      behind = flat_map written_text written;
      more = map byte_of written;
      begins = record { written = w; is = parts.0; spelled = spelled; means = refl };
      others = record { written = written; each = parts.1; spelled = refl; bytes = refl };
      tail_is = bytes;
    }

first_byte : (rest tail : List ℕ) → 0 < length rest → SpellsKey rest tail → FirstByte rest tail
first_byte rest tail some spells = first_as rest tail spells.written some spells.each spells.spelled spells.bytes

-- where no byte can be read, there is no key
pub no_key : (inside rest key : List ℕ) → 0 < length rest → GoesOnAs inside rest key → ((byte : ℕ) (behind : List ℕ) → BeginsByte place.Key rest byte behind → ⊥) →
    (other : List ℕ) → SpellsKey inside other → ⊥
no_key inside rest key some goes_on none other spells =
    let tail = goes_on other spells in
    let first = first_byte rest tail.0 some tail.1 in
    none first.byte first.behind first.begins

-- the byte that was read is the next of each key
pub goes_on_behind : (inside rest key : List ℕ) (byte : ℕ) (behind : List ℕ) → 0 < length rest → GoesOnAs inside rest key →
    ((b : ℕ) (r : List ℕ) → BeginsByte place.Key rest b r → (byte ≡ b) × (behind ≡ r)) → GoesOnAs inside behind (key ++ byte ∷ [])
goes_on_behind inside rest key byte behind some goes_on only other spells =
    let tail = goes_on other spells in
    let first = first_byte rest tail.0 some tail.1 in
    let agrees = only first.byte first.behind first.begins in (
      first.more,
      subst (λ (z : List ℕ). SpellsKey z first.more) (sym agrees.1) first.others,
      tail.2
          ∙ ap (λ (z : List ℕ). key ++ z) (first.tail_is ∙ ap (λ (b : ℕ). b ∷ first.more) (sym agrees.0))
          ∙ sym (append_assoc key (byte ∷ []) first.more),
    )

no_bytes : (tail : List ℕ) (written : List Written) → [] ≡ flat_map written_text written → tail ≡ map byte_of written → tail ≡ []
no_bytes tail [] spelled bytes = bytes
no_bytes tail (w ∷ written) spelled bytes =
    absurd (omega (arith, ap length spelled, length-append (written_text w) (flat_map written_text written), some_text w))

-- where nothing is left, each key of the whole text is what was read
pub goes_on_no_more : (inside rest key : List ℕ) → rest ≡ [] → GoesOnAs inside rest key → (other : List ℕ) → SpellsKey inside other → key ≡ other
goes_on_no_more inside rest key none goes_on other spells =
    let tail = goes_on other spells in
    let nothing : tail.0 ≡ [] = no_bytes tail.0 (tail.1).written (sym none ∙ (tail.1).spelled) (tail.1).bytes in
    sym (tail.2 ∙ ap (λ (z : List ℕ). key ++ z) nothing ∙ append-nil key)
