-- The field of one line.
use Rattle.std.proofs.Common.{◌≡◌, ℕ, ◌+◌, ◌-◌, ◌<◌, eqb, ltb, Bool, List, length, drop, Some, sym, ap, ◌∙◌, arith}
use Rattle.std.specs.List.{prefix_len, suffix_len, position, position_or_len}
use Rattle.std.proofs.lemmas.Bool.{ltb-true}
use Rattle.std.proofs.lemmas.Option.{cond_some}
use Rattle.pp_frame.specs.declared.parts.Part.{Part}
use Rattle.pp_frame.specs.declared.parts.Field.{Field}
use Rattle.pp_frame.specs.Bytes.{is_blank, colon}
use Rattle.pp_frame.specs.Fields.{trimmed, field_at, HasColon, shifted}

-- a part by its places
abbrev part : ℕ → ℕ → Part
part from to = record { from = from; to = to }

-- where the blanks in front and at the end were counted
pub trimmed_from_counts : (bytes : List ℕ) (from cut : ℕ) → from ≡ prefix_len is_blank bytes → cut ≡ suffix_len is_blank (drop from bytes) →
    part from (length bytes - cut) ≡ trimmed bytes
unfolding trimmed
trimmed_from_counts bytes from cut front back =
    ap (λ (n : ℕ). part from (length bytes - n)) back
    ∙ ap (λ (n : ℕ). part n (length bytes - suffix_len is_blank (drop n bytes))) front

-- the place of a byte that was found
pub place_found : (test : ℕ → Bool) (bytes : List ℕ) (k : ℕ) → position test bytes ≡ Some k → (position_or_len test bytes ≡ k) × (k < length bytes)
place_found test bytes k found =
    let parts = cond_some (ltb (position_or_len test bytes) (length bytes)) (position_or_len test bytes) k found in
    let less = ltb-true (position_or_len test bytes) (length bytes) parts.0 in
    (parts.1, omega (arith, parts.1, less))

-- the field with its colon at this place
pub field_from_colon : (line : List ℕ) (from k : ℕ) (value : Part) → position (λ b. eqb b colon) line ≡ Some k → value ≡ trimmed (drop (k + 1) line) →
    HasColon line × (◌≡◌ {A = Field} (record { name = part from (from + k); value = part (from + (k + 1) + value.from) (from + (k + 1) + value.to) }) (field_at from line))
unfolding field_at
field_from_colon line from k value found value_is =
    let place = place_found (λ b. eqb b colon) line k found in
    let fields : ℕ → Part → Field = λ n v. record { name = part from (from + n); value = shifted (from + (n + 1)) v } in
    (omega (arith, place.0, place.1), ap (fields k) value_is ∙ ap (λ (n : ℕ). fields n (trimmed (drop (n + 1) line))) (sym place.0))
