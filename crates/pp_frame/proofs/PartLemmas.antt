-- The names and the values of a head's fields lie in it.
use Rattle.std.proofs.Common.{◌≡◌, ℕ, ◌+◌, ◌-◌, ◌≤◌, List, [], ◌∷◌, ◌++◌, length, drop, ap, sym, subst, arith, length-append}
use Rattle.std.specs.Prelude.{All, Result, Ok, Err, IfOk}
use Rattle.std.specs.List.{flat_map, prefix_len, suffix_len}
use Rattle.std.proofs.lemmas.List.{length-drop}
use Rattle.std.proofs.lemmas.List.Elements.{All-head, All-tail, All-cons}
use Rattle.std.proofs.lemmas.List.Sums.{prefix_len-le-length, suffix_len-le-length}
use Rattle.pp_frame.specs.declared.parts.Part.{Part}
use Rattle.pp_frame.specs.declared.parts.Field.{Field}
use Rattle.pp_frame.specs.declared.parts.HeadFault.{HeadFault}
use Rattle.pp_frame.specs.Bytes.{is_blank, crlf}
use Rattle.pp_frame.specs.Lines.{ended}
use Rattle.pp_frame.specs.Fields.{HasColon, HasFields, IsFieldOf, IsPartOf, colon_of, field_at, fields_from, shifted, trimmed}

-- bytes without the blanks at their ends stand within them
trimmed-part : (bytes : List ℕ) → IsPartOf bytes (trimmed bytes)
unfolding trimmed
trimmed-part bytes =
    let from = prefix_len is_blank bytes in
    let cut = suffix_len-le-length is_blank (drop from bytes) in
    (omega (arith, prefix_len-le-length is_blank bytes, cut, length-drop from bytes), omega arith)

-- the field of a line that ends within the head
field_at-part : (head : List ℕ) (from : ℕ) (line : List ℕ) → HasColon line → from + length (ended line) ≤ length head → IsFieldOf head (field_at from line)
unfolding field_at
field_at-part head from line colon fits =
    let after = colon_of line + 1 in
    let value = trimmed-part (drop after line) in
    let left = length-drop after line in
    let long = length-append line crlf in
    ((omega arith, omega (arith, colon, fits, long)), (omega (arith, value.0), omega (arith, value.1, left, colon, fits, long)))

-- the fields of lines that end within it
fields_from-parts : (head : List ℕ) (from : ℕ) (lines : List (List ℕ)) → All HasColon lines → from + length (flat_map ended lines) ≤ length head → All (IsFieldOf head) (fields_from from lines)
unfolding fields_from
fields_from-parts head from [] each fits =
    let none : All (IsFieldOf head) [] = λ k d h. absurd (omega arith) in
    none
fields_from-parts head from (line ∷ lines) each fits =
    let long = length-append (ended line) (flat_map ended lines) in
    All-cons (IsFieldOf head) (field_at from line) (fields_from (from + length (ended line)) lines)
    (field_at-part head from line (All-head HasColon line lines each) (omega (arith, fits, long)))
    (fields_from-parts head (from + length (ended line)) lines (All-tail HasColon line lines each) (omega (arith, fits, long)))

-- so those of a head lie in it
pub fields-parts : (head : List ℕ) (fields : List Field) → HasFields head fields → All (IsFieldOf head) fields
fields-parts head fields has =
    let long = ap length has.is_head.bytes_are in
    let split = length-append (flat_map ended has.lines) (crlf ++ has.rest) in
    subst (All (IsFieldOf head)) (sym has.fields_are) (fields_from-parts head 0 has.lines has.each (omega (arith, long, split)))

pub told_parts : {V : Type 0} (head : List ℕ) (items : V → List Field) (result : Result V HeadFault) → IfOk result (λ v. HasFields head (items v)) → IfOk result (λ v. All (IsFieldOf head) (items v))
told_parts head items (Ok found) has = fields-parts head (items found) has
told_parts head items (Err fault) has = tt
