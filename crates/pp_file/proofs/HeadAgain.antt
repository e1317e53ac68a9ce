-- The file of a program is read again, whatever follows it.
use Rattle.std.proofs.Common.{◌≡◌, ℕ, ◌+◌, ◌-◌, ◌^◌, ◌<◌, ◌≤◌, inl, inr, List, [], ◌∷◌, ◌++◌, length, take, drop, Option, Some, None, Result, Ok, Err, refl, sym, ap, subst, ◌∙◌, length-append, arith}
use Rattle.std.specs.Prelude.{slice_get, slice_range}
use Rattle.std.specs.Int.{w32, to_be_bytes}
use Rattle.std.proofs.lemmas.List.{length-take, take-append-drop, take_at}
use Rattle.pp_program.specs.declared.program.Program.{Program}
use Rattle.pp_program.specs.FileLength.{finish_length, file_length}
use Rattle.pp_program.specs.Targets.{most_file_bytes}
use Rattle.pp_program.specs.Valid.{IsValid}
use Rattle.pp_file.specs.Fields.{Left}
use Rattle.pp_file.specs.Held.{IsHeld}
use Rattle.pp_file.specs.Spelling.{mark, version, spelled_parts, spelled}
use Rattle.pp_file.specs.Reading.{BeginWith, HasOther, IsFile, stated, least_file_bytes, IsMisstated, IsShort, IsWhole, all_at, judged}
use Rattle.pp_file.proofs.NumberLemmas.{wide32}
use Rattle.pp_file.proofs.FieldLemmas.{to_end}
use Rattle.pp_file.proofs.LengthLemmas.{length-parts, length-spelled}
use Rattle.pp_file.proofs.PlaceLemmas.{file-short}
use Rattle.pp_file.proofs.StatesAgain.{all_again}

-- what bytes are that begin with a file
pub record IsBegun (bytes : List ℕ) (p : Program) (len : ℕ) : Type 0 where
  pub whole : IsWhole bytes
  pub length_is : stated bytes ≡ len
  pub gives : judged bytes ≡ Ok p

finish_some : (finish : Option (ℕ × ℕ)) → 1 ≤ finish_length finish
finish_some None = omega arith
finish_some (Some rule) = omega arith

file_some : (p : Program) → 19 ≤ file_length p
file_some p = omega (arith, finish_some p.finish)

stated_again : (p : Program) (rest : List ℕ) → IsValid p → stated (spelled p ++ rest) ≡ file_length p
unfolding spelled
stated_again p rest valid = wide32.again (file_length p) (omega (arith, file-short p valid))

found_same : (m n : ℕ) → Some m ≡ Some n → m ≡ n
found_same m n e = cc

file_again : (p : Program) (rest : List ℕ) → IsFile (spelled p ++ rest)
unfolding spelled
file_again p rest = record { marked = refl; known = λ found other. other.1 (sym (found_same version found other.0)) }

whole_again : (p : Program) (rest : List ℕ) → IsValid p → IsWhole (spelled p ++ rest)
whole_again p rest valid =
    let says = stated_again p rest valid in
    let size : length (spelled p ++ rest) ≡ file_length p + length rest = omega (arith, length-append (spelled p) rest, length-spelled p) in
    record {
      file = file_again p rest;
      stated_well = λ (wrong : IsMisstated (spelled p ++ rest)). elim wrong.outside [
        | inl below ↦ absurd (omega (arith, says, file_some p, below))
        | inr above ↦ absurd (omega (arith, says, file-short p valid, above))
      ];
      there = λ (short : IsShort (spelled p ++ rest)). elim short [
        | inl none ↦ absurd (omega (arith, size, file_some p, none))
        | inr few ↦ absurd (omega (arith, size, says, few))
      ];
    }

-- what stands behind the head, as far as the file goes
parts_front : (p : Program) (rest : List ℕ) (n : ℕ) → n ≡ file_length p → slice_range (spelled p ++ rest) 9 n ≡ spelled_parts p
unfolding spelled
parts_front p rest n e = take_at (spelled_parts p) rest (n - 9) (omega (arith, length-parts p, e))

gives_again : (p : Program) (rest : List ℕ) → IsValid p → IsHeld p → judged (spelled p ++ rest) ≡ Ok p
gives_again p rest valid held =
    ap (λ (bytes : List ℕ). all_at (to_end (stated (spelled p ++ rest)) bytes)) (parts_front p rest (stated (spelled p ++ rest)) (stated_again p rest valid))
    ∙ all_again p (stated (spelled p ++ rest)) valid held

pub begun_again : (bytes : List ℕ) (p : Program) (len : ℕ) → IsHeld p → BeginWith bytes p len → IsBegun bytes p len
begun_again bytes p len held begun =
    let rest : List ℕ = drop len bytes in
    let valid = begun.front.valid in
    let same : spelled p ++ rest ≡ bytes = ap (λ (front : List ℕ). front ++ rest) (sym begun.front.bytes_are) ∙ take-append-drop len bytes in
    let size : file_length p ≡ len = omega (arith, length-spelled p, ap length begun.front.bytes_are, length-take len bytes, begun.within) in
    subst (λ (b : List ℕ). IsBegun b p len) same
    (record { whole = whole_again p rest valid; length_is = stated_again p rest valid ∙ size; gives = gives_again p rest valid held })
