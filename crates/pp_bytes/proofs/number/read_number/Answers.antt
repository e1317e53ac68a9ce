use Rattle.std.proofs.Common.{arith, subst, sym, refl, eqb-true}
use Rattle.std.proofs.lemmas.Bool.{iff_false, eqb-false}
use Rattle.std.proofs.lemmas.List.{nil_from_length}
use Rattle.pp_bytes.specs.Number.{IsNoNumber}
use Rattle.pp_bytes.proofs.NumberLemmas.{no_number_empty, no_number_zero, read_from_digits}
use Rattle.pp_bytes.proofs.number.read_number.Goals as goal
use Rattle.pp_bytes.proofs.number.read_number.Goals.{then-is_empty-via-then-is_empty, then-is_empty-via-else-is_empty+then-has_leading_zero}

pub returns-then-is_empty-clause-none : goal.returns-then-is_empty-clause-none
returns-then-is_empty-clause-none c = elim c.then-is_empty.branch [
  | then-is_empty-via-then-is_empty w ↦
      subst IsNoNumber (sym (nil_from_length c.args.bytes.now (eqb-true _ _ (sym w.if-is_empty.ensures)))) no_number_empty
  | then-is_empty-via-else-is_empty+then-has_leading_zero w ↦
      let lead = w.if-has_leading_zero.ensures.0 refl in
      no_number_zero c.args.bytes.now lead.0 lead.1
]

pub returns-clause-some : goal.returns-clause-some
returns-clause-some c =
    let not_empty = eqb-false _ _ (sym c.if-is_empty.ensures) in
    (read_from_digits c.args.bytes.now c.digits_number.result (omega (arith, not_empty)) (iff_false c.has_leading_zero.ensures c.if-has_leading_zero.false) c.digits_number.ensures).0

pub returns-clause-none : goal.returns-clause-none
returns-clause-none c =
    let not_empty = eqb-false _ _ (sym c.if-is_empty.ensures) in
    (read_from_digits c.args.bytes.now c.digits_number.result (omega (arith, not_empty)) (iff_false c.has_leading_zero.ensures c.if-has_leading_zero.false) c.digits_number.ensures).1
