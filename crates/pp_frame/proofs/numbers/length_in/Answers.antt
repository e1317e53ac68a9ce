use Rattle.std.proofs.Common.{take_all, ap, ◌∙◌, arith, subst, length, eqb-true, sym}
use Rattle.std.proofs.lemmas.Bool.{eqb-false}
use Rattle.std.proofs.lemmas.Int.Digits.{digits_more, digits_value_more}
use Rattle.std.specs.Str.Parse.{AllDigits, digits_value}
use Rattle.pp_frame.proofs.NumberLemmas.{digits_stop, length_from_digits, no_length}
use Rattle.pp_frame.proofs.numbers.length_in.Goals as goal

pub returns-then-is_empty : goal.returns-then-is_empty
returns-then-is_empty c = no_length c.args.value.now (λ h. omega (arith, h.0, eqb-true (length c.args.value.now) 0 (sym c.if-is_empty.ensures)))

pub returns-in_err-number : goal.returns-in_err-number
returns-in_err-number c =
    let stop = digits_stop 10 c.args.value.now c.loop-byte.byte-index c.loop-byte.number (omega arith) (omega arith) c.loop-byte.invariant.number c.in_err-number.ensures in
    c.from_residual.ensures ∙ no_length c.args.value.now (λ h. stop (h.1, h.2))

pub loop-byte-preserved : goal.loop-byte-preserved
loop-byte-preserved c =
    let value = c.args.value.now in
    let at = c.loop-byte.byte-index in
    let next = c.in_ok-number.ensures in
    record {
      digits = digits_more 10 value at (omega arith) c.loop-byte.invariant.digits next.0.0;
      number = omega (arith, next.1, c.loop-byte.invariant.number, digits_value_more 10 value at (omega arith));
      small = omega (arith, next.0.1, next.1);
    }

pub returns : goal.returns
returns c =
    let all = take_all c.loop-byte.byte-index c.args.value.now (omega arith) in
    let number = c.loop-byte.invariant.number ∙ ap (digits_value 10) all in
    let some = eqb-false (length c.args.value.now) 0 (sym c.if-is_empty.ensures) in
    length_from_digits c.args.value.now c.loop-byte.number (omega (arith, some)) (subst (AllDigits 10) all c.loop-byte.invariant.digits) c.loop-byte.invariant.small number
