use Rattle.std.proofs.Common.{take_all, ap, ◌∙◌, arith, subst}
use Rattle.std.proofs.lemmas.Int.Digits.{digits_more, digits_value_more}
use Rattle.std.specs.Str.Parse.{AllDigits, digits_value}
use Rattle.pp_bytes.proofs.NumberLemmas.{digits_stop}
use Rattle.pp_bytes.proofs.number.digits_number.Goals as goal

pub returns-in_err-number : goal.returns-in_err-number
returns-in_err-number c =
    rw c.from_residual.ensures (digits_stop c.args.digits.now c.loop-byte.byte-index c.loop-byte.number (omega arith) c.loop-byte.invariant.value c.in_err-number.ensures)

pub loop-byte-preserved : goal.loop-byte-preserved
loop-byte-preserved c =
    let digits = c.args.digits.now in
    let at = c.loop-byte.byte-index in
    let next = c.in_ok-number.ensures in
    record {
      digits = digits_more 10 digits at (omega arith) c.loop-byte.invariant.digits next.0.0;
      value = omega (arith, next.1, c.loop-byte.invariant.value, digits_value_more 10 digits at (omega arith));
      small = omega (arith, next.0.1, next.1);
    }

pub returns : goal.returns
returns c =
    let all = take_all c.loop-byte.byte-index c.args.digits.now (omega arith) in
    let value = c.loop-byte.invariant.value ∙ ap (digits_value 10) all in
    ((subst (AllDigits 10) all c.loop-byte.invariant.digits, omega (arith, value, c.loop-byte.invariant.small)), value)
