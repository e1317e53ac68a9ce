use Rattle.std.proofs.Common.{◌<◌, length, arith, sym, eqb-true}
use Rattle.std.proofs.lemmas.Bool.{eqb-false}
use Rattle.std.proofs.lemmas.List.{nil_from_length}
use Rattle.pp_text.proofs.KeyLemmas.{none_read, one_more_read, all_read, shorter_behind, goes_on_all, no_key, goes_on_behind, goes_on_no_more}
use Rattle.pp_text.proofs.key.key_of.Goals as goal

pub loop-rest-init : goal.loop-rest-init
loop-rest-init c = record { read = none_read _ _ c.new-key.ensures.items; goes_on = goes_on_all _ _ c.new-key.ensures.items }

pub returns-in_default-clause-only : goal.returns-in_default-clause-only
returns-in_default-clause-only c key spells =
    let rest = c.loop-rest.rest.now in
    let not_empty = eqb-false _ _ (sym c.loop-rest-test.ensures) in
    let some : 0 < length rest = omega (arith, not_empty) in
    no_key c.args.inside.now rest c.loop-rest.key.items some c.loop-rest.invariant.goes_on c.in_default.ensures.only key spells

pub loop-rest-smaller : goal.loop-rest-smaller
loop-rest-smaller c = shorter_behind c.loop-rest.rest.now c.in-Some.byte c.in-Some.behind.now c.in-Some.ensures.found

pub loop-rest-preserved : goal.loop-rest-preserved
loop-rest-preserved c =
    let rest = c.loop-rest.rest.now in
    let not_empty = eqb-false _ _ (sym c.loop-rest-test.ensures) in
    let some : 0 < length rest = omega (arith, not_empty) in
    rw c.in_ok-push.ensures.items record {
      read = one_more_read c.args.inside.now rest c.loop-rest.key.items c.in-Some.byte c.in-Some.behind.now c.loop-rest.invariant.read c.in-Some.ensures.found;
      goes_on = goes_on_behind c.args.inside.now rest c.loop-rest.key.items c.in-Some.byte c.in-Some.behind.now some c.loop-rest.invariant.goes_on c.in-Some.ensures.only;
    }

pub returns-clause-found : goal.returns-clause-found
returns-clause-found c =
    let nothing = nil_from_length c.loop-rest.rest.now (eqb-true _ _ (sym c.loop-rest-test.ensures)) in
    all_read c.args.inside.now c.loop-rest.rest.now c.loop-rest.key.items c.loop-rest.invariant.read nothing

pub returns-clause-only : goal.returns-clause-only
returns-clause-only c key spells =
    let nothing = nil_from_length c.loop-rest.rest.now (eqb-true _ _ (sym c.loop-rest-test.ensures)) in
    goes_on_no_more c.args.inside.now c.loop-rest.rest.now c.loop-rest.key.items nothing c.loop-rest.invariant.goes_on key spells
