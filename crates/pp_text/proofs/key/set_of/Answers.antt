use Rattle.std.proofs.Common.{◌<◌, length, arith, sym, eqb-true}
use Rattle.std.proofs.lemmas.Bool.{eqb-false}
use Rattle.std.proofs.lemmas.List.{nil_from_length}
use Rattle.pp_text.proofs.SpelledSetLemmas.{no_items_read, one_more_item, set_read, item_shorter, all_go_on, no_set, all_go_on_behind, same_set, no_empty_set}
use Rattle.pp_text.proofs.key.set_of.Goals as goal

pub returns-then-is_empty-clause-only : goal.returns-then-is_empty-clause-only
returns-then-is_empty-clause-only c bytes spells =
    no_empty_set c.args.inside.now bytes (nil_from_length c.args.inside.now (eqb-true _ _ (sym c.if-is_empty.ensures))) spells

pub loop-rest-init : goal.loop-rest-init
loop-rest-init c = rw c.new-set.ensures record { read = no_items_read c.args.inside.now; go_on = all_go_on c.args.inside.now }

pub returns-in_err-first-clause-only : goal.returns-in_err-first-clause-only
returns-in_err-first-clause-only c bytes spells =
    let rest = c.loop-rest.rest.now in
    let not_empty = eqb-false _ _ (sym c.loop-rest-test.ensures) in
    let some : 0 < length rest = omega (arith, not_empty) in
    absurd (no_set c.args.inside.now rest c.loop-rest.set some c.loop-rest.invariant.go_on c.in_err-first.ensures.only bytes spells)

pub loop-rest-smaller : goal.loop-rest-smaller
loop-rest-smaller c = item_shorter c.loop-rest.rest.now c.in_ok-first.first c.in_ok-first.last c.in_ok-first.behind.now c.in_ok-first.ensures.found

pub loop-rest-preserved : goal.loop-rest-preserved
loop-rest-preserved c =
    let rest = c.loop-rest.rest.now in
    let not_empty = eqb-false _ _ (sym c.loop-rest-test.ensures) in
    let some : 0 < length rest = omega (arith, not_empty) in
    record {
      read = one_more_item c.args.inside.now rest c.loop-rest.set c.add_range.new.bytes c.in_ok-first.first c.in_ok-first.last c.in_ok-first.behind.now c.loop-rest.invariant.read c.in_ok-first.ensures.found c.add_range.ensures;
      go_on = all_go_on_behind c.args.inside.now rest c.loop-rest.set c.add_range.new.bytes c.in_ok-first.first c.in_ok-first.last c.in_ok-first.behind.now some c.loop-rest.invariant.go_on c.in_ok-first.ensures.only c.add_range.ensures;
    }

pub returns-clause-found : goal.returns-clause-found
returns-clause-found c =
    let nothing = nil_from_length c.loop-rest.rest.now (eqb-true _ _ (sym c.loop-rest-test.ensures)) in
    let not_empty = eqb-false _ _ (sym c.if-is_empty.ensures) in
    let some : 0 < length c.args.inside.now = omega (arith, not_empty) in
    set_read c.args.inside.now c.loop-rest.rest.now c.loop-rest.set c.loop-rest.invariant.read some nothing

pub returns-clause-only : goal.returns-clause-only
returns-clause-only c bytes spells =
    let nothing = nil_from_length c.loop-rest.rest.now (eqb-true _ _ (sym c.loop-rest-test.ensures)) in
    same_set c.args.inside.now c.loop-rest.rest.now c.loop-rest.set nothing c.loop-rest.invariant.go_on bytes spells
