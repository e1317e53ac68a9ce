-- The bytes of this read stand behind those of the reads before it.
use Rattle.std.proofs.Common.{◌<◌, length, arith}
use Rattle.std.proofs.lemmas.Slice.{overwrites}
use Rattle.pp_outside.proofs.MovesLemmas.{Moves-then, Moves-then_nothing, IsMost-at_end}
use Rattle.pp_outside.proofs.reading.read_some.Goals as goal

pub loop-done-preserved : goal.loop-done-preserved
loop-done-preserved g c =
    record {
      within = grind (arith, overwrites);
      moved = Moves-then _ _ _ _ _ _ _ _ c.loop-done.invariant.within c.in_ok-count.ensures.bound c.loop-done.invariant.moved c.in_ok-count.ensures.moved;
      never_falls = omega (arith, c.read.ensures.never_falls, c.loop-done.invariant.never_falls);
      fits = λ _. c.read.ensures.fits;
    }

pub returns-then-count-eq0-clause-moved : goal.returns-then-count-eq0-clause-moved
returns-then-count-eq0-clause-moved g c =
    Moves-then_nothing _ _ _ _ _ _ _ _ c.loop-done.invariant.within c.in_ok-count.ensures.bound c.loop-done.invariant.moved c.in_ok-count.ensures.moved c.if-count-eq0.true

pub returns-then-count-eq0-clause-most : goal.returns-then-count-eq0-clause-most
returns-then-count-eq0-clause-most g c =
    let some_room : 0 < length c.read.new.into = grind (arith, overwrites) in
    IsMost-at_end _ _ _ _ _ (returns-then-count-eq0-clause-moved g c) (c.in_ok-count.ensures.end c.if-count-eq0.true some_room) (grind (arith, overwrites))
