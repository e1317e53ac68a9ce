-- The bytes of this write stand behind those of the writes before it.
use Rattle.std.proofs.Common.{◌≤◌, length, take, drop, arith}
use Rattle.std.proofs.lemmas.List.{take_rest, length-drop}
use Rattle.pp_outside.specs.Sink.{Adds}
use Rattle.pp_outside.proofs.AddsLemmas.{Adds-then}
use Rattle.pp_outside.proofs.TakeLemmas.{take-add}
use Rattle.pp_outside.proofs.writing.write_whole.Goals as goal

pub loop-done-preserved : goal.loop-done-preserved
loop-done-preserved g c =
    let part = c.args.part.now in
    let done = c.loop-done.done in
    let n = c.in_ok-done.field-0 in
    let rest = take_rest part done in
    let bound : n ≤ length (drop done part) = rw rest at c.in_ok-done.ensures.bound in
    let added : Adds (g.K.Sink.written c.loop-done.sink) (g.K.Sink.written c.write.new.self) (take n (drop done part)) = rw rest at c.in_ok-done.ensures.added in
    record {
      within = omega (arith, length-drop done part, bound, c.loop-done.invariant.within);
      added = rw (take-add done n part) (Adds-then _ _ _ _ _ c.loop-done.invariant.added added);
      never_falls = omega (arith, c.write.ensures.never_falls, c.loop-done.invariant.never_falls);
      fits = λ _. c.write.ensures.fits;
    }
