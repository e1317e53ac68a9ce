use Rattle.std.proofs.Common.{◌≡◌, ◌+◌, ◌<◌, ◌++◌, ◌∷◌, [], length, take, ap, sym, subst, ◌∙◌, arith}
use Rattle.std.proofs.lemmas.List.{length-take, take_more}
use Rattle.pp_graph.specs.steps.Places.{ArePlaces}
use Rattle.pp_graph.proofs.PlaceLemmas.{room-left}
use Rattle.pp_graph.proofs.places.SortPlaces.of.Goals as goal

pub add-requires : goal.add-requires
add-requires c =
    let inside : c.loop-call.call-index < length c.args.calls.now = omega arith in
    room-left c.loop-call.places (take c.loop-call.call-index c.args.calls.now) (omega (arith, inside, length-take c.loop-call.call-index c.args.calls.now, c.requires)) c.loop-call.invariant

pub loop-call-preserved : goal.loop-call-preserved
loop-call-preserved c =
    let calls = c.args.calls.now in
    let before = take c.loop-call.call-index calls in
    let inside : c.loop-call.call-index < length calls = omega arith in
    let more : take (c.loop-call.call-index + 1) calls ≡ before ++ c.call-item.result ∷ [] =
    take_more calls c.loop-call.call-index c.call-item.result inside ∙ ap (λ x. before ++ x ∷ []) (sym c.call-item.is) in
    subst (ArePlaces c.add.new.self) (sym more) (c.in_ok-add.ensures before c.loop-call.invariant)
