use Rattle.std.proofs.Common.{◌≡◌, take, sym, arith}
use Rattle.std.proofs.lemmas.List.{take_all}
use Rattle.std.proofs.lemmas.List.Elements.{All-more, All-same}
use Rattle.pp_graph.specs.Ranges.{PeekInRange}
use Rattle.pp_graph.proofs.ranges.peeks_fit.Goals as goal

pub loop-peek-preserved : goal.loop-peek-preserved
loop-peek-preserved c =
    All-more PeekInRange c.args.peeks.now c.loop-peek.peek-index _ (omega arith) c.loop-peek.invariant c.peek_fits.ensures

pub returns : goal.returns
returns c =
    let done : take c.loop-peek.peek-index c.args.peeks.now ≡ c.args.peeks.now = take_all c.loop-peek.peek-index c.args.peeks.now (omega arith) in
    All-same PeekInRange c.args.peeks.now (take c.loop-peek.peek-index c.args.peeks.now) (sym done) c.loop-peek.invariant
