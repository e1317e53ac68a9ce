use Rattle.std.proofs.Common.{◌≡◌, take, sym, subst, arith}
use Rattle.std.proofs.lemmas.List.{take_all}
use Rattle.std.proofs.lemmas.List.Elements.{All-more, All-same}
use Rattle.pp_graph.specs.Ranges.{KeyInRange}
use Rattle.pp_graph.proofs.ranges.keys_fit.Goals as goal

pub loop-key-preserved : goal.loop-key-preserved
loop-key-preserved c =
    All-more KeyInRange c.args.keys.now c.loop-key.key-index c.key-item.result (omega arith) c.loop-key.invariant (subst KeyInRange c.key-item.is c.key_fits.ensures)

pub returns : goal.returns
returns c =
    let done : take c.loop-key.key-index c.args.keys.now ≡ c.args.keys.now = take_all c.loop-key.key-index c.args.keys.now (omega arith) in
    All-same KeyInRange c.args.keys.now (take c.loop-key.key-index c.args.keys.now) (sym done) c.loop-key.invariant
