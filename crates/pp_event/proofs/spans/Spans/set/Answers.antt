use Rattle.std.proofs.Common.{ap, length, ◌∙◌, arith, set}
use Rattle.std.proofs.Math.Seq.{take-set-lt}
use Rattle.std.proofs.lemmas.List.{length-take-le}
use Rattle.pp_event.proofs.spans.Spans.set.Goals as goal

pub returns : goal.returns
returns c =
    let long = length-take-le c.self.inside.count c.self.inside.slots (omega (arith, c.self.invariant.0, c.self.invariant.1)) in
    let same = ap length c.self.view_is in
    take-set-lt c.self.inside.count c.self.inside.slots c.args.span c.args.from (omega (arith, long, same, c.requires))
    ∙ ap (λ l. set l c.args.span c.args.from) c.self.view_is
