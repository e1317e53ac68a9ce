use Rattle.std.proofs.Common.{arith, ◌≡◌, refl, ◌∙◌, max, ◌-◌, drop}
use Rattle.std.proofs.lemmas.List.{length-take-le, length-drop}
use Rattle.pp_engine.proofs.FireLaws.{fire_stopped}
use Rattle.pp_engine.proofs.host.fire.Goals as goal

pub returns-in-Is : goal.returns-in-Is
returns-in-Is g c =
    fire_stopped g.H.Host.allows g.H.Host.next _ _ c.args.base c.args.input.now c.args.span c.args.from c.args.at c.args.last c.in-Is.answer c.later_of-start.result _
    c.later_of-start.ensures refl (let e : c.later_of-start.result ≡ max c.args.from c.args.base = c.later_of-start.ensures in let d = length-drop (c.later_of-start.result - c.args.base) c.args.input.now in
    length-take-le (c.args.at - c.args.base - (c.later_of-start.result - c.args.base)) (drop (c.later_of-start.result - c.args.base) c.args.input.now) (omega arith) ∙ omega arith) (let e : c.later_of-start.result ≡ max c.args.from c.args.base = c.later_of-start.ensures in omega arith) (let t = c.in-Is.answer-test.1 in omega arith) c.in-Is.ensures.replies
