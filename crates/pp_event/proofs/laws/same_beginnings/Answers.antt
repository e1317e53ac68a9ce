use Rattle.pp_event.proofs.PrefixLaws.{begins_for}
use Rattle.pp_event.proofs.laws.same_beginnings.Goals as goal

pub returns : goal.returns
returns c turn one other s r q xs ys honest e h k =
    let b = begins_for turn one other xs honest h.0 k.0 s r q ys h.1 k.1 e in
    (b.more, b.is)
