use Rattle.std.proofs.Common.{◌≡◌, drop}
use Rattle.pp_event.specs.Codes.{answered}
use Rattle.pp_event.proofs.effect.answered.Given as goal

abbrev pub invariant-loop-edge : goal.invariant-loop-edge
invariant-loop-edge l = answered (drop l.edge-index l.answers) l.other l.answer ≡ answered l.answers l.other l.answer
