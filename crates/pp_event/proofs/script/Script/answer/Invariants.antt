use Rattle.std.proofs.Common.{◌≡◌, drop}
use Rattle.pp_event.specs.Script.{answer_in}
use Rattle.pp_event.proofs.script.Script.answer.Given as goal

abbrev pub invariant-loop-entry : goal.invariant-loop-entry
invariant-loop-entry l = answer_in (drop l.entry-index l.entry-items) l.to l.left ≡ answer_in l.fn.self l.to l.k
