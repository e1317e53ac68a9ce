use Rattle.std.proofs.Common.{ℕ, ◌<◌}
use Rattle.pp_flow.specs.steps.Bits.{Has}
use Rattle.pp_flow.specs.steps.Round.{IsOnNoCycle}
use Rattle.pp_flow.proofs.round.least_round.Given as goal

abbrev pub invariant-loop-x : goal.invariant-loop-x
invariant-loop-x l = (y : ℕ) → y < l.x → Has l.words y l.b → IsOnNoCycle l.moves l.b y
