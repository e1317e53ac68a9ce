use Rattle.std.proofs.Common.{◌≡◌, ◌-◌, ◌+◌, ◌*◌, ◌≤◌, length}
use Rattle.pp_engine.specs.Spots.{config}
use Rattle.pp_engine.proofs.GoingLaws.{Going}
use Rattle.pp_engine.proofs.run.run.Given as goal

abbrev pub invariant-run : goal.invariant-run
invariant-run g l = record {
  going : Going g.H.Host.allows g.H.Host.next l.program (config l.fn.spot) l.input (g.H.Host.shown l.fn.host) (config l.spot) l.taken (g.H.Host.shown l.host) (l.steps - l.fn.steps);
  steps : l.fn.steps ≤ l.steps;
  base : l.base ≡ l.fn.spot.at;
}

abbrev pub decreases-run : goal.decreases-run
decreases-run g l = (length l.input + 1) * (l.program.gap + 1) - (l.steps - l.fn.steps)
