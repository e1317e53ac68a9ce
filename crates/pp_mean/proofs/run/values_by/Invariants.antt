use Rattle.std.proofs.Common.{◌≡◌, length, drop}
use Rattle.pp_event.specs.Values.{with_sets}
use Rattle.pp_mean.specs.Mean.{values_by}
use Rattle.pp_mean.proofs.run.values_by.Given as goal

abbrev pub invariant-loop-prop : goal.invariant-loop-prop
invariant-loop-prop l = record {
  rest : with_sets (drop l.prop-index l.sets) l.values ≡ values_by l.graph l.sets;
  long : length l.values ≡ length l.graph.props;
}
