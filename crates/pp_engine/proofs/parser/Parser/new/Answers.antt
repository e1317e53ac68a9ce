use Rattle.std.proofs.Common.{length, ap, ◌∙◌}
use Rattle.pp_event.proofs.ValueLemmas.{values_of-length}
use Rattle.pp_engine.proofs.parser.Parser.new.Goals as goal

pub begin-requires : goal.begin-requires
begin-requires c = ap length c.in_ok-props.ensures.values ∙ values_of-length (length c.args.program.now.program.props) c.args.sets.now
