use Rattle.std.proofs.Common.{◌≡◌, take}
use Rattle.pp_lower.proofs.copies.copy_of_props.Given as goal

abbrev pub invariant-loop-prop : goal.invariant-loop-prop
invariant-loop-prop l = l.list.items ≡ take l.prop-index l.props
