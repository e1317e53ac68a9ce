use Rattle.std.proofs.Common.{◌≡◌, drop}
use Rattle.std.specs.List.{list_any}
use Rattle.pp_frame.specs.Framing.{values_named, is_quoted, transfer_encoding}
use Rattle.pp_frame.proofs.values.any_quoted.Given as goal

abbrev pub invariant-loop-field : goal.invariant-loop-field
invariant-loop-field l = list_any is_quoted (values_named transfer_encoding l.head (drop l.field-index l.fields)) ≡ list_any is_quoted (values_named transfer_encoding l.head l.fields)
