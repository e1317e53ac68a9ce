use Rattle.std.proofs.Common.{◌≡◌, drop}
use Rattle.pp_frame.specs.Framing.{values_named}
use Rattle.pp_frame.proofs.values.first_named.Given as goal

abbrev pub invariant-loop-field : goal.invariant-loop-field
invariant-loop-field l = values_named l.name l.head (drop l.field-index l.fields) ≡ values_named l.name l.head l.fields
