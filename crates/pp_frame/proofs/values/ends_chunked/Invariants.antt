use Rattle.std.proofs.Common.{◌≡◌, drop, false}
use Rattle.pp_frame.specs.Framing.{values_named, all_elements, transfer_encoding}
use Rattle.pp_frame.specs.steps.Codings.{last_is_chunked}
use Rattle.pp_frame.proofs.values.ends_chunked.Given as goal

abbrev pub invariant-loop-field : goal.invariant-loop-field
invariant-loop-field l =
    last_is_chunked l.last (all_elements (values_named transfer_encoding l.head (drop l.field-index l.fields))) ≡ last_is_chunked false (all_elements (values_named transfer_encoding l.head l.fields))
