use Rattle.std.proofs.Common.{◌∙◌, ap, take}
use Rattle.std.proofs.lemmas.List.{length-take-le}
use Rattle.std.specs.Int.{trailing_ones, w64}
use Rattle.pp_bytes.specs.Ranges.{in_ranges}
use Rattle.pp_scan.proofs.LaneLemmas.{trailing_ones-bits_of}
use Rattle.pp_scan.proofs.lanes.block_run.Goals as goal

pub returns : goal.returns
returns c =
    c.trailing_ones.ensures
    ∙ ap (trailing_ones w64) c.bits_in_ranges.ensures
    ∙ trailing_ones-bits_of (in_ranges c.args.ranges.now) (take 32 c.args.bytes.now) (length-take-le 32 c.args.bytes.now c.requires)
