use Rattle.std.proofs.Common.{ℕ, take, bit_or, ap, sym, ◌∙◌, arith}
use Rattle.std.proofs.lemmas.Option.{get_or_from_slice_get}
use Rattle.pp_bytes.specs.Ranges.{in_pair, in_ranges}
use Rattle.pp_scan.specs.steps.Lanes.{bits_of}
use Rattle.pp_scan.proofs.LaneLemmas.{bits_of_none, bits_of_more}
use Rattle.pp_scan.proofs.lanes.bits_in_ranges.Goals as goal

pub loop-i-init : goal.loop-i-init
loop-i-init c = bits_of_none c.args.block

pub loop-i-preserved : goal.loop-i-preserved
loop-i-preserved c =
    let pairs = c.args.ranges.now in
    let block = c.args.block in
    let pair = c.get-lo.result in
    let at = get_or_from_slice_get pairs c.loop-i.i pair pair c.get-lo.ensures in
    let bits = c.bits_in_pair-inside.ensures ∙ ap (λ (q : ℕ × ℕ). bits_of (λ b. in_pair b q) block) (sym at) in
    ap (λ (n : ℕ). bit_or n c.bits_in_pair-inside.result) c.loop-i.invariant
    ∙ ap (λ (n : ℕ). bit_or (bits_of (in_ranges (take c.loop-i.i pairs)) block) n) bits
    ∙ bits_of_more pairs c.loop-i.i pair block (omega (arith, c.len-i-end.ensures.count))
