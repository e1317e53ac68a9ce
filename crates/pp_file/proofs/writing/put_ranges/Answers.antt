use Rattle.std.proofs.Common.{ℕ}
use Rattle.pp_file.specs.Spelling.{spelled_range}
use Rattle.pp_file.proofs.PutLemmas.{put_more}
use Rattle.pp_file.proofs.writing.put_ranges.Goals as goal

pub loop-i-preserved : goal.loop-i-preserved
loop-i-preserved c = put_more (ℕ × ℕ) spelled_range _ c.loop-i.i _ _ _ _ c.get-lo.ensures c.loop-i.invariant c.in_ok-extend_from_slice.ensures.items
