use Rattle.std.proofs.Common.{List, ℕ, [], ◌∷◌, ◌++◌, ap, ◌∙◌}
use Rattle.std.specs.Int.{w32, w64, to_be_bytes}
use Rattle.pp_file.proofs.PutLemmas.{put_three}
use Rattle.pp_file.proofs.writing.put_mul_add.Goals as goal

pub returns : goal.returns
returns c =
    put_three c.args.out.now.items _ _ _ (9 ∷ c.args.prop ∷ []) (to_be_bytes w32 c.args.base) (to_be_bytes w64 c.args.most) c.in_ok-extend_from_slice.ensures.items
    (c.in_ok-extend_from_slice-2.ensures.items ∙ ap (λ (z : List ℕ). c.extend_from_slice.new.self.items ++ z) c.to_be_bytes.ensures)
    (c.in_ok-extend_from_slice-3.ensures.items ∙ ap (λ (z : List ℕ). c.extend_from_slice-2.new.self.items ++ z) c.to_be_bytes-2.ensures)
