use Rattle.std.proofs.Common.{List, ℕ, ◌++◌, ap, ◌∙◌}
use Rattle.pp_file.specs.Spelling.{text}
use Rattle.pp_file.proofs.PutLemmas.{put_more}
use Rattle.pp_file.proofs.writing.put_names.Goals as goal

pub loop-i-preserved : goal.loop-i-preserved
loop-i-preserved c =
    put_more (List ℕ) text _ c.loop-i.i _ _ _ _ c.name.ensures c.loop-i.invariant
    (c.in_ok-put_text.ensures ∙ ap (λ (z : List ℕ). c.loop-i.out.items ++ text z) c.bytes.ensures.value)
