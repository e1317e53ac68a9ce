use Rattle.std.proofs.Common.{List, ℕ, ◌++◌, ap, ◌∙◌}
use Rattle.pp_rules.specs.declared.declaration.SpanDecl.{SpanDecl}
use Rattle.pp_file.specs.Spelling.{text, spelled_span}
use Rattle.pp_file.proofs.PutLemmas.{put_more}
use Rattle.pp_file.proofs.writing.put_spans.Goals as goal

pub loop-i-preserved : goal.loop-i-preserved
loop-i-preserved c =
    put_more SpanDecl spelled_span _ c.loop-i.i _ _ _ _ c.span.ensures c.loop-i.invariant
    (c.in_ok-put_text.ensures ∙ ap (λ (z : List ℕ). c.loop-i.out.items ++ text z) c.bytes.ensures.value)
