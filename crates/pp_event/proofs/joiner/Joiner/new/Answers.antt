use Rattle.std.proofs.Common.{◌≡◌, ◌<◌, ◌∙◌, sym, length, arith}
use Rattle.std.proofs.lemmas.List.{length-replicate, get_or-replicate, ext_get_or}
use Rattle.pp_event.specs.Joiner.{SpanParts, nothing_joined, no_parts}
use Rattle.pp_event.proofs.joiner.Joiner.new.Goals as goal

pub returns : goal.returns
returns c =
    let x = c.from_fn.ensures.items in
    let long : length c.from_fn.result ≡ 32 = x.long in
    ext_get_or no_parts c.from_fn.result nothing_joined (long ∙ sym (length-replicate {A = SpanParts} 32 no_parts))
    (λ k lt. let inside : k < 32 = omega (arith, long) in (x.at k no_parts inside).2.met.1 ∙ sym (get_or-replicate {A = SpanParts} 32 k no_parts no_parts inside))
