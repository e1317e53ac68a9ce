use Rattle.std.proofs.Common.{◌≡◌, List, Bool, false, length, replicate, subst, sym, ◌∙◌, ap, arith}
use Rattle.std.proofs.lemmas.List.{length-replicate}
use Rattle.pp_flow.specs.steps.Parts.{HoldsAll}
use Rattle.pp_flow.proofs.BitLemmas.{written_back}
use Rattle.pp_flow.proofs.NumberLemmas.{holds_marked}
use Rattle.pp_flow.proofs.parts.candidates.Goals as goal

pub returns-then-mark : goal.returns-then-mark
returns-then-mark c =
    let down : c.in_ok-inside.inside.items ≡ replicate c.args.count false = c.in_ok-inside.ensures in
    let long : length c.in_ok-inside.inside.items ≡ c.args.count = ap length down ∙ length-replicate {A = Bool} c.args.count false in
    let same : length c.mark.new.inside ≡ length c.in_ok-inside.inside.items = c.mark.ensures.long ∙ ap length c.deref_mut.ensures.value in
    subst (λ (l : List Bool). HoldsAll c.args.moves.now c.args.b c.args.count l)
    (sym (written_back c.in_ok-inside.inside.len c.mark.new.inside c.in_ok-inside.inside.items (omega (arith, c.in_ok-inside.inside.ok.0)) same))
    (holds_marked c.args.moves.now c.args.b c.args.count _ c.mark.new.inside (same ∙ long) (c.mark.ensures.marks c.if-mark.true))
