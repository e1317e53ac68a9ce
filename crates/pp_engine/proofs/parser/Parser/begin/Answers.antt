use Rattle.std.proofs.Common.{ℕ, List, [], Option, subst, sym, replicate, None, ◌∙◌, ap, length, ◌≡◌}
use Rattle.pp_event.specs.Run.{Config}
use Rattle.pp_engine.specs.Stood.{IsKept}
use Rattle.pp_engine.specs.declared.standing.Stand.TheVariants as stand
use Rattle.pp_engine.proofs.ParserLaws.{entry_fits, can_start}
use Rattle.pp_engine.proofs.parser.Parser.begin.Goals as goal

pub invariant_of-result : goal.invariant_of-result
invariant_of-result c =
    let good = c.gap-gap.ensures.runnable in
    let shut : replicate (length c.args.program.now.program.spans) None ≡ c.shut.result = sym (c.shut.ensures ∙ ap (λ (n : ℕ). replicate {A = Option ℕ} n None) c.spans.ensures) in
    let P : Config → _ = λ (d : Config). IsKept (record { program = c.args.program.now; config = d; stand = stand.Ready; reason = [] }) in
    subst (λ (n : ℕ). P (record { node = n; at = 0; carried = 0; values = c.args.props; spans = c.shut.result })) (sym c.entry.ensures)
    (subst (λ (l : List (Option ℕ)). P (record { node = c.args.program.now.program.entry; at = 0; carried = 0; values = c.args.props; spans = l })) shut
    (record { fits = entry_fits c.args.program.now c.args.props good c.requires; can_go = can_start c.args.program.now c.args.props good c.requires }))
