use Rattle.std.proofs.Common.{◌≡◌, ◌∙◌}
use Rattle.std.specs.Prelude.{MatchResult}
use Rattle.pp_text.specs.declared.fault.TextFault.TheVariants.{NoMemory}
use Rattle.pp_text.proofs.PrintedBackLemmas.{IsBack, printed-back, back-same, back-whole}
use Rattle.pp_text.proofs.back.read_back.Goals as goal

pub returns : goal.returns
returns c =
    let g = c.args.graph.now in
    let told = c.told_again.ensures in
    let back : MatchResult c.read_graph.result (IsBack g) (λ e. e ≡ NoMemory) = printed-back g c.deref.result.now c.read_graph.result told.rules told.again told.text (c.deref.ensures.value ∙ c.in_ok-text.ensures.text) c.read_graph.ensures.graph_only in
    record { same = back-same g c.read_graph.result back; whole = back-whole g c.read_graph.result back }
