use Rattle.std.proofs.Common.{◌∙◌, sym, ap, subst}
use Rattle.pp_lower.specs.Kept.{KeepsMeaning}
use Rattle.pp_lower.specs.Lowered.{lowered}
use Rattle.pp_lower.proofs.FormLaws.{well_formed_lowers}
use Rattle.pp_lower.proofs.LowerLaws.{lowering_keeps}
use Rattle.pp_lower.proofs.lowered.lower.Goals as goal

pub returns-clause-keeps : goal.returns-clause-keeps
returns-clause-keeps c =
    subst (KeepsMeaning c.args.checked.now.graph) (sym (c.in_ok-program.ensures ∙ ap lowered c.graph.ensures.value))
    (lowering_keeps c.args.checked.now.graph (well_formed_lowers c.args.checked.now.graph c.graph.ensures.checked.well_formed))
