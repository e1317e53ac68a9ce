use Rattle.pp_text.proofs.SuitLemmas.{calls-formed}
use Rattle.pp_text.proofs.FollowLemmas.{calls-follow}
use Rattle.pp_text.proofs.KeepLemmas.{calls-keep}
use Rattle.pp_text.proofs.AgainLemmas.{built-told}
use Rattle.pp_text.proofs.PrintedBackLemmas.{graph-text}
use Rattle.pp_text.proofs.telling.told_again.Goals as goal

pub returns-clause-rules : goal.returns-clause-rules
returns-clause-rules c = calls-keep c.args.graph.now c.nodes-nodes.ensures.well_formed

pub returns-clause-forms : goal.returns-clause-forms
returns-clause-forms c = calls-formed c.args.graph.now c.nodes-nodes.ensures.well_formed

pub returns-clause-follow : goal.returns-clause-follow
returns-clause-follow c = calls-follow c.args.graph.now c.nodes-nodes.ensures.well_formed

pub returns-clause-again : goal.returns-clause-again
returns-clause-again c = built-told c.args.graph.now c.nodes-nodes.ensures.well_formed

pub returns-clause-text : goal.returns-clause-text
returns-clause-text c =
    let formed = c.nodes-nodes.ensures.well_formed in
    graph-text c.args.graph.now formed (calls-formed c.args.graph.now formed) (calls-follow c.args.graph.now formed)
