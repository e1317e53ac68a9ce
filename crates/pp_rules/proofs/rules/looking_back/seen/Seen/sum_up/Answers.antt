use Rattle.std.proofs.Common.{refl, ap, sym, ◌∙◌}
use Rattle.std.proofs.lemmas.Result.{on_ok_weaker, IfOk-weaker}
use Rattle.pp_rules.specs.Edges.{edges_of, edge_of}
use Rattle.pp_rules.specs.steps.Clashes.{any_with, short_clash}
use Rattle.pp_rules.proofs.SeenLemmas.{push-node, push-edge, push-other}
use Rattle.pp_rules.proofs.rules.looking_back.seen.Seen.sum_up.Goals as goal

pub returns-in-Node-clause-sums : goal.returns-in-Node-clause-sums
returns-in-Node-clause-sums c before h =
    push-node _ before c.args.call.now c.in-Node.name c.in-Node.kind c.in-Node.is c.new.ensures (c.after-self.ensures before h.room)

pub returns-in-Edge-clause-sums : goal.returns-in-Edge-clause-sums
returns-in-Edge-clause-sums c =
    on_ok_weaker c.add.result (λ added before h. push-edge c.args.self.now _ before c.args.call.now c.in-Edge.edge c.in-Edge.target c.in-Edge.is added (c.after-self.ensures before h.room) h) c.add.ensures.added

pub returns-in-Edge-clause-clashes : goal.returns-in-Edge-clause-clashes
returns-in-Edge-clause-clashes c =
    IfOk-weaker c.add.result _ _ (λ clashes tells before h. tells (edges_of before) h.edges ∙ ap (λ d. any_with short_clash (edges_of before) (edge_of d)) (sym c.in-Edge.is)) c.add.ensures.clashes

pub returns-in_default-clause-sums : goal.returns-in_default-clause-sums
returns-in_default-clause-sums c before h =
    push-other c.args.self.now _ before refl h c.args.call.now c.in_default.not-Node c.in_default.not-Edge (c.after-self.ensures before h.room)
