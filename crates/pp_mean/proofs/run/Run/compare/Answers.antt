use Rattle.std.proofs.Common.{◌≡◌, ◌∙◌, ap, List, ℕ, subst, map}
use Rattle.pp_bytes.specs.Fold.{folded}
use Rattle.pp_mean.specs.Nodes.{match_turn}
use Rattle.pp_mean.specs.Steps.{edge_turn}
use Rattle.pp_mean.proofs.RunLemmas.{edge-made, wait-made}
use Rattle.pp_mean.proofs.run.Run.compare.Goals as goal

pub returns-in-Some : goal.returns-in-Some
returns-in-Some c oracle =
    edge-made oracle c.args.self.now c.take.new.self c.enter.new.self _ c.in-Some.edge.target c.in-Some.edge.taken c.in-Some.edge.number
    (subst (λ (l : List ℕ). match_turn c.args.self.now.config l c.args.keys.now c.args.peeks.now c.args.other (map (folded c.args.fold) l) ≡ edge_turn c.args.self.now.config l c.edge_at.result) c.rest.ensures (c.edge_at.ensures.turn c.args.self.now.config)
    ∙ ap (edge_turn c.args.self.now.config c.args.self.now.rest) c.in-Some.is)
    c.take.ensures c.enter.ensures

pub returns-in-None : goal.returns-in-None
returns-in-None c oracle =
    wait-made oracle c.args.self.now c.wait.new.self c.wait.result _
    (subst (λ (l : List ℕ). match_turn c.args.self.now.config l c.args.keys.now c.args.peeks.now c.args.other (map (folded c.args.fold) l) ≡ edge_turn c.args.self.now.config l c.edge_at.result) c.rest.ensures (c.edge_at.ensures.turn c.args.self.now.config)
    ∙ ap (edge_turn c.args.self.now.config c.args.self.now.rest) c.in-None.is)
    c.wait.ensures.new c.wait.ensures.end
