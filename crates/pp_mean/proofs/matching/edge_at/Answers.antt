use Rattle.std.proofs.Common.{◌≤◌, ℕ, sym, ◌∙◌, subst, map}
use Rattle.std.proofs.lemmas.List.{length-map}
use Rattle.pp_bytes.specs.Fold.{folded}
use Rattle.pp_mean.proofs.MatchLemmas.{best_edge-le, other-within}
use Rattle.pp_mean.proofs.matching.edge_at.Goals as goal

pub returns-in-Some-clause-within : goal.returns-in-Some-clause-within
returns-in-Some-clause-within c =
    subst (λ (n : ℕ). c.in-Some.edge.taken ≤ n) (length-map c.args.rest.now (folded c.args.fold))
    (best_edge-le c.args.keys.now (map (folded c.args.fold) c.args.rest.now) c.in-Some.edge (sym c.best.ensures ∙ c.in-Some.is))

pub returns-in-None-clause-within : goal.returns-in-None-clause-within
returns-in-None-clause-within c =
    subst (λ (n : ℕ). c.other_edge.result.taken ≤ n) (length-map c.args.rest.now (folded c.args.fold))
    (other-within c.args.keys.now c.args.peeks.now c.args.other (map (folded c.args.fold) c.args.rest.now) c.reach-reached.result c.other_edge.result.taken
    (sym c.waits.ensures ∙ c.if-waits.false) (sym c.best.ensures ∙ c.in-None.is) c.reach-reached.ensures.value c.other_edge.ensures.taken)
