use Rattle.std.proofs.Common.{List, [], ◌∷◌, ℕ, subst, sym, ◌∙◌}
use Rattle.pp_graph.specs.Plan.{key_bytes}
use Rattle.pp_lower.specs.steps.Order.{IsOrdered}
use Rattle.pp_lower.proofs.OrderLaws.{rows_ordered}
use Rattle.pp_lower.proofs.states.rows_of.Goals as goal

pub links_of-requires-clause-ordered : goal.links_of-requires-clause-ordered
links_of-requires-clause-ordered c =
    subst (λ (z : List (List ℕ)). IsOrdered ([] ∷ z)) (sym (c.deref.ensures.value ∙ c.in_ok-list.ensures)) (rows_ordered 1 (key_bytes c.args.keys.now))

pub ends_of-requires-clause-ordered : goal.ends_of-requires-clause-ordered
ends_of-requires-clause-ordered c =
    subst (λ (z : List (List ℕ)). IsOrdered ([] ∷ z)) (sym (c.deref-3.ensures.value ∙ c.in_ok-list.ensures)) (rows_ordered 1 (key_bytes c.args.keys.now))

pub links_of-requires-2-clause-ordered : goal.links_of-requires-2-clause-ordered
links_of-requires-2-clause-ordered c =
    subst (λ (z : List (List ℕ)). IsOrdered ([] ∷ z)) (sym (c.deref-5.ensures.value ∙ c.in_ok-list.ensures)) (rows_ordered 1 (key_bytes c.args.keys.now))
