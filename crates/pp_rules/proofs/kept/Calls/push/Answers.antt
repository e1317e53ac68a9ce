use Rattle.std.proofs.Common.{◌∷◌, [], ◌++◌, ap, ◌∙◌}
use Rattle.pp_rules.proofs.SetLemmas.{sets-push, all-push}
use Rattle.pp_rules.proofs.kept.Calls.push.Goals as goal

pub invariant_of-self-in_default : goal.invariant_of-self-in_default
invariant_of-self-in_default c =
    rw (c.in_default.ensures.items, c.in_ok-push.ensures.items) (sets-push _ _ _ _ c.self.invariant tt)

pub returns-clause-added : goal.returns-clause-added
returns-clause-added c =
    rw (c.in_default.ensures.items, c.in_ok-push.ensures.items)
    (all-push _ _ _ _ c.self.invariant ∙ ap (λ xs. xs ++ c.args.call ∷ []) c.self.view_is)
