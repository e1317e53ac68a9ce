use Rattle.std.proofs.Common.{◌<◌, ◌++◌, ap, ap₂, ◌∙◌, length}
use Rattle.std.proofs.lemmas.Bool.{false≢true}
use Rattle.pp_bytes.specs.Bytes.{bytes_of}
use Rattle.pp_rules.specs.declared.call.BuilderCall.TheVariants as call
use Rattle.pp_rules.proofs.SetLemmas.{sets-push, all-push, spread-set}
use Rattle.pp_rules.proofs.KeptLemmas.{not-empty}
use Rattle.pp_rules.proofs.kept.Calls.push_set.Goals as goal

pub invariant_of-self-in_default : goal.invariant_of-self-in_default
invariant_of-self-in_default c =
    let some : 0 < length (bytes_of c.args.bytes) = not-empty _ (λ empty. false≢true (c.if-is_empty.ensures.1 empty)) in
    rw (c.in_default.ensures.items, c.in_ok-push.ensures.items)
    (sets-push _ _ _ _ c.self.invariant (c.args.how, c.args.target, 0, ap (λ e. call.Edge e c.args.target) c.in_ok-edge.ensures, some))

pub returns-clause-added : goal.returns-clause-added
returns-clause-added c =
    rw (c.in_default.ensures.items, c.in_ok-push.ensures.items)
    (all-push _ _ _ _ c.self.invariant
    ∙ ap₂ (λ xs ys. xs ++ ys) c.self.view_is (spread-set _ c.args.bytes c.args.how c.args.target 0 (ap (λ e. call.Edge e c.args.target) c.in_ok-edge.ensures)))
