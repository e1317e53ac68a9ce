use Rattle.std.proofs.Common.{ap, ◌∙◌, sym, subst, refl}
use Rattle.std.proofs.Math.Bool.{not, not-not}
use Rattle.std.specs.BTreeSet.{contains}
use Rattle.std.specs.Ordering.{nat_cmp}
use Rattle.pp_rules.proofs.OwnEdgeLemmas.{HasMore, Tells, clash-answer, clash-otherwise, push-answer, push-otherwise}
use Rattle.pp_rules.proofs.rules.clash.OwnEdges.add.Goals as goal

pub returns-in-Peek-clause-clashes : goal.returns-in-Peek-clause-clashes
returns-in-Peek-clause-clashes c own h = subst (Tells c.add_peek.result own) (sym c.in-Peek.is) (c.add_peek.ensures.clashes own h)

pub returns-in_ok-is_new-in-Answer-clause-added : goal.returns-in_ok-is_new-in-Answer-clause-added
returns-in_ok-is_new-in-Answer-clause-added c own h =
    subst (HasMore _ own) (sym c.in-Answer.is) (push-answer c.args.self.now _ own c.in-Answer.number refl refl c.in_ok-is_new-in-Answer.ensures.updates h)

pub returns-in_ok-is_new-in-Answer-clause-clashes : goal.returns-in_ok-is_new-in-Answer-clause-clashes
returns-in_ok-is_new-in-Answer-clause-clashes c own h =
    subst (Tells (not c.in_ok-is_new-in-Answer.is_new) own) (sym c.in-Answer.is) (ap not c.in_ok-is_new-in-Answer.ensures.added ∙ not-not (contains nat_cmp c.args.self.now.answers c.in-Answer.number) ∙ h.answers c.in-Answer.number ∙ clash-answer own c.in-Answer.number)

pub returns-in-Otherwise-clause-added : goal.returns-in-Otherwise-clause-added
returns-in-Otherwise-clause-added c own h =
    subst (HasMore c.args.self.now own) (sym c.in-Otherwise.is) (push-otherwise c.args.self.now c.args.self.now own c.in-Otherwise.skip refl h)

pub returns-in-Otherwise-clause-clashes : goal.returns-in-Otherwise-clause-clashes
returns-in-Otherwise-clause-clashes c own h = subst (Tells _ own) (sym c.in-Otherwise.is) (clash-otherwise own c.in-Otherwise.skip)
