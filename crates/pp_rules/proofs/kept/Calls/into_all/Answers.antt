use Rattle.std.proofs.Common.{ap, sym, ◌∙◌, subst}
use Rattle.std.specs.Vec.Iter.{into_iter_items, into_iter_len}
use Rattle.pp_rules.proofs.SpreadLemmas.{IsLeft, left-first, left-set, left-more, left-none}
use Rattle.pp_rules.proofs.kept.Calls.into_all.Goals as goal

pub loop-call-init : goal.loop-call-init
loop-call-init c = (
  (tt, tt),
  tt,
  subst (λ s. IsLeft s c.new-all.result.items c.args.self) (sym c.into_iter-call-iterator.ensures.into_iter_gives)
      (left-first c.zip-call-items.result c.self.inside.kept c.self.inside.sets _ _
      (ap into_iter_items c.zip-call-items.ensures.first ∙ c.into_iter.ensures.rest)
      (ap into_iter_len c.zip-call-items.ensures.first ∙ c.into_iter.ensures.len)
      c.zip-call-items.ensures.second.0 c.zip-call-items.ensures.second.1
      c.self.invariant c.new-all.ensures.items c.self.view_is),
)

pub push_all-requires : goal.push_all-requires
push_all-requires c = left-set c.loop-call.call-iterator c.next.new.self c.in-Some.call c.in-Some.set c.next.result c.in-Some.is c.next.ensures.steps _ _ c.loop-call.invariant.2

pub loop-call-preserved : goal.loop-call-preserved
loop-call-preserved c = (
  (tt, tt),
  tt,
  left-more c.loop-call.call-iterator c.next.new.self c.in-Some.call c.in-Some.set c.next.result c.in-Some.is c.next.ensures.steps _ _ _ c.loop-call.invariant.2 c.in_ok-push_all.ensures,
)

pub returns : goal.returns
returns c = left-none c.loop-call.call-iterator c.next.new.self c.next.result _ _ c.in-None.is c.next.ensures.steps c.loop-call.invariant.2
