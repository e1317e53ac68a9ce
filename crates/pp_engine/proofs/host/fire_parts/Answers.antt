use Rattle.std.proofs.Common.{◌≤◌, ◌<◌, sym, ◌∙◌, ap, subst, suc, Some, add-one, ◌∷◌, [], false}
use Rattle.pp_engine.specs.Feeds.{Fire}
use Rattle.pp_engine.specs.Feeds.{piece_of}
use Rattle.pp_engine.specs.declared.host.Fired.{Fired}
use Rattle.pp_engine.proofs.FireLaws.{Parts, parts_none, parts_short, parts_skip, parts_fired, parts_stopped, parts_out}
use Rattle.pp_engine.proofs.host.fire_parts.Goals.{in-Some+then-later_of-at+in-All, in-Some+else-later_of-at, in_default}
use Rattle.pp_engine.proofs.host.fire_parts.Goals as goal

pub returns-in-Stopped : goal.returns-in-Stopped
returns-in-Stopped g c =
    parts_stopped c.args.base c.args.input.now c.args.at c.args.spans.now c.loop-span.span g.H.Host.allows g.H.Host.next _ _ _ c.in-Some.from c.in-Stopped.answer
    c.loop-span.invariant (c.get.ensures ∙ ap Some c.in-Some.is) (let e = c.later_of.ensures in let l = c.if-later_of-at.true in subst (λ x. x < c.args.at) e l)
    (subst (λ (f : Fired). Fire g.H.Host.allows g.H.Host.next (g.H.Host.shown c.loop-span.host) (g.H.Host.shown c.fire.new.host) (piece_of c.args.base c.args.input.now c.loop-span.span c.in-Some.from c.args.at false ∷ []) c.args.at f) c.in-Stopped.is c.fire.ensures)

pub returns-in-Out : goal.returns-in-Out
returns-in-Out g c =
    parts_out c.args.base c.args.input.now c.args.at c.args.spans.now c.loop-span.span g.H.Host.allows g.H.Host.next _ _ _ c.in-Some.from
    c.loop-span.invariant (c.get.ensures ∙ ap Some c.in-Some.is) (let e = c.later_of.ensures in let l = c.if-later_of-at.true in subst (λ x. x < c.args.at) e l)
    (subst (λ (f : Fired). Fire g.H.Host.allows g.H.Host.next (g.H.Host.shown c.loop-span.host) (g.H.Host.shown c.fire.new.host) (piece_of c.args.base c.args.input.now c.loop-span.span c.in-Some.from c.args.at false ∷ []) c.args.at f) c.in-Out.is c.fire.ensures)

pub loop-span-preserved : goal.loop-span-preserved
loop-span-preserved g c =
    let P = λ (h : _). Parts g.H.Host.allows g.H.Host.next (g.H.Host.shown c.args.host.now) (g.H.Host.shown h) c.args.base c.args.input.now c.args.at c.args.spans.now (suc c.loop-span.span) in
    rw add-one (elim c.match-get.branch [
      | in-Some+then-later_of-at+in-All w ↦
          subst P (sym w.host-is)
          (parts_fired c.args.base c.args.input.now c.args.at c.args.spans.now c.loop-span.span g.H.Host.allows g.H.Host.next _ _ _ w.in-Some.from c.loop-span.invariant
          (c.get.ensures ∙ ap Some w.in-Some.is) (subst (λ x. x < c.args.at) w.later_of.ensures w.if-later_of-at.true) w.in-All.ensures)
      | in-Some+else-later_of-at w ↦
          subst P (sym w.host-is)
          (parts_skip c.args.base c.args.input.now c.args.at c.args.spans.now c.loop-span.span g.H.Host.allows g.H.Host.next _ _ c.loop-span.invariant
          (parts_short c.args.base c.args.input.now c.args.at c.args.spans.now c.loop-span.span w.in-Some.from (c.get.ensures ∙ ap Some w.in-Some.is) (subst (λ x. c.args.at ≤ x) w.later_of.ensures w.if-later_of-at.false)))
      | in_default w ↦
          subst P (sym w.host-is)
          (parts_skip c.args.base c.args.input.now c.args.at c.args.spans.now c.loop-span.span g.H.Host.allows g.H.Host.next _ _ c.loop-span.invariant
          (parts_none c.args.base c.args.input.now c.args.at c.args.spans.now c.loop-span.span (c.get.ensures ∙ ap Some w.in_default.is)))
    ])
