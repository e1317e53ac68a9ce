use Rattle.std.proofs.Common.{◌≡◌, ◌∙◌, ℕ, ap, subst, sym, refl, Option, Some, None, rules, add-one, suc, true, false}
use Rattle.std.specs.Prelude.{unwrap_or}
use Rattle.std.specs.Option.{is_some}
use Rattle.pp_event.specs.Turns.{slot}
use Rattle.pp_engine.proofs.OpenLaws.{OpenUpTo, open_shut, open_here, open_all}
use Rattle.pp_engine.proofs.opened.open_bits.Goals.{then-is_some, else-is_some}
use Rattle.pp_engine.proofs.opened.open_bits.Goals as goal

shut : (x : Option ℕ) → is_some x ≡ false → x ≡ None
shut None h = refl
shut (Some from) h = cc

some : (x : Option ℕ) → is_some x ≡ true → (from : ℕ) × (x ≡ Some from)
some None h = cc
some (Some from) h = (from, refl)

pub loop-span-preserved : goal.loop-span-preserved
loop-span-preserved c =
    let slot_is : slot c.args.spans.now c.loop-span.span ≡ c.get.result = ap (λ (o : Option (Option ℕ)). unwrap_or o None) c.get.ensures in
    rw add-one (elim c.if-is_some.branch [
      | then-is_some w ↦
          let x = some c.get.result (sym c.is_some.ensures ∙ w.if-is_some.true) in
          subst (λ (bits : ℕ). OpenUpTo c.args.spans.now bits (suc c.loop-span.span)) (sym w.bits-is)
          (open_here c.args.spans.now c.loop-span.bits w.with_bit-bits.result c.loop-span.span c.loop-span.invariant (x.0, slot_is ∙ x.1) w.with_bit-bits.ensures.here w.with_bit-bits.ensures.others)
      | else-is_some w ↦
          subst (λ (bits : ℕ). OpenUpTo c.args.spans.now bits (suc c.loop-span.span)) (sym w.bits-is)
          (open_shut c.args.spans.now c.loop-span.bits c.loop-span.span c.loop-span.invariant (slot_is ∙ shut c.get.result (sym c.is_some.ensures ∙ w.if-is_some.false)))
    ])

pub returns : goal.returns
returns c = open_all c.args.spans.now c.loop-span.bits c.loop-span.span c.loop-span.invariant (search rules)
