use Rattle.std.proofs.Common.{◌∙◌, not, sym, ap, refl}
use Rattle.pp_rules.specs.steps.Lookups.{is_below}
use Rattle.pp_rules.proofs.rules.numbers.Values.is_stored_narrow.Goals as goal

pub returns-else-not-is_empty : goal.returns-else-not-is_empty
returns-else-not-is_empty c =
    ap not c.if-not-is_empty.false
    ∙ sym (ap (λ most. is_below most c.args.number) (c.if-not-is_empty.ensures.0 refl c.args.name.now))
    ∙ rw (← c.self.view_is) (c.self.invariant.stored c.args.name.now c.args.number)
