use Rattle.std.proofs.Common.{◌∙◌, not, sym, ap, refl, is_some}
use Rattle.pp_rules.proofs.rules.numbers.Values.is_value_node.Goals as goal

pub returns-else-not-is_empty : goal.returns-else-not-is_empty
returns-else-not-is_empty c =
    ap not c.if-not-is_empty.false ∙ sym (ap is_some (c.if-not-is_empty.ensures.0 refl c.args.name.now)) ∙ rw (← c.self.view_is) (c.self.invariant.takes c.args.name.now)
