use Rattle.std.proofs.Common.{ap, ◌∙◌}
use Rattle.std.specs.List.{list_any}
use Rattle.std.specs.FinSet.{contains, contains-empty}
use Rattle.std.specs.BTreeMap.{is_at}
use Rattle.std.specs.Ordering.{nat_cmp}
use Rattle.pp_rules.proofs.rules.clash.OwnEdges.new.Goals as goal

pub returns : goal.returns
returns c = record {
  keys = c.new.ensures;
  peeks = λ b. ap (λ s. contains s b) c.new-2.ensures ∙ contains-empty nat_cmp b;
  answers = λ n. ap (list_any (is_at (nat_cmp n))) c.new-3.ensures.empty;
}
