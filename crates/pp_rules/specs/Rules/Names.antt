-- The rules on names: duplicate name, unknown name, no entry.
use Rattle.std.specs.Prelude.{ℕ, List, [], Option, Some, None, Bool, false, not}
use Rattle.std.specs.List.{list_any}
use Rattle.pp_rules.specs.declared.call.BuilderCall.{BuilderCall}
use Rattle.pp_rules.specs.declared.call.Sort.{Sort}
use Rattle.pp_rules.specs.declared.call.Sort.TheVariants as sort
use Rattle.pp_rules.specs.Calls.{declared_by, named_by, is_declared}

-- Duplicate name: an earlier call declares the same name of the same sort. So a second entry or finish rule is one too.
abbrev pub is_redeclared : List BuilderCall → Option (Sort × List ℕ) → Bool
is_redeclared before None = false
is_redeclared before (Some named) = is_declared before named

abbrev pub is_duplicate : List BuilderCall → BuilderCall → Bool
is_duplicate before c = is_redeclared before (declared_by c)

-- Unknown name: no call at all declares something that the call names.
abbrev pub names_unknown : List BuilderCall → BuilderCall → Bool
names_unknown all c = list_any (λ named. not (is_declared all named)) (named_by c)

-- No entry: no call declares the entry.
abbrev pub has_entry : List BuilderCall → Bool
has_entry calls = is_declared calls (sort.Entry, [])
