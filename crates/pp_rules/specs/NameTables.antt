-- Tables of values by name.
use Rattle.std.specs.Prelude.{ℕ, List, Bool, false, Option, is_some, unwrap_or}
use Rattle.std.specs.BTreeMap.{get_by}
use Rattle.std.specs.Cmp.Lexicographic.{slice_cmp}
use Rattle.std.specs.Ordering.{nat_cmp}
use Rattle.pp_rules.specs.declared.name_table.NameTable.{NameTable}

-- the value at a name, which is that of the key with the same bytes
abbrev pub value_at : {X : Type 0} → NameTable X → List ℕ → Option X
value_at table name = get_by (λ k. slice_cmp nat_cmp name k.now) table.entries

-- there is a value at the name
abbrev pub is_at : {X : Type 0} → NameTable X → List ℕ → Bool
is_at table name = is_some (value_at table name)

-- the value at the name is true
abbrev pub is_true_at : NameTable Bool → List ℕ → Bool
is_true_at table name = unwrap_or (value_at table name) false
