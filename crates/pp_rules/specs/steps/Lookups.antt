-- What tables of the calls answer: what is declared, and the first call that declares again; which nodes take a value, and
-- the least of what the nodes of a name can store.
use Rattle.std.specs.Prelude.{◌≡◌, ℕ, List, Bool, false, Option, Some, nat_lt}
use Rattle.std.specs.Prelude.{None as none}
use Rattle.std.specs.List.{list_any}
use Rattle.pp_rules.specs.declared.call.BuilderCall.{BuilderCall}
use Rattle.pp_rules.specs.declared.name_table.NameTable.{NameTable}
use Rattle.pp_rules.specs.declared.rules.GraphRule.TheVariants.{DuplicateName}
use Rattle.pp_rules.specs.declared.declared.names.Names.{Names}
use Rattle.pp_rules.specs.NameTables.{is_at, value_at}
use Rattle.pp_rules.specs.steps.Declared.{IsNames}
use Rattle.pp_rules.specs.steps.Seen.{IsFirstFailing}
use Rattle.pp_rules.specs.Rules.Numbers.{is_value_node, stores_narrow}

-- what is stored at most, if anything is, is below the number
abbrev pub is_below : Option ℕ → ℕ → Bool
is_below none number = false
is_below (Some most) number = nat_lt most number

-- the tables of what these calls declare, and the first that declares what an earlier one does
pub record IsLookup (calls : List BuilderCall) (names : Names) (duplicate : Option ℕ) : Type 0 where
  pub declared : IsNames names calls
  pub first : IsFirstFailing DuplicateName calls duplicate

-- the tables of what the nodes of these calls do with the carried number
pub record IsNodeLookup (calls : List BuilderCall) (value_nodes : NameTable Unit) (stores : NameTable ℕ) : Type 0 where
  pub takes : (name : List ℕ) → is_at value_nodes name ≡ is_value_node calls name
  pub stored : (name : List ℕ) (number : ℕ) → is_below (value_at stores name) number ≡ list_any (stores_narrow calls name number) calls
