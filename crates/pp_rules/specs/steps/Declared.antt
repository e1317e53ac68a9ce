-- The tables of what calls declare.
use Rattle.std.specs.Prelude.{◌≡◌, ℕ, List, [], Bool, ◌&&◌, Option, filter_map, find, option_map, bytes_eq}
use Rattle.pp_rules.specs.declared.declared.names.Names.{Names}
use Rattle.pp_rules.specs.declared.declaration.PropDecl.{PropDecl}
use Rattle.pp_rules.specs.declared.declaration.Width.{Width}
use Rattle.pp_rules.specs.declared.call.BuilderCall.{BuilderCall}
use Rattle.pp_rules.specs.declared.call.Sort.{Sort}
use Rattle.pp_rules.specs.declared.call.Sort.TheVariants as sort
use Rattle.pp_rules.specs.Calls.{is_declared}
use Rattle.pp_rules.specs.Declarations.{prop_decl}
use Rattle.pp_rules.specs.Rules.Numbers.{is_value_host}
use Rattle.pp_rules.specs.NameTables.{value_at, is_at, is_true_at}

-- the width of the first property of this name
abbrev pub width_of : List BuilderCall → List ℕ → Option Width
width_of calls name =
    option_map (λ (p : PropDecl). p.width) (find (λ (p : PropDecl). bytes_eq name p.name) (filter_map prop_decl calls))

-- the tables have this name of this sort. The entry and the finish rule have the empty name.
abbrev pub names_have : Names → Sort → List ℕ → Bool
names_have names sort.Prop name = is_at names.props name
names_have names sort.Host name = is_at names.hosts name
names_have names sort.Span name = is_at names.spans name
names_have names sort.Node name = is_at names.nodes name
names_have names sort.Entry name = bytes_eq [] name && names.entry
names_have names sort.Finish name = bytes_eq [] name && names.finish

-- the tables of what these calls declare: the names of each sort, the width of the first property of a name, and whether
-- some host of a name is asked with a value
pub record IsNames (names : Names) (calls : List BuilderCall) : Type 0 where
  pub declared : (s : Sort) (name : List ℕ) → names_have names s name ≡ is_declared calls (s, name)
  pub wide : (name : List ℕ) → value_at names.props name ≡ width_of calls name
  pub asked : (name : List ℕ) → is_true_at names.hosts name ≡ is_value_host calls name
