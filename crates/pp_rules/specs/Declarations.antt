-- The declarations among calls, and the greatest value of a property.
use Rattle.std.specs.Prelude.{ℕ, ◌-◌, ◌^◌, List, Option, Some, bytes_eq, filter_map, find, unwrap_or, option_map}
use Rattle.std.specs.Prelude.{None as none}
use Rattle.pp_rules.specs.declared.call.BuilderCall.{BuilderCall}
use Rattle.pp_rules.specs.declared.call.BuilderCall.TheVariants as call
use Rattle.pp_rules.specs.declared.call.Sort.TheVariants as sort
use Rattle.pp_rules.specs.declared.declaration.PropDecl.{PropDecl}
use Rattle.pp_rules.specs.declared.declaration.HostDecl.{HostDecl}
use Rattle.pp_rules.specs.declared.declaration.SpanDecl.{SpanDecl}
use Rattle.pp_rules.specs.Widths.{greatest}
use Rattle.pp_rules.specs.Calls.{names_of}

-- the names of the declarations of each sort, in order, and the properties themselves
pub record Tables : Type 0 where
  pub props : List PropDecl
  pub prop_names : List (List ℕ)
  pub hosts : List (List ℕ)
  pub spans : List (List ℕ)
  pub nodes : List (List ℕ)

abbrev pub prop_decl : BuilderCall → Option PropDecl
prop_decl (call.Prop name width) = Some (record { name = name; width = width })
prop_decl (call.Host name value) = none
prop_decl (call.Span name) = none
prop_decl (call.Entry node) = none
prop_decl (call.Finish prop host) = none
prop_decl (call.Node name what) = none
prop_decl (call.Edge when target) = none

abbrev pub host_decl : BuilderCall → Option HostDecl
host_decl (call.Prop name width) = none
host_decl (call.Host name value) = Some (record { name = name; value = value })
host_decl (call.Span name) = none
host_decl (call.Entry node) = none
host_decl (call.Finish prop host) = none
host_decl (call.Node name what) = none
host_decl (call.Edge when target) = none

abbrev pub span_decl : BuilderCall → Option SpanDecl
span_decl (call.Prop name width) = none
span_decl (call.Host name value) = none
span_decl (call.Span name) = Some (record { name = name })
span_decl (call.Entry node) = none
span_decl (call.Finish prop host) = none
span_decl (call.Node name what) = none
span_decl (call.Edge when target) = none

abbrev pub tables_of : List BuilderCall → Tables
tables_of calls = record {
  props = filter_map prop_decl calls;
  prop_names = names_of sort.Prop calls;
  hosts = names_of sort.Host calls;
  spans = names_of sort.Span calls;
  nodes = names_of sort.Node calls;
}

-- the greatest value of the property of this name; of one that is not there, the greatest of all
abbrev pub greatest_of : Tables → List ℕ → ℕ
greatest_of t prop = unwrap_or (option_map (λ (p : PropDecl). greatest p.width) (find (λ (p : PropDecl). bytes_eq prop p.name) t.props)) (2 ^ 64 - 1)
