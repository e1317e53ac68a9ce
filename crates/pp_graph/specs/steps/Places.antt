-- The places of declarations, as tables have them.
use Rattle.std.specs.Prelude.{◌≡◌, ℕ, suc, ◌+◌, ◌<◌, ◌^◌, List, [], ◌∷◌, Option, Some, None, if◌then◌else◌, option_map, length, bytes_eq}
use Rattle.pp_rules.specs.declared.call.BuilderCall.{BuilderCall}
use Rattle.pp_rules.specs.declared.call.Sort.TheVariants as sort
use Rattle.pp_rules.specs.Calls.{names_of}
use Rattle.pp_rules.specs.NameTables.{value_at}
use Rattle.pp_graph.specs.declared.places.NamePlaces.{NamePlaces}
use Rattle.pp_graph.specs.declared.places.SortPlaces.{SortPlaces}

-- the place of the first of these names that is equal, if there is one
abbrev pub place_among : List (List ℕ) → List ℕ → Option ℕ
place_among [] name = None
place_among (other ∷ names) name = if bytes_eq name other then Some 0 else option_map suc (place_among names name)

-- the table has the places of these names, and counts them
pub record HasPlaces (places : NamePlaces) (names : List (List ℕ)) : Type 0 where
  pub first : (name : List ℕ) → value_at places.first name ≡ place_among names name
  pub count : places.count ≡ length names

-- each table counts one more
pub record HaveRoom (places : SortPlaces) : Type 0 where
  pub props : places.props.count + 1 < 2 ^ 32
  pub hosts : places.hosts.count + 1 < 2 ^ 32
  pub spans : places.spans.count + 1 < 2 ^ 32
  pub nodes : places.nodes.count + 1 < 2 ^ 32

-- the tables have the places of what these calls declare
pub record ArePlaces (places : SortPlaces) (calls : List BuilderCall) : Type 0 where
  pub props : HasPlaces places.props (names_of sort.Prop calls)
  pub hosts : HasPlaces places.hosts (names_of sort.Host calls)
  pub spans : HasPlaces places.spans (names_of sort.Span calls)
  pub nodes : HasPlaces places.nodes (names_of sort.Node calls)
