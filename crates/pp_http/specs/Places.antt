-- The places of names in the graph.
use Rattle.std.specs.Prelude.{ℕ, List, map}
use Rattle.pp_rules.specs.declared.declaration.PropDecl.{PropDecl}
use Rattle.pp_rules.specs.declared.declaration.HostDecl.{HostDecl}
use Rattle.pp_rules.specs.declared.declaration.SpanDecl.{SpanDecl}
use Rattle.pp_graph.specs.Built.{built, place_of}
use Rattle.pp_http.specs.HttpGraph.{http_calls}

-- the places of these names among its properties
abbrev pub prop_places : List (List ℕ) → List ℕ
prop_places names = map (place_of (map (λ (p : PropDecl). p.name) (built http_calls).props)) names

-- among its host codes
abbrev pub host_places : List (List ℕ) → List ℕ
host_places names = map (place_of (map (λ (h : HostDecl). h.name) (built http_calls).hosts)) names

-- among its spans
abbrev pub span_places : List (List ℕ) → List ℕ
span_places names = map (place_of (map (λ (s : SpanDecl). s.name) (built http_calls).spans)) names
