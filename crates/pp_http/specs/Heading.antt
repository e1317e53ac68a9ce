-- What the graph declares: properties, host codes, spans, the entry and the finish rule.
use Rattle.std.specs.Prelude.{List, [], ◌∷◌, ◌++◌, codes, false}
use Prim.Native.String.{String}
use Rattle.pp_rules.specs.declared.declaration.Width.{Width}
use Rattle.pp_rules.specs.declared.declaration.Width.TheVariants.{W8, W16, W64}
use Rattle.pp_rules.specs.declared.call.BuilderCall.{BuilderCall}
use Rattle.pp_rules.specs.declared.call.BuilderCall.TheVariants as call

-- a property
abbrev pub prop : String → Width → List BuilderCall
prop name width = call.Prop (codes name) width ∷ []

-- a host code that is asked without a number
abbrev pub host : String → List BuilderCall
host name = call.Host (codes name) false ∷ []

-- a span
abbrev pub span : String → List BuilderCall
span name = call.Span (codes name) ∷ []

-- the declarations, in the order of their places
unfoldable pub heading : List BuilderCall
heading =
    prop "type" W8 ++ prop "method" W8 ++ prop "major" W8 ++ prop "minor" W8 ++ prop "status" W16 ++ prop "lenient" W16 ++
    prop "flags" W16 ++ prop "length" W64 ++ prop "finish" W8 ++ prop "upgrade" W8 ++ prop "field" W8 ++
    host "on_message_begin" ++ host "on_url_complete" ++ host "on_status_complete" ++ host "on_header_field_complete" ++
    host "on_header_value_complete" ++ host "on_headers_complete" ++ host "on_chunk_header" ++ host "on_chunk_complete" ++
    host "on_message_complete" ++
    span "url" ++ span "status" ++ span "field" ++ span "value" ++ span "body" ++
    call.Entry (codes "start") ∷ call.Finish (codes "finish") (codes "on_message_complete") ∷ []
