-- The method of a request, and the space behind it (RFC 9112, section 3.1).
use Rattle.std.specs.Prelude.{List, ◌++◌}
use Rattle.pp_rules.specs.declared.call.BuilderCall.{BuilderCall}
use Rattle.pp_http.specs.Lines.{node, a_match, store, on, otherwise, methods}

-- the calls of this part, a line a node
unfoldable pub method : List BuilderCall
method =
    node "req" a_match ++ methods "m_store" ++ otherwise "e_method" ++
    node "m_store" (store "method") ++ otherwise "m_sp" ++
    node "m_sp" a_match ++ on " " "u_open" ++ otherwise "e_method"
