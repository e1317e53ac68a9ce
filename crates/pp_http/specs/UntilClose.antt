-- A body that ends with the connection (RFC 9112, section 6.3).
use Rattle.std.specs.Prelude.{List, ◌++◌}
use Rattle.pp_rules.specs.declared.call.BuilderCall.{BuilderCall}
use Rattle.pp_http.specs.Lines.{node, a_match, update, opens, otherwise, on_any}
use Rattle.pp_http.specs.ByteSets.{every_byte}

-- the calls of this part, a line a node
unfoldable pub until_close : List BuilderCall
until_close =
    node "x_fin" (update "finish" 1) ++ otherwise "x_open" ++
    node "x_open" (opens "body") ++ otherwise "x_run" ++
    node "x_run" a_match ++ on_any every_byte "x_run" ++ otherwise "e_closed"
