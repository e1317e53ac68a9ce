-- A body of a stated length (RFC 9112, section 6.2).
use Rattle.std.specs.Prelude.{List, ◌++◌}
use Rattle.pp_rules.specs.declared.call.BuilderCall.{BuilderCall}
use Rattle.pp_http.specs.Lines.{node, consume, opens, closes, otherwise}

-- the calls of this part, a line a node
unfoldable pub body : List BuilderCall
body =
    node "d_open" (opens "body") ++ otherwise "d_take" ++
    node "d_take" (consume "length") ++ otherwise "d_close" ++
    node "d_close" (closes "body") ++ otherwise "cb_done"
