-- The target of a request, and the name of the protocol (RFC 9112, section 3.2).
use Rattle.std.specs.Prelude.{List, ◌++◌}
use Rattle.pp_rules.specs.declared.call.BuilderCall.{BuilderCall}
use Rattle.pp_http.specs.Lines.{node, a_match, opens, closes, on, peek, otherwise, on_any, callback}
use Rattle.pp_http.specs.ByteSets.{target_bytes}

-- the calls of this part, a line a node
unfoldable pub target : List BuilderCall
target =
    node "u_open" (opens "url") ++ otherwise "u_first" ++
    node "u_first" a_match ++ on_any target_bytes "u_run" ++ otherwise "e_url" ++
    node "u_run" a_match ++ on_any target_bytes "u_run" ++ peek " " "u_close" ++ otherwise "e_url" ++
    node "u_close" (closes "url") ++ otherwise "cb_url" ++
    callback "cb_url" "on_url_complete" 26 "u_http" ++
    node "u_http" a_match ++ on " HTTP/" "v_major" ++ otherwise "e_const"
