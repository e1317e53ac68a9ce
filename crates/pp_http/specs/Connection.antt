-- The options of a Connection field (RFC 9110, section 7.6.1).
use Rattle.std.specs.Prelude.{List, ◌++◌}
use Rattle.pp_rules.specs.declared.call.BuilderCall.{BuilderCall}
use Rattle.pp_http.specs.Lines.{node, a_match, lower_match, set, on, otherwise, on_any, peek_any}
use Rattle.pp_http.specs.ByteSets.{ends, blanks, value_bytes_no_comma, marks, list_bytes}

-- the calls of this part, a line a node
unfoldable pub connection : List BuilderCall
connection =
    node "c_item" lower_match ++ on_any list_bytes "c_item" ++ on "close" "c_cl" ++ on "keep-alive" "c_ka" ++ on "upgrade" "c_up" ++ peek_any ends "v_close" ++ otherwise "c_run" ++
    node "c_cl" a_match ++ on_any blanks "c_cl" ++ peek_any marks "c_cl_s" ++ otherwise "c_run" ++
    node "c_cl_s" (set "flags" 2) ++ otherwise "c_next" ++
    node "c_ka" a_match ++ on_any blanks "c_ka" ++ peek_any marks "c_ka_s" ++ otherwise "c_run" ++
    node "c_ka_s" (set "flags" 1) ++ otherwise "c_next" ++
    node "c_up" a_match ++ on_any blanks "c_up" ++ peek_any marks "c_up_s" ++ otherwise "c_run" ++
    node "c_up_s" (set "flags" 4) ++ otherwise "c_next" ++
    node "c_next" a_match ++ on "," "c_item" ++ peek_any ends "v_close" ++ otherwise "c_run" ++
    node "c_run" a_match ++ on "," "c_item" ++ on_any value_bytes_no_comma "c_run" ++ peek_any ends "v_close" ++ otherwise "v_odd"
