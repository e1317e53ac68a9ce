-- The status line of a response (RFC 9112, section 4).
use Rattle.std.specs.Prelude.{List, ◌++◌}
use Rattle.pp_rules.specs.declared.call.BuilderCall.{BuilderCall}
use Rattle.pp_http.specs.Lines.{node, a_match, store, equal, set, muladd, opens, closes, on, is, otherwise, on_any, peek_any, digits, callback}
use Rattle.pp_http.specs.ByteSets.{ends, value_bytes}

-- the calls of this part, a line a node
unfoldable pub status : List BuilderCall
status =
    node "res" a_match ++ on "HTTP/" "v_major" ++ otherwise "e_const" ++
    node "s_sp" a_match ++ on " " "s_1" ++ otherwise "e_version" ++
    node "s_1" a_match ++ digits "s_1s" ++ otherwise "e_status" ++
    node "s_1s" (store "status") ++ otherwise "s_class" ++
    node "s_class" (equal "status" 1) ++ is 1 "s_info" ++ otherwise "s_2" ++
    node "s_info" (set "flags" 512) ++ otherwise "s_2" ++
    node "s_2" a_match ++ digits "s_2m" ++ otherwise "e_status" ++
    node "s_2m" (muladd "status" 10) ++ otherwise "s_3" ++
    node "s_3" a_match ++ digits "s_3m" ++ otherwise "e_status" ++
    node "s_3m" (muladd "status" 10) ++ otherwise "s_end" ++
    node "s_end" a_match ++ on " " "r_open" ++ peek_any ends "cb_status" ++ otherwise "e_status" ++
    node "r_open" (opens "status") ++ otherwise "r_run" ++
    node "r_run" a_match ++ on_any value_bytes "r_run" ++ peek_any ends "r_close" ++ otherwise "e_status" ++
    node "r_close" (closes "status") ++ otherwise "cb_status" ++
    callback "cb_status" "on_status_complete" 27 "line"
