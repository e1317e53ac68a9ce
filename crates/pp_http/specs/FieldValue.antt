-- The value of a field line (RFC 9110, section 5.5; RFC 9112, section 5.2).
use Rattle.std.specs.Prelude.{List, ◌++◌}
use Rattle.pp_rules.specs.declared.call.BuilderCall.{BuilderCall}
use Rattle.pp_http.specs.Lines.{node, a_match, load, set, test, opens, closes, is, otherwise, skip, on_any, peek_any, callback, line_end}
use Rattle.pp_http.specs.ByteSets.{ends, value_bytes}

-- the calls of this part, a line a node
unfoldable pub field_value : List BuilderCall
field_value =
    node "v_open" (opens "value") ++ otherwise "v_kind" ++
    node "v_kind" (load "field") ++ is 1 "c_item" ++ is 2 "l_once" ++ is 3 "t_both" ++ is 4 "up_set" ++ otherwise "v_run" ++
    node "v_run" a_match ++ on_any value_bytes "v_run" ++ peek_any ends "v_close" ++ otherwise "v_odd" ++
    node "v_odd" (test "lenient" 1) ++ is 1 "v_take" ++ otherwise "e_value" ++
    node "v_take" a_match ++ skip "v_run" ++
    node "v_close" (closes "value") ++ otherwise "cb_value" ++
    callback "cb_value" "on_header_value_complete" 29 "v_eol" ++
    line_end "v_eol" "fields" ++
    node "up_set" (set "flags" 16) ++ otherwise "v_run"
