-- The name of a field line, up to its value (RFC 9112, section 5.1).
use Rattle.std.specs.Prelude.{List, ◌++◌}
use Rattle.pp_rules.specs.declared.call.BuilderCall.{BuilderCall}
use Rattle.pp_http.specs.Lines.{node, a_match, lower_match, store, update, test, opens, closes, on, selects, peek, is, otherwise, on_any, peek_any, callback}
use Rattle.pp_http.specs.ByteSets.{ends, blanks, token_bytes}

-- the calls of this part, a line a node
unfoldable pub field_name : List BuilderCall
field_name =
    node "fields" a_match ++ peek_any ends "head" ++ peek_any token_bytes "f_zero" ++ otherwise "e_header" ++
    node "f_zero" (update "field" 0) ++ otherwise "f_open" ++
    node "f_open" (opens "field") ++ otherwise "f_key" ++
    node "f_key" lower_match ++ selects "connection" 1 "f_set" ++ selects "content-length" 2 "f_set" ++ selects "transfer-encoding" 3 "f_set" ++ selects "upgrade" 4 "f_set" ++ otherwise "f_name" ++
    node "f_set" (store "field") ++ otherwise "f_end" ++
    node "f_end" a_match ++ peek ":" "f_close" ++ otherwise "f_gen" ++
    node "f_gen" (update "field" 0) ++ otherwise "f_name" ++
    node "f_name" a_match ++ on_any token_bytes "f_name" ++ peek ":" "f_close" ++ otherwise "e_header" ++
    node "f_close" (closes "field") ++ otherwise "cb_field" ++
    callback "cb_field" "on_header_field_complete" 28 "f_colon" ++
    node "f_colon" a_match ++ on ":" "f_trail" ++ otherwise "e_header" ++
    node "f_trail" (test "flags" 128) ++ is 1 "f_plain" ++ otherwise "f_ows" ++
    node "f_plain" (update "field" 0) ++ otherwise "f_ows" ++
    node "f_ows" a_match ++ on_any blanks "f_ows" ++ otherwise "v_open"
