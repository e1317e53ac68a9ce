-- The codings of a Transfer-Encoding field (RFC 9112, section 6.1).
use Rattle.std.specs.Prelude.{List, ◌++◌}
use Rattle.pp_rules.specs.declared.call.BuilderCall.{BuilderCall}
use Rattle.pp_http.specs.Lines.{node, a_match, lower_match, equal, mask, set, test, on, is, otherwise, on_any, peek_any}
use Rattle.pp_http.specs.ByteSets.{ends, blanks, plain_value_bytes, marks, list_bytes}

-- the calls of this part, a line a node
unfoldable pub transfer_encoding : List BuilderCall
transfer_encoding =
    node "t_both" (test "flags" 32) ++ is 1 "t_len" ++ otherwise "t_ver" ++
    node "t_len" (test "lenient" 2) ++ is 1 "t_ver" ++ otherwise "e_both" ++
    node "t_ver" (equal "minor" 0) ++ is 1 "e_coding" ++ otherwise "t_set" ++
    node "t_set" (set "flags" 256) ++ otherwise "t_item" ++
    node "t_item" a_match ++ on_any list_bytes "t_item" ++ peek_any ends "v_close" ++ otherwise "t_new" ++
    node "t_new" (mask "flags" 65527) ++ otherwise "t_word" ++
    node "t_word" lower_match ++ on "chunked" "t_end" ++ otherwise "t_run" ++
    node "t_end" a_match ++ on_any blanks "t_end" ++ peek_any marks "t_mark" ++ otherwise "t_run" ++
    node "t_mark" (set "flags" 8) ++ otherwise "t_next" ++
    node "t_next" a_match ++ on "," "t_item" ++ peek_any ends "v_close" ++ otherwise "t_run" ++
    node "t_run" a_match ++ on "," "t_item" ++ on_any plain_value_bytes "t_run" ++ peek_any ends "v_close" ++ otherwise "e_coding"
