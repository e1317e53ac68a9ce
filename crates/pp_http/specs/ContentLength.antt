-- The value of a Content-Length field (RFC 9110, section 8.6; RFC 9112, section 6.3).
use Rattle.std.specs.Prelude.{List, ◌++◌}
use Rattle.pp_rules.specs.declared.call.BuilderCall.{BuilderCall}
use Rattle.pp_http.specs.Lines.{node, a_match, set, test, muladd, is, otherwise, on_any, peek_any, digits}
use Rattle.pp_http.specs.ByteSets.{ends, blanks}

-- the calls of this part, a line a node
unfoldable pub content_length : List BuilderCall
content_length =
    node "l_once" (test "flags" 32) ++ is 1 "e_two" ++ otherwise "l_te" ++
    node "l_te" (test "flags" 256) ++ is 1 "l_len" ++ otherwise "l_set" ++
    node "l_len" (test "lenient" 2) ++ is 1 "l_set" ++ otherwise "e_both" ++
    node "l_set" (set "flags" 32) ++ otherwise "l_first" ++
    node "l_first" a_match ++ digits "l_add" ++ otherwise "e_length" ++
    node "l_add" (muladd "length" 10) ++ is 1 "e_length" ++ otherwise "l_more" ++
    node "l_more" a_match ++ digits "l_add" ++ on_any blanks "l_ws" ++ peek_any ends "v_close" ++ otherwise "e_length" ++
    node "l_ws" a_match ++ on_any blanks "l_ws" ++ peek_any ends "v_close" ++ otherwise "e_length"
