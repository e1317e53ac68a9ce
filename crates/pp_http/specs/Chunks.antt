-- A body in chunks (RFC 9112, section 7.1).
use Rattle.std.specs.Prelude.{List, ◌++◌}
use Rattle.pp_rules.specs.declared.call.BuilderCall.{BuilderCall}
use Rattle.pp_http.specs.Lines.{node, a_match, lower_match, update, equal, set, test, muladd, consume, opens, closes, on, peek, is, otherwise, skip, on_any, peek_any, hexs, callback, line_end}
use Rattle.pp_http.specs.ByteSets.{ends, value_bytes}

-- the calls of this part, a line a node
unfoldable pub chunks : List BuilderCall
chunks =
    node "k_zero" (update "length" 0) ++ otherwise "k_first" ++
    node "k_first" lower_match ++ hexs "k_add" ++ otherwise "e_chunk" ++
    node "k_add" (muladd "length" 16) ++ is 1 "e_chunk" ++ otherwise "k_more" ++
    node "k_more" lower_match ++ hexs "k_add" ++ peek_any ends "k_line" ++ peek ";" "k_ext" ++ peek " " "k_sp" ++ otherwise "e_chunk" ++
    node "k_sp" (test "lenient" 512) ++ is 1 "k_blank" ++ otherwise "e_chunk" ++
    node "k_blank" a_match ++ on " " "k_blank" ++ peek_any ends "k_line" ++ peek ";" "k_ext" ++ otherwise "e_chunk" ++
    node "k_ext" a_match ++ on_any value_bytes "k_ext" ++ peek_any ends "k_line" ++ otherwise "e_chunk" ++
    line_end "k_line" "cb_chunk" ++
    callback "cb_chunk" "on_chunk_header" 19 "k_last" ++
    node "k_last" (equal "length" 0) ++ is 1 "k_trail" ++ otherwise "k_open" ++
    node "k_trail" (set "flags" 128) ++ otherwise "fields" ++
    node "k_open" (opens "body") ++ otherwise "k_take" ++
    node "k_take" (consume "length") ++ otherwise "k_close" ++
    node "k_close" (closes "body") ++ otherwise "k_end" ++
    node "k_end" a_match ++ on "\r" "k_end_lf" ++ peek "\n" "k_end_b" ++ otherwise "k_opt" ++
    node "k_end_lf" a_match ++ on "\n" "cb_part" ++ otherwise "k_end_c" ++
    node "k_end_c" (test "lenient" 64) ++ is 1 "cb_part" ++ otherwise "e_lf" ++
    node "k_end_b" (test "lenient" 256) ++ is 1 "k_end_n" ++ otherwise "e_cr" ++
    node "k_end_n" a_match ++ skip "cb_part" ++
    node "k_opt" (test "lenient" 128) ++ is 1 "cb_part" ++ otherwise "e_cr" ++
    callback "cb_part" "on_chunk_complete" 20 "k_zero"
