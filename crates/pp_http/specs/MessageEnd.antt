-- The end of a message, what follows on the connection, and the errors (RFC 9112, sections 9.3 and 9.6).
use Rattle.std.specs.Prelude.{List, ◌++◌}
use Rattle.pp_rules.specs.declared.call.BuilderCall.{BuilderCall}
use Rattle.pp_http.specs.Lines.{node, a_match, update, equal, test, pause, error, is, otherwise, skip, on_any, callback}
use Rattle.pp_http.specs.ByteSets.{ends}

-- the calls of this part, a line a node
unfoldable pub message_end : List BuilderCall
message_end =
    callback "cb_done" "on_message_complete" 18 "z_up" ++
    node "z_up" (equal "upgrade" 1) ++ is 1 "z_up_f" ++ otherwise "z_close" ++
    node "z_up_f" (update "finish" 0) ++ otherwise "z_up_p" ++
    node "z_up_p" (pause 22 "Upgrade") ++ otherwise "start" ++
    node "z_close" (test "flags" 2) ++ is 1 "z_len" ++ otherwise "z_ver" ++
    node "z_ver" (equal "minor" 0) ++ is 1 "z_ka" ++ otherwise "z_next" ++
    node "z_ka" (test "flags" 1) ++ is 1 "z_next" ++ otherwise "z_len" ++
    node "z_len" (test "lenient" 4) ++ is 1 "z_next" ++ otherwise "z_end" ++
    node "z_next" (update "finish" 0) ++ otherwise "start" ++
    node "z_end" (update "finish" 0) ++ otherwise "closed" ++
    node "closed" a_match ++ on_any ends "closed" ++ otherwise "closed_t" ++
    node "closed_t" (test "lenient" 32) ++ is 1 "closed_any" ++ otherwise "e_closed" ++
    node "closed_any" a_match ++ skip "closed" ++
    node "e_lf" (error 3 "Expected LF after CR") ++
    node "e_cr" (error 25 "Expected CR") ++
    node "e_method" (error 6 "Invalid method") ++
    node "e_url" (error 7 "Invalid URL") ++
    node "e_const" (error 8 "Expected HTTP/") ++
    node "e_version" (error 9 "Invalid version") ++
    node "e_header" (error 10 "Invalid header token") ++
    node "e_value" (error 10 "Invalid header value") ++
    node "e_length" (error 11 "Invalid Content-Length") ++
    node "e_chunk" (error 12 "Invalid chunk size") ++
    node "e_status" (error 13 "Invalid status") ++
    node "e_coding" (error 15 "Invalid Transfer-Encoding") ++
    node "e_two" (error 4 "Second Content-Length") ++
    node "e_both" (error 4 "Content-Length beside Transfer-Encoding") ++
    node "e_closed" (error 5 "Data after close")
