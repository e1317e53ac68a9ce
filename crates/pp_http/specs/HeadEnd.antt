-- The end of the head or of the trailer section, and what the host answers there (RFC 9110, sections 7.8 and 9.3.6).
use Rattle.std.specs.Prelude.{List, ◌++◌}
use Rattle.pp_rules.specs.declared.call.BuilderCall.{BuilderCall}
use Rattle.pp_http.specs.Lines.{node, asks, load, update, equal, set, test, pause, error, is, otherwise, callback, line_end}

-- the calls of this part, a line a node
unfoldable pub head_end : List BuilderCall
head_end =
    line_end "head" "h_trail" ++
    node "h_trail" (test "flags" 128) ++ is 1 "cb_last" ++ otherwise "h_kind" ++
    callback "cb_last" "on_chunk_complete" 20 "cb_done" ++
    node "h_kind" (load "type") ++ is 2 "h_101" ++ otherwise "h_connect" ++
    node "h_101" (equal "status" 101) ++ is 1 "h_up" ++ otherwise "cb_head" ++
    node "h_connect" (equal "method" 5) ++ is 1 "h_up" ++ otherwise "h_field" ++
    node "h_field" (test "flags" 20) ++ is 1 "h_up" ++ otherwise "cb_head" ++
    node "h_up" (update "upgrade" 1) ++ otherwise "cb_head" ++
    node "cb_head" (asks "on_headers_complete") ++ is 0 "w_kind" ++ is 1 "h_skip" ++ is 2 "h_tunnel" ++ is 21 "cb_head_p" ++ otherwise "cb_head_e" ++
    node "cb_head_p" (pause 21 "on_headers_complete") ++ otherwise "w_kind" ++
    node "cb_head_e" (error 17 "on_headers_complete") ++
    node "h_tunnel" (update "upgrade" 1) ++ otherwise "h_skip" ++
    node "h_skip" (set "flags" 64) ++ otherwise "cb_done"
