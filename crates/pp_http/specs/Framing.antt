-- How the body of a message is delimited (RFC 9112, section 6.3).
use Rattle.std.specs.Prelude.{List, ◌++◌}
use Rattle.pp_rules.specs.declared.call.BuilderCall.{BuilderCall}
use Rattle.pp_http.specs.Lines.{node, load, equal, test, is, otherwise}

-- the calls of this part, a line a node
unfoldable pub framing : List BuilderCall
framing =
    node "w_kind" (load "type") ++ is 2 "w_info" ++ otherwise "w_te" ++
    node "w_info" (test "flags" 512) ++ is 1 "cb_done" ++ otherwise "w_stat" ++
    node "w_stat" (load "status") ++ is 204 "cb_done" ++ is 304 "cb_done" ++ otherwise "w_te" ++
    node "w_te" (test "flags" 256) ++ is 1 "w_chunk" ++ otherwise "w_cl" ++
    node "w_chunk" (test "flags" 8) ++ is 1 "k_zero" ++ otherwise "w_last" ++
    node "w_last" (load "type") ++ is 2 "x_fin" ++ otherwise "w_any" ++
    node "w_any" (test "lenient" 8) ++ is 1 "x_fin" ++ otherwise "e_coding" ++
    node "w_cl" (test "flags" 32) ++ is 1 "w_nil" ++ otherwise "w_none" ++
    node "w_nil" (equal "length" 0) ++ is 1 "cb_done" ++ otherwise "d_open" ++
    node "w_none" (load "type") ++ is 2 "x_fin" ++ otherwise "cb_done"
