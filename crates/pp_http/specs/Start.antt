-- The begin of a message: blank lines before it, and what is set anew (RFC 9112, section 2.2).
use Rattle.std.specs.Prelude.{List, ◌++◌}
use Rattle.pp_rules.specs.declared.call.BuilderCall.{BuilderCall}
use Rattle.pp_http.specs.Lines.{node, a_match, load, update, on, peek, is, otherwise, callback}

-- the calls of this part, a line a node
unfoldable pub start : List BuilderCall
start =
    node "start" a_match ++ peek "\r" "start_cr" ++ otherwise "begin" ++
    node "start_cr" a_match ++ on "\r\n" "start" ++ otherwise "e_lf" ++
    node "begin" (update "finish" 2) ++ otherwise "b_flags" ++
    node "b_flags" (update "flags" 0) ++ otherwise "b_len" ++
    node "b_len" (update "length" 0) ++ otherwise "b_up" ++
    node "b_up" (update "upgrade" 0) ++ otherwise "cb_begin" ++
    callback "cb_begin" "on_message_begin" 16 "kind" ++
    node "kind" (load "type") ++ is 2 "res" ++ otherwise "req"
