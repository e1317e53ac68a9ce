-- The version of a message (RFC 9112, section 2.3).
use Rattle.std.specs.Prelude.{List, ◌++◌}
use Rattle.pp_rules.specs.declared.call.BuilderCall.{BuilderCall}
use Rattle.pp_http.specs.Lines.{node, a_match, store, load, equal, test, on, is, otherwise, digits}

-- the calls of this part, a line a node
unfoldable pub version : List BuilderCall
version =
    node "v_major" a_match ++ digits "v_major_s" ++ otherwise "e_version" ++
    node "v_major_s" (store "major") ++ otherwise "v_dot" ++
    node "v_dot" a_match ++ on "." "v_minor" ++ otherwise "e_version" ++
    node "v_minor" a_match ++ digits "v_minor_s" ++ otherwise "e_version" ++
    node "v_minor_s" (store "minor") ++ otherwise "v_any" ++
    node "v_any" (test "lenient" 16) ++ is 1 "v_next" ++ otherwise "v_one" ++
    node "v_one" (equal "major" 1) ++ is 1 "v_low" ++ otherwise "e_version" ++
    node "v_low" (load "minor") ++ is 0 "v_next" ++ is 1 "v_next" ++ otherwise "e_version" ++
    node "v_next" (load "type") ++ is 2 "s_sp" ++ otherwise "line"
