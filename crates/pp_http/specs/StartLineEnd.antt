-- The end of the start line (RFC 9112, section 2.2).
use Rattle.std.specs.Prelude.{List}
use Rattle.pp_rules.specs.declared.call.BuilderCall.{BuilderCall}
use Rattle.pp_http.specs.Lines.{line_end}

-- the calls of this part, a line a node
unfoldable pub start_line_end : List BuilderCall
start_line_end =
    line_end "line" "fields"
