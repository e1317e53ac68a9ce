-- The calls of the whole graph.
use Rattle.std.specs.Prelude.{List, ◌++◌}
use Rattle.pp_rules.specs.declared.call.BuilderCall.{BuilderCall}
use Rattle.pp_http.specs.Heading.{heading}
use Rattle.pp_http.specs.Start.{start}
use Rattle.pp_http.specs.Method.{method}
use Rattle.pp_http.specs.Target.{target}
use Rattle.pp_http.specs.Version.{version}
use Rattle.pp_http.specs.Status.{status}
use Rattle.pp_http.specs.StartLineEnd.{start_line_end}
use Rattle.pp_http.specs.FieldName.{field_name}
use Rattle.pp_http.specs.FieldValue.{field_value}
use Rattle.pp_http.specs.Connection.{connection}
use Rattle.pp_http.specs.ContentLength.{content_length}
use Rattle.pp_http.specs.TransferEncoding.{transfer_encoding}
use Rattle.pp_http.specs.HeadEnd.{head_end}
use Rattle.pp_http.specs.Framing.{framing}
use Rattle.pp_http.specs.Body.{body}
use Rattle.pp_http.specs.UntilClose.{until_close}
use Rattle.pp_http.specs.Chunks.{chunks}
use Rattle.pp_http.specs.MessageEnd.{message_end}

-- the declarations, then the nodes of each part
unfoldable pub http_calls : List BuilderCall
http_calls =
    heading ++ start ++ method ++ target ++ version ++ status ++ start_line_end ++ field_name ++ field_value ++ connection ++ content_length ++ transfer_encoding ++ head_end ++ framing ++ body ++ until_close ++ chunks ++ message_end
