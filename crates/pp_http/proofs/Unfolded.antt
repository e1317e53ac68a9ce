-- All that has to be unfolded where the graph is computed.
unfoldable pub use Rattle.pp_http.specs.HttpGraph.{http_calls}
unfoldable pub use Rattle.pp_http.specs.Heading.{heading}
unfoldable pub use Rattle.pp_http.specs.Start.{start}
unfoldable pub use Rattle.pp_http.specs.Method.{method}
unfoldable pub use Rattle.pp_http.specs.Target.{target}
unfoldable pub use Rattle.pp_http.specs.Version.{version}
unfoldable pub use Rattle.pp_http.specs.Status.{status}
unfoldable pub use Rattle.pp_http.specs.StartLineEnd.{start_line_end}
unfoldable pub use Rattle.pp_http.specs.FieldName.{field_name}
unfoldable pub use Rattle.pp_http.specs.FieldValue.{field_value}
unfoldable pub use Rattle.pp_http.specs.Connection.{connection}
unfoldable pub use Rattle.pp_http.specs.ContentLength.{content_length}
unfoldable pub use Rattle.pp_http.specs.TransferEncoding.{transfer_encoding}
unfoldable pub use Rattle.pp_http.specs.HeadEnd.{head_end}
unfoldable pub use Rattle.pp_http.specs.Framing.{framing}
unfoldable pub use Rattle.pp_http.specs.Body.{body}
unfoldable pub use Rattle.pp_http.specs.UntilClose.{until_close}
unfoldable pub use Rattle.pp_http.specs.Chunks.{chunks}
unfoldable pub use Rattle.pp_http.specs.MessageEnd.{message_end}
unfoldable pub use Rattle.pp_http.specs.Lines.{method_names}
unfoldable pub use Rattle.pp_http.specs.ByteSets.{ends, blanks, marks, list_bytes, token_bytes, value_bytes, value_bytes_no_comma, plain_value_bytes, target_bytes, every_byte}
