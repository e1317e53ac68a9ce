use Rattle.std.proofs.Common.{refl}
use Rattle.pp_http.proofs.Unfolded.{http_calls, heading, start, method, target, version, status, start_line_end, field_name, field_value, connection, content_length, transfer_encoding, head_end, framing, body, until_close, chunks, message_end, method_names, ends, blanks, marks, list_bytes, token_bytes, value_bytes, value_bytes_no_comma, plain_value_bytes, target_bytes, every_byte}
use Rattle.pp_http.proofs.span.places.Goals as goal

pub returns : goal.returns
unfolding http_calls heading start method target version status start_line_end field_name field_value connection content_length transfer_encoding head_end framing body until_close chunks message_end method_names ends blanks marks list_bytes token_bytes value_bytes value_bytes_no_comma plain_value_bytes target_bytes every_byte
returns c = refl
