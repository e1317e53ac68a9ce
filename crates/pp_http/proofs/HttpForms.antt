-- The graph is well-formed.
use Rattle.std.proofs.Common.{◌≡◌, refl, true}
use Rattle.std.specs.List.{list_all}
use Rattle.pp_graph.specs.declared.node.Node.{Node}
use Rattle.pp_graph.specs.Built.{built}
use Rattle.pp_graph.specs.Plan.{IsWellFormed}
use Rattle.pp_graph.proofs.WellFormedLemmas.{IsWellFormed-built}
use Rattle.pp_http.proofs.FormLemmas.{has_form, forms, kind_fits, in_range}
use Rattle.pp_http.proofs.KeptRules.{keeps_rules}
use Rattle.pp_http.proofs.Unfolded.{http_calls, heading, start, method, target, version, status, start_line_end, field_name, field_value, connection, content_length, transfer_encoding, head_end, framing, body, until_close, chunks, message_end, method_names, ends, blanks, marks, list_bytes, token_bytes, value_bytes, value_bytes_no_comma, plain_value_bytes, target_bytes, every_byte}

have_form : list_all has_form http_calls ≡ true
unfolding http_calls heading start method target version status start_line_end field_name field_value connection content_length transfer_encoding head_end framing body until_close chunks message_end method_names ends blanks marks list_bytes token_bytes value_bytes value_bytes_no_comma plain_value_bytes target_bytes every_byte
have_form = refl

have_range : list_all (λ (n : Node). kind_fits n.kind) (built http_calls).nodes ≡ true
unfolding http_calls heading start method target version status start_line_end field_name field_value connection content_length transfer_encoding head_end framing body until_close chunks message_end method_names ends blanks marks list_bytes token_bytes value_bytes value_bytes_no_comma plain_value_bytes target_bytes every_byte
have_range = refl

pub http_well_formed : IsWellFormed (built http_calls)
http_well_formed = IsWellFormed-built http_calls keeps_rules (forms http_calls have_form) (in_range (built http_calls).nodes have_range)
