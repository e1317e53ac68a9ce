-- The moves of the graph that take no byte, and its spans.
use Rattle.std.proofs.Common.{◌≡◌, refl, subst, arith, true, nat_le, slice_index_or}
use Rattle.std.specs.List.{list_all}
use Rattle.pp_graph.specs.Built.{built}
use Rattle.pp_event.specs.Loops.{Reaches, at_entry, FreeWay, IsGap}
use Rattle.pp_mean.specs.Loops.{graph_moves}
use Rattle.pp_http.specs.Accepted.{IsAccepted}
use Rattle.pp_http.proofs.RankTable.{ranks}
use Rattle.pp_http.proofs.SpanTable.{open_spans}
use Rattle.pp_http.proofs.WayTable.{parts, longest}
use Rattle.pp_http.proofs.RankLemmas.{all_fall, loop_free, at_most}
use Rattle.pp_http.proofs.WayLemmas.{are_parts, are_free, parts-reach, free-way}
use Rattle.pp_http.proofs.StandLemmas.{all_stand, spans_fit}
use Rattle.pp_http.proofs.HttpForms.{http_well_formed}
use Rattle.pp_http.proofs.Unfolded.{http_calls, heading, start, method, target, version, status, start_line_end, field_name, field_value, connection, content_length, transfer_encoding, head_end, framing, body, until_close, chunks, message_end, method_names, ends, blanks, marks, list_bytes, token_bytes, value_bytes, value_bytes_no_comma, plain_value_bytes, target_bytes, every_byte}

-- by the table of ranks
ranks_fall : all_fall ranks ranks (built http_calls).nodes ≡ true
unfolding http_calls heading start method target version status start_line_end field_name field_value connection content_length transfer_encoding head_end framing body until_close chunks message_end method_names ends blanks marks list_bytes token_bytes value_bytes value_bytes_no_comma plain_value_bytes target_bytes every_byte ranks
ranks_fall = refl

ranks_bound : list_all (λ r. nat_le r 35) ranks ≡ true
unfolding ranks
ranks_bound = refl

-- by the table of a longest way
parts_lead : are_parts (built http_calls).nodes 85 0 parts ≡ true
unfolding http_calls heading start method target version status start_line_end field_name field_value connection content_length transfer_encoding head_end framing body until_close chunks message_end method_names ends blanks marks list_bytes token_bytes value_bytes value_bytes_no_comma plain_value_bytes target_bytes every_byte parts
parts_lead = refl

longest_leads : are_free (built http_calls).nodes 0 112 longest ≡ true
unfolding http_calls heading start method target version status start_line_end field_name field_value connection content_length transfer_encoding head_end framing body until_close chunks message_end method_names ends blanks marks list_bytes token_bytes value_bytes value_bytes_no_comma plain_value_bytes target_bytes every_byte longest
longest_leads = refl

begins_at : (built http_calls).entry ≡ 0
unfolding http_calls heading start method target version status start_line_end field_name field_value connection content_length transfer_encoding head_end framing body until_close chunks message_end method_names ends blanks marks list_bytes token_bytes value_bytes value_bytes_no_comma plain_value_bytes target_bytes every_byte
begins_at = refl

parts_reach : Reaches (graph_moves (built http_calls)) 0 112
unfolding parts
parts_reach = parts-reach (built http_calls) http_well_formed 85 0 parts (subst (λ n. Reaches (graph_moves (built http_calls)) 85 n) begins_at (at_entry (omega arith))) parts_lead

longest_way : FreeWay (graph_moves (built http_calls)) 0 112 35 192
unfolding longest
longest_way = free-way (built http_calls) http_well_formed 0 112 longest longest_leads

http_gap : IsGap (graph_moves (built http_calls)) 35
http_gap = record {
  most = at_most (built http_calls) http_well_formed ranks ranks_fall 35 ranks_bound;
  met = (0, 112, 192, parts_reach, longest_way);
}

-- by the table of open spans
spans_stand : all_stand open_spans open_spans (built http_calls).nodes ≡ true
unfolding http_calls heading start method target version status start_line_end field_name field_value connection content_length transfer_encoding head_end framing body until_close chunks message_end method_names ends blanks marks list_bytes token_bytes value_bytes value_bytes_no_comma plain_value_bytes target_bytes every_byte open_spans
spans_stand = refl

none_open : slice_index_or open_spans (built http_calls).entry 0 ≡ 0
unfolding http_calls heading start method target version status start_line_end field_name field_value connection content_length transfer_encoding head_end framing body until_close chunks message_end method_names ends blanks marks list_bytes token_bytes value_bytes value_bytes_no_comma plain_value_bytes target_bytes every_byte open_spans
none_open = refl

pub http_accepted : IsAccepted (built http_calls)
http_accepted = record {
  well_formed = http_well_formed;
  loop_free = loop_free (built http_calls) http_well_formed ranks ranks_fall;
  gap = http_gap;
  spans_fit = spans_fit (built http_calls) open_spans spans_stand none_open;
}
