-- The calls of the graph keep the rules on the edges of a node.
use Rattle.std.proofs.Common.{◌≡◌, refl, List, [], ◌∷◌, ◌++◌, Bool, true, false, ◌&&◌, filter_map}
use Rattle.pp_rules.specs.declared.call.BuilderCall.{BuilderCall}
use Rattle.pp_rules.specs.declared.rules.GraphRule.TheVariants as rule
use Rattle.pp_rules.specs.Calls.{since_after, own_calls}
use Rattle.pp_rules.specs.Edges.{edge_of, keys_of}
use Rattle.pp_rules.specs.Rules.{Keeps}
use Rattle.pp_rules.specs.Rules.Otherwise.{lacks_otherwise}
use Rattle.pp_rules.specs.Rules.Clash.{clashes_with_any}
use Rattle.pp_rules.specs.Rules.SortedKeys.{gaps_with_any}
use Rattle.pp_rules.specs.Rules.Form.{is_empty_key, lower_after, has_upper_case}
use Rattle.pp_http.proofs.WalkLemmas.{keeps_by, walk}
use Rattle.pp_http.proofs.Unfolded.{http_calls, heading, start, method, target, version, status, start_line_end, field_name, field_value, connection, content_length, transfer_encoding, head_end, framing, body, until_close, chunks, message_end, method_names, ends, blanks, marks, list_bytes, token_bytes, value_bytes, value_bytes_no_comma, plain_value_bytes, target_bytes, every_byte}

no_otherwise : walk {S = Unit {0}} (λ s c after. lacks_otherwise c after) (λ s c. s) tt http_calls ≡ true
unfolding http_calls heading start method target version status start_line_end field_name field_value connection content_length transfer_encoding head_end framing body until_close chunks message_end method_names ends blanks marks list_bytes token_bytes value_bytes value_bytes_no_comma plain_value_bytes target_bytes every_byte
no_otherwise = refl

pub no_otherwise_kept : Keeps http_calls rule.NoOtherwise
no_otherwise_kept = keeps_by {S = Unit {0}} (λ s c after. lacks_otherwise c after) (λ s c. s) rule.NoOtherwise http_calls tt (λ before c after. refl) refl no_otherwise

no_clash : walk {S = List BuilderCall} (λ s c after. clashes_with_any (filter_map edge_of s) (edge_of c)) since_after [] http_calls ≡ true
unfolding http_calls heading start method target version status start_line_end field_name field_value connection content_length transfer_encoding head_end framing body until_close chunks message_end method_names ends blanks marks list_bytes token_bytes value_bytes value_bytes_no_comma plain_value_bytes target_bytes every_byte
no_clash = refl

pub no_clash_kept : Keeps http_calls rule.KeyClash
no_clash_kept = keeps_by {S = List BuilderCall} (λ s c after. clashes_with_any (filter_map edge_of s) (edge_of c)) since_after rule.KeyClash http_calls [] (λ before c after. refl) refl no_clash

no_gap : walk {S = List BuilderCall} (λ s c after. gaps_with_any (keys_of (s ++ (c ∷ own_calls after))) (keys_of s) (edge_of c)) since_after [] http_calls ≡ true
unfolding http_calls heading start method target version status start_line_end field_name field_value connection content_length transfer_encoding head_end framing body until_close chunks message_end method_names ends blanks marks list_bytes token_bytes value_bytes value_bytes_no_comma plain_value_bytes target_bytes every_byte
no_gap = refl

pub no_gap_kept : Keeps http_calls rule.PrefixGap
no_gap_kept = keeps_by {S = List BuilderCall} (λ s c after. gaps_with_any (keys_of (s ++ (c ∷ own_calls after))) (keys_of s) (edge_of c)) since_after rule.PrefixGap http_calls [] (λ before c after. refl) refl no_gap

no_empty_key : walk {S = Unit {0}} (λ s c after. is_empty_key (edge_of c)) (λ s c. s) tt http_calls ≡ true
unfolding http_calls heading start method target version status start_line_end field_name field_value connection content_length transfer_encoding head_end framing body until_close chunks message_end method_names ends blanks marks list_bytes token_bytes value_bytes value_bytes_no_comma plain_value_bytes target_bytes every_byte
no_empty_key = refl

pub no_empty_key_kept : Keeps http_calls rule.EmptyKey
no_empty_key_kept = keeps_by {S = Unit {0}} (λ s c after. is_empty_key (edge_of c)) (λ s c. s) rule.EmptyKey http_calls tt (λ before c after. refl) refl no_empty_key

folded_keys : walk {S = Bool} (λ s c after. s && has_upper_case (edge_of c)) lower_after false http_calls ≡ true
unfolding http_calls heading start method target version status start_line_end field_name field_value connection content_length transfer_encoding head_end framing body until_close chunks message_end method_names ends blanks marks list_bytes token_bytes value_bytes value_bytes_no_comma plain_value_bytes target_bytes every_byte
folded_keys = refl

pub folded_keys_kept : Keeps http_calls rule.KeyNotFolded
folded_keys_kept = keeps_by {S = Bool} (λ s c after. s && has_upper_case (edge_of c)) lower_after rule.KeyNotFolded http_calls false (λ before c after. refl) refl folded_keys
