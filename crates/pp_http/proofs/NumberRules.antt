-- The calls of the graph keep the rules on numbers, and pass no limit.
use Rattle.std.proofs.Common.{◌≡◌, refl, sym, ap, List, [], true}
use Rattle.pp_rules.specs.declared.call.BuilderCall.{BuilderCall}
use Rattle.pp_rules.specs.declared.rules.GraphRule.TheVariants as rule
use Rattle.pp_rules.specs.Rules.{Keeps}
use Rattle.pp_rules.specs.Rules.Numbers.{is_value_fault, is_too_wide}
use Rattle.pp_rules.specs.Rules.Limits.{passes_limit}
use Rattle.pp_http.proofs.WalkLemmas.{keeps_by, walk, snoc, snoc_all}
use Rattle.pp_http.proofs.Unfolded.{http_calls, heading, start, method, target, version, status, start_line_end, field_name, field_value, connection, content_length, transfer_encoding, head_end, framing, body, until_close, chunks, message_end, method_names, ends, blanks, marks, list_bytes, token_bytes, value_bytes, value_bytes_no_comma, plain_value_bytes, target_bytes, every_byte}

value_targets : walk {S = Unit {0}} (λ s c after. is_value_fault http_calls c) (λ s c. s) tt http_calls ≡ true
unfolding http_calls heading start method target version status start_line_end field_name field_value connection content_length transfer_encoding head_end framing body until_close chunks message_end method_names ends blanks marks list_bytes token_bytes value_bytes value_bytes_no_comma plain_value_bytes target_bytes every_byte
value_targets = refl

pub value_targets_kept : Keeps http_calls rule.ValueTarget
value_targets_kept = keeps_by {S = Unit {0}} (λ s c after. is_value_fault http_calls c) (λ s c. s) rule.ValueTarget http_calls tt (λ before c after. refl) refl value_targets

not_wide : walk {S = Unit {0}} (λ s c after. is_too_wide http_calls c) (λ s c. s) tt http_calls ≡ true
unfolding http_calls heading start method target version status start_line_end field_name field_value connection content_length transfer_encoding head_end framing body until_close chunks message_end method_names ends blanks marks list_bytes token_bytes value_bytes value_bytes_no_comma plain_value_bytes target_bytes every_byte
not_wide = refl

pub not_wide_kept : Keeps http_calls rule.ValueTooWide
not_wide_kept = keeps_by {S = Unit {0}} (λ s c after. is_too_wide http_calls c) (λ s c. s) rule.ValueTooWide http_calls tt (λ before c after. refl) refl not_wide

not_many : walk {S = List BuilderCall} (λ s c after. passes_limit s c) snoc [] http_calls ≡ true
unfolding http_calls heading start method target version status start_line_end field_name field_value connection content_length transfer_encoding head_end framing body until_close chunks message_end method_names ends blanks marks list_bytes token_bytes value_bytes value_bytes_no_comma plain_value_bytes target_bytes every_byte
not_many = refl

pub not_many_kept : Keeps http_calls rule.TooMany
not_many_kept = keeps_by {S = List BuilderCall} (λ s c after. passes_limit s c) snoc rule.TooMany http_calls [] (λ before c after. ap (λ b. passes_limit b c) (sym (snoc_all before))) refl not_many
