-- The calls of the graph keep the rules on names.
use Rattle.std.proofs.Common.{◌≡◌, refl, sym, ap, List, [], true, false}
use Rattle.pp_rules.specs.declared.call.BuilderCall.{BuilderCall}
use Rattle.pp_rules.specs.declared.rules.GraphRule.TheVariants as rule
use Rattle.pp_rules.specs.Rules.{Keeps}
use Rattle.pp_rules.specs.Rules.Names.{is_duplicate, names_unknown}
use Rattle.pp_http.proofs.WalkLemmas.{keeps_by, walk, snoc, snoc_all}
use Rattle.pp_http.proofs.Unfolded.{http_calls, heading, start, method, target, version, status, start_line_end, field_name, field_value, connection, content_length, transfer_encoding, head_end, framing, body, until_close, chunks, message_end, method_names, ends, blanks, marks, list_bytes, token_bytes, value_bytes, value_bytes_no_comma, plain_value_bytes, target_bytes, every_byte}

no_duplicate : walk {S = List BuilderCall} (λ s c after. is_duplicate s c) snoc [] http_calls ≡ true
unfolding http_calls heading start method target version status start_line_end field_name field_value connection content_length transfer_encoding head_end framing body until_close chunks message_end method_names ends blanks marks list_bytes token_bytes value_bytes value_bytes_no_comma plain_value_bytes target_bytes every_byte
no_duplicate = refl

pub no_duplicate_kept : Keeps http_calls rule.DuplicateName
no_duplicate_kept = keeps_by {S = List BuilderCall} (λ s c after. is_duplicate s c) snoc rule.DuplicateName http_calls [] (λ before c after. ap (λ b. is_duplicate b c) (sym (snoc_all before))) refl no_duplicate

known_names : walk {S = Unit {0}} (λ s c after. names_unknown http_calls c) (λ s c. s) tt http_calls ≡ true
unfolding http_calls heading start method target version status start_line_end field_name field_value connection content_length transfer_encoding head_end framing body until_close chunks message_end method_names ends blanks marks list_bytes token_bytes value_bytes value_bytes_no_comma plain_value_bytes target_bytes every_byte
known_names = refl

pub known_names_kept : Keeps http_calls rule.UnknownName
known_names_kept = keeps_by {S = Unit {0}} (λ s c after. names_unknown http_calls c) (λ s c. s) rule.UnknownName http_calls tt (λ before c after. refl) refl known_names

some_entry : walk {S = Unit {0}} (λ s c after. false) (λ s c. s) tt http_calls ≡ true
unfolding http_calls heading start method target version status start_line_end field_name field_value connection content_length transfer_encoding head_end framing body until_close chunks message_end method_names ends blanks marks list_bytes token_bytes value_bytes value_bytes_no_comma plain_value_bytes target_bytes every_byte
some_entry = refl

pub some_entry_kept : Keeps http_calls rule.NoEntry
unfolding http_calls heading start method target version status start_line_end field_name field_value connection content_length transfer_encoding head_end framing body until_close chunks message_end method_names ends blanks marks list_bytes token_bytes value_bytes value_bytes_no_comma plain_value_bytes target_bytes every_byte
some_entry_kept = keeps_by {S = Unit {0}} (λ s c after. false) (λ s c. s) rule.NoEntry http_calls tt (λ before c after. refl) refl some_entry
