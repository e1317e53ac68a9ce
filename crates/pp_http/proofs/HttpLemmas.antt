-- Rows added to calls that are known.
use Rattle.std.proofs.Common.{◌≡◌, ap, ◌∙◌, List, ◌++◌, flat_map}
use Rattle.pp_rules.specs.declared.call.BuilderCall.{BuilderCall}
use Rattle.pp_http.specs.declared.row.Row.{Row}
use Rattle.pp_http.specs.Rows.{row_calls}

pub appended : (a known b calls : List BuilderCall) (rows : List Row) → b ≡ a ++ flat_map row_calls rows → flat_map row_calls rows ≡ calls → a ≡ known → b ≡ known ++ calls
appended a known b calls rows added are so_far = added ∙ ap (λ cs. a ++ cs) are ∙ ap (λ cs. cs ++ calls) so_far
