-- The graph's calls keep the rules.
use Rattle.pp_rules.specs.declared.rules.GraphRule.TheVariants.{DuplicateName, UnknownName, NoEntry, NoOtherwise, KeyClash, PrefixGap, ValueTarget, ValueTooWide, EmptyKey, KeyNotFolded, TooMany}
use Rattle.std.proofs.Common.{◌≡◌, ℕ, List, subst}
use Rattle.pp_rules.specs.declared.call.BuilderCall.{BuilderCall}
use Rattle.pp_rules.specs.declared.rules.GraphRule.{GraphRule}
use Rattle.pp_graph.specs.declared.fault.GraphFault.{GraphFault}
use Rattle.pp_graph.specs.declared.fault.GraphFault.TheVariants.{Broken}
use Rattle.pp_rules.specs.Rules.{KeepsRules, IsFirstFault}
use Rattle.pp_graph.specs.Faults.{IsFault}
use Rattle.pp_http.proofs.NameRules.{no_duplicate_kept, known_names_kept, some_entry_kept}
use Rattle.pp_http.proofs.EdgeRules.{no_otherwise_kept, no_clash_kept, no_gap_kept, no_empty_key_kept, folded_keys_kept}
use Rattle.pp_http.proofs.NumberRules.{value_targets_kept, not_wide_kept, not_many_kept}
use Rattle.pp_http.specs.HttpGraph.{http_calls}

pub keeps_rules : KeepsRules http_calls
keeps_rules DuplicateName = no_duplicate_kept
keeps_rules UnknownName = known_names_kept
keeps_rules NoEntry = some_entry_kept
keeps_rules NoOtherwise = no_otherwise_kept
keeps_rules KeyClash = no_clash_kept
keeps_rules PrefixGap = no_gap_kept
keeps_rules ValueTarget = value_targets_kept
keeps_rules ValueTooWide = not_wide_kept
keeps_rules EmptyKey = no_empty_key_kept
keeps_rules KeyNotFolded = folded_keys_kept
keeps_rules TooMany = not_many_kept

-- so no rule is the first that fails
pub no_fault : (calls : List BuilderCall) (fault : GraphFault) (rule : GraphRule) (i : ℕ) → calls ≡ http_calls → fault ≡ Broken rule i → IsFault calls fault → ⊥
no_fault calls fault rule i same is f =
    let here : IsFault http_calls fault = subst (λ cs. IsFault cs fault) same f in
    let first : IsFirstFault http_calls rule i = subst (λ x. IsFault http_calls x) is here in
    keeps_rules rule i first.fails
