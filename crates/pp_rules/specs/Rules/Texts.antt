-- The names of the rules, as faults tell them.
use Rattle.std.specs.Prelude.{ℕ, List, codes}
use Rattle.pp_rules.specs.declared.rules.GraphRule.{GraphRule}
use Rattle.pp_rules.specs.declared.rules.GraphRule.TheVariants.{DuplicateName, UnknownName, NoEntry, NoOtherwise, KeyClash, PrefixGap, ValueTarget, ValueTooWide, EmptyKey, KeyNotFolded, TooMany}

-- the name of a rule
abbrev pub text_of : GraphRule → List ℕ
text_of DuplicateName = codes "duplicate name"
text_of UnknownName = codes "unknown name"
text_of NoEntry = codes "no entry"
text_of NoOtherwise = codes "no otherwise"
text_of KeyClash = codes "key clash"
text_of PrefixGap = codes "prefix gap"
text_of ValueTarget = codes "value target"
text_of ValueTooWide = codes "value too wide"
text_of EmptyKey = codes "empty key"
text_of KeyNotFolded = codes "key not folded"
text_of TooMany = codes "too many"
