-- What calls add up to, for the rules that look back.
use Rattle.std.specs.Prelude.{◌≡◌, ◌≢◌, ℕ, ◌+◌, ◌<◌, ◌||◌, ◌++◌, List, Bool, Option, Some, IsTrue, IsSomeAnd, slice_get, take, length, nat_le, nat_lt, sum_by}
use Rattle.std.specs.Prelude.{None as none}
use Rattle.pp_rules.specs.declared.call.BuilderCall.{BuilderCall}
use Rattle.pp_rules.specs.declared.rules.GraphRule.{GraphRule}
use Rattle.pp_rules.specs.declared.rules.looking_back.LookingBack.{LookingBack}
use Rattle.pp_rules.specs.declared.rules.looking_back.LookingBack.TheVariants as back
use Rattle.pp_rules.specs.declared.rules.GraphRule.TheVariants.{DuplicateName, UnknownName, NoEntry, NoOtherwise, KeyClash, PrefixGap, ValueTarget, ValueTooWide, EmptyKey, KeyNotFolded, TooMany}
use Rattle.pp_rules.specs.declared.rules.looking_back.seen.Seen.{Seen}
use Rattle.pp_rules.specs.Calls.{since_node}
use Rattle.pp_rules.specs.Edges.{edges_of, keys_of}
use Rattle.pp_rules.specs.Rules.Form.{is_lower, is_not_folded}
use Rattle.pp_rules.specs.Rules.Limits.{most_key_bytes, most_keys, most_weight, weight_of_call, passes_limit}
use Rattle.pp_rules.specs.Rules.{FailsAt}
use Rattle.pp_rules.specs.steps.Clashes.{is_short_clash}
use Rattle.pp_rules.specs.steps.OwnEdges.{HasEdges}
use Rattle.pp_rules.specs.steps.Room.{HasRoom}

-- these calls add up to its edges and its room
pub record SumsUp (seen : Seen) (before : List BuilderCall) : Type 0 where
  pub edges : HasEdges seen.edges (edges_of before)
  pub room : HasRoom seen.room before

-- it has taken in what a rule asks of these calls: whether the present node compares in lower case, which is all that the
-- rule of keys that aren't folded asks, and for any other rule what they add up to
pub record TakesIn (rule : LookingBack) (seen : Seen) (before : List BuilderCall) : Type 0 where
  pub lower : seen.lower ≡ is_lower before
  pub sums : rule ≢ back.KeyNotFolded → SumsUp seen before

-- a key of this length passes a limit
abbrev pub key_passes_limit : List BuilderCall → ℕ → Bool
key_passes_limit before len =
    nat_lt most_key_bytes len || nat_le most_keys (length (keys_of (since_node before))) || nat_lt most_weight (sum_by weight_of_call before + len)

-- a rule that looks back fails at a call, with those before it. Of key clashes these are the ones that are not equal keys
-- of none or of several bytes.
abbrev pub fails_back : LookingBack → List BuilderCall → BuilderCall → Bool
fails_back back.KeyClash before c = is_short_clash before c
fails_back back.KeyNotFolded before c = is_not_folded before c
fails_back back.TooMany before c = passes_limit before c

-- the rules that ask nothing of the byte of an edge, so that all edges of a set keep or break them together
abbrev pub IsByName : GraphRule → Type 0
IsByName DuplicateName = Unit {0}
IsByName UnknownName = Unit {0}
IsByName NoEntry = Unit {0}
IsByName NoOtherwise = Unit {0}
IsByName KeyClash = ⊥
IsByName PrefixGap = ⊥
IsByName ValueTarget = Unit {0}
IsByName ValueTooWide = Unit {0}
IsByName EmptyKey = Unit {0}
IsByName KeyNotFolded = ⊥
IsByName TooMany = ⊥

-- the first of so many calls at which a rule fails, or none where it fails at none of them
abbrev pub IsFirstAmong : GraphRule → List BuilderCall → ℕ → Option ℕ → Type 0
IsFirstAmong rule calls n none = (j : ℕ) → j < n → ¬ (FailsAt rule calls j)
IsFirstAmong rule calls n (Some i) = (i < n) × FailsAt rule calls i × ((j : ℕ) → j < i → ¬ (FailsAt rule calls j))

-- the first of all of them; the end is no call
abbrev pub IsFirstFailing : GraphRule → List BuilderCall → Option ℕ → Type 0
IsFirstFailing rule calls found = IsFirstAmong rule calls (length calls) found

-- such a rule fails at the call of this rank among a few, behind those before them
abbrev pub FailsBehind : LookingBack → List BuilderCall → List BuilderCall → ℕ → Type 0
FailsBehind rule before few k = IsSomeAnd (slice_get few k) (λ c. IsTrue (fails_back rule (before ++ take k few) c))
