-- What the rules and the form say at each call.
use Rattle.std.proofs.Common.{◌≡◌, ℕ, ◌<◌, ◌≤◌, List, [], ◌∷◌, ◌++◌, false, nat_le, nat_lt, length, sym, ◌∙◌, subst, arith, append_assoc}
use Rattle.std.proofs.lemmas.Bool.Decides.{nat_tests}
use Rattle.std.proofs.lemmas.List.{append-nil}
use Rattle.pp_rules.specs.declared.call.BuilderCall.{BuilderCall}
use Rattle.pp_rules.specs.declared.rules.GraphRule.TheVariants.{DuplicateName, UnknownName, NoOtherwise, KeyClash, PrefixGap, ValueTarget, ValueTooWide, EmptyKey, KeyNotFolded, TooMany}
use Rattle.pp_graph.specs.Calls.{HasForm, HaveForm}
use Rattle.pp_rules.specs.Rules.{KeepsRules}
use Rattle.pp_rules.specs.Rules.Names.{is_duplicate, names_unknown}
use Rattle.pp_rules.specs.Rules.Otherwise.{lacks_otherwise}
use Rattle.pp_rules.specs.Rules.Clash.{is_clash}
use Rattle.pp_rules.specs.Rules.SortedKeys.{is_gap}
use Rattle.pp_rules.specs.Rules.Numbers.{is_value_fault, is_too_wide}
use Rattle.pp_rules.specs.Rules.Form.{is_empty_key, is_not_folded}
use Rattle.pp_rules.specs.Edges.{edge_of}
use Rattle.pp_rules.specs.Rules.Limits.{passes_limit}
use Rattle.pp_rules.proofs.RuleLemmas.{kept-at, slice_get-split}
use Rattle.pp_graph.proofs.TableLemmas.{Each}

-- what the rules and the form say at a call, with all the calls, those before it and those behind it
pub record IsSound (all before : List BuilderCall) (c : BuilderCall) (after : List BuilderCall) : Type 0 where
  pub unique : is_duplicate before c ≡ false
  pub known : names_unknown all c ≡ false
  pub closed : lacks_otherwise c after ≡ false
  pub clear : is_clash before c ≡ false
  pub gapless : is_gap before c after ≡ false
  pub valued : is_value_fault all c ≡ false
  pub wide : is_too_wide all c ≡ false
  pub filled : is_empty_key (edge_of c) ≡ false
  pub folded : is_not_folded before c ≡ false
  pub within : passes_limit before c ≡ false
  pub form : HasForm c

-- each of the calls behind these is sound
abbrev pub AreSound : List BuilderCall → List BuilderCall → List BuilderCall → Type 0
AreSound all before [] = Unit {0}
AreSound all before (c ∷ after) = IsSound all before c after × AreSound all (before ++ c ∷ []) after

-- calls that keep the rules are sound
pub AreSound-from_rules : (all before after : List BuilderCall) → all ≡ before ++ after → KeepsRules all → HaveForm all → AreSound all before after
AreSound-from_rules all before [] e k h = tt
AreSound-from_rules all before (c ∷ after) e k h = (
  record {
    unique = kept-at DuplicateName all before c after e (k DuplicateName);
    known = kept-at UnknownName all before c after e (k UnknownName);
    closed = kept-at NoOtherwise all before c after e (k NoOtherwise);
    clear = kept-at KeyClash all before c after e (k KeyClash);
    gapless = kept-at PrefixGap all before c after e (k PrefixGap);
    valued = kept-at ValueTarget all before c after e (k ValueTarget);
    wide = kept-at ValueTooWide all before c after e (k ValueTooWide);
    filled = kept-at EmptyKey all before c after e (k EmptyKey);
    folded = kept-at KeyNotFolded all before c after e (k KeyNotFolded);
    within = kept-at TooMany all before c after e (k TooMany);
    form = h (length before) c (rw e (slice_get-split before c after));
  },
  AreSound-from_rules all (before ++ c ∷ []) after (e ∙ sym (append_assoc before (c ∷ []) after)) k h,
)

-- what each sound call keeps holds of all
pub along : (P : List BuilderCall → Type 0) (all before after : List BuilderCall) → AreSound all before after → ((front : List BuilderCall) (c : BuilderCall) (rest : List BuilderCall) → IsSound all front c rest → P front → P (front ++ c ∷ [])) → P before → P (before ++ after)
along P all before [] s step p = subst P (sym (append-nil before)) p
along P all before (c ∷ after) s step p =
    subst P (append_assoc before (c ∷ []) after) (along P all (before ++ c ∷ []) after s.1 step (step before c after s.0 p))

-- what each sound call is by itself
pub each-sound : (P : BuilderCall → Type 0) (all before after : List BuilderCall) → ((front : List BuilderCall) (c : BuilderCall) (rest : List BuilderCall) → IsSound all front c rest → P c) → AreSound all before after → Each P after
each-sound P all before [] f s = tt
each-sound P all before (c ∷ after) f s = (f before c after s.0, each-sound P all (before ++ c ∷ []) after f s.1)

-- what a failed test of an order says
pub below_from : (m n : ℕ) → nat_le m n ≡ false → n < m
below_from m n h = grind (arith, nat_tests)

pub within_from : (m n : ℕ) → nat_lt m n ≡ false → n ≤ m
within_from m n h = grind (arith, nat_tests)
