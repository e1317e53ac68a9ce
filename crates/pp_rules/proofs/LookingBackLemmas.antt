-- Where the rules that look back fail: among a few calls behind others, and among the edges of a set.
use Rattle.std.proofs.Common.{◌≡◌, ℕ, zero, suc, ◌+◌, ◌-◌, ◌<◌, ◌≤◌, List, [], ◌∷◌, ◌++◌, true, false, Option, Some, option_map, length, slice_get, take, drop, map, get_or, refl, ap, ap₂, sym, ◌∙◌, inl, inr, subst, arith, append_assoc}
use Rattle.std.specs.Prelude.{None as none}
use Rattle.std.specs.Prelude.{IsSomeAnd, IsTrue, ◌==◌, sum_by}
use Rattle.std.specs.List.{filter}
use Rattle.std.specs.FinSet.{FinSet, contains}
use Rattle.std.specs.Ordering.{nat_cmp}
use Rattle.std.proofs.lemmas.Bool.{false≢true, cases_lt, and_parts}
use Rattle.std.proofs.lemmas.Option.{slice_get_past}
use Rattle.std.proofs.lemmas.List.{append-nil, length-map, map-append, take-append-le, take_all}
use Rattle.pp_bytes.specs.Bytes.{all_bytes, bytes_of, bytes_below}
use Rattle.pp_bytes.proofs.ByteLemmas.{bytes_split, bytes_below_yes, bytes_below_no, bytes_below_all, count_yes, count_no}
use Rattle.pp_rules.specs.declared.call.BuilderCall.{BuilderCall}
use Rattle.pp_rules.specs.declared.kept.ByteUse.{ByteUse}
use Rattle.pp_rules.specs.declared.rules.GraphRule.{GraphRule}
use Rattle.pp_rules.specs.declared.rules.GraphRule.TheVariants.{KeyNotFolded, TooMany}
use Rattle.pp_rules.specs.declared.rules.looking_back.LookingBack.{LookingBack}
use Rattle.pp_rules.specs.declared.rules.looking_back.LookingBack.TheVariants as looking
use Rattle.pp_rules.specs.declared.rules.looking_back.seen.Seen.{Seen}
use Rattle.pp_rules.specs.Rules.{fails, fails_at_end, fails_at_call, FailsAt}
use Rattle.pp_rules.specs.Sets.{byte_call, spread, all_calls, IsSetOf, AreSets, size_of}
use Rattle.pp_rules.specs.steps.Least.{IsLeast}
use Rattle.pp_rules.specs.steps.Seen.{TakesIn, FailsBehind, fails_back}
use Rattle.pp_rules.proofs.LeastLemmas.{IsLeast-none, IsLeast-some, IsLeast-same, IsLeast-image}
use Rattle.pp_rules.proofs.SetLemmas.{spread-set, length-sets, all-more, all-split, all-drop, number-is}

-- such a rule asks only for the calls before, and never fails at the end
abbrev AsksBefore : GraphRule → LookingBack → Type 0
AsksBefore rule back = ((all before : List BuilderCall) (c : BuilderCall) (after : List BuilderCall) → fails rule all before c after ≡ fails_back back before c) × ((all : List BuilderCall) → fails_at_end rule all ≡ false)

-- the rule fails at this call, if it is there, behind these
abbrev FailsWith : LookingBack → Option BuilderCall → List BuilderCall → Type 0
FailsWith rule s before = IsSomeAnd s (λ c. IsTrue (fails_back rule before c))

with-same : (rule : LookingBack) (s t : Option BuilderCall) (before same : List BuilderCall) → s ≡ t → before ≡ same → FailsWith rule s before → FailsWith rule t same
with-same rule s t before same e f h = subst (λ u. FailsWith rule u same) e (subst (FailsWith rule s) f h)

to-with : (rule : GraphRule) (back : LookingBack) (all : List BuilderCall) (p : ℕ) (s : Option BuilderCall) → AsksBefore rule back → IsTrue (fails_at_call rule all p s) → FailsWith back s (take p all)
to-with rule back all p none asks h = false≢true (sym (asks.1 all) ∙ (and_parts (p == length all) (fails_at_end rule all) h).1)
to-with rule back all p (Some c) asks h = sym (asks.0 all (take p all) c (drop (suc p) all)) ∙ h

from-with : (rule : GraphRule) (back : LookingBack) (all : List BuilderCall) (p : ℕ) (s : Option BuilderCall) → AsksBefore rule back → FailsWith back s (take p all) → IsTrue (fails_at_call rule all p s)
from-with rule back all p none asks h = absurd h
from-with rule back all p (Some c) asks h = asks.0 all (take p all) c (drop (suc p) all) ∙ h

-- among all calls such a rule fails as among a few behind none
least-of-all : (rule : GraphRule) (back : LookingBack) (all : List BuilderCall) (found : Option ℕ) → AsksBefore rule back → IsLeast (FailsBehind back [] all) found → IsLeast (FailsAt rule all) found
least-of-all rule back all found asks h =
    IsLeast-same (FailsBehind back [] all) (FailsAt rule all) found (λ p. from-with rule back all p (slice_get all p) asks) (λ p. to-with rule back all p (slice_get all p) asks) h

pub least-not_folded : (all : List BuilderCall) (found : Option ℕ) → IsLeast (FailsBehind looking.KeyNotFolded [] all) found → IsLeast (FailsAt KeyNotFolded all) found
least-not_folded all found = least-of-all KeyNotFolded looking.KeyNotFolded all found (λ all before c after. refl, λ all. refl)

pub least-too_many : (all : List BuilderCall) (found : Option ℕ) → IsLeast (FailsBehind looking.TooMany [] all) found → IsLeast (FailsAt TooMany all) found
least-too_many all found = least-of-all TooMany looking.TooMany all found (λ all before c after. refl, λ all. refl)

-- the elements of the first of two lists, and of the second
slice_get-left : (xs ys : List BuilderCall) (n : ℕ) → n < length xs → slice_get (xs ++ ys) n ≡ slice_get xs n
slice_get-left [] ys n h = absurd (omega arith)
slice_get-left (x ∷ xs) ys zero h = refl
slice_get-left (x ∷ xs) ys (suc n) h = slice_get-left xs ys n (omega arith)

slice_get-right : (xs ys : List BuilderCall) (n k : ℕ) → n ≡ length xs + k → slice_get (xs ++ ys) n ≡ slice_get ys k
slice_get-right [] ys n k e = ap (slice_get ys) (omega arith)
slice_get-right (x ∷ xs) ys zero k e = absurd (omega arith)
slice_get-right (x ∷ xs) ys (suc n) k e = slice_get-right xs ys n k (omega arith)

take-right : (xs ys : List BuilderCall) (n k : ℕ) → n ≡ length xs + k → take n (xs ++ ys) ≡ xs ++ take k ys
take-right [] ys n k e = ap (λ m. take m ys) (omega arith)
take-right (x ∷ xs) ys zero k e = absurd (omega arith)
take-right (x ∷ xs) ys (suc n) k e = ap (λ zs. x ∷ zs) (take-right xs ys n k (omega arith))

-- where it fails among a few, there is a call
fails-within : (rule : LookingBack) (before few : List BuilderCall) (k : ℕ) → FailsBehind rule before few k → k < length few
fails-within rule before few k h =
    elim (cases_lt k (length few)) [
      | inl within ↦ within
      | inr past ↦ absurd (subst (λ s. FailsWith rule s (before ++ take k few)) (slice_get_past few k past) h)
    ]

-- at a call of the first of two lists it fails as without the second
to-left : (rule : LookingBack) (before few more : List BuilderCall) (k : ℕ) → k < length few → FailsBehind rule before few k → FailsBehind rule before (few ++ more) k
to-left rule before few more k h =
    with-same rule (slice_get few k) (slice_get (few ++ more) k) (before ++ take k few) (before ++ take k (few ++ more)) (sym (slice_get-left few more k h)) (ap (λ xs. before ++ xs) (sym (take-append-le k few more (omega arith))))

from-left : (rule : LookingBack) (before few more : List BuilderCall) (k : ℕ) → k < length few → FailsBehind rule before (few ++ more) k → FailsBehind rule before few k
from-left rule before few more k h =
    with-same rule (slice_get (few ++ more) k) (slice_get few k) (before ++ take k (few ++ more)) (before ++ take k few) (slice_get-left few more k h) (ap (λ xs. before ++ xs) (take-append-le k few more (omega arith)))

-- at a call of the second it fails as behind the first
behind-right : (before few more : List BuilderCall) (n k : ℕ) → n ≡ length few + k → before ++ take n (few ++ more) ≡ before ++ few ++ take k more
behind-right before few more n k e = ap (λ xs. before ++ xs) (take-right few more n k e) ∙ sym (append_assoc before few (take k more))

to-right : (rule : LookingBack) (before few more : List BuilderCall) (n k : ℕ) → n ≡ length few + k → FailsBehind rule (before ++ few) more k → FailsBehind rule before (few ++ more) n
to-right rule before few more n k e =
    with-same rule (slice_get more k) (slice_get (few ++ more) n) (before ++ few ++ take k more) (before ++ take n (few ++ more)) (sym (slice_get-right few more n k e)) (sym (behind-right before few more n k e))

from-right : (rule : LookingBack) (before few more : List BuilderCall) (n k : ℕ) → n ≡ length few + k → FailsBehind rule before (few ++ more) n → FailsBehind rule (before ++ few) more k
from-right rule before few more n k e =
    with-same rule (slice_get (few ++ more) n) (slice_get more k) (before ++ take n (few ++ more)) (before ++ few ++ take k more) (slice_get-right few more n k e) (behind-right before few more n k e)

-- the first call where it fails, if it fails at none of the first list
pub least-behind : (rule : LookingBack) (before few more : List BuilderCall) (found : Option ℕ) → IsLeast (FailsBehind rule before few) none → IsLeast (FailsBehind rule (before ++ few) more) found → IsLeast (FailsBehind rule before (few ++ more)) (option_map (λ k. length few + k) found)
least-behind rule before few more found kept least =
    IsLeast-image (FailsBehind rule (before ++ few) more) (FailsBehind rule before (few ++ more)) (λ k. length few + k) found (λ i j h. omega arith) (λ k. to-right rule before few more (length few + k) k refl) (λ n h. elim (cases_lt n (length few)) [
      | inl below ↦ absurd (kept.least n (from-left rule before few more n below h))
      | inr rest ↦
          let e : n ≡ length few + (n - length few) = omega arith in
          (n - length few, from-right rule before few more n (n - length few) e h, e)
    ]) least

-- what stands behind does not change the first call where it fails
pub least-before : (rule : LookingBack) (before few more : List BuilderCall) (k : ℕ) → IsLeast (FailsBehind rule before few) (Some k) → IsLeast (FailsBehind rule before (few ++ more)) (Some k)
least-before rule before few more k least =
    let within : k < length few = fails-within rule before few k least.holds in
    IsLeast-some (FailsBehind rule before (few ++ more)) k (to-left rule before few more k within least.holds) (λ j h. elim (cases_lt j (length few)) [
      | inl below ↦ least.least j (from-left rule before few more j below h)
      | inr rest ↦ omega arith
    ])

-- a first call where it fails is one of them
pub least-within : (rule : LookingBack) (before few : List BuilderCall) (k : ℕ) → IsLeast (FailsBehind rule before few) (Some k) → k < length few
least-within rule before few k least = fails-within rule before few k least.holds

-- of one call
pub least-fails : (rule : LookingBack) (before : List BuilderCall) (c : BuilderCall) → fails_back rule before c ≡ true → IsLeast (FailsBehind rule before (c ∷ [])) (Some 0)
least-fails rule before c h =
    IsLeast-some (FailsBehind rule before (c ∷ [])) 0 (ap (λ xs. fails_back rule xs c) (append-nil before) ∙ h) (λ j f. omega arith)

pub least-kept : (rule : LookingBack) (before : List BuilderCall) (c : BuilderCall) → fails_back rule before c ≡ false → IsLeast (FailsBehind rule before (c ∷ [])) none
least-kept rule before c h = IsLeast-none (FailsBehind rule before (c ∷ [])) nowhere
  where
    nowhere : (j : ℕ) → FailsBehind rule before (c ∷ []) j → ⊥
    nowhere zero f = false≢true (sym h ∙ (sym (ap (λ xs. fails_back rule xs c) (append-nil before)) ∙ f))
    nowhere (suc j) f = f

-- the edges of the bytes of a set that are below a number: how many they are, that the rule fails at none of them, and
-- that these are taken in
pub record AreBelow (rule : LookingBack) (how : ByteUse) (bytes : FinSet nat_cmp) (first seen : Seen) (b rank : ℕ) : Type 0 where
  pub counted : rank ≡ length (bytes_below bytes b)
  pub kept : (before : List BuilderCall) (target : List ℕ) → TakesIn rule first before → IsLeast (FailsBehind rule before (map (byte_call how target) (bytes_below bytes b))) none
  pub taken : (before : List BuilderCall) (target : List ℕ) → TakesIn rule first before → TakesIn rule seen (before ++ map (byte_call how target) (bytes_below bytes b))

-- before the first byte
pub below-first : (rule : LookingBack) (how : ByteUse) (bytes : FinSet nat_cmp) (first : Seen) → AreBelow rule how bytes first first 0 0
below-first rule how bytes first = record {
  counted = refl;
  kept = λ before target h. IsLeast-none (FailsBehind rule before []) (λ j f. f);
  taken = λ before target h. subst (TakesIn rule first) (sym (append-nil before)) h;
}

-- behind a byte that is not in the set
pub below-out : (rule : LookingBack) (how : ByteUse) (bytes : FinSet nat_cmp) (first seen after : Seen) (b rank more : ℕ) → b < 256 → contains bytes b ≡ false → AreBelow rule how bytes first seen b rank → after ≡ seen → more ≡ rank → AreBelow rule how bytes first after (b + 1) more
below-out rule how bytes first seen after b rank more h out below e f =
    let same = sym (bytes_below_no bytes b h out) in
    record {
      counted = count_no bytes b rank more h out below.counted f;
      kept = λ before target s. subst (λ xs. IsLeast (FailsBehind rule before (map (byte_call how target) xs)) none) same (below.kept before target s);
      taken = λ before target s. subst (λ xs. TakesIn rule after (before ++ map (byte_call how target) xs)) same (subst (λ a. TakesIn rule a (before ++ map (byte_call how target) (bytes_below bytes b))) (sym e) (below.taken before target s));
    }

-- the edge of a byte that is in the set comes behind these
edges-more : (how : ByteUse) (target : List ℕ) (bytes : FinSet nat_cmp) (b : ℕ) → b < 256 → contains bytes b ≡ true → map (byte_call how target) (bytes_below bytes (b + 1)) ≡ map (byte_call how target) (bytes_below bytes b) ++ byte_call how target b ∷ []
edges-more how target bytes b h held =
    ap (map (byte_call how target)) (bytes_below_yes bytes b h held) ∙ map-append (byte_call how target) (bytes_below bytes b) (b ∷ [])

-- the first of them and it where the rule fails
edges-least : (rule : LookingBack) (before : List BuilderCall) (how : ByteUse) (target : List ℕ) (bytes : FinSet nat_cmp) (b : ℕ) (found : Option ℕ) → b < 256 → contains bytes b ≡ true → IsLeast (FailsBehind rule before (map (byte_call how target) (bytes_below bytes b))) none → IsLeast (FailsBehind rule (before ++ map (byte_call how target) (bytes_below bytes b)) (byte_call how target b ∷ [])) found → IsLeast (FailsBehind rule before (map (byte_call how target) (bytes_below bytes (b + 1)))) (option_map (λ k. length (map (byte_call how target) (bytes_below bytes b)) + k) found)
edges-least rule before how target bytes b found h held kept least =
    let few = map (byte_call how target) (bytes_below bytes b) in
    subst (λ xs. IsLeast (FailsBehind rule before xs) (option_map (λ k. length few + k) found)) (sym (edges-more how target bytes b h held)) (least-behind rule before few (byte_call how target b ∷ []) found kept least)

-- behind a byte at whose edge the rule does not fail
pub below-kept : (rule : LookingBack) (how : ByteUse) (bytes : FinSet nat_cmp) (first seen after : Seen) (b rank more : ℕ) → b < 256 → contains bytes b ≡ true → AreBelow rule how bytes first seen b rank → ((before : List BuilderCall) (target : List ℕ) → TakesIn rule seen before → fails_back rule before (byte_call how target b) ≡ false) → ((before : List BuilderCall) (target : List ℕ) → TakesIn rule seen before → TakesIn rule after (before ++ byte_call how target b ∷ [])) → more ≡ rank + 1 → AreBelow rule how bytes first after (b + 1) more
below-kept rule how bytes first seen after b rank more h held below keeps adds e =
    record {
      counted = count_yes bytes b rank more h held below.counted e;
      kept = λ before target s.
          let few = map (byte_call how target) (bytes_below bytes b) in
          edges-least rule before how target bytes b none h held (below.kept before target s) (least-kept rule (before ++ few) (byte_call how target b) (keeps (before ++ few) target (below.taken before target s)));
      taken = λ before target s.
          let few = map (byte_call how target) (bytes_below bytes b) in
          let added = adds (before ++ few) target (below.taken before target s) in
          subst (λ xs. TakesIn rule after (before ++ xs)) (sym (edges-more how target bytes b h held)) (subst (TakesIn rule after) (append_assoc before few (byte_call how target b ∷ [])) added);
    }

-- at the first edge where the rule fails
pub below-fails : (rule : LookingBack) (how : ByteUse) (bytes : FinSet nat_cmp) (first seen : Seen) (b rank : ℕ) (before : List BuilderCall) (target : List ℕ) → b < 256 → contains bytes b ≡ true → AreBelow rule how bytes first seen b rank → TakesIn rule first before → fails_back rule (before ++ map (byte_call how target) (bytes_below bytes b)) (byte_call how target b) ≡ true → IsLeast (FailsBehind rule before (map (byte_call how target) (bytes_of bytes))) (Some rank)
below-fails rule how bytes first seen b rank before target h held below s f =
    let edges = map (byte_call how target) in
    let few = edges (bytes_below bytes b) in
    let next = edges (bytes_below bytes (b + 1)) in
    let others = edges (filter (contains bytes) (drop (b + 1) all_bytes)) in
    let place : length few + 0 ≡ rank = omega (arith, below.counted, length-map (bytes_below bytes b) (byte_call how target)) in
    let least : IsLeast (FailsBehind rule before next) (Some rank) = subst (λ n. IsLeast (FailsBehind rule before next) (Some n)) place (edges-least rule before how target bytes b (Some 0) h held (below.kept before target s) (least-fails rule (before ++ few) (byte_call how target b) f)) in
    let all : edges (bytes_of bytes) ≡ next ++ others = ap edges (bytes_split bytes (b + 1)) ∙ map-append (byte_call how target) (bytes_below bytes (b + 1)) (filter (contains bytes) (drop (b + 1) all_bytes)) in
    subst (λ xs. IsLeast (FailsBehind rule before xs) (Some rank)) (sym all) (least-before rule before next others rank least)

-- behind the last byte
pub below-last : (rule : LookingBack) (how : ByteUse) (bytes : FinSet nat_cmp) (first seen : Seen) (b rank : ℕ) (before : List BuilderCall) (target : List ℕ) → 256 ≤ b → AreBelow rule how bytes first seen b rank → TakesIn rule first before → IsLeast (FailsBehind rule before (map (byte_call how target) (bytes_of bytes))) none × TakesIn rule seen (before ++ map (byte_call how target) (bytes_of bytes))
below-last rule how bytes first seen b rank before target h below s =
    let all = bytes_below_all bytes b h in
    (subst (λ xs. IsLeast (FailsBehind rule before (map (byte_call how target) xs)) none) all (below.kept before target s), subst (λ xs. TakesIn rule seen (before ++ map (byte_call how target) xs)) all (below.taken before target s))

-- a kept call with a set stands for the edges of its bytes, whatever their target is
pub spread-use : (c : BuilderCall) (s : Option (FinSet nat_cmp)) (bytes : FinSet nat_cmp) (how : ByteUse) → IsSetOf c s → s ≡ Some bytes → ((other : ByteUse) (target : List ℕ) (b : ℕ) → c ≡ byte_call other target b → how ≡ other) → (target : List ℕ) × (spread c s ≡ map (byte_call how target) (bytes_of bytes))
spread-use c s bytes how h e uses =
    let set : IsSetOf c (Some bytes) = subst (IsSetOf c) e h in
    (set.1, ap (spread c) e ∙ (spread-set c bytes set.0 set.1 set.2 set.3 ∙ ap (λ u. map (byte_call u set.1) (bytes_of bytes)) (sym (uses set.0 set.1 set.2 set.3))))

-- of all the calls that kept ones stand for it fails first at one of these, if it fails at none of the kept ones before
pub sets-found : (rule : LookingBack) (calls : List BuilderCall) (sets : List (Option (FinSet nat_cmp))) (i rank number : ℕ) (c : BuilderCall) (s : Option (FinSet nat_cmp)) (found : Option ℕ) → AreSets calls sets → i < length calls → c ≡ get_or calls i c → s ≡ get_or sets i s → number ≡ sum_by size_of (take i sets) → IsLeast (FailsBehind rule [] (all_calls (take i calls) (take i sets))) none → IsLeast (FailsBehind rule (all_calls (take i calls) (take i sets)) (spread c s)) found → found ≡ Some rank → IsLeast (FailsBehind rule [] (all_calls calls sets)) (Some (number + rank))
sets-found rule calls sets i rank number c s found h l e f n kept first_found is =
    let first = all_calls (take i calls) (take i sets) in
    let others = all_calls (drop (i + 1) calls) (drop (i + 1) sets) in
    let least : IsLeast (FailsBehind rule first (spread c s)) (Some rank) = subst (IsLeast (FailsBehind rule first (spread c s))) is first_found in
    let place : length first + rank ≡ number + rank = omega (arith, n, number-is calls sets i h) in
    let all : all_calls calls sets ≡ first ++ (spread c s ++ others) = all-split calls sets i h ∙ ap (λ xs. first ++ xs) (all-drop calls sets i c s h l e f) in
    subst (λ m. IsLeast (FailsBehind rule [] (all_calls calls sets)) (Some m)) place (subst (λ xs. IsLeast (FailsBehind rule [] xs) (Some (length first + rank))) (sym all) (least-behind rule [] first (spread c s ++ others) (Some rank) kept (least-before rule first (spread c s) others rank least)))

-- nor at those of the next kept one
pub sets-kept : (rule : LookingBack) (calls : List BuilderCall) (sets : List (Option (FinSet nat_cmp))) (i : ℕ) (c : BuilderCall) (s : Option (FinSet nat_cmp)) → AreSets calls sets → i < length calls → c ≡ get_or calls i c → s ≡ get_or sets i s → IsLeast (FailsBehind rule [] (all_calls (take i calls) (take i sets))) none → IsLeast (FailsBehind rule (all_calls (take i calls) (take i sets)) (spread c s)) none → IsLeast (FailsBehind rule [] (all_calls (take (i + 1) calls) (take (i + 1) sets))) none
sets-kept rule calls sets i c s h l e f kept least =
    subst (λ xs. IsLeast (FailsBehind rule [] xs) none) (sym (all-more calls sets i c s h l e f)) (least-behind rule [] (all_calls (take i calls) (take i sets)) (spread c s) none kept least)

-- behind the last kept one they are all
pub sets-all : (calls : List BuilderCall) (sets : List (Option (FinSet nat_cmp))) (i : ℕ) → AreSets calls sets → length calls ≤ i → all_calls (take i calls) (take i sets) ≡ all_calls calls sets
sets-all calls sets i h l = ap₂ all_calls (take_all i calls l) (take_all i sets (omega (arith, length-sets calls sets h)))
