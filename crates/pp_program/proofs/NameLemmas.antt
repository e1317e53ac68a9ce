-- Names that are passed one by one.
use Rattle.std.proofs.Common.{subst, ◌≡◌, ℕ, zero, suc, ◌+◌, ◌≤◌, ◌<◌, List, [], ◌∷◌, ◌++◌, Some, Bool, true, false, refl, sym, ◌∙◌, ap, arith, length, length-append, map, take, drop, get_or, ◌||◌, inl, inr, ◌⊎◌}
use Rattle.std.specs.Prelude.{slice_get, bytes_eq, not}
use Rattle.std.specs.List.{list_any}
use Rattle.std.proofs.lemmas.Bool.{cases_lt, false≢true}
use Rattle.std.proofs.lemmas.List.{take_more, length-map, append_assoc, drop_all}
use Rattle.std.proofs.lemmas.List.Folds.{list_any-append}
use Rattle.std.proofs.lemmas.Option.{slice_get_within, get_or_from_slice_get}
use Rattle.pp_rules.specs.Names.{is_name, is_reason}
use Rattle.pp_program.specs.declared.program.Instr.{Instr}
use Rattle.pp_program.specs.declared.program.Instr.TheVariants.{Branch, Invoke, Consume, SpanOpen, SpanClose, Pause, Fail}
use Rattle.pp_program.specs.declared.program.State.{State}
use Rattle.pp_program.specs.Names.{is_wrong_name, NameFails, ReasonFails, reason_of, reasons_of}
use Rattle.pp_program.specs.steps.Least.{IsFirst, PassedReasons}

pub listed-map : {X : Type 0} (f : X → List ℕ) (xs : List X) (i : ℕ) (d : X) → i < length xs → slice_get (map f xs) i ≡ Some (f (get_or xs i d))
listed-map f [] i d h = absurd (omega (arith, h))
listed-map f (x ∷ xs) zero d h = refl
listed-map f (x ∷ xs) (suc i) d h = listed-map f xs i d (omega (arith, h))

or-none : (t : Bool) → (t || false) ≡ t
or-none true = refl
or-none false = refl

-- one name more that isn't wrong
pub name-more : (names : List (List ℕ)) (i : ℕ) (x : List ℕ) (old new : List ℕ → Bool) (wrong : Bool) → slice_get names i ≡ Some x →
    ((name : List ℕ) → old name ≡ list_any (λ other. bytes_eq other name) (take i names)) → ((j : ℕ) → j < i → NameFails names j → ⊥) →
    wrong ≡ (not (is_name x) || old x) → (wrong ≡ false → (name : List ℕ) → new name ≡ (old name || bytes_eq x name)) → wrong ≡ false →
    ((name : List ℕ) → new name ≡ list_any (λ other. bytes_eq other name) (take (i + 1) names)) × ((j : ℕ) → j < i + 1 → NameFails names j → ⊥)
name-more names i x old new wrong at was before is added right =
    let low : i < length names = slice_get_within names i x at in
    let here : get_or names i x ≡ x = get_or_from_slice_get names i x x at in
    let more : take (i + 1) names ≡ take i names ++ x ∷ [] = take_more names i x low ∙ ap (λ y. take i names ++ y ∷ []) here in (
      (λ name.
          added right name
          ∙ (ap (λ t. t || bytes_eq x name) (was name)
          ∙ (ap (λ t. list_any (λ other. bytes_eq other name) (take i names) || t) (sym (or-none (bytes_eq x name)))
          ∙ (sym (list_any-append (λ other. bytes_eq other name) (take i names) (x ∷ [])) ∙ ap (list_any (λ other. bytes_eq other name)) (sym more))))),
      (λ j small fails. elim (cases_lt j i) [
        | inl less ↦ before j less fails
        | inr far ↦
            let same : i ≡ j = omega (arith, small, far) in
            let both : Some fails.0 ≡ Some x = sym fails.1 ∙ (ap (slice_get names) (sym same) ∙ at) in
            let e : fails.0 ≡ x = cc in
            let clear : is_wrong_name (take i names) x ≡ false = ap (λ t. not (is_name x) || t) (sym (was x)) ∙ (sym is ∙ right) in
            let hit : is_wrong_name (take i names) x ≡ true = subst (λ n. is_wrong_name (take n names) x ≡ true) (sym same) (subst (λ y. is_wrong_name (take j names) y ≡ true) e fails.2) in
            false≢true (sym clear ∙ hit)
      ]),
    )

pub name-all : (names : List (List ℕ)) (i : ℕ) → length names ≤ i → ((j : ℕ) → j < i → NameFails names j → ⊥) → (j : ℕ) → NameFails names j → ⊥
name-all names i end before j fails = (let low : j < length names = slice_get_within names j fails.0 fails.1 in before j (omega (arith, low, end)) fails)

pub name-all-map : {X : Type 0} (f : X → List ℕ) (xs : List X) (i : ℕ) → length xs ≤ i → ((j : ℕ) → j < i → NameFails (map f xs) j → ⊥) → (j : ℕ) → NameFails (map f xs) j → ⊥
name-all-map f xs i end before = (let long : length (map f xs) ≡ length xs = length-map xs f in name-all (map f xs) i (omega (arith, end, long)) before)

drop-at : {X : Type 0} (xs : List X) (i : ℕ) (d : X) → i < length xs → drop i xs ≡ get_or xs i d ∷ drop (suc i) xs
drop-at [] i d h = absurd (omega (arith, h))
drop-at (x ∷ xs) zero d h = refl
drop-at (x ∷ xs) (suc i) d h = drop-at xs i d (omega (arith, h))

get-low : {X : Type 0} (xs ys : List X) (j : ℕ) → j < length xs → slice_get (xs ++ ys) j ≡ slice_get xs j
get-low [] ys j h = absurd (omega (arith, h))
get-low (x ∷ xs) ys zero h = refl
get-low (x ∷ xs) ys (suc j) h = get-low xs ys j (omega (arith, h))

get-behind : {X : Type 0} (xs ys : List X) (x : X) → slice_get ys 0 ≡ Some x → slice_get (xs ++ ys) (length xs) ≡ Some x
get-behind [] ys x e = e
get-behind (y ∷ xs) ys x e = get-behind xs ys x e

get-either : {X : Type 0} (xs ys : List X) (j : ℕ) (x : X) → slice_get (xs ++ ys) j ≡ Some x → ((k : ℕ) × (slice_get xs k ≡ Some x)) ⊎ ((k : ℕ) × (slice_get ys k ≡ Some x))
get-either [] ys j x e = inr (j, e)
get-either (y ∷ xs) ys zero x e = inl (0, e)
get-either (y ∷ xs) ys (suc j) x e = elim (get-either xs ys j x e) [ inl q ↦ inl (suc q.0, q.1) | inr q ↦ inr q ]

not-is : (t : Bool) → (not t || false) ≡ true → t ≡ false
not-is true e = absurd (false≢true e)
not-is false e = refl

wrong-first : (rs more : List (List ℕ)) → length rs ≤ 1 → list_any (λ reason. not (is_reason reason)) rs ≡ true → (x : List ℕ) × (slice_get (rs ++ more) 0 ≡ Some x) × (is_reason x ≡ false)
wrong-first [] more h e = absurd (false≢true e)
wrong-first (r ∷ []) more h e = (r, refl, not-is (is_reason r) e)
wrong-first (r ∷ s ∷ rs) more h e = absurd (omega (arith, h))

right-split : (t u : Bool) → (not t || u) ≡ false → (t ≡ true) × (u ≡ false)
right-split true u e = (refl, e)
right-split false u e = absurd (false≢true (sym e))

all-right : (rs : List (List ℕ)) → list_any (λ reason. not (is_reason reason)) rs ≡ false → (k : ℕ) (x : List ℕ) → slice_get rs k ≡ Some x → is_reason x ≡ true
all-right [] e k x at = absurd cc
all-right (r ∷ rs) e zero x at = (let same : r ≡ x = cc in subst (λ y. is_reason y ≡ true) same (right-split (is_reason r) (list_any (λ reason. not (is_reason reason)) rs) e).0)
all-right (r ∷ rs) e (suc k) x at = all-right rs (right-split (is_reason r) (list_any (λ reason. not (is_reason reason)) rs) e).1 k x at

one-reason : (i : Instr) → length (reason_of i) ≤ 1
one-reason (Branch fold stay edges rest) = omega arith
one-reason (Invoke what answers other) = omega arith
one-reason (Consume prop n) = omega arith
one-reason (SpanOpen span n) = omega arith
one-reason (SpanClose span n) = omega arith
one-reason (Pause code reason n) = omega arith
one-reason (Fail code reason) = omega arith

no-before : (states : List State) (i count : ℕ) → PassedReasons states i count → (j : ℕ) → j < count → ReasonFails (reasons_of states) j → ⊥
no-before states i count p j low fails =
    let in_front : slice_get p.front j ≡ Some fails.0 = sym (get-low p.front (reasons_of (drop i states)) j (omega (arith, low, p.long))) ∙ (ap (λ rs. slice_get rs j) (sym p.all) ∙ fails.1) in
    false≢true (sym fails.2 ∙ p.right j fails.0 in_front)

-- the reasons from a state on
reasons-at : (states : List State) (i : ℕ) (s : State) → s ≡ get_or states i s → i < length states → reasons_of (drop i states) ≡ reason_of s.instr ++ reasons_of (drop (i + 1) states)
reasons-at states i s is low =
    let next : suc i ≡ i + 1 = omega arith in
    ap reasons_of (drop-at states i s low ∙ (ap (λ (x : State). x ∷ drop (suc i) states) (sym is) ∙ ap (λ n. s ∷ drop n states) next))

-- the reason of a state is the first wrong one
pub reason-found : (states : List State) (i count : ℕ) (s : State) (wrong : Bool) → s ≡ get_or states i s → i < length states → PassedReasons states i count →
    wrong ≡ list_any (λ reason. not (is_reason reason)) (reason_of s.instr) → wrong ≡ true → IsFirst (ReasonFails (reasons_of states)) (Some count)
reason-found states i count s wrong is low p e hit =
    let q = wrong-first (reason_of s.instr) (reasons_of (drop (i + 1) states)) (one-reason s.instr) (sym e ∙ hit) in
    let there : slice_get (reasons_of (drop i states)) 0 ≡ Some q.0 = ap (λ rs. slice_get rs 0) (reasons-at states i s is low) ∙ q.1 in
    let behind : slice_get (p.front ++ reasons_of (drop i states)) (length p.front) ≡ Some q.0 = get-behind p.front (reasons_of (drop i states)) q.0 there in
    let at : slice_get (reasons_of states) count ≡ Some q.0 = ap (λ rs. slice_get rs count) p.all ∙ subst (λ n. slice_get (p.front ++ reasons_of (drop i states)) n ≡ Some q.0) p.long behind in
    ((q.0, at, q.2), no-before states i count p)

-- one state more
pub reason-more : (states : List State) (i count more : ℕ) (s : State) (wrong : Bool) → s ≡ get_or states i s → i < length states → PassedReasons states i count →
    wrong ≡ list_any (λ reason. not (is_reason reason)) (reason_of s.instr) → wrong ≡ false → more ≡ length (reason_of s.instr) → PassedReasons states (i + 1) (count + more)
reason-more states i count more s wrong is low p e right m = record {
  front = p.front ++ reason_of s.instr;
  long = length-append p.front (reason_of s.instr) ∙ (ap (λ n. n + length (reason_of s.instr)) p.long ∙ ap (λ n. count + n) (sym m));
  all = p.all ∙ (ap (λ rs. p.front ++ rs) (reasons-at states i s is low) ∙ sym (append_assoc p.front (reason_of s.instr) (reasons_of (drop (i + 1) states))));
  right = λ j x at. elim (get-either p.front (reason_of s.instr) j x at) [
    | inl q ↦ p.right q.0 x q.1
    | inr q ↦ all-right (reason_of s.instr) (sym e ∙ right) q.0 x q.1
  ];
}

-- all states are passed
pub reason-all : (states : List State) (i count : ℕ) → length states ≤ i → PassedReasons states i count → (j : ℕ) → ReasonFails (reasons_of states) j → ⊥
reason-all states i count end p j fails =
    let none : reasons_of (drop i states) ≡ [] = ap reasons_of (drop_all i states end) in
    let all : slice_get (p.front ++ reasons_of (drop i states)) j ≡ Some fails.0 = ap (λ rs. slice_get rs j) (sym p.all) ∙ fails.1 in
    elim (get-either p.front (reasons_of (drop i states)) j fails.0 all) [
      | inl q ↦ false≢true (sym fails.2 ∙ p.right q.0 fails.0 q.1)
      | inr q ↦ (let never : slice_get {X = List ℕ} [] q.0 ≡ Some fails.0 = ap (λ rs. slice_get rs q.0) (sym none) ∙ q.1 in absurd cc)
    ]

pub reason-start : (states : List State) → PassedReasons states 0 0
reason-start states = record { front = []; long = refl; all = refl; right = λ j x at. absurd cc }
