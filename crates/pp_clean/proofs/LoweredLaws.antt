-- What lowering gives can be finished.
use Rattle.std.proofs.Common.{subst, ◌≡◌, ℕ, suc, ◌<◌, ◌≤◌, List, [], ◌∷◌, Option, Some, None, true, refl, arith, map, length, Contains, ◌⊎◌, inl, inr}
use Rattle.std.specs.Prelude.{slice_get, unwrap_or}
use Rattle.std.specs.List.{AllByRecursion}
use Rattle.std.proofs.lemmas.Bool.{false≢true}
use Rattle.pp_graph.specs.declared.node.Answer.{Answer}
use Rattle.pp_graph.specs.Plan.{Plan, IsWellFormed}
use Rattle.pp_mean.specs.Loops.{IsLoopFree}
use Rattle.pp_check.specs.Spans.{SpansFit}
use Rattle.pp_program.specs.declared.program.Edge.{Edge}
use Rattle.pp_program.specs.declared.program.Instr.{Instr}
use Rattle.pp_program.specs.declared.program.Instr.TheVariants.{Branch, Invoke, Consume, SpanOpen, SpanClose, Pause, Fail}
use Rattle.pp_program.specs.declared.program.State.{State}
use Rattle.pp_program.specs.declared.program.Program.{Program}
use Rattle.pp_program.specs.declared.fault.VerifyRule.TheVariants.{Target, Width, Names}
use Rattle.pp_program.specs.Targets.{is_value_instr}
use Rattle.pp_program.specs.Valid.{IsValid}
use Rattle.pp_program.specs.Runnable.{Leads, InstrFits, StateFits}
use Rattle.pp_program.proofs.RunnableLemmas.{state-fits, entry-leads}
use Rattle.pp_lower.specs.Lowered.{lowered}
use Rattle.pp_lower.proofs.ValidLaws.{valid}
use Rattle.pp_lower.proofs.EmptyLaws.{empty_bare}
use Rattle.pp_clean.specs.Map.{targets, EachMove}
use Rattle.pp_clean.specs.Skip.{instr_past, state_past, NoNumber, rest_number}
use Rattle.pp_clean.specs.Reach.{state_targets}
use Rattle.pp_clean.specs.Merge.{Ascend, EdgesAre}
use Rattle.pp_clean.specs.Finished.{IsFinishable}
use Rattle.pp_clean.proofs.ReachLaws.{Contains-cons, Contains-nil}

-- what holds at each place holds of all, one after the other
each_all : {X : Type 0} (P : X → Type 0) (xs : List X) → ((i : ℕ) (x : X) → slice_get xs i ≡ Some x → P x) → AllByRecursion P xs
each_all P [] each = tt
each_all P (x ∷ xs) each = (each 0 x refl, each_all P xs (λ i y e. each (suc i) y e))

-- edges whose bytes ascend pair by pair
ascends : (n : ℕ) (edges : List Edge) → ((i : ℕ) (e : Edge) → slice_get edges i ≡ Some e → e.lo ≤ e.hi) →
    ((i j : ℕ) (e f : Edge) → i < j → slice_get edges i ≡ Some e → slice_get edges j ≡ Some f → e.hi < f.lo) →
    ((e : Edge) → slice_get edges 0 ≡ Some e → n ≤ e.lo) → Ascend n edges
ascends n [] some row low = tt
ascends n (e ∷ edges) some row low = (
  low e refl,
  some 0 e refl,
  ascends (suc e.hi) edges (λ i f at. some (suc i) f at) (λ i j f g less a b. row (suc i) (suc j) f g (omega (arith, less)) a b)
      (λ f at. (let above : e.hi < f.lo = row 0 1 e f (omega arith) refl at in omega (arith, above))),
)

-- an element of mapped ones is one at a place
mapped_below : {X : Type 0} (f : X → ℕ) (xs : List X) (size t : ℕ) → ((i : ℕ) (x : X) → slice_get xs i ≡ Some x → f x < size) → Contains (map f xs) t → t < size
mapped_below f [] size t each c = absurd (Contains-nil t c)
mapped_below f (x ∷ xs) size t each c = go (Contains-cons (f x) t (map f xs) c) (mapped_below f xs size t (λ i y e. each (suc i) y e))
  where
    go : (f x ≡ t) ⊎ Contains (map f xs) t → (Contains (map f xs) t → t < size) → t < size
    go (inl e) later = subst (λ (n : ℕ). n < size) e (each 0 x refl)
    go (inr d) later = later d

first_below : (n t size : ℕ) (l : List ℕ) → n < size → (Contains l t → t < size) → Contains (n ∷ l) t → t < size
first_below n t size l low later c = go (Contains-cons n t l c)
  where
    go : (n ≡ t) ⊎ Contains l t → t < size
    go (inl e) = subst (λ (m : ℕ). m < size) e low
    go (inr d) = later d

-- an invoke of signature value isn't empty
value_full : (p : Program) (i : Instr) (t : ℕ) → is_value_instr p i ≡ true → instr_past i ≡ Some t → ⊥
value_full p (Branch fold stay edges rest) t value past = false≢true value
value_full p (Invoke code answers other) t value past = cc
value_full p (Consume prop next) t value past = false≢true value
value_full p (SpanOpen span next) t value past = false≢true value
value_full p (SpanClose span next) t value past = false≢true value
value_full p (Pause code reason next) t value past = false≢true value
value_full p (Fail code reason) t value past = false≢true value

-- so no number comes to an empty state
no_number : (p : Program) (number : Option ℕ) (target : ℕ) → Leads p number target → NoNumber p.states target (unwrap_or number 0)
no_number p None target leads t past = refl
no_number p (Some number) target leads t past = absurd (go (slice_get p.states target) refl past)
  where
    go : (o : Option State) → slice_get p.states target ≡ o → state_past o ≡ Some t → ⊥
    go None at empty = cc
    go (Some s) at empty = value_full p s.instr t (leads.suits s at).0 empty

-- where an instruction leads that fits
instr_within : (p : Program) (i : Instr) → InstrFits p i → (t : ℕ) → Contains (targets i) t → t < length p.states
instr_within p (Branch fold stay edges rest) fits t c =
    first_below rest.target t (length p.states) (map (λ (e : Edge). e.target) edges) fits.1.lead.within
    (mapped_below (λ (e : Edge). e.target) edges (length p.states) t (λ i e at. (fits.0.lead i e at).within)) c
instr_within p (Invoke code answers other) fits t c =
    first_below other t (length p.states) (map (λ (a : Answer). a.target) answers) fits.2.within
    (mapped_below (λ (a : Answer). a.target) answers (length p.states) t (λ i a at. (fits.1.lead i a at).within)) c
instr_within p (Consume prop next) fits t c = first_below next t (length p.states) [] fits.1.within (λ d. absurd (Contains-nil t d)) c
instr_within p (SpanOpen span next) fits t c = first_below next t (length p.states) [] fits.1.within (λ d. absurd (Contains-nil t d)) c
instr_within p (SpanClose span next) fits t c = first_below next t (length p.states) [] fits.1.within (λ d. absurd (Contains-nil t d)) c
instr_within p (Pause code reason next) fits t c = first_below next t (length p.states) [] fits.1.within (λ d. absurd (Contains-nil t d)) c
instr_within p (Fail code reason) fits t c = absurd (Contains-nil t c)

instr_ascend : (p : Program) (i : Instr) → InstrFits p i → EdgesAre (Ascend 0) i
instr_ascend p (Branch fold stay edges rest) fits = ascends 0 edges fits.0.some fits.0.ascend (λ e at. omega arith)
instr_ascend p (Invoke code answers other) fits = tt
instr_ascend p (Consume prop next) fits = tt
instr_ascend p (SpanOpen span next) fits = tt
instr_ascend p (SpanClose span next) fits = tt
instr_ascend p (Pause code reason next) fits = tt
instr_ascend p (Fail code reason) fits = tt

instr_numbers : (p : Program) (i : Instr) → InstrFits p i → EachMove (NoNumber p.states) i
instr_numbers p (Branch fold stay edges rest) fits =
    (each_all (λ (e : Edge). NoNumber p.states e.target (unwrap_or e.number 0)) edges (λ i e at. no_number p e.number e.target (fits.0.lead i e at)), no_number p rest.number rest.target fits.1.lead)
instr_numbers p (Invoke code answers other) fits = (each_all (λ (a : Answer). NoNumber p.states a.target 0) answers (λ i a at t past. refl), λ t past. refl)
instr_numbers p (Consume prop next) fits = λ t past. refl
instr_numbers p (SpanOpen span next) fits = λ t past. refl
instr_numbers p (SpanClose span next) fits = λ t past. refl
instr_numbers p (Pause code reason next) fits = λ t past. refl
instr_numbers p (Fail code reason) fits = tt

-- a valid program whose empty states carry no number can be finished
pub valid_finishable : (p : Program) → IsValid p → ((n t : ℕ) (s : State) → slice_get p.states n ≡ Some s → instr_past s.instr ≡ Some t → rest_number s.instr ≡ None) → IsFinishable p
valid_finishable p holds from = record {
  numberless = record { from = from; onto = λ n s at. instr_numbers p s.instr (fits n s at).1 };
  range = record {
    entry = (entry-leads p (holds Target) (holds Width) (holds Names)).within;
    edges = λ n t c. within n t (slice_get p.states n) refl c;
  };
  ascend = λ n s at. instr_ascend p s.instr (fits n s at).1;
  origins = λ n s at. (fits n s at).0;
}
  where
    fits : (n : ℕ) (s : State) → slice_get p.states n ≡ Some s → StateFits p s
    fits n s at = state-fits p (holds Target) (holds Width) (holds Names) n s at

    within : (n t : ℕ) (o : Option State) → slice_get p.states n ≡ o → Contains (state_targets o) t → t < length p.states
    within n t None at c = absurd (Contains-nil t c)
    within n t (Some s) at c = instr_within p s.instr (fits n s at).1 t c

-- the empty states of a lowered program carry no number
lowered_numberless : (g : Plan) → IsWellFormed g → (n t : ℕ) (s : State) → slice_get (lowered g).states n ≡ Some s → instr_past s.instr ≡ Some t → rest_number s.instr ≡ None
lowered_numberless g form n t s at past = go s.instr refl past
  where
    go : (i : Instr) → s.instr ≡ i → instr_past i ≡ Some t → rest_number i ≡ None
    go (Branch fold [] [] rest) is empty = empty_bare g form n s at fold [] rest is
    go (Branch fold [] (e ∷ edges) rest) is empty = absurd cc
    go (Branch fold (r ∷ stay) edges rest) is empty = absurd cc
    go (Invoke code answers other) is empty = refl
    go (Consume prop next) is empty = refl
    go (SpanOpen span next) is empty = refl
    go (SpanClose span next) is empty = refl
    go (Pause code reason next) is empty = refl
    go (Fail code reason) is empty = refl

-- what lowering gives can be finished
pub lowered_finishable : (g : Plan) → IsWellFormed g → IsLoopFree g → SpansFit g → IsFinishable (lowered g)
lowered_finishable g form free fit = valid_finishable (lowered g) (valid g form free fit) (lowered_numberless g form)
