-- What holds of the states of a program and of those made of them.
use Rattle.std.proofs.Common.{subst, ◌≡◌, ℕ, zero, suc, ◌<◌, List, [], ◌∷◌, Option, Some, None, Bool, true, false, refl, ◌∙◌, ap, arith, map, length, option_map, Contains, ◌⊎◌, inl, inr}
use Rattle.std.specs.Prelude.{slice_get, unwrap_or}
use Rattle.std.proofs.lemmas.Option.{slice_get-map}
use Rattle.std.proofs.lemmas.List.{length-map}
use Rattle.pp_graph.specs.declared.node.Answer.{Answer}
use Rattle.pp_program.specs.declared.program.Edge.{Edge}
use Rattle.pp_program.specs.declared.program.Instr.{Instr}
use Rattle.pp_program.specs.declared.program.Instr.TheVariants.{Branch, Invoke, Consume, SpanOpen, SpanClose, Pause, Fail}
use Rattle.pp_program.specs.declared.program.State.{State}
use Rattle.pp_program.specs.declared.program.Program.{Program}
use Rattle.pp_clean.specs.Map.{mapped_edge, mapped_answer, mapped, mapped_state, targets}
use Rattle.pp_clean.specs.Skip.{branch_past, instr_past, state_past, past, on_past, full_within, landing, skipped}
use Rattle.pp_clean.specs.Reach.{picked, state_targets, leads_to, IsInRange}
use Rattle.pp_clean.specs.Merge.{Ascend, EdgesAre}
use Rattle.pp_clean.specs.Finished.{AllStates}
use Rattle.pp_clean.proofs.ReachLaws.{unpicked, Contains-cons, Contains-nil}

pub states_map : (P Q : State → Type 0) (g : State → State) → ((s : State) → P s → Q (g s)) → (states : List State) → AllStates P states → AllStates Q (map g states)
states_map P Q g h [] all n s e = cc
states_map P Q g h (x ∷ states) all zero s e = let same : g x ≡ s = cc in subst Q same (h x (all 0 x refl))
states_map P Q g h (x ∷ states) all (suc n) s e = states_map P Q g h states (λ i. all (suc i)) n s e

pub states_picked : (P : State → Type 0) (marks : List Bool) (states : List State) → AllStates P states → AllStates P (picked marks states)
states_picked P marks states all n s e = let h = unpicked marks states n s e in all h.0 s h.3

pub map_inverse : {A B : Type 0} (g : A → B) (xs : List A) (n : ℕ) (y : B) → slice_get (map g xs) n ≡ Some y → (x : A) × (slice_get xs n ≡ Some x) × (g x ≡ y)
map_inverse g [] n y e = cc
map_inverse g (x ∷ xs) zero y e = (x, refl, (let same : g x ≡ y = cc in same))
map_inverse g (x ∷ xs) (suc n) y e = map_inverse g xs n y e

pub Contains-map : {A B : Type 0} (f : A → B) (xs : List A) (t : A) → Contains xs t → Contains (map f xs) (f t)
Contains-map f [] t h = absurd (Contains-nil t h)
Contains-map {A} {B} f (x ∷ xs) t h = by_place (Contains-cons x t xs h) (Contains-map f xs t)
  where
    by_place : (x ≡ t) ⊎ Contains xs t → (Contains xs t → Contains (map f xs) (f t)) → Contains (f x ∷ map f xs) (f t)
    by_place (inl e) go = (0, omega arith, ap f e)
    by_place (inr c) go = let d : Contains (map f xs) (f t) = go c in (suc d.0, (let below : d.0 < length (map f xs) = d.1 in omega arith), d.2)

pub Contains-unmap : {A B : Type 0} (f : A → B) (xs : List A) (t : B) → Contains (map f xs) t → (u : A) × Contains xs u × (f u ≡ t)
Contains-unmap f [] t h = absurd (Contains-nil t h)
Contains-unmap {A} {B} f (x ∷ xs) t h = by_place (Contains-cons (f x) t (map f xs) h) (Contains-unmap f xs t)
  where
    by_place : (f x ≡ t) ⊎ Contains (map f xs) t → (Contains (map f xs) t → (u : A) × Contains xs u × (f u ≡ t)) → (u : A) × Contains (x ∷ xs) u × (f u ≡ t)
    by_place (inl e) go = (x, (0, omega arith, refl), e)
    by_place (inr c) go = let d : (u : A) × Contains xs u × (f u ≡ t) = go c in (d.0, (suc d.1.0, (let below : d.1.0 < length xs = d.1.1 in omega arith), d.1.2), d.2)

edge_targets : (f : ℕ → ℕ) (edges : List Edge) → map (λ (e : Edge). e.target) (map (mapped_edge f) edges) ≡ map f (map (λ (e : Edge). e.target) edges)
edge_targets f [] = refl
edge_targets f (e ∷ edges) = ap (λ (l : List ℕ). f e.target ∷ l) (edge_targets f edges)

answer_targets : (f : ℕ → ℕ) (answers : List Answer) → map (λ (a : Answer). a.target) (map (mapped_answer f) answers) ≡ map f (map (λ (a : Answer). a.target) answers)
answer_targets f [] = refl
answer_targets f (a ∷ answers) = ap (λ (l : List ℕ). f a.target ∷ l) (answer_targets f answers)

-- mapped instructions lead where they are mapped to
pub targets-mapped : (f : ℕ → ℕ) (i : Instr) → targets (mapped f i) ≡ map f (targets i)
targets-mapped f (Branch fold stay edges rest) = ap (λ (l : List ℕ). f rest.target ∷ l) (edge_targets f edges)
targets-mapped f (Invoke code answers other) = ap (λ (l : List ℕ). f other ∷ l) (answer_targets f answers)
targets-mapped f (Consume prop next) = refl
targets-mapped f (SpanOpen span next) = refl
targets-mapped f (SpanClose span next) = refl
targets-mapped f (Pause code reason next) = refl
targets-mapped f (Fail code reason) = refl

pub state_targets-mapped : (f : ℕ → ℕ) (o : Option State) → state_targets (option_map (mapped_state f) o) ≡ map f (state_targets o)
state_targets-mapped f None = refl
state_targets-mapped f (Some s) = targets-mapped f s.instr

pub leads_to-mapped : (f : ℕ → ℕ) (states : List State) (n : ℕ) → leads_to (map (mapped_state f) states) n ≡ map f (leads_to states n)
leads_to-mapped f states n = ap state_targets (slice_get-map (mapped_state f) states n) ∙ state_targets-mapped f (slice_get states n)

bare_mapped : (f : ℕ → ℕ) (stay : List (ℕ × ℕ)) (edges : List Edge) (skip : Bool) (number : Option ℕ) (target : ℕ) →
    branch_past stay (map (mapped_edge f) edges) (record { skip = skip; number = number; target = f target })
    ≡ option_map f (branch_past stay edges (record { skip = skip; number = number; target = target }))
bare_mapped f [] [] true number target = refl
bare_mapped f [] [] false number target = refl
bare_mapped f [] (e ∷ edges) skip number target = refl
bare_mapped f (r ∷ stay) edges skip number target = refl

-- mapped instructions are empty where the instructions were
pub empty_mapped : (f : ℕ → ℕ) (i : Instr) → instr_past (mapped f i) ≡ option_map f (instr_past i)
empty_mapped f (Branch fold stay edges rest) = bare_mapped f stay edges rest.skip rest.number rest.target
empty_mapped f (Invoke code answers other) = refl
empty_mapped f (Consume prop next) = refl
empty_mapped f (SpanOpen span next) = refl
empty_mapped f (SpanClose span next) = refl
empty_mapped f (Pause code reason next) = refl
empty_mapped f (Fail code reason) = refl

pub state_past-mapped : (f : ℕ → ℕ) (o : Option State) → state_past (option_map (mapped_state f) o) ≡ option_map f (state_past o)
state_past-mapped f None = refl
state_past-mapped f (Some s) = empty_mapped f s.instr

pub past-mapped : (f : ℕ → ℕ) (states : List State) (n : ℕ) → past (map (mapped_state f) states) n ≡ option_map f (past states n)
past-mapped f states n = ap state_past (slice_get-map (mapped_state f) states n) ∙ state_past-mapped f (slice_get states n)

pub bare_leads : (stay : List (ℕ × ℕ)) (edges : List Edge) (skip : Bool) (number : Option ℕ) (target t : ℕ) →
    branch_past stay edges (record { skip = skip; number = number; target = target }) ≡ Some t → target ≡ t
bare_leads [] [] true number target t h = cc
bare_leads [] [] false number target t h = cc
bare_leads [] (e ∷ edges) skip number target t h = cc
bare_leads (r ∷ stay) edges skip number target t h = cc

empty_leads : (i : Instr) (t : ℕ) → instr_past i ≡ Some t → Contains (targets i) t
empty_leads (Branch fold stay edges rest) t h = (0, omega arith, bare_leads stay edges rest.skip rest.number rest.target t h)
empty_leads (Invoke code answers other) t h = cc
empty_leads (Consume prop next) t h = cc
empty_leads (SpanOpen span next) t h = cc
empty_leads (SpanClose span next) t h = cc
empty_leads (Pause code reason next) t h = cc
empty_leads (Fail code reason) t h = cc

empty_in_leads : (o : Option State) (t : ℕ) → state_past o ≡ Some t → Contains (state_targets o) t
empty_in_leads None t h = cc
empty_in_leads (Some s) t h = empty_leads s.instr t h

-- an empty state leads to its target
pub past_leads : (states : List State) (n t : ℕ) → past states n ≡ Some t → Contains (leads_to states n) t
past_leads states n t h = empty_in_leads (slice_get states n) t h

module _ (states : List State) (edges : (n t : ℕ) → Contains (leads_to states n) t → t < length states) where
  full_on : (k n m : ℕ) → n < length states → ((t : ℕ) → t < length states → full_within states k t ≡ Some m → m < length states) →
      (o : Option ℕ) → past states n ≡ o → on_past (full_within states k) n o ≡ Some m → m < length states
  full_on k n m h go None e f = let same : n ≡ m = cc in subst (λ (x : ℕ). x < length states) same h
  full_on k n m h go (Some t) e f = go t (edges n t (past_leads states n t e)) f

  full_range : (k n m : ℕ) → n < length states → full_within states k n ≡ Some m → m < length states
  full_range zero n m h f = cc
  full_range (suc k) n m h f = full_on k n m h (λ t. full_range k t m) (past states n) refl f

  landing_by : (n : ℕ) → n < length states → (o : Option ℕ) → full_within states (suc (length states)) n ≡ o → unwrap_or o n < length states
  landing_by n h None e = h
  landing_by n h (Some m) e = full_range (suc (length states)) n m h e

  -- a move goes to a state
  pub landing_range : (n : ℕ) → n < length states → landing states n < length states
  landing_range n h = landing_by n h (full_within states (suc (length states)) n) refl

-- where empty states are skipped, the moves lead to states
pub skipped_range : (p : Program) → IsInRange p → IsInRange (skipped p)
skipped_range p r =
    let f : ℕ → ℕ = landing p.states in
    let same : length (map (mapped_state f) p.states) ≡ length p.states = length-map p.states (mapped_state f) in record {
      entry = rw same (landing_range p.states r.edges p.entry r.entry);
      edges = λ n t h. (let u : (u : ℕ) × Contains (leads_to p.states n) u × (f u ≡ t) = Contains-unmap f (leads_to p.states n) t (subst (λ (l : List ℕ). Contains l t) (leads_to-mapped f p.states n) h) in
          rw same (subst (λ (x : ℕ). x < length p.states) u.2 (landing_range p.states r.edges u.0 (r.edges n u.0 u.1))));
    }

ascend_mapped : (f : ℕ → ℕ) (n : ℕ) (edges : List Edge) → Ascend n edges → Ascend n (map (mapped_edge f) edges)
ascend_mapped f n [] h = tt
ascend_mapped f n (e ∷ edges) h = (h.0, h.1, ascend_mapped f (suc e.hi) edges h.2)

-- mapped edges ascend where the edges do
pub ascend_instr : (f : ℕ → ℕ) (i : Instr) → EdgesAre (Ascend 0) i → EdgesAre (Ascend 0) (mapped f i)
ascend_instr f (Branch fold stay edges rest) h = ascend_mapped f 0 edges h
ascend_instr f (Invoke code answers other) h = tt
ascend_instr f (Consume prop next) h = tt
ascend_instr f (SpanOpen span next) h = tt
ascend_instr f (SpanClose span next) h = tt
ascend_instr f (Pause code reason next) h = tt
ascend_instr f (Fail code reason) h = tt
