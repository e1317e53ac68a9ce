-- Where a state leads by its turns, an edge of it tells, and each end that its edges tell is come to on some string.
use Rattle.std.proofs.Common.{subst, ◌≡◌, ℕ, zero, suc, ◌<◌, ◌⊎◌, List, [], ◌∷◌, Option, Some, None, Bool, true, false, cond, refl, sym, ◌∙◌, ap, arith, replicate, inl, inr}
use Rattle.std.specs.Prelude.{slice_get, slice_index, nat_le, ◌==◌, find, unwrap_or}
use Rattle.std.specs.List.{Any}
use Rattle.std.proofs.lemmas.List.{get_or-replicate}
use Rattle.pp_flow.specs.Rows.{Way, free, onward}
use Rattle.pp_bytes.specs.declared.fold.Fold.{Fold}
use Rattle.pp_bytes.specs.Fold.{folded}
use Rattle.pp_bytes.specs.Ranges.{in_ranges}
use Rattle.pp_graph.specs.declared.node.Answer.{Answer}
use Rattle.pp_program.specs.declared.branch.Step.{Step}
use Rattle.pp_program.specs.declared.program.Edge.{Edge}
use Rattle.pp_program.specs.declared.program.Rest.{Rest}
use Rattle.pp_program.specs.declared.program.Instr.{Instr}
use Rattle.pp_program.specs.declared.program.Instr.TheVariants.{Branch, Invoke, Consume, SpanOpen, SpanClose, Pause, Fail}
use Rattle.pp_program.specs.declared.program.State.{State}
use Rattle.pp_program.specs.declared.program.Program.{Program}
use Rattle.pp_event.specs.Run.{Config, Turn, Goes, Asks, Rests, Stops, Fails}
use Rattle.pp_event.specs.Turns.{Effect, AsksHost, Answers, Sets, effect_turn, consumed, drained, to}
use Rattle.pp_event.specs.Codes.{target_or, answered, effect_of}
use Rattle.pp_event.specs.Loops.{LeadsTo, Leads, FreeMove, TakingMove, PauseMove, AreBytes}
use Rattle.pp_program.specs.States.{edge_on, edge_turn, branch_turn, rest_turn, is_empty_branch, instr_turn, state_turn, program_turn}
use Rattle.pp_program.specs.Moves.{AnswersWith, AnswerEdge, program_moves}
use Rattle.pp_program.specs.steps.Ends.{EndsOf, EndsAt, StepEnds, edge_step, step_on}
use Rattle.pp_flow.proofs.ListLemmas.{any-first, any-later}

-- by a move that takes so many bytes
abbrev pub way_of : ℕ → Way
way_of zero = free
way_of (suc n) = onward

-- an invoke
effect-told : (c : Config) (lead : ℕ → ℕ) (e : Effect) (n next : ℕ) → LeadsTo (effect_turn c lead e) n next → (n ≡ 0) × ((v : ℕ) × (lead v ≡ next))
effect-told c lead (AsksHost host) n next l = (l.0, (l.1, l.3))
effect-told c lead (Answers answer) n next l = (sym l.0, (answer, l.1))
effect-told c lead (Sets prop value) n next l = (sym l.0, (0, l.1))

found-in : (answers : List Answer) (n : ℕ) (a : Answer) → find (λ (a : Answer). a.number == n) answers ≡ Some a → Any (λ (x : Answer). x ≡ a) answers
found-in [] n a e = absurd cc
found-in (x ∷ rest) n a e = by (λ f. found-in rest n a f) (x.number == n) e
  where
    by : (find (λ (a : Answer). a.number == n) rest ≡ Some a → Any (λ (x : Answer). x ≡ a) rest) → (t : Bool) → cond t (Some x) (find (λ (a : Answer). a.number == n) rest) ≡ Some a → Any (λ (x : Answer). x ≡ a) (x ∷ rest)
    by go true e = any-first (λ (x : Answer). x ≡ a) x rest (let same : x ≡ a = cc in same)
    by go false e = any-later (λ (x : Answer). x ≡ a) x rest (go e)

pub answer-told : (answers : List Answer) (other v next : ℕ) → answered answers other v ≡ next → (other ≡ next) ⊎ Any (λ (a : Answer). a.target ≡ next) answers
answer-told answers other v next e = by (find (λ (a : Answer). a.number == v) answers) refl e
  where
    by : (o : Option Answer) → find (λ (a : Answer). a.number == v) answers ≡ o → target_or other o ≡ next → (other ≡ next) ⊎ Any (λ (a : Answer). a.target ≡ next) answers
    by None f e = inl e
    by (Some a) f e = (let q = found-in answers v a f in inr (q.0, q.1, q.2, q.3, ap (λ (x : Answer). x.target) q.4 ∙ e))

consume-told : (t : Bool) (d e : Config) (v n next : ℕ) → LeadsTo (cond t (Goes d v []) (Rests e)) n next → d.node ≡ next
consume-told true d e v n next l = l.1
consume-told false d e v n next l = absurd l

-- a branch on a byte
to-told : (c : Config) (target number : ℕ) (takes : Bool) (n next : ℕ) → LeadsTo (to c target (cond takes 1 0) number) n next → StepEnds (record { target = target; takes = takes }) (way_of n) next
to-told c target number true zero next l = absurd (omega (arith, l.0))
to-told c target number true (suc n) next l = (l.1, refl)
to-told c target number false zero next l = (l.1, refl)
to-told c target number false (suc n) next l = absurd (omega (arith, l.0))

edge-told : (c : Config) (rest : Rest) (o : Option Edge) (n next : ℕ) → LeadsTo (edge_turn c rest o) n next → StepEnds (edge_step rest o) (way_of n) next
edge-told c rest None n next l = to-told c rest.target (unwrap_or rest.number 0) rest.skip n next l
edge-told c rest (Some e) n next l = to-told c e.target (unwrap_or e.number 0) e.take n next l

branch-told : (c : Config) (stays : Bool) (rest : Rest) (o : Option Edge) (n next : ℕ) → LeadsTo (cond stays (to c c.node 1 0) (edge_turn c rest o)) n next →
    StepEnds (cond stays (record { target = c.node; takes = true }) (edge_step rest o)) (way_of n) next
branch-told c true rest o n next l = to-told c c.node 0 true n next l
branch-told c false rest o n next l = edge-told c rest o n next l

step-ends : (state : ℕ) (fold : Fold) (stay : List (ℕ × ℕ)) (edges : List Edge) (rest : Rest) (n b next : ℕ) → b < 256 →
    StepEnds (step_on state fold stay edges rest b) (way_of n) next → EndsOf state (Branch fold stay edges rest) (way_of n) b next
step-ends state fold stay edges rest zero b next h s = inl (h, s)
step-ends state fold stay edges rest (suc n) b next h s = inl (h, s)

-- where a state leads, an edge of it does
instr-told : (i : Instr) (c : Config) (b : ℕ) (str : List ℕ) → b < 256 → (n next : ℕ) → LeadsTo (instr_turn i c (b ∷ str)) n next → EndsOf c.node i (way_of n) b next
instr-told (Branch fold stay edges rest) c b str h n next l =
    step-ends c.node fold stay edges rest n b next h (branch-told c (in_ranges stay b) rest (edge_on (folded fold b) edges) n next l)
instr-told (Invoke what answers other) c b str h zero next l =
    let q = effect-told c (answered answers other) (effect_of c.values c.carried what) zero next l in
    answer-told answers other q.1.0 next q.1.1
instr-told (Invoke what answers other) c b str h (suc n) next l =
    let q = effect-told c (answered answers other) (effect_of c.values c.carried what) (suc n) next l in
    absurd (omega (arith, q.0))
instr-told (Consume prop m) c b str h zero next l = consume-told _ _ _ _ zero next l
instr-told (Consume prop m) c b str h (suc n) next l = consume-told _ _ _ _ (suc n) next l
instr-told (SpanOpen span m) c b str h zero next l = l.1
instr-told (SpanOpen span m) c b str h (suc n) next l = absurd (omega (arith, l.0))
instr-told (SpanClose span m) c b str h zero next l = l.1
instr-told (SpanClose span m) c b str h (suc n) next l = absurd (omega (arith, l.0))
instr-told (Pause code reason m) c b str h zero next l = l.1
instr-told (Pause code reason m) c b str h (suc n) next l = absurd (omega (arith, l.0))
instr-told (Fail code reason) c b str h n next l = absurd l

-- a turn stops, and goes on at this state
abbrev StopsAt : Turn → ℕ → Type 0
StopsAt (Goes d k items) next = ⊥
StopsAt (Asks code value go) next = ⊥
StopsAt (Rests d) next = ⊥
StopsAt (Stops code d) next = d.node ≡ next
StopsAt (Fails code) next = ⊥

effect-stays : (c : Config) (lead : ℕ → ℕ) (e : Effect) (next : ℕ) → StopsAt (effect_turn c lead e) next → ⊥
effect-stays c lead (AsksHost host) next s = s
effect-stays c lead (Answers answer) next s = s
effect-stays c lead (Sets prop value) next s = s

consume-stays : (t : Bool) (d e : Config) (v next : ℕ) → StopsAt (cond t (Goes d v []) (Rests e)) next → ⊥
consume-stays true d e v next s = s
consume-stays false d e v next s = s

edge-stays : (c : Config) (rest : Rest) (o : Option Edge) (next : ℕ) → StopsAt (edge_turn c rest o) next → ⊥
edge-stays c rest None next s = s
edge-stays c rest (Some e) next s = s

either-stays : (t : Bool) (u v : Turn) (next : ℕ) → (StopsAt u next → ⊥) → (StopsAt v next → ⊥) → StopsAt (cond t u v) next → ⊥
either-stays true u v next f g s = f s
either-stays false u v next f g s = g s

branch-stays : (fold : Fold) (stay : List (ℕ × ℕ)) (edges : List Edge) (rest : Rest) (c : Config) (bytes : List ℕ) (next : ℕ) → StopsAt (branch_turn c fold stay edges rest bytes) next → ⊥
branch-stays fold stay edges rest c [] next s = either-stays (is_empty_branch stay edges rest) (rest_turn c rest) (Rests (record c { carried = 0 })) next (edge-stays c rest None next) (λ x. x) s
branch-stays fold stay edges rest c (b ∷ bytes) next s = either-stays (in_ranges stay b) (to c c.node 1 0) (edge_turn c rest (edge_on (folded fold b) edges)) next (λ x. x) (edge-stays c rest (edge_on (folded fold b) edges) next) s

-- only a pause stops
stop-told : (i : Instr) (c : Config) (b : ℕ) (rest : List ℕ) (next : ℕ) → StopsAt (instr_turn i c rest) next → EndsOf c.node i onward b next
stop-told (Branch fold stay edges last) c b rest next s = absurd (branch-stays fold stay edges last c rest next s)
stop-told (Invoke what answers other) c b rest next s = absurd (effect-stays c (answered answers other) (effect_of c.values c.carried what) next s)
stop-told (Consume prop m) c b rest next s = absurd (consume-stays _ _ _ _ next s)
stop-told (SpanOpen span m) c b rest next s = absurd s
stop-told (SpanClose span m) c b rest next s = absurd s
stop-told (Pause code reason m) c b rest next s = s
stop-told (Fail code reason) c b rest next s = absurd s

-- at a state, with these values
abbrev at_state : ℕ → List ℕ → Config
at_state state values = record { node = state; at = 0; carried = 0; values = values; spans = [] }

no-bytes : AreBytes []
no-bytes i = omega arith

to-made : (c : Config) (s : Step) (number : ℕ) (next : ℕ) → StepEnds s free next → LeadsTo (to c s.target (cond s.takes 1 0) number) 0 next
to-made c s number next e = by s.takes e.1
  where
    by : (t : Bool) → t ≡ false → LeadsTo (to c s.target (cond t 1 0) number) 0 next
    by true f = absurd cc
    by false f = (refl, e.0)

taken-made : (c : Config) (s : Step) (number : ℕ) (next : ℕ) → StepEnds s onward next → LeadsTo (to c s.target (cond s.takes 1 0) number) 1 next
taken-made c s number next e = by s.takes e.1
  where
    by : (t : Bool) → t ≡ true → LeadsTo (to c s.target (cond t 1 0) number) 1 next
    by true f = (refl, e.0)
    by false f = absurd cc

free-branch : (c : Config) (stays : Bool) (rest : Rest) (o : Option Edge) (next : ℕ) → StepEnds (cond stays (record { target = c.node; takes = true }) (edge_step rest o)) free next →
    LeadsTo (cond stays (to c c.node 1 0) (edge_turn c rest o)) 0 next
free-branch c true rest o next e = absurd cc
free-branch c false rest None next e = to-made c (edge_step rest None) (unwrap_or rest.number 0) next e
free-branch c false rest (Some x) next e = to-made c (edge_step rest (Some x)) (unwrap_or x.number 0) next e

onward-branch : (c : Config) (stays : Bool) (rest : Rest) (o : Option Edge) (next : ℕ) → StepEnds (cond stays (record { target = c.node; takes = true }) (edge_step rest o)) onward next →
    LeadsTo (cond stays (to c c.node 1 0) (edge_turn c rest o)) 1 next
onward-branch c true rest o next e = (refl, e.0)
onward-branch c false rest None next e = taken-made c (edge_step rest None) (unwrap_or rest.number 0) next e
onward-branch c false rest (Some x) next e = taken-made c (edge_step rest (Some x)) (unwrap_or x.number 0) next e

free-instr : (i : Instr) (state b next : ℕ) → EndsOf state i free b next → LeadsTo (instr_turn i (at_state state []) (b ∷ [])) 0 next ⊎ AnswersWith i next
free-instr (Branch fold stay edges rest) state b next (inl e) = inl (free-branch (at_state state []) (in_ranges stay b) rest (edge_on (folded fold b) edges) next e.1)
free-instr (Branch fold stay edges rest) state b next (inr (inl e)) = absurd e
free-instr (Branch fold stay edges rest) state b next (inr (inr e)) = absurd e
free-instr (Invoke what answers other) state b next e = inr e
free-instr (Consume prop m) state b next e = inl (refl, e)
free-instr (SpanOpen span m) state b next e = inl (refl, e)
free-instr (SpanClose span m) state b next e = inl (refl, e)
free-instr (Pause code reason m) state b next e = inl (refl, e)
free-instr (Fail code reason) state b next e = absurd e

-- for some values, a byte is taken
abbrev Takes : Instr → ℕ → ℕ → ℕ → Type 0
Takes i state b next = (values : List ℕ) × LeadsTo (instr_turn i (at_state state values) (b ∷ [])) 1 next

-- or the state pauses
abbrev Waits : Instr → ℕ → ℕ → Type 0
Waits i state next = (code : ℕ) × (d : Config) × (instr_turn i (at_state state []) [] ≡ Stops code d) × (d.node ≡ next)

consume-one : (node b prop next v : ℕ) (values : List ℕ) → v ≡ 1 → LeadsTo (cond (nat_le v 1) (Goes (consumed (at_state node values) prop next v) v []) (Rests (drained (at_state node values) prop v 1))) 1 next
consume-one node b prop next v values e = subst (λ (u : ℕ). LeadsTo (cond (nat_le u 1) (Goes (consumed (at_state node values) prop next u) u []) (Rests (drained (at_state node values) prop u 1))) 1 next) (sym e) (refl, refl)

onward-instr : (i : Instr) (state b next : ℕ) → EndsOf state i onward b next → Takes i state b next ⊎ Waits i state next
onward-instr (Branch fold stay edges rest) state b next (inl e) = inl ([], onward-branch (at_state state []) (in_ranges stay b) rest (edge_on (folded fold b) edges) next e.1)
onward-instr (Branch fold stay edges rest) state b next (inr (inl e)) = absurd e
onward-instr (Branch fold stay edges rest) state b next (inr (inr e)) = absurd e
onward-instr (Invoke what answers other) state b next (inl e) = absurd e
onward-instr (Invoke what answers other) state b next (inr e) = absurd e
onward-instr (Consume prop m) state b next e =
    inl (
      replicate (suc prop) 1,
      subst (λ (x : ℕ). LeadsTo (instr_turn (Consume prop m) (at_state state (replicate (suc prop) 1)) (b ∷ [])) 1 x) e
          (consume-one state b prop m (slice_index (replicate (suc prop) 1) prop) (replicate (suc prop) 1) (get_or-replicate (suc prop) prop 1 0 (omega arith))),
    )
onward-instr (SpanOpen span m) state b next e = absurd e
onward-instr (SpanClose span m) state b next e = absurd e
onward-instr (Pause code reason m) state b next e = inr (code, record { node = m; at = 0; carried = 0; values = []; spans = [] }, refl, e)
onward-instr (Fail code reason) state b next e = absurd e

-- of the state at a place
module _ (p : Program) where
  state-told : (o : Option State) (c : Config) (b : ℕ) (str : List ℕ) → b < 256 → (n next : ℕ) → LeadsTo (state_turn o c (b ∷ str)) n next → EndsAt c.node o (way_of n) b next
  state-told None c b str h n next l = absurd l
  state-told (Some s) c b str h n next l = instr-told s.instr c b str h n next l

  leads-told : (b node n next : ℕ) → b < 256 → Leads (program_turn p) node b n next → EndsAt node (slice_get p.states node) (way_of n) b next
  leads-told b node n next h (c, str, are, there, l) =
      subst (λ (x : ℕ). EndsAt x (slice_get p.states x) (way_of n) b next) there (state-told (slice_get p.states c.node) c b str h n next l)

  answers-told : (i : Instr) (state b next : ℕ) → AnswersWith i next → EndsOf state i free b next
  answers-told (Branch fold stay edges rest) state b next e = absurd e
  answers-told (Invoke what answers other) state b next e = e
  answers-told (Consume prop n) state b next e = absurd e
  answers-told (SpanOpen span n) state b next e = absurd e
  answers-told (SpanClose span n) state b next e = absurd e
  answers-told (Pause code reason n) state b next e = absurd e
  answers-told (Fail code reason) state b next e = absurd e

  answer-edge-told : (o : Option State) (state b next : ℕ) → AnswerEdge o next → EndsAt state o free b next
  answer-edge-told None state b next e = absurd e
  answer-edge-told (Some s) state b next e = answers-told s.instr state b next e

  pub free-told : (b node next : ℕ) → b < 256 → FreeMove (program_moves p) b node next → EndsAt node (slice_get p.states node) free b next
  free-told b node next h (inl l) = leads-told b node 0 next h l
  free-told b node next h (inr e) = answer-edge-told (slice_get p.states node) node b next e

  stops-told : (o : Option State) (c : Config) (b : ℕ) (rest : List ℕ) (next : ℕ) → StopsAt (state_turn o c rest) next → EndsAt c.node o onward b next
  stops-told None c b rest next s = absurd s
  stops-told (Some x) c b rest next s = stop-told x.instr c b rest next s

  pub onward-told : (b node next : ℕ) → b < 256 → TakingMove (program_moves p) b node next ⊎ PauseMove (program_moves p) node next → EndsAt node (slice_get p.states node) onward b next
  onward-told b node next h (inl (k, l)) = leads-told b node (suc k) next h l
  onward-told b node next h (inr (c, d, rest, code, there, stops, leads)) =
      subst (λ (x : ℕ). EndsAt x (slice_get p.states x) onward b next) there
      (stops-told (slice_get p.states c.node) c b rest next (subst (λ (t : Turn). StopsAt t next) (sym stops) leads))

  free-at : (o : Option State) (node b next : ℕ) → EndsAt node o free b next → LeadsTo (state_turn o (at_state node []) (b ∷ [])) 0 next ⊎ AnswerEdge o next
  free-at None node b next e = absurd e
  free-at (Some s) node b next e = free-instr s.instr node b next e

  pub free-made-by : (b node next : ℕ) → EndsAt node (slice_get p.states node) free b next → FreeMove (program_moves p) b node next
  free-made-by b node next e = elim (free-at (slice_get p.states node) node b next e) [
    | inl l ↦ inl (at_state node [], [], no-bytes, refl, l)
    | inr a ↦ inr a
  ]

  abbrev OnwardAt : Option State → ℕ → ℕ → ℕ → Type 0
  OnwardAt o node b next =
      ((values : List ℕ) × LeadsTo (state_turn o (at_state node values) (b ∷ [])) 1 next)
      ⊎ ((code : ℕ) × (d : Config) × (state_turn o (at_state node []) [] ≡ Stops code d) × (d.node ≡ next))

  onward-at : (o : Option State) (node b next : ℕ) → EndsAt node o onward b next → OnwardAt o node b next
  onward-at None node b next e = absurd e
  onward-at (Some s) node b next e = onward-instr s.instr node b next e

  pub onward-made-by : (b node next : ℕ) → EndsAt node (slice_get p.states node) onward b next → TakingMove (program_moves p) b node next ⊎ PauseMove (program_moves p) node next
  onward-made-by b node next e = elim (onward-at (slice_get p.states node) node b next e) [
    | inl l ↦ inl (0, (at_state node l.0, [], no-bytes, refl, l.1))
    | inr s ↦ inr (at_state node [], s.1, [], s.0, refl, s.2, s.3)
  ]
