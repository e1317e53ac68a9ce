-- Spans stand right at the entry of a program and behind each of its turns.
use Rattle.std.proofs.Common.{subst, ◌≡◌, ◌↔◌, ℕ, zero, suc, ◌<◌, List, [], ◌∷◌, Option, Some, None, Bool, true, false, cond, refl, sym, ◌∙◌, ap, length, set, replicate, inl, inr, ◌⊎◌}
use Rattle.std.specs.Prelude.{slice_get, slice_index, ◌==◌, nat_le}
use Rattle.std.specs.Int.{bit_at}
use Rattle.std.proofs.lemmas.Bool.{eqb-true, eqb-false}
use Rattle.std.proofs.lemmas.List.{length-replicate, length-set}
use Rattle.pp_bytes.specs.declared.fold.Fold.{Fold}
use Rattle.pp_bytes.specs.Fold.{folded}
use Rattle.pp_bytes.specs.Ranges.{in_ranges}
use Rattle.pp_graph.specs.declared.node.Answer.{Answer}
use Rattle.pp_graph.specs.declared.node.Code.{Code}
use Rattle.pp_event.specs.Codes.{answered, effect_of}
use Rattle.pp_event.specs.Run.{Config, Turn, Goes, Rests}
use Rattle.pp_event.specs.Turns.{Effect, AsksHost, Answers, Sets, effect_turn, consumed, drained, slot, to}
use Rattle.pp_event.proofs.JoinLaws.{slot-same, slot-other}
use Rattle.pp_program.specs.declared.fault.VerifyRule.TheVariants.{Spans}
use Rattle.pp_program.specs.declared.program.Edge.{Edge}
use Rattle.pp_program.specs.declared.program.Rest.{Rest}
use Rattle.pp_program.specs.declared.program.Instr.{Instr}
use Rattle.pp_program.specs.declared.program.Instr.TheVariants.{Branch, Invoke, Consume, SpanOpen, SpanClose, Pause, Fail}
use Rattle.pp_program.specs.declared.program.State.{State}
use Rattle.pp_program.specs.declared.program.Program.{Program}
use Rattle.pp_program.specs.Edges.{HasEdge, EdgeFrom}
use Rattle.pp_program.specs.Runnable.{is_open, StandsRight, LeadsOnto}
use Rattle.pp_flow.specs.declared.moves.Act.TheVariants as act
use Rattle.pp_flow.specs.Standing.{at_entry, along}
use Rattle.pp_flow.specs.Standing as standing
use Rattle.pp_program.specs.Spans.{act_of, act_by, behind, MayStand, TellsOpen}
use Rattle.pp_program.specs.Spans as spans
use Rattle.pp_program.specs.States.{edge_on, edge_turn, branch_turn, is_empty_branch, rest_turn, instr_turn, state_turn, program_turn, program_entry}
use Rattle.pp_program.specs.Valid.{Holds, IsInstrAt}
use Rattle.pp_program.specs.steps.Rows.{SpanWithin, IsSound}
use Rattle.pp_program.proofs.FlowLemmas.{found-in}
use Rattle.pp_flow.proofs.ListLemmas.{any-at}
use Rattle.pp_program.proofs.MoveLemmas.{answer-told}

-- no span is open at the entry
shut-slot : (n span : ℕ) → is_open (slot (replicate n None) span) ≡ false
shut-slot zero span = refl
shut-slot (suc n) zero = refl
shut-slot (suc n) (suc span) = shut-slot n span

pub stands-entry : (p : Program) (values : List ℕ) → StandsRight p (program_entry p values)
stands-entry p values = record {
  slots = length-replicate (length p.spans) None;
  each = λ span. subst (λ (t : Bool). MayStand p span t p.entry) (sym (shut-slot (length p.spans) span)) at_entry;
}

-- a configuration behind an instruction: its spans are what the instruction makes of them, and an edge leads there, or
-- it is the same state, and no span has changed
abbrev Follows : Instr → Config → Config → Type 0
Follows i c d =
    (length d.spans ≡ length c.spans)
    × ((s : ℕ) → is_open (slot d.spans s) ≡ standing.behind (act_of i) s (is_open (slot c.spans s)))
    × (HasEdge c.node i d.node ⊎ ((d.node ≡ c.node) × ((s : ℕ) (t : Bool) → standing.behind (act_of i) s t ≡ t)))

-- what holds wherever a turn leads
abbrev Onto : Turn → (Config → Type 0) → Type 0
Onto t P = (d : Config) → LeadsOnto t d → P d

onto-goes : (e : Config) (k : ℕ) (P : Config → Type 0) → P e → Onto (Goes e k []) P
onto-goes e k P h d l = subst P l h

onto-rests : (e : Config) (P : Config → Type 0) → P e → Onto (Rests e) P
onto-rests e P h d l = subst P l h

onto-either : (b : Bool) (t u : Turn) (P : Config → Type 0) → Onto t P → Onto u P → Onto (cond b t u) P
onto-either true t u P f g = f
onto-either false t u P f g = g

-- a branch
module _ (fold : Fold) (stay : List (ℕ × ℕ)) (edges : List Edge) (rest : Rest) (c : Config) where
  abbrev Behind : Config → Type 0
  Behind = Follows (Branch fold stay edges rest) c

  rest-onto : Onto (rest_turn c rest) Behind
  rest-onto d l = subst Behind l (refl, (λ s. refl), inl (inr (inr refl)))

  edge-onto : (b : ℕ) (o : Option Edge) → edge_on b edges ≡ o → Onto (edge_turn c rest o) Behind
  edge-onto b None e d l = rest-onto d l
  edge-onto b (Some x) e d l =
      let found = found-in edges b x e in
      subst Behind l (refl, (λ s. refl), inl (inr (inl (any-at (λ (y : Edge). y.target ≡ x.target) edges found.0 x found.1 refl))))

  branch-onto : (bytes : List ℕ) → Onto (branch_turn c fold stay edges rest bytes) Behind
  branch-onto [] =
      onto-either (is_empty_branch stay edges rest) (rest_turn c rest) (Rests (record c { carried = 0 })) Behind rest-onto
      (onto-rests (record c { carried = 0 }) Behind (refl, (λ s. refl), inr (refl, (λ s t. refl))))
  branch-onto (b ∷ bytes) =
      onto-either (in_ranges stay b) (to c c.node 1 0) (edge_turn c rest (edge_on (folded fold b) edges)) Behind
      (λ d l. subst Behind l (refl, (λ s. refl), inr (refl, (λ s t. refl))))
      (edge-onto (folded fold b) (edge_on (folded fold b) edges) refl)

-- an invoke
effect-onto : (what : Code) (answers : List Answer) (other : ℕ) (c : Config) (e : Effect) → Onto (effect_turn c (answered answers other) e) (Follows (Invoke what answers other) c)
effect-onto what answers other c (AsksHost host) d l =
    subst (Follows (Invoke what answers other) c) l.1 (refl, (λ s. refl), inl (answer-told answers other l.0 (answered answers other l.0) refl))
effect-onto what answers other c (Answers answer) d l =
    subst (Follows (Invoke what answers other) c) l (refl, (λ s. refl), inl (answer-told answers other answer (answered answers other answer) refl))
effect-onto what answers other c (Sets prop value) d l =
    subst (Follows (Invoke what answers other) c) l (refl, (λ s. refl), inl (answer-told answers other 0 (answered answers other 0) refl))

-- slots that are written
written : (xs : List (Option ℕ)) (span : ℕ) (value : Option ℕ) (s : ℕ) → span < length xs → is_open (slot (set xs span value) s) ≡ cond (s == span) (is_open value) (is_open (slot xs s))
written xs span value s low = by (s == span) refl
  where
    by : (t : Bool) → (s == span) ≡ t → is_open (slot (set xs span value) s) ≡ cond t (is_open value) (is_open (slot xs s))
    by true e =
        let same : s ≡ span = eqb-true s span e in
        subst (λ (n : ℕ). is_open (slot (set xs span value) n) ≡ is_open value) (sym same) (ap is_open (slot-same xs span value low))
    by false e = ap is_open (slot-other xs span s value (λ same. eqb-false s span e (sym same)))

instr-onto : (i : Instr) (c : Config) (bytes : List ℕ) → SpanWithin (length c.spans) i → Onto (instr_turn i c bytes) (Follows i c)
instr-onto (Branch fold stay edges rest) c bytes low d l = branch-onto fold stay edges rest c bytes d l
instr-onto (Invoke what answers other) c bytes low d l = effect-onto what answers other c (effect_of c.values c.carried what) d l
instr-onto (Consume prop next) c bytes low d l =
    let v : ℕ = slice_index c.values prop in
    onto-either (nat_le v (length bytes)) (Goes (consumed c prop next v) v []) (Rests (drained c prop v (length bytes))) (Follows (Consume prop next) c)
    (λ e is. subst (Follows (Consume prop next) c) is (refl, (λ s. refl), inl refl))
    (λ e is. subst (Follows (Consume prop next) c) is (refl, (λ s. refl), inr (refl, (λ s t. refl)))) d l
instr-onto (SpanOpen span next) c bytes low d l =
    subst (Follows (SpanOpen span next) c) l (length-set c.spans span (Some c.at), (λ s. written c.spans span (Some c.at) s low), inl refl)
instr-onto (SpanClose span next) c bytes low d l =
    subst (Follows (SpanClose span next) c) l (length-set c.spans span None, (λ s. written c.spans span None s low), inl refl)
instr-onto (Pause code reason next) c bytes low d l = subst (Follows (Pause code reason next) c) l (refl, (λ s. refl), inl refl)
instr-onto (Fail code reason) c bytes low d l = absurd l

-- a program whose places are in range
module _ (p : Program) (sound : IsSound p) where
  stands-behind : (c d : Config) (s : State) → slice_get p.states c.node ≡ Some s → StandsRight p c → Follows s.instr c d → StandsRight p d
  stands-behind c d s at right follows = record {
    slots = follows.0 ∙ right.slots;
    each = λ span. elim follows.2 [
      | inl edge ↦
          let there : MayStand p span (behind (slice_get p.states c.node) span (is_open (slot c.spans span))) d.node =
          along (right.each span) (subst (λ (o : Option State). EdgeFrom c.node o d.node) (sym at) edge) in
          let now : is_open (slot d.spans span) ≡ behind (slice_get p.states c.node) span (is_open (slot c.spans span)) =
          follows.1 span ∙ ap (λ (o : Option State). behind o span (is_open (slot c.spans span))) (sym at) in
          subst (λ (t : Bool). MayStand p span t d.node) (sym now) there
      | inr stays ↦
          let now : is_open (slot d.spans span) ≡ is_open (slot c.spans span) = follows.1 span ∙ stays.1 span (is_open (slot c.spans span)) in
          subst (λ (t : Bool). MayStand p span t d.node) (sym now) (subst (λ (n : ℕ). MayStand p span (is_open (slot c.spans span)) n) (sym stays.0) (right.each span))
    ];
  }

  state-onto : (c d : Config) (bytes : List ℕ) (o : Option State) → slice_get p.states c.node ≡ o → StandsRight p c → LeadsOnto (state_turn o c bytes) d → StandsRight p d
  state-onto c d bytes None at right l = absurd l
  state-onto c d bytes (Some s) at right l =
      let within : SpanWithin (length c.spans) s.instr = subst (λ (n : ℕ). SpanWithin n s.instr) (sym right.slots) (sound.span c.node s at) in
      stands-behind c d s at right (instr-onto s.instr c bytes within d l)

  -- each turn keeps it
  pub stands-kept : (c d : Config) (rest : List ℕ) → StandsRight p c → LeadsOnto (program_turn p c rest) d → StandsRight p d
  stands-kept c d rest right l = state-onto c d rest (slice_get p.states c.node) refl right l

-- a program whose spans fit
module _ (p : Program) (fit : Holds p Spans) where
  as-open : (c : Config) (span from : ℕ) → StandsRight p c → slot c.spans span ≡ Some from → MayStand p span true c.node
  as-open c span from right e = subst (λ (o : Option ℕ). MayStand p span (is_open o) c.node) e (right.each span)

  as-shut : (c : Config) (span : ℕ) → StandsRight p c → slot c.spans span ≡ None → MayStand p span false c.node
  as-shut c span right e = subst (λ (o : Option ℕ). MayStand p span (is_open o) c.node) e (right.each span)

  pub opened-shut : (c : Config) (span next : ℕ) → StandsRight p c → IsInstrAt p.states c.node (SpanOpen span next) → slot c.spans span ≡ None
  opened-shut c span next right (s, at, is) = by (slot c.spans span) refl
    where
      opens : act_by (slice_get p.states c.node) ≡ act.Opens span
      opens = ap act_by at ∙ ap act_of is

      by : (o : Option ℕ) → slot c.spans span ≡ o → o ≡ None
      by None e = refl
      by (Some from) e = absurd (fit c.node (inl (span, (opens, as-open c span from right e))))

  pub closed-open : (c : Config) (span next : ℕ) → StandsRight p c → IsInstrAt p.states c.node (SpanClose span next) → (from : ℕ) × (slot c.spans span ≡ Some from)
  closed-open c span next right (s, at, is) = by (slot c.spans span) refl
    where
      closes : act_by (slice_get p.states c.node) ≡ act.Closes span
      closes = ap act_by at ∙ ap act_of is

      by : (o : Option ℕ) → slot c.spans span ≡ o → (from : ℕ) × (o ≡ Some from)
      by None e = absurd (fit c.node (inr (inl (span, (closes, as-shut c span right e)))))
      by (Some from) e = (from, refl)

  pub mask-open : (opened : List ℕ) → TellsOpen p opened → (c : Config) (span : ℕ) → StandsRight p c → (spans.Fails (slice_get p.states c.node) → ⊥) →
      c.node < length p.states → span < 32 → (bit_at (slice_index opened c.node) span ≡ 1) ↔ (is_open (slot c.spans span) ≡ true)
  mask-open opened exact c span right no_error low few = (
    (λ bit. (let may : MayStand p span true c.node = (exact.exact c.node span low few).0 bit in by may (slot c.spans span) refl)),
    (λ is. (exact.exact c.node span low few).1 (subst (λ (t : Bool). MayStand p span t c.node) is (right.each span))),
  )
    where
      by : MayStand p span true c.node → (o : Option ℕ) → slot c.spans span ≡ o → is_open o ≡ true
      by may None e = absurd (fit c.node (inr (inr (span, (no_error, may, as-shut c span right e)))))
      by may (Some from) e = refl
