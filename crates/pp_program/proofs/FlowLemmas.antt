-- The rows of a program, state by state.
use Rattle.std.proofs.Common.{subst, ◌≡◌, ◌↔◌, ℕ, zero, suc, ◌+◌, ◌<◌, ◌⊎◌, List, [], ◌∷◌, Option, Some, None, Bool, true, false, cond, refl, sym, ◌∙◌, ap, arith, length, map, take, get_or, inl, inr}
use Rattle.std.specs.Prelude.{slice_get, slice_index_or}
use Rattle.std.proofs.lemmas.List.{get_or_default}
use Rattle.std.proofs.lemmas.Option.{slice_get-get_or}
use Rattle.pp_bytes.specs.declared.fold.Fold.{Fold}
use Rattle.pp_bytes.specs.Fold.{folded}
use Rattle.pp_bytes.specs.Ranges.{in_ranges, in_pair}
use Rattle.pp_flow.specs.Rows.{Way, free, onward, edge, OrEnds, DeadEnds, FreeEnds, Adds, Rowed}
use Rattle.pp_flow.specs.Chart.{Chart, with_point}
use Rattle.pp_flow.specs.Spans.{HaveSpans, act_at}
use Rattle.pp_flow.specs.declared.moves.Act.{Act}
use Rattle.pp_flow.specs.declared.moves.Act.TheVariants as act
use Rattle.pp_graph.specs.declared.node.Answer.{Answer}
use Rattle.pp_program.specs.Spans.{act_of, act_by}
use Rattle.pp_program.specs.declared.program.Edge.{Edge}
use Rattle.pp_program.specs.declared.program.Rest.{Rest}
use Rattle.pp_program.specs.declared.program.Instr.{Instr}
use Rattle.pp_program.specs.declared.program.Instr.TheVariants.{Branch, Invoke, Consume, SpanOpen, SpanClose, Pause, Fail}
use Rattle.pp_program.specs.declared.program.State.{State}
use Rattle.pp_program.specs.declared.program.Program.{Program}
use Rattle.pp_program.specs.States.{edge_on}
use Rattle.pp_program.specs.steps.Ends.{EdgeEnds, AnswerEnds, EndsAt, EndsOf, ends_of, edge_step, step_on}
use Rattle.pp_program.specs.steps.Rows.{TellsBelow, IsFlowOf, IsSound, LeadsWithin, SpanWithin}
use Rattle.pp_flow.proofs.ListLemmas.{any-more}
use Rattle.pp_flow.proofs.RowLemmas.{rowed-then, rowed-same}
use Rattle.pp_flow.proofs.RowLemmas as rows

-- one edge more
pub edges-more : (a b c : Chart) (edges : List Edge) (i : ℕ) (d : Edge) → i < length edges → Rowed a b (EdgeEnds (take i edges)) → Rowed b c (DeadEnds (slice_index_or edges i d).target) →
    Rowed a c (EdgeEnds (take (i + 1) edges))
edges-more a b c edges i d low f g = rowed-same a c (OrEnds (EdgeEnds (take i edges)) (DeadEnds e.target)) (EdgeEnds (take (i + 1) edges)) same (rowed-then a b c _ _ f g)
  where
    e : Edge
    e = slice_index_or edges i d

    at : e ≡ get_or edges i e
    at = get_or_default edges i d e low

    same : (way : Way) (x next : ℕ) → x < 256 → OrEnds (EdgeEnds (take i edges)) (DeadEnds e.target) way x next ↔ EdgeEnds (take (i + 1) edges) way x next
    same free x next h = ((λ q. elim q [ inl p ↦ p | inr p ↦ p ]), (λ q. absurd q))
    same onward x next h = ((λ q. elim q [ inl p ↦ p | inr p ↦ p ]), (λ q. absurd q))
    same edge x next h =
        let more = any-more (λ (y : Edge). y.target ≡ next) edges i e low at in
        (more.1, more.0)

-- one answer more
pub answers-more : (a b c : Chart) (answers : List Answer) (i : ℕ) (d : Answer) → i < length answers → Rowed a b (AnswerEnds (take i answers)) → Rowed b c (FreeEnds (slice_index_or answers i d).target) →
    Rowed a c (AnswerEnds (take (i + 1) answers))
answers-more a b c answers i d low f g = rowed-same a c (OrEnds (AnswerEnds (take i answers)) (FreeEnds e.target)) (AnswerEnds (take (i + 1) answers)) same (rowed-then a b c _ _ f g)
  where
    e : Answer
    e = slice_index_or answers i d

    at : e ≡ get_or answers i e
    at = get_or_default answers i d e low

    same : (way : Way) (x next : ℕ) → x < 256 → OrEnds (AnswerEnds (take i answers)) (FreeEnds e.target) way x next ↔ AnswerEnds (take (i + 1) answers) way x next
    same free x next h = (let more = any-more (λ (y : Answer). y.target ≡ next) answers i e low at in (more.1, more.0))
    same onward x next h = ((λ q. elim q [ inl p ↦ p | inr p ↦ p ]), (λ q. absurd q))
    same edge x next h = (let more = any-more (λ (y : Answer). y.target ≡ next) answers i e low at in (more.1, more.0))

-- the edge of a byte is one of the edges
pub found-in : (edges : List Edge) (b : ℕ) (e : Edge) → edge_on b edges ≡ Some e → (i : ℕ) × (slice_get edges i ≡ Some e)
found-in [] b e h = absurd cc
found-in (x ∷ edges) b e h = by (λ f. found-in edges b e f) (in_pair b (x.lo, x.hi)) h
  where
    by : (edge_on b edges ≡ Some e → (i : ℕ) × (slice_get edges i ≡ Some e)) → (t : Bool) → cond t (Some x) (edge_on b edges) ≡ Some e → (i : ℕ) × (slice_get (x ∷ edges) i ≡ Some e)
    by go true h = (0, h)
    by go false h = (let q = go h in (suc q.0, q.1))

-- a branch leads to places below a number, where its edges do
pub step-within : (state : ℕ) (fold : Fold) (stay : List (ℕ × ℕ)) (edges : List Edge) (rest : Rest) (count : ℕ) → state < count →
    ((i : ℕ) (e : Edge) → slice_get edges i ≡ Some e → e.target < count) → rest.target < count → (b : ℕ) → (step_on state fold stay edges rest b).target < count
step-within state fold stay edges rest count here lead last b = by (in_ranges stay b) (edge_on (folded fold b) edges) refl
  where
    by : (t : Bool) (o : Option Edge) → edge_on (folded fold b) edges ≡ o → (cond t (record { target = state; takes = true }) (edge_step rest o)).target < count
    by true o e = here
    by false None e = last
    by false (Some x) e = (let q = found-in edges (folded fold b) x e in lead q.0 x q.1)

-- the acts of a program name spans below 32
pub acts-at : (states : List State) (x : ℕ) → slice_index_or (map (λ (s : State). act_of s.instr) states) x act.Goes ≡ act_by (slice_get states x)
acts-at [] x = refl
acts-at (s ∷ states) zero = refl
acts-at (s ∷ states) (suc x) = acts-at states x

opens-within : (i : Instr) (count s : ℕ) → SpanWithin count i → (act_of i ≡ act.Opens s) ⊎ (act_of i ≡ act.Closes s) → s < count
opens-within (Branch fold stay edges rest) count s h (inl e) = absurd cc
opens-within (Branch fold stay edges rest) count s h (inr e) = absurd cc
opens-within (Invoke what answers other) count s h (inl e) = absurd cc
opens-within (Invoke what answers other) count s h (inr e) = absurd cc
opens-within (Consume prop n) count s h (inl e) = absurd cc
opens-within (Consume prop n) count s h (inr e) = absurd cc
opens-within (SpanOpen span n) count s h (inl e) = (let same : span ≡ s = cc in subst (λ x. x < count) same h)
opens-within (SpanOpen span n) count s h (inr e) = absurd cc
opens-within (SpanClose span n) count s h (inl e) = absurd cc
opens-within (SpanClose span n) count s h (inr e) = (let same : span ≡ s = cc in subst (λ x. x < count) same h)
opens-within (Pause code reason n) count s h (inl e) = absurd cc
opens-within (Pause code reason n) count s h (inr e) = absurd cc
opens-within (Fail code reason) count s h (inl e) = absurd cc
opens-within (Fail code reason) count s h (inr e) = absurd cc

by-within : (o : Option State) (count s : ℕ) → ((x : State) → o ≡ Some x → SpanWithin count x.instr) → (act_by o ≡ act.Opens s) ⊎ (act_by o ≡ act.Closes s) → s < count
by-within None count s h (inl e) = absurd cc
by-within None count s h (inr e) = absurd cc
by-within (Some x) count s h e = opens-within x.instr count s (h x refl) e

pub have-spans : (p : Program) (acts : List Act) → acts ≡ map (λ (s : State). act_of s.instr) p.states → IsSound p → HaveSpans acts
have-spans p acts are sound x s e =
    let at : act_at acts x ≡ act_by (slice_get p.states x) = ap (λ xs. slice_index_or xs x act.Goes) are ∙ acts-at p.states x in
    let low : s < length p.spans = by-within (slice_get p.states x) (length p.spans) s (λ y f. sound.span x y f) (elim e [ inl o ↦ inl (sym at ∙ o) | inr o ↦ inr (sym at ∙ o) ]) in
    omega (arith, low, sound.few_spans)

-- one state more
pub tells-more : (states : List State) (s : State) (a b : Chart) → slice_get states a.told ≡ Some s → TellsBelow states a.told a.moves → Rowed a b (EndsOf a.told s.instr) →
    TellsBelow states (suc a.told) b.moves
tells-more states s a b at tells f =
    rows.tells-more (ends_of states) a.told a.moves b.moves tells (subst (λ (o : Option State). Adds a.told a.moves b.moves (EndsAt a.told o)) (sym at) f.adds)

listed-at : (items states : List State) (i : ℕ) (d : State) → items ≡ states → i < length items → slice_get states i ≡ Some (get_or items i d)
listed-at items states i d is low = subst (λ (xs : List State). slice_get xs i ≡ Some (get_or items i d)) is (slice_get-get_or items i d low)

pub lead-at : (p : Program) (items : List State) (i count : ℕ) (d : State) → IsSound p → items ≡ p.states → i < length items → count ≡ length p.states → LeadsWithin count (get_or items i d).instr
lead-at p items i count d sound is low e = subst (λ n. LeadsWithin n (get_or items i d).instr) (sym e) (sound.lead i (get_or items i d) (listed-at items p.states i d is low))

-- the flow with one state more
pub flow-more : (p : Program) (items : List State) (i : ℕ) (d : State) (a b c : Chart) → items ≡ p.states → i < length items → IsFlowOf p a → a.told ≡ i → length a.acts ≡ length p.states →
    Rowed a b (EndsOf i (get_or items i d).instr) → c ≡ with_point b → IsFlowOf p c × (c.told ≡ i + 1) × (length c.acts ≡ length p.states)
flow-more p items i d a b c is low f told long rowed e =
    let at : slice_get p.states i ≡ Some (get_or items i d) = listed-at items p.states i d is low in
    let here : Rowed a b (EndsOf a.told (get_or items i d).instr) = subst (λ n. Rowed a b (EndsOf n (get_or items i d).instr)) (sym told) rowed in
    let there : slice_get p.states a.told ≡ Some (get_or items i d) = subst (λ n. slice_get p.states n ≡ Some (get_or items i d)) (sym told) at in
    let more : TellsBelow p.states (suc a.told) b.moves = tells-more p.states (get_or items i d) a b there f.tells here in
    let acts : c.acts ≡ a.acts = ap (λ (x : Chart). x.acts) e ∙ rowed.acts in
    let moves : c.moves ≡ b.moves = ap (λ (x : Chart). x.moves) e in
    let count : c.told ≡ suc a.told = ap (λ (x : Chart). x.told) e ∙ ap suc rowed.told in (
      record {
        acts = acts ∙ f.acts;
        entry = ap (λ (x : Chart). x.entry) e ∙ (rowed.entry ∙ f.entry);
        tells = subst (λ n. TellsBelow p.states n c.moves) (sym count) (subst (λ rows. TellsBelow p.states (suc a.told) rows) (sym moves) more);
      },
      omega (arith, count, told),
      ap length acts ∙ long,
    )
