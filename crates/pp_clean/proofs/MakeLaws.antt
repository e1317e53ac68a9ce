-- What is made of a program is its final form.
use Rattle.std.proofs.Common.{subst, ◌≡◌, ℕ, suc, ◌+◌, ◌<◌, List, [], ◌∷◌, Some, Bool, true, false, refl, sym, ◌∙◌, ap, arith, map, get_or, length, All}
use Rattle.std.specs.Prelude.{slice_get, ◌==◌, ◌||◌}
use Rattle.std.specs.List.{list_any, AllByRecursion}
use Rattle.std.proofs.lemmas.List.{length-map, ext_get_or}
use Rattle.std.proofs.lemmas.List.Elements.{recursion_from_All}
use Rattle.std.proofs.lemmas.Option.{slice_get-get_or, slice_get_within, get_or_from_slice_get}
use Rattle.pp_graph.specs.declared.node.Answer.{Answer}
use Rattle.pp_program.specs.declared.program.Edge.{Edge}
use Rattle.pp_program.specs.declared.program.Instr.{Instr}
use Rattle.pp_program.specs.declared.program.Instr.TheVariants.{Branch, Invoke, Consume, SpanOpen, SpanClose, Pause, Fail}
use Rattle.pp_program.specs.declared.program.State.{State}
use Rattle.pp_program.specs.declared.program.Program.{Program}
use Rattle.pp_clean.specs.Map.{mapped_edge, mapped_answer, mapped, mapped_state}
use Rattle.pp_clean.specs.Skip.{landing, skipped}
use Rattle.pp_clean.specs.Reach.{picked, rank, reached, trimmed, IsInRange}
use Rattle.pp_clean.specs.Merge.{merged_instr, merged_state, merged_program}
use Rattle.pp_clean.specs.Names.{used_from, used, moved_origin}
use Rattle.pp_clean.specs.Finished.{AllStates, IsFinishable, finished}
use Rattle.pp_clean.specs.Search.{TargetsBelow}
use Rattle.pp_clean.specs.Tables.{Tells}
use Rattle.pp_clean.specs.Layout.{IsLayout, made_state, IsUsed}
use Rattle.pp_clean.proofs.ReachLaws.{reached_right}
use Rattle.pp_clean.proofs.NamesLaws.{used_at}
use Rattle.pp_clean.proofs.MappedLaws.{skipped_range, states_picked}
use Rattle.pp_clean.proofs.LayoutLaws.{all_below}

edges_same : (m : ℕ) (g f h : ℕ → ℕ) → ((t : ℕ) → t < m → g t ≡ h (f t)) → (edges : List Edge) → AllByRecursion (λ (e : Edge). e.target < m) edges →
    map (mapped_edge g) edges ≡ map (mapped_edge h) (map (mapped_edge f) edges)
edges_same m g f h same [] all = refl
edges_same m g f h same (e ∷ edges) all =
    ap (λ (t : ℕ). record e { target = t } ∷ map (mapped_edge g) edges) (same e.target all.0)
    ∙ ap (λ (l : List Edge). record e { target = h (f e.target) } ∷ l) (edges_same m g f h same edges all.1)

answers_same : (m : ℕ) (g f h : ℕ → ℕ) → ((t : ℕ) → t < m → g t ≡ h (f t)) → (answers : List Answer) → AllByRecursion (λ (a : Answer). a.target < m) answers →
    map (mapped_answer g) answers ≡ map (mapped_answer h) (map (mapped_answer f) answers)
answers_same m g f h same [] all = refl
answers_same m g f h same (a ∷ answers) all =
    ap (λ (t : ℕ). record a { target = t } ∷ map (mapped_answer g) answers) (same a.target all.0)
    ∙ ap (λ (l : List Answer). record a { target = h (f a.target) } ∷ l) (answers_same m g f h same answers all.1)

-- two maps in one
mapped_same : (m : ℕ) (g f h : ℕ → ℕ) → ((t : ℕ) → t < m → g t ≡ h (f t)) → (i : Instr) → TargetsBelow m i → mapped g i ≡ mapped h (mapped f i)
mapped_same m g f h same (Branch fold stay edges rest) b =
    ap (λ (l : List Edge). Branch fold stay l (record rest { target = g rest.target })) (edges_same m g f h same edges (recursion_from_All (λ (e : Edge). e.target < m) edges b.1))
    ∙ ap (λ (t : ℕ). Branch fold stay (map (mapped_edge h) (map (mapped_edge f) edges)) (record rest { target = t })) (same rest.target b.0)
mapped_same m g f h same (Invoke code answers other) b =
    ap (λ (l : List Answer). Invoke code l (g other)) (answers_same m g f h same answers (recursion_from_All (λ (a : Answer). a.target < m) answers b.1))
    ∙ ap (Invoke code (map (mapped_answer h) (map (mapped_answer f) answers))) (same other b.0)
mapped_same m g f h same (Consume prop next) b = ap (Consume prop) (same next b)
mapped_same m g f h same (SpanOpen span next) b = ap (SpanOpen span) (same next b)
mapped_same m g f h same (SpanClose span next) b = ap (SpanClose span) (same next b)
mapped_same m g f h same (Pause code reason next) b = ap (Pause code reason) (same next b)
mapped_same m g f h same (Fail code reason) b = refl

picked-map : {X Y : Type 0} (g : X → Y) (marks : List Bool) (xs : List X) → picked marks (map g xs) ≡ map g (picked marks xs)
picked-map g [] xs = refl
picked-map g (m ∷ marks) [] = refl
picked-map g (true ∷ marks) (x ∷ xs) = ap (λ (l : List _). g x ∷ l) (picked-map g marks xs)
picked-map g (false ∷ marks) (x ∷ xs) = picked-map g marks xs

map_same : (g h : State → State) (states : List State) → ((n : ℕ) (s : State) → slice_get states n ≡ Some s → g s ≡ h s) → map g states ≡ map h states
map_same g h [] same = refl
map_same g h (s ∷ states) same =
    ap (λ (x : State). x ∷ map g states) (same 0 s refl) ∙ ap (λ (l : List State). h s ∷ l) (map_same g h states (λ n. same (suc n)))

map_twice : (g h : State → State) (states : List State) → map g (map h states) ≡ map (λ s. g (h s)) states
map_twice g h [] = refl
map_twice g h (s ∷ states) = ap (λ (l : List State). g (h s) ∷ l) (map_twice g h states)

any_mapped : (g : State → State) → ((s : State) → (g s).origin ≡ s.origin) → (n : ℕ) (states : List State) → list_any (λ (s : State). s.origin == n) (map g states) ≡ list_any (λ (s : State). s.origin == n) states
any_mapped g same n [] = refl
any_mapped g same n (s ∷ states) =
    ap (λ (x : ℕ). (x == n) || list_any (λ (y : State). y.origin == n) (map g states)) (same s) ∙ ap (λ (v : Bool). (s.origin == n) || v) (any_mapped g same n states)

length-used : (states : List State) (k : ℕ) (names : List (List ℕ)) → length (used_from states k names) ≡ length names
length-used states k [] = refl
length-used states k (name ∷ names) = ap suc (length-used states (suc k) names)

-- the flags are those of the spec
flags_same : (old states : List State) (names : List (List ℕ)) (flags : List Bool) → ((n : ℕ) → list_any (λ (s : State). s.origin == n) states ≡ list_any (λ (s : State). s.origin == n) old) →
    IsUsed old (length names) flags → flags ≡ used_from states 0 names
flags_same old states names flags same u =
    ext_get_or false flags (used_from states 0 names) (u.long ∙ sym (length-used states 0 names)) (λ i b.
    let below : i < length names = rw (← u.long) b in
    let place : 0 + i ≡ i = omega arith in
    u.at i below ∙ sym (same i) ∙ sym (get_or_from_slice_get (used_from states 0 names) i (list_any (λ (s : State). s.origin == i) states) false
    (used_at states 0 names i below ∙ ap (λ (n : ℕ). Some (list_any (λ (s : State). s.origin == n) states)) place)))

module _ (p : Program) (h : IsFinishable p) (marks : List Bool) (places : List ℕ) (entry : ℕ) (layout : IsLayout p marks places entry)
    (flags : List Bool) (flagged : IsUsed (picked marks p.states) (length p.names) flags) (origins : List ℕ) (origins_told : Tells (rank flags) (length flags) origins) where
  abbrev q : Program
  q = skipped p

  abbrev kept : List State
  kept = picked marks p.states

  abbrev g : State → State
  g s = merged_state (mapped_state (rank (reached q)) (mapped_state (landing p.states) s))

  -- the states before they have their origins
  states_are : (merged_program (trimmed q)).states ≡ map g kept
  states_are =
      let a : List State → List State = λ l. map merged_state (map (mapped_state (rank (reached q))) l) in
      ap a (picked-map (mapped_state (landing p.states)) (reached q) p.states)
      ∙ ap (map merged_state) (map_twice (mapped_state (rank (reached q))) (mapped_state (landing p.states)) (picked (reached q) p.states))
      ∙ map_twice merged_state (λ s. mapped_state (rank (reached q)) (mapped_state (landing p.states) s)) (picked (reached q) p.states)
      ∙ ap (λ (l : List Bool). map g (picked l p.states)) (sym layout.marks_are)

  flags_are : flags ≡ used (merged_program (trimmed q))
  flags_are =
      flags_same kept (merged_program (trimmed q)).states p.names flags
      (λ n. ap (list_any (λ (s : State). s.origin == n)) states_are ∙ any_mapped g (λ s. refl) n kept) flagged

  kept_all : (P : State → Type 0) → AllStates P p.states → AllStates P kept
  kept_all P all = states_picked P marks p.states all

  below_states : AllStates (λ s. TargetsBelow (length p.states) s.instr) p.states
  below_states n s e =
      let at : get_or p.states n s ≡ s = get_or_from_slice_get p.states n s s e in
      subst (λ (x : State). TargetsBelow (length p.states) x.instr) at (all_below p h.range n s (slice_get_within p.states n s e))

  state_same : (n : ℕ) (s : State) → slice_get kept n ≡ Some s → made_state places origins s ≡ moved_origin (rank (used (merged_program (trimmed q)))) (g s)
  state_same n s e =
      let below : TargetsBelow (length p.states) s.instr = kept_all (λ x. TargetsBelow (length p.states) x.instr) below_states n s e in
      let named : s.origin < length p.names = kept_all (λ x. x.origin < length p.names) h.origins n s e in
      let origin : get_or origins s.origin 0 ≡ rank (used (merged_program (trimmed q))) s.origin =
      origins_told.at s.origin (rw flagged.long named) ∙ ap (λ (l : List Bool). rank l s.origin) flags_are in
      let instr : mapped (λ t. get_or places t 0) s.instr ≡ mapped (rank (reached q)) (mapped (landing p.states) s.instr) =
      mapped_same (length p.states) (λ t. get_or places t 0) (landing p.states) (rank (reached q)) layout.placed.at s.instr below in
      ap (λ (o : ℕ). record { origin = o; instr = merged_instr (mapped (λ t. get_or places t 0) s.instr) }) origin
      ∙ ap (λ (i : Instr). record { origin = rank (used (merged_program (trimmed q))) s.origin; instr = merged_instr i }) instr

  -- the states that were made are those of the final form
  pub states_same : map (made_state places origins) (picked marks p.states) ≡ (finished p).states
  states_same =
      let o : State → State = moved_origin (rank (used (merged_program (trimmed q)))) in
      map_same (made_state places origins) (λ s. o (g s)) kept state_same ∙ sym (map_twice o g kept) ∙ ap (map o) (sym states_are)

  -- and so are the names
  pub names_same : picked flags p.names ≡ (finished p).names
  names_same = ap (λ (l : List Bool). picked l p.names) flags_are

-- what is asked of the parts, where the slices that are lent stand for the states, the names and the tables
pub layout_long : (p : Program) → IsInRange p → (marks : List Bool) (places : List ℕ) (entry : ℕ) → IsLayout p marks places entry → length p.states ≡ length marks
layout_long p range marks places entry layout =
    sym (ap length layout.marks_are ∙ (reached_right (skipped p) (skipped_range p range)).long ∙ length-map p.states (mapped_state (landing p.states)))

all_of : (P : State → Type 0) (states : List State) → AllStates P states → All P states
all_of P states all k d b = all k (get_or states k d) (slice_get-get_or states k d b)

pub lent_named : (p : Program) → IsFinishable p → (lent : List State) → lent ≡ p.states → (n : ℕ) → n ≡ length p.names → All (λ (s : State). s.origin < n) lent
lent_named p h lent same n long =
    subst (λ (l : List State). All (λ (s : State). s.origin < n) l) (sym same)
    (subst (λ (m : ℕ). All (λ (s : State). s.origin < m) p.states) (sym long) (all_of (λ s. s.origin < length p.names) p.states h.origins))

pub lent_targets : (p : Program) → IsInRange p → (lent : List State) → lent ≡ p.states → (n : ℕ) → n ≡ length p.states → All (λ (s : State). TargetsBelow n s.instr) lent
lent_targets p range lent same n long =
    subst (λ (l : List State). All (λ (s : State). TargetsBelow n s.instr) l) (sym same)
    (subst (λ (m : ℕ). All (λ (s : State). TargetsBelow m s.instr) p.states) (sym long) (all_below p range))
