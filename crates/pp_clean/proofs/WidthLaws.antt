-- A finished program keeps the rule on widths.
use Rattle.std.proofs.Common.{subst, ◌≡◌, ℕ, List, Option, Some, None, Bool, true, false, refl, sym, ◌∙◌, ap, arith, map, option_map}
use Rattle.std.specs.Prelude.{slice_get, unwrap_or}
use Rattle.std.specs.List.{list_any}
use Rattle.std.proofs.lemmas.Bool.{false≢true, or_parts, or_from, le-ltb, false_from_ne_true}
use Rattle.std.proofs.lemmas.Option.{slice_get-map}
use Rattle.pp_rules.specs.Widths.{greatest}
use Rattle.pp_rules.specs.declared.declaration.PropDecl.{PropDecl}
use Rattle.pp_graph.specs.declared.node.Code.{Code}
use Rattle.pp_graph.specs.declared.node.Code.TheVariants as code
use Rattle.pp_program.specs.declared.program.Edge.{Edge}
use Rattle.pp_program.specs.declared.program.Instr.{Instr}
use Rattle.pp_program.specs.declared.program.Instr.TheVariants.{Branch, Invoke, Consume, SpanOpen, SpanClose, Pause, Fail}
use Rattle.pp_program.specs.declared.program.State.{State}
use Rattle.pp_program.specs.declared.program.Program.{Program}
use Rattle.pp_program.specs.declared.fault.VerifyRule.TheVariants.{Width}
use Rattle.pp_program.specs.Merge.{merged}
use Rattle.pp_program.specs.Widths.{is_narrow, is_wide_code, is_narrow_code, is_narrow_instr, is_narrow_state, is_wide_number, is_wide_edge, is_wide_instr}
use Rattle.pp_program.specs.Valid.{Holds}
use Rattle.pp_clean.specs.Map.{mapped_edge, mapped, mapped_state, EachMove}
use Rattle.pp_clean.specs.Skip.{past, landing, skipped, NoNumber, IsNumberless}
use Rattle.pp_clean.specs.Reach.{picked, rank, reached, trimmed_by, trimmed, IsReach}
use Rattle.pp_clean.specs.Merge.{merged_instr, merged_state, merged_program}
use Rattle.pp_clean.specs.Names.{used, moved_origin}
use Rattle.pp_clean.specs.Finished.{AllStates, IsFinishable, finished}
use Rattle.pp_clean.proofs.SkipLaws.{landing_full}
use Rattle.pp_clean.proofs.ReachLaws.{unpicked, reached_right, IsMarked, moves_marked, trimmed_state}
use Rattle.pp_clean.proofs.MappedLaws.{states_map, map_inverse, skipped_range}
use Rattle.pp_clean.proofs.AcrossLaws.{SameDeclared, all_mapped, none_true, true_none, merged_all, mapped_self, Anywhere, moves_anywhere}

-- ---- the same declarations

module _ (p q : Program) (same : SameDeclared p q) where
  narrow_same : (prop value : ℕ) → is_narrow (slice_get q.props prop) value ≡ is_narrow (slice_get p.props prop) value
  narrow_same prop value = ap (λ (l : List PropDecl). is_narrow (slice_get l prop) value) same.props

  wide_code : (c : Code) → is_wide_code q c ≡ is_wide_code p c
  wide_code (code.Call host) = refl
  wide_code (code.Store prop) = refl
  wide_code (code.Load prop) = refl
  wide_code (code.Update prop value) = narrow_same prop value
  wide_code (code.Equal prop value) = narrow_same prop value
  wide_code (code.And prop value) = narrow_same prop value
  wide_code (code.Or prop value) = narrow_same prop value
  wide_code (code.Test prop value) = narrow_same prop value
  wide_code (code.MulAdd prop base most) = narrow_same prop most

  narrow_code : (k : ℕ) (c : Code) → is_narrow_code q k c ≡ is_narrow_code p k c
  narrow_code k (code.Call host) = refl
  narrow_code k (code.Store prop) = narrow_same prop k
  narrow_code k (code.Load prop) = refl
  narrow_code k (code.Update prop value) = refl
  narrow_code k (code.Equal prop value) = refl
  narrow_code k (code.And prop value) = refl
  narrow_code k (code.Or prop value) = refl
  narrow_code k (code.Test prop value) = refl
  narrow_code k (code.MulAdd prop base most) = refl

  narrow_mapped : (f : ℕ → ℕ) (k : ℕ) (i : Instr) → is_narrow_instr q k (mapped f i) ≡ is_narrow_instr p k i
  narrow_mapped f k (Branch fold stay edges rest) = refl
  narrow_mapped f k (Invoke what answers other) = narrow_code k what
  narrow_mapped f k (Consume prop next) = refl
  narrow_mapped f k (SpanOpen span next) = refl
  narrow_mapped f k (SpanClose span next) = refl
  narrow_mapped f k (Pause code reason next) = refl
  narrow_mapped f k (Fail code reason) = refl

  narrow_merged : (k : ℕ) (i : Instr) → is_narrow_instr q k (merged_instr i) ≡ is_narrow_instr p k i
  narrow_merged k (Branch fold stay edges rest) = refl
  narrow_merged k (Invoke what answers other) = narrow_code k what
  narrow_merged k (Consume prop next) = refl
  narrow_merged k (SpanOpen span next) = refl
  narrow_merged k (SpanClose span next) = refl
  narrow_merged k (Pause code reason next) = refl
  narrow_merged k (Fail code reason) = refl

  module _ (g : State → State) (narrow : (k : ℕ) (s : State) → is_narrow_instr q k (g s).instr ≡ is_narrow_instr p k s.instr) where
    narrow_there : (k : ℕ) (o : Option State) → is_narrow_state q k (option_map g o) ≡ is_narrow_state p k o
    narrow_there k None = refl
    narrow_there k (Some s) = narrow k s

    -- a number is too wide for a place where it was for the place of its state
    pub number_same : (number : Option ℕ) (t u : ℕ) → slice_get q.states u ≡ option_map g (slice_get p.states t) → is_wide_number q number u ≡ is_wide_number p number t
    number_same None t u at = refl
    number_same (Some k) t u at = ap (is_narrow_state q k) at ∙ narrow_there k (slice_get p.states t)

  module _ (f : ℕ → ℕ) (P : ℕ → ℕ → Type 0) (on : (number : Option ℕ) (t : ℕ) → P t (unwrap_or number 0) → is_wide_number p number t ≡ false → is_wide_number q number (f t) ≡ false) where
    -- a state without a value that is too wide has none where it is led on
    pub fits_mapped : (i : Instr) → EachMove P i → is_wide_instr p i ≡ false → is_wide_instr q (mapped f i) ≡ false
    fits_mapped (Branch fold stay edges rest) m h =
        let both = or_parts (list_any (is_wide_edge p) edges) (is_wide_number p rest.number rest.target) h in
        let moved : List Edge = map (mapped_edge f) edges in
        or_from (list_any (is_wide_edge q) moved) (is_wide_number q rest.number (f rest.target))
        (true_none (is_wide_edge q) moved (all_mapped (λ (e : Edge). P e.target (unwrap_or e.number 0)) (λ (e : Edge). is_wide_edge p e ≡ false) (λ (e : Edge). is_wide_edge q e ≡ false) (mapped_edge f) (λ e k l. on e.number e.target k l) edges m.0
        (none_true (is_wide_edge p) edges both.0)))
        (on rest.number rest.target m.1 both.1)
    fits_mapped (Invoke what answers other) m h = wide_code what ∙ h
    fits_mapped (Consume prop next) m h = refl
    fits_mapped (SpanOpen span next) m h = refl
    fits_mapped (SpanClose span next) m h = refl
    fits_mapped (Pause code reason next) m h = refl
    fits_mapped (Fail code reason) m h = refl

-- ---- without moves to empty states

narrow_zero : (o : Option PropDecl) → is_narrow o 0 ≡ false
narrow_zero None = refl
narrow_zero (Some d) = le-ltb (greatest d.width) 0 (omega arith)

zero_code : (p : Program) (c : Code) → is_narrow_code p 0 c ≡ false
zero_code p (code.Call host) = refl
zero_code p (code.Store prop) = narrow_zero (slice_get p.props prop)
zero_code p (code.Load prop) = refl
zero_code p (code.Update prop value) = refl
zero_code p (code.Equal prop value) = refl
zero_code p (code.And prop value) = refl
zero_code p (code.Or prop value) = refl
zero_code p (code.Test prop value) = refl
zero_code p (code.MulAdd prop base most) = refl

zero_instr : (p : Program) (i : Instr) → is_narrow_instr p 0 i ≡ false
zero_instr p (Branch fold stay edges rest) = refl
zero_instr p (Invoke what answers other) = zero_code p what
zero_instr p (Consume prop next) = refl
zero_instr p (SpanOpen span next) = refl
zero_instr p (SpanClose span next) = refl
zero_instr p (Pause code reason next) = refl
zero_instr p (Fail code reason) = refl

-- 0 fits everywhere
zero_fits : (p : Program) (o : Option State) → is_narrow_state p 0 o ≡ false
zero_fits p None = refl
zero_fits p (Some s) = zero_instr p s.instr

abbrev pub FitsIn : Program → State → Type 0
FitsIn p s = is_wide_instr p s.instr ≡ false

module _ (p : Program) (numberless : IsNumberless p.states) where
  declared_skipped : SameDeclared p (skipped p)
  declared_skipped = record { props = refl; hosts = refl; spans = refl }

  skipped_number : (number : Option ℕ) (t : ℕ) → is_wide_number (skipped p) number t ≡ is_wide_number p number t
  skipped_number number t =
      number_same p (skipped p) declared_skipped (mapped_state (landing p.states)) (λ k s. narrow_mapped p (skipped p) declared_skipped (landing p.states) k s.instr) number t t
      (slice_get-map (mapped_state (landing p.states)) p.states t)

  number_on : (k t : ℕ) → NoNumber p.states t k → is_wide_number p (Some k) t ≡ false → (o : Option ℕ) → past p.states t ≡ o → is_wide_number (skipped p) (Some k) (landing p.states t) ≡ false
  number_on k t none h None e = ap (is_wide_number (skipped p) (Some k)) (landing_full p.states t e) ∙ skipped_number (Some k) t ∙ h
  number_on k t none h (Some u) e =
      let is : k ≡ 0 = none u e in
      subst (λ (x : ℕ). is_wide_number (skipped p) (Some x) (landing p.states t) ≡ false) (sym is) (zero_fits (skipped p) (slice_get (skipped p).states (landing p.states t)))

  skipped_fits_on : (number : Option ℕ) (t : ℕ) → NoNumber p.states t (unwrap_or number 0) → is_wide_number p number t ≡ false → is_wide_number (skipped p) number (landing p.states t) ≡ false
  skipped_fits_on None t none h = refl
  skipped_fits_on (Some k) t none h = number_on k t none h (past p.states t) refl

  skipped_fits : AllStates (FitsIn p) p.states → AllStates (FitsIn (skipped p)) (skipped p).states
  skipped_fits fits n s e =
      let x = map_inverse (mapped_state (landing p.states)) p.states n s e in
      subst (FitsIn (skipped p)) x.2
      (fits_mapped p (skipped p) declared_skipped (landing p.states) (NoNumber p.states) skipped_fits_on x.0.instr (numberless.onto n x.0 x.1) (fits n x.0 x.1))

-- ---- without states that nothing leads to

module _ (p : Program) (marks : List Bool) (reach : IsReach p marks) where
  declared_trimmed : SameDeclared p (trimmed_by p marks)
  declared_trimmed = record { props = refl; hosts = refl; spans = refl }

  trimmed_number : (number : Option ℕ) (t : ℕ) → slice_get marks t ≡ Some true → is_wide_number p number t ≡ false → is_wide_number (trimmed_by p marks) number (rank marks t) ≡ false
  trimmed_number number t m h =
      number_same p (trimmed_by p marks) declared_trimmed (mapped_state (rank marks)) (λ k s. narrow_mapped p (trimmed_by p marks) declared_trimmed (rank marks) k s.instr) number t (rank marks t)
      (trimmed_state p marks reach t (slice_get p.states t) m refl)
      ∙ h

  trimmed_fits : AllStates (FitsIn p) p.states → AllStates (FitsIn (trimmed_by p marks)) (trimmed_by p marks).states
  trimmed_fits fits n s e =
      let x = map_inverse (mapped_state (rank marks)) (picked marks p.states) n s e in
      let y = unpicked marks p.states n x.0 x.1 in
      subst (FitsIn (trimmed_by p marks)) x.2
      (fits_mapped p (trimmed_by p marks) declared_trimmed (rank marks) (IsMarked p marks reach) trimmed_number x.0.instr (moves_marked p marks reach y.0 x.0 y.3 y.1) (fits y.0 x.0 y.3))

-- ---- with merged edges, and the names of its states alone

fits_merged : (p : Program) (i : Instr) → is_wide_instr p i ≡ false → is_wide_instr p (merged_instr i) ≡ false
fits_merged p (Branch fold stay edges rest) h =
    let both = or_parts (list_any (is_wide_edge p) edges) (is_wide_number p rest.number rest.target) h in
    or_from (list_any (is_wide_edge p) (merged edges)) (is_wide_number p rest.number rest.target)
    (true_none (is_wide_edge p) (merged edges) (merged_all (λ (e : Edge). is_wide_edge p e ≡ false) (λ e f j a b. a) edges (none_true (is_wide_edge p) edges both.0))) both.1
fits_merged p (Invoke what answers other) h = h
fits_merged p (Consume prop next) h = refl
fits_merged p (SpanOpen span next) h = refl
fits_merged p (SpanClose span next) h = refl
fits_merged p (Pause code reason next) h = refl
fits_merged p (Fail code reason) h = refl

fits_same : (p q : Program) → SameDeclared p q → ((number : Option ℕ) (t : ℕ) → is_wide_number q number t ≡ is_wide_number p number t) → (i : Instr) → is_wide_instr p i ≡ false → is_wide_instr q i ≡ false
fits_same p q same numbers i h =
    subst (λ (j : Instr). is_wide_instr q j ≡ false) (mapped_self i) (fits_mapped p q same (λ t. t) Anywhere (λ number t m fits. numbers number t ∙ fits) i (moves_anywhere i) h)

module _ (p : Program) (f : IsFinishable p) (holds : Holds p Width) where
  abbrev q : Program
  q = skipped p

  abbrev r : Program
  r = trimmed q

  abbrev m : Program
  m = merged_program r

  state_fits : AllStates (FitsIn p) p.states
  state_fits n s e = false_from_ne_true (is_wide_instr p s.instr) (λ wide. holds n (s, e, wide))

  merged_declared : SameDeclared r m
  merged_declared = record { props = refl; hosts = refl; spans = refl }

  renamed_declared : SameDeclared m (finished p)
  renamed_declared = record { props = refl; hosts = refl; spans = refl }

  finished_number : (number : Option ℕ) (t : ℕ) → is_wide_number (finished p) number t ≡ is_wide_number r number t
  finished_number number t =
      number_same m (finished p) renamed_declared (moved_origin (rank (used m)))
      (λ k s. subst (λ (i : Instr). is_narrow_instr (finished p) k i ≡ is_narrow_instr m k s.instr) (mapped_self s.instr) (narrow_mapped m (finished p) renamed_declared (λ x. x) k s.instr)) number t t
      (slice_get-map (moved_origin (rank (used m))) m.states t)
      ∙ number_same r m merged_declared merged_state (λ k s. narrow_merged r m merged_declared k s.instr) number t t (slice_get-map merged_state r.states t)

  finished_fits : AllStates (FitsIn (finished p)) (finished p).states
  finished_fits =
      states_map (FitsIn (finished p)) (FitsIn (finished p)) (moved_origin (rank (used m))) (λ s h. h) m.states
      (states_map (FitsIn r) (FitsIn (finished p)) merged_state
      (λ s h. fits_same r (finished p) (record { props = refl; hosts = refl; spans = refl }) finished_number (merged_instr s.instr) (fits_merged r s.instr h)) r.states
      (trimmed_fits q (reached q) (reached_right q (skipped_range p f.range)) (skipped_fits p f.numberless state_fits)))

  -- a finished program keeps the rule on widths
  pub finished_widths : Holds (finished p) Width
  finished_widths at (s, e, wide) = false≢true (sym (finished_fits at s e) ∙ wide)
