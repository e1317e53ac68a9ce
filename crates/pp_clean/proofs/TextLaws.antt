-- The names and reasons of a finished program are among those that there were.
use Rattle.std.proofs.Common.{subst, ◌≡◌, ℕ, zero, suc, ◌+◌, List, [], ◌∷◌, ◌++◌, Some, Bool, true, false, refl, sym, ◌∙◌, ap, map, take, length, inl, inr}
use Rattle.std.specs.Prelude.{slice_get, bytes_eq, not}
use Rattle.std.specs.List.{list_any}
use Rattle.std.proofs.lemmas.Bool.{or_cases, or_left, or_right, not-true, not_from_false}
use Rattle.std.proofs.lemmas.List.Folds.{list_any-append}
use Rattle.pp_rules.specs.Names.{is_name, is_reason}
use Rattle.pp_program.specs.declared.program.Instr.{Instr}
use Rattle.pp_program.specs.declared.program.Instr.TheVariants.{Branch, Invoke, Consume, SpanOpen, SpanClose, Pause, Fail}
use Rattle.pp_program.specs.declared.program.State.{State}
use Rattle.pp_program.specs.declared.program.Program.{Program}
use Rattle.pp_program.specs.declared.fault.VerifyRule.TheVariants.{Names}
use Rattle.pp_program.specs.Names.{NameFails, reason_of, reasons_of, ReasonFails}
use Rattle.pp_program.specs.Valid.{Holds}
use Rattle.pp_clean.specs.Map.{mapped, mapped_state}
use Rattle.pp_clean.specs.Skip.{landing, skipped}
use Rattle.pp_clean.specs.Reach.{picked, rank, reached, trimmed}
use Rattle.pp_clean.specs.Merge.{merged_instr, merged_state, merged_program}
use Rattle.pp_clean.specs.Names.{used, moved_origin}
use Rattle.pp_clean.specs.Finished.{finished}
use Rattle.pp_clean.proofs.ReachLaws.{unpicked}
use Rattle.pp_clean.proofs.NamesLaws.{any_at}
use Rattle.pp_clean.proofs.ResultLaws.{any_where}

-- what is found before a picked one is found before it among all
any_before : {X : Type 0} (test : X → Bool) (marks : List Bool) (xs : List X) (n : ℕ) (x : X) → slice_get marks n ≡ Some true → slice_get xs n ≡ Some x →
    list_any test (take (rank marks n) (picked marks xs)) ≡ true → list_any test (take n xs) ≡ true
any_before test [] xs n x e at h = cc
any_before test (m ∷ marks) [] n x e at h = cc
any_before test (true ∷ marks) (y ∷ xs) zero x e at h = h
any_before test (false ∷ marks) (y ∷ xs) zero x e at h = cc
any_before test (true ∷ marks) (y ∷ xs) (suc n) x e at h = elim (or_cases (test y) (list_any test (take (rank marks n) (picked marks xs))) h) [
  | inl here ↦ or_left (test y) (list_any test (take n xs)) here
  | inr later ↦ or_right (test y) (list_any test (take n xs)) (any_before test marks xs n x e at later)
]
any_before test (false ∷ marks) (y ∷ xs) (suc n) x e at h = or_right (test y) (list_any test (take n xs)) (any_before test marks xs n x e at h)

-- a picked name that is wrong was wrong
name_wrong : (marks : List Bool) (names : List (List ℕ)) (i : ℕ) → NameFails (picked marks names) i → (n : ℕ) × NameFails names n
name_wrong marks names i (name, at, wrong) =
    let u = unpicked marks names i name at in
    let same : List ℕ → Bool = λ other. bytes_eq other name in
    elim (or_cases (not (is_name name)) (list_any same (take i (picked marks names))) wrong) [
      | inl form ↦ (u.0, (name, u.3, or_left (not (is_name name)) (list_any same (take u.0 names)) form))
      | inr twice ↦
          let before : list_any same (take (rank marks u.0) (picked marks names)) ≡ true = subst (λ (k : ℕ). list_any same (take k (picked marks names)) ≡ true) (sym u.2) twice in
          (u.0, (name, u.3, or_right (not (is_name name)) (list_any same (take u.0 names)) (any_before same marks names u.0 name u.1 u.3 before)))
    ]

mapped_text : (f : ℕ → ℕ) (i : Instr) → reason_of (mapped f i) ≡ reason_of i
mapped_text f (Branch fold stay edges rest) = refl
mapped_text f (Invoke code answers other) = refl
mapped_text f (Consume prop next) = refl
mapped_text f (SpanOpen span next) = refl
mapped_text f (SpanClose span next) = refl
mapped_text f (Pause code reason next) = refl
mapped_text f (Fail code reason) = refl

merged_text : (i : Instr) → reason_of (merged_instr i) ≡ reason_of i
merged_text (Branch fold stay edges rest) = refl
merged_text (Invoke code answers other) = refl
merged_text (Consume prop next) = refl
merged_text (SpanOpen span next) = refl
merged_text (SpanClose span next) = refl
merged_text (Pause code reason next) = refl
merged_text (Fail code reason) = refl

reasons_same : (g : State → State) → ((s : State) → reason_of (g s).instr ≡ reason_of s.instr) → (states : List State) → reasons_of (map g states) ≡ reasons_of states
reasons_same g same [] = refl
reasons_same g same (s ∷ states) =
    ap (λ (l : List (List ℕ)). l ++ reasons_of (map g states)) (same s) ∙ ap (λ (l : List (List ℕ)). reason_of s.instr ++ l) (reasons_same g same states)

-- a reason of a picked state is a reason
reason_picked : (test : List ℕ → Bool) (marks : List Bool) (states : List State) → list_any test (reasons_of (picked marks states)) ≡ true → list_any test (reasons_of states) ≡ true
reason_picked test [] states h = cc
reason_picked test (m ∷ marks) [] h = h
reason_picked test (true ∷ marks) (s ∷ states) h =
    let own : List (List ℕ) = reason_of s.instr in
    elim (or_cases (list_any test own) (list_any test (reasons_of (picked marks states))) (sym (list_any-append test own (reasons_of (picked marks states))) ∙ h)) [
      | inl here ↦ list_any-append test own (reasons_of states) ∙ or_left (list_any test own) (list_any test (reasons_of states)) here
      | inr later ↦ list_any-append test own (reasons_of states) ∙ or_right (list_any test own) (list_any test (reasons_of states)) (reason_picked test marks states later)
    ]
reason_picked test (false ∷ marks) (s ∷ states) h =
    list_any-append test (reason_of s.instr) (reasons_of states) ∙ or_right (list_any test (reason_of s.instr)) (list_any test (reasons_of states)) (reason_picked test marks states h)

module _ (p : Program) where
  abbrev wrong : List ℕ → Bool
  wrong reason = not (is_reason reason)

  reasons_are : reasons_of (finished p).states ≡ reasons_of (picked (reached (skipped p)) (skipped p).states)
  reasons_are =
      let q : Program = skipped p in
      let m : Program = merged_program (trimmed q) in
      reasons_same (moved_origin (rank (used m))) (λ s. refl) m.states
      ∙ reasons_same merged_state (λ s. merged_text s.instr) (trimmed q).states
      ∙ reasons_same (mapped_state (rank (reached q))) (λ s. mapped_text (rank (reached q)) s.instr) (picked (reached q) q.states)

  -- a reason that is wrong was wrong
  reason_wrong : (i : ℕ) → ReasonFails (reasons_of (finished p).states) i → (n : ℕ) × ReasonFails (reasons_of p.states) n
  reason_wrong i (reason, at, bad) =
      let q : Program = skipped p in
      let now : list_any wrong (reasons_of (finished p).states) ≡ true = any_at wrong (reasons_of (finished p).states) i reason at (not_from_false (is_reason reason) bad) in
      let kept : list_any wrong (reasons_of q.states) ≡ true = reason_picked wrong (reached q) q.states (ap (list_any wrong) (sym reasons_are) ∙ now) in
      let same : reasons_of q.states ≡ reasons_of p.states = reasons_same (mapped_state (landing p.states)) (λ s. mapped_text (landing p.states) s.instr) p.states in
      let found = any_where wrong (reasons_of p.states) (ap (list_any wrong) (sym same) ∙ kept) in
      (found.0, (found.1, found.2, not-true (is_reason found.1) found.3))

  -- a finished program keeps the rule on names
  pub finished_names : Holds p Names → Holds (finished p) Names
  finished_names holds at (inl h) = holds at (inl h)
  finished_names holds at (inr (inl h)) = holds at (inr (inl h))
  finished_names holds at (inr (inr (inl h))) = holds at (inr (inr (inl h)))
  finished_names holds at (inr (inr (inr (inl h)))) =
      let was = name_wrong (used (merged_program (trimmed (skipped p)))) p.names h.0 h.2 in
      holds (length p.props + length p.hosts + length p.spans + was.0) (inr (inr (inr (inl (was.0, refl, was.1)))))
  finished_names holds at (inr (inr (inr (inr h)))) =
      let was = reason_wrong h.0 h.2 in
      holds (length p.props + length p.hosts + length p.spans + length p.names + was.0) (inr (inr (inr (inr (was.0, refl, was.1)))))
