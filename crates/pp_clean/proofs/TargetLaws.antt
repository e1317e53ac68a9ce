-- A finished program keeps the rule on targets.
use Rattle.std.proofs.Common.{subst, ◌≡◌, ℕ, zero, suc, ◌+◌, ◌<◌, ◌≤◌, List, [], ◌∷◌, Option, Some, None, Bool, true, ◌&&◌, cond, refl, sym, ◌∙◌, ap, arith, map, length, option_map, inl, inr}
use Rattle.std.specs.Prelude.{not, slice_get, nat_lt, nat_le, is_none, unwrap_or, ◌==◌}
use Rattle.std.specs.List.{AllByRecursion, list_all}
use Rattle.std.proofs.lemmas.Bool.{false≢true, and_parts, and_from, leb-true, le-leb, lt-ltb, eqb-true, cases_Bool}
use Rattle.std.proofs.lemmas.List.{length-map}
use Rattle.std.proofs.lemmas.Option.{slice_get-map}
use Rattle.pp_rules.specs.Rules.Limits.{most_props, most_hosts, most_spans}
use Rattle.pp_rules.specs.declared.declaration.PropDecl.{PropDecl}
use Rattle.pp_rules.specs.declared.declaration.HostDecl.{HostDecl}
use Rattle.pp_rules.specs.declared.declaration.SpanDecl.{SpanDecl}
use Rattle.pp_graph.specs.Plan.{host_value}
use Rattle.pp_graph.specs.declared.node.Answer.{Answer}
use Rattle.pp_graph.specs.declared.node.Code.{Code}
use Rattle.pp_graph.specs.declared.node.Code.TheVariants as code
use Rattle.pp_program.specs.declared.program.Edge.{Edge}
use Rattle.pp_program.specs.declared.program.Rest.{Rest}
use Rattle.pp_program.specs.declared.program.Instr.{Instr}
use Rattle.pp_program.specs.declared.program.Instr.TheVariants.{Branch, Invoke, Consume, SpanOpen, SpanClose, Pause, Fail}
use Rattle.pp_program.specs.declared.program.State.{State}
use Rattle.pp_program.specs.declared.program.Program.{Program}
use Rattle.pp_program.specs.declared.fault.VerifyRule.TheVariants.{Target}
use Rattle.pp_program.specs.FileLength.{file_length}
use Rattle.pp_program.specs.Merge.{joins, joined}
use Rattle.pp_program.specs.Targets.{most_edges, most_answers, most_names, most_states, most_file_bytes, is_value_code, is_value_instr, is_value_state, is_plain_state, leads, is_edge, is_rest, is_alike, may_follow, row_behind, in_row, is_answer, answer_follows, is_code, are_edges, are_answers, is_instr, is_state, is_match_host, is_finish, are_counts, is_frame}
use Rattle.pp_program.specs.Valid.{Holds}
use Rattle.pp_program.proofs.MergeLaws.{merged-short}
use Rattle.pp_program.proofs.SoundLemmas.{frame-right}
use Rattle.pp_clean.specs.Map.{mapped_edge, mapped_rest, mapped_answer, mapped, mapped_state, EachMove}
use Rattle.pp_clean.specs.Skip.{instr_past, state_past, past, on_past, full_within, behind, landing, skipped, NoNumber, rest_number, IsNumberless}
use Rattle.pp_clean.specs.Reach.{picked, rank, reached, trimmed_by, trimmed, IsReach}
use Rattle.pp_clean.specs.Merge.{merged_instr, merged_state, merged_program, EdgesAre}
use Rattle.pp_clean.specs.Names.{used, moved_origin}
use Rattle.pp_clean.specs.Finished.{AllStates, IsFinishable, IsFinished, finished}
use Rattle.pp_clean.proofs.SkipLaws.{landing_full}
use Rattle.pp_clean.proofs.ReachLaws.{unpicked, reached_right, IsMarked, moves_marked, trimmed_state}
use Rattle.pp_clean.proofs.MappedLaws.{states_map, map_inverse, bare_leads, skipped_range}
use Rattle.pp_clean.proofs.ResultLaws.{get_some, finished_is}
use Rattle.pp_clean.proofs.AcrossLaws.{SameDeclared, all_mapped, all_true, true_all, merged_all, mapped_self, Anywhere, moves_anywhere}
use Rattle.pp_clean.proofs.LengthLaws.{finished_length, fewer_names, fewer_states}

-- What a state does names what is there, in whatever order its edges stand.
abbrev pub LeadsRight : Program → Instr → Type 0
LeadsRight p (Branch fold stay edges rest) = (length edges ≤ 256) × AllByRecursion (λ (e : Edge). is_edge p e ≡ true) edges × (is_rest p rest ≡ true)
LeadsRight p (Invoke what answers other) = is_instr p (Invoke what answers other) ≡ true
LeadsRight p (Consume prop next) = is_instr p (Consume prop next) ≡ true
LeadsRight p (SpanOpen span next) = is_instr p (SpanOpen span next) ≡ true
LeadsRight p (SpanClose span next) = is_instr p (SpanClose span next) ≡ true
LeadsRight p (Pause number reason next) = is_instr p (Pause number reason next) ≡ true
LeadsRight p (Fail number reason) = is_instr p (Fail number reason) ≡ true

leads_right : (p : Program) (i : Instr) → is_instr p i ≡ true → LeadsRight p i
leads_right p (Branch fold stay edges rest) h =
    let both = and_parts (are_edges p edges) (is_rest p rest) h in
    let three = and_parts (nat_le (length edges) most_edges && list_all (is_edge p) edges) (in_row may_follow edges) both.0 in
    let two = and_parts (nat_le (length edges) most_edges) (list_all (is_edge p) edges) three.0 in
    (leb-true (length edges) 256 two.0, all_true (is_edge p) edges two.1, both.1)
leads_right p (Invoke what answers other) h = h
leads_right p (Consume prop next) h = h
leads_right p (SpanOpen span next) h = h
leads_right p (SpanClose span next) h = h
leads_right p (Pause number reason next) h = h
leads_right p (Fail number reason) h = h

right_in_row : (p : Program) (i : Instr) → LeadsRight p i → EdgesAre (λ edges. in_row may_follow edges ≡ true) i → is_instr p i ≡ true
right_in_row p (Branch fold stay edges rest) h row =
    let two : (nat_le (length edges) most_edges && list_all (is_edge p) edges) ≡ true =
    and_from (nat_le (length edges) most_edges) (list_all (is_edge p) edges) (le-leb (length edges) 256 h.0) (true_all (is_edge p) edges h.1) in
    let three : are_edges p edges ≡ true = and_from (nat_le (length edges) most_edges && list_all (is_edge p) edges) (in_row may_follow edges) two row in
    and_from (are_edges p edges) (is_rest p rest) three h.2
right_in_row p (Invoke what answers other) h row = h
right_in_row p (Consume prop next) h row = h
right_in_row p (SpanOpen span next) h row = h
right_in_row p (SpanClose span next) h row = h
right_in_row p (Pause number reason next) h row = h
right_in_row p (Fail number reason) h row = h

-- ---- the same declarations

module _ (p q : Program) (same : SameDeclared p q) where
  code_same : (c : Code) → is_code q c ≡ is_code p c
  code_same (code.Call host) = ap (λ (l : List HostDecl). nat_lt host (length l)) same.hosts
  code_same (code.Store prop) = ap (λ (l : List PropDecl). nat_lt prop (length l)) same.props
  code_same (code.Load prop) = ap (λ (l : List PropDecl). nat_lt prop (length l)) same.props
  code_same (code.Update prop value) = ap (λ (l : List PropDecl). nat_lt prop (length l)) same.props
  code_same (code.Equal prop value) = ap (λ (l : List PropDecl). nat_lt prop (length l)) same.props
  code_same (code.And prop value) = ap (λ (l : List PropDecl). nat_lt prop (length l)) same.props
  code_same (code.Or prop value) = ap (λ (l : List PropDecl). nat_lt prop (length l)) same.props
  code_same (code.Test prop value) = ap (λ (l : List PropDecl). nat_lt prop (length l)) same.props
  code_same (code.MulAdd prop base most) = ap (λ (l : List PropDecl). nat_lt prop (length l)) same.props

  value_code : (c : Code) → is_value_code q c ≡ is_value_code p c
  value_code (code.Call host) = ap (λ (l : List HostDecl). host_value (slice_get l host)) same.hosts
  value_code (code.Store prop) = refl
  value_code (code.Load prop) = refl
  value_code (code.Update prop value) = refl
  value_code (code.Equal prop value) = refl
  value_code (code.And prop value) = refl
  value_code (code.Or prop value) = refl
  value_code (code.Test prop value) = refl
  value_code (code.MulAdd prop base most) = refl

  -- an invoke of signature value is one wherever it leads
  pub value_mapped : (f : ℕ → ℕ) (i : Instr) → is_value_instr q (mapped f i) ≡ is_value_instr p i
  value_mapped f (Branch fold stay edges rest) = refl
  value_mapped f (Invoke what answers other) = value_code what
  value_mapped f (Consume prop next) = refl
  value_mapped f (SpanOpen span next) = refl
  value_mapped f (SpanClose span next) = refl
  value_mapped f (Pause number reason next) = refl
  value_mapped f (Fail number reason) = refl

  value_merged : (i : Instr) → is_value_instr q (merged_instr i) ≡ is_value_instr p i
  value_merged (Branch fold stay edges rest) = refl
  value_merged (Invoke what answers other) = value_code what
  value_merged (Consume prop next) = refl
  value_merged (SpanOpen span next) = refl
  value_merged (SpanClose span next) = refl
  value_merged (Pause number reason next) = refl
  value_merged (Fail number reason) = refl

  finish_same : (o : Option (ℕ × ℕ)) → is_finish q o ≡ is_finish p o
  finish_same None = refl
  finish_same (Some rule) =
      ap (λ (l : List PropDecl). nat_lt rule.0 (length l) && is_match_host (slice_get q.hosts rule.1)) same.props
      ∙ ap (λ (l : List HostDecl). nat_lt rule.0 (length p.props) && is_match_host (slice_get l rule.1)) same.hosts

  module _ (g : State → State) (value : (s : State) → is_value_instr q (g s).instr ≡ is_value_instr p s.instr) where
    value_there : (o : Option State) → is_value_state q (option_map g o) ≡ is_value_state p o
    value_there None = refl
    value_there (Some s) = value s

    plain_there : (o : Option State) → is_plain_state q (option_map g o) ≡ is_plain_state p o
    plain_there None = refl
    plain_there (Some s) = ap not (value s)

    -- an edge that led to a place leads to the place that has its state
    pub leads_same : (number : Option ℕ) (t u : ℕ) → slice_get q.states u ≡ option_map g (slice_get p.states t) → leads q number u ≡ leads p number t
    leads_same None t u at = ap (is_plain_state q) at ∙ plain_there (slice_get p.states t)
    leads_same (Some number) t u at = ap (is_value_state q) at ∙ value_there (slice_get p.states t)

  module _ (f : ℕ → ℕ) (P : ℕ → ℕ → Type 0) (on : (number : Option ℕ) (t : ℕ) → P t (unwrap_or number 0) → leads p number t ≡ true → leads q number (f t) ≡ true) where
    edge_on : (e : Edge) → P e.target (unwrap_or e.number 0) → is_edge p e ≡ true → is_edge q (mapped_edge f e) ≡ true
    edge_on e m h =
        let form : Bool = nat_le e.lo e.hi && cond e.take true (is_none e.number) in
        let both = and_parts form (leads p e.number e.target) h in
        and_from form (leads q e.number (f e.target)) both.0 (on e.number e.target m both.1)

    rest_on : (r : Rest) → P r.target (unwrap_or r.number 0) → is_rest p r ≡ true → is_rest q (mapped_rest f r) ≡ true
    rest_on r m h =
        let form : Bool = cond r.skip (is_none r.number) true in
        let both = and_parts form (leads p r.number r.target) h in
        and_from form (leads q r.number (f r.target)) both.0 (on r.number r.target m both.1)

    row_same : (a : Answer) (answers : List Answer) → row_behind answer_follows (mapped_answer f a) (map (mapped_answer f) answers) ≡ row_behind answer_follows a answers
    row_same a [] = refl
    row_same a (b ∷ answers) = ap (λ (v : Bool). answer_follows a b && v) (row_same b answers)

    answers_row : (answers : List Answer) → in_row answer_follows (map (mapped_answer f) answers) ≡ in_row answer_follows answers
    answers_row [] = refl
    answers_row (a ∷ answers) = row_same a answers

    answers_on : (answers : List Answer) → AllByRecursion (λ (a : Answer). P a.target 0) answers → are_answers p answers ≡ true → are_answers q (map (mapped_answer f) answers) ≡ true
    answers_on answers m h =
        let moved : List Answer = map (mapped_answer f) answers in
        let three = and_parts (nat_le (length answers) most_answers && list_all (is_answer p) answers) (in_row answer_follows answers) h in
        let two = and_parts (nat_le (length answers) most_answers) (list_all (is_answer p) answers) three.0 in
        let few : nat_le (length moved) most_answers ≡ true = ap (λ (n : ℕ). nat_le n most_answers) (length-map answers (mapped_answer f)) ∙ two.0 in
        let lead : list_all (is_answer q) moved ≡ true =
        true_all (is_answer q) moved
        (all_mapped (λ (a : Answer). P a.target 0) (λ (a : Answer). is_answer p a ≡ true) (λ (a : Answer). is_answer q a ≡ true) (mapped_answer f) (λ a k l. on None a.target k l) answers m (all_true (is_answer p) answers two.1)) in
        and_from (nat_le (length moved) most_answers && list_all (is_answer q) moved) (in_row answer_follows moved) (and_from (nat_le (length moved) most_answers) (list_all (is_answer q) moved) few lead) (answers_row answers ∙ three.1)

    -- a state that leads on rightly does so where it is led on
    pub right_mapped : (i : Instr) → EachMove P i → LeadsRight p i → LeadsRight q (mapped f i)
    right_mapped (Branch fold stay edges rest) m h =
        let long : length (map (mapped_edge f) edges) ≡ length edges = length-map edges (mapped_edge f) in (
          omega (arith, long, h.0),
          all_mapped (λ (e : Edge). P e.target (unwrap_or e.number 0)) (λ (e : Edge). is_edge p e ≡ true) (λ (e : Edge). is_edge q e ≡ true) (mapped_edge f) (λ e. edge_on e) edges m.0 h.1,
          rest_on rest m.1 h.2,
        )
    right_mapped (Invoke what answers other) m h =
        let both = and_parts (is_code p what && are_answers p answers) (leads p None other) h in
        let two = and_parts (is_code p what) (are_answers p answers) both.0 in
        let moved : List Answer = map (mapped_answer f) answers in
        and_from (is_code q what && are_answers q moved) (leads q None (f other)) (and_from (is_code q what) (are_answers q moved) (code_same what ∙ two.0) (answers_on answers m.0 two.1)) (on None other m.1 both.1)
    right_mapped (Consume prop next) m h =
        let both = and_parts (nat_lt prop (length p.props)) (leads p None next) h in
        and_from (nat_lt prop (length q.props)) (leads q None (f next)) (ap (λ (l : List PropDecl). nat_lt prop (length l)) same.props ∙ both.0) (on None next m both.1)
    right_mapped (SpanOpen span next) m h =
        let both = and_parts (nat_lt span (length p.spans)) (leads p None next) h in
        and_from (nat_lt span (length q.spans)) (leads q None (f next)) (ap (λ (l : List SpanDecl). nat_lt span (length l)) same.spans ∙ both.0) (on None next m both.1)
    right_mapped (SpanClose span next) m h =
        let both = and_parts (nat_lt span (length p.spans)) (leads p None next) h in
        and_from (nat_lt span (length q.spans)) (leads q None (f next)) (ap (λ (l : List SpanDecl). nat_lt span (length l)) same.spans ∙ both.0) (on None next m both.1)
    right_mapped (Pause number reason next) m h = on None next m h
    right_mapped (Fail number reason) m h = refl

-- ---- without moves to empty states

value_full : (p : Program) (i : Instr) → is_value_instr p i ≡ true → instr_past i ≡ None
value_full p (Branch fold stay edges rest) h = absurd (false≢true h)
value_full p (Invoke what answers other) h = refl
value_full p (Consume prop next) h = refl
value_full p (SpanOpen span next) h = refl
value_full p (SpanClose span next) h = refl
value_full p (Pause number reason next) h = refl
value_full p (Fail number reason) h = refl

-- no state of signature value is empty
value_past : (p : Program) (o : Option State) → is_value_state p o ≡ true → state_past o ≡ None
value_past p None h = refl
value_past p (Some s) h = value_full p s.instr h

module _ (p : Program) (numberless : IsNumberless p.states) (right : AllStates (λ s. LeadsRight p s.instr) p.states) where
  declared_skipped : SameDeclared p (skipped p)
  declared_skipped = record { props = refl; hosts = refl; spans = refl }

  instr_plain : (i : Instr) (t : ℕ) → LeadsRight p i → rest_number i ≡ None → instr_past i ≡ Some t → leads p None t ≡ true
  instr_plain (Branch fold stay edges rest) t h number e =
      let lead : leads p rest.number rest.target ≡ true = (and_parts (cond rest.skip (is_none rest.number) true) (leads p rest.number rest.target) h.2).1 in
      let bare : leads p None rest.target ≡ true = subst (λ (o : Option ℕ). leads p o rest.target ≡ true) number lead in
      subst (λ (x : ℕ). leads p None x ≡ true) (bare_leads stay edges rest.skip rest.number rest.target t e) bare
  instr_plain (Invoke what answers other) t h number e = cc
  instr_plain (Consume prop next) t h number e = cc
  instr_plain (SpanOpen span next) t h number e = cc
  instr_plain (SpanClose span next) t h number e = cc
  instr_plain (Pause code reason next) t h number e = cc
  instr_plain (Fail code reason) t h number e = cc

  past_plain : (n t : ℕ) (o : Option State) → slice_get p.states n ≡ o → state_past o ≡ Some t → leads p None t ≡ true
  past_plain n t None e g = cc
  past_plain n t (Some s) e g = instr_plain s.instr t (right n s e) (numberless.from n t s e g) g

  full_plain_on : (k n m : ℕ) → ((t : ℕ) → leads p None t ≡ true → full_within p.states k t ≡ Some m → leads p None m ≡ true) → leads p None n ≡ true →
      (o : Option ℕ) → past p.states n ≡ o → on_past (full_within p.states k) n o ≡ Some m → leads p None m ≡ true
  full_plain_on k n m go h None e f = let same : n ≡ m = cc in subst (λ (x : ℕ). leads p None x ≡ true) same h
  full_plain_on k n m go h (Some t) e f = go t (past_plain n t (slice_get p.states n) refl e) f

  -- behind empty states no state takes a number where the first of them takes none
  full_plain : (k n m : ℕ) → leads p None n ≡ true → full_within p.states k n ≡ Some m → leads p None m ≡ true
  full_plain zero n m h f = cc
  full_plain (suc k) n m h f = full_plain_on k n m (λ t. full_plain k t m) h (past p.states n) refl f

  landing_plain : (n : ℕ) → leads p None n ≡ true → (o : Option ℕ) → behind p.states n ≡ o → leads p None (unwrap_or o n) ≡ true
  landing_plain n h None e = h
  landing_plain n h (Some m) e = full_plain (suc (length p.states)) n m h e

  skipped_leads : (number : Option ℕ) (t : ℕ) → leads (skipped p) number t ≡ leads p number t
  skipped_leads number t =
      leads_same p (skipped p) declared_skipped (mapped_state (landing p.states)) (λ s. value_mapped p (skipped p) declared_skipped (landing p.states) s.instr) number t t
      (slice_get-map (mapped_state (landing p.states)) p.states t)

  -- a move that skips empty states still leads to a state
  pub skipped_on : (number : Option ℕ) (t : ℕ) → leads p number t ≡ true → leads (skipped p) number (landing p.states t) ≡ true
  skipped_on None t h = skipped_leads None (landing p.states t) ∙ landing_plain t h (behind p.states t) refl
  skipped_on (Some number) t h =
      let full : past p.states t ≡ None = value_past p (slice_get p.states t) h in
      ap (leads (skipped p) (Some number)) (landing_full p.states t full) ∙ skipped_leads (Some number) t ∙ h

  skipped_right : AllStates (λ s. LeadsRight (skipped p) s.instr) (skipped p).states
  skipped_right n s e =
      let x = map_inverse (mapped_state (landing p.states)) p.states n s e in
      subst (λ (y : State). LeadsRight (skipped p) y.instr) x.2
      (right_mapped p (skipped p) declared_skipped (landing p.states) (NoNumber p.states) (λ number t m. skipped_on number t) x.0.instr (numberless.onto n x.0 x.1) (right n x.0 x.1))

-- ---- without states that nothing leads to

module _ (p : Program) (marks : List Bool) (reach : IsReach p marks) where
  declared_trimmed : SameDeclared p (trimmed_by p marks)
  declared_trimmed = record { props = refl; hosts = refl; spans = refl }

  -- a move to a state that is kept still leads to a state
  pub trimmed_on : (number : Option ℕ) (t : ℕ) → slice_get marks t ≡ Some true → leads p number t ≡ true → leads (trimmed_by p marks) number (rank marks t) ≡ true
  trimmed_on number t m h =
      leads_same p (trimmed_by p marks) declared_trimmed (mapped_state (rank marks)) (λ s. value_mapped p (trimmed_by p marks) declared_trimmed (rank marks) s.instr) number t (rank marks t)
      (trimmed_state p marks reach t (slice_get p.states t) m refl)
      ∙ h

  trimmed_right : AllStates (λ s. LeadsRight p s.instr) p.states → AllStates (λ s. LeadsRight (trimmed_by p marks) s.instr) (trimmed_by p marks).states
  trimmed_right right n s e =
      let x = map_inverse (mapped_state (rank marks)) (picked marks p.states) n s e in
      let y = unpicked marks p.states n x.0 x.1 in
      subst (λ (z : State). LeadsRight (trimmed_by p marks) z.instr) x.2
      (right_mapped p (trimmed_by p marks) declared_trimmed (rank marks) (IsMarked p marks reach) (λ number t m. trimmed_on number t m) x.0.instr (moves_marked p marks reach y.0 x.0 y.3 y.1) (right y.0 x.0 y.3))

-- ---- with merged edges, and the names of its states alone

joined_edge : (p : Program) (e f : Edge) → joins e f ≡ true → is_edge p e ≡ true → is_edge p f ≡ true → is_edge p (joined e f) ≡ true
joined_edge p e f j h k =
    let take : Bool = cond e.take true (is_none e.number) in
    let one = and_parts (nat_le e.lo e.hi && take) (leads p e.number e.target) h in
    let low = and_parts (nat_le e.lo e.hi) take one.0 in
    let two = and_parts (nat_le f.lo f.hi && cond f.take true (is_none f.number)) (leads p f.number f.target) k in
    let high = and_parts (nat_le f.lo f.hi) (cond f.take true (is_none f.number)) two.0 in
    let next : e.hi + 1 ≡ f.lo = eqb-true (e.hi + 1) f.lo (and_parts (e.hi + 1 == f.lo) (is_alike e f) j).0 in
    let range : nat_le e.lo f.hi ≡ true = le-leb e.lo f.hi (omega (arith, next, leb-true e.lo e.hi low.0, leb-true f.lo f.hi high.0)) in
    and_from (nat_le e.lo f.hi && take) (leads p e.number e.target) (and_from (nat_le e.lo f.hi) take range low.1) one.1

right_merged : (p : Program) (i : Instr) → LeadsRight p i → LeadsRight p (merged_instr i)
right_merged p (Branch fold stay edges rest) h = (omega (arith, h.0, merged-short edges), merged_all (λ (e : Edge). is_edge p e ≡ true) (joined_edge p) edges h.1, h.2)
right_merged p (Invoke what answers other) h = h
right_merged p (Consume prop next) h = h
right_merged p (SpanOpen span next) h = h
right_merged p (SpanClose span next) h = h
right_merged p (Pause number reason next) h = h
right_merged p (Fail number reason) h = h

-- what leads on rightly in one program does so in another one, too
right_same : (p q : Program) → SameDeclared p q → ((number : Option ℕ) (t : ℕ) → leads q number t ≡ leads p number t) → (i : Instr) → LeadsRight p i → LeadsRight q i
right_same p q same leads_are i h =
    subst (LeadsRight q) (mapped_self i) (right_mapped p q same (λ t. t) Anywhere (λ number t m lead. leads_are number t ∙ lead) i (moves_anywhere i) h)

module _ (p : Program) (f : IsFinishable p) (holds : Holds p Target) where
  abbrev q : Program
  q = skipped p

  abbrev r : Program
  r = trimmed q

  abbrev m : Program
  m = merged_program r

  reach : IsReach q (reached q)
  reach = reached_right q (skipped_range p f.range)

  state_right : AllStates (λ s. LeadsRight p s.instr) p.states
  state_right n s e = elim (cases_Bool (is_state p s)) [
    | inl right ↦ leads_right p s.instr (and_parts (nat_lt s.origin (length p.names)) (is_instr p s.instr) right).1
    | inr wrong ↦ absurd (holds n (inl (s, e, wrong)))
  ]

  merged_declared : SameDeclared r m
  merged_declared = record { props = refl; hosts = refl; spans = refl }

  renamed_declared : SameDeclared m (finished p)
  renamed_declared = record { props = refl; hosts = refl; spans = refl }

  declared : SameDeclared p (finished p)
  declared = record { props = refl; hosts = refl; spans = refl }

  finished_leads : (number : Option ℕ) (t : ℕ) → leads (finished p) number t ≡ leads r number t
  finished_leads number t =
      leads_same m (finished p) renamed_declared (moved_origin (rank (used m))) (λ s. subst (λ (i : Instr). is_value_instr (finished p) i ≡ is_value_instr m s.instr) (mapped_self s.instr) (value_mapped m (finished p) renamed_declared (λ x. x) s.instr)) number t t
      (slice_get-map (moved_origin (rank (used m))) m.states t)
      ∙ leads_same r m merged_declared merged_state (λ s. value_merged r m merged_declared s.instr) number t t (slice_get-map merged_state r.states t)

  pub finished_right : AllStates (λ s. LeadsRight (finished p) s.instr) (finished p).states
  finished_right =
      let R : State → Type 0 = λ s. LeadsRight r s.instr in
      let F : State → Type 0 = λ s. LeadsRight (finished p) s.instr in
      states_map F F (moved_origin (rank (used m))) (λ s h. h) m.states
      (states_map R F merged_state (λ s h. right_same r (finished p) (record { props = refl; hosts = refl; spans = refl }) finished_leads (merged_instr s.instr) (right_merged r s.instr h)) r.states
      (trimmed_right q (reached q) reach (skipped_right p f.numberless state_right)))

  finished_state : (n : ℕ) (s : State) → slice_get (finished p).states n ≡ Some s → is_state (finished p) s ≡ true
  finished_state n s e =
      let is : IsFinished (finished p) = finished_is p f in
      and_from (nat_lt s.origin (length (finished p).names)) (is_instr (finished p) s.instr) (lt-ltb s.origin (length (finished p).names) (is.origins n s e))
      (right_in_row (finished p) s.instr (finished_right n s e) (is.in_row n s e))

  -- ---- the entry and the counts

  entry_right : leads p None p.entry ≡ true → leads (finished p) None (finished p).entry ≡ true
  entry_right h = finished_leads None r.entry ∙ trimmed_on q (reached q) reach None q.entry reach.entry (skipped_on p f.numberless state_right None p.entry h)

  some_states : 1 ≤ length (finished p).states
  some_states = let is : IsFinished (finished p) = finished_is p f in let low : (finished p).entry < length (finished p).states = is.range.entry in omega (arith, low)

  some_names : 1 ≤ length (finished p).names
  some_names =
      let is : IsFinished (finished p) = finished_is p f in
      let s = get_some (finished p).states (finished p).entry is.range.entry in
      let low : s.0.origin < length (finished p).names = is.origins (finished p).entry s.0 s.1 in
      omega (arith, low)

  counts_right : are_counts p ≡ true → are_counts (finished p) ≡ true
  counts_right h =
      let l : Program = finished p in
      let lists : Bool = nat_le (length p.props) most_props && nat_le (length p.hosts) most_hosts && nat_le (length p.spans) most_spans in
      let names : Bool = nat_le 1 (length p.names) in
      let few_names : Bool = nat_le (length p.names) most_names in
      let states : Bool = nat_le 1 (length p.states) in
      let few_states : Bool = nat_le (length p.states) most_states in
      let a = and_parts (lists && names && few_names && states && few_states) (nat_le (file_length p) most_file_bytes) h in
      let b = and_parts (lists && names && few_names && states) few_states a.0 in
      let c = and_parts (lists && names && few_names) states b.0 in
      let d = and_parts (lists && names) few_names c.0 in
      let e = and_parts lists names d.0 in
      let named : (lists && nat_le 1 (length l.names)) ≡ true = and_from lists (nat_le 1 (length l.names)) e.0 (le-leb 1 (length l.names) some_names) in
      let few_named : (lists && nat_le 1 (length l.names) && nat_le (length l.names) most_names) ≡ true =
      and_from (lists && nat_le 1 (length l.names)) (nat_le (length l.names) most_names) named
      (le-leb (length l.names) 4096 (omega (arith, leb-true (length p.names) 4096 d.1, fewer_names p))) in
      let stated : (lists && nat_le 1 (length l.names) && nat_le (length l.names) most_names && nat_le 1 (length l.states)) ≡ true =
      and_from (lists && nat_le 1 (length l.names) && nat_le (length l.names) most_names) (nat_le 1 (length l.states)) few_named (le-leb 1 (length l.states) some_states) in
      let few_stated : (lists && nat_le 1 (length l.names) && nat_le (length l.names) most_names && nat_le 1 (length l.states) && nat_le (length l.states) most_states) ≡ true =
      and_from (lists && nat_le 1 (length l.names) && nat_le (length l.names) most_names && nat_le 1 (length l.states)) (nat_le (length l.states) most_states) stated
      (le-leb (length l.states) 65535 (omega (arith, leb-true (length p.states) 65535 b.1, fewer_states p))) in
      and_from (lists && nat_le 1 (length l.names) && nat_le (length l.names) most_names && nat_le 1 (length l.states) && nat_le (length l.states) most_states) (nat_le (file_length l) most_file_bytes) few_stated
      (le-leb (file_length l) 16777216 (omega (arith, leb-true (file_length p) 16777216 a.1, finished_length p)))

  frame_right : is_frame (finished p) ≡ true
  frame_right =
      let l : Program = finished p in
      let both = and_parts (leads p None p.entry && is_finish p p.finish) (are_counts p) (frame-right p holds) in
      let two = and_parts (leads p None p.entry) (is_finish p p.finish) both.0 in
      and_from (leads l None l.entry && is_finish l l.finish) (are_counts l)
      (and_from (leads l None l.entry) (is_finish l l.finish) (entry_right two.0) (finish_same p l declared p.finish ∙ two.1)) (counts_right both.1)

  -- a finished program keeps the rule on targets
  pub finished_targets : Holds (finished p) Target
  finished_targets at (inl (s, e, wrong)) = false≢true (sym wrong ∙ finished_state at s e)
  finished_targets at (inr (end, wrong)) = false≢true (sym wrong ∙ frame_right)
