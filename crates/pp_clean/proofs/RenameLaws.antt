-- A program whose states are those of another one under other numbers means the same.
use Rattle.std.proofs.Common.{subst, ◌≡◌, ℕ, ◌+◌, List, [], ◌∷◌, Option, Some, None, Bool, true, false, cond, refl, sym, ◌∙◌, ap, map, length, add-zero, replicate}
use Rattle.std.specs.Prelude.{slice_get, ◌==◌, find, unwrap_or}
use Rattle.std.specs.List.{AllByRecursion}
use Rattle.pp_bytes.specs.declared.fold.Fold.{Fold}
use Rattle.pp_bytes.specs.Fold.{folded}
use Rattle.pp_bytes.specs.Ranges.{in_pair, in_ranges}
use Rattle.pp_graph.specs.declared.node.Answer.{Answer}
use Rattle.pp_program.specs.declared.program.Edge.{Edge}
use Rattle.pp_program.specs.declared.program.Rest.{Rest}
use Rattle.pp_program.specs.declared.program.Instr.{Instr}
use Rattle.pp_program.specs.declared.program.Instr.TheVariants.{Branch, Invoke, Consume, SpanOpen, SpanClose, Pause, Fail}
use Rattle.pp_program.specs.declared.program.State.{State}
use Rattle.pp_program.specs.declared.program.Program.{Program}
use Rattle.pp_program.specs.States.{rest_turn, edge_turn, is_empty_branch, branch_turn, instr_turn, state_turn, program_turn, program_entry}
use Rattle.pp_event.specs.Run.{Config, Turn, Goes, Rests, Fails}
use Rattle.pp_event.specs.Turns.{to, drained}
use Rattle.pp_event.specs.Codes.{target_or, answered, effect_of}
use Rattle.pp_event.specs.Simulates.{Bond, Mirrors, Matches, SimulatesTurns, here}
use Rattle.pp_event.proofs.SimulationLaws.{mirrors_matches, simulates_means}
use Rattle.pp_event.proofs.MirrorLaws.{stand_at, EdgesMeet, effect_mirrors, consume_mirrors, open_mirrors, close_mirrors}
use Rattle.pp_clean.specs.Map.{mapped_edge, mapped_rest, mapped_answer, mapped, EachMove}
use Rattle.pp_lower.specs.Kept.{instr_reason, state_reason, origin_name}
use Rattle.pp_clean.specs.Keeps.{StandsAlike, KeepsRuns}
use Rattle.pp_clean.specs.Skip.{branch_past, instr_past, rest_number}

-- what is found in a mapped list, by a test that the map doesn't change
pub find-map : {A : Type 0} (test : A → Bool) (g : A → A) → ((a : A) → test (g a) ≡ test a) → (l : List A) → (P : Option A → Type 0) →
    ((a : A) → find test l ≡ Some a → P (Some (g a))) → (find test l ≡ None → P None) → P (find test (map g l))
find-map {A} test g same [] P some none = none refl
find-map {A} test g same (a ∷ l) P some none =
    subst (λ (v : Bool). P (cond v (Some (g a)) (find test (map g l)))) (sym (same a))
    (by_test (λ h. find-map test g same l P (λ x e. some x (h ∙ e)) (λ e. none (h ∙ e))) (test a) refl)
  where
    by_test : (find test (a ∷ l) ≡ find test l → P (find test (map g l))) → (v : Bool) → test a ≡ v → P (cond v (Some (g a)) (find test (map g l)))
    by_test rest true e = some a (ap (λ (w : Bool). cond w (Some a) (find test l)) e)
    by_test rest false e = rest (ap (λ (w : Bool). cond w (Some a) (find test l)) e)

-- what is found is one of the list
pub find_all : {A : Type 0} (P : A → Type 0) (test : A → Bool) (l : List A) (a : A) → AllByRecursion P l → find test l ≡ Some a → P a
find_all P test [] a h e = cc
find_all {A} P test (x ∷ l) a h e = by_test (find_all P test l a h.1) (test x) e
  where
    by_test : (find test l ≡ Some a → P a) → (v : Bool) → cond v (Some x) (find test l) ≡ Some a → P a
    by_test rest true e = let same : x ≡ a = cc in subst P same h.0
    by_test rest false e = rest e

-- where an answer leads, with all edges mapped
answered-mapped : (f : ℕ → ℕ) (answers : List Answer) (other n : ℕ) → answered (map (mapped_answer f) answers) (f other) n ≡ f (answered answers other n)
answered-mapped f answers other n =
    find-map (λ (a : Answer). a.number == n) (mapped_answer f) (λ a. refl) answers (λ x. target_or (f other) x ≡ f (answered answers other n))
    (λ a e. ap (λ (x : Option Answer). f (target_or other x)) (sym e)) (λ e. ap (λ (x : Option Answer). f (target_or other x)) (sym e))

answered_all : (P : ℕ → Type 0) (answers : List Answer) (other n : ℕ) → AllByRecursion (λ (a : Answer). P a.target) answers → P other → P (answered answers other n)
answered_all P [] other n h k = k
answered_all P (a ∷ answers) other n h k = by_test (answered_all P answers other n h.1 k) (a.number == n)
  where
    by_test : P (answered answers other n) → (v : Bool) → P (target_or other (cond v (Some a) (find (λ (x : Answer). x.number == n) answers)))
    by_test rest true = h.0
    by_test rest false = rest

-- The second run stands where the first one does, under the number f gives, and P holds there of the place and the number
-- that is carried to it. They may end where `close` holds.
module _ (f : ℕ → ℕ) (P : ℕ → ℕ → Type 0) (close : Config → Config → Type 0) where
  abbrev pub beside : Bond
  beside = record { meet = λ c d. (stand_at c (f c.node) ≡ d) × P c.node c.carried; close = close }

  edges_meet : (node other : ℕ) → other ≡ f node → P node 0 → EdgesMeet beside node other
  edges_meet node other e p at values spans =
      (ap (λ (x : ℕ). record { node = x; at = at; carried = 0; values = values; spans = spans }) (sym e), p)

  module _ (c : Config) (closes : (e : Config) → e.node ≡ c.node → close e (stand_at e (f e.node))) where
    abbrev Like : Turn → Turn → Type 0
    Like t u = Mirrors beside c (stand_at c (f c.node)) t u

    Like-if : (v : Bool) (t u t' u' : Turn) → Like t u → Like t' u' → Like (cond v t t') (cond v u u')
    Like-if true t u t' u' h k = h
    Like-if false t u t' u' h k = k

    to_like : (n taken number : ℕ) → P n number → Like (to c n taken number) (to (stand_at c (f c.node)) (f n) taken number)
    to_like n taken number p = (record { node = f n; at = c.at + taken; carried = number; values = c.values; spans = c.spans }, refl, (refl, p))

    edge_like : (rest : Rest) (edges : List Edge) (test : Edge → Bool) → ((e : Edge) → test (mapped_edge f e) ≡ test e) →
        AllByRecursion (λ (e : Edge). P e.target (unwrap_or e.number 0)) edges → P rest.target (unwrap_or rest.number 0) →
        Like (edge_turn c rest (find test edges)) (edge_turn (stand_at c (f c.node)) (mapped_rest f rest) (find test (map (mapped_edge f) edges)))
    edge_like rest edges test same h k =
        find-map test (mapped_edge f) same edges (λ x. Like (edge_turn c rest (find test edges)) (edge_turn (stand_at c (f c.node)) (mapped_rest f rest) x))
        (λ e found. subst (λ (x : Option Edge). Like (edge_turn c rest x) (edge_turn (stand_at c (f c.node)) (mapped_rest f rest) (Some (mapped_edge f e)))) (sym found)
        (to_like e.target (cond e.take 1 0) (unwrap_or e.number 0) (find_all (λ (x : Edge). P x.target (unwrap_or x.number 0)) test edges e h found)))
        (λ none. subst (λ (x : Option Edge). Like (edge_turn c rest x) (edge_turn (stand_at c (f c.node)) (mapped_rest f rest) None)) (sym none)
        (to_like rest.target (cond rest.skip 1 0) (unwrap_or rest.number 0) k))

    empty_mapped : (stay : List (ℕ × ℕ)) (edges : List Edge) (rest : Rest) → is_empty_branch stay (map (mapped_edge f) edges) (mapped_rest f rest) ≡ is_empty_branch stay edges rest
    empty_mapped [] [] rest = refl
    empty_mapped [] (e ∷ edges) rest = refl
    empty_mapped (r ∷ stay) edges rest = refl

    branch_like : (fold : Fold) (stay : List (ℕ × ℕ)) (edges : List Edge) (rest : Rest) (bytes : List ℕ) →
        AllByRecursion (λ (e : Edge). P e.target (unwrap_or e.number 0)) edges → P rest.target (unwrap_or rest.number 0) → P c.node 0 →
        Like (branch_turn c fold stay edges rest bytes) (branch_turn (stand_at c (f c.node)) fold stay (map (mapped_edge f) edges) (mapped_rest f rest) bytes)
    branch_like fold stay edges rest [] h k there =
        let waits : Bool = is_empty_branch stay edges rest in
        let idle : Config = record c { carried = 0 } in
        let like : Like (cond waits (rest_turn c rest) (Rests idle)) (cond waits (rest_turn (stand_at c (f c.node)) (mapped_rest f rest)) (Rests (stand_at idle (f c.node)))) =
        Like-if waits (rest_turn c rest) (rest_turn (stand_at c (f c.node)) (mapped_rest f rest)) (Rests idle) (Rests (stand_at idle (f c.node)))
        (to_like rest.target (cond rest.skip 1 0) (unwrap_or rest.number 0) k) (stand_at idle (f c.node), refl, closes idle refl) in
        subst (λ (v : Bool). Like (cond waits (rest_turn c rest) (Rests idle)) (cond v (rest_turn (stand_at c (f c.node)) (mapped_rest f rest)) (Rests (stand_at idle (f c.node)))))
        (sym (empty_mapped stay edges rest)) like
    branch_like fold stay edges rest (b ∷ bytes) h k there =
        let test : Edge → Bool = λ (e : Edge). in_pair (folded fold b) (e.lo, e.hi) in
        Like-if (in_ranges stay b) (to c c.node 1 0) (to (stand_at c (f c.node)) (f c.node) 1 0)
        (edge_turn c rest (find test edges)) (edge_turn (stand_at c (f c.node)) (mapped_rest f rest) (find test (map (mapped_edge f) edges)))
        (to_like c.node 1 0 there) (edge_like rest edges test (λ e. refl) h k)

    -- an instruction mirrors itself, mapped
    pub instr_like : (i : Instr) (bytes : List ℕ) → EachMove P i → P c.node 0 → Like (instr_turn i c bytes) (instr_turn (mapped f i) (stand_at c (f c.node)) bytes)
    instr_like (Branch fold stay edges rest) bytes h there = branch_like fold stay edges rest bytes h.0 h.1 there
    instr_like (Invoke code answers other) bytes h there =
        effect_mirrors beside c (f c.node) (answered answers other) (answered (map (mapped_answer f) answers) (f other))
        (λ n. edges_meet (answered answers other n) (answered (map (mapped_answer f) answers) (f other) n) (answered-mapped f answers other n) (answered_all (λ m. P m 0) answers other n h.0 h.1))
        (effect_of c.values c.carried code)
    instr_like (Consume prop next) bytes h there =
        consume_mirrors beside c bytes (f c.node) prop next (f next) (edges_meet next (f next) refl h) (λ n. closes (drained c prop _ n) refl)
    instr_like (SpanOpen span next) bytes h there = open_mirrors beside c (f c.node) span next (f next) (edges_meet next (f next) refl h)
    instr_like (SpanClose span next) bytes h there = close_mirrors beside c (f c.node) span next (f next) (edges_meet next (f next) refl h)
    instr_like (Pause code reason next) bytes h there = (record c { node = f next; carried = 0 }, refl, refl, closes c refl, (refl, h))
    instr_like (Fail code reason) bytes h there = (refl, closes c refl)

reason-mapped : (f : ℕ → ℕ) (i : Instr) → instr_reason (mapped f i) ≡ instr_reason i
reason-mapped f (Branch fold stay edges rest) = refl
reason-mapped f (Invoke code answers other) = refl
reason-mapped f (Consume prop next) = refl
reason-mapped f (SpanOpen span next) = refl
reason-mapped f (SpanClose span next) = refl
reason-mapped f (Pause code reason next) = refl
reason-mapped f (Fail code reason) = refl

-- a rest without skip and number goes to its target
plain_turn : (c : Config) (number : Option ℕ) (target t : ℕ) → target ≡ t → number ≡ None →
    rest_turn c (record { skip = false; number = number; target = target }) ≡ Goes (record { node = t; at = c.at; carried = 0; values = c.values; spans = c.spans }) 0 []
plain_turn c number target t same e =
    let at : c.at + 0 ≡ c.at = add-zero c.at in
    ap (λ (x : Option ℕ). Goes (record { node = target; at = c.at + 0; carried = unwrap_or x 0; values = c.values; spans = c.spans }) 0 []) e
    ∙ ap (λ (x : ℕ). Goes (record { node = target; at = x; carried = 0; values = c.values; spans = c.spans }) 0 []) at
    ∙ ap (λ (x : ℕ). Goes (record { node = x; at = c.at; carried = 0; values = c.values; spans = c.spans }) 0 []) same

-- an empty branch goes where it leads
empty_turn : (c : Config) (fold : Fold) (stay : List (ℕ × ℕ)) (edges : List Edge) (skip : Bool) (number : Option ℕ) (target t : ℕ) (bytes : List ℕ) →
    branch_past stay edges (record { skip = skip; number = number; target = target }) ≡ Some t → number ≡ None →
    branch_turn c fold stay edges (record { skip = skip; number = number; target = target }) bytes
    ≡ Goes (record { node = t; at = c.at; carried = 0; values = c.values; spans = c.spans }) 0 []
empty_turn c fold [] [] true number target t bytes h e = cc
empty_turn c fold [] [] false number target t [] h e = plain_turn c number target t (let same : target ≡ t = cc in same) e
empty_turn c fold [] [] false number target t (b ∷ bytes) h e = plain_turn c number target t (let same : target ≡ t = cc in same) e
empty_turn c fold [] (x ∷ edges) skip number target t bytes h e = cc
empty_turn c fold (r ∷ stay) edges skip number target t bytes h e = cc

-- an empty instruction goes where it leads, and does nothing else
pub passes : (i : Instr) (c : Config) (t : ℕ) (bytes : List ℕ) → instr_past i ≡ Some t → rest_number i ≡ None →
    instr_turn i c bytes ≡ Goes (record { node = t; at = c.at; carried = 0; values = c.values; spans = c.spans }) 0 []
passes (Branch fold stay edges rest) c t bytes h e = empty_turn c fold stay edges rest.skip rest.number rest.target t bytes h e
passes (Invoke code answers other) c t bytes h e = cc
passes (Consume prop next) c t bytes h e = cc
passes (SpanOpen span next) c t bytes h e = cc
passes (SpanClose span next) c t bytes h e = cc
passes (Pause code reason next) c t bytes h e = cc
passes (Fail code reason) c t bytes h e = cc

-- what becomes of the place n of p in q, where its number is f n
pub data Renames (p q : Program) (f : ℕ → ℕ) (P : ℕ → ℕ → Type 0) (n : ℕ) : Type 0 where
  -- the state is there, and leads to what it led to
  stays : (s s' : State) → slice_get p.states n ≡ Some s → slice_get q.states (f n) ≡ Some s' → s'.instr ≡ mapped f s.instr →
      EachMove P s.instr → P n 0 → slice_get q.names s'.origin ≡ slice_get p.names s.origin → Renames p q f P n
  -- the state is empty, and has the number of the one that it leads to
  skips : (s : State) (t : ℕ) → slice_get p.states n ≡ Some s → instr_past s.instr ≡ Some t → rest_number s.instr ≡ None →
      f t ≡ f n → P t 0 → ((k : ℕ) → P n k → k ≡ 0) → Renames p q f P n
  -- there is no state
  lacks : slice_get p.states n ≡ None → slice_get q.states (f n) ≡ None → Renames p q f P n

module _ (p q : Program) (f : ℕ → ℕ) (P : ℕ → ℕ → Type 0) where
  abbrev bond : Bond
  bond = beside f P (StandsAlike p q)

  -- what is asked for of a turn
  abbrev Matched : Config → Config → List ℕ → Turn → Type 0
  Matched c d bytes t = Matches bond (program_turn q) c d bytes t

  one_turn : (c : Config) (bytes : List ℕ) (t u : Turn) → program_turn p c bytes ≡ t → program_turn q (stand_at c (f c.node)) bytes ≡ u →
      Mirrors bond c (stand_at c (f c.node)) t u → Matched c (stand_at c (f c.node)) bytes (program_turn p c bytes)
  one_turn c bytes t u e g h =
      subst (λ (x : Turn). Matched c (stand_at c (f c.node)) bytes x) (sym e)
      (mirrors_matches bond (program_turn q) c (stand_at c (f c.node)) bytes t (subst (λ (x : Turn). Mirrors bond c (stand_at c (f c.node)) t x) (sym g) h))

  renamed_turn : (c : Config) (bytes : List ℕ) → P c.node c.carried → Renames p q f P c.node → Matched c (stand_at c (f c.node)) bytes (program_turn p c bytes)
  renamed_turn c bytes there (stays s s' e g i each at name) =
      one_turn c bytes (instr_turn s.instr c bytes) (instr_turn (mapped f s.instr) (stand_at c (f c.node)) bytes)
      (ap (λ (x : Option State). state_turn x c bytes) e)
      (ap (λ (x : Option State). state_turn x (stand_at c (f c.node)) bytes) g ∙ ap (λ (x : Instr). instr_turn x (stand_at c (f c.node)) bytes) i)
      (instr_like f P (StandsAlike p q) c (λ x same. record {
        at = refl;
        values = refl;
        spans = refl;
        name = sym (ap (λ (n : ℕ). origin_name q.names (slice_get q.states (f n))) same ∙ ap (origin_name q.names) g ∙ name
            ∙ sym (ap (origin_name p.names) e) ∙ sym (ap (λ (n : ℕ). origin_name p.names (slice_get p.states n)) same));
        reason = sym (ap (λ (n : ℕ). state_reason (slice_get q.states (f n))) same ∙ ap state_reason g ∙ ap instr_reason i ∙ reason-mapped f s.instr
            ∙ sym (ap state_reason e) ∙ sym (ap (λ (n : ℕ). state_reason (slice_get p.states n)) same));
      }) s.instr bytes each at)
  renamed_turn c bytes there (skips s t e empty number same onto nothing) =
      let d : Config = record { node = t; at = c.at; carried = 0; values = c.values; spans = c.spans } in
      let goes : program_turn p c bytes ≡ Goes d 0 [] = ap (λ (x : Option State). state_turn x c bytes) e ∙ passes s.instr c t bytes empty number in
      let on : stand_at d (f t) ≡ stand_at c (f c.node) =
      ap (λ (x : ℕ). record d { node = x }) same ∙ ap (λ (x : ℕ). record c { node = f c.node; carried = x }) (sym (nothing c.carried there)) in
      subst (Matched c (stand_at c (f c.node)) bytes) (sym goes) (stand_at c (f c.node), here, (on, onto))
  renamed_turn c bytes there (lacks e g) =
      one_turn c bytes (Fails 0) (Fails 0) (ap (λ (x : Option State). state_turn x c bytes) e) (ap (λ (x : Option State). state_turn x (stand_at c (f c.node)) bytes) g) (
        refl,
        record {
          at = refl;
          values = refl;
          spans = refl;
          name = ap (origin_name p.names) e ∙ sym (ap (origin_name q.names) g);
          reason = ap state_reason e ∙ sym (ap state_reason g);
        },
      )

  renamed_simulates : ((n k : ℕ) → P n k → Renames p q f P n) → SimulatesTurns bond (program_turn p) (program_turn q)
  renamed_simulates each c d bytes h =
      subst (λ (x : Config). Matched c x bytes (program_turn p c bytes)) h.0 (renamed_turn c bytes h.1 (each c.node c.carried h.1))

  -- a program under other numbers keeps the runs
  pub renamed_keeps : ((n k : ℕ) → P n k → Renames p q f P n) → P p.entry 0 → q.entry ≡ f p.entry → q.spans ≡ p.spans → KeepsRuns p q
  renamed_keeps each first entry spans values bytes oracle resumes r m =
      let begin : ℕ → ℕ → Config = λ node n. record { node = node; at = 0; carried = 0; values = values; spans = replicate n None } in
      let same : stand_at (program_entry p values) (f p.entry) ≡ program_entry q values =
      ap (λ (x : ℕ). begin x (length p.spans)) (sym entry) ∙ ap (λ (x : List _). begin q.entry (length x)) (sym spans) in
      let found = simulates_means bond (program_turn p) (program_turn q) (renamed_simulates each) oracle
      (program_entry p values) (program_entry q values) bytes resumes r (same, first) m in
      (found.0, found.1, record { finish = found.2.finish; last = found.2.last })
