-- Programs whose states make the same turns.
use Rattle.std.proofs.Common.{subst, ◌≡◌, ℕ, List, Option, Some, None, refl, sym, ◌∙◌, ap, map, length, option_map, replicate}
use Rattle.std.specs.Prelude.{slice_get}
use Rattle.std.proofs.lemmas.Option.{slice_get-map}
use Rattle.pp_program.specs.declared.program.State.{State}
use Rattle.pp_program.specs.declared.program.Program.{Program}
use Rattle.pp_program.specs.States.{instr_turn, state_turn, program_turn, program_entry}
use Rattle.pp_event.specs.Run.{Config, Turn, Goes, Asks, Rests, Stops, Fails}
use Rattle.pp_event.specs.Simulates.{Bond, Mirrors, MirrorsTurns}
use Rattle.pp_event.proofs.SimulationLaws.{mirrors_simulates, simulates_means}
use Rattle.pp_lower.specs.Kept.{instr_reason, state_reason, origin_name}
use Rattle.pp_clean.specs.Keeps.{StandsAlike, KeepsRuns}

-- two runs that stand at the same configuration, and may end where this holds
abbrev equal : (Config → Config → Type 0) → Bond
equal close = record { meet = ◌≡◌; close = close }

-- a turn mirrors itself, where each configuration is bound to itself
pub mirrors_self : (bond : Bond) → ((c : Config) → bond.meet c c) → ((c : Config) → bond.close c c) → (c : Config) (t : Turn) → Mirrors bond c c t t
mirrors_self bond meets closes c (Goes d k items) = (d, refl, meets d)
mirrors_self bond meets closes c (Asks code value next) = (next, refl, refl, refl, λ answer. meets (next answer))
mirrors_self bond meets closes c (Rests d) = (d, refl, closes d)
mirrors_self bond meets closes c (Stops code d) = (d, refl, refl, closes c, meets d)
mirrors_self bond meets closes c (Fails code) = (refl, closes c)

module _ (p q : Program) where
  same_mirrors : ((c : Config) (bytes : List ℕ) → program_turn q c bytes ≡ program_turn p c bytes) → ((c : Config) → StandsAlike p q c c) →
      MirrorsTurns (equal (StandsAlike p q)) (program_turn p) (program_turn q)
  same_mirrors same stands c d bytes e =
      subst (λ (x : Config). Mirrors (equal (StandsAlike p q)) c x (program_turn p c bytes) (program_turn q x bytes)) e
      (subst (λ (t : Turn). Mirrors (equal (StandsAlike p q)) c c (program_turn p c bytes) t) (sym (same c bytes))
      (mirrors_self (equal (StandsAlike p q)) (λ d. refl) stands c (program_turn p c bytes)))

  -- a program whose turns, names and reasons are the same keeps the runs
  pub same_keeps : ((c : Config) (bytes : List ℕ) → program_turn q c bytes ≡ program_turn p c bytes) → ((c : Config) → StandsAlike p q c c) →
      q.entry ≡ p.entry → q.spans ≡ p.spans → KeepsRuns p q
  same_keeps same stands entry spans values bytes oracle resumes r m =
      let begin : ℕ → ℕ → Config = λ node n. record { node = node; at = 0; carried = 0; values = values; spans = replicate n None } in
      let first : program_entry p values ≡ program_entry q values =
      ap (λ (x : ℕ). begin x (length p.spans)) (sym entry) ∙ ap (λ (x : List _). begin q.entry (length x)) (sym spans) in
      let found = simulates_means (equal (StandsAlike p q)) (program_turn p) (program_turn q)
      (mirrors_simulates (equal (StandsAlike p q)) (program_turn p) (program_turn q) (same_mirrors same stands)) oracle
      (program_entry p values) (program_entry q values) bytes resumes r first m in
      (found.0, found.1, record { finish = found.2.finish; last = found.2.last })

module _ (p q : Program) (g : State → State) (states : q.states ≡ map g p.states) where
  pub state_is : (n : ℕ) (o : Option State) → slice_get p.states n ≡ o → slice_get q.states n ≡ option_map g o
  state_is n o e = ap (λ (l : List State). slice_get l n) states ∙ slice_get-map g p.states n ∙ ap (option_map g) e

  module _ (turns : (n : ℕ) (s : State) → slice_get p.states n ≡ Some s → (c : Config) (bytes : List ℕ) → instr_turn (g s).instr c bytes ≡ instr_turn s.instr c bytes) where
    turn_same : (n : ℕ) (o : Option State) → slice_get p.states n ≡ o → (c : Config) (bytes : List ℕ) → state_turn (option_map g o) c bytes ≡ state_turn o c bytes
    turn_same n None e c bytes = refl
    turn_same n (Some s) e c bytes = turns n s e c bytes

    -- a program whose states make the same turns makes them
    pub program_same : (c : Config) (bytes : List ℕ) → program_turn q c bytes ≡ program_turn p c bytes
    program_same c bytes =
        ap (λ (o : Option State). state_turn o c bytes) (state_is c.node (slice_get p.states c.node) refl) ∙ turn_same c.node (slice_get p.states c.node) refl c bytes

-- the state that stands in place of another one makes the same turns, and shows the same name and reason
pub record SameState (p q : Program) (g : State → State) (s : State) : Type 0 where
  pub turns : (c : Config) (bytes : List ℕ) → instr_turn (g s).instr c bytes ≡ instr_turn s.instr c bytes
  pub name : slice_get q.names (g s).origin ≡ slice_get p.names s.origin
  pub reason : instr_reason (g s).instr ≡ instr_reason s.instr

module _ (p q : Program) (g : State → State) (states : q.states ≡ map g p.states) (each : (n : ℕ) (s : State) → slice_get p.states n ≡ Some s → SameState p q g s) where
  name_same : (n : ℕ) (o : Option State) → slice_get p.states n ≡ o → origin_name q.names (option_map g o) ≡ origin_name p.names o
  name_same n None e = refl
  name_same n (Some s) e = (each n s e).name

  reason_same : (n : ℕ) (o : Option State) → slice_get p.states n ≡ o → state_reason (option_map g o) ≡ state_reason o
  reason_same n None e = refl
  reason_same n (Some s) e = (each n s e).reason

  -- a program of such states keeps the runs
  pub mapped_keeps : q.entry ≡ p.entry → q.spans ≡ p.spans → KeepsRuns p q
  mapped_keeps entry spans =
      same_keeps p q
      (program_same p q g states (λ n s e. (each n s e).turns))
      (λ c. record {
        at = refl;
        values = refl;
        spans = refl;
        name = sym (ap (origin_name q.names) (state_is p q g states c.node (slice_get p.states c.node) refl) ∙ name_same c.node (slice_get p.states c.node) refl);
        reason = sym (ap state_reason (state_is p q g states c.node (slice_get p.states c.node) refl) ∙ reason_same c.node (slice_get p.states c.node) refl);
      })
      entry spans
