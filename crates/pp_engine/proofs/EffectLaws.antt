-- What turns do to the open spans.
use Rattle.std.proofs.Common.{subst, ◌≡◌, ℕ, zero, suc, ◌+◌, ◌-◌, ◌≤◌, ◌<◌, ◌⊎◌, inl, inr, List, [], ◌∷◌, ◌++◌, Option, Some, None, Bool, true, false, cond, refl, sym, ◌∙◌, ap, arith, append-nil, length, set, leb, drop, length-drop}
use Rattle.std.specs.Prelude.{slice_get, slice_index, unwrap_or}
use Rattle.pp_bytes.specs.declared.fold.Fold.{Fold}
use Rattle.pp_bytes.specs.Fold.{folded}
use Rattle.pp_bytes.specs.Ranges.{in_ranges}
use Rattle.pp_event.specs.declared.item.Item.{Item}
use Rattle.pp_event.specs.declared.item.Item.TheVariants as item
use Rattle.pp_event.specs.Chain.{Move, On, Over, then, run_for}
use Rattle.pp_event.specs.Codes.{answered, effect_of}
use Rattle.pp_event.specs.Joined.{begun_after, joined_from, besides_pauses}
use Rattle.pp_event.specs.Told.{Told}
use Rattle.pp_event.specs.Pieces.{pieces}
use Rattle.pp_event.specs.Run.{Config, Turn, Goes, Asks, Rests, Stops, Fails, Oracle, Stage, RunResult, Waiting, Paused, Failed, move, move_by, pass}
use Rattle.pp_event.specs.Steady.{Keeps, Placed}
use Rattle.pp_event.specs.Turns.{Effect, AsksHost, Answers, Sets, slot, to, effect_turn, consumed, drained}
use Rattle.pp_event.proofs.JoinLaws.{joined_from-more, begun_after-more, besides-more}
use Rattle.pp_program.specs.declared.program.Edge.{Edge}
use Rattle.pp_program.specs.declared.program.Rest.{Rest}
use Rattle.pp_program.specs.declared.program.Instr.{Instr}
use Rattle.pp_program.specs.declared.program.Instr.TheVariants.{Branch, Invoke, Consume, SpanOpen, SpanClose, Pause, Fail}
use Rattle.pp_program.specs.declared.program.State.{State}
use Rattle.pp_program.specs.declared.program.Program.{Program}
use Rattle.pp_program.specs.Runnable.{InstrFits, IsRunnable, LeadsOnto, StandsRight}
use Rattle.pp_program.specs.States.{rest_turn, edge_turn, edge_on, is_empty_branch, branch_turn, instr_turn, program_turn}
use Rattle.pp_program.specs.Valid.{Sound, IsInstrAt}
use Rattle.pp_program.proofs.StateTurns.{program-steady, program-placed}
use Rattle.pp_engine.specs.Feeds.{Fits, parts_of}
use Rattle.pp_engine.specs.Sessions.{Begun}
use Rattle.pp_engine.proofs.AskLaws.{asked_of, asked_of-more, pieces-are}
use Rattle.pp_engine.proofs.FitLaws.{turn_at, instr_at, TurnFits, instr_fits}
use Rattle.pp_engine.proofs.JoinLaws.{begun_open, begun_close, joined_close, joined_parts, begun_parts}

-- a turn opens a span of the program that was shut, and tells nothing
pub record Opens (p : Program) (d e : Config) (told : List Item) : Type 0 where
  pub span : ℕ
  pub there : span < length p.spans
  pub told_is : told ≡ []
  pub spans : e.spans ≡ set d.spans span (Some d.at)
  pub shut : slot d.spans span ≡ None

-- a turn closes a span of the program, and tells it
pub record Closes (p : Program) (d e : Config) (told : List Item) : Type 0 where
  pub span : ℕ
  pub there : span < length p.spans
  pub told_is : told ≡ item.Span span (unwrap_or (slot d.spans span) d.at) d.at ∷ []
  pub spans : e.spans ≡ set d.spans span None

-- a turn leaves the spans as they were, and tells nothing
pub record SameSpans (d e : Config) (told : List Item) : Type 0 where
  pub told_is : told ≡ []
  pub spans : e.spans ≡ d.spans

module _ (p : Program) (d : Config) where
  -- what a turn does to the spans
  abbrev pub TurnSpans : Turn → Type 0
  TurnSpans (Goes e k told) = SameSpans d e told ⊎ (Opens p d e told ⊎ Closes p d e told)
  TurnSpans (Asks code value next) = (answer : ℕ) → (next answer).spans ≡ d.spans
  TurnSpans (Rests e) = e.spans ≡ d.spans
  TurnSpans (Stops code e) = Unit {0}
  TurnSpans (Fails code) = Unit {0}

  spans_if : (b : Bool) (t u : Turn) → TurnSpans t → TurnSpans u → TurnSpans (cond b t u)
  spans_if true t u h k = h
  spans_if false t u h k = k

  plain : (e : Config) → e.spans ≡ d.spans → SameSpans d e [] ⊎ (Opens p d e [] ⊎ Closes p d e [])
  plain e h = inl (record { told_is = refl; spans = h })

  edge_spans : (rest : Rest) (e : Option Edge) → TurnSpans (edge_turn d rest e)
  edge_spans rest None = plain _ refl
  edge_spans rest (Some e) = plain _ refl

  branch_spans : (fold : Fold) (stay : List (ℕ × ℕ)) (edges : List Edge) (rest : Rest) (bytes : List ℕ) → TurnSpans (branch_turn d fold stay edges rest bytes)
  branch_spans fold stay edges rest [] = spans_if (is_empty_branch stay edges rest) (rest_turn d rest) (Rests (record d { carried = 0 })) (plain _ refl) refl
  branch_spans fold stay edges rest (b ∷ bytes) =
      spans_if (in_ranges stay b) (to d d.node 1 0) (edge_turn d rest (edge_on (folded fold b) edges)) (plain _ refl)
      (edge_spans rest (edge_on (folded fold b) edges))

  effect_spans : (edge : ℕ → ℕ) (x : Effect) → TurnSpans (effect_turn d edge x)
  effect_spans edge (AsksHost host) = λ answer. refl
  effect_spans edge (Answers answer) = plain _ refl
  effect_spans edge (Sets prop value) = plain _ refl

  -- each instruction does one of these
  pub instr_spans : (i : Instr) (rest : List ℕ) → InstrFits p i → ((s next : ℕ) → i ≡ SpanOpen s next → slot d.spans s ≡ None) → TurnSpans (instr_turn i d rest)
  instr_spans (Branch fold stay edges other) rest f h = branch_spans fold stay edges other rest
  instr_spans (Invoke c answers other) rest f h = effect_spans (answered answers other) (effect_of d.values d.carried c)
  instr_spans (Consume q next) rest f h =
      spans_if (leb (slice_index d.values q) (length rest)) (Goes (consumed d q next (slice_index d.values q)) (slice_index d.values q) [])
      (Rests (drained d q (slice_index d.values q) (length rest))) (plain _ refl) refl
  instr_spans (SpanOpen s next) rest f h = inr (inl (record { span = s; there = f.0; told_is = refl; spans = refl; shut = h s next refl }))
  instr_spans (SpanClose s next) rest f h = inr (inr (record { span = s; there = f.0; told_is = refl; spans = refl }))
  instr_spans (Pause code reason next) rest f h = tt
  instr_spans (Fail code reason) rest f h = tt

-- a place below the count of states has one
pub state_at : (states : List State) (n : ℕ) → n < length states → (s : State) × (slice_get states n ≡ Some s)
state_at [] n h = absurd (omega arith)
state_at (s ∷ states) zero h = (s, refl)
state_at (s ∷ states) (suc n) h = state_at states n (omega arith)

-- the slot of an open span
pub unslot : (spans : List (Option ℕ)) (s : ℕ) (from : ℕ) → slot spans s ≡ Some from → slice_get spans s ≡ Some (Some from)
unslot spans s from h = go (slice_get spans s) refl h
  where
    go : (o : Option (Option ℕ)) → slice_get spans s ≡ o → unwrap_or o None ≡ Some from → slice_get spans s ≡ Some (Some from)
    go None e h = cc
    go (Some x) e h = e ∙ ap Some h

slot_below : (p : Program) (d : Config) (s : ℕ) → Fits p d → unwrap_or (slot d.spans s) d.at ≤ d.at
slot_below p d s f = go (slot d.spans s) refl
  where
    go : (x : Option ℕ) → slot d.spans s ≡ x → unwrap_or x d.at ≤ d.at
    go None e = omega arith
    go (Some from) e = f.open_below s from (unslot d.spans s from e)

module _ (v : Sound) (good : IsRunnable v) (begun : List (Option ℕ)) (o : ℕ) (w : List ℕ) where
  -- the events so far, joined, are the items so far
  pub record Joining (s : Stage) : Type 0 where
    pub items : joined_from begun (asked_of o w s.items) ≡ besides_pauses s.items
    pub begun_is : Begun (begun_after begun (asked_of o w s.items)) s.config.spans o
    pub place : s.config.at + length s.rest ≡ o + length w
    pub least : o ≤ s.config.at
    pub fits : Fits v.program s.config
    pub right : StandsRight v.program s.config
    pub resumes : s.resumes ≡ 0

  -- what the events of a whole run, joined, are
  pub record JoinedEnd (r : RunResult) : Type 0 where
    pub items : joined_from begun (pieces r.last.items o r w) ≡ besides_pauses r.last.items
    pub begun_is : (r.finish ≡ Waiting) ⊎ ((code : ℕ) × (r.finish ≡ Paused code)) → Begun (begun_after begun (pieces r.last.items o r w)) r.last.config.spans r.last.config.at
    pub right : StandsRight v.program r.last.config
    pub resumes : r.last.resumes ≡ 0
    pub waits : r.finish ≡ Waiting → r.last.rest ≡ []

  -- items that give these events
  tell : (items told : List Item) → joined_from begun (asked_of o w items) ≡ besides_pauses items →
      joined_from (begun_after begun (asked_of o w items)) (asked_of o w told) ≡ besides_pauses told → joined_from begun (asked_of o w (items ++ told)) ≡ besides_pauses (items ++ told)
  tell items told h k =
      ap (joined_from begun) (asked_of-more o w items told)
      ∙ joined_from-more begun (asked_of o w items) (asked_of o w told)
      ∙ ap (λ (l : List Item). l ++ joined_from (begun_after begun (asked_of o w items)) (asked_of o w told)) h
      ∙ ap (λ (l : List Item). besides_pauses items ++ l) k
      ∙ sym (besides-more items told)

  begun_tell : (items told : List Item) → begun_after begun (asked_of o w (items ++ told)) ≡ begun_after (begun_after begun (asked_of o w items)) (asked_of o w told)
  begun_tell items told = ap (begun_after begun) (asked_of-more o w items told) ∙ begun_after-more begun (asked_of o w items) (asked_of o w told)

  -- what a move leads to is so as well
  abbrev pub MoveJoins : Move Stage RunResult → Type 0
  MoveJoins (On d) = Joining d
  MoveJoins (Over r) = JoinedEnd r

  module _ (oracle : Oracle) (s : Stage) (j : Joining s) where
    b : List (Option ℕ)
    b = begun_after begun (asked_of o w s.items)

    -- the spans and items after a turn
    pub record Told1 (e : Config) (told : List Item) : Type 0 where
      pub items : joined_from begun (asked_of o w (s.items ++ told)) ≡ besides_pauses (s.items ++ told)
      pub begun_is : Begun (begun_after begun (asked_of o w (s.items ++ told))) e.spans o

    keeps : (e : Config) (told : List Item) → SameSpans s.config e told → Told1 e told
    keeps e told k =
        subst (Told1 e) (sym k.told_is) (record {
          items = tell s.items [] j.items refl;
          begun_is = subst (λ (l : List (Option ℕ)). Begun l e.spans o) (sym (begun_tell s.items []))
              (subst (λ (l : List (Option ℕ)). Begun (begun_after begun (asked_of o w s.items)) l o) (sym k.spans) j.begun_is);
        })

    opened : (e : Config) (told : List Item) → Opens v.program s.config e told → Told1 e told
    opened e told k =
        subst (Told1 e) (sym k.told_is) (record {
          items = tell s.items [] j.items refl;
          begun_is = subst (λ (l : List (Option ℕ)). Begun l e.spans o) (sym (begun_tell s.items []))
              (subst (λ (l : List (Option ℕ)). Begun (begun_after begun (asked_of o w s.items)) l o) (sym k.spans)
              (begun_open (begun_after begun (asked_of o w s.items)) s.config.spans o k.span s.config.at j.begun_is j.least (let n : k.span < length v.program.spans = k.there in omega (arith, j.fits.spans)) k.shut));
        })

    closed : (e : Config) (told : List Item) → Closes v.program s.config e told → Told1 e told
    closed e told k =
        let n : k.span < length v.program.spans = k.there in
        let place : s.config.at ≤ o + length w = omega (arith, j.place) in
        let one : List Item = item.Span k.span (unwrap_or (slot s.config.spans k.span) s.config.at) s.config.at ∷ [] in
        subst (Told1 e) (sym k.told_is) (record {
          items = tell s.items one j.items
              (joined_close (begun_after begun (asked_of o w s.items)) s.config.spans o w k.span s.config.at j.begun_is j.least place (slot_below v.program s.config k.span j.fits));
          begun_is = subst (λ (l : List (Option ℕ)). Begun l e.spans o) (sym (begun_tell s.items one))
              (subst (λ (l : List (Option ℕ)). Begun (set (begun_after begun (asked_of o w s.items)) k.span None) l o) (sym k.spans)
              (begun_close (begun_after begun (asked_of o w s.items)) s.config.spans o k.span j.begun_is (omega (arith, good.limits.spans)) (omega (arith, j.fits.spans))));
        })

    told_by : (e : Config) (told : List Item) → SameSpans s.config e told ⊎ (Opens v.program s.config e told ⊎ Closes v.program s.config e told) → Told1 e told
    told_by e told (inl k) = keeps e told k
    told_by e told (inr (inl k)) = opened e told k
    told_by e told (inr (inr k)) = closed e told k

    onward : (e : Config) → LeadsOnto (program_turn v.program s.config s.rest) e → StandsRight v.program e
    onward e onto = good.spans.kept s.config e s.rest j.right onto

    paused_end : (code : ℕ) → JoinedEnd (record { finish = Paused code; last = record { config = s.config; rest = s.rest; items = s.items ++ item.Pause code s.config.at ∷ []; resumes = s.resumes } })
    paused_end code =
        let told : List Item = item.Pause code s.config.at ∷ [] in
        let ps : List Told = parts_of o w s.config.at 0 s.config.spans in
        let place : s.config.at ≤ o + length w = omega (arith, j.place) in
        let r : RunResult = record { finish = Paused code; last = record { config = s.config; rest = s.rest; items = s.items ++ told; resumes = s.resumes } } in
        let all : pieces (s.items ++ told) o r w ≡ asked_of o w (s.items ++ told) ++ ps = pieces-are (s.items ++ told) o r w in record {
          items = ap (joined_from begun) all
              ∙ joined_from-more begun (asked_of o w (s.items ++ told)) ps
              ∙ ap (λ (l : List Item). joined_from begun (asked_of o w (s.items ++ told)) ++ l) (joined_parts o w s.config.at 0 s.config.spans _)
              ∙ append-nil _
              ∙ tell s.items told j.items refl;
          begun_is = λ h. subst (λ (l : List (Option ℕ)). Begun l s.config.spans s.config.at) (sym (ap (begun_after begun) all ∙ begun_after-more begun (asked_of o w (s.items ++ told)) ps))
              (subst (λ (l : List (Option ℕ)). Begun (begun_after l ps) s.config.spans s.config.at) (sym (begun_tell s.items told))
              (begun_parts o w s.config.at j.least (begun_after begun (asked_of o w s.items)) s.config.spans j.begun_is (omega (arith, j.fits.spans, good.limits.spans))));
          right = j.right;
          resumes = j.resumes;
          waits = λ h. cc;
        }

    rests_end : (e : Config) → program_turn v.program s.config s.rest ≡ Rests e → e.spans ≡ s.config.spans → e.at ≡ s.config.at + length s.rest →
        JoinedEnd (record { finish = Waiting; last = record { config = e; rest = []; items = s.items; resumes = s.resumes } })
    rests_end e t h a =
        let ps : List Told = parts_of o w e.at 0 e.spans in
        let r : RunResult = record { finish = Waiting; last = record { config = e; rest = []; items = s.items; resumes = s.resumes } } in
        let all : pieces s.items o r w ≡ asked_of o w s.items ++ ps = pieces-are s.items o r w in
        let least : o ≤ e.at = omega (arith, j.least) in
        let count : length e.spans ≤ 32 = omega (arith, ap length h, j.fits.spans, good.limits.spans) in record {
          items = ap (joined_from begun) all
              ∙ joined_from-more begun (asked_of o w s.items) ps
              ∙ ap (λ (l : List Item). joined_from begun (asked_of o w s.items) ++ l) (joined_parts o w e.at 0 e.spans _)
              ∙ append-nil _
              ∙ j.items;
          begun_is = λ q. subst (λ (l : List (Option ℕ)). Begun l e.spans e.at) (sym (ap (begun_after begun) all ∙ begun_after-more begun (asked_of o w s.items) ps))
              (begun_parts o w e.at least (begun_after begun (asked_of o w s.items)) e.spans
              (subst (λ (l : List (Option ℕ)). Begun (begun_after begun (asked_of o w s.items)) l o) (sym h) j.begun_is) count);
          right = onward e (subst (λ (x : Turn). LeadsOnto x e) (sym t) refl);
          resumes = j.resumes;
          waits = λ q. refl;
        }

    move_joins : (t : Turn) → program_turn v.program s.config s.rest ≡ t → TurnSpans v.program s.config t → TurnFits v.program t → Placed s.config (length s.rest) t →
        Keeps (length s.rest) t (program_turn v.program s.config (s.rest ++ [])) → MoveJoins (move_by oracle s t)
    move_joins (Goes e k told) t ef f pl kp =
        let r = told_by e told ef in
        let n : k ≤ length s.rest = kp.0 in
        let d : length (drop k s.rest) ≡ length s.rest - k = length-drop k s.rest in
        let a : e.at ≡ s.config.at + k = pl in record {
          items = r.items;
          begun_is = r.begun_is;
          place = omega (arith, j.place);
          least = omega (arith, j.least);
          fits = f;
          right = onward e (subst (λ (x : Turn). LeadsOnto x e) (sym t) refl);
          resumes = j.resumes;
        }
    move_joins (Asks code value next) t ef f pl kp =
        let answer : ℕ = oracle s.items code in
        let told : List Item = item.Call code value s.config.at s.config.values answer ∷ [] in
        let a : (next answer).at ≡ s.config.at = pl answer in record {
          items = tell s.items told j.items refl;
          begun_is = subst (λ (l : List (Option ℕ)). Begun l (next answer).spans o) (sym (begun_tell s.items told))
              (subst (λ (l : List (Option ℕ)). Begun (begun_after begun (asked_of o w s.items)) l o) (sym (ef answer)) j.begun_is);
          place = omega (arith, j.place);
          least = omega (arith, j.least);
          fits = f answer;
          right = onward (next answer) (subst (λ (x : Turn). LeadsOnto x (next answer)) (sym t) (answer, refl));
          resumes = j.resumes;
        }
    move_joins (Rests e) t ef f pl kp = rests_end e t ef pl
    move_joins (Stops code e) t ef f pl kp = subst (λ (n : ℕ). MoveJoins (pass s code e n)) (sym j.resumes) (paused_end code)
    move_joins (Fails code) t ef f pl kp = record {
      items = ap (joined_from begun) (pieces-are s.items o (record { finish = Failed code; last = s }) w ∙ append-nil (asked_of o w s.items)) ∙ j.items;
      begun_is = λ q. elim q [ inl a ↦ cc | inr a ↦ cc (a.1) ];
      right = j.right;
      resumes = j.resumes;
      waits = λ h. cc;
    }

    -- each move keeps it
    pub joins : MoveJoins (move (program_turn v.program) oracle s)
    joins =
        let st = state_at v.program.states s.config.node j.fits.node in
        let at : IsInstrAt v.program.states s.config.node st.0.instr = (st.0, st.1, refl) in
        let fits : InstrFits v.program st.0.instr = instr_at v good s.config.node st.0.instr at in
        let t : program_turn v.program s.config s.rest ≡ instr_turn st.0.instr s.config s.rest = turn_at v.program s.config s.rest st.0.instr at in
        let shut : (k next : ℕ) → st.0.instr ≡ SpanOpen k next → slot s.config.spans k ≡ None = λ k next e. good.spans.opens_shut s.config k next j.right (st.0, st.1, e) in
        move_joins (program_turn v.program s.config s.rest) refl
        (subst (TurnSpans v.program s.config) (sym t) (instr_spans v.program s.config st.0.instr s.rest fits shut))
        (subst (TurnFits v.program) (sym t) (instr_fits v.program s.config j.fits st.0.instr s.rest fits))
        (program-placed v.program s.config s.rest) (program-steady v.program s.config s.rest [])

  joins_then : (f : Stage → Option RunResult) (r : RunResult) → ((s : Stage) → f s ≡ Some r → Joining s → JoinedEnd r) → (v : Move Stage RunResult) → MoveJoins v → then f v ≡ Some r → JoinedEnd r
  joins_then f r go (On s) j q = go s q j
  joins_then f r go (Over x) j q = (let same : x ≡ r = cc in subst JoinedEnd same j)

  -- the events of a run, joined, are its items
  pub joins_for : (oracle : Oracle) (n : ℕ) (s : Stage) (r : RunResult) → run_for (move (program_turn v.program) oracle) n s ≡ Some r → Joining s → JoinedEnd r
  joins_for oracle zero s r q j = cc
  joins_for oracle (suc n) s r q j = joins_then (run_for (move (program_turn v.program) oracle) n) r (λ d e. joins_for oracle n d r e) (move (program_turn v.program) oracle s) (joins oracle s j) q
