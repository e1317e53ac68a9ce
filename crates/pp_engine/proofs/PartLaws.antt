-- In a feed the parts of open spans are the bytes of the string.
use Rattle.std.proofs.Common.{subst, ◌≡◌, ℕ, zero, suc, ◌+◌, ◌≤◌, ◌<◌, ◌⊎◌, inl, inr, List, [], ◌∷◌, ◌++◌, Option, Some, None, Bool, true, false, cond, refl, sym, ◌∙◌, ap, arith, append-nil, length, drop, eqb}
use Rattle.std.specs.Prelude.{unwrap_or}
use Rattle.std.proofs.lemmas.Bool.{eqb-true, eqb-false, le-ltb}
use Rattle.std.proofs.lemmas.List.{drop-drop}
use Rattle.pp_event.specs.declared.item.Item.{Item}
use Rattle.pp_event.specs.declared.item.Item.TheVariants as item
use Rattle.pp_event.specs.Chain.{Move, On, Over, then, run_for}
use Rattle.pp_event.specs.Pieces.{pieces}
use Rattle.pp_event.specs.Run.{Config, Turn, Goes, Asks, Rests, Stops, Fails, Oracle, Stage, RunResult, Waiting, Paused, move, move_by, pass}
use Rattle.pp_event.specs.Steady.{Placed}
use Rattle.pp_event.specs.Told.{Told}
use Rattle.pp_event.specs.Turns.{slot}
use Rattle.pp_event.proofs.JoinLaws.{slot-same, slot-other}
use Rattle.pp_program.specs.declared.program.Instr.TheVariants.{SpanOpen}
use Rattle.pp_program.specs.Runnable.{InstrFits, IsRunnable}
use Rattle.pp_program.specs.States.{instr_turn, program_turn}
use Rattle.pp_program.specs.Valid.{Sound, IsInstrAt}
use Rattle.pp_program.proofs.StateTurns.{program-placed}
use Rattle.pp_engine.specs.Feeds.{Fits, parts_of}
use Rattle.pp_engine.specs.Parted.{parts_after, IsParted}
use Rattle.pp_engine.specs.Sessions.{earlier_than}
use Rattle.pp_engine.proofs.AskLaws.{asked_of, asked_of-more, pieces-are}
use Rattle.pp_engine.proofs.FitLaws.{turn_at, instr_at, TurnFits, instr_fits}
use Rattle.pp_engine.proofs.EffectLaws.{SameSpans, Opens, Closes, TurnSpans, instr_spans, state_at, unslot, Joining, MoveJoins, joins}
use Rattle.pp_engine.proofs.TileLaws.{parts_after-more, parts_here, parted_end}

module _ (v : Sound) (good : IsRunnable v) (begun : List (Option ℕ)) (o : ℕ) (w str : List ℕ) (held : ℕ → List (ℕ × List ℕ)) (str_is : drop o str ≡ w) where
  -- so far in a feed, each open span's pieces are the bytes up to the feed's beginning, with what was told since
  pub record Parting (s : Stage) : Type 0 where
    pub joining : Joining v good begun o w s
    pub each : (i : ℕ) → IsParted str (earlier_than o (slot s.config.spans i)) o (parts_after i (held i) (asked_of o w s.items))
    pub left : drop s.config.at str ≡ s.rest

  -- at its end they are the bytes up to where the run ended
  pub record PartedEnd (r : RunResult) : Type 0 where
    pub each : (r.finish ≡ Waiting) ⊎ ((code : ℕ) × (r.finish ≡ Paused code)) → (i : ℕ) → IsParted str (slot r.last.config.spans i) r.last.config.at (parts_after i (held i) (pieces r.last.items o r w))
    pub left : drop r.last.config.at str ≡ r.last.rest
    pub within : r.last.config.at ≤ o + length w

  -- what a move leads to is so as well
  abbrev MoveParts : Move Stage RunResult → Type 0
  MoveParts (On d) = Parting d
  MoveParts (Over r) = PartedEnd r

  -- the parts behind more items
  tell : (i : ℕ) (items told : List Item) → parts_after i (held i) (asked_of o w (items ++ told)) ≡ parts_after i (parts_after i (held i) (asked_of o w items)) (asked_of o w told)
  tell i items told = ap (parts_after i (held i)) (asked_of-more o w items told) ∙ parts_after-more i (held i) (asked_of o w items) (asked_of o w told)

  module _ (oracle : Oracle) (s : Stage) (q : Parting s) where
    abbrev EachAt : Config → List Item → Type 0
    EachAt e told = (i : ℕ) → IsParted str (earlier_than o (slot e.spans i)) o (parts_after i (held i) (asked_of o w (s.items ++ told)))

    -- nothing was told of spans
    same : (e : Config) (told : List Item) → ((i : ℕ) (l : List (ℕ × List ℕ)) → parts_after i l (asked_of o w told) ≡ l) → e.spans ≡ s.config.spans → EachAt e told
    same e told n h i =
        subst (IsParted str (earlier_than o (slot e.spans i)) o) (sym (tell i s.items told ∙ n i (parts_after i (held i) (asked_of o w s.items))))
        (subst (λ (l : List (Option ℕ)). IsParted str (earlier_than o (slot l i)) o (parts_after i (held i) (asked_of o w s.items))) (sym h) (q.each i))

    opened : (e : Config) (told : List Item) → Opens v.program s.config e told → EachAt e told
    opened e told k = subst (EachAt e) (sym k.told_is) (λ i. subst (IsParted str (earlier_than o (slot e.spans i)) o) (sym (tell i s.items [])) (at i (eqb k.span i) refl))
      where
        at : (i : ℕ) (b : Bool) → eqb k.span i ≡ b → IsParted str (earlier_than o (slot e.spans i)) o (parts_after i (held i) (asked_of o w s.items))
        at i true b =
            let here : k.span ≡ i = eqb-true k.span i b in
            let n : k.span < length v.program.spans = k.there in
            let new : slot e.spans k.span ≡ Some s.config.at = ap (λ (l : List (Option ℕ)). slot l k.span) k.spans ∙ slot-same s.config.spans k.span (Some s.config.at) (omega (arith, q.joining.fits.spans)) in
            let none : earlier_than o (slot e.spans k.span) ≡ None = ap (earlier_than o) new ∙ ap (λ (x : Bool). cond x (Some s.config.at) None) (le-ltb s.config.at o q.joining.least) in
            let before : earlier_than o (slot s.config.spans k.span) ≡ None = ap (earlier_than o) k.shut in
            subst (λ (j : ℕ). IsParted str (earlier_than o (slot e.spans j)) o (parts_after j (held j) (asked_of o w s.items))) here
            (subst (λ (x : Option ℕ). IsParted str x o (parts_after k.span (held k.span) (asked_of o w s.items))) (before ∙ sym none) (q.each k.span))
        at i false b =
            let other : slot e.spans i ≡ slot s.config.spans i = ap (λ (l : List (Option ℕ)). slot l i) k.spans ∙ slot-other s.config.spans k.span i (Some s.config.at) (eqb-false k.span i b) in
            subst (λ (x : Option ℕ). IsParted str (earlier_than o x) o (parts_after i (held i) (asked_of o w s.items))) (sym other) (q.each i)

    closed : (e : Config) (told : List Item) → Closes v.program s.config e told → EachAt e told
    closed e told k = subst (EachAt e) (sym k.told_is) (λ i. subst (IsParted str (earlier_than o (slot e.spans i)) o) (sym (tell i s.items one)) (at i (eqb k.span i) refl))
      where
        one : List Item
        one = item.Span k.span (unwrap_or (slot s.config.spans k.span) s.config.at) s.config.at ∷ []

        at : (i : ℕ) (b : Bool) → eqb k.span i ≡ b → IsParted str (earlier_than o (slot e.spans i)) o (cond (eqb k.span i) [] (parts_after i (held i) (asked_of o w s.items)))
        at i true b =
            let here : k.span ≡ i = eqb-true k.span i b in
            let n : k.span < length v.program.spans = k.there in
            let new : slot e.spans k.span ≡ None = ap (λ (l : List (Option ℕ)). slot l k.span) k.spans ∙ slot-same s.config.spans k.span None (omega (arith, q.joining.fits.spans)) in
            let gone : slot e.spans i ≡ None = ap (slot e.spans) (sym here) ∙ new in
            subst (λ (x : Option ℕ). IsParted str (earlier_than o x) o (cond (eqb k.span i) [] (parts_after i (held i) (asked_of o w s.items)))) (sym gone)
            (ap (λ (x : Bool). cond x [] (parts_after i (held i) (asked_of o w s.items))) b)
        at i false b =
            let other : slot e.spans i ≡ slot s.config.spans i = ap (λ (l : List (Option ℕ)). slot l i) k.spans ∙ slot-other s.config.spans k.span i None (eqb-false k.span i b) in
            subst (λ (x : Option ℕ). IsParted str (earlier_than o x) o (cond (eqb k.span i) [] (parts_after i (held i) (asked_of o w s.items)))) (sym other)
            (subst (λ (x : Bool). IsParted str (earlier_than o (slot s.config.spans i)) o (cond x [] (parts_after i (held i) (asked_of o w s.items)))) (sym b) (q.each i))

    told_by : (e : Config) (told : List Item) → SameSpans s.config e told ⊎ (Opens v.program s.config e told ⊎ Closes v.program s.config e told) → EachAt e told
    told_by e told (inl k) = subst (EachAt e) (sym k.told_is) (same e [] (λ i l. refl) k.spans)
    told_by e told (inr (inl k)) = opened e told k
    told_by e told (inr (inr k)) = closed e told k

    -- the end of a feed at e, whose spans are those of the stage
    end_at : (e : Config) (told : List Item) → Fits v.program e → o ≤ e.at → e.at ≤ o + length w → EachAt e told →
        (i : ℕ) → IsParted str (slot e.spans i) e.at (parts_after i (held i) (asked_of o w (s.items ++ told) ++ parts_of o w e.at 0 e.spans))
    end_at e told f n m each i =
        let h : List (ℕ × List ℕ) = parts_after i (held i) (asked_of o w (s.items ++ told)) in
        subst (IsParted str (slot e.spans i) e.at)
        (sym (parts_after-more i (held i) (asked_of o w (s.items ++ told)) (parts_of o w e.at 0 e.spans)
        ∙ ap (λ (k : ℕ). parts_after k h (parts_of o w e.at 0 e.spans)) (let z : i ≡ 0 + i = omega arith in z)
        ∙ parts_here o w e.at e.spans 0 i h))
        (parted_end str w o e.at h (slot e.spans i) (λ from x. f.open_below i from (unslot e.spans i from x)) n m str_is (each i))

    at_in : s.config.at ≤ o + length w
    at_in = omega (arith, q.joining.place)

    drop_all : (l : List ℕ) → drop (length l) l ≡ []
    drop_all [] = refl
    drop_all (x ∷ l) = drop_all l

    move_parts : (t : Turn) → program_turn v.program s.config s.rest ≡ t → TurnSpans v.program s.config t → TurnFits v.program t → Placed s.config (length s.rest) t → MoveJoins v good begun o w (move_by oracle s t) →
        MoveParts (move_by oracle s t)
    move_parts (Goes e k told) t ef f pl j =
        let a : e.at ≡ s.config.at + k = pl in record {
          joining = j;
          each = told_by e told ef;
          left = ap (λ (n : ℕ). drop n str) a ∙ sym (drop-drop k s.config.at str) ∙ ap (drop k) q.left;
        }
    move_parts (Asks code value next) t ef f pl j =
        let answer : ℕ = oracle s.items code in record {
          joining = j;
          each = same (next answer) (item.Call code value s.config.at s.config.values answer ∷ []) (λ i l. refl) (ef answer);
          left = ap (λ (n : ℕ). drop n str) (pl answer) ∙ q.left;
        }
    move_parts (Rests e) t ef f pl j =
        let a : e.at ≡ s.config.at + length s.rest = pl in
        let n : o ≤ e.at = omega (arith, q.joining.least) in
        let m : e.at ≤ o + length w = omega (arith, q.joining.place) in
        let r : RunResult = record { finish = Waiting; last = record { config = e; rest = []; items = s.items; resumes = s.resumes } } in
        let all : pieces s.items o r w ≡ asked_of o w s.items ++ parts_of o w e.at 0 e.spans = pieces-are s.items o r w in record {
          each = λ h k. subst (λ (l : List Told). IsParted str (slot e.spans k) e.at (parts_after k (held k) l)) (sym all)
              (subst (λ (l : List Item). IsParted str (slot e.spans k) e.at (parts_after k (held k) (asked_of o w l ++ parts_of o w e.at 0 e.spans))) (append-nil s.items)
              (end_at e [] f n m (same e [] (λ z l. refl) ef) k));
          left = ap (λ (z : ℕ). drop z str) a ∙ sym (drop-drop (length s.rest) s.config.at str) ∙ ap (drop (length s.rest)) q.left ∙ drop_all s.rest;
          within = m;
        }
    move_parts (Stops code e) t ef f pl j =
        let told : List Item = item.Pause code s.config.at ∷ [] in
        let r : RunResult = record { finish = Paused code; last = record { config = s.config; rest = s.rest; items = s.items ++ told; resumes = 0 } } in
        let all : pieces (s.items ++ told) o r w ≡ asked_of o w (s.items ++ told) ++ parts_of o w s.config.at 0 s.config.spans = pieces-are (s.items ++ told) o r w in
        subst (λ (n : ℕ). MoveParts (pass s code e n)) (sym q.joining.resumes) (record {
          each = λ h k. subst (λ (l : List Told). IsParted str (slot s.config.spans k) s.config.at (parts_after k (held k) l)) (sym all)
              (end_at s.config told q.joining.fits q.joining.least at_in (same s.config told (λ z l. refl) refl) k);
          left = q.left;
          within = at_in;
        })
    move_parts (Fails code) t ef f pl j = record { each = λ h. elim h [ inl a ↦ cc | inr a ↦ cc (a.1) ]; left = q.left; within = at_in }

    -- each move keeps it
    moves_parts : MoveParts (move (program_turn v.program) oracle s)
    moves_parts =
        let st = state_at v.program.states s.config.node q.joining.fits.node in
        let at : IsInstrAt v.program.states s.config.node st.0.instr = (st.0, st.1, refl) in
        let fits : InstrFits v.program st.0.instr = instr_at v good s.config.node st.0.instr at in
        let t : program_turn v.program s.config s.rest ≡ instr_turn st.0.instr s.config s.rest = turn_at v.program s.config s.rest st.0.instr at in
        let shut : (k next : ℕ) → st.0.instr ≡ SpanOpen k next → slot s.config.spans k ≡ None = λ k next e. good.spans.opens_shut s.config k next q.joining.right (st.0, st.1, e) in
        move_parts (program_turn v.program s.config s.rest) refl
        (subst (TurnSpans v.program s.config) (sym t) (instr_spans v.program s.config st.0.instr s.rest fits shut))
        (subst (TurnFits v.program) (sym t) (instr_fits v.program s.config q.joining.fits st.0.instr s.rest fits))
        (program-placed v.program s.config s.rest) (joins v good begun o w oracle s q.joining)

  parts_then : (f : Stage → Option RunResult) (r : RunResult) → ((s : Stage) → f s ≡ Some r → Parting s → PartedEnd r) → (v : Move Stage RunResult) → MoveParts v → then f v ≡ Some r → PartedEnd r
  parts_then f r go (On s) j q = go s q j
  parts_then f r go (Over x) j q = (let e : x ≡ r = cc in subst PartedEnd e j)

  -- the parts at the end of a run
  pub parts_for : (oracle : Oracle) (n : ℕ) (s : Stage) (r : RunResult) → run_for (move (program_turn v.program) oracle) n s ≡ Some r → Parting s → PartedEnd r
  parts_for oracle zero s r q j = cc
  parts_for oracle (suc n) s r q j = parts_then (run_for (move (program_turn v.program) oracle) n) r (λ d e. parts_for oracle n d r e) (move (program_turn v.program) oracle s) (moves_parts oracle s j) q
