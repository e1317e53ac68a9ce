-- The items that a connection tells are those of its run.
use Rattle.std.proofs.Common.{◌≡◌, ℕ, zero, suc, ◌+◌, arith, List, [], ◌∷◌, ◌++◌, Bool, true, false, refl, sym, ◌∙◌, ap, subst, length, drop, append-nil, append_assoc}
use Rattle.std.proofs.Math.Seq.{drop-append_seam}
use Rattle.std.proofs.lemmas.List.{append_cancel_left}
use Rattle.std.proofs.lemmas.List.Elements.{All-head, All-tail}
use Rattle.pp_capture.specs.Spelling.{Record, Begins, Carries, Resumes, Finishes, Halts}
use Rattle.pp_event.specs.declared.item.Item.{Item}
use Rattle.pp_event.specs.declared.script.ScriptEntry.{ScriptEntry}
use Rattle.pp_event.specs.Growth.{Extends}
use Rattle.pp_event.specs.Loops.{AreBytes}
use Rattle.pp_event.specs.Run.{Finish, Waiting, Paused, Failed}
use Rattle.pp_event.specs.Runs.{script_fits}
use Rattle.pp_trace.specs.Subject.{Subject, Seen}
use Rattle.pp_trace.specs.Connection.{Connection, advanced, carried, counted}
use Rattle.pp_trace.specs.declared.mode.Mode.{Mode}
use Rattle.pp_trace.specs.Growth.{Longer, OnceMore, Grow}
use Rattle.pp_trace.specs.Coherent.{Coherent}
use Rattle.pp_trace.specs.Cuts.{news, next, behind, items_told, TellsTheRun, CutsChangeNothing}
use Rattle.pp_trace.proofs.StepLaws.{Core, core, moved, step-core}

-- two lists of bytes in a row
pub bytes_append : (xs ys : List ℕ) → AreBytes xs → AreBytes ys → AreBytes (xs ++ ys)
bytes_append [] ys h k i = k i
bytes_append (x ∷ xs) ys h k zero = h 0
bytes_append (x ∷ xs) ys h k (suc i) = bytes_append xs ys (λ j. h (suc j)) k i

-- the same run tells the same
same_items : (old new : Seen) → new ≡ old → Extends old.items new.items
same_items old new e = ([], ap (λ (x : Seen). x.items) e ∙ sym (append-nil old.items))

longer-items : (old new : Seen) (finish : Finish) → Longer old new finish → Extends old.items new.items
longer-items old new Waiting h = h
longer-items old new (Paused code) h = same_items old new h
longer-items old new (Failed code) h = same_items old new h

-- what lies beyond the old items is what was told since
joins : (old new : List Item) → Extends old new → old ++ drop (length old) new ≡ new
joins old new h =
    ap (λ (l : List Item). old ++ drop (length old) l) h.1
    ∙ ap (λ (l : List Item). old ++ l) (drop-append_seam old h.0)
    ∙ sym h.1

-- nothing else of a connection matters here
pub coherent-core : (subject : Subject) (c d : Connection) → core d ≡ core c → Coherent subject c → Coherent subject d
coherent-core subject c d e h =
    let P : Core → Type 0 = λ x. (x.run ≡ subject.run x.values x.script x.bytes x.resumes) × (script_fits x.script ≡ true) × AreBytes x.bytes in
    let p : P (core d) = subst P (sym e) (h.run, h.answers, h.bytes) in
    record { run = p.0; answers = p.1; bytes = p.2 }

moved-setup : (subject : Subject) (c : Connection) (rec : Record) (b : Bool) →
    ((moved subject c rec b).values ≡ c.values) × ((moved subject c rec b).script ≡ c.script)
moved-setup subject c rec true = (refl, refl)
moved-setup subject c rec false = (refl, refl)

module _ (subject : Subject) (grow : Grow subject.run) where
  from_run : (c : Connection) (bytes : List ℕ) (resumes : ℕ) → Coherent subject c → bytes ≡ c.bytes → resumes ≡ c.resumes →
      subject.run c.values c.script bytes resumes ≡ c.run
  from_run c bytes resumes h e f =
      ap (λ (l : List ℕ). subject.run c.values c.script l resumes) e ∙ ap (λ (n : ℕ). subject.run c.values c.script c.bytes n) f ∙ sym h.run

  longer_run : (c : Connection) (part : List ℕ) (resumes : ℕ) → Coherent subject c → AreBytes (c.bytes ++ part) → resumes ≡ c.resumes →
      Extends c.run.items (subject.run c.values c.script (c.bytes ++ part) resumes).items
  longer_run c part resumes h fit f =
      let l = grow.longer c.values c.script c.bytes part c.resumes h.answers h.bytes fit in
      let m = longer-items _ _ (subject.run c.values c.script c.bytes c.resumes).finish l in
      subst (λ (x : Seen). Extends x.items (subject.run c.values c.script (c.bytes ++ part) resumes).items) (sym h.run)
      (subst (λ (n : ℕ). Extends (subject.run c.values c.script c.bytes c.resumes).items (subject.run c.values c.script (c.bytes ++ part) n).items) (sym f) m)

  resumed_run : (c : Connection) (code : ℕ) (bytes : List ℕ) (resumes : ℕ) → Coherent subject c → c.run.finish ≡ Paused code → bytes ≡ c.bytes → resumes ≡ suc c.resumes →
      Extends c.run.items (subject.run c.values c.script bytes resumes).items
  resumed_run c code bytes resumes h e b f =
      let r = grow.resumed c.values c.script c.bytes c.resumes h.answers h.bytes in
      let m : OnceMore c.run (subject.run c.values c.script c.bytes (suc c.resumes)) c.run.finish =
      subst (λ (x : Seen). OnceMore x (subject.run c.values c.script c.bytes (suc c.resumes)) x.finish) (sym h.run) r in
      let k : OnceMore c.run (subject.run c.values c.script c.bytes (suc c.resumes)) (Paused code) =
      subst (OnceMore c.run (subject.run c.values c.script c.bytes (suc c.resumes))) e m in
      subst (λ (l : List ℕ). Extends c.run.items (subject.run c.values c.script l resumes).items) (sym b)
      (subst (λ (n : ℕ). Extends c.run.items (subject.run c.values c.script c.bytes n).items) (sym f) k)

  resume_by : (c : Connection) (finish : Finish) → c.run.finish ≡ finish → Coherent subject c →
      Extends c.run.items (subject.run c.values c.script (c.bytes ++ []) (c.resumes + counted finish)).items
  resume_by c Waiting e h = same_items c.run _ (from_run c (c.bytes ++ []) (c.resumes + 0) h (append-nil c.bytes) (omega arith))
  resume_by c (Paused code) e h = resumed_run c code (c.bytes ++ []) (c.resumes + 1) h e (append-nil c.bytes) (omega arith)
  resume_by c (Failed code) e h = same_items c.run _ (from_run c (c.bytes ++ []) (c.resumes + 0) h (append-nil c.bytes) (omega arith))

  -- a record takes no item back
  pub advances : (c : Connection) (rec : Record) → Coherent subject c → AreBytes (c.bytes ++ carried rec) → Extends c.run.items (advanced subject c rec).run.items
  advances c (Begins conn sets script) h fit = longer_run c [] (c.resumes + 0) h fit (omega arith)
  advances c (Carries conn part) h fit = longer_run c part (c.resumes + 0) h fit (omega arith)
  advances c (Resumes conn) h fit = resume_by c c.run.finish refl h
  advances c (Finishes conn) h fit = longer_run c [] (c.resumes + 0) h fit (omega arith)
  advances c Halts h fit = longer_run c [] (c.resumes + 0) h fit (omega arith)

  moved-coherent : (c : Connection) (rec : Record) (b : Bool) → Coherent subject c → AreBytes (c.bytes ++ carried rec) → Coherent subject (moved subject c rec b)
  moved-coherent c rec true h fit = h
  moved-coherent c rec false h fit = record { run = refl; answers = h.answers; bytes = fit }

  moved-items : (c : Connection) (rec : Record) (b : Bool) → Coherent subject c → AreBytes (c.bytes ++ carried rec) →
      c.run.items ++ news subject c rec b ≡ (moved subject c rec b).run.items
  moved-items c rec true h fit = append-nil c.run.items
  moved-items c rec false h fit = joins c.run.items (advanced subject c rec).run.items (advances c rec h fit)

  module _ (mode : Mode) (limit : ℕ) where
    -- what the records tell, one after another, is what the run on the whole string tells
    pub tells_the_run : TellsTheRun subject mode limit
    tells_the_run c [] h fit = (h, append-nil c.run.items)
    tells_the_run c (rec ∷ later) h fit =
        let whole : AreBytes (c.bytes ++ carried rec) = bytes_append c.bytes (carried rec) h.bytes (All-head (λ (r : Record). AreBytes (carried r)) rec later fit) in
        let d = next subject mode limit c rec in
        let same : core d ≡ core (moved subject c rec c.done) = step-core subject mode limit c rec in
        let good : Coherent subject d = coherent-core subject (moved subject c rec c.done) d same (moved-coherent c rec c.done h whole) in
        let rest = tells_the_run d later good (All-tail (λ (r : Record). AreBytes (carried r)) rec later fit) in
        let here : c.run.items ++ news subject c rec c.done ≡ d.run.items = moved-items c rec c.done h whole ∙ sym (ap (λ (x : Core). x.run.items) same) in (
          rest.0,
          sym (append_assoc c.run.items (news subject c rec c.done) (items_told subject mode limit d later))
              ∙ ap (λ (l : List Item). l ++ items_told subject mode limit d later) here ∙ rest.1,
        )

    kept-values : (c : Connection) (records : List Record) →
        ((behind subject mode limit c records).values ≡ c.values) × ((behind subject mode limit c records).script ≡ c.script)
    kept-values c [] = (refl, refl)
    kept-values c (rec ∷ later) =
        let d = next subject mode limit c rec in
        let same : core d ≡ core (moved subject c rec c.done) = step-core subject mode limit c rec in
        let rest = kept-values d later in
        let one = moved-setup subject c rec c.done in
        (rest.0 ∙ ap (λ (x : Core). x.values) same ∙ one.0, rest.1 ∙ ap (λ (x : Core). x.script) same ∙ one.1)

    -- so the cuts don't matter
    pub cuts_change_nothing : CutsChangeNothing subject mode limit
    cuts_change_nothing c xs ys h fx fy e f =
        let p = tells_the_run c xs h fx in
        let q = tells_the_run c ys h fy in
        let a = behind subject mode limit c xs in
        let b = behind subject mode limit c ys in
        let v = kept-values c xs in
        let w = kept-values c ys in
        let same : a.run ≡ b.run =
        p.0.run
        ∙ ap (λ (l : List ℕ). subject.run l a.script a.bytes a.resumes) (v.0 ∙ sym w.0)
        ∙ ap (λ (l : List ScriptEntry). subject.run b.values l a.bytes a.resumes) (v.1 ∙ sym w.1)
        ∙ ap (λ (l : List ℕ). subject.run b.values b.script l a.resumes) e
        ∙ ap (subject.run b.values b.script b.bytes) f
        ∙ sym q.0.run in
        append_cancel_left c.run.items (items_told subject mode limit c xs) (items_told subject mode limit c ys)
        (p.1 ∙ ap (λ (x : Seen). x.items) same ∙ sym q.1)
