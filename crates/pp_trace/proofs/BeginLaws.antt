-- From the Begin record on.
use Rattle.std.proofs.Common.{◌≡◌, ℕ, arith, List, [], ◌∷◌, ◌++◌, Some, true, refl, sym, ◌∙◌, ap}
use Rattle.std.specs.Prelude.{fold}
use Rattle.pp_capture.specs.Spelling.{Record, Begins}
use Rattle.pp_event.specs.declared.item.Item.{Item}
use Rattle.pp_event.specs.declared.script.ScriptEntry.{ScriptEntry}
use Rattle.pp_event.specs.Loops.{AreBytes}
use Rattle.pp_event.specs.Runs.{script_fits}
use Rattle.pp_trace.specs.Subject.{Subject, Seen}
use Rattle.pp_trace.specs.Connection.{Connection, advanced, carried, unfed}
use Rattle.pp_trace.specs.declared.mode.Mode.{Mode}
use Rattle.pp_trace.specs.Report.{stands_after}
use Rattle.pp_trace.specs.Growth.{Grow}
use Rattle.pp_trace.specs.Coherent.{Coherent}
use Rattle.pp_trace.specs.Cuts.{next, behind, items_told, TellsAll}
use Rattle.pp_trace.proofs.StepLaws.{Core, step-core}
use Rattle.pp_trace.proofs.CutLaws.{coherent-core, tells_the_run}

module _ (subject : Subject) (grow : Grow subject.run) (mode : Mode) (limit : ℕ) where
  -- how a connection stands behind a Begin record and others of its own
  pub stands-behind : (c : Connection) (later : List Record) →
      fold (stands_after subject mode limit) (Some c) later ≡ Some (behind subject mode limit c later)
  stands-behind c [] = refl
  stands-behind c (rec ∷ later) = stands-behind (next subject mode limit c rec) later

  -- behind its Begin record a connection is coherent
  begin-coherent : (values : List ℕ) (script : List ScriptEntry) (rec : Record) → script_fits script ≡ true → AreBytes ([] ++ carried rec) →
      Coherent subject (next subject mode limit (unfed values script) rec)
  begin-coherent values script rec answers fit =
      coherent-core subject (advanced subject (unfed values script) rec) (next subject mode limit (unfed values script) rec)
      (step-core subject mode limit (unfed values script) rec) (record { run = refl; answers = answers; bytes = fit })

  -- the items that a begun connection told are those of the run of its string and resumes
  pub tells_all : TellsAll subject mode limit
  tells_all values script conn sets entries later answers fit =
      let rec : Record = Begins conn sets entries in
      let c : Connection = unfed values script in
      let d : Connection = next subject mode limit c rec in
      let good = begin-coherent values script rec answers (λ i. omega arith) in
      let told = tells_the_run subject grow mode limit d later good fit in
      let first : (advanced subject c rec).run.items ≡ d.run.items = sym (ap (λ (x : Core). x.run.items) (step-core subject mode limit c rec)) in
      (told.0, ap (λ (l : List Item). l ++ items_told subject mode limit d later) first ∙ told.1 ∙ ap (λ (x : Seen). x.items) told.0.run)
