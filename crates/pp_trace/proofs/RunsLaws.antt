-- There are runs of a verified program, and one report by them.
use Rattle.std.proofs.Common.{◌≡◌, ℕ, List, refl, sym, ◌∙◌}
use Rattle.pp_capture.specs.Spelling.{Record}
use Rattle.pp_event.specs.Loops.{Moves, IsRankTable}
use Rattle.pp_event.specs.Run.{Config}
use Rattle.pp_event.specs.Steady.{IsSteady}
use Rattle.pp_event.proofs.FunctionLaws.{runs, by_scripts}
use Rattle.pp_program.specs.Moves.{program_moves}
use Rattle.pp_program.specs.Valid.{Sound, IsVerified}
use Rattle.pp_program.proofs.StateTurns.{program-steady}
use Rattle.pp_trace.specs.declared.mode.Mode.{Mode}
use Rattle.pp_trace.specs.Headline.{IsReport}
use Rattle.pp_trace.specs.Programs.{program_meaning}
use Rattle.pp_trace.specs.Subject.{Meaning, SeenRuns, AreRunsOf, Subject, seen}

-- a machine with a rank table, from configurations at its entry
pub seen_runs : (moves : Moves) (rank : ℕ → ℕ → ℕ) → IsRankTable moves rank → IsSteady moves.turn →
    (begin : List ℕ → Config) (name reason : ℕ → List ℕ) → ((values : List ℕ) → (begin values).node ≡ moves.entry) →
    (run : SeenRuns) × AreRunsOf (record { turn = moves.turn; start = begin; name = name; reason = reason }) run
seen_runs moves rank table steady begin name reason entry =
    let m : Meaning = record { turn = moves.turn; start = begin; name = name; reason = reason } in
    let all = runs moves rank table steady by_scripts in (
      (λ values script bytes resumes. seen m (all.0 (begin values) script bytes resumes)),
      (λ values script bytes resumes fits are. (all.0 (begin values) script bytes resumes, all.1 (begin values) script bytes resumes (entry values) fits are, refl)),
    )

-- a verified program
pub program_runs : (v : Sound) → IsVerified v → (run : SeenRuns) × AreRunsOf (program_meaning v.program) run
program_runs v h =
    let m : Meaning = program_meaning v.program in
    seen_runs (program_moves v.program) h.ranks.rank h.ranks.table (program-steady v.program) m.start m.name m.reason (λ values. refl)

-- whatever the runs are, two reports by them are the same
pub only_report : (m : Meaning) (subject : SeenRuns → Subject) (mode : Mode) (list : List Record) (xs ys : List ℕ) →
    IsReport m subject mode list xs → IsReport m subject mode list ys → xs ≡ ys
only_report m subject mode list xs ys h k = h.by_runs h.runs.0 h.runs.1 ∙ sym (k.by_runs h.runs.0 h.runs.1)
