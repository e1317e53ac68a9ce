-- What is seen of the runs of a steady machine grows with the string and the resumes.
use Rattle.std.proofs.Common.{ℕ, suc, List, ◌++◌, sym, ap, subst}
use Rattle.pp_event.specs.Answers.{by_script}
use Rattle.pp_event.specs.Growth.{IsKept, OnceResumed, followed_result}
use Rattle.pp_event.specs.Run.{Oracle, RunResult, RunEnds, Finish, Waiting, Paused, Failed, move, start}
use Rattle.pp_event.specs.Steady.{IsSteady}
use Rattle.pp_event.proofs.ChainLaws.{one_result}
use Rattle.pp_event.proofs.RunLaws.{grows, prefix, keeps_for, one_more_resume}
use Rattle.pp_program.specs.declared.program.Program.{Program}
use Rattle.pp_program.proofs.StateTurns.{program-steady}
use Rattle.pp_trace.specs.Growth.{Longer, OnceMore, Grow}
use Rattle.pp_trace.specs.Programs.{program_meaning}
use Rattle.pp_trace.specs.Subject.{Meaning, SeenRuns, Seen, seen, AreRunsOf}

module _ (m : Meaning) (steady : IsSteady m.turn) where
  longer_by : (values bytes more : List ℕ) (oracle : Oracle) (resumes : ℕ) (r q : RunResult) (finish : Finish) →
      IsKept m.turn oracle (start (m.start values) bytes resumes) more r finish →
      RunEnds m.turn oracle (m.start values) bytes resumes r → RunEnds m.turn oracle (m.start values) (bytes ++ more) resumes q →
      Longer (seen m r) (seen m q) finish
  longer_by values bytes more oracle resumes r q Waiting k h l = prefix m.turn oracle steady (m.start values) bytes more resumes r q h l
  longer_by values bytes more oracle resumes r q (Paused code) k h l = ap (seen m) (one_result (move m.turn oracle) _ q (followed_result r more) l k)
  longer_by values bytes more oracle resumes r q (Failed code) k h l = ap (seen m) (one_result (move m.turn oracle) _ q (followed_result r more) l k)

  resumed_by : (oracle : Oracle) (r q : RunResult) (finish : Finish) → OnceResumed m.turn oracle r q finish → OnceMore (seen m r) (seen m q) finish
  resumed_by oracle r q Waiting a = ap (seen m) (sym a)
  resumed_by oracle r q (Failed code) a = ap (seen m) (sym a)
  resumed_by oracle r q (Paused code) a = grows m.turn oracle a.2.0 (record r.last { config = a.0 }) q a.2.1

  -- more bytes and one resume more take no item back
  pub runs_grow : (run : SeenRuns) → AreRunsOf m run → Grow run
  runs_grow run are = record {
    longer = λ values script bytes more resumes answers fit whole.
        let r = are values script bytes resumes answers fit in
        let q = are values script (bytes ++ more) resumes answers whole in
        let k = keeps_for m.turn (by_script script) steady r.1.0 (start (m.start values) bytes resumes) more r.0 r.1.1 in
        let h = longer_by values bytes more (by_script script) resumes r.0 q.0 r.0.finish k r.1 q.1 in
        subst (λ (x : Seen). Longer x (run values script (bytes ++ more) resumes) x.finish) (sym r.2)
        (subst (λ (x : Seen). Longer (seen m r.0) x r.0.finish) (sym q.2) h);
    resumed = λ values script bytes resumes answers fit.
        let r = are values script bytes resumes answers fit in
        let q = are values script bytes (suc resumes) answers fit in
        let both = one_more_resume m.turn (by_script script) (start (m.start values) bytes resumes) r.0 q.0 r.1 in
        let h = resumed_by (by_script script) r.0 q.0 r.0.finish (both.0 q.1) in
        subst (λ (x : Seen). OnceMore x (run values script bytes (suc resumes)) x.finish) (sym r.2)
        (subst (λ (x : Seen). OnceMore (seen m r.0) x r.0.finish) (sym q.2) h);
  }

-- those of a program
pub program_grows : (p : Program) (run : SeenRuns) → AreRunsOf (program_meaning p) run → Grow run
program_grows p = runs_grow (program_meaning p) (program-steady p)
