-- What are the runs of one machine are those of a machine that shows the same.
use Rattle.std.proofs.Common.{◌∙◌}
use Rattle.pp_trace.specs.Subject.{Meaning, SeenRuns, AreRunsOf}
use Rattle.pp_trace.specs.Same.{ShowsTheSame}

-- so one function gives what is seen of both
pub same_runs : (m n : Meaning) (run : SeenRuns) → ShowsTheSame m n → AreRunsOf m run → AreRunsOf n run
same_runs m n run same are values script bytes resumes answers fit =
    let r = are values script bytes resumes answers fit in
    let q = same values script bytes resumes r.0 r.1 in
    (q.0, q.1, r.2 ∙ q.2)
