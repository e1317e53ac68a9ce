-- The stages of `trace` behind the text.
use Rattle.std.proofs.Common.{◌≡◌, ℕ, List, [], refl, sym, ap, ap₂, ◌∙◌}
use Rattle.std.specs.Prelude.{Result, Vec}
use Rattle.std.specs.declared.alloc.Global.{Global}
use Rattle.std.specs.Result.{IsErrAnd}
use Rattle.pp_graph.specs.Plan.{Plan}
use Rattle.pp_mean.specs.Plain.{IsPlain}
use Rattle.pp_event.specs.Run.{RunResult, move}
use Rattle.pp_event.specs.Answers.{by_script}
use Rattle.pp_mean.specs.Nodes.{graph_turn}
use Rattle.pp_event.proofs.ChainLaws.{one_result}
use Rattle.pp_tool.specs.declared.refusal.CheckReason.TheVariants as check
use Rattle.pp_tool.specs.declared.refusal.Refusal.TheVariants as refusal
use Rattle.pp_tool.specs.declared.stop.Stop.{Stop}
use Rattle.pp_tool.specs.Verdict.{Outcome, Gives, Refuses, Verdict, IsOnly, Test, Stops, Answers}
use Rattle.pp_tool.specs.Capture.{IsCapture, joined}
use Rattle.pp_tool.specs.Report.{report_of}
use Rattle.pp_tool.specs.GraphText.{Begun, ReadsText}
use Rattle.pp_tool.specs.steps.Reading.{IsTheGraph, IsTakenStop}
use Rattle.pp_tool.specs.Checks.{IsAccepted, Checks}
use Rattle.pp_tool.specs.steps.Checking.{IsCheckStop}
use Rattle.pp_tool.specs.Trace.{RunsTo, ReadsCapture, Reports, HasPlain, HasShortRest, OnShort, OnPlain, OnAccepted, OnGraph, Traces}
use Rattle.pp_tool.proofs.CheckLemmas.{checks_hold, stops_check}
use Rattle.pp_tool.proofs.VerdictLemmas.{answers_err, answers_behind, stops_then, stops_behind, then_gives, then_refuses, test_holds, test_fails}
use Rattle.pp_tool.proofs.ReadLemmas.{begun, stops_text}

found_only : (g : Plan) (rest string : List ℕ) (parts : List (List ℕ)) (other : Outcome Begun) → IsCapture rest parts →
    ((parts : List (List ℕ)) → IsCapture rest parts → string ≡ joined parts) → ReadsCapture (g, rest) other → other ≡ Gives (g, string)
found_only g rest string parts (Gives out) is only h = ap Gives (h.2 ∙ ap (λ (s : List ℕ). (g, s)) (sym (only h.0 h.1)))
found_only g rest string parts (Refuses why before) is only h = absurd (h.0 parts is)

pub capture_found : (g : Plan) (rest string : List ℕ) → (parts : List (List ℕ)) × IsCapture rest parts × (string ≡ joined parts) →
    ((parts : List (List ℕ)) → IsCapture rest parts → string ≡ joined parts) → IsOnly (ReadsCapture (g, rest)) (Gives (g, string))
capture_found g rest string found only =
    ((found.0, found.1, ap (λ (s : List ℕ). (g, s)) found.2), λ other h. found_only g rest string found.0 other found.1 only h)

none_only : (g : Plan) (rest : List ℕ) (other : Outcome Begun) → ((parts : List (List ℕ)) → ¬ (IsCapture rest parts)) → ReadsCapture (g, rest) other → other ≡ Refuses refusal.Capture []
none_only g rest (Gives out) none h = absurd (none h.0 h.1)
none_only g rest (Refuses why before) none h = ap₂ Refuses h.1 h.2

pub capture_none : (g : Plan) (rest : List ℕ) → ((parts : List (List ℕ)) → ¬ (IsCapture rest parts)) → IsOnly (ReadsCapture (g, rest)) (Refuses refusal.Capture [])
capture_none g rest none = ((none, refl, refl), λ other h. none_only g rest other none h)

run_only : (g : Plan) (string lines : List ℕ) (r : RunResult) (other : Verdict) → RunsTo g string r → lines ≡ report_of g r → Reports (g, string) other → other ≡ Gives lines
run_only g string lines r (Gives written) run is h =
    ap Gives (h.2 ∙ ap (report_of g) (one_result (move (graph_turn g) (by_script [])) _ h.0 r h.1 run) ∙ sym is)
run_only g string lines r (Refuses why before) run is h = absurd h

pub run_found : (g : Plan) (string lines : List ℕ) (r : RunResult) → RunsTo g string r → lines ≡ report_of g r → IsOnly (Reports (g, string)) (Gives lines)
run_found g string lines r run is = ((r, run, is), λ other h. run_only g string lines r other run is h)

-- the capture and the run
pub short_lines : (g : Plan) (rest string lines : List ℕ) (r : RunResult) → (parts : List (List ℕ)) × IsCapture rest parts × (string ≡ joined parts) →
    ((parts : List (List ℕ)) → IsCapture rest parts → string ≡ joined parts) → RunsTo g string r → lines ≡ report_of g r → IsOnly (OnShort (g, rest)) (Gives lines)
short_lines g rest string lines r found only run is =
    then_gives ReadsCapture Reports (g, rest) (g, string) (Gives lines) (capture_found g rest string found only) (run_found g string lines r run is)

abbrev Lines : Type 0
Lines = Result (Vec ℕ Global) Stop

-- an accepted graph passes the checks
passes : (g : Plan) (rest : List ℕ) → IsAccepted g → IsOnly (Checks (λ (begun : Begun). begun.0) (g, rest)) (Gives (g, rest))
passes g rest h = checks_hold (λ (begun : Begun). begun.0) (g, rest) h

-- the whole command: the text is refused, or the graph, or the rest behind it, or what is left to do decides
pub trace_text : (bytes : List ℕ) (result : Lines) (s : Stop) → IsErrAnd result (λ x. x ≡ s) → IsTakenStop bytes s → Answers (Traces bytes) (λ v. v.items) result
trace_text bytes result s i h = answers_err (Traces bytes) (λ v. v.items) result s i (stops_then ReadsText OnGraph bytes s (stops_text bytes s h))

pub trace_checks : (bytes : List ℕ) (g : Plan) (last : ℕ) (rest : List ℕ) (result : Lines) (s : Stop) → IsErrAnd result (λ x. x ≡ s) → IsTheGraph bytes g last rest → IsCheckStop g s →
    Answers (Traces bytes) (λ v. v.items) result
trace_checks bytes g last rest result s i the h =
    answers_err (Traces bytes) (λ v. v.items) result s i
    (stops_behind ReadsText OnGraph bytes (g, rest) s (begun bytes g last rest the)
    (stops_then (Checks (λ (begun : Begun). begun.0)) OnAccepted (g, rest) s (stops_check (λ (begun : Begun). begun.0) (g, rest) s h)))

pub trace_other : (bytes : List ℕ) (g : Plan) (last : ℕ) (rest : List ℕ) → IsTheGraph bytes g last rest → IsAccepted g → ¬ (IsPlain g) → IsOnly (Traces bytes) (Refuses (refusal.Check check.NotYet) [])
trace_other bytes g last rest the accepted other =
    then_gives ReadsText OnGraph bytes (g, rest) (Refuses (refusal.Check check.NotYet) []) (begun bytes g last rest the)
    (then_gives (Checks (λ (begun : Begun). begun.0)) OnAccepted (g, rest) (g, rest) (Refuses (refusal.Check check.NotYet) []) (passes g rest accepted)
    (then_refuses (Test HasPlain (refusal.Check check.NotYet)) OnPlain (g, rest) (refusal.Check check.NotYet) [] (test_fails HasPlain (refusal.Check check.NotYet) (g, rest) other)))

pub trace_rest : (bytes : List ℕ) (g : Plan) (last : ℕ) (rest : List ℕ) (result : Lines) (s : Stop) → IsErrAnd result (λ x. x ≡ s) → IsTheGraph bytes g last rest → IsAccepted g → IsPlain g →
    Stops (Test HasShortRest refusal.TooLong (g, rest)) s → Answers (Traces bytes) (λ v. v.items) result
trace_rest bytes g last rest result s i the accepted plain h =
    answers_err (Traces bytes) (λ v. v.items) result s i
    (stops_behind ReadsText OnGraph bytes (g, rest) s (begun bytes g last rest the)
    (stops_behind (Checks (λ (begun : Begun). begun.0)) OnAccepted (g, rest) (g, rest) s (passes g rest accepted)
    (stops_behind (Test HasPlain (refusal.Check check.NotYet)) OnPlain (g, rest) (g, rest) s (test_holds HasPlain (refusal.Check check.NotYet) (g, rest) plain)
    (stops_then (Test HasShortRest refusal.TooLong) OnShort (g, rest) s h))))

pub trace_short : (bytes : List ℕ) (g : Plan) (last : ℕ) (rest kept : List ℕ) (result : Lines) → IsTheGraph bytes g last rest → IsAccepted g → IsPlain g →
    IsOnly (Test HasShortRest refusal.TooLong (g, rest)) (Gives (g, kept)) → Answers (OnShort (g, kept)) (λ v. v.items) result → Answers (Traces bytes) (λ v. v.items) result
trace_short bytes g last rest kept result the accepted plain short h =
    answers_behind ReadsText OnGraph bytes (g, rest) (λ v. v.items) result (begun bytes g last rest the)
    (answers_behind (Checks (λ (begun : Begun). begun.0)) OnAccepted (g, rest) (g, rest) (λ v. v.items) result (passes g rest accepted)
    (answers_behind (Test HasPlain (refusal.Check check.NotYet)) OnPlain (g, rest) (g, rest) (λ v. v.items) result (test_holds HasPlain (refusal.Check check.NotYet) (g, rest) plain)
    (answers_behind (Test HasShortRest refusal.TooLong) OnShort (g, rest) (g, kept) (λ v. v.items) result short h)))
