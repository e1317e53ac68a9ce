-- `trace`: the text of a plain graph that is accepted, then a capture within its limit, and the report of the graph's run
-- on the joined parts, each answer being 0.
use Rattle.std.specs.Prelude.{◌≡◌, ℕ, ◌≤◌, List, [], length}
use Rattle.pp_graph.specs.Plan.{Plan}
use Rattle.pp_event.specs.Run.{RunResult}
use Rattle.pp_event.specs.Answers.{by_script}
use Rattle.pp_mean.specs.Mean.{Means, values_by}
use Rattle.pp_mean.specs.Plain.{IsPlain}
use Rattle.pp_tool.specs.declared.refusal.CheckReason.TheVariants as check
use Rattle.pp_tool.specs.declared.refusal.Refusal.TheVariants as refusal
use Rattle.pp_tool.specs.Verdict.{Outcome, Gives, Refuses, Verdict, Then, Test}
use Rattle.pp_tool.specs.GraphText.{Begun, BeginsWithGraph, ReadsText}
use Rattle.pp_tool.specs.Checks.{IsAccepted, Checks}
use Rattle.pp_tool.specs.Capture.{IsCapture, joined}
use Rattle.pp_tool.specs.Report.{report_of}

-- the most bytes behind the graph text
abbrev pub capture_limit : ℕ
capture_limit = 262144

-- the run of the graph on the whole string has this result, with no sets, no answers and no resumes
abbrev pub RunsTo : Plan → List ℕ → RunResult → Type 0
RunsTo g string r = Means g (values_by g []) string (by_script []) 0 r

-- the graph is plain
abbrev pub HasPlain : Begun → Type 0
HasPlain begun = IsPlain begun.0

-- a capture has room behind the text
abbrev pub HasShortRest : Begun → Type 0
HasShortRest begun = length begun.1 ≤ capture_limit

-- the stage that hands on the graph and the connection's whole string, where what follows the text is a capture
abbrev pub ReadsCapture : Begun → Outcome Begun → Type 0
ReadsCapture begun (Gives out) = (parts : List (List ℕ)) × IsCapture begun.1 parts × (out ≡ (begun.0, joined parts))
ReadsCapture begun (Refuses why before) = ((parts : List (List ℕ)) → ¬ (IsCapture begun.1 parts)) × (why ≡ refusal.Capture) × (before ≡ [])

-- the last stage: it writes the report of the run
abbrev pub Reports : Begun → Verdict → Type 0
Reports begun (Gives lines) = (r : RunResult) × RunsTo begun.0 begun.1 r × (lines ≡ report_of begun.0 r)
Reports begun (Refuses why before) = ⊥

-- the stages that are left, behind a rest within its limit
abbrev pub OnShort : Begun → Verdict → Type 0
OnShort = Then ReadsCapture Reports

-- behind a plain graph
abbrev pub OnPlain : Begun → Verdict → Type 0
OnPlain = Then (Test HasShortRest refusal.TooLong) OnShort

-- behind an accepted graph
abbrev pub OnAccepted : Begun → Verdict → Type 0
OnAccepted = Then (Test HasPlain (refusal.Check check.NotYet)) OnPlain

-- behind the text of a graph
abbrev pub OnGraph : Begun → Verdict → Type 0
OnGraph = Then (Checks (λ begun. begun.0)) OnAccepted

-- what `trace` makes of an input
abbrev pub Traces : List ℕ → Verdict → Type 0
Traces = Then ReadsText OnGraph

-- the bytes begin with the text of an accepted plain graph
pub record BeginsWithPlain (bytes : List ℕ) (g : Plan) (rest : List ℕ) : Type 0 where
  pub last : ℕ
  pub graph : BeginsWithGraph bytes g last rest
  pub accepted : IsAccepted g
  pub plain : IsPlain g

-- an accepted plain graph and a capture, the result of its run, and the report of that
pub record HasReport (bytes report : List ℕ) : Type 0 where
  pub g : Plan
  pub rest : List ℕ
  pub parts : List (List ℕ)
  pub result : RunResult
  pub graph : BeginsWithPlain bytes g rest
  pub capture : IsCapture rest parts
  pub run : RunsTo g (joined parts) result
  pub lines : report ≡ report_of g result

-- an input of `trace` in order: an accepted plain graph, and a capture within its limit
pub record IsTraced (bytes : List ℕ) : Type 0 where
  pub g : Plan
  pub rest : List ℕ
  pub parts : List (List ℕ)
  pub graph : BeginsWithPlain bytes g rest
  pub short : length rest ≤ capture_limit
  pub capture : IsCapture rest parts
