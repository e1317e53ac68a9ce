-- What a verdict of `check` says of the input, and back.
use Rattle.std.proofs.Common.{◌≡◌, ◌≢◌, ◌⊎◌, ◌↔◌, inl, inr, List, ℕ, [], refl, sym, subst, ◌∙◌}
use Rattle.std.specs.Prelude.{Result, Vec}
use Rattle.std.specs.declared.alloc.Global.{Global}
use Rattle.std.specs.Result.{IsErrAnd}
use Rattle.pp_graph.specs.Plan.{Plan}
use Rattle.pp_tool.specs.declared.refusal.GraphReason.{GraphReason}
use Rattle.pp_tool.specs.declared.refusal.CheckReason.{CheckReason}
use Rattle.pp_tool.specs.declared.refusal.Refusal.{Refusal}
use Rattle.pp_tool.specs.declared.refusal.Refusal.TheVariants as refusal
use Rattle.pp_tool.specs.declared.stop.Stop.{Stop}
use Rattle.pp_tool.specs.declared.status.Status.{Status}
use Rattle.pp_tool.specs.declared.status.Status.TheVariants as status
use Rattle.pp_tool.specs.declared.words.Command.TheVariants as command
use Rattle.pp_tool.specs.Answers.{status_of, ComesWhere}
use Rattle.pp_tool.specs.Verdict.{Gives, Refuses, Verdict, IsOnly, Stops, Answers, status_by}
use Rattle.pp_tool.specs.GraphText.{IsNoGraph, ReadsTextAlone, IsOfGraph}
use Rattle.pp_tool.specs.Checks.{IsAccepted, Checks, IsOfCheck}
use Rattle.pp_tool.specs.Check.{IsShape, TellsShape, OnGraphAlone, IsCheckedAs}
use Rattle.pp_tool.specs.Commands.{IsAnswerOf}
use Rattle.pp_tool.specs.Facts.{FailsAlone, HasShape}
use Rattle.pp_tool.specs.steps.Checking.{IsCheckStop}
use Rattle.pp_tool.proofs.TraceLaws.{RefusedBy, gives_of, refused_by}
use Rattle.pp_tool.proofs.VerdictLemmas.{answers_err, stops_then, stops_behind, then_gives}
use Rattle.pp_tool.proofs.CheckLemmas.{checks_hold, stops_check, shape_told}
use Rattle.pp_tool.proofs.StatusLemmas.{IsAnswered, IsNoFault, found, bare, graph_no_fault, check_no_fault, too_long_no_fault, capture_no_fault, no_fault}

abbrev alone : Plan → Plan
alone g = g

-- the text is refused, or the graph, or its line is told
pub check_text : (bytes : List ℕ) (result : Result (Vec ℕ Global) Stop) (s : Stop) → IsErrAnd result (λ x. x ≡ s) → Stops (ReadsTextAlone bytes) s → Answers (IsCheckedAs bytes) (λ v. v.items) result
check_text bytes result s i h = answers_err (IsCheckedAs bytes) (λ v. v.items) result s i (stops_then ReadsTextAlone OnGraphAlone bytes s h)

pub check_fails : (bytes : List ℕ) (g : Plan) (result : Result (Vec ℕ Global) Stop) (s : Stop) → IsErrAnd result (λ x. x ≡ s) → IsOnly (ReadsTextAlone bytes) (Gives g) → IsCheckStop g s → Answers (IsCheckedAs bytes) (λ v. v.items) result
check_fails bytes g result s i only h =
    answers_err (IsCheckedAs bytes) (λ v. v.items) result s i
    (stops_behind ReadsTextAlone OnGraphAlone bytes g s only (stops_then (Checks (λ (h : Plan). h)) TellsShape g s (stops_check (λ (h : Plan). h) g s h)))

pub check_told : (bytes : List ℕ) (g : Plan) (line : List ℕ) → IsOnly (ReadsTextAlone bytes) (Gives g) → IsAccepted g → IsShape g line → IsOnly (IsCheckedAs bytes) (Gives line)
check_told bytes g line only accepted shape =
    then_gives ReadsTextAlone OnGraphAlone bytes g (Gives line) only
    (then_gives (Checks (λ (h : Plan). h)) TellsShape g g (Gives line) (checks_hold (λ (h : Plan). h) g accepted) (shape_told g line shape))

-- what a refusal of `check` says
abbrev CheckCause : List ℕ → Refusal → Type 0
CheckCause bytes (refusal.Graph why) = IsNoGraph bytes why
CheckCause bytes (refusal.Check why) = FailsAlone bytes why
CheckCause bytes refusal.TooLong = ⊥
CheckCause bytes refusal.Capture = ⊥

abbrev Cause : List ℕ → Refusal → List ℕ → Type 0
Cause bytes r before = CheckCause bytes r × (before ≡ [])

by_graph : (bytes : List ℕ) (g : Plan) (r : Refusal) (before : List ℕ) → ReadsTextAlone bytes (Gives g) → RefusedBy (Checks (λ (h : Plan). h)) TellsShape g r before → Cause bytes r before
by_graph bytes g r before text (inl h) =
    subst (λ q. Cause bytes q before) (sym h.2) (record { g = g; last = text.0; graph = text.1; fails = h.1 }, h.3)
by_graph bytes g r before text (inr h) = absurd h.2

by_text : (bytes : List ℕ) (r : Refusal) (before : List ℕ) → RefusedBy ReadsTextAlone OnGraphAlone bytes r before → Cause bytes r before
by_text bytes r before (inl h) = subst (λ q. Cause bytes q before) (sym h.2) (h.1, h.3)
by_text bytes r before (inr h) = by_graph bytes h.0 r before h.1 (refused_by (Checks (λ (g : Plan). g)) TellsShape h.0 r before h.2)

check_cause : (bytes : List ℕ) (r : Refusal) (before : List ℕ) → IsCheckedAs bytes (Refuses r before) → Cause bytes r before
check_cause bytes r before h = by_text bytes r before (refused_by ReadsTextAlone OnGraphAlone bytes r before h)

cause_back : (bytes : List ℕ) (r : Refusal) → CheckCause bytes r → IsCheckedAs bytes (Refuses r [])
cause_back bytes (refusal.Graph why) h = inr (refusal.Graph why, [], (why, h, refl, refl), refl)
cause_back bytes (refusal.Check why) h = inl (h.g, (h.last, h.graph), inr (refusal.Check why, [], (why, h.fails, refl, refl), refl))
cause_back bytes refusal.TooLong h = absurd h
cause_back bytes refusal.Capture h = absurd h

pub check_refused : (bytes : List ℕ) (r : Refusal) (before : List ℕ) → IsCheckedAs bytes (Refuses r before) ↔ Cause bytes r before
check_refused bytes r before = (
  check_cause bytes r before,
  (λ h. subst (λ x. IsCheckedAs bytes (Refuses r x)) (sym h.1) (cause_back bytes r h.0)),
)

check_lines : (bytes lines : List ℕ) → IsCheckedAs bytes (Gives lines) → HasShape bytes lines
check_lines bytes lines h =
    let one = gives_of ReadsTextAlone OnGraphAlone bytes lines h in
    let two = gives_of (Checks (λ (g : Plan). g)) TellsShape one.0 lines one.2 in
    record { g = one.0; last = one.1.0; graph = one.1.1; accepted = two.1.0; shape = subst (λ g. IsShape g lines) two.1.1 two.2 }

pub check_given : (bytes lines : List ℕ) → IsCheckedAs bytes (Gives lines) ↔ HasShape bytes lines
check_given bytes lines = (check_lines bytes lines, (λ h. inl (h.g, (h.last, h.graph), inl (h.g, (h.accepted, refl), h.shape))))

-- the statuses
graph_of : (bytes : List ℕ) (v : Verdict) → IsCheckedAs bytes v → status_by v ≡ status.Graph → (reason : GraphReason) × IsNoGraph bytes reason
graph_of bytes (Gives lines) h e = absurd cc
graph_of bytes (Refuses (refusal.Graph why) before) h e = (why, (check_cause bytes (refusal.Graph why) before h).0)
graph_of bytes (Refuses (refusal.Check why) before) h e = absurd cc
graph_of bytes (Refuses refusal.TooLong before) h e = absurd cc
graph_of bytes (Refuses refusal.Capture before) h e = absurd cc

pub graph_where : (bytes : List ℕ) (answer : Status) → IsAnswered (IsCheckedAs bytes) answer → ComesWhere answer status.Graph ((reason : GraphReason) × IsNoGraph bytes reason)
graph_where bytes answer answered = record {
  only = λ e. let v = found (IsCheckedAs bytes) answer status.Graph graph_no_fault answered e in graph_of bytes v.0 v.1 v.2;
  always = λ fact. bare (refusal.Graph fact.0) answer (answered.always (Refuses (refusal.Graph fact.0) []) (cause_back bytes (refusal.Graph fact.0) fact.1));
}

check_of : (bytes : List ℕ) (v : Verdict) → IsCheckedAs bytes v → status_by v ≡ status.Check → (reason : CheckReason) × FailsAlone bytes reason
check_of bytes (Gives lines) h e = absurd cc
check_of bytes (Refuses (refusal.Graph why) before) h e = absurd cc
check_of bytes (Refuses (refusal.Check why) before) h e = (why, (check_cause bytes (refusal.Check why) before h).0)
check_of bytes (Refuses refusal.TooLong before) h e = absurd cc
check_of bytes (Refuses refusal.Capture before) h e = absurd cc

pub check_where : (bytes : List ℕ) (answer : Status) → IsAnswered (IsCheckedAs bytes) answer → ComesWhere answer status.Check ((reason : CheckReason) × FailsAlone bytes reason)
check_where bytes answer answered = record {
  only = λ e. let v = found (IsCheckedAs bytes) answer status.Check check_no_fault answered e in check_of bytes v.0 v.1 v.2;
  always = λ fact. bare (refusal.Check fact.0) answer (answered.always (Refuses (refusal.Check fact.0) []) (cause_back bytes (refusal.Check fact.0) fact.1));
}

-- the answers that it has over any input
not_other : (why : Refusal) (answer this : Status) → IsOfGraph why ⊎ IsOfCheck why → status.Graph ≢ this → status.Check ≢ this → answer ≡ status_of why → answer ≡ this → ⊥
not_other (refusal.Graph reason) answer this is graph check e f = graph (sym e ∙ f)
not_other (refusal.Check reason) answer this is graph check e f = check (sym e ∙ f)
not_other refusal.TooLong answer this (inl is) graph check e f = absurd is
not_other refusal.TooLong answer this (inr is) graph check e f = absurd is
not_other refusal.Capture answer this (inl is) graph check e f = absurd is
not_other refusal.Capture answer this (inr is) graph check e f = absurd is

never : (answer this : Status) → IsNoFault this → status.Ok ≢ this → status.Graph ≢ this → status.Check ≢ this → IsAnswerOf command.Check answer → answer ≢ this
never answer this none ok graph check (inl e) f = ok (sym e ∙ f)
never answer this none ok graph check (inr (inl e)) f = no_fault answer this none f e
never answer this none ok graph check (inr (inr h)) f = not_other h.0 answer this h.1 graph check h.2 f

pub no_capture : (answer : Status) → IsAnswerOf command.Check answer → (answer ≢ status.TooLong) × (answer ≢ status.Capture)
no_capture answer h = (
  never answer status.TooLong too_long_no_fault (λ e. absurd cc) (λ e. absurd cc) (λ e. absurd cc) h,
  never answer status.Capture capture_no_fault (λ e. absurd cc) (λ e. absurd cc) (λ e. absurd cc) h,
)
