-- At most one outcome of stages comes of at most one of each.
use Rattle.std.proofs.Common.{ℕ, inl, inr, List, [], refl, sym, ap, ap₂, subst, ◌∙◌}
use Rattle.pp_event.specs.Run.{move}
use Rattle.pp_event.specs.Answers.{by_script}
use Rattle.pp_mean.specs.Nodes.{graph_turn}
use Rattle.pp_event.proofs.ChainLaws.{one_result}
use Rattle.pp_tool.specs.declared.refusal.Refusal.{Refusal}
use Rattle.pp_tool.specs.declared.refusal.Refusal.TheVariants as refusal
use Rattle.pp_tool.specs.declared.refusal.CheckReason.TheVariants as check
use Rattle.pp_tool.specs.Verdict.{Outcome, Gives, Refuses, Then, Test, Writes, AtMostOne}
use Rattle.pp_tool.specs.Capture.{joined}
use Rattle.pp_tool.specs.Report.{report_of}
use Rattle.pp_graph.specs.Plan.{Plan}
use Rattle.pp_tool.specs.GraphText.{Begun, ReadsText, ReadsTextAlone}
use Rattle.pp_tool.specs.Checks.{Checks}
use Rattle.pp_tool.specs.Check.{TellsShape, OnGraphAlone, IsCheckedAs}
use Rattle.pp_tool.specs.Trace.{HasPlain, HasShortRest, ReadsCapture, Reports, OnShort, OnPlain, OnAccepted, OnGraph, Traces}
use Rattle.pp_tool.proofs.CaptureLemmas.{same_capture}
use Rattle.pp_tool.proofs.VerdictLemmas.{gives_is, refuses_is, not_both}
use Rattle.pp_tool.proofs.CheckLemmas.{checks_one, shape_one}

pub then_one : {A B C : Type 0} (first : A → Outcome B → Type 0) (next : B → Outcome C → Type 0) (a : A) → AtMostOne (first a) → ((b : B) → AtMostOne (next b)) → AtMostOne (Then first next a)
then_one first next a f n x y (inl h) (inl k) = n k.0 x y (subst (λ b. next b x) (gives_is h.0 k.0 (f (Gives h.0) (Gives k.0) h.1 k.1)) h.2) k.2
then_one first next a f n x y (inl h) (inr k) = absurd (not_both h.0 k.0 k.1 (f (Gives h.0) (Refuses k.0 k.1) h.1 k.2))
then_one first next a f n x y (inr h) (inl k) = absurd (not_both k.0 h.0 h.1 (f (Gives k.0) (Refuses h.0 h.1) k.1 h.2))
then_one first next a f n x y (inr h) (inr k) =
    let same = refuses_is (Refuses h.0 h.1) (Refuses k.0 k.1) h.0 k.0 h.1 k.1 (f (Refuses h.0 h.1) (Refuses k.0 k.1) h.2 k.2) refl refl in
    h.3 ∙ ap₂ Refuses same.0 same.1 ∙ sym k.3

pub test_one : {A : Type 0} (fact : A → Type 0) (r : Refusal) (a : A) → AtMostOne (Test fact r a)
test_one fact r a (Gives b) (Gives c) h k = ap Gives (h.1 ∙ sym k.1)
test_one fact r a (Gives b) (Refuses why before) h k = absurd (k.0 h.0)
test_one fact r a (Refuses why before) (Gives c) h k = absurd (h.0 k.0)
test_one fact r a (Refuses why before) (Refuses other after) h k = ap₂ Refuses (h.1 ∙ sym k.1) (h.2 ∙ sym k.2)

pub writes_one : {A : Type 0} (lines : A → List ℕ) (a : A) → AtMostOne (Writes lines a)
writes_one lines a (Gives x) (Gives y) h k = ap Gives (h ∙ sym k)
writes_one lines a (Gives x) (Refuses why before) h k = absurd k
writes_one lines a (Refuses why before) y h k = absurd h

capture_one : (begun : Begun) → AtMostOne (ReadsCapture begun)
capture_one begun (Gives x) (Gives y) h k = ap Gives (h.2 ∙ ap (λ (parts : List (List ℕ)). (begun.0, joined parts)) (same_capture begun.1 h.0 k.0 h.1 k.1) ∙ sym k.2)
capture_one begun (Gives x) (Refuses why before) h k = absurd (k.0 h.0 h.1)
capture_one begun (Refuses why before) (Gives y) h k = absurd (h.0 k.0 k.1)
capture_one begun (Refuses why before) (Refuses other after) h k = ap₂ Refuses (h.1 ∙ sym k.1) (h.2 ∙ sym k.2)

reports_one : (begun : Begun) → AtMostOne (Reports begun)
reports_one begun (Gives x) (Gives y) h k =
    ap Gives (h.2 ∙ ap (report_of begun.0) (one_result (move (graph_turn begun.0) (by_script [])) _ h.0 k.0 h.1 k.1) ∙ sym k.2)
reports_one begun (Gives x) (Refuses why before) h k = absurd k
reports_one begun (Refuses why before) y h k = absurd h

short_one : (begun : Begun) → AtMostOne (OnShort begun)
short_one begun = then_one ReadsCapture Reports begun (capture_one begun) reports_one

plain_one : (begun : Begun) → AtMostOne (OnPlain begun)
plain_one begun = then_one (Test HasShortRest refusal.TooLong) OnShort begun (test_one HasShortRest refusal.TooLong begun) short_one

accepted_one : (begun : Begun) → AtMostOne (OnAccepted begun)
accepted_one begun = then_one (Test HasPlain (refusal.Check check.NotYet)) OnPlain begun (test_one HasPlain (refusal.Check check.NotYet) begun) plain_one

graph_one : (begun : Begun) → AtMostOne (OnGraph begun)
graph_one begun = then_one (Checks (λ (b : Begun). b.0)) OnAccepted begun (checks_one (λ (b : Begun). b.0) begun) accepted_one

graph_alone_one : (g : Plan) → AtMostOne (OnGraphAlone g)
graph_alone_one g = then_one (Checks (λ (h : Plan). h)) TellsShape g (checks_one (λ (h : Plan). h) g) shape_one

pub checked_one : (bytes : List ℕ) → AtMostOne (ReadsTextAlone bytes) → AtMostOne (IsCheckedAs bytes)
checked_one bytes text = then_one ReadsTextAlone OnGraphAlone bytes text graph_alone_one

pub traces_one : (bytes : List ℕ) → AtMostOne (ReadsText bytes) → AtMostOne (Traces bytes)
traces_one bytes text = then_one ReadsText OnGraph bytes text graph_one
