-- At least one outcome of stages comes of at least one of each.
use Rattle.std.proofs.Common.{◌≢◌, ℕ, zero, suc, ◌⊎◌, inl, inr, List, [], ◌∷◌, ◌++◌, All, length, refl, sym, subst, arith}
use Rattle.std.specs.Prelude.{slice_get, slice_index}
use Rattle.pp_capture.specs.Spelling.{Carries, GoesOn, IsByte}
use Rattle.pp_graph.specs.Plan.{Plan}
use Rattle.pp_event.specs.Run.{RunResult}
use Rattle.pp_event.specs.Answers.{by_script}
use Rattle.pp_event.specs.Loops.{AreBytes, IsGap}
use Rattle.pp_event.specs.Runs.{IsBounded}
use Rattle.pp_mean.specs.Loops.{graph_moves, IsLoopFree}
use Rattle.pp_mean.specs.Whole.{Given, EndsOnce, by_sets}
use Rattle.pp_check.specs.declared.checked.CheckFault.{CheckFault}
use Rattle.pp_check.specs.declared.checked.CheckFault.TheVariants.{Loop, SpanReopened, SpanNotOpen, SpanMixed, NoMemory}
use Rattle.pp_check.specs.Spans.{SpansFit, TellsOpen}
use Rattle.pp_check.specs.Checked.{IsFault}
use Rattle.pp_check.proofs.SomeAnswerLemmas.{some_answer, some_gap, some_masks}
use Rattle.pp_tool.specs.declared.refusal.CheckReason.{CheckReason}
use Rattle.pp_tool.specs.declared.refusal.CheckReason.TheVariants as check
use Rattle.pp_tool.specs.declared.refusal.Refusal.{Refusal}
use Rattle.pp_tool.specs.declared.refusal.Refusal.TheVariants as refusal
use Rattle.pp_tool.specs.Verdict.{Outcome, Gives, Refuses, Then, Test, Writes, AtLeastOne}
use Rattle.pp_tool.specs.Capture.{IsCapture, joined, parts_records}
use Rattle.pp_tool.specs.Report.{name_of_node, report_of}
use Rattle.pp_tool.specs.GraphText.{Begun, ReadsText, ReadsTextAlone}
use Rattle.pp_tool.specs.Checks.{IsAccepted, FailsFor, Checks, name_of_span}
use Rattle.pp_tool.specs.Check.{accepted_line, most_bits, TellsShape, OnGraphAlone, IsCheckedAs}
use Rattle.pp_tool.specs.Trace.{HasPlain, HasShortRest, ReadsCapture, Reports, OnShort, OnPlain, OnAccepted, OnGraph, Traces}

by_first : {A B C : Type 0} (first : A → Outcome B → Type 0) (next : B → Outcome C → Type 0) (a : A) → ((b : B) → first a (Gives b) → AtLeastOne (next b)) → (o : Outcome B) → first a o → AtLeastOne (Then first next a)
by_first first next a n (Gives b) h none = n b h (λ k. none (k.0, inl (b, h, k.1)))
by_first first next a n (Refuses why before) h none = none (Refuses why before, inr (why, before, h, refl))

pub then_some : {A B C : Type 0} (first : A → Outcome B → Type 0) (next : B → Outcome C → Type 0) (a : A) → AtLeastOne (first a) → ((b : B) → first a (Gives b) → AtLeastOne (next b)) → AtLeastOne (Then first next a)
then_some first next a f n none = f (λ h. by_first first next a n h.0 h.1 none)

pub test_some : {A : Type 0} (fact : A → Type 0) (r : Refusal) (a : A) → AtLeastOne (Test fact r a)
test_some fact r a none = none (Refuses r [], ((λ p. none (Gives a, (p, refl))), refl, refl))

pub writes_some : {A : Type 0} (lines : A → List ℕ) (a : A) → AtLeastOne (Writes lines a)
writes_some lines a none = none (Gives (lines a), refl)

-- a fault of a graph, by names
reason_for : (g : Plan) (f : CheckFault) → f ≢ NoMemory → IsFault g f → (reason : CheckReason) × FailsFor g reason
reason_for g (Loop byte cycle) other h = (check.Loop (name_of_node (slice_get g.nodes (slice_index cycle 0))) byte, (cycle, h, refl))
reason_for g (SpanReopened node span) other h =
    (check.Reopened (name_of_span (slice_get g.spans span)) (name_of_node (slice_get g.nodes node)), (node, span, h, record { of_node = refl; of_span = refl }))
reason_for g (SpanNotOpen node span) other h =
    (check.NotOpen (name_of_span (slice_get g.spans span)) (name_of_node (slice_get g.nodes node)), (node, span, h, record { of_node = refl; of_span = refl }))
reason_for g (SpanMixed node span) other h =
    (check.Mixed (name_of_span (slice_get g.spans span)) (name_of_node (slice_get g.nodes node)), (node, span, h, record { of_node = refl; of_span = refl }))
reason_for g NoMemory other h = absurd (other refl)

checks_by : {A : Type 0} (graph : A → Plan) (a : A) → (IsLoopFree (graph a) × SpansFit (graph a)) ⊎ ((f : CheckFault) × (f ≢ NoMemory) × IsFault (graph a) f) → AtLeastOne (Checks graph a)
checks_by graph a (inl h) none = none (Gives a, (record { loop_free = h.0; spans_fit = h.1 }, refl))
checks_by graph a (inr fault) none =
    let reason : (reason : CheckReason) × FailsFor (graph a) reason = reason_for (graph a) fault.0 fault.1 fault.2 in
    none (Refuses (refusal.Check reason.0) [], (reason.0, reason.1, refl, refl))

-- a graph is accepted, or fails for some reason
pub checks_some : {A : Type 0} (graph : A → Plan) (a : A) → AtLeastOne (Checks graph a)
checks_some graph a none = some_answer (graph a) (λ answer. checks_by graph a answer none)

shape_by : (g : Plan) → (gap : ℕ) × IsGap (graph_moves g) gap → (opened : List ℕ) × TellsOpen g opened → AtLeastOne (TellsShape g)
shape_by g gap masks none = none (
  Gives (accepted_line (length g.nodes) gap.0 (most_bits masks.0)),
  record { gap = gap.0; opened = masks.0; exact_gap = gap.1; exact_spans = masks.1; line_is = refl },
)

-- an accepted graph has a shape
pub shape_some : (g : Plan) → IsAccepted g → AtLeastOne (TellsShape g)
shape_some g accepted none = some_gap g accepted.loop_free (λ gap. some_masks g (λ masks. shape_by g gap masks none))

graph_alone_some : (g : Plan) → AtLeastOne (OnGraphAlone g)
graph_alone_some g = then_some (Checks (λ (h : Plan). h)) TellsShape g (checks_some (λ (h : Plan). h) g) (λ b h. shape_some b (subst IsAccepted (sym h.1) h.0))

pub checked_some : (bytes : List ℕ) → AtLeastOne (ReadsTextAlone bytes) → AtLeastOne (IsCheckedAs bytes)
checked_some bytes text = then_some ReadsTextAlone OnGraphAlone bytes text (λ b h. graph_alone_some b)

capture_some : (begun : Begun) → AtLeastOne (ReadsCapture begun)
capture_some begun none = none (Refuses refusal.Capture [], ((λ parts is. none (Gives (begun.0, joined parts), (parts, is, refl))), refl, refl))

-- the bytes of a capture's parts are bytes
bytes_of : (xs : List ℕ) → All IsByte xs → AreBytes xs
bytes_of [] h i = omega arith
bytes_of (x ∷ xs) h zero = h 0 x (omega arith)
bytes_of (x ∷ xs) h (suc i) = bytes_of xs (λ k d inside. h (suc k) d (omega arith)) i

bytes_both : (xs ys : List ℕ) → AreBytes xs → AreBytes ys → AreBytes (xs ++ ys)
bytes_both [] ys h k i = k i
bytes_both (x ∷ xs) ys h k zero = h 0
bytes_both (x ∷ xs) ys h k (suc i) = bytes_both xs ys (λ j. h (suc j)) k i

joined_bytes : (parts : List (List ℕ)) → All GoesOn (parts_records parts) → AreBytes (joined parts)
joined_bytes [] h i = omega arith
joined_bytes (part ∷ parts) h i =
    bytes_both part (joined parts) (bytes_of part (h 0 (Carries 0 part) (omega arith)).fits.1.each) (joined_bytes parts (λ k d inside. h (suc k) d (omega arith))) i

capture_bytes : (bytes : List ℕ) (parts : List (List ℕ)) → IsCapture bytes parts → AreBytes (joined parts)
capture_bytes bytes parts h = joined_bytes parts (λ k d inside. h.each (suc k) d (omega arith))

-- no answer is over 32 bits
no_answers : IsBounded (by_script [])
no_answers items code = omega arith

module _ (one_run : (x : Given) → IsLoopFree x.graph → IsBounded x.oracle → AreBytes x.bytes → (r : RunResult) × EndsOnce x r) where
  -- the run of an accepted graph on a string of bytes has a report
  reports_some : (begun : Begun) → IsAccepted begun.0 → AreBytes begun.1 → AtLeastOne (Reports begun)
  reports_some begun accepted bytes none =
      let run : (r : RunResult) × EndsOnce (by_sets begun.0 [] [] 0 begun.1) r = one_run (by_sets begun.0 [] [] 0 begun.1) accepted.loop_free no_answers bytes in
      none (Gives (report_of begun.0 run.0), (run.0, (run.1.moves_made, run.1.ended), refl))

  short_some : (begun : Begun) → IsAccepted begun.0 → AtLeastOne (OnShort begun)
  short_some begun accepted =
      then_some ReadsCapture Reports begun (capture_some begun)
      (λ b h. reports_some b (subst (λ (x : Begun). IsAccepted x.0) (sym h.2) accepted) (subst (λ (x : Begun). AreBytes x.1) (sym h.2) (capture_bytes begun.1 h.0 h.1)))

  plain_some : (begun : Begun) → IsAccepted begun.0 → AtLeastOne (OnPlain begun)
  plain_some begun accepted =
      then_some (Test HasShortRest refusal.TooLong) OnShort begun (test_some HasShortRest refusal.TooLong begun) (λ b h. short_some b (subst (λ (x : Begun). IsAccepted x.0) (sym h.1) accepted))

  accepted_some : (begun : Begun) → IsAccepted begun.0 → AtLeastOne (OnAccepted begun)
  accepted_some begun accepted =
      then_some (Test HasPlain (refusal.Check check.NotYet)) OnPlain begun (test_some HasPlain (refusal.Check check.NotYet) begun)
      (λ b h. plain_some b (subst (λ (x : Begun). IsAccepted x.0) (sym h.1) accepted))

  graph_some : (begun : Begun) → AtLeastOne (OnGraph begun)
  graph_some begun =
      then_some (Checks (λ (b : Begun). b.0)) OnAccepted begun (checks_some (λ (b : Begun). b.0) begun) (λ b h. accepted_some b (subst (λ (x : Begun). IsAccepted x.0) (sym h.1) h.0))

  pub traces_some : (bytes : List ℕ) → AtLeastOne (ReadsText bytes) → AtLeastOne (Traces bytes)
  traces_some bytes text = then_some ReadsText OnGraph bytes text (λ b h. graph_some b)
