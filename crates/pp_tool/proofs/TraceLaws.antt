-- What a verdict of `trace` says of the input, and each fact of the input gives its verdict.
use Rattle.std.proofs.Common.{◌≡◌, ℕ, ◌<◌, ◌≤◌, ◌⊎◌, inl, inr, ◌↔◌, List, [], length, refl, sym, ap, subst, ◌∙◌, arith}
use Rattle.pp_graph.specs.Plan.{Plan}
use Rattle.pp_tool.specs.declared.refusal.GraphReason.{GraphReason}
use Rattle.pp_tool.specs.declared.refusal.CheckReason.{CheckReason}
use Rattle.pp_tool.specs.declared.refusal.CheckReason.TheVariants as check
use Rattle.pp_tool.specs.declared.refusal.Refusal.{Refusal}
use Rattle.pp_tool.specs.declared.refusal.Refusal.TheVariants as refusal
use Rattle.pp_tool.specs.declared.status.Status.{Status}
use Rattle.pp_tool.specs.declared.status.Status.TheVariants as status
use Rattle.pp_tool.specs.Answers.{ComesWhere}
use Rattle.pp_tool.specs.Verdict.{Outcome, Gives, Refuses, Verdict, Then, Test, status_by}
use Rattle.pp_tool.specs.Facts.{HasOtherGraph, FailsCheck, HasLongRest, HasNoCapture}
use Rattle.pp_tool.proofs.StatusLemmas.{IsAnswered, found, bare, graph_no_fault, check_no_fault, too_long_no_fault, capture_no_fault}
use Rattle.pp_tool.specs.Capture.{IsCapture, joined}
use Rattle.pp_tool.specs.GraphText.{Begun, BeginsWithGraph, ReadsText, HasNoGraph}
use Rattle.pp_tool.specs.Checks.{IsAccepted, Checks}
use Rattle.pp_tool.specs.Trace.{capture_limit, BeginsWithPlain, HasPlain, HasShortRest, ReadsCapture, Reports, OnShort, OnPlain, OnAccepted, OnGraph, Traces, HasReport}

-- lines come of each stage's handing on
pub gives_of : {A B C : Type 0} (first : A → Outcome B → Type 0) (next : B → Outcome C → Type 0) (a : A) (c : C) → Then first next a (Gives c) → (b : B) × first a (Gives b) × next b (Gives c)
gives_of first next a c (inl h) = h
gives_of first next a c (inr h) = absurd (let e = h.3 in cc)

pub traced : (bytes lines : List ℕ) → Traces bytes (Gives lines) → HasReport bytes lines
traced bytes lines h =
    let one = gives_of ReadsText OnGraph bytes lines h in
    let checks = gives_of (Checks (λ (b : Begun). b.0)) OnAccepted one.0 lines one.2 in
    let two = gives_of (Test HasPlain (refusal.Check check.NotYet)) OnPlain checks.0 lines checks.2 in
    let three = gives_of (Test HasShortRest refusal.TooLong) OnShort two.0 lines two.2 in
    let four = gives_of ReadsCapture Reports three.0 lines three.2 in
    let same : three.0 ≡ one.0 = three.1.1 ∙ two.1.1 ∙ checks.1.1 in
    let out : four.0 ≡ (one.0.0, joined four.1.0) = four.1.2 ∙ ap (λ (b : Begun). (b.0, joined four.1.0)) same in
    let last = subst (λ b. Reports b (Gives lines)) out four.2 in
    record {
      g = one.0.0;
      rest = one.0.1;
      parts = four.1.0;
      result = last.0;
      graph = record { last = one.1.0; graph = one.1.1; accepted = checks.1.0; plain = subst HasPlain checks.1.1 two.1.0 };
      capture = subst (λ (b : Begun). IsCapture b.1 four.1.0) same four.1.1;
      run = last.1;
      lines = last.2;
    }

-- a refusal comes of one of the two stages
abbrev pub RefusedBy : {A B C : Type 0} → (A → Outcome B → Type 0) → (B → Outcome C → Type 0) → A → Refusal → List ℕ → Type 0
RefusedBy {A} {B} first next a r before = first a (Refuses r before) ⊎ ((b : B) × first a (Gives b) × next b (Refuses r before))

refuses_same : {A : Type 0} (o : Outcome A) (r q : Refusal) (x y : List ℕ) → o ≡ Refuses r x → o ≡ Refuses q y → (r ≡ q) × (x ≡ y)
refuses_same o r q x y e f = (cc, cc)

pub refused_by : {A B C : Type 0} (first : A → Outcome B → Type 0) (next : B → Outcome C → Type 0) (a : A) (r : Refusal) (before : List ℕ) → Then first next a (Refuses r before) → RefusedBy first next a r before
refused_by first next a r before (inl h) = inr h
refused_by first next a r before (inr h) =
    let same = refuses_same (Refuses r before) r h.0 before h.1 refl h.3 in
    inl (subst (λ q. first a (Refuses q before)) (sym same.0) (subst (λ x. first a (Refuses h.0 x)) (sym same.1) h.2))

not_le : {a b : ℕ} → ¬ (a ≤ b) → b < a
not_le {a} {b} h = omega (arith, h)

lt_not : {a b : ℕ} → b < a → ¬ (a ≤ b)
lt_not {a} {b} h k = omega (arith, h, k)

-- what a refusal of `trace` says
abbrev TraceCause : List ℕ → Refusal → Type 0
TraceCause bytes (refusal.Graph why) = HasNoGraph bytes why
TraceCause bytes (refusal.Check why) = FailsCheck bytes why
TraceCause bytes refusal.TooLong = HasLongRest bytes
TraceCause bytes refusal.Capture = HasNoCapture bytes

abbrev Cause : List ℕ → Refusal → List ℕ → Type 0
Cause bytes r before = TraceCause bytes r × (before ≡ [])

by_short : (bytes : List ℕ) (g : Plan) (rest : List ℕ) (r : Refusal) (before : List ℕ) → BeginsWithPlain bytes g rest → length rest ≤ capture_limit →
    RefusedBy ReadsCapture Reports (g, rest) r before → Cause bytes r before
by_short bytes g rest r before begins short (inl h) =
    subst (λ q. Cause bytes q before) (sym h.1) (record { g = g; rest = rest; graph = begins; short = short; none = h.0 }, h.2)
by_short bytes g rest r before begins short (inr h) = absurd h.2

by_plain : (bytes : List ℕ) (g : Plan) (rest : List ℕ) (r : Refusal) (before : List ℕ) → BeginsWithPlain bytes g rest →
    RefusedBy (Test HasShortRest refusal.TooLong) OnShort (g, rest) r before → Cause bytes r before
by_plain bytes g rest r before begins (inl h) =
    subst (λ q. Cause bytes q before) (sym h.1) (record { g = g; rest = rest; graph = begins; long = not_le h.0 }, h.2)
by_plain bytes g rest r before begins (inr h) =
    by_short bytes g rest r before begins h.1.0 (refused_by ReadsCapture Reports (g, rest) r before (subst (λ b. OnShort b (Refuses r before)) h.1.1 h.2))

by_accepted : (bytes : List ℕ) (g : Plan) (last : ℕ) (rest : List ℕ) (r : Refusal) (before : List ℕ) → BeginsWithGraph bytes g last rest → IsAccepted g →
    RefusedBy (Test HasPlain (refusal.Check check.NotYet)) OnPlain (g, rest) r before → Cause bytes r before
by_accepted bytes g last rest r before text accepted (inl h) =
    subst (λ q. Cause bytes q before) (sym h.1) (inl (refl, record { g = g; last = last; rest = rest; graph = text; accepted = accepted; other = h.0 }), h.2)
by_accepted bytes g last rest r before text accepted (inr h) =
    by_plain bytes g rest r before (record { last = last; graph = text; accepted = accepted; plain = h.1.0 })
    (refused_by (Test HasShortRest refusal.TooLong) OnShort (g, rest) r before (subst (λ b. OnPlain b (Refuses r before)) h.1.1 h.2))

by_graph : (bytes : List ℕ) (g : Plan) (last : ℕ) (rest : List ℕ) (r : Refusal) (before : List ℕ) → BeginsWithGraph bytes g last rest →
    RefusedBy (Checks (λ (b : Begun). b.0)) OnAccepted (g, rest) r before → Cause bytes r before
by_graph bytes g last rest r before text (inl h) =
    subst (λ q. Cause bytes q before) (sym h.2) (inr (record { g = g; last = last; rest = rest; graph = text; fails = h.1 }), h.3)
by_graph bytes g last rest r before text (inr h) =
    by_accepted bytes g last rest r before text h.1.0 (refused_by (Test HasPlain (refusal.Check check.NotYet)) OnPlain (g, rest) r before (subst (λ b. OnAccepted b (Refuses r before)) h.1.1 h.2))

by_text : (bytes : List ℕ) (r : Refusal) (before : List ℕ) → RefusedBy ReadsText OnGraph bytes r before → Cause bytes r before
by_text bytes r before (inl h) = subst (λ q. Cause bytes q before) (sym h.2) (h.1, h.3)
by_text bytes r before (inr h) = by_graph bytes h.0.0 h.1.0 h.0.1 r before h.1.1 (refused_by (Checks (λ (b : Begun). b.0)) OnAccepted h.0 r before h.2)

pub trace_cause : (bytes : List ℕ) (r : Refusal) (before : List ℕ) → Traces bytes (Refuses r before) → Cause bytes r before
trace_cause bytes r before h = by_text bytes r before (refused_by ReadsText OnGraph bytes r before h)

-- and back
plain_text : (bytes : List ℕ) (g : Plan) (rest : List ℕ) (v : Verdict) → BeginsWithPlain bytes g rest → OnPlain (g, rest) v → Traces bytes v
plain_text bytes g rest v b h = inl ((g, rest), (b.last, b.graph), inl ((g, rest), (b.accepted, refl), inl ((g, rest), (b.plain, refl), h)))

short_text : (bytes : List ℕ) (g : Plan) (rest : List ℕ) (v : Verdict) → BeginsWithPlain bytes g rest → length rest ≤ capture_limit → OnShort (g, rest) v → Traces bytes v
short_text bytes g rest v b short h = plain_text bytes g rest v b (inl ((g, rest), (short, refl), h))

other_back : (bytes : List ℕ) → HasOtherGraph bytes → Traces bytes (Refuses (refusal.Check check.NotYet) [])
other_back bytes h = inl ((h.g, h.rest), (h.last, h.graph), inl ((h.g, h.rest), (h.accepted, refl), inr (refusal.Check check.NotYet, [], (h.other, refl, refl), refl)))

check_back : (bytes : List ℕ) (reason : CheckReason) → FailsCheck bytes reason → Traces bytes (Refuses (refusal.Check reason) [])
check_back bytes reason (inl h) = subst (λ (r : CheckReason). Traces bytes (Refuses (refusal.Check r) [])) (sym h.0) (other_back bytes h.1)
check_back bytes reason (inr h) = inl ((h.g, h.rest), (h.last, h.graph), inr (refusal.Check reason, [], (reason, h.fails, refl, refl), refl))

cause_back : (bytes : List ℕ) (r : Refusal) → TraceCause bytes r → Traces bytes (Refuses r [])
cause_back bytes (refusal.Graph why) h = inr (refusal.Graph why, [], (why, h, refl, refl), refl)
cause_back bytes (refusal.Check why) h = check_back bytes why h
cause_back bytes refusal.TooLong h = plain_text bytes h.g h.rest (Refuses refusal.TooLong []) h.graph (inr (refusal.TooLong, [], (lt_not h.long, refl, refl), refl))
cause_back bytes refusal.Capture h = short_text bytes h.g h.rest (Refuses refusal.Capture []) h.graph h.short (inr (refusal.Capture, [], (h.none, refl, refl), refl))

pub trace_refused : (bytes : List ℕ) (r : Refusal) (before : List ℕ) → Traces bytes (Refuses r before) ↔ Cause bytes r before
trace_refused bytes r before = (
  trace_cause bytes r before,
  (λ h. subst (λ x. Traces bytes (Refuses r x)) (sym h.1) (cause_back bytes r h.0)),
)

-- the statuses
graph_of : (bytes : List ℕ) (v : Verdict) → Traces bytes v → status_by v ≡ status.Graph → (reason : GraphReason) × HasNoGraph bytes reason
graph_of bytes (Gives lines) h e = absurd cc
graph_of bytes (Refuses (refusal.Graph why) before) h e = (why, (trace_cause bytes (refusal.Graph why) before h).0)
graph_of bytes (Refuses (refusal.Check why) before) h e = absurd cc
graph_of bytes (Refuses refusal.TooLong before) h e = absurd cc
graph_of bytes (Refuses refusal.Capture before) h e = absurd cc

pub graph_where : (bytes : List ℕ) (answer : Status) → IsAnswered (Traces bytes) answer → ComesWhere answer status.Graph ((reason : GraphReason) × HasNoGraph bytes reason)
graph_where bytes answer answered = record {
  only = λ e. let v = found (Traces bytes) answer status.Graph graph_no_fault answered e in graph_of bytes v.0 v.1 v.2;
  always = λ fact. bare (refusal.Graph fact.0) answer (answered.always (Refuses (refusal.Graph fact.0) []) (cause_back bytes (refusal.Graph fact.0) fact.1));
}

check_of : (bytes : List ℕ) (v : Verdict) → Traces bytes v → status_by v ≡ status.Check → (reason : CheckReason) × FailsCheck bytes reason
check_of bytes (Gives lines) h e = absurd cc
check_of bytes (Refuses (refusal.Graph why) before) h e = absurd cc
check_of bytes (Refuses (refusal.Check why) before) h e = (why, (trace_cause bytes (refusal.Check why) before h).0)
check_of bytes (Refuses refusal.TooLong before) h e = absurd cc
check_of bytes (Refuses refusal.Capture before) h e = absurd cc

pub check_where : (bytes : List ℕ) (answer : Status) → IsAnswered (Traces bytes) answer → ComesWhere answer status.Check ((reason : CheckReason) × FailsCheck bytes reason)
check_where bytes answer answered = record {
  only = λ e. let v = found (Traces bytes) answer status.Check check_no_fault answered e in check_of bytes v.0 v.1 v.2;
  always = λ fact. bare (refusal.Check fact.0) answer (answered.always (Refuses (refusal.Check fact.0) []) (cause_back bytes (refusal.Check fact.0) fact.1));
}

too_long_of : (bytes : List ℕ) (v : Verdict) → Traces bytes v → status_by v ≡ status.TooLong → HasLongRest bytes
too_long_of bytes (Gives lines) h e = absurd cc
too_long_of bytes (Refuses (refusal.Graph why) before) h e = absurd cc
too_long_of bytes (Refuses (refusal.Check why) before) h e = absurd cc
too_long_of bytes (Refuses refusal.TooLong before) h e = (trace_cause bytes refusal.TooLong before h).0
too_long_of bytes (Refuses refusal.Capture before) h e = absurd cc

pub too_long_where : (bytes : List ℕ) (answer : Status) → IsAnswered (Traces bytes) answer → ComesWhere answer status.TooLong (HasLongRest bytes)
too_long_where bytes answer answered = record {
  only = λ e. let v = found (Traces bytes) answer status.TooLong too_long_no_fault answered e in too_long_of bytes v.0 v.1 v.2;
  always = λ fact. bare refusal.TooLong answer (answered.always (Refuses refusal.TooLong []) (cause_back bytes refusal.TooLong fact));
}

capture_of : (bytes : List ℕ) (v : Verdict) → Traces bytes v → status_by v ≡ status.Capture → HasNoCapture bytes
capture_of bytes (Gives lines) h e = absurd cc
capture_of bytes (Refuses (refusal.Graph why) before) h e = absurd cc
capture_of bytes (Refuses (refusal.Check why) before) h e = absurd cc
capture_of bytes (Refuses refusal.TooLong before) h e = absurd cc
capture_of bytes (Refuses refusal.Capture before) h e = (trace_cause bytes refusal.Capture before h).0

pub capture_where : (bytes : List ℕ) (answer : Status) → IsAnswered (Traces bytes) answer → ComesWhere answer status.Capture (HasNoCapture bytes)
capture_where bytes answer answered = record {
  only = λ e. let v = found (Traces bytes) answer status.Capture capture_no_fault answered e in capture_of bytes v.0 v.1 v.2;
  always = λ fact. bare refusal.Capture answer (answered.always (Refuses refusal.Capture []) (cause_back bytes refusal.Capture fact));
}
