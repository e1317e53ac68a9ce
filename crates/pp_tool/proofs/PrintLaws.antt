-- What a verdict of `print` says of the input, and back.
use Rattle.std.proofs.Common.{◌≡◌, ◌≢◌, ◌⊎◌, ◌↔◌, inl, inr, List, ℕ, [], refl, sym, ap, ◌∙◌}
use Rattle.pp_graph.specs.Plan.{Plan}
use Rattle.pp_text.specs.Printed.{printed}
use Rattle.pp_tool.specs.declared.refusal.GraphReason.{GraphReason}
use Rattle.pp_tool.specs.declared.refusal.Refusal.{Refusal}
use Rattle.pp_tool.specs.declared.refusal.Refusal.TheVariants as refusal
use Rattle.pp_tool.specs.declared.status.Status.{Status}
use Rattle.pp_tool.specs.declared.status.Status.TheVariants as status
use Rattle.pp_tool.specs.Answers.{status_of, ComesWhere}
use Rattle.pp_tool.specs.Verdict.{Gives, Refuses, Verdict, Writes, status_by}
use Rattle.pp_tool.specs.declared.words.Command.{Command}
use Rattle.pp_tool.specs.declared.words.Command.TheVariants as command
use Rattle.pp_tool.specs.GraphText.{IsNoGraph, ReadsTextAlone, IsOfGraph}
use Rattle.pp_tool.specs.Commands.{IsAnswerOf}
use Rattle.pp_tool.specs.Print.{Prints}
use Rattle.pp_tool.specs.Facts.{HasPrint}
use Rattle.pp_tool.proofs.TraceLaws.{gives_of, refused_by}
use Rattle.pp_tool.proofs.StatusLemmas.{IsAnswered, IsNoFault, found, bare, graph_no_fault, check_no_fault, too_long_no_fault, capture_no_fault, program_no_fault, no_fault}

abbrev Cause : List ℕ → Refusal → List ℕ → Type 0
Cause bytes why before = (reason : GraphReason) × IsNoGraph bytes reason × (why ≡ refusal.Graph reason) × (before ≡ [])

by_text : (bytes before : List ℕ) (why : Refusal) → ReadsTextAlone bytes (Refuses why before) ⊎ ((g : Plan) × ReadsTextAlone bytes (Gives g) × Writes printed g (Refuses why before)) → Cause bytes why before
by_text bytes before why (inl h) = h
by_text bytes before why (inr h) = absurd h.2

print_cause : (bytes before : List ℕ) (why : Refusal) → Prints bytes (Refuses why before) → Cause bytes why before
print_cause bytes before why h = by_text bytes before why (refused_by ReadsTextAlone (Writes printed) bytes why before h)

cause_back : (bytes before : List ℕ) (why : Refusal) → Cause bytes why before → Prints bytes (Refuses why before)
cause_back bytes before why h = inr (why, before, h, refl)

pub print_refused : (bytes before : List ℕ) (why : Refusal) → Prints bytes (Refuses why before) ↔ Cause bytes why before
print_refused bytes before why = (print_cause bytes before why, cause_back bytes before why)

print_lines : (bytes lines : List ℕ) → Prints bytes (Gives lines) → HasPrint bytes lines
print_lines bytes lines h = let p = gives_of ReadsTextAlone (Writes printed) bytes lines h in record { g = p.0; last = p.1.0; graph = p.1.1; lines = p.2 }

pub print_given : (bytes lines : List ℕ) → Prints bytes (Gives lines) ↔ HasPrint bytes lines
print_given bytes lines = (print_lines bytes lines, (λ h. inl (h.g, (h.last, h.graph), h.lines)))

-- the statuses
graph_of : (bytes : List ℕ) (v : Verdict) → Prints bytes v → (status_by v ≡ status.Ok) ⊎ ((status_by v ≡ status.Graph) × ((reason : GraphReason) × IsNoGraph bytes reason))
graph_of bytes (Gives lines) h = inl refl
graph_of bytes (Refuses why before) h = let c = print_cause bytes before why h in inr (ap status_of c.2, (c.0, c.1))

graph_only : (bytes : List ℕ) (v : Verdict) → status_by v ≡ status.Graph → (status_by v ≡ status.Ok) ⊎ ((status_by v ≡ status.Graph) × ((reason : GraphReason) × IsNoGraph bytes reason)) → (reason : GraphReason) × IsNoGraph bytes reason
graph_only bytes v e (inl f) = absurd (let same : status.Ok ≡ status.Graph = sym f ∙ e in cc)
graph_only bytes v e (inr f) = f.1

pub graph_where : (bytes : List ℕ) (answer : Status) → IsAnswered (Prints bytes) answer → ComesWhere answer status.Graph ((reason : GraphReason) × IsNoGraph bytes reason)
graph_where bytes answer answered = record {
  only = λ e. let v = found (Prints bytes) answer status.Graph graph_no_fault answered e in graph_only bytes v.0 v.2 (graph_of bytes v.0 v.1);
  always = λ fact. bare (refusal.Graph fact.0) answer (answered.always (Refuses (refusal.Graph fact.0) []) (cause_back bytes [] (refusal.Graph fact.0) (fact.0, fact.1, refl, refl)));
}

-- the answers that a command has over any input
not_of_graph : (why : Refusal) (answer this : Status) → IsOfGraph why → status.Graph ≢ this → answer ≡ status_of why → answer ≡ this → ⊥
not_of_graph (refusal.Graph reason) answer this is other e f = other (sym e ∙ f)
not_of_graph (refusal.Check reason) answer this is other e f = absurd is
not_of_graph refusal.TooLong answer this is other e f = absurd is
not_of_graph refusal.Capture answer this is other e f = absurd is

never : (answer this : Status) → IsNoFault this → status.Ok ≢ this → status.Graph ≢ this → IsAnswerOf command.Print answer → answer ≢ this
never answer this none ok graph (inl e) f = ok (sym e ∙ f)
never answer this none ok graph (inr (inl e)) f = no_fault answer this none f e
never answer this none ok graph (inr (inr h)) f = not_of_graph h.0 answer this h.1 graph h.2 f

pub no_check : (answer : Status) → IsAnswerOf command.Print answer → (answer ≢ status.Check) × (answer ≢ status.TooLong) × (answer ≢ status.Capture)
no_check answer h = (
  never answer status.Check check_no_fault (λ e. absurd cc) (λ e. absurd cc) h,
  never answer status.TooLong too_long_no_fault (λ e. absurd cc) (λ e. absurd cc) h,
  never answer status.Capture capture_no_fault (λ e. absurd cc) (λ e. absurd cc) h,
)

not_program : (why : Refusal) → status_of why ≢ status.Program
not_program (refusal.Graph reason) e = absurd cc
not_program (refusal.Check reason) e = absurd cc
not_program refusal.TooLong e = absurd cc
not_program refusal.Capture e = absurd cc

pub no_program : (asked : Command) (answer : Status) → IsAnswerOf asked answer → answer ≢ status.Program
no_program asked answer (inl e) f = absurd cc
no_program asked answer (inr (inl e)) f = no_fault answer status.Program program_no_fault f e
no_program asked answer (inr (inr h)) f = not_program h.0 (sym h.2 ∙ f)
