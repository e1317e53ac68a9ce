-- The text that a graph is printed as is read as this graph.
use Rattle.std.proofs.Common.{◌≡◌, ℕ, List, [], length, Result, Ok, Err, ap, sym, ◌∙◌, subst, arith}
use Rattle.std.specs.Prelude.{IfOk, MatchResult}
use Rattle.pp_graph.specs.Built.{built}
use Rattle.pp_graph.specs.Calls.{HaveForm}
use Rattle.pp_graph.specs.Plan.{Plan, IsWellFormed}
use Rattle.pp_rules.specs.Rules.{KeepsRules}
use Rattle.pp_text.specs.declared.fault.TextFault.{TextFault}
use Rattle.pp_text.specs.declared.fault.TextFault.TheVariants.{NoMemory}
use Rattle.pp_text.specs.Sequence.{Follow}
use Rattle.pp_text.specs.Text.{Told, nothing, BeginWithText, IsTextOf}
use Rattle.pp_text.specs.Outcome.{Reads}
use Rattle.pp_text.specs.Telling.{calls_of}
use Rattle.pp_text.specs.Printed.{printed}
use Rattle.pp_text.proofs.PrintedTextLemmas.{told_by, told-calls, last_of, printed-text}
use Rattle.pp_text.proofs.PrintedRangeLemmas.{calls-printable}
use Rattle.pp_text.proofs.PrintedLengthLemmas.{printed-short}

-- the printed text of a graph is a text of the calls that tell it
pub graph-text : (g : Plan) → IsWellFormed g → HaveForm (calls_of g) → Follow [] (calls_of g) → IsTextOf (printed g) (calls_of g)
graph-text g formed forms follow =
    let each = calls-printable g forms formed.in_range in
    record {
      told = told_by (calls_of g);
      last = last_of (calls_of g);
      text = printed-text g each follow (printed-short g formed each);
      calls_are = told-calls 2 nothing (calls_of g);
    }

-- this graph, and all of its text
abbrev pub IsBack : Plan → Plan × ℕ → Type 0
IsBack g r = (r.0 ≡ g) × (r.1 ≡ length (printed g))

read-is_back : (g : Plan) (bytes : List ℕ) (r : Plan × ℕ) → built (calls_of g) ≡ g → bytes ≡ printed g → (t : IsTextOf (printed g) (calls_of g)) → Reads bytes t.told t.last [] r.0 r.1 → IsBack g r
read-is_back g bytes r again e t s = (s.is ∙ ap built t.calls_are ∙ again, omega (arith, s.used_is, ap length e))

-- a reader that reads each text reads this one
abbrev pub ReadsTexts : List ℕ → Result (Plan × ℕ) TextFault → Type 0
ReadsTexts bytes result = (told : Told) (last : ℕ) (rest : List ℕ) → BeginWithText bytes told last rest → KeepsRules told.calls
    → MatchResult result (λ r. Reads bytes told last rest r.0 r.1) (λ e. e ≡ NoMemory)

result-back : (g : Plan) (bytes : List ℕ) (result : Result (Plan × ℕ) TextFault) → built (calls_of g) ≡ g → bytes ≡ printed g → (t : IsTextOf (printed g) (calls_of g)) →
    MatchResult result (λ r. Reads bytes t.told t.last [] r.0 r.1) (λ e. e ≡ NoMemory) → MatchResult result (IsBack g) (λ e. e ≡ NoMemory)
result-back g bytes (Ok r) again e t m = read-is_back g bytes r again e t m
result-back g bytes (Err fault) again e t m = m

pub printed-back : (g : Plan) (bytes : List ℕ) (result : Result (Plan × ℕ) TextFault) → KeepsRules (calls_of g) → built (calls_of g) ≡ g → IsTextOf (printed g) (calls_of g) → bytes ≡ printed g →
    ReadsTexts bytes result → MatchResult result (IsBack g) (λ e. e ≡ NoMemory)
printed-back g bytes result rules again t e reads =
    let text : BeginWithText bytes t.told t.last [] = subst (λ b. BeginWithText b t.told t.last []) (sym e) t.text in
    let kept : KeepsRules t.told.calls = subst KeepsRules (sym t.calls_are) rules in
    result-back g bytes result again e t (reads t.told t.last [] text kept)

pub back-same : (g : Plan) (result : Result (Plan × ℕ) TextFault) → MatchResult result (IsBack g) (λ e. e ≡ NoMemory) → MatchResult result (λ r. r.0 ≡ g) (λ e. e ≡ NoMemory)
back-same g (Ok r) h = h.0
back-same g (Err fault) h = h

pub back-whole : (g : Plan) (result : Result (Plan × ℕ) TextFault) → MatchResult result (IsBack g) (λ e. e ≡ NoMemory) → IfOk result (λ r. r.1 ≡ length (printed g))
back-whole g (Ok r) h = h.1
back-whole g (Err fault) h = tt
