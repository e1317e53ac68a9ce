-- What bytes are as a text, they are alone.
use Rattle.std.proofs.Common.{◌≡◌, ℕ, inl, inr, List}
use Rattle.std.specs.Prelude.{Err}
use Rattle.pp_rules.specs.declared.rules.GraphRule.{GraphRule}
use Rattle.pp_rules.specs.Rules.{KeepsRules}
use Rattle.pp_text.specs.declared.fault.TextFault.TheVariants as fault
use Rattle.pp_text.specs.Text.{Told, BeginWithText, IsWrongAt, IsTooLong}
use Rattle.pp_text.specs.Outcome.{Breaks}
use Rattle.pp_text.specs.steps.Rows.{Ended, WrongAt, Endless, Long}
use Rattle.pp_text.specs.steps.Settled.{Settles}
use Rattle.pp_text.proofs.ReadingLemmas.{settles_graph_only, settles_syntax_only, settles_rule_only}
use Rattle.pp_text.proofs.OneTextLemmas.{bytes_only}

-- a text begins them
pub text_same : (bytes : List ℕ) (told other : Told) (last end : ℕ) (rest more : List ℕ) → BeginWithText bytes told last rest → BeginWithText bytes other end more →
    (told ≡ other) × (last ≡ end) × (rest ≡ more)
text_same bytes told other last end rest more p q =
    let same = (bytes_only bytes (Ended told last rest) p).1 (Ended other end more) q in
    (cc, cc, cc)

-- the faults settle what comes of the bytes
settled_wrong : (bytes : List ℕ) (line : ℕ) → IsWrongAt bytes line → Settles bytes (Err (fault.Syntax line))
settled_wrong bytes line (inl w) = inl (bytes_only bytes (WrongAt line) w)
settled_wrong bytes line (inr w) = inr (w.0, bytes_only bytes (Endless w.0) w.1, w.2)

settled_rule : (bytes : List ℕ) (line : ℕ) (rule : GraphRule) → Breaks bytes line rule → Settles bytes (Err (fault.Graph line rule))
settled_rule bytes line rule b = (b.told, b.last, b.rest, b.call, bytes_only bytes (Ended b.told b.last b.rest) b.text, b.first, b.line_is)

pub wrong_line_same : (bytes : List ℕ) (line other : ℕ) → IsWrongAt bytes line → IsWrongAt bytes other → line ≡ other
wrong_line_same bytes line other p q = elim (settles_syntax_only bytes (Err (fault.Syntax line)) (settled_wrong bytes line p) other q) [
  | inl same ↦ cc
  | inr none ↦ absurd cc
]

pub text_not_wrong : (bytes : List ℕ) (told : Told) (last : ℕ) (rest : List ℕ) (line : ℕ) → BeginWithText bytes told last rest → ¬ (IsWrongAt bytes line)
text_not_wrong bytes told last rest line p (inl w) =
    let same = (bytes_only bytes (Ended told last rest) p).1 (WrongAt line) w in
    absurd cc
text_not_wrong bytes told last rest line p (inr w) =
    let same = (bytes_only bytes (Ended told last rest) p).1 (Endless w.0) w.1 in
    absurd cc

pub text_not_long : (bytes : List ℕ) (told : Told) (last : ℕ) (rest : List ℕ) → BeginWithText bytes told last rest → ¬ (IsTooLong bytes)
text_not_long bytes told last rest p w =
    let same = (bytes_only bytes (Ended told last rest) p).1 Long w in
    absurd cc

pub wrong_not_long : (bytes : List ℕ) (line : ℕ) → IsWrongAt bytes line → ¬ (IsTooLong bytes)
wrong_not_long bytes line (inl w) long =
    let same = (bytes_only bytes (WrongAt line) w).1 Long long in
    absurd cc
wrong_not_long bytes line (inr w) long =
    let same = (bytes_only bytes (Endless w.0) w.1).1 Long long in
    absurd cc

pub fault_same : (bytes : List ℕ) (line other : ℕ) (rule broken : GraphRule) → Breaks bytes line rule → Breaks bytes other broken → (line ≡ other) × (rule ≡ broken)
fault_same bytes line other rule broken p q = elim (settles_rule_only bytes (Err (fault.Graph line rule)) (settled_rule bytes line rule p) other broken q) [
  | inl same ↦ (cc, cc)
  | inr none ↦ absurd cc
]

pub fault_not_graph : (bytes : List ℕ) (line : ℕ) (rule : GraphRule) (told : Told) (last : ℕ) (rest : List ℕ) → Breaks bytes line rule → BeginWithText bytes told last rest → ¬ (KeepsRules told.calls)
fault_not_graph bytes line rule told last rest b text rules =
    let none = settles_graph_only bytes (Err (fault.Graph line rule)) (settled_rule bytes line rule b) told last rest text rules in
    absurd cc
