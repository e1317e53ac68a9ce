-- What a fault of reading a text says of the bytes.
use Rattle.std.proofs.Common.{◌≡◌, ℕ, ◌⊎◌, inl, inr, List, refl, sym, ap, ◌∙◌}
use Rattle.pp_rules.specs.Rules.{KeepsRules}
use Rattle.pp_rules.specs.declared.rules.GraphRule.{GraphRule}
use Rattle.pp_text.specs.declared.fault.TextFault.{TextFault}
use Rattle.pp_text.specs.declared.fault.TextFault.TheVariants as fault
use Rattle.pp_text.specs.Text.{Told, BeginWithText, IsWrongAt, IsTooLong}
use Rattle.pp_text.specs.Outcome.{Breaks}
use Rattle.pp_tool.specs.declared.refusal.GraphReason.{GraphReason}
use Rattle.pp_tool.specs.declared.refusal.GraphReason.TheVariants as graph
use Rattle.pp_tool.specs.GraphText.{HasNoGraph}
use Rattle.pp_tool.specs.steps.Reading.{IsTextStop, IsRefusedFor}
use Rattle.pp_tool.specs.steps.Stops.{stop_of}

-- what reading a text says where it ends with a fault
pub record Tells (bytes : List ℕ) (f : TextFault) : Type 0 where
  pub syntax : (line : ℕ) → f ≡ fault.Syntax line → IsWrongAt bytes line
  pub too_long : f ≡ fault.TooLong → IsTooLong bytes
  pub rule : (line : ℕ) (rule : GraphRule) → f ≡ fault.Graph line rule → Breaks bytes line rule
  pub graph_only : (told : Told) (last : ℕ) (rest : List ℕ) → BeginWithText bytes told last rest → KeepsRules told.calls → f ≡ fault.NoMemory
  pub syntax_only : (line : ℕ) → IsWrongAt bytes line → (f ≡ fault.Syntax line) ⊎ (f ≡ fault.NoMemory)
  pub too_long_only : IsTooLong bytes → (f ≡ fault.TooLong) ⊎ (f ≡ fault.NoMemory)
  pub rule_only : (line : ℕ) (rule : GraphRule) → Breaks bytes line rule → (f ≡ fault.Graph line rule) ⊎ (f ≡ fault.NoMemory)

-- the fault for a reason, and back
abbrev fault_for : GraphReason → TextFault
fault_for graph.LongLine = fault.TooLong
fault_for (graph.WrongLine line) = fault.Syntax line
fault_for (graph.BrokenRule line rule) = fault.Graph line rule

abbrev reason_for : TextFault → GraphReason
reason_for (fault.Syntax line) = graph.WrongLine line
reason_for fault.TooLong = graph.LongLine
reason_for (fault.Graph line rule) = graph.BrokenRule line rule
reason_for fault.NoMemory = graph.LongLine

and_back : (reason : GraphReason) → reason_for (fault_for reason) ≡ reason
and_back graph.LongLine = refl
and_back (graph.WrongLine line) = refl
and_back (graph.BrokenRule line rule) = refl

not_memory : (reason : GraphReason) → fault_for reason ≡ fault.NoMemory → ⊥
not_memory graph.LongLine e = absurd cc
not_memory (graph.WrongLine line) e = absurd cc
not_memory (graph.BrokenRule line rule) e = absurd cc

of_reason : (bytes : List ℕ) (f : TextFault) (reason : GraphReason) → Tells bytes f → HasNoGraph bytes reason → (f ≡ fault_for reason) ⊎ (f ≡ fault.NoMemory)
of_reason bytes f graph.LongLine t h = t.too_long_only h
of_reason bytes f (graph.WrongLine line) t h = t.syntax_only line h
of_reason bytes f (graph.BrokenRule line rule) t h = t.rule_only line rule h

one_reason : (reason other : GraphReason) → (fault_for reason ≡ fault_for other) ⊎ (fault_for reason ≡ fault.NoMemory) → other ≡ reason
one_reason reason other (inl e) = sym (and_back other) ∙ (sym (ap reason_for e) ∙ and_back reason)
one_reason reason other (inr e) = absurd (not_memory reason e)

refused_for : (bytes : List ℕ) (reason : GraphReason) → Tells bytes (fault_for reason) → HasNoGraph bytes reason → IsRefusedFor bytes reason
refused_for bytes reason t here = record {
  here = here;
  none = λ g last rest b. not_memory reason (t.graph_only b.told last rest b.text b.rules);
  only = λ other h. one_reason reason other (of_reason bytes (fault_for reason) other t h);
}

pub text_stop : (bytes : List ℕ) (f : TextFault) → Tells bytes f → IsTextStop bytes (stop_of f)
text_stop bytes (fault.Syntax line) t = inr (graph.WrongLine line, refl, refused_for bytes (graph.WrongLine line) t (t.syntax line refl))
text_stop bytes fault.TooLong t = inr (graph.LongLine, refl, refused_for bytes graph.LongLine t (t.too_long refl))
text_stop bytes (fault.Graph line rule) t = inr (graph.BrokenRule line rule, refl, refused_for bytes (graph.BrokenRule line rule) t (t.rule line rule refl))
text_stop bytes fault.NoMemory t = inl refl
