-- A valid program is valid when it is finished.
use Rattle.std.proofs.Common.{inl, inr}
use Rattle.pp_flow.proofs.StandingLemmas.{no-fault-has}
use Rattle.pp_program.specs.declared.fault.VerifyRule.TheVariants as rules
use Rattle.pp_program.specs.declared.program.Program.{Program}
use Rattle.pp_program.specs.Spans.{SpansFit, ways}
use Rattle.pp_program.specs.Valid.{Holds, IsValid}
use Rattle.pp_program.proofs.ValidLaws.{loop-rule}
use Rattle.pp_clean.specs.Finished.{IsFinishable, finished}
use Rattle.pp_clean.proofs.LoopTrimLaws.{finished_loop_free}
use Rattle.pp_clean.proofs.SpanLaws.{finished_spans_fit}
use Rattle.pp_clean.proofs.TargetLaws.{finished_targets}
use Rattle.pp_clean.proofs.WidthLaws.{finished_widths}
use Rattle.pp_clean.proofs.TextLaws.{finished_names}

-- spans fit where the rule on them holds
rule_fits : (p : Program) → Holds p rules.Spans → SpansFit p
rule_fits p holds n = record {
  reopens = λ span h. holds n (inl (span, h));
  closes = λ span h. holds n (inr (inl (span, h)));
  mixes = λ span h. holds n (inr (inr (span, h)));
}

-- all rules still hold
pub finished_valid : (p : Program) → IsFinishable p → IsValid p → IsValid (finished p)
finished_valid p h holds rules.Target = finished_targets p h (holds rules.Target)
finished_valid p h holds rules.Width = finished_widths p h (holds rules.Width)
finished_valid p h holds rules.Loop = (loop-rule (finished p)).0 (finished_loop_free p h ((loop-rule p).1 (holds rules.Loop)))
finished_valid p h holds rules.Spans = λ n fault. no-fault-has (ways (finished p)) n (finished_spans_fit p h (rule_fits p (holds rules.Spans)) n) fault
finished_valid p h holds rules.Names = finished_names p (holds rules.Names)
