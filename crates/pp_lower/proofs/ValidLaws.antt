-- The program of a graph is valid.
use Rattle.std.proofs.Common.{sym, ◌∙◌, inl, inr}
use Rattle.std.proofs.lemmas.Bool.{false≢true}
use Rattle.pp_graph.specs.Plan.{Plan, IsWellFormed}
use Rattle.pp_mean.specs.Loops.{IsLoopFree}
use Rattle.pp_check.specs.Spans.{SpansFit}
use Rattle.pp_program.specs.declared.fault.VerifyRule.TheVariants as rules
use Rattle.pp_program.specs.Valid.{Holds, IsValid}
use Rattle.pp_lower.specs.Lowered.{lowered}
use Rattle.pp_lower.proofs.FormLaws.{well_formed_lowers}
use Rattle.pp_lower.proofs.FrameLemmas.{frame_right}
use Rattle.pp_lower.proofs.ValidTargets.{state_fits}
use Rattle.pp_lower.proofs.ValidWidths.{state_wide}
use Rattle.pp_lower.proofs.ValidLoops.{loops_right}
use Rattle.pp_lower.proofs.ValidSpans.{spans_right}
use Rattle.pp_lower.proofs.ValidNames.{texts_right}

pub targets : (g : Plan) → IsWellFormed g → Holds (lowered g) rules.Target
targets g form at (inl (s, there, fails)) = false≢true (sym fails ∙ state_fits g form at s there)
targets g form at (inr (behind, fails)) = false≢true (sym fails ∙ frame_right g form)

pub widths : (g : Plan) → IsWellFormed g → Holds (lowered g) rules.Width
widths g form at (s, there, wide) = false≢true (sym (state_wide g form at s there) ∙ wide)

pub loops : (g : Plan) → IsWellFormed g → IsLoopFree g → Holds (lowered g) rules.Loop
loops g form free at h = loops_right g (well_formed_lowers g form) free at h

pub spans : (g : Plan) → IsWellFormed g → SpansFit g → Holds (lowered g) rules.Spans
spans g form fit at h = spans_right g form fit at h

pub names : (g : Plan) → IsWellFormed g → Holds (lowered g) rules.Names
names g form at h = texts_right g form at h

pub valid : (g : Plan) → IsWellFormed g → IsLoopFree g → SpansFit g → IsValid (lowered g)
valid g form free fit rules.Target = targets g form
valid g form free fit rules.Width = widths g form
valid g form free fit rules.Loop = loops g form free
valid g form free fit rules.Spans = spans g form fit
valid g form free fit rules.Names = names g form
