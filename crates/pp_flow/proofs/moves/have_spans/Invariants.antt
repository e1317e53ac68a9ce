use Rattle.std.proofs.Common.{◌≡◌, ◌⊎◌, ℕ, ◌<◌}
use Rattle.pp_flow.specs.declared.moves.Act.TheVariants.{Opens, Closes}
use Rattle.pp_flow.specs.Spans.{act_at}
use Rattle.pp_flow.proofs.moves.have_spans.Given as goal

abbrev pub invariant-loop-place : goal.invariant-loop-place
invariant-loop-place l = (x s : ℕ) → x < l.place → (act_at l.acts x ≡ Opens s) ⊎ (act_at l.acts x ≡ Closes s) → s < 32
