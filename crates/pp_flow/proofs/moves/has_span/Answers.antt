use Rattle.std.proofs.Common.{◌≡◌, ◌<◌, arith}
use Rattle.std.proofs.lemmas.Bool.{ltb-true, lt-ltb}
use Rattle.pp_flow.proofs.FaultLemmas.{one_span}
use Rattle.pp_flow.proofs.moves.has_span.Goals as goal

pub returns-in-Opens : goal.returns-in-Opens
returns-in-Opens c = (
  (λ t s named. (
      let low : c.in-Opens.span < 32 = ltb-true _ _ t in
      let same : c.in-Opens.span ≡ s = one_span c.args.act c.in-Opens.span s c.in-Opens.is named in
      omega arith)),
  (λ h. lt-ltb _ _ (h c.in-Opens.span c.in-Opens.is)),
)
