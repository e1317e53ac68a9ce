use Rattle.std.proofs.Common.{subst, sym, ◌∙◌}
use Rattle.pp_program.specs.declared.fault.VerifyRule.TheVariants.{Target}
use Rattle.pp_program.specs.Valid.{IsBroken}
use Rattle.std.specs.Prelude.{length}
use Rattle.pp_program.proofs.SoundLemmas.{target-state, target-frame, target-holds}
use Rattle.pp_program.proofs.verification.try_targets.Goals as goal

pub returns-in-Some-clause-broken : goal.returns-in-Some-clause-broken
returns-in-Some-clause-broken c = target-state c.args.program.now c.in-Some.at c.in-Some.ensures

pub returns-then-not-is_frame-clause-broken : goal.returns-then-not-is_frame-clause-broken
returns-then-not-is_frame-clause-broken c = subst (λ xs. IsBroken c.args.program.now Target (length xs)) (sym c.items.ensures) (target-frame c.args.program.now c.in_default.ensures (sym c.is_frame.ensures ∙ c.if-not-is_frame.true))

pub returns-clause-ok : goal.returns-clause-ok
returns-clause-ok c = target-holds c.args.program.now c.in_default.ensures (sym c.is_frame.ensures ∙ c.if-not-is_frame.false)
