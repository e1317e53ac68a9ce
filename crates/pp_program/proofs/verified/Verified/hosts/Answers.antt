use Rattle.std.proofs.Common.{ap, arith, length, ◌≡◌}
use Rattle.pp_program.specs.declared.fault.VerifyRule.TheVariants.{Target}
use Rattle.pp_program.specs.steps.Rows.{Counts}
use Rattle.pp_program.proofs.SoundLemmas.{counts-of}
use Rattle.pp_program.proofs.verified.Verified.hosts.Goals as goal

pub overflow_cast-result : goal.overflow_cast-result
overflow_cast-result c =
    let counts : Counts c.self.inside.program = counts-of c.self.inside.program (c.self.invariant.valid Target) in
    let size : length c.items.result.now ≡ length c.self.inside.program.hosts = ap length c.items.ensures in
    omega (arith, size, counts.hosts)
