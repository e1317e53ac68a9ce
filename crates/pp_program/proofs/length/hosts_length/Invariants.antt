use Rattle.std.proofs.Common.{◌≡◌, ◌≤◌, ◌+◌, ◌*◌, take}
use Rattle.std.specs.Prelude.{sum_by}
use Rattle.pp_program.specs.FileLength.{text_length}
use Rattle.pp_rules.specs.declared.declaration.HostDecl.{HostDecl}
use Rattle.pp_program.proofs.length.hosts_length.Given as goal

abbrev pub invariant-loop-decl : goal.invariant-loop-decl
invariant-loop-decl l = (l.sum ≡ sum_by (λ (d : HostDecl). text_length d.name + 1) (take l.decl-index l.hosts)) × (l.sum ≤ 257 * l.decl-index)
