use Rattle.std.proofs.Common.{◌≡◌, ◌≤◌, ◌*◌, take}
use Rattle.std.specs.Prelude.{sum_by}
use Rattle.pp_program.specs.FileLength.{text_length}
use Rattle.pp_rules.specs.declared.declaration.SpanDecl.{SpanDecl}
use Rattle.pp_program.proofs.length.spans_length.Given as goal

abbrev pub invariant-loop-decl : goal.invariant-loop-decl
invariant-loop-decl l = (l.sum ≡ sum_by (λ (d : SpanDecl). text_length d.name) (take l.decl-index l.spans)) × (l.sum ≤ 257 * l.decl-index)
