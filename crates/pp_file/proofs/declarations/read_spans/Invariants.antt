use Rattle.std.proofs.Common.{◌≡◌, ◌-◌}
use Rattle.pp_file.specs.Fields.{any_at}
use Rattle.pp_file.specs.Parts.{span_at}
use Rattle.pp_file.proofs.LoopLemmas.{with_front}
use Rattle.pp_file.proofs.declarations.read_spans.Given as goal

abbrev pub invariant-loop : goal.invariant-loop
invariant-loop l = with_front l.spans.items (any_at span_at (l.count - l.counter) l.cursor) ≡ any_at span_at l.count l.fn.cursor
