-- A part more at each turn; behind the last the halt, or no capture at all.
use Rattle.std.proofs.Common.{◌≡◌, false, true}
use Rattle.pp_tool.proofs.CaptureLemmas.{read_more, read_all, read_only, read_stuck}
use Rattle.pp_tool.proofs.capture.read_parts.Goals as goal

pub loop-part-preserved : goal.loop-part-preserved
loop-part-preserved c =
    rw c.in_ok-extend_from_slice.ensures.items (read_more _ _ _ _ _ c.loop-part.invariant (record { begins = c.in-Some.ensures.some; only = c.in-Some.ensures.only }))

pub returns-then-is_at_halt-clause-found : goal.returns-then-is_at_halt-clause-found
returns-then-is_at_halt-clause-found c = read_all _ _ _ c.loop-part.invariant (c.is_at_halt.ensures.0 c.if-is_at_halt.true)

pub returns-then-is_at_halt-clause-only : goal.returns-then-is_at_halt-clause-only
returns-then-is_at_halt-clause-only c parts h = read_only _ _ _ c.loop-part.invariant (c.is_at_halt.ensures.0 c.if-is_at_halt.true) parts h

pub returns-else-is_at_halt-clause-only : goal.returns-else-is_at_halt-clause-only
returns-else-is_at_halt-clause-only c parts h =
    absurd (read_stuck _ _ _ c.loop-part.invariant (λ a. let no : false ≡ true = c.if-is_at_halt.ensures.1 a in cc) (λ part len s. let no : false ≡ true = c.in_default.ensures.none part len s in cc) parts h)
