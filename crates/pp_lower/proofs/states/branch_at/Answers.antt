use Rattle.std.proofs.Common.{length, ◌∙◌}
use Rattle.pp_lower.specs.Lowered.{inner_of}
use Rattle.pp_lower.proofs.RowLemmas.{row_got, end_got, inner_fits, longer_fits, end_fits, own_below, branch_row}
use Rattle.pp_lower.proofs.states.branch_at.Goals as goal

pub branch_for-requires-clause-inner : goal.branch_for-requires-clause-inner
branch_for-requires-clause-inner c =
    inner_fits c.args.keys.now c.args.rows.now c.args.i c.args.root c.deref.result.now c.requires.rows c.requires.within c.requires.fits
    (row_got c.args.rows.now.inner.items c.args.i (length (inner_of c.args.keys.now)) c.index-inner.result.now c.deref.result.now c.requires.rows.inner.long c.requires.within c.index-inner.ensures c.deref.ensures.value)

pub branch_for-requires-clause-ends : goal.branch_for-requires-clause-ends
branch_for-requires-clause-ends c =
    longer_fits c.args.keys.now c.args.rows.now c.args.i c.deref-2.result.now c.requires.rows c.requires.within
    (row_got c.args.rows.now.keys.items c.args.i (length (inner_of c.args.keys.now)) c.index-longer.result.now c.deref-2.result.now c.requires.rows.longer.long c.requires.within c.index-longer.ensures c.deref-2.ensures.value)

pub branch_for-requires-clause-own : goal.branch_for-requires-clause-own
branch_for-requires-clause-own c =
    end_fits c.args.keys.now c.args.rows.now c.args.i c.index-end.result.now c.requires.rows c.requires.within
    (end_got c.args.rows.now.ends.items c.args.i (length (inner_of c.args.keys.now)) c.index-end.result.now c.requires.rows.ends.long c.requires.within c.index-end.ensures)

pub branch_for-requires-clause-peeks : goal.branch_for-requires-clause-peeks
branch_for-requires-clause-peeks c =
    own_below (length c.args.roots.now) c.args.peeks.now c.peeks_at-own.result.now c.args.i c.requires.peeks c.peeks_at-own.ensures.first c.peeks_at-own.ensures.later

pub returns : goal.returns
returns c =
    λ f p g e.
    c.in_ok-instr.ensures f g
    ∙ branch_row f c.args.root c.args.fold c.args.keys.now c.args.peeks.now c.peeks_at-own.result.now c.args.other c.args.rows.now c.deref.result.now c.deref-2.result.now c.index-end.result.now c.args.i p c.requires.rows e
    (row_got c.args.rows.now.inner.items c.args.i (length (inner_of c.args.keys.now)) c.index-inner.result.now c.deref.result.now c.requires.rows.inner.long c.requires.within c.index-inner.ensures c.deref.ensures.value)
    (row_got c.args.rows.now.keys.items c.args.i (length (inner_of c.args.keys.now)) c.index-longer.result.now c.deref-2.result.now c.requires.rows.longer.long c.requires.within c.index-longer.ensures c.deref-2.ensures.value)
    (end_got c.args.rows.now.ends.items c.args.i (length (inner_of c.args.keys.now)) c.index-end.result.now c.requires.rows.ends.long c.requires.within c.index-end.ensures)
    c.peeks_at-own.ensures.first c.peeks_at-own.ensures.later
