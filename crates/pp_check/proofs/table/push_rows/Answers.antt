use Rattle.std.proofs.Common.{◌<◌, ℕ, false, length, get_or, sym, ap, ◌∙◌, subst}
use Rattle.std.proofs.lemmas.Option.{slice_get-get_or}
use Rattle.pp_flow.specs.Chart.{Chart}
use Rattle.pp_flow.specs.declared.moves.Move.{Move}
use Rattle.pp_check.proofs.table.push_rows.Goals as goal

abbrev nowhere : Move
nowhere = record { from = 0; to = 0; lo = 0; hi = 0; free = false; onward = false }

pub push-requires-clause-from : goal.push-requires-clause-from
push-requires-clause-from c = (c.requires.rows c.loop-place.place _ (slice_get-get_or c.args.rows.now c.loop-place.place nowhere c.loop-place-test.true)).0 ∙ sym (ap (λ f. f.told) c.loop-place.invariant)

pub push-requires-clause-open : goal.push-requires-clause-open
push-requires-clause-open c = subst (λ f. f.told < length f.acts) (sym c.loop-place.invariant) c.requires.open

pub push-requires-clause-to : goal.push-requires-clause-to
push-requires-clause-to c =
    subst (λ (n : ℕ). (get_or c.args.rows.now c.loop-place.place nowhere).to < n) (sym (ap (λ (f : Chart). length f.acts) c.loop-place.invariant))
    (c.requires.rows c.loop-place.place (get_or c.args.rows.now c.loop-place.place nowhere) (slice_get-get_or c.args.rows.now c.loop-place.place nowhere c.loop-place-test.true)).1
