use Rattle.std.proofs.Common.{subst, ap, ◌∙◌, List, ◌≡◌, ◌↔◌, ℕ, IsTrue}
use Rattle.std.specs.Prelude.{slice_index}
use Rattle.std.proofs.lemmas.List.{take_all}
use Rattle.pp_graph.specs.declared.node.Key.{Key}
use Rattle.pp_check.specs.steps.Ends.{KeyEnds, IsLive}
use Rattle.pp_flow.specs.Rows.{Adds}
use Rattle.pp_check.proofs.RowLemmas.{keys-none, keys-more}
use Rattle.pp_check.proofs.rows.key_rows.Goals as goal

pub loop-place-init : goal.loop-place-init
loop-place-init c = keys-none _ _ _ _

pub loop-place-preserved : goal.loop-place-preserved
loop-place-preserved c =
    let key : Key = c.index-keys-place.result in
    let is : c.first_byte.result ≡ slice_index key.bytes 0 = c.first_byte.ensures ∙ ap (λ (bytes : List ℕ). slice_index bytes 0) c.items.ensures in
    keys-more _ _ _ _ _ _ c.args.keys.now c.loop-place.place key _ _ _ c.loop-place-test.true c.index-keys-place.is is c.begun_by-begun.ensures
    (subst (λ (bytes : List ℕ). IsTrue c.is_live-live.result ↔ IsLive c.args.fold c.args.keys.now bytes) c.items-in-loop-place.ensures c.is_live-live.ensures)
    c.loop-place.invariant c.in_ok-set_rows.ensures

pub returns : goal.returns
returns c =
    subst (λ (keys : List Key). Adds c.args.from c.args.rows.now.items c.loop-place.rows.items (KeyEnds c.args.fold c.args.keys.now keys))
    (take_all c.loop-place.place c.args.keys.now c.loop-place-test.false) c.loop-place.invariant
