use Rattle.std.proofs.Common.{◌≡◌, ◌∙◌}
use Rattle.std.proofs.lemmas.Bool.Decides.{Decides-eqb}
use Rattle.std.proofs.lemmas.Slice.Eq.{slice_eq-Decides}
use Rattle.pp_graph.specs.declared.node.Key.{Key}
use Rattle.pp_flow.proofs.ListLemmas.{any-none}
use Rattle.pp_check.proofs.KeyLemmas.{none-more, none-all}
use Rattle.pp_check.proofs.keys.is_key.Goals as goal

pub loop-place-init : goal.loop-place-init
loop-place-init c = any-none (λ (k : Key). k.bytes ≡ c.args.bytes.now)

pub loop-place-preserved : goal.loop-place-preserved
loop-place-preserved c =
    none-more (λ (k : Key). k.bytes ≡ c.args.bytes.now) c.args.keys.now c.loop-place.place c.index-keys-place.result c.loop-place-test.true
    (λ same. let equal = (slice_eq-Decides Decides-eqb _ _ _ c.eq.ensures).1 (c.items.ensures ∙ same) in cc) c.loop-place.invariant

pub returns : goal.returns
returns c = (
  (λ h. absurd (cc h)),
  (λ a. absurd (none-all (λ (k : Key). k.bytes ≡ c.args.bytes.now) c.args.keys.now c.loop-place.place c.loop-place-test.false c.loop-place.invariant a)),
)
