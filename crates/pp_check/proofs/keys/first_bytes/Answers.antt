use Rattle.std.proofs.Common.{◌≡◌, ℕ, List, sym, ap, ◌∙◌}
use Rattle.std.specs.Prelude.{slice_index}
use Rattle.pp_graph.specs.declared.node.Key.{Key}
use Rattle.pp_check.proofs.KeyLemmas.{holds-none, holds-all, holds-added}
use Rattle.pp_check.proofs.keys.first_bytes.Goals as goal

pub loop-place-init : goal.loop-place-init
loop-place-init c = holds-none (λ (k : Key) (b : ℕ). slice_index k.bytes 0 ≡ b) c.new-bytes.result c.args.keys.now c.new-bytes.ensures

pub loop-place-preserved : goal.loop-place-preserved
loop-place-preserved c =
    let first = c.first_byte.ensures ∙ ap (λ (bytes : List ℕ). slice_index bytes 0) c.items.ensures in
    holds-added (λ (k : Key) (b : ℕ). slice_index k.bytes 0 ≡ b) c.loop-place.bytes c.add.new.self c.first_byte.result
    c.args.keys.now c.loop-place.place c.index-keys-place.result c.add.ensures c.loop-place-test.true
    (λ b. ((λ same. first ∙ same), (λ same. sym first ∙ same))) c.loop-place.invariant

pub returns : goal.returns
returns c = holds-all (λ (k : Key) (b : ℕ). slice_index k.bytes 0 ≡ b) c.loop-place.bytes c.args.keys.now c.loop-place.place c.loop-place-test.false c.loop-place.invariant
