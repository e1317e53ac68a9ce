use Rattle.std.proofs.Common.{◌≡◌, ℕ}
use Rattle.pp_graph.specs.declared.node.Peek.{Peek}
use Rattle.pp_check.proofs.KeyLemmas.{holds-none, holds-all, holds-added}
use Rattle.pp_check.proofs.keys.peek_bytes.Goals as goal

pub loop-place-init : goal.loop-place-init
loop-place-init c = holds-none (λ (p : Peek) (b : ℕ). p.byte ≡ b) c.new-bytes.result c.args.peeks.now c.new-bytes.ensures

pub loop-place-preserved : goal.loop-place-preserved
loop-place-preserved c =
    holds-added (λ (p : Peek) (b : ℕ). p.byte ≡ b) c.loop-place.bytes c.add.new.self _ c.args.peeks.now c.loop-place.place (record { byte = 0; target = 0 })
    c.add.ensures c.loop-place-test.true (λ b. ((λ h. h), (λ h. h))) c.loop-place.invariant

pub returns : goal.returns
returns c = holds-all (λ (p : Peek) (b : ℕ). p.byte ≡ b) c.loop-place.bytes c.args.peeks.now c.loop-place.place c.loop-place-test.false c.loop-place.invariant
