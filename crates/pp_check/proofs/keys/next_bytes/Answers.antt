use Rattle.std.proofs.Common.{◌≡◌, ℕ, List, get_or, subst, sym, ◌∙◌}
use Rattle.pp_graph.specs.declared.node.Key.{Key}
use Rattle.pp_check.specs.steps.Ends.{GoesOnBy}
use Rattle.pp_check.proofs.KeyLemmas.{holds-none, holds-all, holds-added, holds-kept}
use Rattle.pp_check.proofs.keys.next_bytes.Goals as goal
use Rattle.pp_check.proofs.keys.next_bytes.Goals.{in-Some, in_default}

pub loop-place-init : goal.loop-place-init
loop-place-init c = holds-none (λ (k : Key) (b : ℕ). GoesOnBy c.args.front.now k.bytes b) c.new-bytes.result c.args.keys.now c.new-bytes.ensures

-- bytes go on behind a front by one byte at most
one-next : (front bytes : List ℕ) (b c : ℕ) → GoesOnBy front bytes b → (GoesOnBy front bytes c → b ≡ c) × (b ≡ c → GoesOnBy front bytes c)
one-next front bytes b c h = ((λ g. sym h.2 ∙ g.2), (λ same. subst (GoesOnBy front bytes) same h))

pub loop-place-preserved : goal.loop-place-preserved
loop-place-preserved c =
    elim c.match-next_byte.branch [
      | in-Some w ↦
          let here : GoesOnBy c.args.front.now (get_or c.args.keys.now c.loop-place.place c.index-keys-place.result).bytes w.in-Some.byte =
          subst (λ (bytes : List ℕ). GoesOnBy c.args.front.now bytes w.in-Some.byte) c.items.ensures w.in-Some.ensures.some in
          holds-added (λ (k : Key) (b : ℕ). GoesOnBy c.args.front.now k.bytes b) c.loop-place.bytes c.match-next_byte.bytes w.in-Some.byte
          c.args.keys.now c.loop-place.place c.index-keys-place.result (w.bytes-is ∙ w.add.ensures) c.loop-place-test.true
          (λ b. one-next c.args.front.now _ w.in-Some.byte b here) c.loop-place.invariant
      | in_default w ↦
          holds-kept (λ (k : Key) (b : ℕ). GoesOnBy c.args.front.now k.bytes b) c.loop-place.bytes c.match-next_byte.bytes
          c.args.keys.now c.loop-place.place c.index-keys-place.result w.bytes-is c.loop-place-test.true
          (λ b g. absurd (w.in_default.ensures.none b (subst (λ (bytes : List ℕ). GoesOnBy c.args.front.now bytes b) (sym c.items.ensures) g))) c.loop-place.invariant
    ]

pub returns : goal.returns
returns c = holds-all (λ (k : Key) (b : ℕ). GoesOnBy c.args.front.now k.bytes b) c.loop-place.bytes c.args.keys.now c.loop-place.place c.loop-place-test.false c.loop-place.invariant
