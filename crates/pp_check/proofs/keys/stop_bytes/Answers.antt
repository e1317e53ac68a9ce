use Rattle.std.proofs.Common.{◌≡◌, ℕ, List, refl, get_or, subst, sym, ap, ◌∙◌}
use Rattle.std.specs.FinSet as set
use Rattle.std.specs.Prelude.{slice_index}
use Rattle.pp_graph.specs.declared.node.Key.{Key}
use Rattle.pp_check.specs.steps.Ends.{StopsIn}
use Rattle.pp_check.proofs.KeyLemmas.{holds-none, holds-all, holds-added, holds-kept}
use Rattle.pp_check.proofs.keys.stop_bytes.Goals as goal
use Rattle.pp_check.proofs.keys.stop_bytes.Goals.{then-not-has+then-stops_in, else-not-has, else-not-has-via-then-not-has+else-stops_in, else-not-has-via-else-not-has}

pub loop-place-init : goal.loop-place-init
loop-place-init c = holds-none (λ (k : Key) (b : ℕ). (slice_index k.bytes 0 ≡ b) × StopsIn c.args.fold c.args.keys.now k.bytes) c.new-bytes.result c.args.keys.now c.new-bytes.ensures

pub loop-place-preserved : goal.loop-place-preserved
loop-place-preserved c =
    let P : Key → ℕ → Type 0 = λ (k : Key) (b : ℕ). (slice_index k.bytes 0 ≡ b) × StopsIn c.args.fold c.args.keys.now k.bytes in
    let key : Key = get_or c.args.keys.now c.loop-place.place c.index-keys-place.result in
    let first : c.first_byte-first.result ≡ slice_index key.bytes 0 = c.first_byte-first.ensures ∙ ap (λ (bytes : List ℕ). slice_index bytes 0) c.items-key.ensures in
    elim c.if-not-has.branch [
      | then-not-has+then-stops_in w ↦
          let stops : StopsIn c.args.fold c.args.keys.now key.bytes = subst (λ (bytes : List ℕ). StopsIn c.args.fold c.args.keys.now bytes) c.items-key.ensures (w.if-stops_in.ensures.0 refl) in
          holds-added P c.loop-place.bytes c.if-not-has.bytes c.first_byte-first.result c.args.keys.now c.loop-place.place c.index-keys-place.result
          (w.bytes-is ∙ w.add.ensures) c.loop-place-test.true (λ b. ((λ p. first ∙ p.0), (λ same. (sym first ∙ same, stops)))) c.loop-place.invariant
      | else-not-has w ↦
          holds-kept P c.loop-place.bytes c.if-not-has.bytes c.args.keys.now c.loop-place.place c.index-keys-place.result w.bytes-is c.loop-place-test.true
          (λ b p. elim w.else-not-has.branch [
            | else-not-has-via-then-not-has+else-stops_in v ↦
                absurd (cc (v.if-stops_in.ensures.1 (subst (λ (bytes : List ℕ). StopsIn c.args.fold c.args.keys.now bytes) (sym c.items-key.ensures) p.1)))
            | else-not-has-via-else-not-has v ↦
                ap (λ (q : ℕ). set.contains c.loop-place.bytes q) (sym p.0 ∙ sym first) ∙ (sym c.has.ensures ∙ v.if-not-has.false)
          ]) c.loop-place.invariant
    ]

pub returns : goal.returns
returns c = holds-all (λ (k : Key) (b : ℕ). (slice_index k.bytes 0 ≡ b) × StopsIn c.args.fold c.args.keys.now k.bytes) c.loop-place.bytes c.args.keys.now c.loop-place.place c.loop-place-test.false c.loop-place.invariant
