use Rattle.std.proofs.Common.{◌≡◌, ◌++◌, ◌+◌, map, ap, sym, ◌∙◌, arith}
use Rattle.pp_bytes.specs.Bytes.{bytes_below}
use Rattle.pp_bytes.proofs.ByteLemmas.{bytes_below_all}
use Rattle.pp_rules.specs.Sets.{byte_call}
use Rattle.pp_rules.proofs.KeptLemmas.{below-yes, below-no}
use Rattle.pp_rules.proofs.kept.push_bytes.Goals as goal
use Rattle.pp_rules.proofs.kept.push_bytes.Goals.{then-has+in_ok-edge+in_ok-target+in_ok-push, else-has}

pub loop-byte-preserved : goal.loop-byte-preserved
loop-byte-preserved c = elim c.if-has.branch [
  | then-has+in_ok-edge+in_ok-target+in_ok-push w ↦
      below-yes c.args.how c.args.target.now c.args.bytes.now c.loop-byte.byte _ _ _ _ _ (omega arith) (sym c.has.ensures ∙ w.if-has.true) c.loop-byte.invariant (ap (λ v. v.items) w.all-is ∙ w.in_ok-push.ensures.items) w.in_ok-edge.ensures (w.in_ok-target.ensures ∙ w.bytes.ensures.value)
  | else-has w ↦
      below-no c.args.how c.args.target.now c.args.bytes.now c.loop-byte.byte _ _ _ (omega arith) (sym c.has.ensures ∙ w.if-has.false) c.loop-byte.invariant (ap (λ v. v.items) w.all-is)
]

pub returns-after-has : goal.returns-after-has
returns-after-has c =
    let behind : c.if-has.all.items ≡ c.args.all.now.items ++ map (byte_call c.args.how c.args.target.now) (bytes_below c.args.bytes.now (c.loop-byte.byte + 1)) = elim c.if-has.branch [
      | then-has+in_ok-edge+in_ok-target+in_ok-push w ↦
          below-yes c.args.how c.args.target.now c.args.bytes.now c.loop-byte.byte _ _ _ _ _ (omega arith) (sym c.has.ensures ∙ w.if-has.true) c.loop-byte.invariant (ap (λ v. v.items) w.all-is ∙ w.in_ok-push.ensures.items) w.in_ok-edge.ensures (w.in_ok-target.ensures ∙ w.bytes.ensures.value)
      | else-has w ↦
          below-no c.args.how c.args.target.now c.args.bytes.now c.loop-byte.byte _ _ _ (omega arith) (sym c.has.ensures ∙ w.if-has.false) c.loop-byte.invariant (ap (λ v. v.items) w.all-is)
    ] in
    behind ∙ ap (λ bytes. c.args.all.now.items ++ map (byte_call c.args.how c.args.target.now) bytes) (bytes_below_all c.args.bytes.now (c.loop-byte.byte + 1) (omega arith))
