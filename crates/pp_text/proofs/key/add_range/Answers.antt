use Rattle.std.proofs.Common.{◌≡◌, ◌+◌, ◌<◌, refl, arith, inl, inr}
use Rattle.std.proofs.lemmas.Bool.{cases_lt}
use Rattle.pp_text.proofs.SetLemmas.{HasBelow, none_below, one_more_below, all_below}
use Rattle.pp_text.proofs.key.add_range.Goals as goal

pub loop-byte-init : goal.loop-byte-init
loop-byte-init c = record { has = none_below c.args.bytes.now c.args.first; empty = λ _. refl }

pub loop-byte-preserved : goal.loop-byte-preserved
loop-byte-preserved c = record {
  has = rw c.add.ensures (one_more_below c.args.bytes.now c.loop-byte.bytes c.args.first c.loop-byte.byte (omega arith) c.loop-byte.invariant.has);
  empty = λ none. absurd (omega (arith, none));
}

pub returns : goal.returns
returns c =
    let none : c.args.last < c.args.first = elim (cases_lt c.args.last c.args.first) [ inl none ↦ none | inr some ↦ absurd (omega (arith, c.loop-byte.auto.byte-end some)) ] in
    let start : c.loop-byte.byte ≡ c.args.first = c.loop-byte.invariant.empty none in
    all_below c.args.bytes.now c.loop-byte.bytes c.args.first c.args.last c.loop-byte.byte c.loop-byte.invariant.has (λ b low high. absurd (omega (arith, low, high, start))) (λ b low high. absurd (omega (arith, low, high, none)))

pub returns-2 : goal.returns-2
returns-2 c =
    let more : HasBelow c.args.bytes.now c.add.new.self c.args.first (c.loop-byte.byte + 1) =
    rw c.add.ensures (one_more_below c.args.bytes.now c.loop-byte.bytes c.args.first c.loop-byte.byte (omega arith) c.loop-byte.invariant.has) in
    all_below c.args.bytes.now c.add.new.self c.args.first c.args.last (c.loop-byte.byte + 1) more (λ b low high. omega (arith, high)) (λ b low high. omega (arith, high))
