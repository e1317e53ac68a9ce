-- Each exit is a lemma on how far the inside was read.
use Rattle.std.proofs.Common.{◌≡◌, false, ◌&&◌, ◌==◌, not, ◌+◌, get_or, sym, ◌∙◌, refl}
use Rattle.std.proofs.lemmas.Bool.{eq-eqb, ne_eqb, and_left, false≢true}
use Rattle.std.proofs.lemmas.List.{take_rest}
use Rattle.pp_text.proofs.TokenLemmas.{and_first, inside_step, inside_found, inside_dark, inside_unclosed}
use Rattle.pp_text.proofs.token.inside_of.Goals as goal
use Rattle.pp_text.proofs.token.inside_of.Goals.{else-byte-close-via-then-byte-close+else-not-escaped, else-byte-close-via-else-byte-close, then-byte-eq92, else-byte-eq92}

pub returns-then-not-escaped-clause-only : goal.returns-then-not-escaped-clause-only
returns-then-not-escaped-clause-only c = λ inside rest inner split.
    let bytes = c.args.bytes.now in
    let i = c.loop-i.i in
    let found = inside_found c.args.close c.loop-i.escaped bytes i c.loop-i.invariant c.if-not-escaped.true c.loop-i-test.true c.if-byte-close.true inside rest inner split in
    (found.0, take_rest bytes (i + 1) ∙ found.1)

pub returns-then-not-is_printed-clause-only : goal.returns-then-not-is_printed-clause-only
returns-then-not-is_printed-clause-only c = λ inside rest inner split.
    let bytes = c.args.bytes.now in
    let i = c.loop-i.i in
    let stays : get_or bytes i 0 ≡ c.args.close → c.loop-i.escaped ≡ false → ⊥ = elim c.else-byte-close.branch [
      | else-byte-close-via-then-byte-close+else-not-escaped w ↦ λ same off. false≢true (sym off ∙ w.if-not-escaped.false)
      | else-byte-close-via-else-byte-close w ↦ λ same off. w.if-byte-close.false same
    ] in
    inside_dark c.args.close c.loop-i.escaped bytes i c.loop-i.invariant c.loop-i-test.true stays (sym c.is_printed.ensures ∙ c.if-not-is_printed.true) inside rest inner split

pub loop-i-preserved : goal.loop-i-preserved
loop-i-preserved c =
    let bytes = c.args.bytes.now in
    let i = c.loop-i.i in
    let b = get_or bytes i 0 in
    let stays : b ≡ c.args.close → c.loop-i.escaped ≡ false → ⊥ = elim c.else-byte-close.branch [
      | else-byte-close-via-then-byte-close+else-not-escaped w ↦ λ same off. false≢true (sym off ∙ w.if-not-escaped.false)
      | else-byte-close-via-else-byte-close w ↦ λ same off. w.if-byte-close.false same
    ] in
    let next : c.if-byte-eq92.escaped ≡ ((b == 92) && not c.loop-i.escaped) = elim c.if-byte-eq92.branch [
      | then-byte-eq92 w ↦ w.escaped-is ∙ sym (and_first (b == 92) (not c.loop-i.escaped) (eq-eqb b 92 w.if-byte-eq92.true))
      | else-byte-eq92 w ↦ (let off : (b == 92) ≡ false = ne_eqb b 92 w.if-byte-eq92.false in w.escaped-is ∙ off ∙ sym (and_left (b == 92) (not c.loop-i.escaped) off))
    ] in
    inside_step c.args.close c.loop-i.escaped bytes i b c.if-byte-eq92.escaped c.loop-i.invariant c.loop-i-test.true refl stays (sym c.is_printed.ensures ∙ c.if-not-is_printed.false) next

pub returns-clause-only : goal.returns-clause-only
returns-clause-only c = inside_unclosed c.args.close c.loop-i.escaped c.args.bytes.now c.loop-i.i c.loop-i.invariant c.loop-i-test.false
