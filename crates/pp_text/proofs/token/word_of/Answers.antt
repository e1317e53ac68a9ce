-- The word is the run of word bytes.
use Rattle.std.proofs.Common.{◌≡◌, ◌<◌, IsTrue, List, ℕ, Bor, length, take, sym, ap, subst, ◌∙◌}
use Rattle.std.proofs.lemmas.Bool.{ltb-true, lt-ltb}
use Rattle.std.proofs.lemmas.List.{take_rest}
use Rattle.std.specs.List.{prefix_len}
use Rattle.pp_text.specs.Tokens.{is_word, is_word_byte}
use Rattle.pp_text.proofs.TokenLemmas.{word_length_is, is_word_run, cut_at, then_some_found, then_some_only}
use Rattle.pp_text.proofs.token.word_of.Goals as goal

pub returns-clause-word : goal.returns-clause-word
returns-clause-word c =
    let bytes = c.args.bytes.now in
    let end = c.word_length-end.result in
    then_some_found {T = Bor (List ℕ) × Bor (List ℕ)} (λ r. IsTrue (is_word r.0.now)) c.then_some.result _ _ c.then_some.ensures (λ t.
    subst (λ (n : ℕ). IsTrue (is_word (take n bytes))) (sym c.word_length-end.ensures.run) (is_word_run bytes (subst (λ (n : ℕ). 0 < n) c.word_length-end.ensures.run (ltb-true 0 end t))))

pub returns-clause-only : goal.returns-clause-only
returns-clause-only c = λ word rest is ends split.
    let bytes = c.args.bytes.now in
    let end = c.word_length-end.result in
    let whole = word_length_is word rest is ends in
    let long : end ≡ length word = c.word_length-end.ensures.run ∙ ap (prefix_len is_word_byte) split ∙ whole.0 in
    let cut = cut_at bytes word rest end long split in
    then_some_only {T = Bor (List ℕ) × Bor (List ℕ)} (λ r. (r.0.now ≡ word) × (r.1.now ≡ rest)) c.then_some.result _ _ c.then_some.ensures (lt-ltb 0 end (subst (λ (n : ℕ). 0 < n) (sym long) whole.1)) (cut.0, take_rest bytes end ∙ cut.1)
