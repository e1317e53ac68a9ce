use Rattle.std.proofs.Common.{List, take, drop, sym, ap, ◌∙◌, subst}
use Rattle.pp_text.specs.declared.token.Token.{Token as Borrowed}
use Rattle.pp_text.specs.steps.Shapes.{AreKeyTokens}
use Rattle.pp_text.specs.steps.View.{tokens_of}
use Rattle.pp_text.specs.steps.FirstWord.{StartsWithWord}
use Rattle.pp_text.proofs.KeyTokenLemmas.{keys-in-front, word-next}
use Rattle.pp_text.proofs.edge.at_word.Goals as goal

pub returns-clause-keys : goal.returns-clause-keys
returns-clause-keys c =
    let tokens = c.args.tokens.now in
    let cut = c.split_at.ensures.front ∙ ap (λ n. take n tokens) c.unwrap_or.ensures in
    subst (λ (l : List Borrowed). AreKeyTokens (tokens_of l)) (sym cut) (keys-in-front tokens c.first_word.result c.first_word.ensures)

pub returns-clause-word : goal.returns-clause-word
returns-clause-word c =
    let tokens = c.args.tokens.now in
    let cut = c.split_at.ensures.back ∙ ap (λ n. drop n tokens) c.unwrap_or.ensures in
    subst (λ (l : List Borrowed). StartsWithWord (tokens_of l)) (sym cut) (word-next tokens c.first_word.result c.first_word.ensures)
