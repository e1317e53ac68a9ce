-- The line is cut where `position` finds its LF.
use Rattle.std.proofs.Common.{◌≡◌, ◌≢◌, ◌+◌, ◌++◌, ◌∷◌, take, sym, ap, ◌∙◌, rules}
use borrow.Author.Tests.{tests}
use Rattle.std.specs.Prelude.{Some}
use Rattle.std.proofs.lemmas.Iterator.{IsFirst-from_position, YieldsList-from_slice}
use Rattle.std.proofs.lemmas.List.{take_rest}
use Rattle.pp_text.proofs.LineLemmas.{cut_at_lf}
use Rattle.pp_text.proofs.line.first_line.Goals as goal

pub returns-in-Some-clause-found : goal.returns-in-Some-clause-found
returns-in-Some-clause-found c =
    let bytes = c.args.bytes.now in
    let end = c.in-Some.end in
    let first = IsFirst-from_position _ _ (Some end) (λ b. b ≡ 10) (λ b. b ≢ 10) c.in-Some.ensures.ran (YieldsList-from_slice (take c.min.result bytes) cc) (λ x q k. search (rules, tests)) (λ x q k. search (rules, tests)) in
    let cut = cut_at_lf c.min.result bytes end first.0 first.1 first.2 in
    (take end bytes, cut.0, c.without_cr.ensures, cut.1 ∙ ap (λ l. take end bytes ++ 10 ∷ l) (sym (take_rest bytes (end + 1))))
