-- Behind `graph 1`, what leads on is a statement.
use Rattle.std.proofs.Common.{◌≡◌, Some, true, ◌<◌, length, sym, ◌∙◌, arith}
use Rattle.std.proofs.lemmas.Result.{IfOk-weaker}
use Rattle.pp_text.specs.steps.Rows.{IsAnswer, AddsStatement}
use Rattle.pp_text.specs.steps.View.{tokens_of}
use Rattle.pp_text.proofs.AddLemmas.{leads_only}
use Rattle.pp_text.proofs.draft.Draft.add.Goals as goal

pub returns-in-Some-clause-only : goal.returns-in-Some-clause-only
returns-in-Some-clause-only c = λ after leads.
    let line = c.args.line in
    let tokens = c.args.tokens.now in
    let a = c.in-Some.calls in
    let b = c.add.new.self in
    let some : 0 < length tokens = grind arith in
    IfOk-weaker c.add.result (λ led. IsAnswer led b (AddsStatement line (tokens_of tokens) a)) (λ led. (led ≡ true) × (Some b ≡ after))
    (λ led h. leads_only line tokens a b c.args.self.now after led some (sym c.self.view_is ∙ c.in-Some.is) leads h) c.add.ensures.answer
