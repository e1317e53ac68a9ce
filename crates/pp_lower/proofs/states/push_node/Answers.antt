use Rattle.std.proofs.Common.{◌≡◌, ℕ, ◌++◌, List, OnOk, length, subst, sym, ap, ◌∙◌}
use Rattle.pp_graph.specs.declared.node.Key.{Key}
use Rattle.pp_graph.specs.declared.node.Peek.{Peek}
use Rattle.pp_graph.specs.declared.node.Answer.{Answer}
use Rattle.pp_graph.specs.declared.node.Kind.{Kind}
use Rattle.pp_graph.specs.declared.node.Kind.TheVariants.{Match, Invoke}
use Rattle.pp_lower.specs.Lowered.{states_of}
use Rattle.pp_lower.specs.steps.Parts.{Gives}
use Rattle.pp_lower.proofs.NodeLemmas.{match_keys, match_peeks, invoke_answers}
use Rattle.pp_lower.proofs.states.push_node.Goals as goal

pub push_match-requires-clause-keys : goal.push_match-requires-clause-keys
push_match-requires-clause-keys c =
    match_keys (length c.args.roots.now) c.args.kind.now c.in-Match.fold c.in-Match.keys c.items.result.now c.in-Match.peeks c.in-Match.other c.in-Match.is c.requires.below c.items.ensures

pub push_match-requires-clause-peeks : goal.push_match-requires-clause-peeks
push_match-requires-clause-peeks c =
    match_peeks (length c.args.roots.now) c.args.kind.now c.in-Match.fold c.in-Match.keys c.in-Match.peeks c.items-in-Match.result.now c.in-Match.other c.in-Match.is c.requires.below c.items-in-Match.ensures

pub push_invoke-requires-clause-answers : goal.push_invoke-requires-clause-answers
push_invoke-requires-clause-answers c =
    invoke_answers (length c.args.roots.now) c.args.kind.now c.in-Invoke.code c.in-Invoke.answers c.items-in-Invoke.result.now c.in-Invoke.other c.in-Invoke.is c.requires.below c.items-in-Invoke.ensures

pub returns-in-Match : goal.returns-in-Match
returns-in-Match c =
    subst
    (λ (k : Kind). OnOk c.push_match.result ((f : ℕ → ℕ) → Gives c.args.roots.now f → c.push_match.new.states.items ≡ c.args.states.now.items ++ states_of f c.args.origin c.args.root k))
    (ap (λ (l : List Key). Match c.in-Match.fold l c.items-in-Match.result.now c.in-Match.other) c.items.ensures
    ∙ ap (λ (m : List Peek). Match c.in-Match.fold c.in-Match.keys m c.in-Match.other) c.items-in-Match.ensures
    ∙ sym c.in-Match.is)
    c.push_match.ensures

pub returns-in-Invoke : goal.returns-in-Invoke
returns-in-Invoke c =
    subst
    (λ (k : Kind). OnOk c.push_invoke.result ((f : ℕ → ℕ) → Gives c.args.roots.now f → c.push_invoke.new.states.items ≡ c.args.states.now.items ++ states_of f c.args.origin c.args.root k))
    (ap (λ (l : List Answer). Invoke c.in-Invoke.code l c.in-Invoke.other) c.items-in-Invoke.ensures ∙ sym c.in-Invoke.is)
    c.push_invoke.ensures
