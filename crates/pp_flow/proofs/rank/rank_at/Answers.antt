use Rattle.std.proofs.Common.{◌≡◌, ℕ, List, length, replicate, subst, sym, ◌∙◌, ap}
use Rattle.std.proofs.lemmas.List.{length-replicate}
use Rattle.pp_flow.specs.steps.Search.{IsSearched}
use Rattle.pp_flow.proofs.WalkLemmas.{searched_first}
use Rattle.pp_flow.proofs.rank.rank_at.Goals as goal

pub visit_all-requires-clause-searched : goal.visit_all-requires-clause-searched
visit_all-requires-clause-searched c =
    let color : c.deref_mut.result.now ≡ replicate c.args.count 0 = c.deref_mut.ensures.value ∙ c.in_ok-color.ensures in
    let next : c.deref_mut-2.result.now ≡ c.args.starts.now = c.deref_mut-2.ensures.value ∙ c.in_ok-next.ensures in
    let rank : c.deref_mut-3.result.now ≡ replicate c.args.count 0 = c.deref_mut-3.ensures.value ∙ c.in_ok-rank.ensures in
    let count : length c.deref_mut.result.now ≡ c.args.count = ap length color ∙ length-replicate {A = ℕ} c.args.count 0 in
    subst (λ (n : ℕ). IsSearched c.args.moves.now c.args.starts.now n c.args.b c.deref_mut.result.now c.deref_mut-2.result.now c.deref_mut-3.result.now) (sym count)
    (subst (λ (l : List ℕ). IsSearched c.args.moves.now c.args.starts.now c.args.count c.args.b l c.deref_mut-2.result.now c.deref_mut-3.result.now) (sym color)
    (subst (λ (l : List ℕ). IsSearched c.args.moves.now c.args.starts.now c.args.count c.args.b (replicate c.args.count 0) l c.deref_mut-3.result.now) (sym next)
    (subst (λ (l : List ℕ). IsSearched c.args.moves.now c.args.starts.now c.args.count c.args.b (replicate c.args.count 0) c.args.starts.now l) (sym rank)
    (searched_first c.args.moves.now c.args.starts.now c.args.count c.args.b c.requires.table))))
