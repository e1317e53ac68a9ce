use Rattle.std.proofs.Common.{◌≡◌, ℕ, List, length, get_or, replicate, subst, sym, ◌∙◌, ap, arith}
use Rattle.std.proofs.lemmas.List.{length-replicate}
use Rattle.pp_flow.specs.steps.Table.{IsTable}
use Rattle.pp_flow.proofs.BitLemmas.{zeros_at}
use Rattle.pp_flow.proofs.round.round_at.Goals as goal

pub round-requires : goal.round-requires
round-requires c =
    let color : c.deref_mut.result.now ≡ replicate c.args.count 0 = c.deref_mut.ensures.value ∙ c.in_ok-color.ensures in
    let count : length c.deref_mut.result.now ≡ c.args.count = ap length color ∙ length-replicate {A = ℕ} c.args.count 0 in
    record {
      table = subst (λ (n : ℕ). IsTable c.args.moves.now c.args.starts.now n) (sym count) c.requires.table;
      points = omega arith;
      new = λ x. ap (λ (l : List ℕ). get_or l x 0) color ∙ zeros_at c.args.count x;
      start = c.deref_mut-2.ensures.value ∙ c.in_ok-next.ensures;
      root = omega (arith, count, c.requires.root);
    }
