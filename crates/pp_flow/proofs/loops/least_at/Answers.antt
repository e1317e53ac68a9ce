use Rattle.std.proofs.Common.{subst, arith}
use Rattle.pp_flow.specs.steps.Ranked.{RoundAt, IsRankedAt}
use Rattle.pp_flow.specs.declared.rank.Ranked.{Ranked}
use Rattle.pp_flow.proofs.JudgeLemmas.{round_of, none_at, some_at}
use Rattle.pp_flow.proofs.loops.least_at.Goals as goal
use Rattle.pp_flow.proofs.loops.least_at.Goals.{in-Ranks, in-Round+in_ok-cycle-in-Round}

pub least_round-requires-clause-some : goal.least_round-requires-clause-some
least_round-requires-clause-some c =
    let round : RoundAt c.args.moves.now c.args.words.now c.args.b c.in-Round.field-0 =
    subst (λ (r : Ranked). IsRankedAt c.args.moves.now c.args.count c.args.words.now c.args.b r) c.in-Round.is c.in_ok-rank_at.ensures in
    round_of c.args.moves.now c.args.starts.now c.args.entry c.args.count c.requires.table c.requires.entry c.args.words.now c.args.b c.in-Round.field-0 (omega arith) c.requires.reach round

pub returns : goal.returns
returns c = elim c.match-branch-2.branch [
  | in-Ranks w ↦ rw w.result-is (
      none_at c.args.moves.now c.args.starts.now c.args.entry c.args.count c.requires.table c.requires.entry c.args.words.now w.in-Ranks.field-0.items c.args.b (omega arith) c.requires.reach
      (subst (λ (r : Ranked). IsRankedAt c.args.moves.now c.args.count c.args.words.now c.args.b r) w.in-Ranks.is c.in_ok-rank_at.ensures))
  | in-Round+in_ok-cycle-in-Round w ↦ rw (w.result-is, w.first_of.ensures) (
      some_at c.args.moves.now c.args.starts.now c.args.entry c.args.count c.requires.table c.requires.entry c.args.words.now w.in_ok-cycle-in-Round.cycle.items c.args.b (omega arith) c.requires.reach
      w.in_ok-cycle-in-Round.ensures)
]
