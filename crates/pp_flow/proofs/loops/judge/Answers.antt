use Rattle.std.proofs.Common.{◌≡◌, ◌<◌, ◌≤◌, ◌⊎◌, ℕ, List, length, get_or, subst, sym, ◌∙◌, arith}
use Rattle.pp_flow.specs.steps.Bits.{Has}
use Rattle.pp_flow.specs.steps.Judging.{Judging}
use Rattle.pp_flow.specs.steps.Ranked.{RanksAt, RoundAt, IsRankedAt}
use Rattle.pp_flow.specs.steps.Reach.{IsReachTable}
use Rattle.pp_flow.specs.declared.rank.Ranked.{Ranked}
use Rattle.pp_flow.proofs.JudgeLemmas.{judging_first, judging_on, judged_free, round_of}
use Rattle.pp_flow.proofs.loops.judge.Goals as goal

pub loop-number-init : goal.loop-number-init
loop-number-init c = judging_first c.args.moves.now c.args.starts.now c.args.entry c.args.count c.requires.table c.requires.entry

pub loop-number-preserved : goal.loop-number-preserved
loop-number-preserved c =
    let ranks : RanksAt c.args.moves.now c.args.count c.deref.result.now c.loop-number.number c.in-Ranks.ranks.items =
    subst (λ (r : Ranked). IsRankedAt c.args.moves.now c.args.count c.deref.result.now c.loop-number.number r) c.in-Ranks.is c.in_ok-ranks.ensures in
    let reach : IsReachTable c.args.moves.now c.args.entry c.args.count c.deref.result.now = subst (λ (l : List ℕ). IsReachTable c.args.moves.now c.args.entry c.args.count l) (sym c.deref.ensures.value) c.in_ok-words.ensures in
    let same : c.deref-in-Ranks-2.result.now ≡ c.deref.result.now = c.deref-in-Ranks-2.ensures.value ∙ sym c.deref.ensures.value in
    judging_on c.args.moves.now c.args.starts.now c.args.entry c.args.count c.requires.table c.requires.entry c.deref.result.now c.in-Ranks.ranks.items c.loop-number.number c.loop-number.gap c.greatest-gap.result
    (omega arith) reach ranks c.loop-number.invariant c.greatest-gap.ensures.least
    (subst (λ (l : List ℕ). (x : ℕ) → x < length l → Has c.deref.result.now x c.loop-number.number → get_or l x 0 ≤ c.greatest-gap.result) c.deref-in-Ranks.ensures.value
    (subst (λ (l : List ℕ). (x : ℕ) → x < length c.deref-in-Ranks.result.now → Has l x c.loop-number.number → get_or c.deref-in-Ranks.result.now x 0 ≤ c.greatest-gap.result) same c.greatest-gap.ensures.most))
    (subst (λ (l : List ℕ). (c.greatest-gap.result ≡ c.loop-number.gap) ⊎ ((x : ℕ) × (x < length l) × Has c.deref.result.now x c.loop-number.number × (get_or l x 0 ≡ c.greatest-gap.result))) c.deref-in-Ranks.ensures.value
    (subst (λ (l : List ℕ). (c.greatest-gap.result ≡ c.loop-number.gap) ⊎ ((x : ℕ) × (x < length c.deref-in-Ranks.result.now) × Has l x c.loop-number.number × (get_or c.deref-in-Ranks.result.now x 0 ≡ c.greatest-gap.result))) same c.greatest-gap.ensures.met))

pub least_round-requires-clause-some : goal.least_round-requires-clause-some
least_round-requires-clause-some c =
    let round : RoundAt c.args.moves.now c.deref.result.now c.loop-number.number c.in-Round.field-0 =
    subst (λ (r : Ranked). IsRankedAt c.args.moves.now c.args.count c.deref.result.now c.loop-number.number r) c.in-Round.is c.in_ok-ranks.ensures in
    let same : c.deref.result.now ≡ c.deref-in-Round.result.now = c.deref.ensures.value ∙ sym c.deref-in-Round.ensures.value in
    let reach : IsReachTable c.args.moves.now c.args.entry c.args.count c.deref-in-Round.result.now = subst (λ (l : List ℕ). IsReachTable c.args.moves.now c.args.entry c.args.count l) (sym c.deref-in-Round.ensures.value) c.in_ok-words.ensures in
    round_of c.args.moves.now c.args.starts.now c.args.entry c.args.count c.requires.table c.requires.entry c.deref-in-Round.result.now c.loop-number.number c.in-Round.field-0 (omega arith) reach
    (subst (λ (l : List ℕ). RoundAt c.args.moves.now l c.loop-number.number c.in-Round.field-0) same round)

pub returns : goal.returns
returns c =
    let end : c.loop-number.number ≡ 256 = omega arith in
    judged_free c.args.moves.now c.args.starts.now c.args.entry c.args.count c.requires.table c.requires.entry c.loop-number.gap
    (subst (λ (n : ℕ). Judging c.args.moves.now c.args.entry n c.loop-number.gap) end c.loop-number.invariant)
