-- Byte by byte: ranks, or a cycle.
use Rattle.std.proofs.Common.{◌≡◌, ℕ, ◌+◌, ◌≤◌, ◌<◌, ◌⊎◌, List, Option, Some, None, length, get_or, min, subst, refl, sym, arith, inl, inr}
use Rattle.std.proofs.lemmas.Bool.{cases_eq, cases_lt}
use Rattle.pp_flow.specs.declared.moves.Move.{Move}
use Rattle.pp_flow.specs.steps.Bits.{Has}
use Rattle.pp_flow.specs.Flow.{IsReachable, at_entry, by_free, by_onward, FreeWay, stay, onward, IsOnCycle, IsLoopFree, IsGap, IsRanking}
use Rattle.pp_flow.specs.Loops.{IsLeastLoop, IsWithoutLoop, IsLeastOnCycles}
use Rattle.pp_flow.specs.steps.Judging.{Judging, IsLeastSoFar, IsLeastAt, lesser}
use Rattle.pp_flow.specs.steps.Ranked.{RanksAt, RoundAt}
use Rattle.pp_flow.specs.steps.Reach.{IsReachTable}
use Rattle.pp_flow.specs.steps.Round.{HasRound, IsLeastRound}
use Rattle.pp_flow.specs.steps.Table.{IsTable}
use Rattle.pp_flow.proofs.GapLemmas.{gap_below}
use Rattle.pp_flow.proofs.RankingLemmas.{is_byte, way_falls, no_cycle, way_of, cycle_is}

abbrev at : List ℕ → ℕ → ℕ
at l x = get_or l x 0

module _ (moves : List Move) (starts : List ℕ) (entry count : ℕ) (table : IsTable moves starts count) (entry_in : entry < count) where
  pub reachable_in : {b x : ℕ} → IsReachable moves entry b x → x < count
  reachable_in (at_entry h) = entry_in
  reachable_in (by_free r f) = subst (λ (z : ℕ). z < count) f.to (table.points f.place f.made f.listed).1
  reachable_in (by_onward h r f) = subst (λ (z : ℕ). z < count) f.to (table.points f.place f.made f.listed).1

  along : {b x y n : ℕ} → IsReachable moves entry b x → FreeWay moves b x n y → IsReachable moves entry b y
  along r stay = r
  along r (onward f w) = along (by_free r f) w

  pub ranking_of : (words rank : List ℕ) (b : ℕ) → b < 256 → IsReachTable moves entry count words → RanksAt moves count words b rank → IsRanking moves entry b (λ x. at rank x)
  ranking_of words rank b h reach ranks = record {
    falls = λ node next r f. ranks.falls node next (reachable_in r) ((reach.exact node b h).1 r) f;
    tight = λ node r pos. ranks.tight node (reachable_in r) pos;
  }

  pub round_of : (words : List ℕ) (b node : ℕ) → b < 256 → IsReachTable moves entry count words → RoundAt moves words b node → HasRound moves count words b
  round_of words b node h reach r =
      let reachable : IsReachable moves entry b node = along ((reach.exact r.root b h).0 r.has) r.comes.to in
      record { node = node; inside = reachable_in reachable; has = (reach.exact node b h).1 reachable; size = r.comes.size; way = r.comes.round }

  pub judging_first : Judging moves entry 0 0
  judging_first = record {
    free = λ a x h. absurd (omega arith);
    most = λ a x n end h. absurd (omega arith);
    met = (0, entry, entry, at_entry (omega arith), stay);
    ranked = λ a h. absurd (omega arith);
  }

  pub judging_on : (words rank : List ℕ) (b gap more : ℕ) → b < 256 → IsReachTable moves entry count words → RanksAt moves count words b rank → Judging moves entry b gap →
      gap ≤ more → ((x : ℕ) → x < length rank → Has words x b → at rank x ≤ more) →
      ((more ≡ gap) ⊎ ((x : ℕ) × (x < length rank) × Has words x b × (at rank x ≡ more))) → Judging moves entry (b + 1) more
  judging_on words rank b gap more h reach ranks j up most met = record {
    free = λ a x lt c. elim (cases_eq a b) [
      | inl e ↦ no_cycle moves entry b (λ y. at rank y) ranking x (subst (λ (z : ℕ). IsOnCycle moves entry z x) e c)
      | inr o ↦ j.free a x (omega arith) c
    ];
    most = λ a x n end lt r w. elim (cases_eq a b) [
      | inl e ↦ (
          let r' : IsReachable moves entry b x = subst (λ (z : ℕ). IsReachable moves entry z x) e r in
          let w' : FreeWay moves b x n end = subst (λ (z : ℕ). FreeWay moves z x n end) e w in
          let fell : at rank end + n ≤ at rank x = way_falls moves entry b (λ y. at rank y) ranking r' w' in
          let top : at rank x ≤ more = most x (omega (arith, reachable_in r', ranks.long)) ((reach.exact x b h).1 r') in
          omega arith)
      | inr o ↦ (let old : n ≤ gap = j.most a x n end (omega arith) r w in omega arith)
    ];
    met = elim met [
      | inl e ↦ (j.met.0, j.met.1, j.met.2, j.met.3, subst (λ (z : ℕ). FreeWay moves j.met.0 j.met.1 z j.met.2) (sym e) j.met.4)
      | inr q ↦ (
          let r : IsReachable moves entry b q.0 = (reach.exact q.0 b h).0 q.2 in
          let way : (end : ℕ) × FreeWay moves b q.0 more end = way_of moves entry b (λ y. at rank y) ranking more q.0 r q.3 in
          (b, q.0, way.0, r, way.1))
    ];
    ranked = λ a lt. elim (cases_eq a b) [
      | inl e ↦ ((λ y. at rank y), subst (λ (z : ℕ). IsRanking moves entry z (λ y. at rank y)) (sym e) ranking)
      | inr o ↦ j.ranked a (omega arith)
    ];
  }
    where
      ranking : IsRanking moves entry b (λ y. at rank y)
      ranking = ranking_of words rank b h reach ranks

  pub judged_free : (gap : ℕ) → Judging moves entry 256 gap → IsWithoutLoop moves entry count gap
  judged_free gap j = record {
    free = free;
    exact = gap_is;
    below = gap_below moves entry count gap (λ k m e. (table.points k m e).1) entry_in free gap_is;
    ranks = λ b h. (
        let ranked = j.ranked b h in (
          ranked.0,
          ranked.1,
          λ node r. (
              let way = way_of moves entry b ranked.0 ranked.1 (ranked.0 node) node r refl in
              j.most b node (ranked.0 node) way.0 h r way.1),
        ));
  }
    where
      free : IsLoopFree moves entry
      free b node c = j.free b node (is_byte moves entry b node c.reachable) c

      gap_is : IsGap moves entry gap
      gap_is = record {
        most = λ b node n end r w. j.most b node n end (is_byte moves entry b node r) r w;
        met = j.met;
      }

  -- ranks show that no point is on a cycle at their byte
  pub none_at : (words rank : List ℕ) (b : ℕ) → b < 256 → IsReachTable moves entry count words → RanksAt moves count words b rank → (x : ℕ) → IsOnCycle moves entry b x → ⊥
  none_at words rank b h reach ranks x c = no_cycle moves entry b (λ y. at rank y) (ranking_of words rank b h reach ranks) x c

  -- the first point of the least cycle
  pub some_at : (words cycle : List ℕ) (b : ℕ) → b < 256 → IsReachTable moves entry count words → IsLeastRound moves words b cycle →
      IsOnCycle moves entry b (at cycle 0) × ((x : ℕ) → x < at cycle 0 → IsOnCycle moves entry b x → ⊥)
  some_at words cycle b h reach c = (
    cycle_is moves entry b cycle c.round ((reach.exact (at cycle 0) b h).0 c.has),
    λ x lt o. c.least x lt ((reach.exact x b h).1 o.reachable) o.size o.way,
  )

  pub judged_loop : (words : List ℕ) (b gap : ℕ) (cycle : List ℕ) → b < 256 → IsReachTable moves entry count words → Judging moves entry b gap → IsLeastRound moves words b cycle → IsLeastLoop moves entry b cycle
  judged_loop words b gap cycle h reach j c = record {
    in_bytes = h;
    round = c.round;
    reachable = (reach.exact (at cycle 0) b h).0 c.has;
    least_byte = j.free;
    least_point = λ x lt o. c.least x lt ((reach.exact x b h).1 o.reachable) o.size o.way;
  }

-- one more byte is searched for its least point on a cycle
pub so_far_first : (moves : List Move) (entry : ℕ) → IsLeastSoFar moves entry 0 None
so_far_first moves entry a x h = absurd (omega arith)

pub so_far_on : (moves : List Move) (entry b : ℕ) (least found : Option ℕ) → IsLeastSoFar moves entry b least → IsLeastAt moves entry b found → IsLeastSoFar moves entry (b + 1) (lesser least found)
unfolding lesser
so_far_on moves entry b None None s f = λ a x h c. elim (cases_eq a b) [
  | inl e ↦ f x (subst (λ (z : ℕ). IsOnCycle moves entry z x) e c)
  | inr o ↦ s a x (omega arith) c
]
so_far_on moves entry b None (Some y) s f = (
  (b, f.0),
  λ a x h lt c. elim (cases_eq a b) [
    | inl e ↦ f.1 x lt (subst (λ (z : ℕ). IsOnCycle moves entry z x) e c)
    | inr o ↦ s a x (omega arith) c
  ],
)
so_far_on moves entry b (Some l) None s f = (
  s.0,
  λ a x h lt c. elim (cases_eq a b) [
    | inl e ↦ f x (subst (λ (z : ℕ). IsOnCycle moves entry z x) e c)
    | inr o ↦ s.1 a x (omega arith) lt c
  ],
)
so_far_on moves entry b (Some l) (Some y) s f = (
  elim (cases_lt l y) [
    | inl lt ↦ (s.0.0, subst (λ (z : ℕ). IsOnCycle moves entry s.0.0 z) (let e : l ≡ min l y = omega arith in e) s.0.1)
    | inr ge ↦ (b, subst (λ (z : ℕ). IsOnCycle moves entry b z) (let e : y ≡ min l y = omega arith in e) f.0)
  ],
  λ a x h lt c. elim (cases_eq a b) [
    | inl e ↦ f.1 x (omega arith) (subst (λ (z : ℕ). IsOnCycle moves entry z x) e c)
    | inr o ↦ s.1 a x (omega arith) (omega arith) c
  ],
)

-- all bytes are searched
pub so_far_all : (moves : List Move) (entry : ℕ) (least : Option ℕ) → IsLeastSoFar moves entry 256 least → IsLeastOnCycles moves entry least
so_far_all moves entry None s = λ b x c. s b x (is_byte moves entry b x c.reachable) c
so_far_all moves entry (Some l) s = record { met = s.0; least_point = λ b x lt c. s.1 b x (is_byte moves entry b x c.reachable) lt c }
