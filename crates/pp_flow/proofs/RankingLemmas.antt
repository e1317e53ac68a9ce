-- A ranking at each byte shows that there is no loop, and which gap there is.
use Rattle.std.proofs.Common.{◌≡◌, ℕ, zero, suc, ◌+◌, ◌-◌, ◌≤◌, ◌<◌, List, length, get_or, arith}
use Rattle.pp_flow.specs.declared.moves.Move.{Move}
use Rattle.pp_flow.specs.Flow.{IsFree, IsReachable, at_entry, by_free, by_onward, FreeWay, stay, onward, IsOnCycle, IsLoopFree, IsGap, IsRanking}
use Rattle.pp_flow.specs.Loops.{IsCycle}

module _ (moves : List Move) (entry b : ℕ) (rank : ℕ → ℕ) (table : IsRanking moves entry b rank) where
  -- a way falls by its length at least
  pub way_falls : {node n end : ℕ} → IsReachable moves entry b node → FreeWay moves b node n end → rank end + n ≤ rank node
  way_falls r stay = omega arith
  way_falls {node} r (onward {next = next} {end = end} {n = n} f w) =
      let rest : rank end + n ≤ rank next = way_falls (by_free r f) w in
      let first : rank next < rank node = table.falls node next r f in
      omega arith

  -- no pair is on a cycle
  pub no_cycle : (node : ℕ) → IsOnCycle moves entry b node → ⊥
  no_cycle node c = let fell : rank node + suc c.size ≤ rank node = way_falls c.reachable c.way in omega arith

  -- from each point there is a way as long as its rank
  pub way_of : (k node : ℕ) → IsReachable moves entry b node → rank node ≡ k → (end : ℕ) × FreeWay moves b node k end
  way_of zero node r e = (node, stay)
  way_of (suc k) node r e =
      let next : (next : ℕ) × IsFree moves b node next × (rank node ≡ suc (rank next)) = table.tight node r (omega arith) in
      let rest : (end : ℕ) × FreeWay moves b next.0 k end = way_of k next.0 (by_free r next.1) (omega (arith, next.2, e)) in
      (rest.0, onward {end = rest.0} next.1 rest.1)

-- a reachable point has a byte next
pub is_byte : (moves : List Move) (entry b node : ℕ) → IsReachable moves entry b node → b < 256
is_byte moves entry b node (at_entry h) = h
is_byte moves entry b node (by_free {node = from} r f) = is_byte moves entry b from r
is_byte moves entry b node (by_onward h r f) = h

-- a table of ranks for each byte below 256: no loop
pub loop_free : (moves : List Move) (entry : ℕ) (rank : ℕ → ℕ → ℕ) → ((b : ℕ) → b < 256 → IsRanking moves entry b (rank b)) → IsLoopFree moves entry
loop_free moves entry rank table b node c = no_cycle moves entry b (rank b) (table b (is_byte moves entry b node c.reachable)) node c

-- and the greatest rank, where it is met, is the gap
pub gap_of : (moves : List Move) (entry : ℕ) (rank : ℕ → ℕ → ℕ) → ((b : ℕ) → b < 256 → IsRanking moves entry b (rank b)) →
    (gap b node : ℕ) → ((b node : ℕ) → IsReachable moves entry b node → rank b node ≤ gap) → IsReachable moves entry b node → rank b node ≡ gap →
    IsGap moves entry gap
gap_of moves entry rank table gap b node most r e = record {
  most = λ b' node' n end r' w. (
      let fell : rank b' end + n ≤ rank b' node' = way_falls moves entry b' (rank b') (table b' (is_byte moves entry b' node' r')) r' w in
      let up : rank b' node' ≤ gap = most b' node' r' in
      omega arith);
  met = (
      let way : (end : ℕ) × FreeWay moves b node gap end = way_of moves entry b (rank b) (table b (is_byte moves entry b node r)) gap node r e in
      (b, node, way.0, r, way.1));
}

-- one move more at the end of a way
way_more : {moves : List Move} {b x y z n : ℕ} → FreeWay moves b x n y → IsFree moves b y z → FreeWay moves b x (suc n) z
way_more {z = z} stay f = onward {next = z} f stay
way_more (onward {next = w} g rest) f = onward {next = w} g (way_more rest f)

-- from the first point of a cycle to a later one
way_along : (moves : List Move) (b : ℕ) (cycle : List ℕ) → IsCycle moves b cycle → (i : ℕ) → i < length cycle → FreeWay moves b (get_or cycle 0 0) i (get_or cycle i 0)
way_along moves b cycle c zero h = stay
way_along moves b cycle c (suc i) h = way_more (way_along moves b cycle c i (omega arith)) (c.links i h)

-- a cycle from a reachable point
pub cycle_is : (moves : List Move) (entry b : ℕ) (cycle : List ℕ) → IsCycle moves b cycle → IsReachable moves entry b (get_or cycle 0 0) → IsOnCycle moves entry b (get_or cycle 0 0)
cycle_is moves entry b cycle c r = record {
  reachable = r;
  size = length cycle - 1;
  way = way_more (way_along moves b cycle c (length cycle - 1) (omega (arith, c.some))) c.closes;
}

-- both in one
pub gives_gap : (moves : List Move) (entry gap : ℕ) (rank : ℕ → ℕ → ℕ) → ((b : ℕ) → b < 256 → IsRanking moves entry b (rank b)) →
    ((b node : ℕ) → IsReachable moves entry b node → rank b node ≤ gap) → ((b : ℕ) × (node : ℕ) × IsReachable moves entry b node × (rank b node ≡ gap)) →
    IsLoopFree moves entry × IsGap moves entry gap
gives_gap moves entry gap rank table most met = (loop_free moves entry rank table, gap_of moves entry rank table gap met.0 met.1 most met.2 met.3)
