-- Ranks at one byte for the points that a table of pairs has, or a cycle.
use Rattle.std.specs.Prelude.{◌≡◌, ℕ, suc, ◌<◌, List, length, slice_index}
use Rattle.pp_flow.specs.declared.moves.Move.{Move}
use Rattle.pp_flow.specs.declared.rank.Ranked.{Ranked}
use Rattle.pp_flow.specs.declared.rank.Ranked.TheVariants.{Ranks, Round}
use Rattle.pp_flow.specs.steps.Bits.{Has}
use Rattle.pp_flow.specs.Flow.{IsFree}
use Rattle.pp_flow.specs.steps.Search.{ComesRound}

pub record RanksAt (moves : List Move) (count : ℕ) (words : List ℕ) (b : ℕ) (rank : List ℕ) : Type 0 where
  pub long : length rank ≡ count
  pub falls : (node next : ℕ) → node < count → Has words node b → IsFree moves b node next → slice_index rank next < slice_index rank node
  pub tight : (node : ℕ) → node < count → 0 < slice_index rank node → (next : ℕ) × IsFree moves b node next × (slice_index rank node ≡ suc (slice_index rank next))

-- a way from a point that has a pair comes round at this one
pub record RoundAt (moves : List Move) (words : List ℕ) (b node : ℕ) : Type 0 where
  pub root : ℕ
  pub has : Has words root b
  pub comes : ComesRound moves b root node

abbrev pub IsRankedAt : List Move → ℕ → List ℕ → ℕ → Ranked → Type 0
IsRankedAt moves count words b (Ranks rank) = RanksAt moves count words b rank.items
IsRankedAt moves count words b (Round node) = RoundAt moves words b node
