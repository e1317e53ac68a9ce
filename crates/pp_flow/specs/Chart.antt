-- A flow as plain data.
use Rattle.std.specs.Prelude.{◌≡◌, ℕ, suc, ◌++◌, ◌∷◌, [], List, length}
use Rattle.pp_flow.specs.declared.moves.Act.{Act}
use Rattle.pp_flow.specs.declared.moves.Move.{Move}

-- what each point does to spans, the point where ways begin, the moves in order of the points that they are from,
-- and of how many points all moves are told
pub record Chart : Type 0 where
  pub acts : List Act
  pub entry : ℕ
  pub moves : List Move
  pub told : ℕ

-- one more move
abbrev pub with_move : Chart → Move → Chart
with_move c m = record { acts = c.acts; entry = c.entry; moves = c.moves ++ m ∷ []; told = c.told }

-- all moves of one more point are told
abbrev pub with_point : Chart → Chart
with_point c = record { acts = c.acts; entry = c.entry; moves = c.moves; told = suc c.told }

-- the moves of all points are told
abbrev pub IsWhole : Chart → Type 0
IsWhole c = c.told ≡ length c.acts
