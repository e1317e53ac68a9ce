-- A run over bytes, of any machine that takes turns.
use Rattle.std.specs.Prelude.{ℕ, zero, suc, List, [], ◌∷◌, ◌++◌, Option, drop}
use Rattle.pp_event.specs.declared.item.Item.{Item}
use Rattle.pp_event.specs.declared.item.Item.TheVariants.{Call, Pause}
use Rattle.pp_event.specs.Chain.{Move, On, Over, Ends}

-- where a run stands: the node or state, the place, the number that the edge carried, the values of the
-- properties, and for each span where it was opened, if it is open
pub record Config : Type 0 where
  pub node : ℕ
  pub at : ℕ
  pub carried : ℕ
  pub values : List ℕ
  pub spans : List (Option ℕ)

-- what a machine does at a configuration with these bytes left
pub data Turn : Type 0 where
  -- goes on to a configuration, having taken so many bytes, and tells these items
  Goes : Config → ℕ → List Item → Turn
  -- asks a host code with a value, and goes on by the answer
  Asks : (code value : ℕ) → (ℕ → Config) → Turn
  -- needs more bytes; it has taken all that are left, and stands at this configuration
  Rests : Config → Turn
  -- pauses with a code; once resumed it goes on from this configuration
  Stops : (code : ℕ) → Config → Turn
  -- fails with a code
  Fails : (code : ℕ) → Turn

-- how a run ended
pub data Finish : Type 0 where
  Waiting : Finish
  Paused : (code : ℕ) → Finish
  Failed : (code : ℕ) → Finish

-- a run at some moment: where it stands, the bytes that are left, the items so far, and how many pauses it may
-- still pass
pub record Stage : Type 0 where
  pub config : Config
  pub rest : List ℕ
  pub items : List Item
  pub resumes : ℕ

-- what a run gave: how it ended, and where it stood then
pub record RunResult : Type 0 where
  pub finish : Finish
  pub last : Stage

-- what takes turns
abbrev pub Machine : Type 0
Machine = Config → List ℕ → Turn

-- who answers: from the items so far and a code to a number
abbrev pub Oracle : Type 0
Oracle = List Item → ℕ → ℕ

-- the stage behind a turn that tells items
abbrev pub telling : Stage → List Item → Config → List ℕ → Stage
telling s items d rest = record { config = d; rest = rest; items = s.items ++ items; resumes = s.resumes }

-- the run ends so, where it stands
abbrev pub ends : Finish → Stage → Move Stage RunResult
ends finish s = Over (record { finish = finish; last = s })

-- at a pause the run ends, or passes it where it still may; either way the pause is told
abbrev pub pass : Stage → ℕ → Config → ℕ → Move Stage RunResult
pass s code d zero = ends (Paused code) (telling s (Pause code s.config.at ∷ []) s.config s.rest)
pass s code d (suc r) = On (record { config = d; rest = s.rest; items = s.items ++ Pause code s.config.at ∷ []; resumes = r })

-- the move that a turn makes
abbrev pub move_by : Oracle → Stage → Turn → Move Stage RunResult
move_by oracle s (Goes d k items) = On (telling s items d (drop k s.rest))
move_by oracle s (Asks code value next) =
    let answer = oracle s.items code in
    On (telling s (Call code value s.config.at s.config.values answer ∷ []) (next answer) s.rest)
move_by oracle s (Rests d) = ends Waiting (record s { config = d; rest = [] })
move_by oracle s (Stops code d) = pass s code d s.resumes
move_by oracle s (Fails code) = ends (Failed code) s

-- the move of a run: its machine's turn, answered by the oracle
abbrev pub move : Machine → Oracle → Stage → Move Stage RunResult
move turn oracle s = move_by oracle s (turn s.config s.rest)

-- the beginning of a run from a configuration over these bytes, which passes so many pauses
abbrev pub start : Config → List ℕ → ℕ → Stage
start c bytes resumes = record { config = c; rest = bytes; items = []; resumes = resumes }

-- the run from a configuration over these bytes, which passes so many pauses and ends at the next, has this result
abbrev pub RunEnds : Machine → Oracle → Config → List ℕ → ℕ → RunResult → Type 0
RunEnds turn oracle c bytes resumes r = Ends (move turn oracle) (start c bytes resumes) r
