-- The run of a machine as a function.
use Rattle.std.specs.Prelude.{◌≡◌, ℕ, ◌<◌, ◌^◌, List, [], ◌∷◌, Bool, true, ◌&&◌, nat_lt}
use Rattle.pp_event.specs.declared.item.Item.{Item}
use Rattle.pp_event.specs.declared.script.ScriptEntry.{ScriptEntry}
use Rattle.pp_event.specs.Run.{Config, Oracle, RunResult, RunEnds}
use Rattle.pp_event.specs.Loops.{Moves, AreBytes}

-- each answer is a 32-bit number
abbrev pub IsBounded : Oracle → Type 0
IsBounded oracle = (items : List Item) (code : ℕ) → oracle items code < 2 ^ 32

-- ways to answer that are told by plain data, and which of the data give 32-bit numbers
pub record Answering : Type 1 where
  pub Data : Type 0
  pub oracle : Data → Oracle
  pub fits : Data → Bool
  pub bounded : (d : Data) → fits d ≡ true → IsBounded (oracle d)

-- a result for each configuration to begin at, data that answer, string and number of resumes
abbrev pub Runs : Answering → Type 0
Runs a = Config → a.Data → List ℕ → ℕ → RunResult

-- from the entry, over bytes and with answers that fit, these are the results of the runs
abbrev pub AreRuns : Moves → (a : Answering) → Runs a → Type 0
AreRuns m a run = (c : Config) (answers : a.Data) (bytes : List ℕ) (resumes : ℕ) →
    c.node ≡ m.entry → a.fits answers ≡ true → AreBytes bytes → RunEnds m.turn (a.oracle answers) c bytes resumes (run c answers bytes resumes)

-- all answers of a list are 32-bit numbers
abbrev pub answers_fit : List ℕ → Bool
answers_fit [] = true
answers_fit (n ∷ answers) = nat_lt n (2 ^ 32) && answers_fit answers

-- all answers of a script are 32-bit numbers
abbrev pub script_fits : List ScriptEntry → Bool
script_fits [] = true
script_fits (e ∷ entries) = nat_lt e.answer (2 ^ 32) && script_fits entries

-- all numbers of a list are bytes
abbrev pub are_bytes : List ℕ → Bool
are_bytes [] = true
are_bytes (b ∷ bytes) = nat_lt b 256 && are_bytes bytes
