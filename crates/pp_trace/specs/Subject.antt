-- What a report shows of a graph or a program, and of its runs.
use Rattle.std.specs.Prelude.{◌≡◌, ℕ, List, Option, true}
use Rattle.pp_event.specs.declared.item.Item.{Item}
use Rattle.pp_event.specs.declared.script.ScriptEntry.{ScriptEntry}
use Rattle.pp_event.specs.Answers.{by_script}
use Rattle.pp_event.specs.Loops.{AreBytes}
use Rattle.pp_event.specs.Run.{Config, Finish, Machine, RunResult, RunEnds}
use Rattle.pp_event.specs.Runs.{script_fits}

-- what a report shows of a run: its items, how it ended, and where: the name of the node, its reason if it pauses or
-- fails, the place, the values of the properties, and for each span where it was opened, if it is open
pub record Seen : Type 0 where
  pub items : List Item
  pub finish : Finish
  pub node : List ℕ
  pub reason : List ℕ
  pub at : ℕ
  pub values : List ℕ
  pub spans : List (Option ℕ)

-- what is seen of each run: by the values that it begins with, the script that answers, the string, and the number of
-- pauses that it passes
abbrev pub SeenRuns : Type 0
SeenRuns = List ℕ → List ScriptEntry → List ℕ → ℕ → Seen

-- a machine, its beginning with these values, and the name and the reason of each of its nodes
pub record Meaning : Type 0 where
  pub turn : Machine
  pub start : List ℕ → Config
  pub name : ℕ → List ℕ
  pub reason : ℕ → List ℕ

-- what is seen of a result
abbrev pub seen : Meaning → RunResult → Seen
seen m r = record {
  items = r.last.items;
  finish = r.finish;
  node = m.name r.last.config.node;
  reason = m.reason r.last.config.node;
  at = r.last.config.at;
  values = r.last.config.values;
  spans = r.last.config.spans;
}

-- these are the machine's runs, for answers of 32 bits and strings of bytes
abbrev pub AreRunsOf : Meaning → SeenRuns → Type 0
AreRunsOf m run = (values : List ℕ) (script : List ScriptEntry) (bytes : List ℕ) (resumes : ℕ) → script_fits script ≡ true → AreBytes bytes →
    (r : RunResult) × RunEnds m.turn (by_script script) (m.start values) bytes resumes r × (run values script bytes resumes ≡ seen m r)

-- the names of properties, host codes and spans, the greatest value of each property, the finish rule (a property and a
-- host code), and the runs
pub record Subject : Type 0 where
  pub props : List (List ℕ)
  pub most : List ℕ
  pub hosts : List (List ℕ)
  pub spans : List (List ℕ)
  pub finish_rule : Option (ℕ × ℕ)
  pub run : SeenRuns
