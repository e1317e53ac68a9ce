-- How what is seen of runs grows with the string and the resumes.
use Rattle.std.specs.Prelude.{◌≡◌, ℕ, suc, List, ◌++◌, true}
use Rattle.pp_event.specs.declared.script.ScriptEntry.{ScriptEntry}
use Rattle.pp_event.specs.Growth.{Extends}
use Rattle.pp_event.specs.Loops.{AreBytes}
use Rattle.pp_event.specs.Run.{Finish, Waiting, Paused, Failed}
use Rattle.pp_event.specs.Runs.{script_fits}
use Rattle.pp_trace.specs.Subject.{SeenRuns, Seen}

-- with more bytes behind the string: a run that waited tells what it told, and a run that paused or failed is the same
abbrev pub Longer : Seen → Seen → Finish → Type 0
Longer old new Waiting = Extends old.items new.items
Longer old new (Paused code) = new ≡ old
Longer old new (Failed code) = new ≡ old

-- with one resume more: a run that paused tells what it told, and another one is the same
abbrev pub OnceMore : Seen → Seen → Finish → Type 0
OnceMore old new Waiting = new ≡ old
OnceMore old new (Paused code) = Extends old.items new.items
OnceMore old new (Failed code) = new ≡ old

-- no run takes back what a shorter one told
pub record Grow (run : SeenRuns) : Type 0 where
  pub longer : (values : List ℕ) (script : List ScriptEntry) (bytes more : List ℕ) (resumes : ℕ) →
      script_fits script ≡ true → AreBytes bytes → AreBytes (bytes ++ more) →
      Longer (run values script bytes resumes) (run values script (bytes ++ more) resumes) (run values script bytes resumes).finish
  pub resumed : (values : List ℕ) (script : List ScriptEntry) (bytes : List ℕ) (resumes : ℕ) →
      script_fits script ≡ true → AreBytes bytes →
      OnceMore (run values script bytes resumes) (run values script bytes (suc resumes)) (run values script bytes resumes).finish
