-- How the run with more bytes, or with one more resume, follows from the run without.
use Rattle.std.specs.Prelude.{◌≡◌, ℕ, suc, List, ◌++◌}
use Rattle.pp_event.specs.declared.item.Item.{Item}
use Rattle.pp_event.specs.Chain.{Ends}
use Rattle.pp_event.specs.Run.{Config, Stops, Finish, Waiting, Paused, Failed, Stage, RunResult, Machine, Oracle, move}

-- one list is another with more behind it
abbrev pub Extends : List Item → List Item → Type 0
Extends old new = (more : List Item) × (new ≡ old ++ more)

-- the same moment with more bytes to come
abbrev pub followed : Stage → List ℕ → Stage
followed s more = record s { rest = s.rest ++ more }

-- what a result becomes with more bytes to come, where it didn't wait for them
abbrev pub followed_result : RunResult → List ℕ → RunResult
followed_result r more = record r { last = followed r.last more }

-- a result that didn't wait is kept with more bytes behind
abbrev pub IsKept : Machine → Oracle → Stage → List ℕ → RunResult → Finish → Type 0
IsKept turn oracle s more r Waiting = Unit {0}
IsKept turn oracle s more r (Paused code) = Ends (move turn oracle) (followed s more) (followed_result r more)
IsKept turn oracle s more r (Failed code) = Ends (move turn oracle) (followed s more) (followed_result r more)

-- the run goes on from where it ended, with more bytes, and then has the result q; where it didn't wait it has ended
abbrev pub Onward : Machine → Oracle → RunResult → List ℕ → RunResult → Finish → Type 0
Onward turn oracle r more q Waiting = Ends (move turn oracle) (followed r.last more) q
Onward turn oracle r more q (Paused code) = followed_result r more ≡ q
Onward turn oracle r more q (Failed code) = followed_result r more ≡ q

-- the same moment, with one more pause that may be passed
abbrev pub allowed : Stage → Stage
allowed s = record s { resumes = suc s.resumes }

-- with one more resume a run that paused goes on from behind the pause, and another one has ended
abbrev pub OnceResumed : Machine → Oracle → RunResult → RunResult → Finish → Type 0
OnceResumed turn oracle r q Waiting = record r { last = allowed r.last } ≡ q
OnceResumed turn oracle r q (Paused code) =
    (d : Config) × (turn r.last.config r.last.rest ≡ Stops code d) × Ends (move turn oracle) (record r.last { config = d }) q
OnceResumed turn oracle r q (Failed code) = record r { last = allowed r.last } ≡ q

-- the same moment behind other items
abbrev pub behind : List Item → Stage → Stage
behind before s = record s { items = before ++ s.items }

-- the result behind other items
abbrev pub behind_result : List Item → RunResult → RunResult
behind_result before r = record r { last = behind before r.last }
