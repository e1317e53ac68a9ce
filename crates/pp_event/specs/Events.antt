-- What a host shows of itself, and what a question does to that.
use Rattle.std.specs.Prelude.{◌≡◌, ℕ, ◌≤◌, List, [], ◌∷◌, ◌++◌, Option, Some, None}
use Rattle.pp_outside.specs.Faults.{Rose}
use Rattle.pp_event.specs.declared.host.Reply.{Reply}
use Rattle.pp_event.specs.declared.host.Reply.TheVariants.{Is, NoMemory}
use Rattle.pp_event.specs.Told.{Told}

-- what a host shows: its log where it keeps one, how often it refused for want of memory, and its view, which is
-- plain data of a type that the host names
pub record Shown (View : Type 0) : Type 0 where
  pub log : Option (List Told)
  pub refusals : ℕ
  pub view : View

-- the log has this event more, where there is one
abbrev pub Logs : Option (List Told) → Told → Option (List Told) → Type 0
Logs None e new = new ≡ None
Logs (Some log) e new = new ≡ Some (log ++ e ∷ [])

-- a question was answered, which makes this event: the log has it more, the view before allowed it, and the view
-- afterwards is the next one
pub record Answered {View : Type 0} (allows : View → Told → Type 0) (next : View → Told → View) (old new : Shown View) (e : Told) : Type 0 where
  pub logs : Logs old.log e new.log
  pub allowed : allows old.view e
  pub view : new.view ≡ next old.view e
  pub refusals : old.refusals ≤ new.refusals

-- a question was refused for want of memory: the count of refusals rose, and log and view are as before
pub record Refused {View : Type 0} (old new : Shown View) : Type 0 where
  pub rose : Rose old.refusals new.refusals
  pub refusals : old.refusals ≤ new.refusals
  pub log : new.log ≡ old.log
  pub view : new.view ≡ old.view

-- the reply to a question that makes this event with each answer
abbrev pub Replies : {View : Type 0} → (View → Told → Type 0) → (View → Told → View) → Shown View → Shown View → (ℕ → Told) → Reply → Type 0
Replies allows next old new e (Is answer) = Answered allows next old new (e answer)
Replies allows next old new e NoMemory = Refused old new
