-- What a host was asked in a row, and what it answered.
use Rattle.std.specs.Prelude.{◌≡◌, ℕ, ◌+◌, ◌<◌, ◌≤◌, List, [], ◌∷◌, ◌++◌, Option, Some, None, Bool, length}
use Rattle.pp_event.specs.Told.{Told, Called, Pieced}
use Rattle.pp_event.specs.Events.{Shown}

-- the log has these events more, where there is one
abbrev pub Logged : Option (List Told) → List Told → Option (List Told) → Type 0
Logged None events new = new ≡ None
Logged (Some log) events new = new ≡ Some (log ++ events)

-- each event is allowed by the view that those before it leave
abbrev pub AllAllowed : {View : Type 0} → (View → Told → Type 0) → (View → Told → View) → View → List Told → Type 0
AllAllowed allows next v [] = Unit {0}
AllAllowed allows next v (e ∷ events) = allows v e × AllAllowed allows next (next v e) events

-- the view that these events leave
abbrev pub view_after : {View : Type 0} → (View → Told → View) → View → List Told → View
view_after next v [] = v
view_after next v (e ∷ events) = view_after next (next v e) events

-- these questions were answered, in this order: the log has them more, each was allowed, and the view afterwards is
-- the one that they leave
pub record Went {View : Type 0} (allows : View → Told → Type 0) (next : View → Told → View) (old new : Shown View) (events : List Told) : Type 0 where
  pub logs : Logged old.log events new.log
  pub allowed : AllAllowed allows next old.view events
  pub view : new.view ≡ view_after next old.view events
  pub refusals : old.refusals ≤ new.refusals

-- the answers to calls
abbrev pub answers_of : List Told → List ℕ
answers_of [] = []
answers_of (Called code value at values answer ∷ events) = answer ∷ answers_of events
answers_of (Pieced span at part last answer ∷ events) = answers_of events

-- what was due was asked up to a piece that was answered by this number, not 0, and ends at this place
pub record IsStopped (due events : List Told) (answer place : ℕ) : Type 0 where
  pub before : List Told
  pub after : List Told
  pub span : ℕ
  pub from : ℕ
  pub part : List ℕ
  pub last : Bool
  pub due_is : due ≡ before ++ Pieced span from part last 0 ∷ after
  pub events_are : events ≡ before ++ Pieced span from part last answer ∷ []
  pub not_zero : 0 < answer
  pub place_is : place ≡ from + length part

-- what was due was asked up to a question that was refused
pub record IsRefused (due events : List Told) : Type 0 where
  pub after : List Told
  pub question : Told
  pub due_is : due ≡ events ++ question ∷ after
