-- One machine does what another one does, each turn of the first by zero or more turns of the second.
use Rattle.std.specs.Prelude.{◌≡◌, ℕ, List, [], ◌++◌, drop}
use Rattle.pp_event.specs.declared.item.Item.{Item}
use Rattle.pp_event.specs.Chain.{Move, On, Over, Ends, Comes}
use Rattle.pp_event.specs.Run.{Config, Turn, Goes, Asks, Rests, Stops, Fails, Machine, Stage, RunResult}

-- what one move of the first chain leads to, the second chain comes to as well, from s
abbrev pub Follows : {S R T Q : Type 0} → (S → T → Type 0) → (R → Q → Type 0) → (T → Move T Q) → Move S R → T → Type 0
Follows alike same go (On d) s = (e : _) × Comes go s e × alike d e
Follows alike same go (Over r) s = (q : _) × Ends go s q × same r q

-- from alike stages each move of the first chain is followed by the second
abbrev pub Simulates : {S R T Q : Type 0} → (S → Move S R) → (T → Move T Q) → (S → T → Type 0) → (R → Q → Type 0) → Type 0
Simulates move go alike same = (s : _) (t : _) → alike s t → Follows alike same go (move s) t

-- zero or more turns in a row that go on, with the items that they tell, and the bytes left before and after
pub data Way (turn : Machine) : Config → List ℕ → List Item → Config → List ℕ → Type 0 where
  here : {c : Config} {rest : List ℕ} → Way turn c rest [] c rest
  step : {c d e : Config} {rest left : List ℕ} {k : ℕ} {items more all : List Item} →
      turn c rest ≡ Goes d k items → Way turn d (drop k rest) more e left → all ≡ items ++ more → Way turn c rest all e left

-- a relation between the configurations of two machines: where their runs go on, and where they end
pub record Bond : Type 1 where
  -- both runs may go on from here
  pub meet : Config → Config → Type 0
  -- both runs may end here
  pub close : Config → Config → Type 0

-- the same place, values and spans
pub record Shows (c d : Config) : Type 0 where
  pub at : c.at ≡ d.at
  pub values : c.values ≡ d.values
  pub spans : c.spans ≡ d.spans

-- zero or more turns that tell nothing, and then one whose turn is t
pub record Turning (turn : Machine) (d : Config) (rest : List ℕ) (e : Config) (left : List ℕ) (t : Turn) : Type 0 where
  pub way : Way turn d rest [] e left
  pub turn_is : turn e left ≡ t

-- from d, with these bytes left, the machine does what the turn of the other machine at c does
abbrev pub Matches : Bond → Machine → Config → Config → List ℕ → Turn → Type 0
Matches bond turn c d rest (Goes to k items) = (e : Config) × Way turn d rest items e (drop k rest) × bond.meet to e
Matches bond turn c d rest (Asks code value next) =
    (e : Config) × (edge : ℕ → Config) × Turning turn d rest e rest (Asks code value edge)
    × (c.at ≡ e.at) × (c.values ≡ e.values) × ((answer : ℕ) → bond.meet (next answer) (edge answer))
Matches bond turn c d rest (Rests to) =
    (e : Config) × (left : List ℕ) × (f : Config) × Turning turn d rest e left (Rests f) × bond.close to f
Matches bond turn c d rest (Stops code to) =
    (e : Config) × (f : Config) × Turning turn d rest e rest (Stops code f) × (c.at ≡ e.at) × bond.close c e × bond.meet to f
Matches bond turn c d rest (Fails code) =
    (e : Config) × Turning turn d rest e rest (Fails code) × bond.close c e

-- the second machine simulates the first, turn by turn
abbrev pub SimulatesTurns : Bond → Machine → Machine → Type 0
SimulatesTurns bond first second =
    (c d : Config) (rest : List ℕ) → bond.meet c d → Matches bond second c d rest (first c rest)

-- a turn at d that does in one turn what the turn of the other machine at c does
abbrev pub Mirrors : Bond → Config → Config → Turn → Turn → Type 0
Mirrors bond c d (Goes to k items) u = (e : Config) × (u ≡ Goes e k items) × bond.meet to e
Mirrors bond c d (Asks code value next) u =
    (edge : ℕ → Config) × (u ≡ Asks code value edge) × (c.at ≡ d.at) × (c.values ≡ d.values) × ((answer : ℕ) → bond.meet (next answer) (edge answer))
Mirrors bond c d (Rests to) u = (f : Config) × (u ≡ Rests f) × bond.close to f
Mirrors bond c d (Stops code to) u = (f : Config) × (u ≡ Stops code f) × (c.at ≡ d.at) × bond.close c d × bond.meet to f
Mirrors bond c d (Fails code) u = (u ≡ Fails code) × bond.close c d

-- the second machine mirrors the first: one turn for each turn
abbrev pub MirrorsTurns : Bond → Machine → Machine → Type 0
MirrorsTurns bond first second =
    (c d : Config) (rest : List ℕ) → bond.meet c d → Mirrors bond c d (first c rest) (second d rest)

-- two runs that stand at related configurations, with the same bytes left, items and resumes
pub record Alike (rel : Config → Config → Type 0) (s t : Stage) : Type 0 where
  pub config : rel s.config t.config
  pub rest : s.rest ≡ t.rest
  pub items : s.items ≡ t.items
  pub resumes : s.resumes ≡ t.resumes

-- two runs ended in the same way, at related configurations
pub record SameEnd (bond : Bond) (r q : RunResult) : Type 0 where
  pub finish : r.finish ≡ q.finish
  pub last : Alike bond.close r.last q.last
