-- A search by marks and a worklist.
use Rattle.std.specs.Prelude.{◌≡◌, ℕ, ◌<◌, List, [], ◌∷◌, ◌++◌, Bool, true, Some, length, map, slice_get, slice_index, slice_index_or, slice_set, if◌then◌else◌, All, Contains}
use Rattle.pp_graph.specs.declared.node.Answer.{Answer}
use Rattle.pp_program.specs.declared.program.Edge.{Edge}
use Rattle.pp_program.specs.declared.program.Instr.{Instr}
use Rattle.pp_program.specs.declared.program.Instr.TheVariants.{Branch, Invoke, Consume, SpanOpen, SpanClose, Pause, Fail}
use Rattle.pp_program.specs.declared.program.State.{State}
use Rattle.pp_clean.specs.Reach.{leads_to}

-- the places that are marked, and those of them from which the search has still to go on
pub record Search : Type 0 where
  pub marks : List Bool
  pub work : List ℕ

-- a search with a place marked, and to go on from, unless it was marked
abbrev pub visited : Search → ℕ → Search
visited s t = if slice_index_or s.marks t true then s else record { marks = slice_set s.marks t true; work = s.work ++ t ∷ [] }

-- and with these places, in this order
abbrev pub visited_all : Search → List ℕ → Search
visited_all s [] = s
visited_all s (t ∷ places) = visited_all (visited s t) places

-- By go the first place leads to a place.
pub data Found (go : ℕ → List ℕ) (first : ℕ) : ℕ → Type 0 where
  at_first : Found go first first
  by_go : {n t : ℕ} → Found go first n → Contains (go n) t → Found go first t

-- The marks are those of the places that the first one leads to.
pub record IsFound (go : ℕ → List ℕ) (size first : ℕ) (marks : List Bool) : Type 0 where
  pub long : length marks ≡ size
  pub first_marked : slice_get marks first ≡ Some true
  pub closed : (n t : ℕ) → slice_get marks n ≡ Some true → Contains (go n) t → slice_get marks t ≡ Some true
  pub only : (n : ℕ) → slice_get marks n ≡ Some true → Found go first n

-- the places that an instruction leads to are below n
abbrev pub TargetsBelow : ℕ → Instr → Type 0
TargetsBelow n (Branch fold stay edges rest) = (rest.target < n) × All (λ (e : Edge). e.target < n) edges
TargetsBelow n (Invoke code answers other) = (other < n) × All (λ (a : Answer). a.target < n) answers
TargetsBelow n (Consume prop next) = next < n
TargetsBelow n (SpanOpen span next) = next < n
TargetsBelow n (SpanClose span next) = next < n
TargetsBelow n (Pause code reason next) = next < n
TargetsBelow n (Fail code reason) = Unit {0}

-- where the edges of the state at a place land
abbrev pub lands : List State → List ℕ → ℕ → List ℕ
lands states landing n = map (λ t. slice_index landing t) (leads_to states n)
