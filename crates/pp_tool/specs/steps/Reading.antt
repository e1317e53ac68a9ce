-- How a graph text is read from the front of an input.
use Rattle.std.specs.Prelude.{◌≡◌, ◌≢◌, ◌⊎◌, ℕ, suc, ◌<◌, List, [], ◌++◌, Option, Some, Bool, ◌==◌, length, count_by, take, drop}
use Rattle.pp_graph.specs.Plan.{Plan}
use Rattle.pp_text.specs.Text.{Told, limit}
use Rattle.pp_text.specs.Outcome.{Reads}
use Rattle.pp_tool.specs.declared.refusal.GraphReason.{GraphReason}
use Rattle.pp_tool.specs.declared.refusal.Refusal.TheVariants as refusal
use Rattle.pp_tool.specs.declared.stop.Stop.{Stop}
use Rattle.pp_tool.specs.declared.stop.Stop.TheVariants as stop
use Rattle.pp_tool.specs.GraphText.{HasNoGraph, BeginsWithGraph}

-- the byte LF
abbrev pub is_lf : ℕ → Bool
is_lf b = b == 10

-- What stands behind the front of an input: nothing, unless the front has more bytes than a text may have.
abbrev pub CanFollow : List ℕ → List ℕ → Type 0
CanFollow front more = (more ≡ []) ⊎ (limit < length front)

-- the bytes are this front and what is left behind it
pub record IsFront (bytes front : List ℕ) (left : Option (List ℕ)) : Type 0 where
  pub more : List ℕ
  pub is : bytes ≡ front ++ more
  pub left_is : left ≡ Some more
  pub follows : CanFollow front more

-- the graph whose text begins the bytes, and the length of the text
pub record IsGraphAt (bytes : List ℕ) (g : Plan) (used : ℕ) : Type 0 where
  pub told : Told
  pub last : ℕ
  pub rest : List ℕ
  pub reads : Reads bytes told last rest g used

-- no graph begins the bytes, for this reason and no other
pub record IsRefusedFor (bytes : List ℕ) (reason : GraphReason) : Type 0 where
  pub here : HasNoGraph bytes reason
  pub none : (g : Plan) (last : ℕ) (rest : List ℕ) → ¬ (BeginsWithGraph bytes g last rest)
  pub only : (other : GraphReason) → HasNoGraph bytes other → other ≡ reason

-- where a text is refused, no graph begins the bytes, for one reason
abbrev pub IsTextStop : List ℕ → Stop → Type 0
IsTextStop bytes s = (s ≡ stop.NoMemory) ⊎ ((reason : GraphReason) × (s ≡ stop.Refused (refusal.Graph reason)) × IsRefusedFor bytes reason)

-- this graph begins the bytes, no other does, and no fault comes before
pub record IsTheGraph (bytes : List ℕ) (g : Plan) (last : ℕ) (rest : List ℕ) : Type 0 where
  pub begins : BeginsWithGraph bytes g last rest
  pub no_fault : (reason : GraphReason) → ¬ (HasNoGraph bytes reason)
  pub only : (h : Plan) (l : ℕ) (r : List ℕ) → BeginsWithGraph bytes h l r → (h ≡ g) × (r ≡ rest)

-- the front of the bytes was taken, with this graph, whose text has this length
pub record IsTaken (bytes front : List ℕ) (g : Plan) (used : ℕ) (left : Option (List ℕ)) : Type 0 where
  pub front_is : IsFront bytes front left
  pub at : IsGraphAt front g used
  pub the : IsTheGraph bytes g at.last (drop used front ++ front_is.more)
  pub line : (h : Plan) (l : ℕ) (r : List ℕ) → BeginsWithGraph bytes h l r → r ≢ [] → suc l ≡ suc (count_by is_lf (take used front))

-- or no graph begins them
abbrev pub IsTakenStop : List ℕ → Stop → Type 0
IsTakenStop bytes s = (s ≡ stop.ReadFault) ⊎ IsTextStop bytes s
