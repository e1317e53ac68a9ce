-- `check`: the text of a graph alone, which is accepted, and how many nodes it has, its gap, and the most spans that may
-- be open at one of them.
use Rattle.std.specs.Prelude.{◌≡◌, ℕ, zero, suc, ◌+◌, List, [], ◌∷◌, ◌++◌, codes, decimal, length, max}
use Rattle.std.specs.Int.{bit_at}
use Rattle.pp_graph.specs.Plan.{Plan}
use Rattle.pp_event.specs.Loops.{IsGap}
use Rattle.pp_mean.specs.Loops.{graph_moves}
use Rattle.pp_check.specs.Spans.{TellsOpen}
use Rattle.pp_tool.specs.Verdict.{Gives, Refuses, Verdict, Then}
use Rattle.pp_tool.specs.GraphText.{ReadsTextAlone}
use Rattle.pp_tool.specs.Checks.{Checks}

-- how many of the lowest n bits are 1
abbrev pub bits_below : ℕ → ℕ → ℕ
bits_below zero mask = 0
bits_below (suc n) mask = bits_below n mask + bit_at mask n

-- the most bits of one of these masks of 32 bits
abbrev pub most_bits : List ℕ → ℕ
most_bits [] = 0
most_bits (mask ∷ masks) = max (bits_below 32 mask) (most_bits masks)

-- `ok nodes N gap G open M`
abbrev pub accepted_line : ℕ → ℕ → ℕ → List ℕ
accepted_line nodes gap spans = codes "ok nodes " ++ decimal nodes ++ codes " gap " ++ decimal gap ++ codes " open " ++ decimal spans ++ 10 ∷ []

-- the line tells the exact gap and open spans of the graph
pub record IsShape (g : Plan) (line : List ℕ) : Type 0 where
  pub gap : ℕ
  pub opened : List ℕ
  pub exact_gap : IsGap (graph_moves g) gap
  pub exact_spans : TellsOpen g opened
  pub line_is : line ≡ accepted_line (length g.nodes) gap (most_bits opened)

-- the last stage
abbrev pub TellsShape : Plan → Verdict → Type 0
TellsShape g (Gives lines) = IsShape g lines
TellsShape g (Refuses why before) = ⊥

-- behind the text of a graph
abbrev pub OnGraphAlone : Plan → Verdict → Type 0
OnGraphAlone = Then (Checks (λ g. g)) TellsShape

-- what `check` makes of an input
abbrev pub IsCheckedAs : List ℕ → Verdict → Type 0
IsCheckedAs = Then ReadsTextAlone OnGraphAlone
