-- `print`: the text of a graph alone, and its printed text.
use Rattle.std.specs.Prelude.{ℕ, List}
use Rattle.pp_text.specs.Printed.{printed}
use Rattle.pp_tool.specs.Verdict.{Verdict, Then, Writes}
use Rattle.pp_tool.specs.GraphText.{ReadsTextAlone}

-- what `print` makes of an input
abbrev pub Prints : List ℕ → Verdict → Type 0
Prints = Then ReadsTextAlone (Writes printed)
