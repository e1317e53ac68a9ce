-- What each command makes of an input.
use Rattle.std.specs.Prelude.{◌≡◌, ◌⊎◌, ℕ, List}
use Rattle.pp_tool.specs.declared.refusal.Refusal.{Refusal}
use Rattle.pp_tool.specs.declared.status.Status.{Status}
use Rattle.pp_tool.specs.declared.status.Status.TheVariants as status
use Rattle.pp_tool.specs.declared.words.Command.{Command}
use Rattle.pp_tool.specs.declared.words.Command.TheVariants as command
use Rattle.pp_tool.specs.Answers.{status_of}
use Rattle.pp_tool.specs.Verdict.{Verdict, IsFault}
use Rattle.pp_tool.specs.GraphText.{IsOfGraph}
use Rattle.pp_tool.specs.Checks.{IsOfCheck}
use Rattle.pp_tool.specs.Check.{IsCheckedAs}
use Rattle.pp_tool.specs.Print.{Prints}
use Rattle.pp_tool.specs.Trace.{Traces}

-- the verdict of each command
abbrev pub Decides : Command → List ℕ → Verdict → Type 0
Decides command.Trace = Traces
Decides command.Check = IsCheckedAs
Decides command.Print = Prints

-- the refusals that each command can come to
abbrev pub CanRefuse : Command → Refusal → Type 0
CanRefuse command.Trace why = Unit {0}
CanRefuse command.Check why = IsOfGraph why ⊎ IsOfCheck why
CanRefuse command.Print why = IsOfGraph why

-- an answer of the command, over any input
abbrev pub IsAnswerOf : Command → Status → Type 0
IsAnswerOf command answer = (answer ≡ status.Ok) ⊎ IsFault answer ⊎ ((why : Refusal) × CanRefuse command why × (answer ≡ status_of why))
