-- The words of the commands.
use Rattle.std.specs.Prelude.{◌≡◌, ℕ, List, [], ◌∷◌, codes, Option, Some}
use Rattle.pp_tool.specs.declared.words.Command.{Command}
use Rattle.pp_tool.specs.declared.words.Command.TheVariants as command

-- `trace`, alone
abbrev pub trace_words : List (List ℕ)
trace_words = codes "trace" ∷ []

-- the words of each command
abbrev pub words_of : Command → List (List ℕ)
words_of command.Trace = trace_words
words_of command.Check = codes "check" ∷ []
words_of command.Print = codes "print" ∷ []

-- the words are a command
abbrev pub AreCommand : List (List ℕ) → Type 0
AreCommand words = (asked : Command) × (words ≡ words_of asked)

-- what is said of the command that the words are, and of the bytes of an input that tells them
abbrev pub Asked : List (List ℕ) → Option (List ℕ) → (Command → List ℕ → Type 0) → Type 0
Asked words left Said = (command : Command) → words ≡ words_of command → (bytes : List ℕ) → left ≡ Some bytes → Said command bytes
