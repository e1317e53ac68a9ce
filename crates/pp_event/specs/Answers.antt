-- Who answers the calls of a run: a list, or a script. Both are oracles.
use Rattle.std.specs.Prelude.{◌≡◌, ℕ, List, [], ◌∷◌, ◌++◌, Bool, true, false, ◌==◌, count_by, slice_index}
use Rattle.pp_event.specs.declared.item.Item.{Item}
use Rattle.pp_event.specs.declared.item.Item.TheVariants.{Call, Span, Pause}
use Rattle.pp_event.specs.declared.script.ScriptEntry.{ScriptEntry}
use Rattle.pp_event.specs.declared.script.ScriptTo.TheVariants.{Code}
use Rattle.pp_event.specs.Script.{answer_in}
use Rattle.pp_event.specs.Run.{Oracle}

-- an item is a call
abbrev pub is_call : Item → Bool
is_call (Call code value at values answer) = true
is_call (Span span from to) = false
is_call (Pause code at) = false

-- an item is a call of this code
abbrev pub is_call_of : ℕ → Item → Bool
is_call_of host (Call code value at values answer) = code == host
is_call_of host (Span span from to) = false
is_call_of host (Pause code at) = false

-- answers by a list: the calls take them in order, whatever their codes, and 0 behind the last
abbrev pub by_list : List ℕ → Oracle
by_list answers items code = slice_index answers (count_by is_call items)

-- answers by a script: the k-th call of each code has the answer of the script's k-th entry for it, or 0
abbrev pub by_script : List ScriptEntry → Oracle
by_script entries items code = answer_in entries (Code code) (count_by (is_call_of code) items)

-- the answers in items, in order
abbrev pub answers_in : List Item → List ℕ
answers_in [] = []
answers_in (Call code value at values answer ∷ items) = answer ∷ answers_in items
answers_in (Span span from to ∷ items) = answers_in items
answers_in (Pause code at ∷ items) = answers_in items

-- the oracle gives each call in the items the answer that stands there
abbrev pub Honest : Oracle → List Item → Type 0
Honest oracle items =
    (xs ys : List Item) (code value at : ℕ) (values : List ℕ) (answer : ℕ) → items ≡ xs ++ Call code value at values answer ∷ ys → oracle xs code ≡ answer

-- the oracle gives these items' answers, behind the items before them
abbrev pub Agrees : Oracle → List Item → List Item → Type 0
Agrees oracle before [] = Unit {0}
Agrees oracle before (Call code value at values answer ∷ items) = (oracle before code ≡ answer) × Agrees oracle (before ++ Call code value at values answer ∷ []) items
Agrees oracle before (Span span from to ∷ items) = Agrees oracle (before ++ Span span from to ∷ []) items
Agrees oracle before (Pause code at ∷ items) = Agrees oracle (before ++ Pause code at ∷ []) items

-- two lists of answers are the same, each with 0 behind its last
abbrev pub SameAnswers : List ℕ → List ℕ → Type 0
SameAnswers xs ys = (i : ℕ) → slice_index xs i ≡ slice_index ys i
