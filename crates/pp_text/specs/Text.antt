-- Graph text: lines, and the calls that they tell.
use Rattle.std.specs.Prelude.{◌≡◌, ◌≢◌, ℕ, suc, ◌+◌, ◌-◌, ◌≤◌, ◌<◌, List, [], ◌∷◌, ◌++◌, Option, Some, length, map, flat_map, take, All, ◌⊎◌, codes, unwrap_or, slice_get, max}
use Rattle.std.specs.Prelude.{None as none}
use Rattle.pp_rules.specs.declared.call.BuilderCall.{BuilderCall}
use Rattle.pp_text.specs.Tokens.{Token, Word, IsRow}
use Rattle.pp_text.specs.Sequence.{Follow}
use Rattle.pp_text.specs.Statements.{Statement, IsStatement, statement_calls}

-- the most bytes of a text
abbrev pub limit : ℕ
limit = 4194304

-- what a text has told: calls in order, and the line of each
pub record Told : Type 0 where
  pub calls : List BuilderCall
  pub lines : List ℕ

abbrev pub nothing : Told
nothing = record { calls = []; lines = [] }

-- and then these calls, at a line
abbrev pub tell : ℕ → List BuilderCall → Told → Told
tell line calls told = record { calls = told.calls ++ calls; lines = told.lines ++ map (λ c. line) calls }

-- `graph 1`, which a text begins with
abbrev pub first_tokens : List Token
first_tokens = Word (codes "graph") ∷ Word (codes "1") ∷ []

-- `end`, which ends it
abbrev pub end_tokens : List Token
end_tokens = Word (codes "end") ∷ []

-- Where a text stands: nothing is told before `graph 1`. A statement leads on from there. One without tokens changes
-- nothing.
abbrev pub Leads : ℕ → Option Told → List Token → Option Told → Type 0
Leads line before [] after = after ≡ before
Leads line none (token ∷ tokens) after = (token ∷ tokens ≡ first_tokens) × (after ≡ Some nothing)
Leads line (Some told) (token ∷ tokens) after =
    (s : Statement) × IsStatement (token ∷ tokens) s × Follow told.calls (statement_calls s) × (after ≡ Some (tell line (statement_calls s) told))

-- the statements of a line, one after the other
abbrev pub LeadOn : ℕ → Option Told → List (List Token) → Option Told → Type 0
LeadOn line before [] after = after ≡ before
LeadOn line before (statement ∷ others) after = (between : Option Told) × Leads line before statement between × LeadOn line between others after

-- a row without `end`
pub record RowLeads (line : ℕ) (row : List ℕ) (before after : Option Told) : Type 0 where
  pub first : List Token
  pub others : List (List Token)
  pub row_is : IsRow row first others
  pub lead : LeadOn line before (first ∷ others) after

-- a row whose last statement is `end`, behind `graph 1`
pub record RowEnds (line : ℕ) (row : List ℕ) (before : Option Told) (told : Told) : Type 0 where
  pub first : List Token
  pub others : List (List Token)
  pub statements : List (List Token)
  pub row_is : IsRow row first others
  pub last : first ∷ others ≡ statements ++ end_tokens ∷ []
  pub lead : LeadOn line before statements (Some told)

-- the row of a line whose LF was taken away: without the CR that may stand in front of it
abbrev pub IsRowOf : List ℕ → List ℕ → Type 0
IsRowOf content row = (content ≡ row ++ 13 ∷ []) ⊎ ((content ≡ row) × ((front : List ℕ) → content ≢ front ++ 13 ∷ []))

-- no LF among the bytes
abbrev pub IsOneLine : List ℕ → Type 0
IsOneLine content = All (λ b. b ≢ 10) content

-- lines with their LFs
abbrev pub lines_text : List (List ℕ) → List ℕ
lines_text contents = flat_map (λ content. content ++ 10 ∷ []) contents

-- lines without `end`, the first of which has this number
abbrev pub Through : ℕ → List (List ℕ) → Option Told → Option Told → Type 0
Through line [] before after = after ≡ before
Through line (content ∷ contents) before after =
    (row : List ℕ) × (between : Option Told) × IsOneLine content × IsRowOf content row × RowLeads line row before between × Through (suc line) contents between after

-- the bytes begin with such lines
pub record GoThrough (line : ℕ) (bytes : List ℕ) (before : Option Told) (contents : List (List ℕ)) (after : Option Told) (rest : List ℕ) : Type 0 where
  pub split : bytes ≡ lines_text contents ++ rest
  pub lead : Through line contents before after

-- the first line of the bytes: with its LF, and what follows it, or up to the end of the input
pub data Line : Type 0 where
  Whole : (row rest : List ℕ) → Line
  Open : (row : List ℕ) → Line

abbrev pub BeginWithLine : List ℕ → Line → Type 0
BeginWithLine bytes (Whole row rest) = (content : List ℕ) × IsOneLine content × IsRowOf content row × (bytes ≡ content ++ 10 ∷ rest)
BeginWithLine bytes (Open row) = IsOneLine row × (bytes ≡ row)

abbrev pub row_of : Line → List ℕ
row_of (Whole row rest) = row
row_of (Open row) = row

abbrev pub rest_of : Line → List ℕ
rest_of (Whole row rest) = rest
rest_of (Open row) = []

-- From a line and from what was told before it on, the bytes begin with the rest of a text: what it has told in all, the
-- line of `end`, and what follows the text. It lies within so many bytes.
pub record TextFrom (room line : ℕ) (before : Option Told) (bytes : List ℕ) (told : Told) (last : ℕ) (rest : List ℕ) : Type 0 where
  pub contents : List (List ℕ)
  pub between : Option Told
  pub tail : List ℕ
  pub end : Line
  pub lines : GoThrough line bytes before contents between tail
  pub number : last ≡ line + length contents
  pub last_line : BeginWithLine tail end
  pub ends : RowEnds last (row_of end) between told
  pub behind : rest ≡ rest_of end
  pub within : length bytes ≤ room + length rest

-- the bytes begin with a graph text
abbrev pub BeginWithText : List ℕ → Told → ℕ → List ℕ → Type 0
BeginWithText bytes told last rest = TextFrom limit 1 none bytes told last rest

-- the bytes are a graph text of these calls, and nothing follows it
pub record IsTextOf (bytes : List ℕ) (calls : List BuilderCall) : Type 0 where
  pub told : Told
  pub last : ℕ
  pub text : BeginWithText bytes told last []
  pub calls_are : told.calls ≡ calls

-- the first line is whole within so many bytes
abbrev pub IsWithin : ℕ → List ℕ → Line → Type 0
IsWithin room bytes line = length bytes ≤ room + length (rest_of line)

-- a line that neither leads on nor ends the text; one without LF has to end it
abbrev pub IsWrong : ℕ → Option Told → Line → Type 0
IsWrong line before (Whole row rest) = ((after : Option Told) → ¬ (RowLeads line row before after)) × ((told : Told) → ¬ (RowEnds line row before told))
IsWrong line before (Open row) = (told : Told) → ¬ (RowEnds line row before told)

-- behind lines that lead on, the bytes go on with a wrong line
pub record WrongFrom (room line : ℕ) (before : Option Told) (bytes : List ℕ) (wrong : ℕ) : Type 0 where
  pub contents : List (List ℕ)
  pub between : Option Told
  pub tail : List ℕ
  pub here : Line
  pub lines : GoThrough line bytes before contents between tail
  pub number : wrong ≡ line + length contents
  pub some : tail ≢ []
  pub wrong_line : BeginWithLine tail here
  pub within : length bytes ≤ room + length (rest_of here)
  pub is_wrong : IsWrong wrong between here

-- they are lines that lead on, the last with this number, and nothing behind them
pub record EndlessFrom (room line : ℕ) (before : Option Told) (bytes : List ℕ) (last : ℕ) : Type 0 where
  pub contents : List (List ℕ)
  pub between : Option Told
  pub lines : GoThrough line bytes before contents between []
  pub number : suc last ≡ line + length contents
  pub within : length bytes ≤ room

-- behind lines that lead on comes one that isn't whole within so many bytes
pub record LongFrom (room line : ℕ) (before : Option Told) (bytes : List ℕ) : Type 0 where
  pub contents : List (List ℕ)
  pub between : Option Told
  pub tail : List ℕ
  pub lines : GoThrough line bytes before contents between tail
  pub used : length (lines_text contents) ≤ room
  pub beyond : room < length bytes
  pub no_end : IsOneLine (take (room - length (lines_text contents)) tail)

-- A wrong line, by its number. Without `end` it is the last; of an input without lines it is 1.
abbrev pub IsWrongAt : List ℕ → ℕ → Type 0
IsWrongAt bytes line = WrongFrom limit 1 none bytes line ⊎ ((last : ℕ) × EndlessFrom limit 1 none bytes last × (line ≡ max 1 last))

abbrev pub IsTooLong : List ℕ → Type 0
IsTooLong bytes = LongFrom limit 1 none bytes

-- the line of a call by its number; behind the last call that of `end`
abbrev pub line_at : Told → ℕ → ℕ → ℕ
line_at told last i = unwrap_or (slice_get told.lines i) last
