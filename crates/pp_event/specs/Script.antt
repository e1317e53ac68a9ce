-- Scripts, and what a host that answers by one has counted.
use Rattle.std.specs.Prelude.{◌≡◌, ℕ, ◌+◌, ◌-◌, ◌^◌, List, Bool, false, map, filter, min, ◌==◌, slice_index, slice_set, replicate}
use Rattle.pp_event.specs.declared.script.ScriptEntry.{ScriptEntry}
use Rattle.pp_event.specs.declared.script.ScriptTo.{ScriptTo}
use Rattle.pp_event.specs.declared.script.ScriptTo.TheVariants.{Code, Span}
use Rattle.pp_event.specs.Told.{Told, Called, Pieced}

-- both are the same code, or the same span
abbrev pub is_to : ScriptTo → ScriptTo → Bool
is_to (Code a) (Code b) = a == b
is_to (Code a) (Span b) = false
is_to (Span a) (Code b) = false
is_to (Span a) (Span b) = a == b

-- the answers for a code or a span, in order
abbrev pub answers_to : List ScriptEntry → ScriptTo → List ℕ
answers_to entries to = map (λ (e : ScriptEntry). e.answer) (filter (λ (e : ScriptEntry). is_to e.to to) entries)

-- the answer of the k-th entry, from 0, for a code or a span, or 0
abbrev pub answer_in : List ScriptEntry → ScriptTo → ℕ → ℕ
answer_in entries to k = slice_index (answers_to entries to) k

-- a script, and how many questions each code and each span was asked so far
pub record Counted : Type 0 where
  pub script : List ScriptEntry
  pub codes : List ℕ
  pub spans : List ℕ

-- before the first question
abbrev pub uncounted : List ScriptEntry → Counted
uncounted entries = record { script = entries; codes = replicate 64 0; spans = replicate 32 0 }

-- one more, up to the greatest 64-bit number
abbrev pub one_counted : ℕ → ℕ
one_counted k = min (k + 1) (2 ^ 64 - 1)

-- an event has the script's answer to the next question of its code or span
abbrev pub IsScripted : Counted → Told → Type 0
IsScripted c (Called code value at values answer) = answer ≡ answer_in c.script (Code code) (slice_index c.codes code)
IsScripted c (Pieced span at part last answer) = answer ≡ answer_in c.script (Span span) (slice_index c.spans span)

-- the question of an event is counted
abbrev pub count_on : Counted → Told → Counted
count_on c (Called code value at values answer) = record c { codes = slice_set c.codes code (one_counted (slice_index c.codes code)) }
count_on c (Pieced span at part last answer) = record c { spans = slice_set c.spans span (one_counted (slice_index c.spans span)) }
