-- Worked runs, which the definitions compute.
use Rattle.std.proofs.Common.{◌≡◌, ℕ, ◌+◌, ◌-◌, ◌^◌, Option, List, [], ◌∷◌, None, Some, true, false, refl, subst, ap, arith, replicate, zero, suc, ◌<◌, ◌≤◌, inl, inr}
use Rattle.pp_graph.specs.declared.node.Code.{Code}
use Rattle.pp_graph.specs.declared.node.Code.TheVariants as code
use Rattle.pp_bytes.specs.declared.fold.Fold.TheVariants.{Same, Lower}
use Rattle.pp_rules.specs.declared.declaration.Width.TheVariants.{W8}
use Rattle.pp_graph.specs.declared.node.Key.{Key}
use Rattle.pp_graph.specs.declared.node.Other.{Other}
use Rattle.pp_graph.specs.declared.node.Kind.{Kind}
use Rattle.pp_graph.specs.declared.node.Kind.TheVariants.{Match, Invoke, Consume, SpanOpen, SpanClose, Pause, Fail}
use Rattle.pp_graph.specs.declared.node.Answer.{Answer}
use Rattle.pp_graph.specs.declared.node.Node.{Node}
use Rattle.pp_graph.specs.Plan.{Plan}
use Rattle.pp_event.specs.declared.item.Item.{Item}
use Rattle.pp_event.specs.declared.item.Item.TheVariants.{Call, Span}
use Rattle.pp_event.specs.declared.item.Item.TheVariants as item
use Rattle.pp_event.specs.declared.script.ScriptEntry.{ScriptEntry}
use Rattle.pp_event.specs.declared.script.ScriptTo.TheVariants as script_to
use Rattle.std.specs.Prelude.{slice_get}
use Rattle.pp_event.specs.Run.{Config, Finish, Waiting, Paused, Failed, RunResult, start}
use Rattle.pp_event.specs.Answers.{by_list, by_script}
use Rattle.pp_event.specs.Loops.{AreBytes, Moves, FreeMove, FreeWay, LeadsTo, NoneTwice, at_entry, stay, onward}
use Rattle.pp_event.proofs.OnceLemmas.{Contains_one, Contains_nothing}
use Rattle.pp_mean.specs.Loops.{graph_moves, IsLoopFree}
use Rattle.pp_mean.specs.Nodes.{node_turn}
use Rattle.pp_mean.specs.Mean.{Means, entry_with, values_by}
use Rattle.pp_mean.specs.Whole.{Given, ComesBack}

abbrev graph_of : List Node → Plan
graph_of nodes = record { props = []; hosts = []; spans = []; nodes = nodes; entry = 0; finish = None }

abbrev node : Kind → Node
node kind = record { name = []; kind = kind }

abbrev plain_match : List Key → Other → Kind
plain_match keys other = Match Same keys [] other

abbrev key : List ℕ → ℕ → Key
key bytes target = record { bytes = bytes; number = None; target = target }

abbrev ended : Finish → ℕ → ℕ → List ℕ → List Item → RunResult
ended finish node at rest items =
    record { finish = finish; last = record { config = record { node = node; at = at; carried = 0; values = []; spans = [] }; rest = rest; items = items; resumes = 0 } }

-- calls host 0 after each `a`
abbrev calls_after_a : Plan
calls_after_a = graph_of (node (plain_match (key (97 ∷ []) 1 ∷ []) (record { skip = true; target = 0 })) ∷ node (Invoke (code.Call 0) [] 0) ∷ [])

-- `bab`: the call stands at 2, and the run waits at 3
bab : Means calls_after_a [] (98 ∷ 97 ∷ 98 ∷ []) (by_list []) 0 (ended Waiting 0 3 [] (Call 0 0 2 [] 0 ∷ []))
bab = (5, refl)

-- without bytes the run waits at once
nothing : Means calls_after_a [] [] (by_list []) 0 (ended Waiting 0 0 [] [])
nothing = (1, refl)

-- the answers come in order, and are 0 behind the last
answered : Means calls_after_a [] (97 ∷ 97 ∷ []) (by_list (7 ∷ [])) 0 (ended Waiting 0 2 [] (Call 0 0 1 [] 7 ∷ Call 0 0 2 [] 0 ∷ []))
answered = (5, refl)

-- two keys, one the front of the other: `ab` and `abc`, each calls a host
abbrev ab_abc : Plan
ab_abc = graph_of (
    node (plain_match (key (97 ∷ 98 ∷ []) 1 ∷ key (97 ∷ 98 ∷ 99 ∷ []) 2 ∷ []) (record { skip = false; target = 3 }))
    ∷ node (Invoke (code.Call 0) [] 0)
    ∷ node (Invoke (code.Call 1) [] 0)
    ∷ node (Fail 1 []) ∷ [])

-- `ab` may still become `abc`
ab : Means ab_abc [] (97 ∷ 98 ∷ []) (by_list []) 0 (ended Waiting 0 2 [] [])
ab = (9, refl)

abx : Means ab_abc [] (97 ∷ 98 ∷ 120 ∷ []) (by_list []) 0 (ended (Failed 1) 3 2 (120 ∷ []) (Call 0 0 2 [] 0 ∷ []))
abx = (9, refl)

abc : Means ab_abc [] (97 ∷ 98 ∷ 99 ∷ []) (by_list []) 0 (ended Waiting 0 3 [] (Call 1 0 3 [] 0 ∷ []))
abc = (9, refl)

-- the otherwise is taken behind the longest common prefix, not where the key began
abbrev abcd : Plan
abcd = graph_of (node (plain_match (key (97 ∷ 98 ∷ 99 ∷ 100 ∷ []) 0 ∷ []) (record { skip = false; target = 1 })) ∷ node (Fail 2 []) ∷ [])

abcd_abx : Means abcd [] (97 ∷ 98 ∷ 120 ∷ []) (by_list []) 0 (ended (Failed 2) 1 2 (120 ∷ []) [])
abcd_abx = (9, refl)

-- a number that an edge carries is the value of the call behind it
abbrev carries : Plan
carries = graph_of (
    node (plain_match (record { bytes = 53 ∷ []; number = Some 5; target = 1 } ∷ []) (record { skip = true; target = 0 }))
    ∷ node (Invoke (code.Call 0) [] 0) ∷ [])

five : Means carries [] (53 ∷ []) (by_list []) 0 (ended Waiting 0 1 [] (Call 0 5 1 [] 0 ∷ []))
five = (4, refl)

-- 500 bytes
long : Means calls_after_a [] (replicate 500 98) (by_list []) 0 (ended Waiting 0 500 [] [])
long = (501, refl)

abbrev answer : ℕ → ℕ → Answer
answer number target = record { number = number; target = target }

-- the same with values, spans and resumes left
abbrev ended_with : Finish → ℕ → ℕ → List ℕ → List (Option ℕ) → List ℕ → List Item → ℕ → RunResult
ended_with finish node at values spans rest items resumes =
    record { finish = finish; last = record { config = record { node = node; at = at; carried = 0; values = values; spans = spans }; rest = rest; items = items; resumes = resumes } }

-- a node that skips waits for a byte, without key or peek too
abbrev skips : Plan
skips = graph_of (node (plain_match [] (record { skip = true; target = 0 })) ∷ [])

at_the_end : Means skips [] [] (by_list []) 0 (ended Waiting 0 0 [] [])
at_the_end = (1, refl)

-- Lower compares `A` as `a`
abbrev folds : Plan
folds = graph_of (node (Match Lower (key (97 ∷ []) 0 ∷ []) [] (record { skip = false; target = 1 })) ∷ node (Fail 1 []) ∷ [])

capital : Means folds [] (65 ∷ 64 ∷ []) (by_list []) 0 (ended (Failed 1) 1 1 (64 ∷ []) [])
capital = (3, refl)

-- a peek edge is taken where its byte comes next, and takes no byte
abbrev peeks : Plan
peeks = graph_of (node (Match Same [] (record { byte = 100; target = 1 } ∷ []) (record { skip = false; target = 2 })) ∷ node (Fail 7 []) ∷ node (Fail 8 []) ∷ [])

peeked : Means peeks [] (100 ∷ []) (by_list []) 0 (ended (Failed 7) 1 0 (100 ∷ []) [])
peeked = (2, refl)

not_peeked : Means peeks [] (120 ∷ []) (by_list []) 0 (ended (Failed 8) 2 0 (120 ∷ []) [])
not_peeked = (2, refl)

-- an edge by the answer of a host, and the otherwise
abbrev asks_first : Plan
asks_first = graph_of (node (Invoke (code.Call 0) (answer 3 1 ∷ answer 4 2 ∷ []) 3) ∷ node (Fail 1 []) ∷ node (Fail 2 []) ∷ node (Fail 3 []) ∷ [])

four : Means asks_first [] [] (by_list (4 ∷ [])) 0 (ended (Failed 2) 2 0 [] (Call 0 0 0 [] 4 ∷ []))
four = (2, refl)

other_answer : Means asks_first [] [] (by_list (5 ∷ [])) 0 (ended (Failed 3) 3 0 [] (Call 0 0 0 [] 5 ∷ []))
other_answer = (2, refl)

-- digits are added to a property of 8 bits, and what passes its greatest value is called
abbrev digit : ℕ → Key
digit d = record { bytes = (48 + d) ∷ []; number = Some d; target = 1 }

abbrev adds_digits : Plan
adds_digits = graph_of (
    node (plain_match (digit 2 ∷ digit 5 ∷ digit 6 ∷ []) (record { skip = false; target = 3 }))
    ∷ node (Invoke (code.MulAdd 0 10 255) (answer 1 2 ∷ []) 0)
    ∷ node (Invoke (code.Call 0) [] 0)
    ∷ node (Fail 1 []) ∷ [])

too_big : Means adds_digits (0 ∷ []) (50 ∷ 53 ∷ 54 ∷ []) (by_list []) 0 (ended_with Waiting 0 3 (25 ∷ []) [] [] (Call 0 0 3 (25 ∷ []) 0 ∷ []) 0)
too_big = (8, refl)

greatest : Means adds_digits (0 ∷ []) (50 ∷ 53 ∷ 53 ∷ []) (by_list []) 0 (ended_with Waiting 0 3 (255 ∷ []) [] [] [] 0)
greatest = (7, refl)

-- what a code does to a property, and where its answer leads: 1, else 2
abbrev does : Code → Plan
does what = graph_of (node (Invoke what (answer 1 1 ∷ []) 2) ∷ node (Fail 1 []) ∷ node (Fail 2 []) ∷ [])

-- 7 has the bits of 6, and 5 has not
tests : Means (does (code.Test 0 6)) (7 ∷ []) [] (by_list []) 0 (ended_with (Failed 1) 1 0 (7 ∷ []) [] [] [] 0)
tests = (2, refl)

tests_not : Means (does (code.Test 0 6)) (5 ∷ []) [] (by_list []) 0 (ended_with (Failed 2) 2 0 (5 ∷ []) [] [] [] 0)
tests_not = (2, refl)

loads : Means (does (code.Load 0)) (1 ∷ []) [] (by_list []) 0 (ended_with (Failed 1) 1 0 (1 ∷ []) [] [] [] 0)
loads = (2, refl)

equals : Means (does (code.Equal 0 9)) (9 ∷ []) [] (by_list []) 0 (ended_with (Failed 1) 1 0 (9 ∷ []) [] [] [] 0)
equals = (2, refl)

updates : Means (does (code.Update 0 9)) (4 ∷ []) [] (by_list []) 0 (ended_with (Failed 2) 2 0 (9 ∷ []) [] [] [] 0)
updates = (2, refl)

ands : Means (does (code.And 0 6)) (5 ∷ []) [] (by_list []) 0 (ended_with (Failed 2) 2 0 (4 ∷ []) [] [] [] 0)
ands = (2, refl)

ors : Means (does (code.Or 0 6)) (1 ∷ []) [] (by_list []) 0 (ended_with (Failed 2) 2 0 (7 ∷ []) [] [] [] 0)
ors = (2, refl)

-- the number of an edge is stored
abbrev stores : Plan
stores = graph_of (node (plain_match (digit 5 ∷ []) (record { skip = true; target = 0 })) ∷ node (Invoke (code.Store 0) [] 0) ∷ [])

stored : Means stores (1 ∷ []) (53 ∷ []) (by_list []) 0 (ended_with Waiting 0 1 (5 ∷ []) [] [] [] 0)
stored = (3, refl)

-- a consume that waits has lowered its property by the bytes that came
abbrev consumes : Plan
consumes = graph_of (node (Consume 0 1) ∷ node (plain_match [] (record { skip = true; target = 1 })) ∷ [])

lowered : Means consumes ((2 ^ 64 - 1) ∷ []) (97 ∷ 97 ∷ 97 ∷ []) (by_list []) 0 (ended_with Waiting 0 3 (18446744073709551612 ∷ []) [] [] [] 0)
lowered = (1, refl)

consumed_all : Means consumes (2 ∷ []) (97 ∷ 97 ∷ 97 ∷ []) (by_list []) 0 (ended_with Waiting 1 3 (0 ∷ []) [] [] [] 0)
consumed_all = (3, refl)

-- a span over `a`, `b` and `c`, which `d` closes, and a pause at `!` inside it
abbrev spans_abc : Plan
spans_abc = record (graph_of (
    node (SpanOpen 0 1)
    ∷ node (Match Same (key (97 ∷ []) 1 ∷ key (98 ∷ []) 1 ∷ key (99 ∷ []) 1 ∷ key (33 ∷ []) 5 ∷ []) (record { byte = 100; target = 2 } ∷ []) (record { skip = false; target = 4 }))
    ∷ node (SpanClose 0 3)
    ∷ node (plain_match [] (record { skip = true; target = 3 }))
    ∷ node (Fail 1 [])
    ∷ node (Pause 21 [] 1) ∷ [])) { spans = record { name = [] } ∷ [] }

abc_open : Means spans_abc [] (97 ∷ 98 ∷ 99 ∷ []) (by_list []) 0 (ended_with Waiting 1 3 [] (Some 0 ∷ []) [] [] 0)
abc_open = (5, refl)

abcd_closed : Means spans_abc [] (97 ∷ 98 ∷ 99 ∷ 100 ∷ []) (by_list []) 0 (ended_with Waiting 3 4 [] (None ∷ []) [] (Span 0 0 3 ∷ []) 0)
abcd_closed = (8, refl)

-- without a resume it ends at the pause; with one it goes on
held : Means spans_abc [] (97 ∷ 33 ∷ 98 ∷ []) (by_list []) 0 (ended_with (Paused 21) 5 2 [] (Some 0 ∷ []) (98 ∷ []) (item.Pause 21 2 ∷ []) 0)
held = (4, refl)

resumed : Means spans_abc [] (97 ∷ 33 ∷ 98 ∷ 99 ∷ 100 ∷ []) (by_list []) 1 (ended_with Waiting 3 5 [] (None ∷ []) [] (item.Pause 21 2 ∷ Span 0 0 4 ∷ []) 0)
resumed = (10, refl)

-- of a folded node too, by the byte as the node compares it
abbrev peeks_folded : Plan
peeks_folded = graph_of (node (Match Lower [] (record { byte = 100; target = 1 } ∷ []) (record { skip = false; target = 2 })) ∷ node (Fail 7 []) ∷ node (Fail 8 []) ∷ [])

peeked_capital : Means peeks_folded [] (68 ∷ []) (by_list []) 0 (ended (Failed 7) 1 0 (68 ∷ []) [])
peeked_capital = (2, refl)

peeked_no_capital : Means peeks_folded [] (64 ∷ []) (by_list []) 0 (ended (Failed 8) 2 0 (64 ∷ []) [])
peeked_no_capital = (2, refl)

-- a node with peeks alone waits for a byte, and one with nothing but an otherwise that skips none does not
peeks_at_the_end : Means peeks [] [] (by_list []) 0 (ended Waiting 0 0 [] [])
peeks_at_the_end = (1, refl)

abbrev goes_at_once : Plan
goes_at_once = graph_of (node (plain_match [] (record { skip = false; target = 1 })) ∷ node (Fail 3 []) ∷ [])

at_once : Means goes_at_once [] [] (by_list []) 0 (ended (Failed 3) 1 0 [] [])
at_once = (2, refl)

-- Lower maps no byte but the letters A to Z: `Z` is `z`, and `[` is not the byte 32 above it
abbrev folds_z : Plan
folds_z = graph_of (node (Match Lower (key (122 ∷ []) 0 ∷ key (123 ∷ []) 0 ∷ []) [] (record { skip = false; target = 1 })) ∷ node (Fail 1 []) ∷ [])

capital_z : Means folds_z [] (90 ∷ 91 ∷ []) (by_list []) 0 (ended (Failed 1) 1 1 (91 ∷ []) [])
capital_z = (3, refl)

-- Same tells `A` and `a` apart
abbrev same_a : Plan
same_a = graph_of (node (plain_match (key (97 ∷ []) 0 ∷ []) (record { skip = false; target = 1 })) ∷ node (Fail 1 []) ∷ [])

no_capital : Means same_a [] (97 ∷ 65 ∷ []) (by_list []) 0 (ended (Failed 1) 1 1 (65 ∷ []) [])
no_capital = (3, refl)

-- a key that fits is taken, also where a longer one came further and failed
abbrev a_abc : Plan
a_abc = graph_of (node (plain_match (key (97 ∷ []) 1 ∷ key (97 ∷ 98 ∷ 99 ∷ []) 2 ∷ []) (record { skip = false; target = 3 })) ∷ node (Fail 1 []) ∷ node (Fail 2 []) ∷ node (Fail 3 []) ∷ [])

shorter_key : Means a_abc [] (97 ∷ 98 ∷ 120 ∷ []) (by_list []) 0 (ended (Failed 1) 1 1 (98 ∷ 120 ∷ []) [])
shorter_key = (2, refl)

-- a peek counts only where no key begins with the byte, and a skip takes one byte behind the longest common prefix
abbrev key_or_peek : Plan
key_or_peek = graph_of (
    node (Match Same (key (97 ∷ 98 ∷ []) 1 ∷ []) (record { byte = 97; target = 2 } ∷ []) (record { skip = true; target = 3 }))
    ∷ node (Fail 1 []) ∷ node (Fail 2 []) ∷ node (Fail 3 []) ∷ [])

skipped_behind : Means key_or_peek [] (97 ∷ 120 ∷ 121 ∷ []) (by_list []) 0 (ended (Failed 3) 3 2 (121 ∷ []) [])
skipped_behind = (2, refl)

-- a place without a node fails
abbrev leads_out : Plan
leads_out = graph_of (node (plain_match [] (record { skip = true; target = 9 })) ∷ [])

out : Means leads_out [] (97 ∷ []) (by_list []) 0 (ended (Failed 0) 9 1 [] [])
out = (2, refl)

-- the value of an answer is looked up, not its place: an answer 0 has its own edge, which codes that set a property take
abbrev does_zero : Code → Plan
does_zero what = graph_of (node (Invoke what (answer 1 2 ∷ answer 0 1 ∷ []) 3) ∷ node (Fail 1 []) ∷ node (Fail 2 []) ∷ node (Fail 3 []) ∷ [])

updates_zero : Means (does_zero (code.Update 0 9)) (4 ∷ []) [] (by_list []) 0 (ended_with (Failed 1) 1 0 (9 ∷ []) [] [] [] 0)
updates_zero = (2, refl)

stores_zero : Means (does_zero (code.Store 0)) (4 ∷ []) [] (by_list []) 0 (ended_with (Failed 1) 1 0 (0 ∷ []) [] [] [] 0)
stores_zero = (2, refl)

ands_zero : Means (does_zero (code.And 0 3)) (6 ∷ []) [] (by_list []) 0 (ended_with (Failed 1) 1 0 (2 ∷ []) [] [] [] 0)
ands_zero = (2, refl)

-- 3 or 6 is 7: their sum is 9, and what just one of them has is 5
ors_zero : Means (does_zero (code.Or 0 6)) (3 ∷ []) [] (by_list []) 0 (ended_with (Failed 1) 1 0 (7 ∷ []) [] [] [] 0)
ors_zero = (2, refl)

adds_zero : Means (does_zero (code.MulAdd 0 10 255)) (25 ∷ []) [] (by_list []) 0 (ended_with (Failed 1) 1 0 (250 ∷ []) [] [] [] 0)
adds_zero = (2, refl)

-- what passes the greatest value leaves the property as it was, and answers 1
adds_above : Means (does_zero (code.MulAdd 0 10 249)) (25 ∷ []) [] (by_list []) 0 (ended_with (Failed 2) 2 0 (25 ∷ []) [] [] [] 0)
adds_above = (2, refl)

loads_zero : Means (does_zero (code.Load 0)) (0 ∷ []) [] (by_list []) 0 (ended_with (Failed 1) 1 0 (0 ∷ []) [] [] [] 0)
loads_zero = (2, refl)

-- no answer has the number of a value above 32 bits, not even of one whose low bits are 1
loads_wide : Means (does_zero (code.Load 0)) ((2 ^ 32 + 1) ∷ []) [] (by_list []) 0 (ended_with (Failed 3) 3 0 (4294967297 ∷ []) [] [] [] 0)
loads_wide = (2, refl)

equals_not : Means (does_zero (code.Equal 0 9)) (8 ∷ []) [] (by_list []) 0 (ended_with (Failed 1) 1 0 (8 ∷ []) [] [] [] 0)
equals_not = (2, refl)

-- of the bits of 6, 5 has some, 8 has none, and 6 has all
tests_some : Means (does_zero (code.Test 0 6)) (5 ∷ []) [] (by_list []) 0 (ended_with (Failed 1) 1 0 (5 ∷ []) [] [] [] 0)
tests_some = (2, refl)

tests_none : Means (does_zero (code.Test 0 6)) (8 ∷ []) [] (by_list []) 0 (ended_with (Failed 1) 1 0 (8 ∷ []) [] [] [] 0)
tests_none = (2, refl)

tests_all : Means (does_zero (code.Test 0 6)) (6 ∷ []) [] (by_list []) 0 (ended_with (Failed 2) 2 0 (6 ∷ []) [] [] [] 0)
tests_all = (2, refl)

-- a code reads and writes its own property
second : Means (does_zero (code.Or 1 6)) (1 ∷ 8 ∷ []) [] (by_list []) 0 (ended_with (Failed 1) 1 0 (1 ∷ 14 ∷ []) [] [] [] 0)
second = (2, refl)

-- the number of an edge is carried to the next node alone
abbrev carries_once : Plan
carries_once = record (graph_of (
    node (plain_match (digit 5 ∷ []) (record { skip = true; target = 0 }))
    ∷ node (SpanOpen 0 2)
    ∷ node (Invoke (code.Call 0) [] 0) ∷ [])) { spans = record { name = [] } ∷ [] }

carried_off : Means carries_once [] (53 ∷ []) (by_list []) 0 (ended_with Waiting 0 1 [] (Some 1 ∷ []) [] (Call 0 0 1 [] 0 ∷ []) 0)
carried_off = (4, refl)

-- a consume of as many bytes as are left goes on, of one more waits, and of none takes none
consumed_exactly : Means consumes (3 ∷ []) (97 ∷ 97 ∷ 97 ∷ []) (by_list []) 0 (ended_with Waiting 1 3 (0 ∷ []) [] [] [] 0)
consumed_exactly = (2, refl)

one_short : Means consumes (4 ∷ []) (97 ∷ 97 ∷ 97 ∷ []) (by_list []) 0 (ended_with Waiting 0 3 (1 ∷ []) [] [] [] 0)
one_short = (1, refl)

consumed_none : Means consumes (0 ∷ []) [] (by_list []) 0 (ended_with Waiting 1 0 (0 ∷ []) [] [] [] 0)
consumed_none = (2, refl)

-- a span is opened at 0 and again at 1, which stays: it is told from there
abbrev opens_twice : Plan
opens_twice = record (graph_of (
    node (SpanOpen 0 1)
    ∷ node (plain_match (key (97 ∷ []) 2 ∷ []) (record { skip = false; target = 5 }))
    ∷ node (SpanOpen 0 3)
    ∷ node (plain_match (key (98 ∷ []) 4 ∷ []) (record { skip = false; target = 5 }))
    ∷ node (SpanClose 0 5)
    ∷ node (Fail 1 []) ∷ [])) { spans = record { name = [] } ∷ [] }

opened_twice : Means opens_twice [] (97 ∷ 98 ∷ []) (by_list []) 0 (ended_with (Failed 1) 5 2 [] (None ∷ []) [] (Span 0 1 2 ∷ []) 0)
opened_twice = (6, refl)

-- a span that is not open is closed where the run stands, and another that is open stays
abbrev closes_shut : Plan
closes_shut = record (graph_of (
    node (SpanOpen 0 1)
    ∷ node (plain_match (key (97 ∷ []) 2 ∷ []) (record { skip = false; target = 3 }))
    ∷ node (SpanClose 1 3)
    ∷ node (Fail 1 []) ∷ [])) { spans = record { name = [] } ∷ record { name = [] } ∷ [] }

closed_shut : Means closes_shut [] (97 ∷ []) (by_list []) 0 (ended_with (Failed 1) 3 1 [] (Some 0 ∷ None ∷ []) [] (Span 1 1 1 ∷ []) 0)
closed_shut = (4, refl)

-- `a!b!cd` with no resume, one, two and three
no_resume : Means spans_abc [] (97 ∷ 33 ∷ 98 ∷ 33 ∷ 99 ∷ 100 ∷ []) (by_list []) 0 (ended_with (Paused 21) 5 2 [] (Some 0 ∷ []) (98 ∷ 33 ∷ 99 ∷ 100 ∷ []) (item.Pause 21 2 ∷ []) 0)
no_resume = (4, refl)

one_resume : Means spans_abc [] (97 ∷ 33 ∷ 98 ∷ 33 ∷ 99 ∷ 100 ∷ []) (by_list []) 1 (ended_with (Paused 21) 5 4 [] (Some 0 ∷ []) (99 ∷ 100 ∷ []) (item.Pause 21 2 ∷ item.Pause 21 4 ∷ []) 0)
one_resume = (7, refl)

two_resumes : Means spans_abc [] (97 ∷ 33 ∷ 98 ∷ 33 ∷ 99 ∷ 100 ∷ []) (by_list []) 2 (ended_with Waiting 3 6 [] (None ∷ []) [] (item.Pause 21 2 ∷ item.Pause 21 4 ∷ Span 0 0 5 ∷ []) 0)
two_resumes = (12, refl)

one_left : Means spans_abc [] (97 ∷ 33 ∷ 98 ∷ 33 ∷ 99 ∷ 100 ∷ []) (by_list []) 3 (ended_with Waiting 3 6 [] (None ∷ []) [] (item.Pause 21 2 ∷ item.Pause 21 4 ∷ Span 0 0 5 ∷ []) 1)
one_left = (12, refl)

-- a property begins with 0, and with the last of its sets
abbrev two_props : Plan
two_props = record (graph_of []) { props = record { name = []; width = W8 } ∷ record { name = []; width = W8 } ∷ record { name = []; width = W8 } ∷ [] }

last_set : values_by two_props ((0, 3) ∷ (1, 4) ∷ (0, 5) ∷ []) ≡ 5 ∷ 4 ∷ 0 ∷ []
last_set = refl

-- by a script each code has its own answers, in order
abbrev to_code : ℕ → ℕ → ScriptEntry
to_code host number = record { to = script_to.Code host; answer = number }

twice : Means calls_after_a [] (97 ∷ 97 ∷ 97 ∷ []) (by_script (to_code 0 7 ∷ to_code 0 9 ∷ [])) 0 (ended Waiting 0 3 [] (Call 0 0 1 [] 7 ∷ Call 0 0 2 [] 9 ∷ Call 0 0 3 [] 0 ∷ []))
twice = (7, refl)

abbrev calls_two : Plan
calls_two = graph_of (
    node (plain_match (key (97 ∷ []) 1 ∷ key (98 ∷ []) 2 ∷ []) (record { skip = true; target = 0 }))
    ∷ node (Invoke (code.Call 0) [] 0)
    ∷ node (Invoke (code.Call 1) [] 0) ∷ [])

own_answers : Means calls_two [] (97 ∷ 98 ∷ 97 ∷ 98 ∷ []) (by_script (to_code 1 5 ∷ to_code 0 7 ∷ to_code 0 8 ∷ to_code 1 6 ∷ [])) 0
    (ended Waiting 0 4 [] (Call 0 0 1 [] 7 ∷ Call 1 0 2 [] 5 ∷ Call 0 0 3 [] 8 ∷ Call 1 0 4 [] 6 ∷ []))
own_answers = (9, refl)

-- by a list the calls take the answers in order, whatever their codes
in_order : Means calls_two [] (97 ∷ 98 ∷ 97 ∷ 98 ∷ []) (by_list (5 ∷ 7 ∷ 8 ∷ 6 ∷ [])) 0
    (ended Waiting 0 4 [] (Call 0 0 1 [] 5 ∷ Call 1 0 2 [] 7 ∷ Call 0 0 3 [] 8 ∷ Call 1 0 4 [] 6 ∷ []))
in_order = (9, refl)

-- two nodes that lead to one another: the run comes back to the first where it began, with the byte there
abbrev to_and_fro : Plan
to_and_fro = graph_of (node (plain_match [] (record { skip = false; target = 1 })) ∷ node (plain_match [] (record { skip = false; target = 0 })) ∷ [])

abbrev given : List ℕ → Given
given bytes = record { graph = to_and_fro; values = []; oracle = by_list []; resumes = 0; bytes = bytes }

apart : NoneTwice {X = ℕ × ℕ} ((0, 0) ∷ (1, 0) ∷ [])
apart = ((λ c. (let e : 1 ≡ 0 = ap (λ (q : ℕ × ℕ). q.0) (Contains_one {X = ℕ × ℕ} (1, 0) (0, 0) c) in absurd (omega (arith, e)))), (Contains_nothing {X = ℕ × ℕ} (1, 0), tt))

comes_back : ComesBack (given (97 ∷ [])) 0 (Some 97)
comes_back = record { moves_made = 2; stage = start (entry_with to_and_fro []) (97 ∷ []) 0; there = refl; node_is = refl; byte_is = refl; once = apart; again = (0, omega arith, refl) }

back_at_the_end : ComesBack (given []) 0 None
back_at_the_end = record { moves_made = 2; stage = start (entry_with to_and_fro []) [] 0; there = refl; node_is = refl; byte_is = refl; once = apart; again = (0, omega arith, refl) }

abbrev at_node : ℕ → Config
at_node n = record { node = n; at = 0; carried = 0; values = []; spans = [] }

no_bytes : AreBytes []
no_bytes i = omega arith

-- it has a loop
has_loop : IsLoopFree to_and_fro → ⊥
has_loop free =
    free 97 0 1 (at_entry (omega arith))
    (onward {next = 1} (inl (at_node 0, [], no_bytes, refl, (refl, refl))) (onward {next = 0} (inl (at_node 1, [], no_bytes, refl, (refl, refl))) stay))

-- an answer's edge counts, also where the code never answers so
abbrev edge_back : Plan
edge_back = graph_of (node (Invoke (code.Equal 0 9) (answer 7 0 ∷ []) 1) ∷ node (Fail 1 []) ∷ [])

edge_counts : IsLoopFree edge_back → ⊥
edge_counts free = free 0 0 0 (at_entry (omega arith)) (onward {next = 0} (inr (inr (0, answer 7 0, omega arith, refl, refl))) stay)

-- a graph whose free moves all lead to later nodes has none
rises : (m : Moves) → ((b node next : ℕ) → FreeMove m b node next → node < next) → {b node n end : ℕ} → FreeWay m b node n end → node + n ≤ end
rises m rise stay = omega arith
rises m rise {b} {node} (onward {next = next} {end = end} {n = n} f w) =
    let first : node < next = rise b node next f in
    let rest : next + n ≤ end = rises m rise w in
    omega arith

goes_later : (b node next : ℕ) → FreeMove (graph_moves goes_at_once) b node next → node < next
goes_later b zero next (inl (c, bytes, are, e, l)) =
    let leads : LeadsTo (node_turn (slice_get goes_at_once.nodes 0) c (b ∷ bytes)) 0 next =
    subst (λ (n : ℕ). LeadsTo (node_turn (slice_get goes_at_once.nodes n) c (b ∷ bytes)) 0 next) e l in
    let one : 1 ≡ next = leads.1 in
    omega (arith, one)
goes_later b (suc zero) next (inl (c, bytes, are, e, l)) =
    absurd (subst (λ (n : ℕ). LeadsTo (node_turn (slice_get goes_at_once.nodes n) c (b ∷ bytes)) 0 next) e l)
goes_later b (suc (suc node)) next (inl (c, bytes, are, e, l)) =
    absurd (subst (λ (n : ℕ). LeadsTo (node_turn (slice_get goes_at_once.nodes n) c (b ∷ bytes)) 0 next) e l)
goes_later b zero next (inr e) = absurd e
goes_later b (suc zero) next (inr e) = absurd e
goes_later b (suc (suc node)) next (inr e) = absurd e

has_no_loop : IsLoopFree goes_at_once
has_no_loop b node n r w = (let far : node + suc n ≤ node = rises (graph_moves goes_at_once) goes_later w in omega arith)
