-- Worked feeds, which the definitions compute: a graph with a span over `a`, `b`, `c` that a `d` closes, and that
-- pauses at `!`.
use Rattle.std.proofs.Common.{◌≡◌, ℕ, List, [], ◌∷◌, Option, Some, None, true, false, refl, arith}
use Rattle.pp_event.specs.declared.item.Item.{Item}
use Rattle.pp_event.specs.declared.item.Item.TheVariants as item
use Rattle.pp_event.specs.declared.script.ScriptEntry.{ScriptEntry}
use Rattle.pp_event.specs.declared.script.ScriptTo.TheVariants as to
use Rattle.pp_event.specs.Told.{Pieced}
use Rattle.pp_event.specs.Run.{RunResult, Finish, Waiting, Paused, Failed}
use Rattle.pp_event.specs.Answers.{by_script, by_list}
use Rattle.pp_event.specs.Script.{answer_in}
use Rattle.pp_event.specs.Asked.{IsStopped}
use Rattle.pp_event.specs.Pieces.{pieces}
use Rattle.pp_event.specs.Joined.{joined, joined_bytes}

-- a run that ended so at a place, with this open span
abbrev ended : Finish → ℕ → Option ℕ → List ℕ → List Item → RunResult
ended finish at span rest items = record { finish = finish; last = record { config = record { node = 1; at = at; carried = 0; values = []; spans = span ∷ [] }; rest = rest; items = items; resumes = 0 } }

-- a span over two feeds, `abc` and `d`: its part at the end of the first, and an empty last piece at its close
abc : pieces [] 0 (ended Waiting 3 (Some 0) [] []) (97 ∷ 98 ∷ 99 ∷ []) ≡ Pieced 0 0 (97 ∷ 98 ∷ 99 ∷ []) false 0 ∷ []
abc = refl

d : pieces (item.Span 0 0 3 ∷ []) 3 (ended Waiting 4 None [] (item.Span 0 0 3 ∷ [])) (100 ∷ []) ≡ Pieced 0 3 [] true 0 ∷ []
d = refl

-- joined they are the span, with its bytes
abc_d : joined (Pieced 0 0 (97 ∷ 98 ∷ 99 ∷ []) false 0 ∷ Pieced 0 3 [] true 0 ∷ []) ≡ item.Span 0 0 3 ∷ []
abc_d = refl

abc_d-bytes : joined_bytes 0 (Pieced 0 0 (97 ∷ 98 ∷ 99 ∷ []) false 0 ∷ Pieced 0 3 [] true 0 ∷ []) ≡ 97 ∷ 98 ∷ 99 ∷ []
abc_d-bytes = refl

-- pieces that a script answers 0 and then 7, in the feeds `a` and `b`: the second is due, and stops the run at 2
sevens : List ScriptEntry
sevens = record { to = to.Span 0; answer = 0 } ∷ record { to = to.Span 0; answer = 7 } ∷ []

zero_first : answer_in sevens (to.Span 0) 0 ≡ 0
unfolding sevens
zero_first = refl

then_seven : answer_in sevens (to.Span 0) 1 ≡ 7
unfolding sevens
then_seven = refl

a_piece : pieces [] 0 (ended Waiting 1 (Some 0) [] []) (97 ∷ []) ≡ Pieced 0 0 (97 ∷ []) false 0 ∷ []
a_piece = refl

b_piece : pieces [] 1 (ended Waiting 2 (Some 0) [] []) (98 ∷ []) ≡ Pieced 0 1 (98 ∷ []) false 0 ∷ []
b_piece = refl

seven : IsStopped (pieces [] 1 (ended Waiting 2 (Some 0) [] []) (98 ∷ [])) (Pieced 0 1 (98 ∷ []) false 7 ∷ []) 7 2
seven = record { before = []; after = []; span = 0; from = 1; part = 98 ∷ []; last = false; due_is = refl; events_are = refl; not_zero = omega arith; place_is = refl }

-- a pause inside a span: in the feed `a!b` the open span is told up to the pause, which gives nothing itself
a_pause : pieces (item.Pause 21 2 ∷ []) 0 (ended (Paused 21) 2 (Some 0) (98 ∷ []) (item.Pause 21 2 ∷ [])) (97 ∷ 33 ∷ 98 ∷ []) ≡ Pieced 0 0 (97 ∷ 33 ∷ []) false 0 ∷ []
a_pause = refl

-- once resumed, `bc` goes on, and then `d` closes the span with an empty last piece
bc : pieces [] 2 (ended Waiting 4 (Some 0) [] (item.Pause 21 2 ∷ [])) (98 ∷ 99 ∷ []) ≡ Pieced 0 2 (98 ∷ 99 ∷ []) false 0 ∷ []
bc = refl

closed : pieces (item.Span 0 0 4 ∷ []) 4 (ended Waiting 5 None [] (item.Pause 21 2 ∷ item.Span 0 0 4 ∷ [])) (100 ∷ []) ≡ Pieced 0 4 [] true 0 ∷ []
closed = refl

-- joined they are one span, with all its bytes
paused : joined (Pieced 0 0 (97 ∷ 33 ∷ []) false 0 ∷ Pieced 0 2 (98 ∷ 99 ∷ []) false 0 ∷ Pieced 0 4 [] true 0 ∷ []) ≡ item.Span 0 0 4 ∷ []
paused = refl

paused-bytes : joined_bytes 0 (Pieced 0 0 (97 ∷ 33 ∷ []) false 0 ∷ Pieced 0 2 (98 ∷ 99 ∷ []) false 0 ∷ Pieced 0 4 [] true 0 ∷ []) ≡ 97 ∷ 33 ∷ 98 ∷ 99 ∷ []
paused-bytes = refl

-- nothing is told at an error, however many spans are open
failed : pieces [] 0 (ended (Failed 1) 2 (Some 0) (120 ∷ []) []) (97 ∷ 98 ∷ 120 ∷ []) ≡ []
failed = refl

-- a list answers calls alone: pauses and spans before a call take no answer
calls_alone : by_list (5 ∷ 6 ∷ []) (item.Pause 21 1 ∷ item.Call 0 0 1 [] 5 ∷ item.Span 0 0 1 ∷ []) 3 ≡ 6
calls_alone = refl

-- a script answers each code by its own entries
own_entries : by_script (record { to = to.Code 0; answer = 5 } ∷ record { to = to.Code 1; answer = 8 } ∷ record { to = to.Code 0; answer = 6 } ∷ []) (item.Call 0 0 1 [] 5 ∷ item.Span 0 0 1 ∷ []) 0 ≡ 6
own_entries = refl
