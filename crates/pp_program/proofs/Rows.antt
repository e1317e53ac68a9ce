-- Worked runs of programs, which the definitions compute.
use Rattle.std.proofs.Common.{ℕ, List, [], ◌∷◌, None, Some, true, false, refl, map}
use Rattle.pp_bytes.specs.declared.fold.Fold.TheVariants.{Same, Lower}
use Rattle.pp_graph.specs.declared.node.Code.TheVariants as code
use Rattle.pp_program.specs.declared.program.Edge.{Edge}
use Rattle.pp_program.specs.declared.program.Rest.{Rest}
use Rattle.pp_program.specs.declared.program.Instr.{Instr}
use Rattle.pp_program.specs.declared.program.Instr.TheVariants.{Branch, Invoke, Consume, SpanOpen, SpanClose, Pause, Fail}
use Rattle.pp_program.specs.declared.program.Program.{Program}
use Rattle.pp_event.specs.declared.item.Item.{Item}
use Rattle.pp_event.specs.declared.item.Item.TheVariants as item
use Rattle.pp_event.specs.Run.{Finish, Waiting, Paused, Failed, RunResult}
use Rattle.pp_event.specs.Answers.{by_list}
use Rattle.pp_program.specs.States.{ProgramMeans}

abbrev program_of : List Instr → Program
program_of instrs = record { props = []; hosts = []; spans = []; names = []; states = map (λ i. record { origin = 0; instr = i }) instrs; entry = 0; finish = None }

-- takes the bytes of a range
abbrev takes : ℕ → ℕ → ℕ → Edge
takes lo hi target = record { lo = lo; hi = hi; take = true; number = None; target = target }

-- the rest takes a byte, or doesn't
abbrev skips : ℕ → Rest
skips target = record { skip = true; number = None; target = target }

abbrev leads : ℕ → Rest
leads target = record { skip = false; number = None; target = target }

abbrev ended : Finish → ℕ → ℕ → List ℕ → List ℕ → List Item → RunResult
ended finish node at values rest items =
    record { finish = finish; last = record { config = record { node = node; at = at; carried = 0; values = values; spans = [] }; rest = rest; items = items; resumes = 0 } }

-- calls host 0 after each `a`
abbrev calls_after_a : Program
calls_after_a = program_of (Branch Same [] (takes 97 97 1 ∷ []) (skips 0) ∷ Invoke (code.Call 0) [] 0 ∷ [])

-- `bab`: the call stands at 2, and the run waits at 3
bab : ProgramMeans calls_after_a [] (98 ∷ 97 ∷ 98 ∷ []) (by_list []) 0 (ended Waiting 0 3 [] [] (item.Call 0 0 2 [] 0 ∷ []))
bab = (9, refl)

-- the keys `ab` and `abc`: each calls a host, and all else is error 1. The state behind `ab` has no edge but the one on
-- `c`, and its rest takes the shorter key.
abbrev ab_abc : Program
ab_abc = program_of (
    Branch Same [] (takes 97 97 1 ∷ []) (leads 5)
    ∷ Branch Same [] (takes 98 98 2 ∷ []) (leads 5)
    ∷ Branch Same [] (takes 99 99 4 ∷ []) (leads 3)
    ∷ Invoke (code.Call 0) [] 0
    ∷ Invoke (code.Call 1) [] 0
    ∷ Fail 1 [] ∷ [])

-- `ab` may still become `abc`
ab : ProgramMeans ab_abc [] (97 ∷ 98 ∷ []) (by_list []) 0 (ended Waiting 2 2 [] [] [])
ab = (9, refl)

abx : ProgramMeans ab_abc [] (97 ∷ 98 ∷ 120 ∷ []) (by_list []) 0 (ended (Failed 1) 5 2 [] (120 ∷ []) (item.Call 0 0 2 [] 0 ∷ []))
abx = (9, refl)

abc : ProgramMeans ab_abc [] (97 ∷ 98 ∷ 99 ∷ []) (by_list []) 0 (ended Waiting 0 3 [] [] (item.Call 1 0 3 [] 0 ∷ []))
abc = (9, refl)

-- stays on a byte from 0 to 9, and pauses at any other one
abbrev digits : Program
digits = program_of (Branch Same ((48, 57) ∷ []) [] (leads 1) ∷ Pause 21 [] 0 ∷ [])

-- the pause takes no byte, and a resumed run goes on behind it
stays : ProgramMeans digits [] (49 ∷ 50 ∷ 59 ∷ []) (by_list []) 0 (ended (Paused 21) 1 2 [] (59 ∷ []) (item.Pause 21 2 ∷ []))
stays = (9, refl)

-- a byte is folded before an edge is sought, and raw where it is sought in the stay: `A` leads to the error, and `B`,
-- which only the edge's range has, doesn't stay
abbrev folds : Program
folds = program_of (Branch Lower ((98, 98) ∷ []) (takes 97 98 1 ∷ []) (skips 0) ∷ Fail 3 [] ∷ [])

capital : ProgramMeans folds [] (98 ∷ 67 ∷ 65 ∷ []) (by_list []) 0 (ended (Failed 3) 1 3 [] [] [])
capital = (9, refl)

raw_stay : ProgramMeans folds [] (98 ∷ 66 ∷ []) (by_list []) 0 (ended (Failed 3) 1 2 [] [] [])
raw_stay = (9, refl)

-- a branch that needs no byte is passed at the end of the string
abbrev empty : Program
empty = program_of (Branch Same [] [] (leads 1) ∷ Fail 4 [] ∷ [])

at_the_end : ProgramMeans empty [] [] (by_list []) 0 (ended (Failed 4) 1 0 [] [] [])
at_the_end = (9, refl)

-- an edge that looks at its byte leaves it
abbrev looks : Program
looks = program_of (
    Branch Same [] (record { lo = 97; hi = 122; take = false; number = None; target = 1 } ∷ []) (skips 0)
    ∷ Branch Same [] (takes 98 98 0 ∷ []) (leads 2)
    ∷ Fail 5 [] ∷ [])

looked_at : ProgramMeans looks [] (33 ∷ 98 ∷ 99 ∷ []) (by_list []) 0 (ended (Failed 5) 2 2 [] (99 ∷ []) [])
looked_at = (9, refl)

-- the number of an edge, and that of a rest, is the value of the call behind it
abbrev carries : Program
carries = program_of (
    Branch Same [] (record { lo = 53; hi = 53; take = true; number = Some 5; target = 1 } ∷ []) (record { skip = true; number = Some 9; target = 1 })
    ∷ Invoke (code.Call 0) [] 0 ∷ [])

carried : ProgramMeans carries [] (53 ∷ 54 ∷ []) (by_list []) 0 (ended Waiting 0 2 [] [] (item.Call 0 5 1 [] 0 ∷ item.Call 0 9 2 [] 0 ∷ []))
carried = (9, refl)

-- takes 3 bytes, as its property says, and calls
abbrev consumes : Program
consumes = program_of (Consume 0 1 ∷ Invoke (code.Call 0) [] 2 ∷ Fail 6 [] ∷ [])

-- cut off behind 2 bytes it waits for one more
cut : ProgramMeans consumes (3 ∷ []) (97 ∷ 97 ∷ []) (by_list []) 0 (ended Waiting 0 2 (1 ∷ []) [] [])
cut = (9, refl)

-- and with it, it goes on as with all three at once
whole : ProgramMeans consumes (3 ∷ []) (97 ∷ 97 ∷ 97 ∷ []) (by_list []) 0 (ended (Failed 6) 2 3 (0 ∷ []) [] (item.Call 0 0 3 (0 ∷ []) 0 ∷ []))
whole = (9, refl)

-- opens a span, takes a byte, closes the span
abbrev spans : Program
spans = record (program_of (SpanOpen 0 1 ∷ Branch Same [] [] (skips 2) ∷ SpanClose 0 0 ∷ [])) { spans = record { name = [] } ∷ [] }

told : ProgramMeans spans [] (97 ∷ 98 ∷ []) (by_list []) 0
    (record { finish = Waiting; last = record { config = record { node = 1; at = 2; carried = 0; values = []; spans = Some 2 ∷ [] }; rest = []; items = item.Span 0 0 1 ∷ item.Span 0 1 2 ∷ []; resumes = 0 } })
told = (9, refl)
