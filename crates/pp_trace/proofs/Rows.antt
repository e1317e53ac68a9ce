-- Worked reports, which the definitions compute. The runs are those within fifty moves.
use Rattle.std.proofs.Common.{◌≡◌, ℕ, List, [], ◌∷◌, ◌++◌, Option, Some, None, true, false, refl}
use Rattle.std.specs.Prelude.{codes}
use Rattle.std.specs.Fmt.{digits}
use Rattle.hex.specs.Hex.{encode_with}
use Rattle.pp_bytes.specs.declared.fold.Fold.TheVariants.{Same}
use Rattle.pp_capture.specs.Spelling.{Record, Begins, Carries, Resumes, Finishes}
use Rattle.pp_rules.specs.declared.declaration.PropDecl.{PropDecl}
use Rattle.pp_rules.specs.declared.declaration.HostDecl.{HostDecl}
use Rattle.pp_rules.specs.declared.declaration.SpanDecl.{SpanDecl}
use Rattle.pp_rules.specs.declared.declaration.Width.{Width}
use Rattle.pp_rules.specs.declared.declaration.Width.TheVariants.{W8, W64}
use Rattle.pp_graph.specs.declared.node.Code.TheVariants as code
use Rattle.pp_event.specs.declared.script.ScriptEntry.{ScriptEntry}
use Rattle.pp_event.specs.Answers.{by_script}
use Rattle.pp_event.specs.Chain.{run_for}
use Rattle.pp_event.specs.Run.{Stage, RunResult, Waiting, move, start}
use Rattle.pp_program.specs.declared.program.Edge.{Edge}
use Rattle.pp_program.specs.declared.program.Rest.{Rest}
use Rattle.pp_program.specs.declared.program.Instr.{Instr}
use Rattle.pp_program.specs.declared.program.Instr.TheVariants.{Branch, Invoke, Consume, SpanOpen, SpanClose, Pause, Fail}
use Rattle.pp_program.specs.declared.program.State.{State}
use Rattle.pp_program.specs.declared.program.Program.{Program}
use Rattle.pp_program.specs.States.{program_turn, program_entry}
use Rattle.pp_trace.specs.declared.mode.Mode.{Mode}
use Rattle.pp_trace.specs.declared.mode.Mode.TheVariants.{Joined, Raw}
use Rattle.pp_trace.specs.Headline.{held_limit}
use Rattle.pp_trace.specs.Programs.{program_meaning, program_subject}
use Rattle.pp_trace.specs.Report.{report}
use Rattle.pp_trace.specs.Subject.{Seen, seen}

abbrev result_or : Stage → Option RunResult → RunResult
result_or s None = record { finish = Waiting; last = s }
result_or s (Some r) = r

abbrev run_within : ℕ → Program → List ℕ → List ScriptEntry → List ℕ → ℕ → Seen
run_within n p values script bytes resumes =
    let s : Stage = start (program_entry p values) bytes resumes in
    seen (program_meaning p) (result_or s (run_for (move (program_turn p) (by_script script)) n s))

abbrev report_by : Program → Mode → ℕ → List Record → List ℕ
report_by p mode limit list = report (program_subject p (run_within 50 p)) mode limit list

-- the report within the limit
abbrev reports : Program → Mode → List Record → List ℕ
reports p mode list = report_by p mode held_limit list

abbrev line : List ℕ → List ℕ
line bytes = bytes ++ 10 ∷ []

-- a state that comes from the node of this number
abbrev state : ℕ → Instr → State
state origin instr = record { origin = origin; instr = instr }

abbrev takes : ℕ → ℕ → ℕ → Edge
takes lo hi target = record { lo = lo; hi = hi; take = true; number = None; target = target }

abbrev looks : ℕ → ℕ → Edge
looks byte target = record { lo = byte; hi = byte; take = false; number = None; target = target }

abbrev skips : ℕ → Rest
skips target = record { skip = true; number = None; target = target }

abbrev leads : ℕ → Rest
leads target = record { skip = false; number = None; target = target }

abbrev prop : List ℕ → Width → PropDecl
prop name width = record { name = name; width = width }

abbrev host : List ℕ → HostDecl
host name = record { name = name; value = false }

abbrev span : List ℕ → SpanDecl
span name = record { name = name }

-- a Begin record without sets and script
abbrev begin : ℕ → Record
begin n = Begins n [] []

-- calls a host behind each `a`
abbrev hits : Program
hits = record {
  props = [];
  hosts = host (codes "hit") ∷ [];
  spans = [];
  names = codes "start" ∷ codes "hit_it" ∷ [];
  states =
      state 0 (Branch Same [] (takes 97 97 1 ∷ []) (skips 0))
      ∷ state 1 (Invoke (code.Call 0) [] 0) ∷ [];
  entry = 0;
  finish = None;
}

one_hit : reports hits Joined (begin 0 ∷ Carries 0 (codes "bab") ∷ []) ≡
    line (codes "0 call hit 0 @2 = 0") ++ line (codes "0 wait start @3")
unfolding digits
one_hit = refl

no_bytes : reports hits Joined (begin 0 ∷ []) ≡ line (codes "0 wait start @0")
unfolding digits
no_bytes = refl

-- however the string is cut
by_bytes : reports hits Joined (begin 0 ∷ Carries 0 (codes "b") ∷ Carries 0 (codes "a") ∷ Carries 0 (codes "b") ∷ []) ≡
    line (codes "0 call hit 0 @2 = 0") ++ line (codes "0 wait start @3")
unfolding digits
by_bytes = refl

-- the answers of a code in order, and 0 behind the last one, whatever else the script answers
by_script_entries : reports hits Joined (Begins 0 [] ((1, 8) ∷ (0, 5) ∷ (128, 9) ∷ (0, 6) ∷ []) ∷ Carries 0 (codes "aa") ∷ Carries 0 (codes "a") ∷ []) ≡
    line (codes "0 call hit 0 @1 = 5") ++ line (codes "0 call hit 0 @2 = 6") ++ line (codes "0 call hit 0 @3 = 0") ++ line (codes "0 wait start @3")
unfolding digits
by_script_entries = refl

-- the keys `ab` and `abc`: each calls a host, and all else is error 1
abbrev two_keys : Program
two_keys = record {
  props = [];
  hosts = host (codes "ab") ∷ host (codes "abc") ∷ [];
  spans = [];
  names = codes "s" ∷ codes "x" ∷ codes "y" ∷ codes "bad" ∷ [];
  states =
      state 0 (Branch Same [] (takes 97 97 1 ∷ []) (leads 5))
      ∷ state 0 (Branch Same [] (takes 98 98 2 ∷ []) (leads 5))
      ∷ state 0 (Branch Same [] (takes 99 99 4 ∷ []) (leads 3))
      ∷ state 1 (Invoke (code.Call 0) [] 0)
      ∷ state 2 (Invoke (code.Call 1) [] 0)
      ∷ state 3 (Fail 1 (codes "bad")) ∷ [];
  entry = 0;
  finish = None;
}

-- a connection that failed tells nothing more
failed : reports two_keys Joined (begin 0 ∷ Carries 0 (codes "ab") ∷ Carries 0 (codes "x") ∷ Carries 0 (codes "ab") ∷ Finishes 0 ∷ []) ≡
    line (codes "0 call ab 0 @2 = 0") ++ line (codes "0 error 1 @2 bad")
unfolding digits
failed = refl

-- two connections, byte by byte in turn
two_connections : reports two_keys Joined
    (begin 0 ∷ begin 3 ∷ Carries 0 (codes "a") ∷ Carries 3 (codes "a") ∷ Carries 0 (codes "b") ∷ Carries 3 (codes "b") ∷ Carries 0 (codes "x") ∷ Carries 3 (codes "c") ∷ []) ≡
    line (codes "0 call ab 0 @2 = 0") ++ line (codes "0 error 1 @2 bad") ++ line (codes "3 call abc 0 @3 = 0") ++ line (codes "3 wait s @3")
unfolding digits
two_connections = refl

-- a span over `a`, `b` and `c` that a `d` closes, and that pauses at `!`
abbrev spanned : Program
spanned = record {
  props = [];
  hosts = [];
  spans = span (codes "w") ∷ [];
  names = codes "o" ∷ codes "r" ∷ codes "c" ∷ codes "z" ∷ codes "bad" ∷ codes "p" ∷ [];
  states =
      state 0 (SpanOpen 0 1)
      ∷ state 1 (Branch Same [] (takes 33 33 5 ∷ takes 97 99 1 ∷ looks 100 2 ∷ []) (leads 4))
      ∷ state 2 (SpanClose 0 3)
      ∷ state 3 (Branch Same [] [] (skips 3))
      ∷ state 4 (Fail 1 (codes "bad"))
      ∷ state 5 (Pause 21 (codes "held") 1) ∷ [];
  entry = 0;
  finish = None;
}

pieces_raw : reports spanned Raw (begin 0 ∷ Carries 0 (codes "abc") ∷ Carries 0 (codes "d") ∷ []) ≡
    line (codes "0 more w @0 +3 616263") ++ line (codes "0 last w @3 +0") ++ line (codes "0 wait z @4")
unfolding digits encode_with
pieces_raw = refl

pieces_joined : reports spanned Joined (begin 0 ∷ Carries 0 (codes "abc") ∷ Carries 0 (codes "d") ∷ []) ≡
    line (codes "0 span w @0 +3 616263") ++ line (codes "0 wait z @4")
unfolding digits encode_with
pieces_joined = refl

-- the second piece is answered by 7
abbrev begin_stopping : Record
begin_stopping = Begins 0 [] ((128, 0) ∷ (128, 7) ∷ [])

stop_joined : reports spanned Joined (begin_stopping ∷ Carries 0 (codes "a") ∷ Carries 0 (codes "b") ∷ []) ≡ line (codes "0 stop 7 @2")
unfolding digits encode_with
stop_joined = refl

stop_raw : reports spanned Raw (begin_stopping ∷ Carries 0 (codes "a") ∷ Carries 0 (codes "b") ∷ []) ≡
    line (codes "0 more w @0 +1 61") ++ line (codes "0 more w @1 +1 62") ++ line (codes "0 stop 7 @2")
unfolding digits encode_with
stop_raw = refl

-- at the last piece of a span: joined that gives its span line, and nothing of the feed follows
stop_at_last : reports spanned Joined (begin_stopping ∷ Carries 0 (codes "ab") ∷ Carries 0 (codes "cd!") ∷ []) ≡
    line (codes "0 span w @0 +3 616263") ++ line (codes "0 stop 7 @3")
unfolding digits encode_with
stop_at_last = refl

-- in the feed that meets the pause: no pause line
stop_before_pause : reports spanned Joined (begin_stopping ∷ Carries 0 (codes "a") ∷ Carries 0 (codes "b!") ∷ Resumes 0 ∷ []) ≡ line (codes "0 stop 7 @3")
unfolding digits encode_with
stop_before_pause = refl

-- pieces are counted over all feeds
stop_at_third : reports spanned Joined (Begins 0 [] ((128, 0) ∷ (128, 0) ∷ (128, 7) ∷ []) ∷ Carries 0 (codes "a") ∷ Carries 0 (codes "b") ∷ Carries 0 (codes "c") ∷ Carries 0 (codes "d") ∷ []) ≡
    line (codes "0 stop 7 @3")
unfolding digits encode_with
stop_at_third = refl

paused : reports spanned Joined (begin 0 ∷ Carries 0 (codes "a!b") ∷ Carries 0 (codes "c") ∷ Resumes 0 ∷ Carries 0 (codes "d") ∷ []) ≡
    line (codes "0 pause 21 @2 held") ++ line (codes "0 span w @0 +4 61216263") ++ line (codes "0 wait z @5")
unfolding digits encode_with
paused = refl

still_paused : reports spanned Joined (begin 0 ∷ Carries 0 (codes "a!b") ∷ Carries 0 (codes "c") ∷ []) ≡
    line (codes "0 pause 21 @2 held") ++ line (codes "0 part w @0 +2 6121") ++ line (codes "0 held p @2 +2")
unfolding digits encode_with
still_paused = refl

-- with a Resume while it isn't paused, and a second one that counts
paused_raw : reports spanned Raw (begin 0 ∷ Resumes 0 ∷ Carries 0 (codes "a!b") ∷ Carries 0 (codes "c") ∷ Resumes 0 ∷ Resumes 0 ∷ Carries 0 (codes "d") ∷ []) ≡
    line (codes "0 more w @0 +2 6121") ++ line (codes "0 pause 21 @2 held") ++ line (codes "0 more w @2 +2 6263") ++ line (codes "0 last w @4 +0") ++ line (codes "0 wait z @5")
unfolding digits encode_with
paused_raw = refl

-- a Finish that is held up tells where the connection stands, and the connection isn't done by it
paused_finish : reports spanned Joined (begin 0 ∷ Carries 0 (codes "a!b") ∷ Finishes 0 ∷ Resumes 0 ∷ Finishes 0 ∷ Carries 0 (codes "d") ∷ []) ≡
    line (codes "0 pause 21 @2 held") ++ line (codes "0 part w @0 +2 6121") ++ line (codes "0 held p @2 +1")
    ++ line (codes "0 part w @0 +3 612162") ++ line (codes "0 done @3")
unfolding digits encode_with
paused_finish = refl

-- with a limit of 6 bytes, of which raw the unread ones count alone
over_raw : report_by spanned Raw 6 (begin 0 ∷ Carries 0 (codes "!") ∷ Carries 0 (codes "abc") ∷ Carries 0 (codes "abc") ∷ Carries 0 (codes "a") ∷ Finishes 0 ∷ []) ≡
    line (codes "0 more w @0 +1 21") ++ line (codes "0 pause 21 @1 held") ++ line (codes "0 over @1")
unfolding digits encode_with
over_raw = refl

within_raw : report_by spanned Raw 6 (begin 0 ∷ Carries 0 (codes "!") ∷ Carries 0 (codes "abc") ∷ Carries 0 (codes "abc") ∷ []) ≡
    line (codes "0 more w @0 +1 21") ++ line (codes "0 pause 21 @1 held") ++ line (codes "0 held p @1 +6")
unfolding digits encode_with
within_raw = refl

-- joined the bytes of the open span count too
over_joined : report_by spanned Joined 6 (begin 0 ∷ Carries 0 (codes "!") ∷ Carries 0 (codes "abc") ∷ Carries 0 (codes "abc") ∷ []) ≡
    line (codes "0 pause 21 @1 held") ++ line (codes "0 over @1")
unfolding digits encode_with
over_joined = refl

over_open : report_by spanned Joined 6 (begin 0 ∷ Carries 0 (codes "abcabc") ∷ Carries 0 (codes "a") ∷ Carries 0 (codes "d") ∷ []) ≡ line (codes "0 over @7")
unfolding digits encode_with
over_open = refl

-- f is 1 behind a `1` and 2 behind a `2`, and then a span takes all; at the end f says whether that is granted, asked or unsafe
abbrev ending : Program
ending = record {
  props = prop (codes "t") W8 ∷ prop (codes "f") W8 ∷ [];
  hosts = host (codes "ends") ∷ [];
  spans = span (codes "body") ∷ [];
  names = codes "s" ∷ codes "one" ∷ codes "two" ∷ codes "o" ∷ codes "r" ∷ codes "bad" ∷ [];
  states =
      state 0 (Branch Same [] (takes 49 49 1 ∷ takes 50 50 2 ∷ []) (leads 5))
      ∷ state 1 (Invoke (code.Update 1 1) [] 3)
      ∷ state 2 (Invoke (code.Update 1 2) [] 3)
      ∷ state 3 (SpanOpen 0 4)
      ∷ state 4 (Branch Same [] [] (skips 4))
      ∷ state 5 (Fail 1 (codes "bad")) ∷ [];
  entry = 0;
  finish = Some (1, 0);
}

finish_asked : reports ending Joined (Begins 0 ((0, 2) ∷ []) [] ∷ Carries 0 (codes "1abc") ∷ Finishes 0 ∷ []) ≡
    line (codes "0 call ends 0 @4 = 0 t=2 f=1") ++ line (codes "0 part body @1 +3 616263") ++ line (codes "0 done @4 t=2 f=1")
unfolding digits encode_with
finish_asked = refl

finish_refused : reports ending Joined (Begins 0 ((0, 2) ∷ []) ((0, 9) ∷ []) ∷ Carries 0 (codes "1abc") ∷ Finishes 0 ∷ Carries 0 (codes "d") ∷ []) ≡
    line (codes "0 call ends 0 @4 = 9 t=2 f=1") ++ line (codes "0 part body @1 +3 616263") ++ line (codes "0 refused 9 @4 t=2 f=1")
unfolding digits encode_with
finish_refused = refl

finish_raw : reports ending Raw (begin 0 ∷ Carries 0 (codes "1abc") ∷ Finishes 0 ∷ []) ≡
    line (codes "0 more body @1 +3 616263") ++ line (codes "0 call ends 0 @4 = 0 t=0 f=1") ++ line (codes "0 done @4 t=0 f=1")
unfolding digits encode_with
finish_raw = refl

finish_unsafe : reports ending Joined (begin 0 ∷ Carries 0 (codes "2abc") ∷ Finishes 0 ∷ []) ≡ line (codes "0 error 14 @4 Invalid EOF state")
unfolding digits encode_with
finish_unsafe = refl

-- the last of two sets of one property stays, and a connection that is done drops a Resume
finish_early : reports ending Joined (Begins 0 ((0, 3) ∷ (0, 7) ∷ []) [] ∷ Finishes 0 ∷ Resumes 0 ∷ []) ≡ line (codes "0 done @0 t=7 f=0")
unfolding digits encode_with
finish_early = refl

-- takes as many bytes as n says, and n is the finish rule's property
abbrev consuming : Program
consuming = record {
  props = prop (codes "n") W64 ∷ [];
  hosts = host (codes "h") ∷ [];
  spans = [];
  names = codes "c" ∷ codes "z" ∷ [];
  states = state 0 (Consume 0 1) ∷ state 1 (Branch Same [] [] (skips 1)) ∷ [];
  entry = 0;
  finish = Some (0, 0);
}

-- a consume that waits has lowered its property
lowered : reports consuming Joined (Begins 0 ((0, 18446744073709551615) ∷ []) [] ∷ Carries 0 (codes "aaa") ∷ []) ≡
    line (codes "0 wait c @3 n=18446744073709551612")
unfolding digits
lowered = refl

-- so finish sees it: 3 less 2 asks, and 3 less 1 is unsafe
lowered_asks : reports consuming Joined (Begins 0 ((0, 3) ∷ []) [] ∷ Carries 0 (codes "aa") ∷ Finishes 0 ∷ []) ≡
    line (codes "0 call h 0 @2 = 0 n=1") ++ line (codes "0 done @2 n=1")
unfolding digits
lowered_asks = refl

lowered_unsafe : reports consuming Joined (Begins 0 ((0, 3) ∷ []) [] ∷ Carries 0 (codes "a") ∷ Finishes 0 ∷ []) ≡ line (codes "0 error 14 @1 Invalid EOF state")
unfolding digits
lowered_unsafe = refl

-- calls the finish rule's code behind an `a` too
abbrev calling : Program
calling = record {
  props = prop (codes "f") W8 ∷ [];
  hosts = host (codes "h") ∷ [];
  spans = [];
  names = codes "a" ∷ codes "u" ∷ codes "c" ∷ [];
  states =
      state 0 (Branch Same [] (takes 97 97 1 ∷ []) (skips 0))
      ∷ state 1 (Invoke (code.Update 0 1) [] 2)
      ∷ state 2 (Invoke (code.Call 0) [] 0) ∷ [];
  entry = 0;
  finish = Some (0, 0);
}

-- the finish call takes the next answer of its code
finish_next : reports calling Joined (Begins 0 [] ((0, 5) ∷ (0, 9) ∷ []) ∷ Carries 0 (codes "a") ∷ Finishes 0 ∷ []) ≡
    line (codes "0 call h 0 @1 = 5 f=1") ++ line (codes "0 call h 0 @1 = 9 f=1") ++ line (codes "0 refused 9 @1 f=1")
unfolding digits
finish_next = refl
