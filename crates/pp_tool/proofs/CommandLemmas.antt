-- What the end of a command says of its answer, of the output and of the line.
use Rattle.std.proofs.Common.{◌≡◌, ◌≢◌, ℕ, ◌⊎◌, inl, inr, List, [], length, get_or, cond, Option, refl, sym, ap, subst, ◌∙◌, arith}
use Rattle.std.specs.Prelude.{Result, Ok, Err, IfErr, OnOk, OnErr, Some, None, ◌==◌}
use Rattle.std.proofs.lemmas.List.{append-nil, take_all}
use Rattle.pp_outside.specs.Sink.{Adds, AddsSome, with_added}
use Rattle.pp_tool.specs.declared.refusal.Refusal.{Refusal}
use Rattle.pp_tool.specs.declared.refusal.Refusal.TheVariants as refusal
use Rattle.pp_tool.specs.declared.stop.Stop.{Stop}
use Rattle.pp_tool.specs.declared.stop.Stop.TheVariants as stop
use Rattle.pp_tool.specs.declared.status.Status.TheVariants as status
use Rattle.pp_tool.specs.declared.words.Command.{Command}
use Rattle.pp_tool.specs.declared.words.Command.TheVariants as command
use Rattle.pp_tool.specs.Words.{words_of}
use Rattle.pp_tool.specs.Answers.{IsErrorLine, status_of, line_of, Adds as TellsAdded}
use Rattle.pp_tool.specs.Verdict.{Gives, Refuses, Verdict, IsOnly, Stops, Ends, Concludes, IsFault, status_by, lines_by, line_by}
use Rattle.pp_tool.specs.Trace.{Traces, HasReport}
use Rattle.pp_tool.specs.Commands.{CanRefuse, IsAnswerOf}
use Rattle.pp_tool.proofs.TraceLaws.{traced}
use Rattle.pp_tool.specs.steps.Stops.{StopsReading, IsNoRefusal, status_after, line_after}

abbrev pub Done : Type 0
Done = Result (Unit {0}) Stop

-- a write of nothing
pub adds_nothing : (before : Option (List ℕ)) → Adds before before []
adds_nothing None = refl
adds_nothing (Some bytes) = ap Some (sym (append-nil bytes))

some_nothing : (before : Option (List ℕ)) (lines : List ℕ) → AddsSome before before lines
some_nothing before lines = (0, omega arith, adds_nothing before)

pub some_all : (before after : Option (List ℕ)) (lines : List ℕ) → Adds before after lines → AddsSome before after lines
some_all before after lines h = (length lines, omega arith, subst (λ l. Adds before after l) (sym (take_all (length lines) lines (omega arith))) h)

-- a command that stops before it writes
pub ends_early : (Decided : Verdict → Type 0) (Can : Refusal → Type 0) (s : Stop) (old new : ℕ) (before : Option (List ℕ)) → StopsReading Can old new s → Stops Decided s → Ends Decided (Err s) before before
ends_early Decided Can (stop.Refused r) old new before reads h = ([], h, adds_nothing before)
ends_early Decided Can stop.ReadFault old new before reads h = λ v d. some_nothing before (lines_by v)
ends_early Decided Can stop.WriteFault old new before reads h = absurd reads
ends_early Decided Can stop.NoMemory old new before reads h = λ v d. some_nothing before (lines_by v)

-- and one that writes its lines
pub ends_written : (Decided : Verdict → Type 0) (lines : List ℕ) (done : Done) (before after : Option (List ℕ)) → IsOnly Decided (Gives lines) → IfErr done (λ s. s ≡ stop.WriteFault) →
    OnOk done (Adds before after lines) → OnErr done (AddsSome before after lines) → Ends Decided done before after
ends_written Decided lines (Ok a) before after only e whole front = (lines, only, whole)
ends_written Decided lines (Err s) before after only e whole front =
    subst (λ x. Ends Decided (Err x) before after) (sym e) (Gives lines, only, tt, front)

-- the answer and the output are those of the verdict
pub concludes : (Decided : Verdict → Type 0) (done : Done) (before after : Option (List ℕ)) → Ends Decided done before after → Concludes Decided (status_after done) before after
concludes Decided (Ok a) before after h = inr (inr (Gives h.0, h.1, inl (refl, h.2)))
concludes Decided (Err (stop.Refused r)) before after h = inr (inr (Refuses r h.0, h.1, inl (refl, h.2)))
concludes Decided (Err stop.ReadFault) before after h = inl refl
concludes Decided (Err stop.WriteFault) before after h = inr (inr (h.0, h.1, inr (refl, h.2, h.3)))
concludes Decided (Err stop.NoMemory) before after h = inr (inl refl)

front_one : (Decided : Verdict → Type 0) (one v : Verdict) (before after : Option (List ℕ)) → IsOnly Decided one → Decided v → Adds before after (lines_by one) → AddsSome before after (lines_by v)
front_one Decided one v before after only d h = subst (λ w. AddsSome before after (lines_by w)) (sym (only.1 v d)) (some_all before after (lines_by one) h)

pub front : (Decided : Verdict → Type 0) (done : Done) (before after : Option (List ℕ)) → Ends Decided done before after → (v : Verdict) → Decided v → AddsSome before after (lines_by v)
front Decided (Ok a) before after h v d = front_one Decided (Gives h.0) v before after h.1 d h.2
front Decided (Err (stop.Refused r)) before after h v d = front_one Decided (Refuses r h.0) v before after h.1 d h.2
front Decided (Err stop.ReadFault) before after h v d = h v d
front Decided (Err stop.WriteFault) before after h v d = subst (λ w. AddsSome before after (lines_by w)) (sym (h.1.1 v d)) h.3
front Decided (Err stop.NoMemory) before after h v d = h v d

pub complete : (Decided : Verdict → Type 0) (done : Done) (before after : Option (List ℕ)) → Ends Decided done before after → (v : Verdict) → Decided v →
    done ≢ Err stop.ReadFault → done ≢ Err stop.WriteFault → (status_after done ≡ status_by v) ⊎ (status_after done ≡ status.NoMemory)
complete Decided (Ok a) before after h v d reads writes = inl (ap status_by (sym (h.1.1 v d)))
complete Decided (Err (stop.Refused r)) before after h v d reads writes = inl (ap status_by (sym (h.1.1 v d)))
complete Decided (Err stop.ReadFault) before after h v d reads writes = absurd (reads refl)
complete Decided (Err stop.WriteFault) before after h v d reads writes = absurd (writes refl)
complete Decided (Err stop.NoMemory) before after h v d reads writes = inr refl

pub line : (Decided : Verdict → Type 0) (done : Done) (before after : Option (List ℕ)) → Ends Decided done before after → (v : Verdict) → Decided v → IsFault (status_after done) ⊎ (line_after done ≡ line_by v)
line Decided (Ok a) before after h v d = inr (ap line_by (sym (h.1.1 v d)))
line Decided (Err (stop.Refused r)) before after h v d = inr (ap line_by (sym (h.1.1 v d)))
line Decided (Err stop.ReadFault) before after h v d = inl (inl refl)
line Decided (Err stop.WriteFault) before after h v d = inl (inr (inl refl))
line Decided (Err stop.NoMemory) before after h v d = inl (inr (inr refl))

-- an input in order is not refused
pub in_order : (done : Done) → IfErr done IsNoRefusal → done ≢ Err stop.ReadFault → done ≢ Err stop.WriteFault → (status_after done ≡ status.Ok) ⊎ (status_after done ≡ status.NoMemory)
in_order (Ok a) h reads writes = inl refl
in_order (Err (stop.Refused r)) h reads writes = absurd h
in_order (Err stop.ReadFault) h reads writes = absurd (reads refl)
in_order (Err stop.WriteFault) h reads writes = absurd (writes refl)
in_order (Err stop.NoMemory) h reads writes = inr refl

-- the answers of a command
pub answers : (asked : Command) (done : Done) → ((why : Refusal) → done ≡ Err (stop.Refused why) → CanRefuse asked why) → IsAnswerOf asked (status_after done)
answers asked (Ok a) h = inl refl
answers asked (Err (stop.Refused r)) h = inr (inr (r, h r refl, refl))
answers asked (Err stop.ReadFault) h = inr (inl (inl refl))
answers asked (Err stop.WriteFault) h = inr (inl (inr (inl refl)))
answers asked (Err stop.NoMemory) h = inr (inl (inr (inr refl)))

-- the line of a status
refused_line : (r : Refusal) → IsErrorLine (status_of r) (line_of r)
refused_line (refusal.Graph why) = (why, refl)
refused_line (refusal.Check why) = (why, refl)
refused_line refusal.TooLong = refl
refused_line refusal.Capture = refl

pub error_line : (done : Done) → IsErrorLine (status_after done) (line_after done)
error_line (Ok a) = refl
error_line (Err (stop.Refused r)) = refused_line r
error_line (Err stop.ReadFault) = refl
error_line (Err stop.WriteFault) = refl
error_line (Err stop.NoMemory) = refl

-- one command has these words: the first letter tells it
abbrev letter_of : List (List ℕ) → ℕ
letter_of words = get_or (get_or words 0 []) 0 0

abbrev command_by : ℕ → Option Command
command_by letter = cond (letter == 116) (Some command.Trace) (cond (letter == 99) (Some command.Check) (cond (letter == 112) (Some command.Print) None))

told_by : (a : Command) → command_by (letter_of (words_of a)) ≡ Some a
told_by command.Trace = refl
told_by command.Check = refl
told_by command.Print = refl

some_is : (a b : Command) → Some a ≡ Some b → a ≡ b
some_is a b e = cc

pub one_command : (a b : Command) → words_of a ≡ words_of b → a ≡ b
one_command a b e = some_is a b (sym (told_by a) ∙ ap (λ words. command_by (letter_of words)) e ∙ told_by b)

-- the headline
not_ok : (r : Refusal) → status_of r ≡ status.Ok → ⊥
not_ok (refusal.Graph why) e = absurd cc
not_ok (refusal.Check why) e = absurd cc
not_ok refusal.TooLong e = absurd cc
not_ok refusal.Capture e = absurd cc

told : (Asked : List ℕ → Type 0) (lines : List ℕ) (before after : Option (List ℕ)) → Asked lines → Adds before after lines → TellsAdded Asked before after
told Asked lines before after is h held e = (lines, is, h ∙ ap (λ b. with_added b lines) e)

pub report : (bytes : List ℕ) (done : Done) (before after : Option (List ℕ)) → Ends (Traces bytes) done before after → status_after done ≡ status.Ok → TellsAdded (HasReport bytes) before after
report bytes (Ok a) before after h e = told (HasReport bytes) h.0 before after (traced bytes h.0 h.1.0) h.2
report bytes (Err (stop.Refused r)) before after h e = absurd (not_ok r e)
report bytes (Err stop.ReadFault) before after h e = absurd cc
report bytes (Err stop.WriteFault) before after h e = absurd cc
report bytes (Err stop.NoMemory) before after h e = absurd cc
