-- Lines come to one thing, so bytes have at most one reading as a text.
use Rattle.std.proofs.Common.{◌≡◌, ◌≢◌, ℕ, zero, suc, ◌+◌, ◌-◌, ◌≤◌, ◌<◌, List, [], ◌∷◌, ◌++◌, length, take, sym, ap, ap₂, subst, ◌∙◌, arith}
use Rattle.std.proofs.lemmas.List.{length-append}
use Rattle.std.specs.Prelude.{Option, Some, None}
use Rattle.pp_text.specs.Tokens.{Token, Behind, GoesOn, Ends, BeginsRow, IsRow}
use Rattle.pp_text.specs.Text.{Told, Line, IsOneLine, BeginWithLine, GoThrough, Leads, LeadOn, RowEnds, IsWrong, lines_text, row_of, rest_of, end_tokens, TextFrom, WrongFrom, EndlessFrom, LongFrom, limit}
use Rattle.pp_text.specs.steps.Rows.{IsOnly, RowOutcome, LeadsTo, EndsWith, RowIs, Verdict, Ended, WrongAt, Endless, Long, LinesAre}
use Rattle.pp_text.proofs.RowStepLemmas.{BeginsAlone, row_next, row_last}
use Rattle.pp_text.proofs.LineCutLemmas.{uncons, line_size, rest_short}
use Rattle.pp_text.proofs.LineStepLemmas.{lines_step, text_here, wrong_here, long_here, empty_ends, ended_only, wrong_only, long_only, empty_only, only_same}
use Rattle.pp_text.proofs.OneRowLemmas.{begins_any}
use Rattle.pp_text.proofs.OneStatementLemmas.{leads_alone_here, last_same}

begins_here : (row : List ℕ) (tokens : List Token) (behind : Behind) → BeginsRow row tokens behind → BeginsAlone row tokens behind
begins_here row tokens behind begins = (begins, λ us b w. begins_any row tokens us behind b begins w)

-- a row that leads on comes to nothing else
row_leads_same : (line : ℕ) (row : List ℕ) (a : Option Told) (first : List Token) (others : List (List Token)) (after : Option Told) → IsRow row first others → LeadOn line a (first ∷ others) after →
    (o : RowOutcome) → RowIs line row a o → LeadsTo after ≡ o
row_leads_same line row a first [] after is lead o w =
    let last = (row_last line row first a (begins_here row first Ends is)).from o w in
    let here : Leads line a first after = subst (λ (x : Option Told). Leads line a first x) (sym lead.2) lead.1 in
    last_same line first a (LeadsTo after) o here last
row_leads_same line row a first (next ∷ others) after is lead o w =
    let step = row_next line row is.0 first a lead.0 (begins_here row first (GoesOn is.0) is.1) (leads_alone_here line a first lead.0 lead.1) in
    row_leads_same line is.0 lead.0 next others after is.2 lead.2 o (step.from o w)

-- nor does one that ends the text
row_ends_same : (line : ℕ) (row : List ℕ) (a : Option Told) (first : List Token) (others statements : List (List Token)) (told : Told) → IsRow row first others →
    first ∷ others ≡ statements ++ end_tokens ∷ [] → LeadOn line a statements (Some told) → (o : RowOutcome) → RowIs line row a o → EndsWith told ≡ o
row_ends_same line row a first [] [] told is ends lead o w =
    let last = (row_last line row first a (begins_here row first Ends is)).from o w in
    let tokens : first ≡ end_tokens = cc in
    last_same line first a (EndsWith told) o (tokens, sym lead) last
row_ends_same line row a first [] (s ∷ []) told is ends lead o w = absurd cc
row_ends_same line row a first [] (s ∷ t ∷ statements) told is ends lead o w = absurd cc
row_ends_same line row a first (next ∷ others) [] told is ends lead o w = absurd cc
row_ends_same line row a first (next ∷ others) (s ∷ statements) told is ends lead o w =
    let tokens : s ≡ first = cc in
    let behind : next ∷ others ≡ statements ++ end_tokens ∷ [] = cc in
    let leads : Leads line a first lead.0 = subst (λ (t : List Token). Leads line a t lead.0) tokens lead.1 in
    let step = row_next line row is.0 first a lead.0 (begins_here row first (GoesOn is.0) is.1) (leads_alone_here line a first lead.0 leads) in
    row_ends_same line is.0 lead.0 next others statements told is.2 behind lead.2 o (step.from o w)

row_same : (line : ℕ) (row : List ℕ) (a : Option Told) (o p : RowOutcome) → RowIs line row a o → RowIs line row a p → o ≡ p
row_same line row a (LeadsTo after) p w v = row_leads_same line row a w.first w.others after w.row_is w.lead p v
row_same line row a (EndsWith told) p w v = row_ends_same line row a w.first w.others w.statements told w.row_is w.last w.lead p v

pub row_only : (line : ℕ) (row : List ℕ) (a : Option Told) (o : RowOutcome) → RowIs line row a o → IsOnly (RowIs line row a) o
row_only line row a o w = (w, λ p v. row_same line row a o p w v)

-- of fewer bytes than so many, nothing comes beside what comes
abbrev Alone : ℕ → Type 0
Alone n = (room line : ℕ) (bytes : List ℕ) (a : Option Told) (v : Verdict) → length bytes < n → LinesAre room line a bytes v → IsOnly (LinesAre room line a bytes) v

-- behind a line that leads on
through_only : (n : ℕ) → Alone n → (room line : ℕ) (bytes : List ℕ) (a : Option Told) (content : List ℕ) (contents : List (List ℕ)) (after : Option Told) (tail : List ℕ) →
    GoThrough line bytes a (content ∷ contents) after tail → length bytes ≤ room + length tail → length bytes < suc n →
    (v : Verdict) → LinesAre room line a bytes v → IsOnly (LinesAre room line a bytes) v
through_only n fewer room line bytes a content contents after tail lines within few v w =
    let u = uncons line bytes a content contents after tail lines in
    let rest = lines_text contents ++ tail in
    let size = line_size bytes u.row rest u.begins in
    let long : length rest ≡ length (lines_text contents) + length tail = length-append (lines_text contents) tail in
    let inside : length bytes ≤ room + length rest = omega arith in
    let left = room + length rest - length bytes in
    let left_is : left + length bytes ≡ room + length rest = omega arith in
    let step = lines_step room line bytes a u.between u.row rest left (record { begins = u.begins; within = inside; leads = row_only line u.row a (LeadsTo u.between) u.leads; left_is = left_is }) in
    let short : length rest < n = omega arith in
    only_same (LinesAre left (suc line) u.between rest) (LinesAre room line a bytes) v step (fewer left (suc line) rest u.between v short (step.from v w))

-- a text
text_only : (n : ℕ) → Alone n → (room line : ℕ) (bytes : List ℕ) (a : Option Told) (told : Told) (last : ℕ) (rest : List ℕ) → length bytes < suc n → TextFrom room line a bytes told last rest →
    (contents : List (List ℕ)) (between : Option Told) (tail : List ℕ) (end : Line) → GoThrough line bytes a contents between tail → last ≡ line + length contents →
    BeginWithLine tail end → RowEnds last (row_of end) between told → rest ≡ rest_of end → length bytes ≤ room + length rest → IsOnly (LinesAre room line a bytes) (Ended told last rest)
text_only n fewer room line bytes a told last rest few w [] between tail end lines number begins ends behind within =
    let here = text_here line bytes a between tail end last told lines number begins ends in
    let inside : length bytes ≤ room + length (rest_of end) = omega (arith, ap length behind) in
    let only = ended_only room line bytes a told end (record { begins = here.0; within = inside; some = λ e. empty_ends line a told bytes end e here.0 here.1; ends = row_only line (row_of end) a (EndsWith told) here.1 }) in
    let line_is : line ≡ last = omega arith in
    subst (λ (v : Verdict). IsOnly (LinesAre room line a bytes) v) (ap₂ (Ended told) line_is (sym behind)) only
text_only n fewer room line bytes a told last rest few w (content ∷ contents) between tail end lines number begins ends behind within =
    let small = rest_short tail end begins in
    through_only n fewer room line bytes a content contents between tail lines (omega (arith, ap length behind)) few (Ended told last rest) w

-- a wrong line
wrong_line_only : (n : ℕ) → Alone n → (room line : ℕ) (bytes : List ℕ) (a : Option Told) (wrong : ℕ) → length bytes < suc n → WrongFrom room line a bytes wrong →
    (contents : List (List ℕ)) (between : Option Told) (tail : List ℕ) (here : Line) → GoThrough line bytes a contents between tail → wrong ≡ line + length contents → tail ≢ [] →
    BeginWithLine tail here → length bytes ≤ room + length (rest_of here) → IsWrong wrong between here → IsOnly (LinesAre room line a bytes) (WrongAt wrong)
wrong_line_only n fewer room line bytes a wrong few w [] between tail here lines number some begins within is =
    let there = wrong_here line bytes a between tail here wrong lines number begins is in
    let only = wrong_only room line bytes a here (record { begins = there.0; within = within; some = λ e. some (sym lines.split ∙ e); is = there.1 }) in
    let line_is : line ≡ wrong = omega arith in
    subst (λ (v : Verdict). IsOnly (LinesAre room line a bytes) v) (ap WrongAt line_is) only
wrong_line_only n fewer room line bytes a wrong few w (content ∷ contents) between tail here lines number some begins within is =
    let small = rest_short tail here begins in
    through_only n fewer room line bytes a content contents between tail lines (omega arith) few (WrongAt wrong) w

-- no `end`
endless_only : (n : ℕ) → Alone n → (room line : ℕ) (bytes : List ℕ) (a : Option Told) (last : ℕ) → length bytes < suc n → EndlessFrom room line a bytes last →
    (contents : List (List ℕ)) (between : Option Told) → GoThrough line bytes a contents between [] → suc last ≡ line + length contents → length bytes ≤ room →
    IsOnly (LinesAre room line a bytes) (Endless last)
endless_only n fewer room line bytes a last few w [] between lines number within =
    let last_is : suc last ≡ line = omega arith in
    subst (λ (l : List ℕ). IsOnly (LinesAre room line a l) (Endless last)) (sym lines.split) (empty_only room line last a last_is)
endless_only n fewer room line bytes a last few w (content ∷ contents) between lines number within =
    through_only n fewer room line bytes a content contents between [] lines (omega arith) few (Endless last) w

-- a line that is too long
long_line_only : (n : ℕ) → Alone n → (room line : ℕ) (bytes : List ℕ) (a : Option Told) → length bytes < suc n → LongFrom room line a bytes →
    (contents : List (List ℕ)) (between : Option Told) (tail : List ℕ) → GoThrough line bytes a contents between tail → length (lines_text contents) ≤ room → room < length bytes →
    IsOneLine (take (room - length (lines_text contents)) tail) → IsOnly (LinesAre room line a bytes) Long
long_line_only n fewer room line bytes a few w [] between tail lines used beyond one =
    long_only room line bytes a beyond (long_here room line bytes a between tail lines one)
long_line_only n fewer room line bytes a few w (content ∷ contents) between tail lines used beyond one =
    let all : length bytes ≡ length (lines_text (content ∷ contents)) + length tail = ap length lines.split ∙ length-append (lines_text (content ∷ contents)) tail in
    let within : length bytes ≤ room + length tail = omega arith in
    through_only n fewer room line bytes a content contents between tail lines within few Long w

lines_only_at : (n : ℕ) → Alone n → (room line : ℕ) (bytes : List ℕ) (a : Option Told) (v : Verdict) → length bytes < suc n → LinesAre room line a bytes v → IsOnly (LinesAre room line a bytes) v
lines_only_at n fewer room line bytes a (Ended told last rest) few w =
    text_only n fewer room line bytes a told last rest few w w.contents w.between w.tail w.end w.lines w.number w.last_line w.ends w.behind w.within
lines_only_at n fewer room line bytes a (WrongAt wrong) few w =
    wrong_line_only n fewer room line bytes a wrong few w w.contents w.between w.tail w.here w.lines w.number w.some w.wrong_line w.within w.is_wrong
lines_only_at n fewer room line bytes a (Endless last) few w = endless_only n fewer room line bytes a last few w w.contents w.between w.lines w.number w.within
lines_only_at n fewer room line bytes a Long few w = long_line_only n fewer room line bytes a few w w.contents w.between w.tail w.lines w.used w.beyond w.no_end

lines_alone : (n : ℕ) → Alone n
lines_alone zero room line bytes a v few w = absurd (omega arith)
lines_alone (suc n) room line bytes a v few w = lines_only_at n (lines_alone n) room line bytes a v few w

-- what the bytes come to from the first line on, they come to alone
pub bytes_only : (bytes : List ℕ) (v : Verdict) → LinesAre limit 1 None bytes v → IsOnly (LinesAre limit 1 None bytes) v
bytes_only bytes v w = lines_alone (suc (length bytes)) limit 1 bytes None v (omega arith) w
