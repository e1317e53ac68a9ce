-- Lines: the first, and then the others.
use Rattle.std.proofs.Common.{◌≡◌, ◌≢◌, ℕ, suc, ◌+◌, ◌-◌, ◌*◌, ◌≤◌, ◌<◌, ◌⊎◌, inl, inr, List, [], ◌∷◌, ◌++◌, length, take, refl, sym, ap, subst, ◌∙◌, arith}
use Rattle.std.proofs.lemmas.List.{length-append, nil_from_length}
use Rattle.std.specs.Prelude.{Option, Some}
use Rattle.pp_text.specs.declared.fault.TextFault.{TextFault}
use Rattle.pp_text.specs.declared.fault.TextFault.TheVariants as fault
use Rattle.pp_text.specs.declared.reading.RowEnd.{RowEnd}
use Rattle.pp_text.specs.declared.reading.RowEnd.TheVariants as row_end
use Rattle.pp_text.specs.steps.Reading.{count_told}
use Rattle.pp_text.specs.steps.Rows.{SameEnds, IsOnly, IsRowAnswer, RowOutcome, LeadsTo, EndsWith, RowIs, Verdict, Ended, WrongAt, Endless, Long, LinesAre, GoesOn, EndsHere, IsLineFault, IsText}
use Rattle.pp_text.specs.Text.{Told, Line, Whole, Open, IsOneLine, BeginWithLine, GoThrough, RowLeads, RowEnds, IsWrong, Through, lines_text, row_of, rest_of, TextFrom, WrongFrom, EndlessFrom, LongFrom, limit}
use Rattle.pp_text.proofs.LineCutLemmas.{line_unique, not_long, rest_short, line_size, row_within, uncons, cons, nothing_ends}

-- the first line leads on
pub record FirstLeads (room line : ℕ) (bytes : List ℕ) (a b : Option Told) (row rest : List ℕ) (left : ℕ) : Type 0 where
  pub begins : BeginWithLine bytes (Whole row rest)
  pub within : length bytes ≤ room + length rest
  pub leads : IsOnly (RowIs line row a) (LeadsTo b)
  pub left_is : left + length bytes ≡ room + length rest

text_size : (content : List ℕ) (contents : List (List ℕ)) → length (lines_text (content ∷ contents)) ≡ suc (length content) + length (lines_text contents)
text_size content contents = omega (arith, length-append (content ++ 10 ∷ []) (lines_text contents), length-append content (10 ∷ []))

-- and then the others
lines_to : (room line : ℕ) (bytes : List ℕ) (a b : Option Told) (row rest : List ℕ) (left : ℕ) → FirstLeads room line bytes a b row rest left →
    (v : Verdict) → LinesAre left (suc line) b rest v → LinesAre room line a bytes v
lines_to room line bytes a b row rest left f (Ended told last behind) w =
    let size = line_size bytes row rest f.begins in
    record {
      contents = f.begins.0 ∷ w.contents;
      between = w.between;
      tail = w.tail;
      end = w.end;
      lines = cons line bytes row rest a b f.begins f.leads.0 w.contents w.between w.tail w.lines;
      number = omega (arith, w.number);
      last_line = w.last_line;
      ends = w.ends;
      behind = w.behind;
      within = omega (arith, w.within, f.left_is);
    }
lines_to room line bytes a b row rest left f (WrongAt wrong) w =
    let size = line_size bytes row rest f.begins in
    record {
      contents = f.begins.0 ∷ w.contents;
      between = w.between;
      tail = w.tail;
      here = w.here;
      lines = cons line bytes row rest a b f.begins f.leads.0 w.contents w.between w.tail w.lines;
      number = omega (arith, w.number);
      some = w.some;
      wrong_line = w.wrong_line;
      within = omega (arith, w.within, f.left_is);
      is_wrong = w.is_wrong;
    }
lines_to room line bytes a b row rest left f (Endless last) w =
    let size = line_size bytes row rest f.begins in
    record {
      contents = f.begins.0 ∷ w.contents;
      between = w.between;
      lines = cons line bytes row rest a b f.begins f.leads.0 w.contents w.between [] w.lines;
      number = omega (arith, w.number);
      within = omega (arith, w.within, f.left_is);
    }
lines_to room line bytes a b row rest left f Long w =
    let size = line_size bytes row rest f.begins in
    let all : length (lines_text (f.begins.0 ∷ w.contents)) ≡ suc (length f.begins.0) + length (lines_text w.contents) = text_size f.begins.0 w.contents in
    let room_is : room - length (lines_text (f.begins.0 ∷ w.contents)) ≡ left - length (lines_text w.contents) = omega (arith, w.used, f.left_is) in
    record {
      contents = f.begins.0 ∷ w.contents;
      between = w.between;
      tail = w.tail;
      lines = cons line bytes row rest a b f.begins f.leads.0 w.contents w.between w.tail w.lines;
      used = omega (arith, w.used, f.left_is);
      beyond = omega (arith, w.beyond, f.left_is);
      no_end = subst (λ (n : ℕ). IsOneLine (take n w.tail)) (sym room_is) w.no_end;
    }

-- what goes through behind it
through_behind : (room line : ℕ) (bytes : List ℕ) (a b : Option Told) (row rest : List ℕ) (left : ℕ) → FirstLeads room line bytes a b row rest left →
    (content : List ℕ) (contents : List (List ℕ)) (after : Option Told) (tail : List ℕ) → GoThrough line bytes a (content ∷ contents) after tail →
    GoThrough (suc line) rest b contents after tail
through_behind room line bytes a b row rest left f content contents after tail w =
    let u = uncons line bytes a content contents after tail w in
    let same : Whole row rest ≡ Whole u.row (lines_text contents ++ tail) = line_unique bytes _ _ f.begins u.begins in
    let row_is : u.row ≡ row = sym (ap row_of same) in
    let rest_is : rest ≡ lines_text contents ++ tail = ap rest_of same in
    let led : LeadsTo b ≡ LeadsTo u.between = f.leads.1 (LeadsTo u.between) (subst (λ (r : List ℕ). RowLeads line r a u.between) row_is u.leads) in
    let between_is : u.between ≡ b = cc in
    record { split = rest_is; lead = subst (λ (o : Option Told). Through (suc line) contents o after) between_is u.lead }

-- lines of which none goes through
pub text_here : (line : ℕ) (bytes : List ℕ) (a between : Option Told) (tail : List ℕ) (end : Line) (last : ℕ) (told : Told) → GoThrough line bytes a [] between tail →
    last ≡ line + 0 → BeginWithLine tail end → RowEnds last (row_of end) between told → (BeginWithLine bytes end) × (RowEnds line (row_of end) a told)
text_here line bytes a between tail end last told w number begins ends =
    let last_is : last ≡ line = omega arith in
    let here : RowEnds line (row_of end) between told = subst (λ (n : ℕ). RowEnds n (row_of end) between told) last_is ends in (
      subst (λ (l : List ℕ). BeginWithLine l end) (sym w.split) begins,
      subst (λ (o : Option Told). RowEnds line (row_of end) o told) w.lead here,
    )

pub wrong_here : (line : ℕ) (bytes : List ℕ) (a between : Option Told) (tail : List ℕ) (here : Line) (wrong : ℕ) → GoThrough line bytes a [] between tail →
    wrong ≡ line + 0 → BeginWithLine tail here → IsWrong wrong between here → (BeginWithLine bytes here) × (IsWrong line a here)
wrong_here line bytes a between tail here wrong w number begins is =
    let wrong_is : wrong ≡ line = omega arith in
    let there : IsWrong line between here = subst (λ (n : ℕ). IsWrong n between here) wrong_is is in (
      subst (λ (l : List ℕ). BeginWithLine l here) (sym w.split) begins,
      subst (λ (o : Option Told). IsWrong line o here) w.lead there,
    )

pub long_here : (room line : ℕ) (bytes : List ℕ) (a between : Option Told) (tail : List ℕ) → GoThrough line bytes a [] between tail →
    IsOneLine (take (room - length (lines_text [])) tail) → IsOneLine (take room bytes)
long_here room line bytes a between tail w one =
    let all : room - length (lines_text []) ≡ room = omega arith in
    subst (λ (l : List ℕ). IsOneLine (take room l)) (sym w.split) (subst (λ (n : ℕ). IsOneLine (take n tail)) all one)

-- what leads on does not end the text, and is not wrong
leads_not_ends : (line : ℕ) (bytes : List ℕ) (a b : Option Told) (row rest : List ℕ) (end : Line) (told : Told) → BeginWithLine bytes (Whole row rest) →
    IsOnly (RowIs line row a) (LeadsTo b) → BeginWithLine bytes end → ¬ (RowEnds line (row_of end) a told)
leads_not_ends line bytes a b row rest end told begins leads other ends =
    let same : row_of end ≡ row = ap row_of (line_unique bytes end (Whole row rest) other begins) in
    let both : LeadsTo b ≡ EndsWith told = leads.1 (EndsWith told) (subst (λ (r : List ℕ). RowEnds line r a told) same ends) in
    absurd cc

leads_not_wrong : (line : ℕ) (bytes : List ℕ) (a b : Option Told) (row rest : List ℕ) (here : Line) → BeginWithLine bytes (Whole row rest) →
    IsOnly (RowIs line row a) (LeadsTo b) → BeginWithLine bytes here → ¬ (IsWrong line a here)
leads_not_wrong line bytes a b row rest here begins leads other wrong =
    let there : IsWrong line a (Whole row rest) = subst (IsWrong line a) (line_unique bytes here (Whole row rest) other begins) wrong in
    there.0 b leads.0

-- the other way round, at each number of lines that go through
text_back : (room line : ℕ) (bytes : List ℕ) (a b : Option Told) (row rest : List ℕ) (left : ℕ) → FirstLeads room line bytes a b row rest left →
    (told : Told) (last : ℕ) (behind : List ℕ) (contents : List (List ℕ)) (between : Option Told) (tail : List ℕ) (end : Line) →
    GoThrough line bytes a contents between tail → last ≡ line + length contents → BeginWithLine tail end → RowEnds last (row_of end) between told →
    behind ≡ rest_of end → length bytes ≤ room + length behind → TextFrom left (suc line) b rest told last behind
text_back room line bytes a b row rest left f told last behind [] between tail end lines number begins ends is within =
    let here = text_here line bytes a between tail end last told lines number begins ends in
    absurd (leads_not_ends line bytes a b row rest end told f.begins f.leads here.0 here.1)
text_back room line bytes a b row rest left f told last behind (content ∷ contents) between tail end lines number begins ends is within = record {
  contents = contents;
  between = between;
  tail = tail;
  end = end;
  lines = through_behind room line bytes a b row rest left f content contents between tail lines;
  number = omega arith;
  last_line = begins;
  ends = ends;
  behind = is;
  within = omega (arith, f.left_is);
}

wrong_back : (room line : ℕ) (bytes : List ℕ) (a b : Option Told) (row rest : List ℕ) (left : ℕ) → FirstLeads room line bytes a b row rest left →
    (wrong : ℕ) (contents : List (List ℕ)) (between : Option Told) (tail : List ℕ) (here : Line) →
    GoThrough line bytes a contents between tail → wrong ≡ line + length contents → tail ≢ [] → BeginWithLine tail here →
    length bytes ≤ room + length (rest_of here) → IsWrong wrong between here → WrongFrom left (suc line) b rest wrong
wrong_back room line bytes a b row rest left f wrong [] between tail here lines number some begins within is =
    let there = wrong_here line bytes a between tail here wrong lines number begins is in
    absurd (leads_not_wrong line bytes a b row rest here f.begins f.leads there.0 there.1)
wrong_back room line bytes a b row rest left f wrong (content ∷ contents) between tail here lines number some begins within is = record {
  contents = contents;
  between = between;
  tail = tail;
  here = here;
  lines = through_behind room line bytes a b row rest left f content contents between tail lines;
  number = omega arith;
  some = some;
  wrong_line = begins;
  within = omega (arith, f.left_is);
  is_wrong = is;
}

endless_back : (room line : ℕ) (bytes : List ℕ) (a b : Option Told) (row rest : List ℕ) (left : ℕ) → FirstLeads room line bytes a b row rest left →
    (last : ℕ) (contents : List (List ℕ)) (between : Option Told) → GoThrough line bytes a contents between [] → suc last ≡ line + length contents →
    length bytes ≤ room → EndlessFrom left (suc line) b rest last
endless_back room line bytes a b row rest left f last [] between lines number within =
    let size = line_size bytes row rest f.begins in
    let none : length bytes ≡ 0 = ap length lines.split in
    absurd (omega arith)
endless_back room line bytes a b row rest left f last (content ∷ contents) between lines number within = record {
  contents = contents;
  between = between;
  lines = through_behind room line bytes a b row rest left f content contents between [] lines;
  number = omega arith;
  within = omega (arith, f.left_is);
}

long_back : (room line : ℕ) (bytes : List ℕ) (a b : Option Told) (row rest : List ℕ) (left : ℕ) → FirstLeads room line bytes a b row rest left →
    (contents : List (List ℕ)) (between : Option Told) (tail : List ℕ) → GoThrough line bytes a contents between tail →
    length (lines_text contents) ≤ room → room < length bytes → IsOneLine (take (room - length (lines_text contents)) tail) → LongFrom left (suc line) b rest
long_back room line bytes a b row rest left f [] between tail lines used beyond one =
    absurd (not_long room bytes (Whole row rest) f.begins f.within beyond (long_here room line bytes a between tail lines one))
long_back room line bytes a b row rest left f (content ∷ contents) between tail lines used beyond one =
    let size = text_size content contents in
    let through = through_behind room line bytes a b row rest left f content contents between tail lines in
    let all : length bytes ≡ length (lines_text (content ∷ contents)) + length tail = ap length lines.split ∙ length-append (lines_text (content ∷ contents)) tail in
    let rest_is : length rest ≡ length (lines_text contents) + length tail = ap length through.split ∙ length-append (lines_text contents) tail in
    let room_is : room - length (lines_text (content ∷ contents)) ≡ left - length (lines_text contents) = omega (arith, f.left_is) in
    record {
      contents = contents;
      between = between;
      tail = tail;
      lines = through;
      used = omega (arith, f.left_is);
      beyond = omega (arith, f.left_is);
      no_end = subst (λ (n : ℕ). IsOneLine (take n tail)) room_is one;
    }

lines_back : (room line : ℕ) (bytes : List ℕ) (a b : Option Told) (row rest : List ℕ) (left : ℕ) → FirstLeads room line bytes a b row rest left →
    (v : Verdict) → LinesAre room line a bytes v → LinesAre left (suc line) b rest v
lines_back room line bytes a b row rest left f (Ended told last behind) w =
    text_back room line bytes a b row rest left f told last behind w.contents w.between w.tail w.end w.lines w.number w.last_line w.ends w.behind w.within
lines_back room line bytes a b row rest left f (WrongAt wrong) w =
    wrong_back room line bytes a b row rest left f wrong w.contents w.between w.tail w.here w.lines w.number w.some w.wrong_line w.within w.is_wrong
lines_back room line bytes a b row rest left f (Endless last) w =
    endless_back room line bytes a b row rest left f last w.contents w.between w.lines w.number w.within
lines_back room line bytes a b row rest left f Long w =
    long_back room line bytes a b row rest left f w.contents w.between w.tail w.lines w.used w.beyond w.no_end

-- behind a line that leads on the rest decides
pub lines_step : (room line : ℕ) (bytes : List ℕ) (a b : Option Told) (row rest : List ℕ) (left : ℕ) → FirstLeads room line bytes a b row rest left →
    SameEnds (LinesAre left (suc line) b rest) (LinesAre room line a bytes)
lines_step room line bytes a b row rest left f = record {
  to = lines_to room line bytes a b row rest left f;
  from = lines_back room line bytes a b row rest left f;
}

-- lines that go through begin with one that leads on
pub not_through : (line : ℕ) (bytes : List ℕ) (a : Option Told) (end : Line) → BeginWithLine bytes end →
    ((row rest : List ℕ) (after : Option Told) → end ≡ Whole row rest → ¬ (RowLeads line row a after)) →
    (content : List ℕ) (contents : List (List ℕ)) (after : Option Told) (tail : List ℕ) → ¬ (GoThrough line bytes a (content ∷ contents) after tail)
not_through line bytes a end begins never content contents after tail w =
    let u = uncons line bytes a content contents after tail w in
    never u.row (lines_text contents ++ tail) u.between (line_unique bytes end _ begins u.begins) u.leads

-- what begins here is a line
no_line : (line : ℕ) (bytes : List ℕ) (a between : Option Told) → bytes ≢ [] → ¬ (GoThrough line bytes a [] between [])
no_line line bytes a between some w = some w.split

-- the first line ends the text
pub record FirstEnds (room line : ℕ) (bytes : List ℕ) (a : Option Told) (told : Told) (end : Line) : Type 0 where
  pub begins : BeginWithLine bytes end
  pub within : length bytes ≤ room + length (rest_of end)
  pub some : bytes ≢ []
  pub ends : IsOnly (RowIs line (row_of end) a) (EndsWith told)

ends_not_leads : (line : ℕ) (a : Option Told) (told : Told) (end : Line) → IsOnly (RowIs line (row_of end) a) (EndsWith told) →
    (row rest : List ℕ) (after : Option Told) → end ≡ Whole row rest → ¬ (RowLeads line row a after)
ends_not_leads line a told end ends row rest after is leads =
    let both : EndsWith told ≡ LeadsTo after = ends.1 (LeadsTo after) (subst (λ (r : List ℕ). RowLeads line r a after) (sym (ap row_of is)) leads) in
    absurd cc

wrong_not_ends : (line : ℕ) (a : Option Told) (here : Line) → IsWrong line a here → (told : Told) → ¬ (RowEnds line (row_of here) a told)
wrong_not_ends line a (Whole row rest) is told ends = is.1 told ends
wrong_not_ends line a (Open row) is told ends = is told ends

ended_text : (room line : ℕ) (bytes : List ℕ) (a : Option Told) (told : Told) (end : Line) → FirstEnds room line bytes a told end →
    (other : Told) (last : ℕ) (behind : List ℕ) (contents : List (List ℕ)) (between : Option Told) (tail : List ℕ) (other_end : Line) →
    GoThrough line bytes a contents between tail → last ≡ line + length contents → BeginWithLine tail other_end → RowEnds last (row_of other_end) between other →
    behind ≡ rest_of other_end → Ended told line (rest_of end) ≡ Ended other last behind
ended_text room line bytes a told end f other last behind [] between tail other_end lines number begins ends is =
    let here = text_here line bytes a between tail other_end last other lines number begins ends in
    let same : other_end ≡ end = line_unique bytes other_end end here.0 f.begins in
    let both : EndsWith told ≡ EndsWith other = f.ends.1 (EndsWith other) (subst (λ (l : Line). RowEnds line (row_of l) a other) same here.1) in
    let told_is : told ≡ other = cc in
    let last_is : line ≡ last = omega arith in
    let rest_is : rest_of end ≡ behind = sym (is ∙ ap rest_of same) in
    cc
ended_text room line bytes a told end f other last behind (content ∷ contents) between tail other_end lines number begins ends is =
    absurd (not_through line bytes a end f.begins (ends_not_leads line a told end f.ends) content contents between tail lines)

ended_wrong : (room line : ℕ) (bytes : List ℕ) (a : Option Told) (told : Told) (end : Line) → FirstEnds room line bytes a told end →
    (wrong : ℕ) (contents : List (List ℕ)) (between : Option Told) (tail : List ℕ) (here : Line) →
    GoThrough line bytes a contents between tail → wrong ≡ line + length contents → BeginWithLine tail here → ¬ (IsWrong wrong between here)
ended_wrong room line bytes a told end f wrong [] between tail here lines number begins is =
    let there = wrong_here line bytes a between tail here wrong lines number begins is in
    let at : IsWrong line a end = subst (IsWrong line a) (line_unique bytes here end there.0 f.begins) there.1 in
    wrong_not_ends line a end at told f.ends.0
ended_wrong room line bytes a told end f wrong (content ∷ contents) between tail here lines number begins is =
    not_through line bytes a end f.begins (ends_not_leads line a told end f.ends) content contents between tail lines

ended_endless : (room line : ℕ) (bytes : List ℕ) (a : Option Told) (told : Told) (end : Line) → FirstEnds room line bytes a told end →
    (contents : List (List ℕ)) (between : Option Told) → ¬ (GoThrough line bytes a contents between [])
ended_endless room line bytes a told end f [] between lines = no_line line bytes a between f.some lines
ended_endless room line bytes a told end f (content ∷ contents) between lines =
    not_through line bytes a end f.begins (ends_not_leads line a told end f.ends) content contents between [] lines

ended_long : (room line : ℕ) (bytes : List ℕ) (a : Option Told) (told : Told) (end : Line) → FirstEnds room line bytes a told end →
    (contents : List (List ℕ)) (between : Option Told) (tail : List ℕ) → GoThrough line bytes a contents between tail → room < length bytes →
    ¬ (IsOneLine (take (room - length (lines_text contents)) tail))
ended_long room line bytes a told end f [] between tail lines beyond one =
    not_long room bytes end f.begins f.within beyond (long_here room line bytes a between tail lines one)
ended_long room line bytes a told end f (content ∷ contents) between tail lines beyond one =
    not_through line bytes a end f.begins (ends_not_leads line a told end f.ends) content contents between tail lines

ended_other : (room line : ℕ) (bytes : List ℕ) (a : Option Told) (told : Told) (end : Line) → FirstEnds room line bytes a told end →
    (v : Verdict) → LinesAre room line a bytes v → Ended told line (rest_of end) ≡ v
ended_other room line bytes a told end f (Ended other last behind) w =
    ended_text room line bytes a told end f other last behind w.contents w.between w.tail w.end w.lines w.number w.last_line w.ends w.behind
ended_other room line bytes a told end f (WrongAt wrong) w =
    absurd (ended_wrong room line bytes a told end f wrong w.contents w.between w.tail w.here w.lines w.number w.wrong_line w.is_wrong)
ended_other room line bytes a told end f (Endless last) w = absurd (ended_endless room line bytes a told end f w.contents w.between w.lines)
ended_other room line bytes a told end f Long w = absurd (ended_long room line bytes a told end f w.contents w.between w.tail w.lines w.beyond w.no_end)

-- so nothing else comes of the lines
pub ended_only : (room line : ℕ) (bytes : List ℕ) (a : Option Told) (told : Told) (end : Line) → FirstEnds room line bytes a told end →
    IsOnly (LinesAre room line a bytes) (Ended told line (rest_of end))
ended_only room line bytes a told end f = (
  record {
    contents = [];
    between = a;
    tail = bytes;
    end = end;
    lines = record { split = refl; lead = refl };
    number = omega arith;
    last_line = f.begins;
    ends = f.ends.0;
    behind = refl;
    within = f.within;
  },
  ended_other room line bytes a told end f,
)

-- the first line is wrong
pub record FirstWrong (room line : ℕ) (bytes : List ℕ) (a : Option Told) (here : Line) : Type 0 where
  pub begins : BeginWithLine bytes here
  pub within : length bytes ≤ room + length (rest_of here)
  pub some : bytes ≢ []
  pub is : IsWrong line a here

wrong_not_leads : (line : ℕ) (a : Option Told) (here : Line) → IsWrong line a here → (row rest : List ℕ) (after : Option Told) → here ≡ Whole row rest → ¬ (RowLeads line row a after)
wrong_not_leads line a here is row rest after same leads =
    let there : IsWrong line a (Whole row rest) = subst (IsWrong line a) same is in
    there.0 after leads

wrong_text : (room line : ℕ) (bytes : List ℕ) (a : Option Told) (here : Line) → FirstWrong room line bytes a here →
    (other : Told) (last : ℕ) (contents : List (List ℕ)) (between : Option Told) (tail : List ℕ) (end : Line) →
    GoThrough line bytes a contents between tail → last ≡ line + length contents → BeginWithLine tail end → ¬ (RowEnds last (row_of end) between other)
wrong_text room line bytes a here f other last [] between tail end lines number begins ends =
    let there = text_here line bytes a between tail end last other lines number begins ends in
    let same : end ≡ here = line_unique bytes end here there.0 f.begins in
    wrong_not_ends line a here f.is other (subst (λ (l : Line). RowEnds line (row_of l) a other) same there.1)
wrong_text room line bytes a here f other last (content ∷ contents) between tail end lines number begins ends =
    not_through line bytes a here f.begins (wrong_not_leads line a here f.is) content contents between tail lines

wrong_wrong : (room line : ℕ) (bytes : List ℕ) (a : Option Told) (here : Line) → FirstWrong room line bytes a here →
    (wrong : ℕ) (contents : List (List ℕ)) (between : Option Told) (tail : List ℕ) → GoThrough line bytes a contents between tail → wrong ≡ line + length contents →
    WrongAt line ≡ WrongAt wrong
wrong_wrong room line bytes a here f wrong [] between tail lines number =
    let same : line ≡ wrong = omega arith in
    ap WrongAt same
wrong_wrong room line bytes a here f wrong (content ∷ contents) between tail lines number =
    absurd (not_through line bytes a here f.begins (wrong_not_leads line a here f.is) content contents between tail lines)

wrong_endless : (room line : ℕ) (bytes : List ℕ) (a : Option Told) (here : Line) → FirstWrong room line bytes a here →
    (contents : List (List ℕ)) (between : Option Told) → ¬ (GoThrough line bytes a contents between [])
wrong_endless room line bytes a here f [] between lines = no_line line bytes a between f.some lines
wrong_endless room line bytes a here f (content ∷ contents) between lines =
    not_through line bytes a here f.begins (wrong_not_leads line a here f.is) content contents between [] lines

wrong_long : (room line : ℕ) (bytes : List ℕ) (a : Option Told) (here : Line) → FirstWrong room line bytes a here →
    (contents : List (List ℕ)) (between : Option Told) (tail : List ℕ) → GoThrough line bytes a contents between tail → room < length bytes →
    ¬ (IsOneLine (take (room - length (lines_text contents)) tail))
wrong_long room line bytes a here f [] between tail lines beyond one =
    not_long room bytes here f.begins f.within beyond (long_here room line bytes a between tail lines one)
wrong_long room line bytes a here f (content ∷ contents) between tail lines beyond one =
    not_through line bytes a here f.begins (wrong_not_leads line a here f.is) content contents between tail lines

wrong_other : (room line : ℕ) (bytes : List ℕ) (a : Option Told) (here : Line) → FirstWrong room line bytes a here →
    (v : Verdict) → LinesAre room line a bytes v → WrongAt line ≡ v
wrong_other room line bytes a here f (Ended other last behind) w =
    absurd (wrong_text room line bytes a here f other last w.contents w.between w.tail w.end w.lines w.number w.last_line w.ends)
wrong_other room line bytes a here f (WrongAt wrong) w = wrong_wrong room line bytes a here f wrong w.contents w.between w.tail w.lines w.number
wrong_other room line bytes a here f (Endless last) w = absurd (wrong_endless room line bytes a here f w.contents w.between w.lines)
wrong_other room line bytes a here f Long w = absurd (wrong_long room line bytes a here f w.contents w.between w.tail w.lines w.beyond w.no_end)

pub wrong_only : (room line : ℕ) (bytes : List ℕ) (a : Option Told) (here : Line) → FirstWrong room line bytes a here →
    IsOnly (LinesAre room line a bytes) (WrongAt line)
wrong_only room line bytes a here f = (
  record {
    contents = [];
    between = a;
    tail = bytes;
    here = here;
    lines = record { split = refl; lead = refl };
    number = omega arith;
    some = f.some;
    wrong_line = f.begins;
    within = f.within;
    is_wrong = f.is;
  },
  wrong_other room line bytes a here f,
)

-- the first line is too long
long_not : (room line : ℕ) (bytes : List ℕ) (a : Option Told) → room < length bytes → IsOneLine (take room bytes) →
    (contents : List (List ℕ)) (between : Option Told) (tail : List ℕ) (end : Line) → GoThrough line bytes a contents between tail → BeginWithLine tail end →
    ¬ (length bytes ≤ room + length (rest_of end))
long_not room line bytes a beyond one [] between tail end lines begins within =
    not_long room bytes end (subst (λ (l : List ℕ). BeginWithLine l end) (sym lines.split) begins) within beyond one
long_not room line bytes a beyond one (content ∷ contents) between tail end lines begins within =
    let u = uncons line bytes a content contents between tail lines in
    let small = rest_short tail end begins in
    not_long room bytes (Whole u.row (lines_text contents ++ tail)) u.begins (omega (arith, length-append (lines_text contents) tail)) beyond one

long_other : (room line : ℕ) (bytes : List ℕ) (a : Option Told) → room < length bytes → IsOneLine (take room bytes) →
    (v : Verdict) → LinesAre room line a bytes v → Long ≡ v
long_other room line bytes a beyond one (Ended other last behind) w =
    absurd (long_not room line bytes a beyond one w.contents w.between w.tail w.end w.lines w.last_line (omega (arith, w.within, ap length w.behind)))
long_other room line bytes a beyond one (WrongAt wrong) w =
    absurd (long_not room line bytes a beyond one w.contents w.between w.tail w.here w.lines w.wrong_line w.within)
long_other room line bytes a beyond one (Endless last) w = absurd (omega (arith, w.within))
long_other room line bytes a beyond one Long w = refl

pub long_only : (room line : ℕ) (bytes : List ℕ) (a : Option Told) → room < length bytes → IsOneLine (take room bytes) → IsOnly (LinesAre room line a bytes) Long
long_only room line bytes a beyond one =
    let all : room ≡ room - length (lines_text []) = omega arith in (
      record {
        contents = [];
        between = a;
        tail = bytes;
        lines = record { split = refl; lead = refl };
        used = omega arith;
        beyond = beyond;
        no_end = subst (λ (n : ℕ). IsOneLine (take n bytes)) all one;
      },
      long_other room line bytes a beyond one,
    )

-- nothing is left
empty_line : (row rest : List ℕ) → ¬ (BeginWithLine [] (Whole row rest))
empty_line row rest p =
    let size = line_size [] row rest p in
    omega arith

pub empty_ends : (last : ℕ) (between : Option Told) (told : Told) (tail : List ℕ) (end : Line) → tail ≡ [] → BeginWithLine tail end → ¬ (RowEnds last (row_of end) between told)
empty_ends last between told tail (Whole row rest) none begins ends = empty_line row rest (subst (λ (l : List ℕ). BeginWithLine l (Whole row rest)) none begins)
empty_ends last between told tail (Open row) none begins ends =
    let row_is : row ≡ [] = sym begins.1 ∙ none in
    nothing_ends last between told (subst (λ (r : List ℕ). RowEnds last r between told) row_is ends)

empty_text : (line : ℕ) (a : Option Told) (told : Told) (last : ℕ) (contents : List (List ℕ)) (between : Option Told) (tail : List ℕ) (end : Line) →
    GoThrough line [] a contents between tail → BeginWithLine tail end → ¬ (RowEnds last (row_of end) between told)
empty_text line a told last [] between tail end lines begins ends = empty_ends last between told tail end (sym lines.split) begins ends
empty_text line a told last (content ∷ contents) between tail end lines begins ends =
    let u = uncons line [] a content contents between tail lines in
    empty_line u.row (lines_text contents ++ tail) u.begins

empty_wrong : (line : ℕ) (a : Option Told) (contents : List (List ℕ)) (between : Option Told) (tail : List ℕ) → GoThrough line [] a contents between tail → tail ≡ []
empty_wrong line a [] between tail lines = sym lines.split
empty_wrong line a (content ∷ contents) between tail lines =
    let u = uncons line [] a content contents between tail lines in
    absurd (empty_line u.row (lines_text contents ++ tail) u.begins)

empty_endless : (line last other : ℕ) (a : Option Told) (contents : List (List ℕ)) (between : Option Told) → suc last ≡ line → GoThrough line [] a contents between [] →
    suc other ≡ line + length contents → Endless last ≡ Endless other
empty_endless line last other a [] between is lines number =
    let same : last ≡ other = omega arith in
    ap Endless same
empty_endless line last other a (content ∷ contents) between is lines number =
    let u = uncons line [] a content contents between [] lines in
    absurd (empty_line u.row (lines_text contents ++ []) u.begins)

empty_other : (room line last : ℕ) (a : Option Told) → suc last ≡ line → (v : Verdict) → LinesAre room line a [] v → Endless last ≡ v
empty_other room line last a is (Ended other number behind) w =
    absurd (empty_text line a other number w.contents w.between w.tail w.end w.lines w.last_line w.ends)
empty_other room line last a is (WrongAt wrong) w = absurd (w.some (empty_wrong line a w.contents w.between w.tail w.lines))
empty_other room line last a is (Endless other) w = empty_endless line last other a w.contents w.between is w.lines w.number
empty_other room line last a is Long w = absurd (omega (arith, w.beyond))

pub empty_only : (room line last : ℕ) (a : Option Told) → suc last ≡ line → IsOnly (LinesAre room line a []) (Endless last)
empty_only room line last a is = (
  record {
    contents = [];
    between = a;
    lines = record { split = refl; lead = refl };
    number = omega arith;
    within = omega arith;
  },
  empty_other room line last a is,
)

-- what a row comes to, by its answer
pub row_leads : (end : RowEnd) (b : Option Told) (Comes : RowOutcome → Type 0) → end ≡ row_end.Leads → IsRowAnswer end b Comes → IsOnly Comes (LeadsTo b)
row_leads end b Comes is h = subst (λ (e : RowEnd). IsRowAnswer e b Comes) is h

pub row_ends : (end : RowEnd) (b : Option Told) (Comes : RowOutcome → Type 0) → end ≡ row_end.Ends → IsRowAnswer end b Comes →
    (told : Told) × (b ≡ Some told) × IsOnly Comes (EndsWith told)
row_ends end b Comes is h = subst (λ (e : RowEnd). IsRowAnswer e b Comes) is h

-- a whole line that leads on
pub line_leads : (room line : ℕ) (bytes row rest : List ℕ) (a b : Option Told) → BeginWithLine bytes (Whole row rest) → length bytes ≤ room + length rest →
    IsOnly (RowIs line row a) (LeadsTo b) → count_told b ≤ count_told a + 256 * length row → GoesOn room line a bytes b rest
line_leads room line bytes row rest a b begins within leads few =
    let small = row_within bytes row rest begins in
    record {
      shorter = omega arith;
      within = within;
      few = omega arith;
      same = λ left is.
          let next : suc line ≡ line + 1 = omega arith in
          let step = lines_step room line bytes a b row rest left (record { begins = begins; within = within; leads = leads; left_is = is }) in
          subst (λ (n : ℕ). SameEnds (LinesAre left n b rest) (LinesAre room line a bytes)) next step;
    }

-- a line that ends the text
pub line_ends : (room line : ℕ) (bytes : List ℕ) (a b : Option Told) (end : Line) → BeginWithLine bytes end → length bytes ≤ room + length (rest_of end) → 0 < length bytes →
    ((told : Told) × (b ≡ Some told) × IsOnly (RowIs line (row_of end) a) (EndsWith told)) → EndsHere room line a bytes b (rest_of end)
line_ends room line bytes a b end begins within some h = record {
  told = h.0;
  after_is = h.1;
  shorter = rest_short bytes end begins;
  only = ended_only room line bytes a h.0 end (record { begins = begins; within = within; some = λ e. absurd (omega (arith, ap length e)); ends = h.2 });
}

-- a wrong line
pub line_wrong : (room line : ℕ) (bytes : List ℕ) (a : Option Told) (here : Line) → BeginWithLine bytes here → length bytes ≤ room + length (rest_of here) → 0 < length bytes →
    IsWrong line a here → IsOnly (LinesAre room line a bytes) (WrongAt line)
line_wrong room line bytes a here begins within some is =
    wrong_only room line bytes a here (record { begins = begins; within = within; some = λ e. absurd (omega (arith, ap length e)); is = is })

pub whole_wrong : (line : ℕ) (row rest : List ℕ) (a b : Option Told) (end : RowEnd) → end ≡ row_end.Wrong → IsRowAnswer end b (RowIs line row a) → IsWrong line a (Whole row rest)
whole_wrong line row rest a b end is h =
    let never : (o : RowOutcome) → ¬ (RowIs line row a o) = subst (λ (e : RowEnd). IsRowAnswer e b (RowIs line row a)) is h in
    (λ after leads. never (LeadsTo after) leads, λ told ends. never (EndsWith told) ends)

-- a last line without LF has to end the text
open_leads : (line : ℕ) (row : List ℕ) (a b : Option Told) → IsOnly (RowIs line row a) (LeadsTo b) → IsWrong line a (Open row)
open_leads line row a b h = λ told ends.
    let both : LeadsTo b ≡ EndsWith told = h.1 (EndsWith told) ends in
    absurd cc

pub open_wrong : (line : ℕ) (row : List ℕ) (a b : Option Told) (end : RowEnd) → (end ≡ row_end.Leads) ⊎ (end ≡ row_end.Wrong) → IsRowAnswer end b (RowIs line row a) →
    IsWrong line a (Open row)
open_wrong line row a b end (inl is) h = open_leads line row a b (row_leads end b (RowIs line row a) is h)
open_wrong line row a b end (inr is) h =
    let never : (o : RowOutcome) → ¬ (RowIs line row a o) = subst (λ (e : RowEnd). IsRowAnswer e b (RowIs line row a)) is h in
    λ told ends. never (EndsWith told) ends

-- what comes of what is left comes of the whole
pub only_same : (Left Total : Verdict → Type 0) (v : Verdict) → SameEnds Left Total → IsOnly Left v → IsOnly Total v
only_same Left Total v same h = (same.to v h.0, λ other w. h.1 other (same.from other w))

pub fault_same : (Left Total : Verdict → Type 0) (e : TextFault) → SameEnds Left Total → IsLineFault Left e → IsLineFault Total e
fault_same Left Total (fault.Syntax line) same (inl h) = inl (only_same Left Total (WrongAt line) same h)
fault_same Left Total (fault.Syntax line) same (inr h) = inr (h.0, only_same Left Total (Endless h.0) same h.1, h.2)
fault_same Left Total fault.TooLong same h = only_same Left Total Long same h
fault_same Left Total (fault.Graph line rule) same h = absurd h
fault_same Left Total fault.NoMemory same h = tt

-- what is left, and that it decides as the whole does
pub record IsReading (before : Option Told) (bytes : List ℕ) (room line : ℕ) (now : Option Told) (rest : List ℕ) : Type 0 where
  pub left_is : room + length bytes ≡ limit + length rest
  pub within : length rest ≤ length bytes
  pub first : 1 ≤ line
  pub low : line + room ≤ limit + 1
  pub few : count_told now + 256 * room ≤ 256 * limit
  pub same : SameEnds (LinesAre room line now rest) (LinesAre limit 1 before bytes)

-- one line more
pub reading_goes_on : (before : Option Told) (bytes : List ℕ) (room line : ℕ) (now : Option Told) (rest : List ℕ) (after : Option Told) (behind : List ℕ) (left next : ℕ) →
    IsReading before bytes room line now rest → GoesOn room line now rest after behind → left ≡ room - (length rest - length behind) → next ≡ line + 1 →
    IsReading before bytes left next after behind
reading_goes_on before bytes room line now rest after behind left next r g left_is next_is =
    let all : left + length rest ≡ room + length behind = omega (arith, g.shorter, g.within) in
    let step = g.same left all in
    record {
      left_is = omega (arith, r.left_is);
      within = omega (arith, r.within, g.shorter);
      first = omega (arith, r.first);
      low = omega (arith, r.low, g.shorter);
      few = omega (arith, r.few, g.few);
      same = subst (λ (n : ℕ). SameEnds (LinesAre left n after behind) (LinesAre limit 1 before bytes)) (sym next_is)
          (record { to = λ v w. r.same.to v (step.to v w); from = λ v w. step.from v (r.same.from v w) });
    }

-- a text ends
pub reading_ends : (before : Option Told) (bytes : List ℕ) (room line : ℕ) (now : Option Told) (rest : List ℕ) (after : Option Told) (behind : List ℕ) (used : ℕ) →
    IsReading before bytes room line now rest → EndsHere room line now rest after behind → used ≡ length bytes - length behind → IsText bytes before after line used
reading_ends before bytes room line now rest after behind used r h used_is = record {
  told = h.told;
  rest = behind;
  after_is = h.after_is;
  used_is = omega (arith, r.within, h.shorter);
  only = only_same (LinesAre room line now rest) (LinesAre limit 1 before bytes) (Ended h.told line behind) r.same h.only;
}

-- nothing is left, and no line has ended the text
pub reading_stops : (before : Option Told) (bytes : List ℕ) (room line : ℕ) (now : Option Told) (rest : List ℕ) → IsReading before bytes room line now rest → length rest ≡ 0 →
    IsOnly (LinesAre limit 1 before bytes) (Endless (line - 1))
reading_stops before bytes room line now rest r none =
    let last : suc (line - 1) ≡ line = omega (arith, r.first) in
    let here = empty_only room line (line - 1) now last in
    let there : IsOnly (LinesAre room line now rest) (Endless (line - 1)) =
    subst (λ (l : List ℕ). IsOnly (LinesAre room line now l) (Endless (line - 1))) (sym (nil_from_length rest none)) here in
    only_same (LinesAre room line now rest) (LinesAre limit 1 before bytes) (Endless (line - 1)) r.same there
