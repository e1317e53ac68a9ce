-- Lines come to something, so that bytes have no reading at all as a text is absurd.
use Rattle.std.proofs.Common.{◌≡◌, ◌≢◌, ℕ, zero, suc, ◌+◌, ◌-◌, ◌≤◌, ◌<◌, ◌⊎◌, inl, inr, List, [], ◌∷◌, ◌++◌, length, take, max, refl, sym, ap, subst, ◌∙◌, arith}
use Rattle.std.proofs.lemmas.Bool.{cases_lt, cases_order}
use Rattle.std.proofs.lemmas.List.{take-append-le}
use Rattle.std.proofs.lemmas.List.Elements.{All-cons, All-take}
use Rattle.std.specs.Prelude.{Option, None}
use Rattle.pp_rules.specs.declared.call.BuilderCall.{BuilderCall}
use Rattle.pp_rules.specs.declared.rules.GraphRule.{GraphRule}
use Rattle.pp_rules.specs.Rules.{KeepsRules, IsFirstFault, FailsAt, order}
use Rattle.pp_text.specs.Text.{Told, Line, Whole, Open, IsOneLine, IsRowOf, BeginWithLine, IsWrong, RowLeads, RowEnds, row_of, rest_of, limit, line_at}
use Rattle.pp_text.specs.Outcome.{HasReading}
use Rattle.pp_text.specs.steps.Rows.{LeadsTo, EndsWith, Verdict, Ended, WrongAt, Endless, Long, LinesAre}
use Rattle.pp_text.proofs.LineCutLemmas.{line_size}
use Rattle.pp_text.proofs.LineStepLemmas.{lines_step, ended_only, wrong_only, long_only, empty_only}
use Rattle.pp_text.proofs.OneTextLemmas.{row_only}

-- that a fact neither holds nor fails is absurd
either : (A : Type 0) → ¬ (¬ (A ⊎ ¬ A))
either A none = none (inr (λ a. none (inl a)))

-- bytes with an LF, cut at the first
record Cut (bytes : List ℕ) : Type 0 where
  content : List ℕ
  rest : List ℕ
  one : IsOneLine content
  split : bytes ≡ content ++ 10 ∷ rest

cut_on : (b : ℕ) (bytes : List ℕ) → b ≢ 10 → IsOneLine bytes ⊎ Cut bytes → IsOneLine (b ∷ bytes) ⊎ Cut (b ∷ bytes)
cut_on b bytes other (inl one) = inl (All-cons (λ c. c ≢ 10) b bytes other one)
cut_on b bytes other (inr cut) = inr (record {
  content = b ∷ cut.content;
  rest = cut.rest;
  one = All-cons (λ c. c ≢ 10) b cut.content other cut.one;
  split = ap (λ (l : List ℕ). b ∷ l) cut.split;
})

cut_by : (b : ℕ) (bytes : List ℕ) → ((b ≡ 10) ⊎ ((b < 10) ⊎ (10 < b))) → IsOneLine bytes ⊎ Cut bytes → IsOneLine (b ∷ bytes) ⊎ Cut (b ∷ bytes)
cut_by b bytes (inl lf) behind = inr (record {
  content = [];
  rest = bytes;
  one = λ k d below. absurd (omega arith);
  split = ap (λ (c : ℕ). c ∷ bytes) lf;
})
cut_by b bytes (inr (inl below)) behind = cut_on b bytes (λ lf. omega arith) behind
cut_by b bytes (inr (inr above)) behind = cut_on b bytes (λ lf. omega arith) behind

cut : (bytes : List ℕ) → IsOneLine bytes ⊎ Cut bytes
cut [] = inl (λ k d below. absurd (omega arith))
cut (b ∷ bytes) = cut_by b bytes (cases_order b 10) (cut bytes)

-- the content of a line has a row
row_by : (content : List ℕ) → ((front : List ℕ) × (content ≡ front ++ 13 ∷ [])) ⊎ ¬ ((front : List ℕ) × (content ≡ front ++ 13 ∷ [])) → (row : List ℕ) × IsRowOf content row
row_by content (inl cr) = (cr.0, inl cr.1)
row_by content (inr none) = (content, inr (refl, λ front is. none (front, is)))

row_some : (content : List ℕ) → ¬ (¬ ((row : List ℕ) × IsRowOf content row))
row_some content none = either ((front : List ℕ) × (content ≡ front ++ 13 ∷ [])) (λ cr. none (row_by content cr))

-- so bytes begin with a line
line_by : (bytes : List ℕ) → IsOneLine bytes ⊎ Cut bytes → ¬ (¬ ((line : Line) × BeginWithLine bytes line))
line_by bytes (inl one) none = none (Open bytes, (one, refl))
line_by bytes (inr cut) none = row_some cut.content (λ row. none (Whole row.0 cut.rest, (cut.content, cut.one, row.1, cut.split)))

line_some : (bytes : List ℕ) → ¬ (¬ ((line : Line) × BeginWithLine bytes line))
line_some bytes = line_by bytes (cut bytes)

-- where it is not whole within so many bytes, these have no LF
long_front : (room : ℕ) (bytes : List ℕ) (line : Line) → BeginWithLine bytes line → room + length (rest_of line) < length bytes → IsOneLine (take room bytes)
long_front room bytes (Whole row rest) begins beyond =
    let size = line_size bytes row rest begins in
    let front : take room bytes ≡ take room begins.0 = ap (take room) begins.3 ∙ take-append-le room begins.0 (10 ∷ rest) (omega arith) in
    subst IsOneLine (sym front) (All-take (λ b. b ≢ 10) room begins.0 begins.1)
long_front room bytes (Open row) begins beyond = subst (λ (l : List ℕ). IsOneLine (take room l)) (sym begins.1) (All-take (λ b. b ≢ 10) room row begins.0)

-- lines come to something
abbrev Come : ℕ → ℕ → List ℕ → Option Told → Type 0
Come room line bytes a = ¬ (¬ ((v : Verdict) × LinesAre room line a bytes v))

-- of fewer bytes than so many, they do
abbrev AllCome : ℕ → Type 0
AllCome n = (room line : ℕ) (bytes : List ℕ) (a : Option Told) → 0 < line → length bytes < n → Come room line bytes a

-- behind a line that leads on
come_on : (n : ℕ) → AllCome n → (room line : ℕ) (bytes : List ℕ) (a : Option Told) (row rest : List ℕ) → length bytes < suc n → BeginWithLine bytes (Whole row rest) →
    length bytes ≤ room + length rest → (after : Option Told) → RowLeads line row a after → Come room line bytes a
come_on n fewer room line bytes a row rest few begins within after leads none =
    let size = line_size bytes row rest begins in
    let left = room + length rest - length bytes in
    let left_is : left + length bytes ≡ room + length rest = omega arith in
    let step = lines_step room line bytes a after row rest left (record { begins = begins; within = within; leads = row_only line row a (LeadsTo after) leads; left_is = left_is }) in
    let short : length rest < n = omega arith in
    let first : 0 < suc line = omega arith in
    fewer left (suc line) rest after first short (λ come. none (come.0, step.to come.0 come.1))

-- at a line that ends the text
come_end : (room line : ℕ) (bytes : List ℕ) (a : Option Told) (end : Line) → BeginWithLine bytes end → length bytes ≤ room + length (rest_of end) → bytes ≢ [] →
    (told : Told) → RowEnds line (row_of end) a told → Come room line bytes a
come_end room line bytes a end begins within some told ends none =
    none (Ended told line (rest_of end), (ended_only room line bytes a told end (record { begins = begins; within = within; some = some; ends = row_only line (row_of end) a (EndsWith told) ends })).0)

-- at a wrong line
come_wrong : (room line : ℕ) (bytes : List ℕ) (a : Option Told) (here : Line) → BeginWithLine bytes here → length bytes ≤ room + length (rest_of here) → bytes ≢ [] →
    IsWrong line a here → Come room line bytes a
come_wrong room line bytes a here begins within some is none =
    none (WrongAt line, (wrong_only room line bytes a here (record { begins = begins; within = within; some = some; is = is })).0)

-- at a line without LF, which ends the text or is wrong
come_open : (room line : ℕ) (bytes : List ℕ) (a : Option Told) (row : List ℕ) → BeginWithLine bytes (Open row) → length bytes ≤ room + length (rest_of (Open row)) → bytes ≢ [] →
    ((told : Told) × RowEnds line row a told) ⊎ ¬ ((told : Told) × RowEnds line row a told) → Come room line bytes a
come_open room line bytes a row begins within some (inl ends) = come_end room line bytes a (Open row) begins within some ends.0 ends.1
come_open room line bytes a row begins within some (inr no_end) = come_wrong room line bytes a (Open row) begins within some (λ told ends. no_end (told, ends))

-- at a whole line, which leads on, ends the text or is wrong
come_whole : (n : ℕ) → AllCome n → (room line : ℕ) (bytes : List ℕ) (a : Option Told) (row rest : List ℕ) → length bytes < suc n → BeginWithLine bytes (Whole row rest) →
    length bytes ≤ room + length rest → bytes ≢ [] → ((after : Option Told) × RowLeads line row a after) ⊎ ¬ ((after : Option Told) × RowLeads line row a after) →
    ((told : Told) × RowEnds line row a told) ⊎ ¬ ((told : Told) × RowEnds line row a told) → Come room line bytes a
come_whole n fewer room line bytes a row rest few begins within some (inl leads) ends = come_on n fewer room line bytes a row rest few begins within leads.0 leads.1
come_whole n fewer room line bytes a row rest few begins within some (inr stays) (inl ends) = come_end room line bytes a (Whole row rest) begins within some ends.0 ends.1
come_whole n fewer room line bytes a row rest few begins within some (inr stays) (inr no_end) =
    come_wrong room line bytes a (Whole row rest) begins within some ((λ after leads. stays (after, leads)), (λ told ends. no_end (told, ends)))

come_within : (n : ℕ) → AllCome n → (room line : ℕ) (bytes : List ℕ) (a : Option Told) (here : Line) → length bytes < suc n → BeginWithLine bytes here →
    length bytes ≤ room + length (rest_of here) → bytes ≢ [] → Come room line bytes a
come_within n fewer room line bytes a (Whole row rest) few begins within some none =
    either ((after : Option Told) × RowLeads line row a after) (λ leads.
    either ((told : Told) × RowEnds line row a told) (λ ends. come_whole n fewer room line bytes a row rest few begins within some leads ends none))
come_within n fewer room line bytes a (Open row) few begins within some none =
    either ((told : Told) × RowEnds line row a told) (λ ends. come_open room line bytes a row begins within some ends none)

-- at a line that is whole in time or not
come_by : (n : ℕ) → AllCome n → (room line : ℕ) (bytes : List ℕ) (a : Option Told) (here : Line) → length bytes < suc n → BeginWithLine bytes here → bytes ≢ [] →
    ((room + length (rest_of here) < length bytes) ⊎ (length bytes ≤ room + length (rest_of here))) → Come room line bytes a
come_by n fewer room line bytes a here few begins some (inl beyond) none =
    none (Long, (long_only room line bytes a (omega arith) (long_front room bytes here begins beyond)).0)
come_by n fewer room line bytes a here few begins some (inr within) none = come_within n fewer room line bytes a here few begins within some none

-- from a line on
come_at : (n : ℕ) → AllCome n → AllCome (suc n)
come_at n fewer room zero bytes a first few none = omega arith
come_at n fewer room (suc last) [] a first few none = none (Endless last, (empty_only room (suc last) last a refl).0)
come_at n fewer room (suc last) (b ∷ bytes) a first few none =
    line_some (b ∷ bytes) (λ here.
    come_by n fewer room (suc last) (b ∷ bytes) a here.0 few here.1 (λ e. absurd cc) (cases_lt (room + length (rest_of here.0)) (length (b ∷ bytes))) none)

all_come : (n : ℕ) → AllCome n
all_come zero room line bytes a first few none = omega arith
all_come (suc n) room line bytes a first few none = come_at n (all_come n) room line bytes a first few none

bytes_come : (bytes : List ℕ) → Come limit 1 bytes None
bytes_come bytes = all_come (suc (length bytes)) limit 1 bytes None (omega arith) (omega arith)

-- a fact that holds first of no number holds of none
none_below : (P : ℕ → Type 0) → ¬ ((i : ℕ) × P i × ((j : ℕ) → j < i → ¬ (P j))) → (n j : ℕ) → j < n → ¬ (P j)
none_below P no_first zero j below p = omega arith
none_below P no_first (suc n) j below p = no_first (j, p, λ k less. none_below P no_first n k (omega arith))

-- a rule that is at this place in the order fails
abbrev FailsThere : List BuilderCall → ℕ → Type 0
FailsThere calls place = (rule : GraphRule) × (order rule ≡ place) × (call : ℕ) × FailsAt rule calls call

-- where no fault is the first there is none
no_fault : (calls : List BuilderCall) → ¬ ((rule : GraphRule) × (call : ℕ) × IsFirstFault calls rule call) → KeepsRules calls
no_fault calls no_first rule call fails =
    none_below (FailsThere calls) (λ first.
    none_below (FailsAt first.1.0 calls) (λ least. no_first (
      first.1.0,
      least.0,
      record {
        fails = least.1;
        none_before = least.2;
        earlier_rules = λ earlier above i broken. first.2 (order earlier) (subst (λ (place : ℕ). order earlier < place) first.1.1 above) (earlier, refl, i, broken);
      },
    )) (suc first.1.2) first.1.2 (omega arith) first.1.3) (suc (order rule)) (order rule) (omega arith) (rule, refl, call, fails)

-- what lines come to is a reading
reading_by : (bytes : List ℕ) (v : Verdict) → LinesAre limit 1 None bytes v → ¬ (¬ (HasReading bytes))
reading_by bytes (Ended told last rest) text none =
    none (inl (
      told,
      last,
      rest,
      text,
      no_fault told.calls (λ fault.
          none (inr (inl (
            line_at told last fault.1,
            fault.0,
            record {
              told = told;
              last = last;
              rest = rest;
              call = fault.1;
              text = text;
              first = fault.2;
              line_is = refl;
            },
          )))),
    ))
reading_by bytes (WrongAt wrong) w none = none (inr (inr (inl (wrong, inl w))))
reading_by bytes (Endless last) w none = none (inr (inr (inl (max 1 last, inr (last, w, refl)))))
reading_by bytes Long w none = none (inr (inr (inr w)))

-- so bytes have a reading
pub reading_some : (bytes : List ℕ) → ¬ (¬ (HasReading bytes))
reading_some bytes none = bytes_come bytes (λ come. reading_by bytes come.0 come.1 none)
