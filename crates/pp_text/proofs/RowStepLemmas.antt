-- A row, statement by statement.
use Rattle.std.proofs.Common.{◌≡◌, ℕ, ◌+◌, ◌≤◌, Bool, true, false, IsTrue, List, [], ◌∷◌, ◌++◌, length, refl, sym, ap, subst, arith}
use Rattle.std.specs.Prelude.{Option, Some, None, IfSome, IsSomeAnd}
use Rattle.pp_text.specs.declared.row.Behind.{Behind as Found}
use Rattle.pp_text.specs.declared.token.Token.{Token as Borrowed}
use Rattle.pp_text.specs.steps.View.{tokens_of, behind_of, length_behind}
use Rattle.pp_text.specs.declared.reading.RowEnd.{RowEnd}
use Rattle.pp_text.specs.declared.reading.RowEnd.TheVariants as row_end
use Rattle.pp_text.specs.steps.Rows.{SameEnds, IsRowAnswer, RowOutcome, LeadsTo, EndsWith, RowIs, LastIs}
use Rattle.pp_text.specs.Text.{Told, Leads, LeadOn, RowLeads, RowEnds, end_tokens}
use Rattle.pp_text.specs.Tokens.{Token, Behind, GoesOn, Ends, BeginsRow, IsRow}

-- the same comes of it, so the answer is the same
pub row_answer : (end : RowEnd) (new : Option Told) (Left Whole : RowOutcome → Type 0) → SameEnds Left Whole → IsRowAnswer end new Left → IsRowAnswer end new Whole
row_answer row_end.Leads new Left Whole same h = (same.to (LeadsTo new) h.0, λ other w. h.1 other (same.from other w))
row_answer row_end.Ends new Left Whole same h = (h.0, h.1, (same.to (EndsWith h.0) h.2.0, λ other w. h.2.1 other (same.from other w)))
row_answer row_end.Wrong new Left Whole same h = λ other w. h other (same.from other w)

-- the row begins with these tokens alone
abbrev pub BeginsAlone : List ℕ → List Token → Behind → Type 0
BeginsAlone row tokens behind = (BeginsRow row tokens behind) × ((ts : List Token) (b : Behind) → BeginsRow row ts b → (tokens ≡ ts) × (behind ≡ b))

-- the statement that leads on from here leads there alone
abbrev pub LeadsAlone : ℕ → Option Told → List Token → Option Told → Type 0
LeadsAlone line before tokens after = (Leads line before tokens after) × ((other : Option Told) → Leads line before tokens other → after ≡ other)

next_leads : (line : ℕ) (row next : List ℕ) (ts : List Token) (a b after : Option Told) → BeginsAlone row ts (GoesOn next) → LeadsAlone line a ts b →
    (first : List Token) (others : List (List Token)) → IsRow row first others → LeadOn line a (first ∷ others) after → RowLeads line next b after
next_leads line row next ts a b after begins leads first [] is lead =
    let same = begins.1 first Ends is in
    absurd cc
next_leads line row next ts a b after begins leads first (second ∷ others) is lead =
    let same = begins.1 first (GoesOn is.0) is.1 in
    let tokens : first ≡ ts = sym same.0 in
    let rest : is.0 ≡ next = cc in
    let between : lead.0 ≡ b = sym (leads.1 lead.0 (subst (λ (t : List Token). Leads line a t lead.0) tokens lead.1)) in
    record {
      first = second;
      others = others;
      row_is = subst (λ (r : List ℕ). IsRow r second others) rest is.2;
      lead = subst (λ (o : Option Told). LeadOn line o (second ∷ others) after) between lead.2;
    }

next_ends : (line : ℕ) (row next : List ℕ) (ts : List Token) (a b : Option Told) (told : Told) → BeginsAlone row ts (GoesOn next) → LeadsAlone line a ts b →
    (first : List Token) (others statements : List (List Token)) → IsRow row first others → first ∷ others ≡ statements ++ end_tokens ∷ [] →
    LeadOn line a statements (Some told) → RowEnds line next b told
next_ends line row next ts a b told begins leads first [] statements is last lead =
    let same = begins.1 first Ends is in
    absurd cc
next_ends line row next ts a b told begins leads first (second ∷ others) [] is last lead = absurd cc
next_ends line row next ts a b told begins leads first (second ∷ others) (s ∷ statements) is last lead =
    let same = begins.1 first (GoesOn is.0) is.1 in
    let tokens : s ≡ ts = cc in
    let rest : is.0 ≡ next = cc in
    let between : lead.0 ≡ b = sym (leads.1 lead.0 (subst (λ (t : List Token). Leads line a t lead.0) tokens lead.1)) in
    record {
      first = second;
      others = others;
      statements = statements;
      row_is = subst (λ (r : List ℕ). IsRow r second others) rest is.2;
      last = cc;
      lead = subst (λ (o : Option Told). LeadOn line o statements (Some told)) between lead.2;
    }

next_to : (line : ℕ) (row next : List ℕ) (ts : List Token) (a b : Option Told) → BeginsAlone row ts (GoesOn next) → LeadsAlone line a ts b →
    (o : RowOutcome) → RowIs line next b o → RowIs line row a o
next_to line row next ts a b begins leads (LeadsTo after) w = record {
  first = ts;
  others = w.first ∷ w.others;
  row_is = (next, begins.0, w.row_is);
  lead = (b, leads.0, w.lead);
}
next_to line row next ts a b begins leads (EndsWith told) w = record {
  first = ts;
  others = w.first ∷ w.others;
  statements = ts ∷ w.statements;
  row_is = (next, begins.0, w.row_is);
  last = ap (λ l. ts ∷ l) w.last;
  lead = (b, leads.0, w.lead);
}

next_from : (line : ℕ) (row next : List ℕ) (ts : List Token) (a b : Option Told) → BeginsAlone row ts (GoesOn next) → LeadsAlone line a ts b →
    (o : RowOutcome) → RowIs line row a o → RowIs line next b o
next_from line row next ts a b begins leads (LeadsTo after) w = next_leads line row next ts a b after begins leads w.first w.others w.row_is w.lead
next_from line row next ts a b begins leads (EndsWith told) w = next_ends line row next ts a b told begins leads w.first w.others w.statements w.row_is w.last w.lead

-- behind a statement that leads on the rest of the row decides
pub row_next : (line : ℕ) (row next : List ℕ) (ts : List Token) (a b : Option Told) → BeginsAlone row ts (GoesOn next) → LeadsAlone line a ts b →
    SameEnds (RowIs line next b) (RowIs line row a)
row_next line row next ts a b begins leads = record { to = next_to line row next ts a b begins leads; from = next_from line row next ts a b begins leads }

-- a row that begins with no statement
no_row : (row : List ℕ) → ((ts : List Token) (b : Behind) → ¬ (BeginsRow row ts b)) → (first : List Token) (others : List (List Token)) → ¬ (IsRow row first others)
no_row row none first [] is = none first Ends is
no_row row none first (second ∷ others) is = none first (GoesOn is.0) is.1

pub row_none : (line : ℕ) (row : List ℕ) (a : Option Told) → ((ts : List Token) (b : Behind) → ¬ (BeginsRow row ts b)) → (o : RowOutcome) → ¬ (RowIs line row a o)
row_none line row a none (LeadsTo after) w = no_row row none w.first w.others w.row_is
row_none line row a none (EndsWith told) w = no_row row none w.first w.others w.row_is

-- a statement that may not stand there
stop_leads : (line : ℕ) (row next : List ℕ) (ts : List Token) (a after : Option Told) → BeginsAlone row ts (GoesOn next) → ((o : Option Told) → ¬ (Leads line a ts o)) →
    (first : List Token) (others : List (List Token)) → IsRow row first others → ¬ (LeadOn line a (first ∷ others) after)
stop_leads line row next ts a after begins none first [] is lead =
    let same = begins.1 first Ends is in
    absurd cc
stop_leads line row next ts a after begins none first (second ∷ others) is lead =
    let same = begins.1 first (GoesOn is.0) is.1 in
    none lead.0 (subst (λ (t : List Token). Leads line a t lead.0) (sym same.0) lead.1)

stop_ends : (line : ℕ) (row next : List ℕ) (ts : List Token) (a : Option Told) (told : Told) → BeginsAlone row ts (GoesOn next) → ((o : Option Told) → ¬ (Leads line a ts o)) →
    (first : List Token) (others statements : List (List Token)) → IsRow row first others → first ∷ others ≡ statements ++ end_tokens ∷ [] →
    ¬ (LeadOn line a statements (Some told))
stop_ends line row next ts a told begins none first [] statements is last lead =
    let same = begins.1 first Ends is in
    absurd cc
stop_ends line row next ts a told begins none first (second ∷ others) [] is last lead = absurd cc
stop_ends line row next ts a told begins none first (second ∷ others) (s ∷ statements) is last lead =
    let same = begins.1 first (GoesOn is.0) is.1 in
    let tokens : s ≡ ts = cc in
    none lead.0 (subst (λ (t : List Token). Leads line a t lead.0) tokens lead.1)

pub row_stop : (line : ℕ) (row next : List ℕ) (ts : List Token) (a : Option Told) → BeginsAlone row ts (GoesOn next) → ((o : Option Told) → ¬ (Leads line a ts o)) →
    (o : RowOutcome) → ¬ (RowIs line row a o)
row_stop line row next ts a begins none (LeadsTo after) w = stop_leads line row next ts a after begins none w.first w.others w.row_is w.lead
row_stop line row next ts a begins none (EndsWith told) w = stop_ends line row next ts a told begins none w.first w.others w.statements w.row_is w.last w.lead

-- the last statement of a row decides
last_leads : (line : ℕ) (row : List ℕ) (ts : List Token) (a after : Option Told) → BeginsAlone row ts Ends →
    (first : List Token) (others : List (List Token)) → IsRow row first others → LeadOn line a (first ∷ others) after → Leads line a ts after
last_leads line row ts a after begins first [] is lead =
    let same = begins.1 first Ends is in
    let there : Leads line a ts lead.0 = subst (λ (t : List Token). Leads line a t lead.0) (sym same.0) lead.1 in
    subst (λ (o : Option Told). Leads line a ts o) (sym lead.2) there
last_leads line row ts a after begins first (second ∷ others) is lead =
    let same = begins.1 first (GoesOn is.0) is.1 in
    absurd cc

last_ends : (line : ℕ) (row : List ℕ) (ts : List Token) (a : Option Told) (told : Told) → BeginsAlone row ts Ends →
    (first : List Token) (others statements : List (List Token)) → IsRow row first others → first ∷ others ≡ statements ++ end_tokens ∷ [] →
    LeadOn line a statements (Some told) → (ts ≡ end_tokens) × (a ≡ Some told)
last_ends line row ts a told begins first [] [] is last lead =
    let same = begins.1 first Ends is in
    let tokens : ts ≡ end_tokens = cc in
    (tokens, sym lead)
last_ends line row ts a told begins first [] (s ∷ []) is last lead = absurd cc
last_ends line row ts a told begins first [] (s ∷ t ∷ statements) is last lead = absurd cc
last_ends line row ts a told begins first (second ∷ others) statements is last lead =
    let same = begins.1 first (GoesOn is.0) is.1 in
    absurd cc

last_to : (line : ℕ) (row : List ℕ) (ts : List Token) (a : Option Told) → BeginsAlone row ts Ends → (o : RowOutcome) → LastIs line ts a o → RowIs line row a o
last_to line row ts a begins (LeadsTo after) w = record { first = ts; others = []; row_is = begins.0; lead = (after, w, refl) }
last_to line row ts a begins (EndsWith told) w = record {
  first = end_tokens;
  others = [];
  statements = [];
  row_is = subst (λ (t : List Token). BeginsRow row t Ends) w.0 begins.0;
  last = refl;
  lead = sym w.1;
}

last_from : (line : ℕ) (row : List ℕ) (ts : List Token) (a : Option Told) → BeginsAlone row ts Ends → (o : RowOutcome) → RowIs line row a o → LastIs line ts a o
last_from line row ts a begins (LeadsTo after) w = last_leads line row ts a after begins w.first w.others w.row_is w.lead
last_from line row ts a begins (EndsWith told) w = last_ends line row ts a told begins w.first w.others w.statements w.row_is w.last w.lead

pub row_last : (line : ℕ) (row : List ℕ) (ts : List Token) (a : Option Told) → BeginsAlone row ts Ends → SameEnds (LastIs line ts a) (RowIs line row a)
row_last line row ts a begins = record { to = last_to line row ts a begins; from = last_from line row ts a begins }

-- what is read of a row, as the reader gives it
pub begins_alone : (row : List ℕ) (items given : List Borrowed) (r : Option Found) (found : Found) (behind : Behind) → r ≡ Some found → given ≡ items → behind_of found ≡ behind →
    IfSome r (λ b. BeginsRow row (tokens_of items) (behind_of b)) →
    ((ts : List Token) (b : Behind) → BeginsRow row ts b → IsSomeAnd r (λ f. (tokens_of items ≡ ts) × (behind_of f ≡ b))) →
    BeginsAlone row (tokens_of given) behind
begins_alone row items given r found behind is same to begins only =
    let there = subst (λ (o : Option Found). IfSome o (λ b. BeginsRow row (tokens_of items) (behind_of b))) is begins in
    let one : (ts : List Token) → (b : Behind) → BeginsRow row ts b → (tokens_of items ≡ ts) × (behind_of found ≡ b) =
    λ ts b w. subst (λ (o : Option Found). IsSomeAnd o (λ f. (tokens_of items ≡ ts) × (behind_of f ≡ b))) is (only ts b w) in
    let here : BeginsAlone row (tokens_of items) (behind_of found) = (there, one) in
    subst (λ (b : Behind). BeginsAlone row (tokens_of given) b) to (subst (λ (l : List Borrowed). BeginsAlone row (tokens_of l) (behind_of found)) (sym same) here)

pub begins_none : (row : List ℕ) (items : List Borrowed) (r : Option Found) → r ≡ None →
    ((ts : List Token) (b : Behind) → BeginsRow row ts b → IsSomeAnd r (λ f. (tokens_of items ≡ ts) × (behind_of f ≡ b))) →
    (ts : List Token) (b : Behind) → ¬ (BeginsRow row ts b)
begins_none row items r is only ts b w = subst (λ (o : Option Found). IsSomeAnd o (λ f. (tokens_of items ≡ ts) × (behind_of f ≡ b))) is (only ts b w)

-- what was added, as the draft says it
pub leads_alone : (line : ℕ) (a new : Option Told) (ts : List Token) (led : Bool) → led ≡ true → (IsTrue led → Leads line a ts new) →
    ((after : Option Told) → Leads line a ts after → (led ≡ true) × (new ≡ after)) → LeadsAlone line a ts new
leads_alone line a new ts led is leads only = (leads is, λ other w. (only other w).1)

pub leads_none : (line : ℕ) (a new : Option Told) (ts : List Token) (led : Bool) → led ≡ false →
    ((after : Option Told) → Leads line a ts after → (led ≡ true) × (new ≡ after)) → (o : Option Told) → ¬ (Leads line a ts o)
leads_none line a new ts led is only o w =
    let yes = (only o w).0 in
    absurd cc

-- and how little is left behind it
pub left_behind : (row next : List ℕ) (items given : List Borrowed) (r : Option Found) (found : Found) → r ≡ Some found → given ≡ items → length_behind found ≡ length next →
    IfSome r (λ b. length items + length_behind b ≤ length row) → length given + length next ≤ length row
left_behind row next items given r found is same behind short =
    let there : length items + length_behind found ≤ length row = subst (λ (o : Option Found). IfSome o (λ b. length items + length_behind b ≤ length row)) is short in
    omega (arith, ap length same)
