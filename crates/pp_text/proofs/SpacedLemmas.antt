-- Rows of tokens with blanks between them, read from the front.
use Rattle.std.proofs.Common.{◌≡◌, ℕ, ◌+◌, ◌<◌, ◌≤◌, ◌==◌, List, [], ◌∷◌, ◌++◌, true, false, ◌||◌, IsTrue, length, length-append, append_assoc, sym, refl, ap, subst, ◌∙◌, arith}
use Rattle.std.proofs.lemmas.Bool.{and_parts, and_from, or_left, false≢true, false_from_ne_true}
use Rattle.std.proofs.lemmas.List.{append-nil}
use Rattle.std.specs.List.{list_all}
use Rattle.pp_text.specs.Tokens.{Token, Word, Quoted, Bracketed, is_token, token_text, is_blank, is_word_byte, is_apart, BeginsWith, IsSpaced, Behind, GoesOn, Ends, IsBehind, BeginsRow}
use Rattle.pp_text.specs.steps.Reading.{ends_token}
use Rattle.pp_text.specs.steps.Lexing.{begins_with, IsBehindBlanks}
use Rattle.pp_text.proofs.TokenLemmas.{at_byte, ends_cases}

-- a token with what follows it begins with a byte that ends no token
pub record BeginsInside (text rest : List ℕ) : Type 0 where
  pub first : ℕ
  pub others : List ℕ
  pub split : text ≡ first ∷ others
  pub no_end : ends_token (first ∷ []) ≡ false
  pub longer : length rest < length text

token_begins : (t : Token) (rest : List ℕ) → IsTrue (is_token t) → BeginsInside (token_text t ++ rest) rest
token_begins (Word []) rest is = absurd (false≢true is)
token_begins (Word (b ∷ bytes)) rest is = record {
  first = b;
  others = bytes ++ rest;
  split = refl;
  no_end = false_from_ne_true (ends_token (b ∷ [])) (λ (ends : ends_token (b ∷ []) ≡ true).
      false≢true (sym (ends_cases is_word_byte b [] false ends refl refl refl refl) ∙ (and_parts (is_word_byte b) (list_all is_word_byte bytes) is).0));
  longer = omega (arith, length-append (b ∷ bytes) rest);
}
token_begins (Quoted inside) rest is = record {
  first = 34;
  others = (inside ++ 34 ∷ []) ++ rest;
  split = refl;
  no_end = refl;
  longer = omega (arith, length-append (34 ∷ inside ++ 34 ∷ []) rest);
}
token_begins (Bracketed inside) rest is = record {
  first = 91;
  others = (inside ++ 93 ∷ []) ++ rest;
  split = refl;
  no_end = refl;
  longer = omega (arith, length-append (91 ∷ inside ++ 93 ∷ []) rest);
}

-- bytes that begin with a token and end one, do not both
pub no_token_end : (t : Token) (rest bytes : List ℕ) → IsTrue (is_token t) → bytes ≡ token_text t ++ rest → ends_token bytes ≡ false
no_token_end t rest bytes is e =
    let begin = token_begins t rest is in
    ap ends_token (e ∙ begin.split) ∙ begin.no_end

-- a blank ends a token, and so does what stands behind a statement
blank_ends : (b : ℕ) (rest : List ℕ) → is_blank b ≡ true → ends_token (b ∷ rest) ≡ true
blank_ends b rest blank = or_left (is_blank b || b == 59) (b == 35) (or_left (is_blank b) (b == 59) blank)

pub behind_ends : (after : List ℕ) (b : Behind) → IsBehind after b → IsTrue (ends_token after)
behind_ends after (GoesOn rest) is = ap ends_token is
behind_ends [] Ends is = refl
behind_ends (c ∷ after) Ends is = at_byte (λ (x : ℕ). ends_token (x ∷ [])) c 35 true is refl

-- no blank stands first behind a statement
behind_clear : (after : List ℕ) (b : Behind) → IsBehind after b → begins_with is_blank after ≡ false
behind_clear after (GoesOn rest) is = ap (begins_with is_blank) is
behind_clear [] Ends is = refl
behind_clear (c ∷ after) Ends is = at_byte is_blank c 35 false is refl

-- one blank less in front
begins_off_blank : (b : ℕ) (text gap : List ℕ) (t : Token) (rest : List ℕ) → is_blank b ≡ true → IsTrue (list_all is_blank gap) → IsTrue (is_token t) →
    b ∷ text ≡ gap ++ token_text t ++ rest → IsTrue (is_apart rest) → BeginsWith text t rest
begins_off_blank b text [] t rest blank all is e apart = absurd (false≢true (sym (no_token_end t rest (b ∷ text) is e) ∙ blank_ends b text blank))
begins_off_blank b text (c ∷ gap) t rest blank all is e apart = record {
  gap = gap;
  blank = (and_parts (is_blank c) (list_all is_blank gap) all).1;
  is = is;
  spelled = cc;
  apart = apart;
}

spaced_off_blank : (b : ℕ) (text : List ℕ) (tokens : List Token) → is_blank b ≡ true → IsSpaced (b ∷ text) tokens → IsSpaced text tokens
spaced_off_blank b text [] blank are = (and_parts (is_blank b) (list_all is_blank text) are).1
spaced_off_blank b text (t ∷ tokens) blank are =
    (are.0, begins_off_blank b text are.1.gap t are.0 blank are.1.blank are.1.is are.1.spelled are.1.apart, are.2)

row_off_blank : (b : ℕ) (rest text after : List ℕ) (tokens : List Token) (behind : Behind) → is_blank b ≡ true → b ∷ rest ≡ text ++ after → IsSpaced text tokens → IsBehind after behind → BeginsRow rest tokens behind
row_off_blank b rest [] after tokens behind blank e are end =
    absurd (false≢true (sym (behind_clear after behind end) ∙ ap (begins_with is_blank) (sym e) ∙ blank))
row_off_blank b rest (c ∷ text) after tokens behind blank e are end =
    let same : c ≡ b = cc in record {
      text = text;
      after = after;
      split = cc;
      spaced = spaced_off_blank c text tokens (ap is_blank same ∙ blank) are;
      end = end;
    }

pub row_off_blanks : (gap rest : List ℕ) (tokens : List Token) (behind : Behind) → IsTrue (list_all is_blank gap) → BeginsRow (gap ++ rest) tokens behind → BeginsRow rest tokens behind
row_off_blanks [] rest tokens behind blank row = row
row_off_blanks (b ∷ gap) rest tokens behind blank row =
    let both = and_parts (is_blank b) (list_all is_blank gap) blank in
    row_off_blanks gap rest tokens behind both.1 (row_off_blank b (gap ++ rest) row.text row.after tokens behind both.0 row.split row.spaced row.end)

-- and one more
spaced_on_blank : (b : ℕ) (text : List ℕ) (tokens : List Token) → is_blank b ≡ true → IsSpaced text tokens → IsSpaced (b ∷ text) tokens
spaced_on_blank b text [] blank are = and_from (is_blank b) (list_all is_blank text) blank are
spaced_on_blank b text (t ∷ tokens) blank are = (
  are.0,
  record {
    gap = b ∷ are.1.gap;
    blank = and_from (is_blank b) (list_all is_blank are.1.gap) blank are.1.blank;
    is = are.1.is;
    spelled = ap (λ (l : List ℕ). b ∷ l) are.1.spelled;
    apart = are.1.apart;
  },
  are.2,
)

pub row_on_blanks : (gap rest : List ℕ) (tokens : List Token) (behind : Behind) → IsTrue (list_all is_blank gap) → BeginsRow rest tokens behind → BeginsRow (gap ++ rest) tokens behind
row_on_blanks [] rest tokens behind blank row = row
row_on_blanks (b ∷ gap) rest tokens behind blank row =
    let both = and_parts (is_blank b) (list_all is_blank gap) blank in
    let inner = row_on_blanks gap rest tokens behind both.1 row in record {
      text = b ∷ inner.text;
      after = inner.after;
      split = ap (λ (l : List ℕ). b ∷ l) inner.split;
      spaced = spaced_on_blank b inner.text tokens both.0 inner.spaced;
      end = inner.end;
    }

-- what ends a token and begins a row of tokens, begins with a blank
begins_apart : (b : ℕ) (text gap : List ℕ) (t : Token) (rest : List ℕ) → IsTrue (list_all is_blank gap) → IsTrue (is_token t) → b ∷ text ≡ gap ++ token_text t ++ rest → IsTrue (ends_token (b ∷ [])) → is_blank b ≡ true
begins_apart b text [] t rest all is e ends = absurd (false≢true (sym (no_token_end t rest (b ∷ text) is e) ∙ ends))
begins_apart b text (c ∷ gap) t rest all is e ends =
    let same : b ≡ c = cc in ap is_blank same ∙ (and_parts (is_blank c) (list_all is_blank gap) all).0

spaced_apart : (text after : List ℕ) (tokens : List Token) → IsSpaced text tokens → IsTrue (ends_token (text ++ after)) → IsTrue (is_apart text)
spaced_apart [] after tokens are ends = refl
spaced_apart (b ∷ text) after [] are ends = (and_parts (is_blank b) (list_all is_blank text) are).0
spaced_apart (b ∷ text) after (t ∷ tokens) are ends =
    begins_apart b text are.1.gap t are.0 are.1.blank are.1.is are.1.spelled ends

-- a token in front of a row
row_on_token : (rest behind : List ℕ) (t : Token) (more : List Token) (b : Behind) → IsTrue (is_token t) → IsTrue (ends_token behind) → rest ≡ token_text t ++ behind → BeginsRow behind more b → BeginsRow rest (t ∷ more) b
row_on_token rest behind t more b is ends spelled row = record {
  text = token_text t ++ row.text;
  after = row.after;
  split = spelled ∙ ap (λ (l : List ℕ). token_text t ++ l) row.split ∙ sym (append_assoc (token_text t) row.text row.after);
  spaced = (
    row.text,
    record {
      gap = [];
      blank = refl;
      is = is;
      spelled = refl;
      apart = spaced_apart row.text row.after more row.spaced (ap ends_token (sym row.split) ∙ ends);
    },
    row.spaced,
  );
  end = row.end;
}

-- a row without a blank in front begins with its first token
pub record BeginsToken (rest : List ℕ) (t : Token) (more : List Token) (b : Behind) : Type 0 where
  pub behind : List ℕ
  pub is : IsTrue (is_token t)
  pub spelled : rest ≡ token_text t ++ behind
  pub ends : IsTrue (ends_token behind)
  pub row : BeginsRow behind more b

apart_ends : (rest after : List ℕ) (b : Behind) → IsTrue (is_apart rest) → IsBehind after b → IsTrue (ends_token (rest ++ after))
apart_ends [] after b apart end = behind_ends after b end
apart_ends (c ∷ rest) after b apart end = blank_ends c (rest ++ after) apart

token_first : (rest gap text r after : List ℕ) (t : Token) (more : List Token) (b : Behind) → begins_with is_blank rest ≡ false → rest ≡ text ++ after → IsTrue (list_all is_blank gap) → IsTrue (is_token t) →
    text ≡ gap ++ token_text t ++ r → IsTrue (is_apart r) → IsSpaced r more → IsBehind after b → BeginsToken rest t more b
token_first rest [] text r after t more b clear split blank is spelled apart are end = record {
  behind = r ++ after;
  is = is;
  spelled = split ∙ ap (λ (l : List ℕ). l ++ after) spelled ∙ append_assoc (token_text t) r after;
  ends = apart_ends r after b apart end;
  row = record { text = r; after = after; split = refl; spaced = are; end = end };
}
token_first rest (c ∷ gap) text r after t more b clear split blank is spelled apart are end =
    absurd (false≢true (sym clear ∙ ap (begins_with is_blank) (split ∙ ap (λ (l : List ℕ). l ++ after) spelled) ∙ (and_parts (is_blank c) (list_all is_blank gap) blank).0))

pub row_token : (rest : List ℕ) (t : Token) (more : List Token) (b : Behind) → begins_with is_blank rest ≡ false → BeginsRow rest (t ∷ more) b → BeginsToken rest t more b
row_token rest t more b clear row =
    let first = row.spaced.1 in
    token_first rest first.gap row.text row.spaced.0 row.after t more b clear row.split first.blank first.is first.spelled first.apart row.spaced.2 row.end

-- and one without tokens is what stands behind it
row_empty_at : (rest text after : List ℕ) (b : Behind) → begins_with is_blank rest ≡ false → rest ≡ text ++ after → IsTrue (list_all is_blank text) → IsBehind after b → IsBehind rest b
row_empty_at rest [] after b clear split blank end = subst (λ (l : List ℕ). IsBehind l b) (sym split) end
row_empty_at rest (c ∷ text) after b clear split blank end =
    absurd (false≢true (sym clear ∙ ap (begins_with is_blank) split ∙ (and_parts (is_blank c) (list_all is_blank text) blank).0))

pub row_empty : (rest : List ℕ) (b : Behind) → begins_with is_blank rest ≡ false → BeginsRow rest [] b → IsBehind rest b
row_empty rest b clear row = row_empty_at rest row.text row.after b clear row.split row.spaced row.end

-- How far a row was read: the tokens in front, and the rest without blanks in front. Each row that the rest begins with
-- goes on from these tokens, and each reading of the row goes on in the rest.
pub record IsReading (row : List ℕ) (done : List Token) (rest : List ℕ) : Type 0 where
  pub clear : begins_with is_blank rest ≡ false
  pub forth : (more : List Token) (b : Behind) → BeginsRow rest more b → BeginsRow row (done ++ more) b
  pub back : (ts : List Token) (b : Behind) → BeginsRow row ts b → (more : List Token) × (ts ≡ done ++ more) × BeginsRow rest more b
  pub short : length done + length rest ≤ length row

-- before the first token
pub reading_begins : (row rest : List ℕ) → IsBehindBlanks row rest → IsReading row [] rest
reading_begins row rest cut = record {
  clear = cut.no_more;
  forth = λ more b begins. subst (λ (l : List ℕ). BeginsRow l more b) (sym cut.split) (row_on_blanks cut.gap rest more b cut.blank begins);
  back = λ ts b begins. (ts, refl, row_off_blanks cut.gap rest ts b cut.blank (subst (λ (l : List ℕ). BeginsRow l ts b) cut.split begins));
  short = omega (arith, length-append cut.gap rest, ap length cut.split);
}

-- What stands behind a token is the rest of the row. Where a row has no tokens more, none begins the rest.
only_step : (rest behind : List ℕ) (t : Token) (more : List Token) (b : Behind) → begins_with is_blank rest ≡ false → IsTrue (is_token t) → rest ≡ token_text t ++ behind →
    ((other : Token) (after : List ℕ) → IsTrue (is_token other) → IsTrue (ends_token after) → rest ≡ token_text other ++ after → (t ≡ other) × (behind ≡ after)) → BeginsRow rest more b →
    (others : List Token) × (more ≡ t ∷ others) × BeginsRow behind others b
only_step rest behind t [] b clear is spelled only row =
    absurd (false≢true (sym (no_token_end t behind rest is spelled) ∙ behind_ends rest b (row_empty rest b clear row)))
only_step rest behind t (other ∷ others) b clear is spelled only row =
    let first = row_token rest other others b clear row in
    let same = only other first.behind first.is first.ends first.spelled in
    (others, ap (λ (x : Token). x ∷ others) (sym same.0), subst (λ (l : List ℕ). BeginsRow l others b) (sym same.1) first.row)

-- one token more
pub reading_more : (row : List ℕ) (done : List Token) (rest behind next : List ℕ) (t : Token) → IsReading row done rest → IsTrue (is_token t) → IsTrue (ends_token behind) → rest ≡ token_text t ++ behind →
    ((other : Token) (after : List ℕ) → IsTrue (is_token other) → IsTrue (ends_token after) → rest ≡ token_text other ++ after → (t ≡ other) × (behind ≡ after)) → IsBehindBlanks behind next →
    IsReading row (done ++ t ∷ []) next
reading_more row done rest behind next t so_far is ends spelled only cut = record {
  clear = cut.no_more;
  forth = λ more b begins.
      let behind_row = subst (λ (l : List ℕ). BeginsRow l more b) (sym cut.split) (row_on_blanks cut.gap next more b cut.blank begins) in
      subst (λ (l : List Token). BeginsRow row l b) (sym (append_assoc done (t ∷ []) more)) (so_far.forth (t ∷ more) b (row_on_token rest behind t more b is ends spelled behind_row));
  back = λ ts b begins.
      let before = so_far.back ts b begins in
      let step = only_step rest behind t before.0 b so_far.clear is spelled only before.2 in (
        step.0,
        before.1 ∙ ap (λ (l : List Token). done ++ l) step.1 ∙ sym (append_assoc done (t ∷ []) step.0),
        row_off_blanks cut.gap next step.0 b cut.blank (subst (λ (l : List ℕ). BeginsRow l step.0 b) cut.split step.2),
      );
  short = omega (arith, so_far.short, length-append done (t ∷ []), length-append cut.gap next, ap length cut.split, ap length spelled, (token_begins t behind is).longer);
}

-- behind the last token
pub reading_found : (row : List ℕ) (done : List Token) (rest : List ℕ) (b : Behind) → IsReading row done rest → IsBehind rest b → BeginsRow row done b
reading_found row done rest b so_far end =
    subst (λ (l : List Token). BeginsRow row l b) (append-nil done) (so_far.forth [] b (record { text = []; after = rest; split = refl; spaced = refl; end = end }))

-- where no token begins the rest, nothing of a reading is left
ends_at : (done ts : List Token) (rest : List ℕ) (more : List Token) (b : Behind) → begins_with is_blank rest ≡ false → ((t : Token) (after : List ℕ) → IsTrue (is_token t) → IsTrue (ends_token after) → rest ≡ token_text t ++ after → ⊥) →
    ts ≡ done ++ more → BeginsRow rest more b → (done ≡ ts) × IsBehind rest b
ends_at done ts rest [] b clear none same row = (sym (append-nil done) ∙ sym same, row_empty rest b clear row)
ends_at done ts rest (t ∷ more) b clear none same row =
    let first = row_token rest t more b clear row in
    absurd (none t first.behind first.is first.ends first.spelled)

pub reading_only : (row : List ℕ) (done : List Token) (rest : List ℕ) (ts : List Token) (b : Behind) → IsReading row done rest → ((t : Token) (after : List ℕ) → IsTrue (is_token t) → IsTrue (ends_token after) → rest ≡ token_text t ++ after → ⊥) →
    BeginsRow row ts b → (done ≡ ts) × IsBehind rest b
reading_only row done rest ts b so_far none begins =
    let left = so_far.back ts b begins in
    ends_at done ts rest left.0 b so_far.clear none left.1 left.2
