-- A row has one reading.
use Rattle.std.proofs.Common.{◌≡◌, ℕ, ◌==◌, List, [], ◌∷◌, ◌++◌, Bool, true, false, IsTrue, append_assoc, length, refl, sym, ap, ap₂, subst, ◌∙◌}
use Rattle.std.proofs.lemmas.Bool.{and_parts, and_from, false≢true}
use Rattle.std.specs.List.{list_all, prefix_len}
use Rattle.pp_text.specs.Tokens.{Token, Word, Quoted, Bracketed, is_token, token_text, is_word, is_word_byte, is_blank, is_inside, Behind, GoesOn, Ends, IsBehind, is_comment, BeginsRow}
use Rattle.pp_text.specs.steps.Reading.{ends_token}
use Rattle.pp_text.specs.steps.Lexing.{begins_with, IsBehindBlanks}
use Rattle.pp_text.proofs.TokenLemmas.{same_inside, word_length_is, cut_at}
use Rattle.pp_text.proofs.SpacedLemmas.{row_token, row_empty, row_off_blanks, no_token_end, behind_ends}

-- a word ends where its bytes end
words_same : (a b after rest : List ℕ) → IsTrue (is_word a) → IsTrue (is_word b) → IsTrue (ends_token after) → IsTrue (ends_token rest) →
    a ++ after ≡ b ++ rest → (a ≡ b) × (after ≡ rest)
words_same a b after rest p q ends other e =
    let first = cut_at (a ++ after) a after (prefix_len is_word_byte (a ++ after)) (word_length_is a after p ends).0 refl in
    let long : prefix_len is_word_byte (a ++ after) ≡ length b = ap (prefix_len is_word_byte) e ∙ (word_length_is b rest q other).0 in
    let second = cut_at (a ++ after) b rest (prefix_len is_word_byte (a ++ after)) long e in
    (sym first.0 ∙ second.0, sym first.1 ∙ second.1)

-- no word byte is a quote or a bracket
no_word_front : (b : ℕ) (bytes after : List ℕ) (x : ℕ) (rest : List ℕ) → IsTrue (is_word (b ∷ bytes)) → is_word_byte x ≡ false → (b ∷ bytes) ++ after ≡ x ∷ rest → ⊥
no_word_front b bytes after x rest p none e =
    let same : b ≡ x = cc in
    false≢true (sym none ∙ ap is_word_byte (sym same) ∙ (and_parts (is_word_byte b) (list_all is_word_byte bytes) p).0)

no_word : (a after : List ℕ) (x : ℕ) (rest : List ℕ) → IsTrue (is_word a) → is_word_byte x ≡ false → a ++ after ≡ x ∷ rest → ⊥
no_word [] after x rest p none e = false≢true p
no_word (b ∷ bytes) after x rest p none e = no_word_front b bytes after x rest p none e

-- what stands between two quotes or brackets
inside_same : (close : ℕ) (make : List ℕ → Token) (front : ℕ) (a b after rest : List ℕ) → IsTrue (is_inside close false a) → IsTrue (is_inside close false b) →
    front ∷ (a ++ close ∷ []) ++ after ≡ front ∷ (b ++ close ∷ []) ++ rest → (make a ≡ make b) × (after ≡ rest)
inside_same close make front a b after rest p q e =
    let left : (a ++ close ∷ []) ++ after ≡ a ++ close ∷ after = append_assoc a (close ∷ []) after in
    let right : (b ++ close ∷ []) ++ rest ≡ b ++ close ∷ rest = append_assoc b (close ∷ []) rest in
    let tails : (a ++ close ∷ []) ++ after ≡ (b ++ close ∷ []) ++ rest = cc in
    let both = same_inside close false a b after rest p q (sym left ∙ tails ∙ right) in
    (ap make both.0, both.1)

-- a text begins with one token
pub token_same : (t u : Token) (after rest : List ℕ) → IsTrue (is_token t) → IsTrue (is_token u) → IsTrue (ends_token after) → IsTrue (ends_token rest) →
    token_text t ++ after ≡ token_text u ++ rest → (t ≡ u) × (after ≡ rest)
token_same (Word a) (Word b) after rest p q ends other e =
    let both = words_same a b after rest p q ends other e in
    (ap Word both.0, both.1)
token_same (Word a) (Quoted b) after rest p q ends other e = absurd (no_word a after 34 _ p refl e)
token_same (Word a) (Bracketed b) after rest p q ends other e = absurd (no_word a after 91 _ p refl e)
token_same (Quoted a) (Word b) after rest p q ends other e = absurd (no_word b rest 34 _ q refl (sym e))
token_same (Quoted a) (Quoted b) after rest p q ends other e = inside_same 34 Quoted 34 a b after rest p q e
token_same (Quoted a) (Bracketed b) after rest p q ends other e = absurd (false≢true (ap (begins_with (λ c. c == 91)) e))
token_same (Bracketed a) (Word b) after rest p q ends other e = absurd (no_word b rest 91 _ q refl (sym e))
token_same (Bracketed a) (Quoted b) after rest p q ends other e = absurd (false≢true (sym (ap (begins_with (λ c. c == 91)) e)))
token_same (Bracketed a) (Bracketed b) after rest p q ends other e = inside_same 93 Bracketed 91 a b after rest p q e

-- the blanks in front of a text
blank_or_not : (b : ℕ) (text : List ℕ) (blank : Bool) → is_blank b ≡ blank → ((rest : List ℕ) × IsBehindBlanks text rest) → (rest : List ℕ) × IsBehindBlanks (b ∷ text) rest
blank_or_not b text false is inner = (b ∷ text, record { gap = []; blank = refl; split = refl; no_more = is })
blank_or_not b text true is inner = (
  inner.0,
  record {
    gap = b ∷ inner.1.gap;
    blank = and_from (is_blank b) (list_all is_blank inner.1.gap) is inner.1.blank;
    split = ap (λ (l : List ℕ). b ∷ l) inner.1.split;
    no_more = inner.1.no_more;
  },
)

blanks_in_front : (text : List ℕ) → (rest : List ℕ) × IsBehindBlanks text rest
blanks_in_front [] = ([], record { gap = []; blank = refl; split = refl; no_more = refl })
blanks_in_front (b ∷ text) = blank_or_not b text (is_blank b) refl (blanks_in_front text)

-- what stands behind a statement is one thing
behind_same : (after : List ℕ) (a b : Behind) → IsBehind after a → IsBehind after b → a ≡ b
behind_same after (GoesOn rest) (GoesOn other) p q =
    let same : rest ≡ other = cc in ap GoesOn same
behind_same after (GoesOn rest) Ends p q = absurd (false≢true (ap is_comment (sym p) ∙ q))
behind_same after Ends (GoesOn rest) p q = absurd (false≢true (ap is_comment (sym q) ∙ p))
behind_same after Ends Ends p q = refl

-- two readings of a row, behind the blanks in front of it
record Two (ts us : List Token) (a b : Behind) : Type 0 where
  row : List ℕ
  clear : begins_with is_blank row ≡ false
  one : BeginsRow row ts a
  other : BeginsRow row us b

behind_blanks : (row : List ℕ) (ts us : List Token) (a b : Behind) → BeginsRow row ts a → BeginsRow row us b → Two ts us a b
behind_blanks row ts us a b p q =
    let cut = blanks_in_front row in
    record {
      row = cut.0;
      clear = cut.1.no_more;
      one = row_off_blanks cut.1.gap cut.0 ts a cut.1.blank (subst (λ (l : List ℕ). BeginsRow l ts a) cut.1.split p);
      other = row_off_blanks cut.1.gap cut.0 us b cut.1.blank (subst (λ (l : List ℕ). BeginsRow l us b) cut.1.split q);
    }

-- no row begins with a token and with none
none_and_some : (row : List ℕ) (u : Token) (us : List Token) (a b : Behind) → begins_with is_blank row ≡ false → BeginsRow row [] a → ¬ (BeginsRow row (u ∷ us) b)
none_and_some row u us a b clear p q =
    let first = row_token row u us b clear q in
    false≢true (sym (no_token_end u first.behind row first.is first.spelled) ∙ behind_ends row a (row_empty row a clear p))

-- a row begins with the same tokens in each reading
pub begins_any : (row : List ℕ) (ts us : List Token) (a b : Behind) → BeginsRow row ts a → BeginsRow row us b → (ts ≡ us) × (a ≡ b)
begins_any row [] [] a b p q =
    let two = behind_blanks row [] [] a b p q in
    (refl, behind_same two.row a b (row_empty two.row a two.clear two.one) (row_empty two.row b two.clear two.other))
begins_any row [] (u ∷ us) a b p q =
    let two = behind_blanks row [] (u ∷ us) a b p q in
    absurd (none_and_some two.row u us a b two.clear two.one two.other)
begins_any row (t ∷ ts) [] a b p q =
    let two = behind_blanks row (t ∷ ts) [] a b p q in
    absurd (none_and_some two.row t ts b a two.clear two.other two.one)
begins_any row (t ∷ ts) (u ∷ us) a b p q =
    let two = behind_blanks row (t ∷ ts) (u ∷ us) a b p q in
    let first = row_token two.row t ts a two.clear two.one in
    let second = row_token two.row u us b two.clear two.other in
    let same = token_same t u first.behind second.behind first.is second.is first.ends second.ends (sym first.spelled ∙ second.spelled) in
    let others = begins_any first.behind ts us a b first.row (subst (λ (l : List ℕ). BeginsRow l us b) (sym same.1) second.row) in
    (ap₂ ◌∷◌ same.0 others.0, others.1)
