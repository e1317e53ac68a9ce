-- Where lines are cut.
use Rattle.std.proofs.Common.{◌≡◌, ◌≢◌, ℕ, zero, suc, ◌+◌, ◌≤◌, ◌<◌, inl, inr, IsTrue, List, [], ◌∷◌, ◌++◌, length, take, append_assoc, refl, sym, ap, subst, ◌∙◌, arith}
use Rattle.std.proofs.lemmas.List.{length-append, append_cancel_right}
use Rattle.std.proofs.lemmas.List.Elements.{All-head, All-tail}
use Rattle.std.specs.Prelude.{Option}
use Rattle.pp_text.specs.Text.{Told, Line, Whole, Open, IsOneLine, IsRowOf, BeginWithLine, GoThrough, RowLeads, RowEnds, Through, lines_text, rest_of, end_tokens}
use Rattle.pp_text.specs.Tokens.{Token, Word, Quoted, Bracketed, is_token, token_text, IsSpaced, IsRow}

-- a line is cut at its first LF alone
same_cut : (l m after rest : List ℕ) → IsOneLine l → IsOneLine m → l ++ 10 ∷ after ≡ m ++ 10 ∷ rest → (l ≡ m) × (after ≡ rest)
same_cut [] [] after rest p q e = (refl, cc)
same_cut [] (y ∷ m) after rest p q e = absurd (All-head (λ b. b ≢ 10) y m q cc)
same_cut (x ∷ l) [] after rest p q e = absurd (All-head (λ b. b ≢ 10) x l p cc)
same_cut (x ∷ l) (y ∷ m) after rest p q e =
    let both = same_cut l m after rest (All-tail (λ b. b ≢ 10) x l p) (All-tail (λ b. b ≢ 10) y m q) cc in
    let heads : x ≡ y = cc in
    (cc, both.1)

-- bytes with an LF are no one line
no_cut : (p rest : List ℕ) → ¬ (IsOneLine (p ++ 10 ∷ rest))
no_cut [] rest one = All-head (λ b. b ≢ 10) 10 rest one refl
no_cut (x ∷ p) rest one = no_cut p rest (All-tail (λ b. b ≢ 10) x (p ++ 10 ∷ rest) one)

-- nor are as many of them as reach it
no_cut_within : (n : ℕ) (p rest : List ℕ) → length p < n → ¬ (IsOneLine (take n (p ++ 10 ∷ rest)))
no_cut_within zero p rest below one = omega arith
no_cut_within (suc n) [] rest below one = All-head (λ b. b ≢ 10) 10 (take n rest) one refl
no_cut_within (suc n) (x ∷ p) rest below one =
    no_cut_within n p rest (omega arith) (All-tail (λ b. b ≢ 10) x (take n (p ++ 10 ∷ rest)) one)

row_unique : (content row other : List ℕ) → IsRowOf content row → IsRowOf content other → row ≡ other
row_unique content row other (inl p) (inl q) = append_cancel_right row other (13 ∷ []) (sym p ∙ q)
row_unique content row other (inl p) (inr q) = absurd (q.1 row p)
row_unique content row other (inr p) (inl q) = absurd (p.1 other q)
row_unique content row other (inr p) (inr q) = sym p.0 ∙ q.0

-- bytes begin with one line alone
pub line_unique : (bytes : List ℕ) (l m : Line) → BeginWithLine bytes l → BeginWithLine bytes m → l ≡ m
line_unique bytes (Whole row rest) (Whole other more) p q =
    let cut = same_cut p.0 q.0 rest more p.1 q.1 (sym p.3 ∙ q.3) in
    let rows : row ≡ other = row_unique p.0 row other p.2 (subst (λ (c : List ℕ). IsRowOf c other) (sym cut.0) q.2) in
    let rests = cut.1 in
    cc
line_unique bytes (Whole row rest) (Open other) p q = absurd (no_cut p.0 rest (subst IsOneLine (sym q.1 ∙ p.3) q.0))
line_unique bytes (Open row) (Whole other more) p q = absurd (no_cut q.0 more (subst IsOneLine (sym p.1 ∙ q.3) p.0))
line_unique bytes (Open row) (Open other) p q = ap Open (sym p.1 ∙ q.1)

-- a line is whole where as many bytes have no LF and there are more
pub not_long : (room : ℕ) (bytes : List ℕ) (end : Line) → BeginWithLine bytes end → length bytes ≤ room + length (rest_of end) → room < length bytes →
    ¬ (IsOneLine (take room bytes))
not_long room bytes (Whole row rest) p within beyond one =
    let size : length bytes ≡ length (p.0 ++ 10 ∷ rest) = ap length p.3 in
    no_cut_within room p.0 rest (omega (arith, length-append p.0 (10 ∷ rest))) (subst (λ (l : List ℕ). IsOneLine (take room l)) p.3 one)
not_long room bytes (Open row) p within beyond one = omega arith

pub rest_short : (bytes : List ℕ) (end : Line) → BeginWithLine bytes end → length (rest_of end) ≤ length bytes
rest_short bytes (Whole row rest) p =
    let size : length bytes ≡ length (p.0 ++ 10 ∷ rest) = ap length p.3 in
    omega (arith, length-append p.0 (10 ∷ rest))
rest_short bytes (Open row) p = omega arith

-- how long a whole line is
pub line_size : (bytes row rest : List ℕ) (p : BeginWithLine bytes (Whole row rest)) → length bytes ≡ length p.0 + suc (length rest)
line_size bytes row rest p = ap length p.3 ∙ length-append p.0 (10 ∷ rest)

row_size : (content row : List ℕ) → IsRowOf content row → length row ≤ length content
row_size content row (inl p) =
    let size : length content ≡ length (row ++ 13 ∷ []) = ap length p in
    omega (arith, length-append row (13 ∷ []))
row_size content row (inr p) = omega (arith, ap length p.0)

-- and a row is no longer than its line
pub row_within : (bytes row rest : List ℕ) → BeginWithLine bytes (Whole row rest) → length row + suc (length rest) ≤ length bytes
row_within bytes row rest p = omega (arith, row_size p.0 row p.2, line_size bytes row rest p)

-- lines that go through, one and then the others
pub record Uncons (line : ℕ) (bytes : List ℕ) (a : Option Told) (contents : List (List ℕ)) (after : Option Told) (tail : List ℕ) : Type 0 where
  pub row : List ℕ
  pub between : Option Told
  pub begins : BeginWithLine bytes (Whole row (lines_text contents ++ tail))
  pub leads : RowLeads line row a between
  pub lead : Through (suc line) contents between after

pub uncons : (line : ℕ) (bytes : List ℕ) (a : Option Told) (content : List ℕ) (contents : List (List ℕ)) (after : Option Told) (tail : List ℕ) →
    GoThrough line bytes a (content ∷ contents) after tail → Uncons line bytes a contents after tail
uncons line bytes a content contents after tail w =
    let seam : lines_text (content ∷ contents) ++ tail ≡ content ++ 10 ∷ (lines_text contents ++ tail) = simp append_assoc in
    record {
      row = w.lead.0;
      between = w.lead.1;
      begins = (content, w.lead.2, w.lead.3, w.split ∙ seam);
      leads = w.lead.4;
      lead = w.lead.5;
    }

pub cons : (line : ℕ) (bytes row rest : List ℕ) (a b : Option Told) (p : BeginWithLine bytes (Whole row rest)) → RowLeads line row a b →
    (contents : List (List ℕ)) (after : Option Told) (tail : List ℕ) → GoThrough (suc line) rest b contents after tail → GoThrough line bytes a (p.0 ∷ contents) after tail
cons line bytes row rest a b p leads contents after tail w =
    let seam : lines_text (p.0 ∷ contents) ++ tail ≡ p.0 ++ 10 ∷ (lines_text contents ++ tail) = simp append_assoc in
    record {
      split = p.3 ∙ ap (λ r. p.0 ++ 10 ∷ r) w.split ∙ sym seam;
      lead = (row, b, p.1, p.2, leads, w.lead);
    }

-- a token is some bytes
token_some : (token : Token) → IsTrue (is_token token) → 0 < length (token_text token)
token_some (Word []) is = absurd cc
token_some (Word (b ∷ bytes)) is = omega arith
token_some (Quoted inside) is = omega arith
token_some (Bracketed inside) is = omega arith

spaced_nothing : (text : List ℕ) (tokens : List Token) → length text ≡ 0 → IsSpaced text tokens → tokens ≡ []
spaced_nothing text [] none is = refl
spaced_nothing text (token ∷ tokens) none is =
    let begins = is.1 in
    let size : length text ≡ length (begins.gap ++ token_text token ++ is.0) = ap length begins.spelled in
    absurd (omega (arith, token_some token begins.is, length-append (begins.gap ++ token_text token) is.0, length-append begins.gap (token_text token)))

-- the empty row has one statement without tokens
row_nothing : (first : List Token) (others : List (List Token)) → IsRow [] first others → (first ≡ []) × (others ≡ [])
row_nothing first [] is =
    let size : length {A = ℕ} [] ≡ length (is.text ++ is.after) = ap length is.split in
    (spaced_nothing is.text first (omega (arith, length-append is.text is.after)) is.spaced, refl)
row_nothing first (second ∷ others) is =
    let begins = is.1 in
    let size : length {A = ℕ} [] ≡ length (begins.text ++ begins.after) = ap length begins.split in
    let more : length begins.after ≡ suc (length is.0) = ap length begins.end in
    absurd (omega (arith, length-append begins.text begins.after))

no_end_in : (first : List Token) (others statements : List (List Token)) → first ≡ [] → others ≡ [] → ¬ (first ∷ others ≡ statements ++ end_tokens ∷ [])
no_end_in first others [] p q e = absurd cc
no_end_in first others (s ∷ []) p q e = absurd cc
no_end_in first others (s ∷ t ∷ statements) p q e = absurd cc

-- and does not end a text
pub nothing_ends : (line : ℕ) (a : Option Told) (told : Told) → ¬ (RowEnds line [] a told)
nothing_ends line a told w =
    let none = row_nothing w.first w.others w.row_is in
    no_end_in w.first w.others w.statements none.0 none.1 w.last
