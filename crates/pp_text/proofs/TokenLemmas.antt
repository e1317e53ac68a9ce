-- The tokens that bytes begin with.
use Rattle.std.proofs.Common.{◌≡◌, ℕ, ◌+◌, ◌<◌, ◌≤◌, ◌==◌, List, [], ◌∷◌, ◌++◌, Bool, true, false, ◌&&◌, ◌||◌, not, IsTrue, inl, inr, length, take, drop, get_or, append_assoc, sym, refl, ap, subst, ◌∙◌, arith}
use Rattle.std.proofs.Math.Bool.{and-false, and-true}
use Rattle.std.proofs.lemmas.Bool.{not-true, ne_eqb, eq-eqb, eqb-true, not_from_false, not_from_true, and_parts, and_from, or_cases, cases_lt, false≢true, cond-true, cond-false}
use Rattle.std.proofs.lemmas.List.{drop_more, take_more, drop_all, take-append-drop, append-nil, length-take, get_or-take, take_at, drop_at}
use Rattle.std.proofs.lemmas.List.Sums.{list_all-from_AllPass, prefix_len_passes, prefix_len_stops}
use Rattle.std.specs.List.{list_all, prefix_len}
use Rattle.std.specs.Bool.{then_some}
use Rattle.std.specs.Prelude.{Option, IfSome, IsSomeAnd}
use Rattle.std.proofs.lemmas.List.Folds.{length-prefix_len}
use Rattle.pp_text.specs.Tokens.{is_inside, is_printed, is_word, is_word_byte, is_blank}
use Rattle.pp_text.specs.steps.Reading.{ends_token}
use Rattle.pp_text.specs.steps.Lexing.{begins_with}

pub and_first : (p x : Bool) → p ≡ true → (p && x) ≡ x
and_first true x e = refl
and_first false x e = absurd (false≢true e)

-- one byte more, which does not close
inside_more : (close : ℕ) (escaped : Bool) (b : ℕ) (tail : List ℕ) → (b ≡ close → escaped ≡ false → ⊥) → is_printed b ≡ true →
    is_inside close escaped (b ∷ tail) ≡ is_inside close ((b == 92) && not escaped) tail
inside_more close true b tail stays printed =
    and_first (is_printed b) (is_inside close false tail) printed ∙ ap (λ (e : Bool). is_inside close e tail) (sym (and-false (b == 92)))
inside_more close false b tail stays printed =
    and_first (is_printed b && not (b == close)) (is_inside close (b == 92) tail)
    (and_from (is_printed b) (not (b == close)) printed (not_from_false (b == close) (ne_eqb b close (λ (e : b ≡ close). stays e refl))))
    ∙ ap (λ (e : Bool). is_inside close e tail) (sym (and-true (b == 92)))

-- an unescaped byte of an inside is printed, and does not close it
unescaped : (close : ℕ) (y : ℕ) (more : List ℕ) → IsTrue (is_inside close false (y ∷ more)) → (is_printed y ≡ true) × (not (y == close) ≡ true) × IsTrue (is_inside close (y == 92) more)
unescaped close y more is =
    let outer = and_parts (is_printed y && not (y == close)) (is_inside close (y == 92) more) is in
    let inner = and_parts (is_printed y) (not (y == close)) outer.0 in
    (inner.0, inner.1, outer.1)

-- a reading goes on behind such a byte
reading_more : (close : ℕ) (escaped : Bool) (b : ℕ) (after more rest : List ℕ) → (b ≡ close → escaped ≡ false → ⊥) → is_printed b ≡ true →
    IsTrue (is_inside close escaped more) → b ∷ after ≡ more ++ close ∷ rest → (m : List ℕ) × IsTrue (is_inside close ((b == 92) && not escaped) m) × (after ≡ m ++ close ∷ rest)
reading_more close escaped b after [] rest stays printed is e =
    let same : b ≡ close = cc in
    absurd (stays same (not-true escaped is))
reading_more close escaped b after (y ∷ more) rest stays printed is e =
    let same : y ≡ b = cc in
    let tail : after ≡ more ++ close ∷ rest = cc in
    (more, sym (inside_more close escaped b more stays printed) ∙ subst (λ (x : ℕ). is_inside close escaped (x ∷ more) ≡ true) same is, tail)

-- the first byte of an inside is printed
first_printed : (close : ℕ) (escaped : Bool) (y : ℕ) (more : List ℕ) → IsTrue (is_inside close escaped (y ∷ more)) → is_printed y ≡ true
first_printed close true y more is = (and_parts (is_printed y) (is_inside close false more) is).0
first_printed close false y more is = (unescaped close y more is).0

-- no reading goes on at a byte that neither closes nor is printed
no_reading : (close : ℕ) (escaped : Bool) (b : ℕ) (after more rest : List ℕ) → (b ≡ close → escaped ≡ false → ⊥) → is_printed b ≡ false →
    IsTrue (is_inside close escaped more) → b ∷ after ≡ more ++ close ∷ rest → ⊥
no_reading close escaped b after [] rest stays dark is e =
    let same : b ≡ close = cc in
    stays same (not-true escaped is)
no_reading close escaped b after (y ∷ more) rest stays dark is e =
    let same : y ≡ b = cc in
    false≢true (sym dark ∙ subst (λ (x : ℕ). is_printed x ≡ true) same (first_printed close escaped y more is))

-- the first byte of an unescaped inside does not close it
first_open : (close : ℕ) (y : ℕ) (more : List ℕ) → IsTrue (is_inside close false (y ∷ more)) → y ≡ close → ⊥
first_open close y more is same =
    false≢true (sym (not_from_true (y == close) (eq-eqb y close same)) ∙ (unescaped close y more is).1)

-- an inside ends at one place
pub same_inside : (close : ℕ) (escaped : Bool) (a b after rest : List ℕ) → IsTrue (is_inside close escaped a) → IsTrue (is_inside close escaped b) →
    a ++ close ∷ after ≡ b ++ close ∷ rest → (a ≡ b) × (after ≡ rest)
same_inside close escaped [] [] after rest p q e = (refl, cc)
same_inside close false [] (y ∷ b) after rest p q e =
    let same : y ≡ close = cc in absurd (first_open close y b q same)
same_inside close true [] (y ∷ b) after rest p q e = absurd (false≢true p)
same_inside close false (x ∷ a) [] after rest p q e =
    let same : x ≡ close = cc in absurd (first_open close x a p same)
same_inside close true (x ∷ a) [] after rest p q e = absurd (false≢true q)
same_inside close true (x ∷ a) (y ∷ b) after rest p q e =
    let heads : x ≡ y = cc in
    let both = same_inside close false a b after rest (and_parts (is_printed x) (is_inside close false a) p).1 (and_parts (is_printed y) (is_inside close false b) q).1 cc in
    (cc, both.1)
same_inside close false (x ∷ a) (y ∷ b) after rest p q e =
    let heads : x ≡ y = cc in
    let more : IsTrue (is_inside close (y == 92) b) = (unescaped close y b q).2 in
    let both = same_inside close (x == 92) a b after rest (unescaped close x a p).2 (subst (λ (z : ℕ). is_inside close (z == 92) b ≡ true) (sym heads) more) cc in
    (cc, both.1)

-- How far the inside of quotes or brackets was read: what stands in front makes the rest an inside as it would be alone,
-- and each inside of the whole goes on in the rest.
pub record IsInsideSoFar (close : ℕ) (escaped : Bool) (bytes : List ℕ) (i : ℕ) : Type 0 where
  pub forth : (tail : List ℕ) → is_inside close false (take i bytes ++ tail) ≡ is_inside close escaped tail
  pub back : (inside rest : List ℕ) → IsTrue (is_inside close false inside) → bytes ≡ inside ++ close ∷ rest →
      (more : List ℕ) × IsTrue (is_inside close escaped more) × (drop i bytes ≡ more ++ close ∷ rest)

pub inside_step : (close : ℕ) (escaped : Bool) (bytes : List ℕ) (i : ℕ) (b : ℕ) (next : Bool) → IsInsideSoFar close escaped bytes i → i < length bytes → b ≡ get_or bytes i 0 →
    (b ≡ close → escaped ≡ false → ⊥) → is_printed b ≡ true → next ≡ ((b == 92) && not escaped) → IsInsideSoFar close next bytes (i + 1)
inside_step close escaped bytes i b next so_far below is stays printed next_is = record {
  forth = λ tail.
      ap (λ (l : List ℕ). is_inside close false (l ++ tail)) (take_more bytes i 0 below ∙ ap (λ (x : ℕ). take i bytes ++ x ∷ []) (sym is))
      ∙ ap (is_inside close false) (append_assoc (take i bytes) (b ∷ []) tail)
      ∙ so_far.forth (b ∷ tail)
      ∙ inside_more close escaped b tail stays printed
      ∙ ap (λ (e : Bool). is_inside close e tail) (sym next_is);
  back = λ inside rest inner split.
      let before = so_far.back inside rest inner split in
      let cut : b ∷ drop (i + 1) bytes ≡ before.0 ++ close ∷ rest =
      ap (λ (x : ℕ). x ∷ drop (i + 1) bytes) is ∙ sym (drop_more bytes i 0 below) ∙ before.2 in
      let after = reading_more close escaped b (drop (i + 1) bytes) before.0 rest stays printed before.1 cut in
      (after.0, subst (λ (e : Bool). is_inside close e after.0 ≡ true) (sym next_is) after.1, after.2);
}

-- where the reading ends: at the closing byte, at one that is not printed, at the end of the bytes
pub inside_found : (close : ℕ) (escaped : Bool) (bytes : List ℕ) (i : ℕ) → IsInsideSoFar close escaped bytes i → escaped ≡ false → i < length bytes → get_or bytes i 0 ≡ close → (inside rest : List ℕ) → IsTrue (is_inside close false inside) → bytes ≡ inside ++ close ∷ rest →
    (take i bytes ≡ inside) × (drop (i + 1) bytes ≡ rest)
inside_found close escaped bytes i so_far off below here inside rest inner split =
    let cut : take i bytes ++ close ∷ drop (i + 1) bytes ≡ bytes =
    ap (λ (l : List ℕ). take i bytes ++ l) (ap (λ (x : ℕ). x ∷ drop (i + 1) bytes) (sym here) ∙ sym (drop_more bytes i 0 below)) ∙ take-append-drop i bytes in
    same_inside close false (take i bytes) inside (drop (i + 1) bytes) rest (ap (is_inside close false) (sym (append-nil (take i bytes))) ∙ so_far.forth [] ∙ ap not off) inner (cut ∙ split)

pub inside_dark : (close : ℕ) (escaped : Bool) (bytes : List ℕ) (i : ℕ) → IsInsideSoFar close escaped bytes i → i < length bytes →
    (get_or bytes i 0 ≡ close → escaped ≡ false → ⊥) → is_printed (get_or bytes i 0) ≡ false → (inside rest : List ℕ) → IsTrue (is_inside close false inside) → bytes ≡ inside ++ close ∷ rest → ⊥
inside_dark close escaped bytes i so_far below stays dark inside rest inner split =
    let before = so_far.back inside rest inner split in
    no_reading close escaped (get_or bytes i 0) (drop (i + 1) bytes) before.0 rest stays dark before.1 (sym (drop_more bytes i 0 below) ∙ before.2)

nothing_left : (close : ℕ) (more rest : List ℕ) → [] ≡ more ++ close ∷ rest → ⊥
nothing_left close [] rest e = absurd cc
nothing_left close (x ∷ more) rest e = absurd cc

pub inside_unclosed : (close : ℕ) (escaped : Bool) (bytes : List ℕ) (i : ℕ) → IsInsideSoFar close escaped bytes i → length bytes ≤ i → (inside rest : List ℕ) → IsTrue (is_inside close false inside) → bytes ≡ inside ++ close ∷ rest → ⊥
inside_unclosed close escaped bytes i so_far beyond inside rest inner split =
    let before = so_far.back inside rest inner split in
    nothing_left close before.0 rest (sym (drop_all i bytes beyond) ∙ before.2)

-- a run of bytes that pass, as long as it goes
pub run_is : (test : ℕ → Bool) (front rest : List ℕ) → list_all test front ≡ true → begins_with test rest ≡ false → prefix_len test (front ++ rest) ≡ length front
run_is test [] [] p q = refl
run_is test [] (b ∷ rest) p q = cond-false (test b) (1 + prefix_len test rest) 0 q
run_is test (x ∷ front) rest p q =
    let both = and_parts (test x) (list_all test front) p in
    cond-true (test x) (1 + prefix_len test (front ++ rest)) 0 both.0 ∙ ap (λ (n : ℕ). 1 + n) (run_is test front rest both.1 q) ∙ omega arith

pub run_passes : (test : ℕ → Bool) (bytes : List ℕ) → list_all test (take (prefix_len test bytes) bytes) ≡ true
run_passes test bytes = list_all-from_AllPass test (take (prefix_len test bytes) bytes) (λ k d short.
    let below : k < prefix_len test bytes = omega (arith, length-take (prefix_len test bytes) bytes) in
    ap test (get_or-take (prefix_len test bytes) bytes k d below) ∙ prefix_len_passes test bytes k d below)

pub run_stops : (test : ℕ → Bool) (bytes : List ℕ) → begins_with test (drop (prefix_len test bytes) bytes) ≡ false
run_stops test bytes = elim (cases_lt (prefix_len test bytes) (length bytes)) [
  | inl below ↦ ap (begins_with test) (drop_more bytes (prefix_len test bytes) 0 below) ∙ prefix_len_stops test bytes 0 below
  | inr beyond ↦ ap (begins_with test) (drop_all (prefix_len test bytes) bytes beyond)
]

pub at_byte : (test : ℕ → Bool) (b x : ℕ) (t : Bool) → (b == x) ≡ true → test x ≡ t → test b ≡ t
at_byte test b x t is told = ap test (eqb-true b x is) ∙ told

-- a byte that ends a token is a blank, a `;` or `#`
pub ends_cases : (test : ℕ → Bool) (b : ℕ) (rest : List ℕ) (t : Bool) → IsTrue (ends_token (b ∷ rest)) → test 32 ≡ t → test 9 ≡ t → test 59 ≡ t → test 35 ≡ t → test b ≡ t
ends_cases test b rest t is space tab semicolon hash = elim (or_cases (is_blank b || b == 59) (b == 35) is) [
  | inl early ↦ elim (or_cases (is_blank b) (b == 59) early) [
    | inl blank ↦ elim (or_cases (b == 32) (b == 9) blank) [ inl e ↦ at_byte test b 32 t e space | inr e ↦ at_byte test b 9 t e tab ]
    | inr e ↦ at_byte test b 59 t e semicolon
  ]
  | inr e ↦ at_byte test b 35 t e hash
]

-- what ends a token is no word byte
pub ends_word : (rest : List ℕ) → IsTrue (ends_token rest) → begins_with is_word_byte rest ≡ false
ends_word [] is = refl
ends_word (b ∷ rest) is = ends_cases is_word_byte b rest false is refl refl refl refl

pub word_length_is : (word rest : List ℕ) → IsTrue (is_word word) → IsTrue (ends_token rest) → (prefix_len is_word_byte (word ++ rest) ≡ length word) × (0 < length word)
word_length_is [] rest is ends = absurd (false≢true is)
word_length_is (b ∷ bytes) rest is ends = (run_is is_word_byte (b ∷ bytes) rest is (ends_word rest ends), omega arith)

word_from_all : (l : List ℕ) → 0 < length l → list_all is_word_byte l ≡ true → IsTrue (is_word l)
word_from_all [] some is = absurd (omega arith)
word_from_all (b ∷ l) some is = is

-- a run that is not empty is a word
pub is_word_run : (bytes : List ℕ) → 0 < prefix_len is_word_byte bytes → IsTrue (is_word (take (prefix_len is_word_byte bytes) bytes))
is_word_run bytes some =
    word_from_all (take (prefix_len is_word_byte bytes) bytes) (omega (arith, length-prefix_len is_word_byte bytes)) (run_passes is_word_byte bytes)

-- where a front ends
pub cut_at : (bytes front rest : List ℕ) (n : ℕ) → n ≡ length front → bytes ≡ front ++ rest → (take n bytes ≡ front) × (drop n bytes ≡ rest)
cut_at bytes front rest n long split =
    (ap (take n) split ∙ take_at front rest n (sym long), ap (drop n) split ∙ drop_at front rest n (sym long))

-- what holds of a value that is given under a condition
pub then_some_found : {T : Type 0} (P : T → Type 0) (r : Option T) (b : Bool) (x : T) → r ≡ then_some b x → (b ≡ true → P x) → IfSome r P
then_some_found P r true x e h = subst (λ o. IfSome o P) (sym e) (h refl)
then_some_found P r false x e h = subst (λ o. IfSome o P) (sym e) tt

pub then_some_only : {T : Type 0} (P : T → Type 0) (r : Option T) (b : Bool) (x : T) → r ≡ then_some b x → b ≡ true → P x → IsSomeAnd r P
then_some_only P r true x e is h = subst (λ o. IsSomeAnd o P) (sym e) h
then_some_only P r false x e is h = absurd (false≢true is)
