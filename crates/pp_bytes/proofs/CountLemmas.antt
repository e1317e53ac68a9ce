-- How many bytes a table of 256 bits has, word by word.
use Rattle.std.proofs.Common.{◌≡◌, ◌*◌, ℕ, suc, zero, ◌+◌, ◌/◌, ◌%◌, ◌^◌, ◌<◌, Bool, List, [], ◌∷◌, ◌++◌, cond, length, get_or, refl, sym, ap, ◌∙◌, arith, nat_eq, pow-suc, count_ones, ext_get_or}
use Rattle.std.proofs.lemmas.List.{nil_from_length}
use Rattle.std.proofs.lemmas.List.Sums.{length-filter, sum_by-cons, sum_by-append}
use Rattle.std.proofs.lemmas.Nat.{ones-le, zero_from_ones, ones_le_self}
use Rattle.std.proofs.lemmas.Nat.Bits.{bit_at_lowest, bit_at-suc}
use Rattle.std.specs.Int.{bit_at}
use Rattle.std.specs.List.{range_with_len, count_by}
use Rattle.std.specs.FinSet.{contains}
use Rattle.pp_bytes.specs.Bytes.{all_bytes, bytes_of, set_of_table}
use Rattle.pp_bytes.proofs.TableLemmas.{contains-set_of_table}
use lib.Count.{ones_step}

-- the lowest bit d of n counts 1 where it is set, and else 0
lowest : (n d : ℕ) → n % 2 ≡ d → cond (nat_eq d 1) 1 0 ≡ n % 2
lowest n zero e = sym e
lowest n (suc zero) e = sym e
lowest n (suc (suc d)) e = absurd (omega arith)

-- Of the m numbers from a on, p holds of a + i where bit i of n is set. So it holds of as many as n has set bits.
counted : (p : ℕ → Bool) (m a n : ℕ) → n < 2 ^ m → ((i : ℕ) → i < m → p (a + i) ≡ nat_eq (bit_at n i) 1) → count_by p (range_with_len a m) ≡ count_ones n
counted p zero a n fits h = omega (arith, ones-le 0 n fits)
counted p (suc m) a n fits h =
    let here : a ≡ a + 0 = omega arith in
    let first : cond (p a) 1 0 ≡ n % 2 =
    ap (λ (x : ℕ). cond (p x) 1 0) here
    ∙ ap (λ (t : Bool). cond t 1 0) (h 0 (omega arith))
    ∙ ap (λ (x : ℕ). cond (nat_eq x 1) 1 0) (bit_at_lowest n)
    ∙ lowest n (n % 2) refl in
    let rest : count_by p (range_with_len (a + 1) m) ≡ count_ones (n / 2) =
    counted p m (a + 1) (n / 2) (omega (arith, pow-suc 2 m)) (λ i l.
    let next : a + 1 + i ≡ a + suc i = omega arith in
    ap p next ∙ h (suc i) (omega arith) ∙ ap (λ (x : ℕ). nat_eq x 1) (bit_at-suc n i)) in
    sum_by-cons (λ y. cond (p y) 1 0) a (range_with_len (a + 1) m) ∙ omega (arith, ones_step n)

-- m + k numbers from a on are m of them, and then k from a + m on
range_split : (a m k : ℕ) → range_with_len a (m + k) ≡ range_with_len a m ++ range_with_len (a + m) k
range_split a zero k =
    let all : 0 + k ≡ k = omega arith in
    let here : a ≡ a + 0 = omega arith in
    ap (range_with_len a) all ∙ ap (λ (x : ℕ). range_with_len x k) here
range_split a (suc m) k =
    let one_more : suc m + k ≡ suc (m + k) = omega arith in
    let behind : a + 1 + m ≡ a + suc m = omega arith in
    ap (range_with_len a) one_more
    ∙ ap (λ l. a ∷ l) (range_split (a + 1) m k)
    ∙ ap (λ (x : ℕ). a ∷ (range_with_len (a + 1) m ++ range_with_len x k)) behind

-- so those that pass are counted in two parts, of which the second begins at b
split_at : (p : ℕ → Bool) (a m k b : ℕ) → a + m ≡ b → count_by p (range_with_len a (m + k)) ≡ count_by p (range_with_len a m) + count_by p (range_with_len b k)
split_at p a m k b e =
    ap (count_by p) (range_split a m k ∙ ap (λ (x : ℕ). range_with_len a m ++ range_with_len x k) e)
    ∙ sum_by-append (λ y. cond (p y) 1 0) (range_with_len a m) (range_with_len b k)

-- and in four parts of m numbers each
four : (p : ℕ → Bool) (m n : ℕ) → n ≡ m + m + (m + m) →
    count_by p (range_with_len 0 n) ≡ count_by p (range_with_len 0 m) + count_by p (range_with_len m m) + (count_by p (range_with_len (m + m) m) + count_by p (range_with_len (m + m + m) m))
four p m n e =
    let halves : count_by p (range_with_len 0 n) ≡ count_by p (range_with_len 0 (m + m)) + count_by p (range_with_len (m + m) (m + m)) =
    ap (λ (x : ℕ). count_by p (range_with_len 0 x)) e ∙ split_at p 0 (m + m) (m + m) (m + m) (omega arith) in
    omega (arith, split_at p 0 m m m (omega arith), split_at p (m + m) m m (m + m + m) refl)

-- of the 64 bytes from a on, whose bits one word has, as many are in the set as the word has set bits
word_count : (words : List ℕ) (k a : ℕ) → k < 4 → a ≡ 64 * k → get_or words k 0 < 2 ^ 64 → count_by (contains (set_of_table words)) (range_with_len a 64) ≡ count_ones (get_or words k 0)
word_count words k a within e fits =
    counted (contains (set_of_table words)) 64 a (get_or words k 0) fits (λ i l.
    let place : (a + i) / 64 ≡ k = omega arith in
    let bit : (a + i) % 64 ≡ i = omega arith in
    contains-set_of_table words (a + i) (omega arith)
    ∙ ap (λ (x : ℕ). nat_eq (bit_at (get_or words x 0) ((a + i) % 64)) 1) place
    ∙ ap (λ (x : ℕ). nat_eq (bit_at (get_or words k 0) x) 1) bit)

-- the set bits of a table of four words
abbrev pub bits_of : List ℕ → ℕ
bits_of words = count_ones (get_or words 0 0) + count_ones (get_or words 1 0) + (count_ones (get_or words 2 0) + count_ones (get_or words 3 0))

-- a table has as many bytes as its words have set bits
pub bytes_by_words : (words : List ℕ) → ((k : ℕ) → get_or words k 0 < 2 ^ 64) →
    length (bytes_of (set_of_table words)) ≡ bits_of words
unfolding all_bytes
bytes_by_words words fits =
    length-filter (contains (set_of_table words)) all_bytes
    ∙ four (contains (set_of_table words)) 64 256 refl
    ∙ omega (arith, word_count words 0 0 (omega arith) refl (fits 0), word_count words 1 64 (omega arith) refl (fits 1), word_count words 2 128 (omega arith) refl (fits 2), word_count words 3 192 (omega arith) refl (fits 3))

-- four words that are 0 are those of the table of zeros, place by place
zero_at : (words : List ℕ) → get_or words 0 0 ≡ 0 → get_or words 1 0 ≡ 0 → get_or words 2 0 ≡ 0 → get_or words 3 0 ≡ 0 → (k : ℕ) → k < 4 → get_or words k 0 ≡ get_or (0 ∷ 0 ∷ 0 ∷ 0 ∷ []) k 0
zero_at words a b c d zero within = a
zero_at words a b c d (suc zero) within = b
zero_at words a b c d (suc (suc zero)) within = c
zero_at words a b c d (suc (suc (suc zero))) within = d
zero_at words a b c d (suc (suc (suc (suc k)))) within = absurd (omega arith)

-- a table of zeros has no bytes
pub no_bytes : (words : List ℕ) → ((k : ℕ) → get_or words k 0 < 2 ^ 64) → words ≡ 0 ∷ 0 ∷ 0 ∷ 0 ∷ [] → bytes_of (set_of_table words) ≡ []
no_bytes words fits e =
    nil_from_length (bytes_of (set_of_table words))
    (bytes_by_words words fits ∙ ap bits_of e ∙ omega (arith, ones_le_self 0))

-- a table of four words without bytes is one of zeros
pub zeros_from_no_bytes : (words : List ℕ) → length words ≡ 4 → ((k : ℕ) → get_or words k 0 < 2 ^ 64) → bytes_of (set_of_table words) ≡ [] → words ≡ 0 ∷ 0 ∷ 0 ∷ 0 ∷ []
zeros_from_no_bytes words long fits e =
    let none : bits_of words ≡ 0 = sym (bytes_by_words words fits) ∙ ap length e in
    ext_get_or 0 words (0 ∷ 0 ∷ 0 ∷ 0 ∷ []) long (λ k within.
    zero_at words (zero_from_ones _ (omega arith)) (zero_from_ones _ (omega arith)) (zero_from_ones _ (omega arith)) (zero_from_ones _ (omega arith)) k (omega arith))
