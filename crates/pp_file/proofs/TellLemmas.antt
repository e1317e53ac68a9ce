-- Parts that their spelling tells, whatever follows it.
use Rattle.std.proofs.Common.{◌≡◌, ℕ, ◌^◌, ◌<◌, List, [], ◌∷◌, ◌++◌, length, take, All, refl, sym, ap, ◌∙◌, append_assoc, arith}
use Rattle.std.specs.List.{flat_map}
use Rattle.std.specs.Int.{Width, w16, w32, w64, byte_len, from_be_bytes, to_be_bytes}
use Rattle.std.proofs.lemmas.List.{take_at, append_cancel_left}
use Rattle.std.proofs.lemmas.List.Elements.{All-nil, All-cons, All-head, All-tail}
use Rattle.std.proofs.lemmas.Nat.{from_be_bytes-to_be_bytes_2, from_be_bytes-to_be_bytes_4, from_be_bytes-to_be_bytes_8}
use Rattle.pp_file.specs.Spelling.{text}

-- Two of them whose spellings begin two equal lists of bytes are the same, and so is what follows.
abbrev pub Tells : (A : Type 0) → (A → List ℕ) → (A → Type 0) → Type 0
Tells A spell Fits = (a b : A) (x y : List ℕ) → Fits a → Fits b → spell a ++ x ≡ spell b ++ y → (a ≡ b) × (x ≡ y)

-- two lists that begin with lists of one length
pub append_same : (a b x y : List ℕ) → length a ≡ length b → a ++ x ≡ b ++ y → (a ≡ b) × (x ≡ y)
append_same a b x y len e =
    let front : a ≡ b = sym (take_at a x (length a) refl) ∙ ap (take (length a)) e ∙ take_at b y (length a) (sym len) in
    (front, append_cancel_left b x y (ap (λ (f : List ℕ). f ++ x) (sym front) ∙ e))

pub cons_same : (m n : ℕ) (x y : List ℕ) → m ∷ x ≡ n ∷ y → (m ≡ n) × (x ≡ y)
cons_same m n x y e = (cc, cc)

-- a part and what follows it
pub regrouped : (a b x c d y : List ℕ) → (a ++ b) ++ x ≡ (c ++ d) ++ y → a ++ (b ++ x) ≡ c ++ (d ++ y)
regrouped a b x c d y e = sym (append_assoc a b x) ∙ e ∙ append_assoc c d y

-- numbers below a limit that their bytes tell
record IsWide (w : Width) (limit : ℕ) : Type 0 where
  len : (n : ℕ) → length (to_be_bytes w n) ≡ byte_len w
  again : (n : ℕ) → n < limit → from_be_bytes w (to_be_bytes w n) ≡ n

number_same : (w : Width) (limit : ℕ) → IsWide w limit → Tells ℕ (to_be_bytes w) (λ n. n < limit)
number_same w limit wide m n x y m_fits n_fits e =
    let parts = append_same (to_be_bytes w m) (to_be_bytes w n) x y (wide.len m ∙ sym (wide.len n)) e in
    (sym (wide.again m m_fits) ∙ ap (from_be_bytes w) parts.0 ∙ wide.again n n_fits, parts.1)

-- numbers of two, four and eight bytes
pub short_same : Tells ℕ (to_be_bytes w16) (λ n. n < 2 ^ 16)
short_same = number_same w16 (2 ^ 16) (record { len = λ n. refl; again = from_be_bytes-to_be_bytes_2 })

pub word_same : Tells ℕ (to_be_bytes w32) (λ n. n < 2 ^ 32)
word_same = number_same w32 (2 ^ 32) (record { len = λ n. refl; again = from_be_bytes-to_be_bytes_4 })

pub long_same : Tells ℕ (to_be_bytes w64) (λ n. n < 2 ^ 64)
long_same = number_same w64 (2 ^ 64) (record { len = λ n. refl; again = from_be_bytes-to_be_bytes_8 })

-- any text
pub text_same : (s t x y : List ℕ) → text s ++ x ≡ text t ++ y → (s ≡ t) × (x ≡ y)
text_same s t x y e =
    let counts = cons_same (length s) (length t) (s ++ x) (t ++ y) e in
    append_same s t x y counts.0 counts.1

-- two lists of parts, of one length
pub many_same : (A : Type 0) (spell : A → List ℕ) (Fits : A → Type 0) → Tells A spell Fits → (us vs : List A) (x y : List ℕ) → length us ≡ length vs
    → All Fits us → All Fits vs → flat_map spell us ++ x ≡ flat_map spell vs ++ y → (us ≡ vs) × (x ≡ y)
many_same A spell Fits tells [] [] x y len as_fit bs_fit e = (refl, e)
many_same A spell Fits tells [] (b ∷ vs) x y len as_fit bs_fit e = absurd (omega (arith, len))
many_same A spell Fits tells (a ∷ us) [] x y len as_fit bs_fit e = absurd (omega (arith, len))
many_same A spell Fits tells (a ∷ us) (b ∷ vs) x y len as_fit bs_fit e =
    let first = tells a b (flat_map spell us ++ x) (flat_map spell vs ++ y) (All-head Fits a us as_fit) (All-head Fits b vs bs_fit)
    (regrouped (spell a) (flat_map spell us) x (spell b) (flat_map spell vs) y e) in
    let others = many_same A spell Fits tells us vs x y (omega (arith, len)) (All-tail Fits a us as_fit) (All-tail Fits b vs bs_fit) first.1 in
    (ap (λ (c : A). c ∷ us) first.0 ∙ ap (λ (cs : List A). b ∷ cs) others.0, others.1)

-- nothing is asked of each
pub all_free : (A : Type 0) (us : List A) → All (λ (a : A). Unit {0}) us
all_free A [] = All-nil (λ (a : A). Unit {0})
all_free A (a ∷ us) = All-cons (λ (a : A). Unit {0}) a us tt (all_free A us)
