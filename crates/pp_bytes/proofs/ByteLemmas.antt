-- The bytes of a set, from the least on.
use Rattle.std.proofs.Common.{◌≡◌, ℕ, ◌+◌, ◌≤◌, ◌<◌, true, false, Bool, take, drop, [], ◌∷◌, ◌++◌, cond, length, ap, sym, ◌∙◌, arith}
use Rattle.std.proofs.lemmas.List.{append-nil, take_all, take-append-drop, length-append, length_push}
use Rattle.std.proofs.lemmas.List.Elements.{filter_more, filter-append}
use Rattle.std.proofs.lemmas.List.Sums.{length-filter, count_by-le-length}
use Rattle.std.specs.List.{filter}
use Rattle.std.specs.Ordering.{nat_cmp}
use Rattle.std.specs.FinSet.{FinSet, contains}
use Rattle.pp_bytes.specs.Bytes.{all_bytes, bytes_of, bytes_below}
use Rattle.pp_bytes.proofs.TableLemmas.{length-all_bytes, get_or-all_bytes}

more : (bytes : FinSet nat_cmp) (b : ℕ) → b < 256 → bytes_below bytes (b + 1) ≡ bytes_below bytes b ++ cond (contains bytes b) (b ∷ []) []
more bytes b h =
    filter_more (contains bytes) all_bytes b 0 (omega (arith, length-all_bytes))
    ∙ ap (λ x. bytes_below bytes b ++ cond (contains bytes x) (x ∷ []) []) (get_or-all_bytes b h)

-- the bytes below the next number, where this one is in the set
pub bytes_below_yes : (bytes : FinSet nat_cmp) (b : ℕ) → b < 256 → contains bytes b ≡ true → bytes_below bytes (b + 1) ≡ bytes_below bytes b ++ b ∷ []
bytes_below_yes bytes b h held = more bytes b h ∙ ap (λ (t : Bool). bytes_below bytes b ++ cond t (b ∷ []) []) held

-- and where it is not
pub bytes_below_no : (bytes : FinSet nat_cmp) (b : ℕ) → b < 256 → contains bytes b ≡ false → bytes_below bytes (b + 1) ≡ bytes_below bytes b
bytes_below_no bytes b h out = more bytes b h ∙ ap (λ (t : Bool). bytes_below bytes b ++ cond t (b ∷ []) []) out ∙ append-nil (bytes_below bytes b)

-- behind the greatest byte they are all
pub bytes_below_all : (bytes : FinSet nat_cmp) (n : ℕ) → 256 ≤ n → bytes_below bytes n ≡ bytes_of bytes
bytes_below_all bytes n h = ap (filter (contains bytes)) (take_all n all_bytes (omega (arith, length-all_bytes)))

-- all bytes are those below a number, and then the others
pub bytes_split : (bytes : FinSet nat_cmp) (n : ℕ) → bytes_of bytes ≡ bytes_below bytes n ++ filter (contains bytes) (drop n all_bytes)
bytes_split bytes n = ap (filter (contains bytes)) (sym (take-append-drop n all_bytes)) ∙ filter-append (contains bytes) (take n all_bytes) (drop n all_bytes)

-- a set has at most 256 bytes
pub few_bytes : (bytes : FinSet nat_cmp) → length (bytes_of bytes) ≤ 256
few_bytes bytes = omega (arith, length-filter (contains bytes) all_bytes, count_by-le-length (contains bytes) all_bytes, length-all_bytes)

pub few_bytes_below : (bytes : FinSet nat_cmp) (n : ℕ) → length (bytes_below bytes n) ≤ length (bytes_of bytes)
few_bytes_below bytes n = omega (arith, ap length (bytes_split bytes n), length-append (bytes_below bytes n) (filter (contains bytes) (drop n all_bytes)))

-- the count of the bytes below the next number
pub count_yes : (bytes : FinSet nat_cmp) (b n m : ℕ) → b < 256 → contains bytes b ≡ true → n ≡ length (bytes_below bytes b) → m ≡ n + 1 → m ≡ length (bytes_below bytes (b + 1))
count_yes bytes b n m h held e f = omega (arith, e, f, ap length (bytes_below_yes bytes b h held), length_push (bytes_below bytes b) b)

pub count_no : (bytes : FinSet nat_cmp) (b n m : ℕ) → b < 256 → contains bytes b ≡ false → n ≡ length (bytes_below bytes b) → m ≡ n → m ≡ length (bytes_below bytes (b + 1))
count_no bytes b n m h out e f = omega (arith, e, f, ap length (bytes_below_no bytes b h out))
