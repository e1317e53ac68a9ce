-- Codes, which their spellings tell.
use Rattle.std.proofs.Common.{◌≡◌, ℕ, ◌<◌, ◌^◌, List, ◌∷◌, ◌++◌, ap, ◌∙◌}
use Rattle.std.specs.Int.{w32, w64, to_be_bytes}
use Rattle.pp_graph.specs.declared.node.Code.{Code}
use Rattle.pp_graph.specs.declared.node.Code.TheVariants as code
use Rattle.pp_file.specs.Held.{IsHeldCode}
use Rattle.pp_file.specs.Spelling.{spelled_code}
use Rattle.pp_file.proofs.TellLemmas.{Tells, cons_same, regrouped, word_same, long_same}

-- the kind, and the place
front_same : (k m n : ℕ) (x y : List ℕ) → k ∷ m ∷ x ≡ k ∷ n ∷ y → (m ≡ n) × (x ≡ y)
front_same k m n x y e = cons_same m n x y (cons_same k k (m ∷ x) (n ∷ y) e).1

-- a kind, a place and a constant
value_same : (k m n v w : ℕ) (x y : List ℕ) → v < 2 ^ 64 → w < 2 ^ 64 → k ∷ m ∷ (to_be_bytes w64 v ++ x) ≡ k ∷ n ∷ (to_be_bytes w64 w ++ y) → (m ≡ n) × (v ≡ w) × (x ≡ y)
value_same k m n v w x y v_fits w_fits e =
    let place = front_same k m n (to_be_bytes w64 v ++ x) (to_be_bytes w64 w ++ y) e in
    let value = long_same v w x y v_fits w_fits place.1 in
    (place.0, value.0, value.1)

-- of one kind with two constants
both : (build : ℕ → ℕ → Code) (m n v w : ℕ) → m ≡ n → v ≡ w → build m v ≡ build n w
both build m n v w e f = ap (λ (k : ℕ). build k v) e ∙ ap (λ (k : ℕ). build n k) f

pub code_same : Tells Code spelled_code IsHeldCode
code_same (code.Call m) (code.Call n) x y a_fits b_fits e = (let same = front_same 1 m n x y e in (ap (λ (k : ℕ). code.Call k) same.0, same.1))
code_same (code.Store m) (code.Store n) x y a_fits b_fits e = (let same = front_same 2 m n x y e in (ap (λ (k : ℕ). code.Store k) same.0, same.1))
code_same (code.Load m) (code.Load n) x y a_fits b_fits e = (let same = front_same 3 m n x y e in (ap (λ (k : ℕ). code.Load k) same.0, same.1))
code_same (code.Update m v) (code.Update n w) x y a_fits b_fits e =
    let same = value_same 4 m n v w x y a_fits b_fits e in
    (both (λ k l. code.Update k l) m n v w same.0 same.1, same.2)
code_same (code.Equal m v) (code.Equal n w) x y a_fits b_fits e =
    let same = value_same 5 m n v w x y a_fits b_fits e in
    (both (λ k l. code.Equal k l) m n v w same.0 same.1, same.2)
code_same (code.And m v) (code.And n w) x y a_fits b_fits e =
    let same = value_same 6 m n v w x y a_fits b_fits e in
    (both (λ k l. code.And k l) m n v w same.0 same.1, same.2)
code_same (code.Or m v) (code.Or n w) x y a_fits b_fits e =
    let same = value_same 7 m n v w x y a_fits b_fits e in
    (both (λ k l. code.Or k l) m n v w same.0 same.1, same.2)
code_same (code.Test m v) (code.Test n w) x y a_fits b_fits e =
    let same = value_same 8 m n v w x y a_fits b_fits e in
    (both (λ k l. code.Test k l) m n v w same.0 same.1, same.2)
code_same (code.MulAdd m b v) (code.MulAdd n c w) x y a_fits b_fits e =
    let place = front_same 9 m n ((to_be_bytes w32 b ++ to_be_bytes w64 v) ++ x) ((to_be_bytes w32 c ++ to_be_bytes w64 w) ++ y) e in
    let base = word_same b c (to_be_bytes w64 v ++ x) (to_be_bytes w64 w ++ y) a_fits.0 b_fits.0 (regrouped (to_be_bytes w32 b) (to_be_bytes w64 v) x (to_be_bytes w32 c) (to_be_bytes w64 w) y place.1) in
    let most = long_same v w x y a_fits.1 b_fits.1 base.1 in
    (ap (λ (k : ℕ). code.MulAdd k b v) place.0 ∙ ap (λ (k : ℕ). code.MulAdd n k v) base.0 ∙ ap (λ (k : ℕ). code.MulAdd n c k) most.0, most.1)
code_same a b x y a_fits b_fits e = absurd cc
