-- Reading items one behind another, as a loop does.
use Rattle.std.proofs.Common.{◌≡◌, ℕ, zero, suc, ◌-◌, ◌+◌, ◌≤◌, ◌<◌, List, [], ◌∷◌, ◌++◌, Option, Some, None, Result, Ok, Err, refl, sym, ap, ◌∙◌, append_assoc, arith}
use Rattle.std.proofs.lemmas.List.{append-nil}
use Rattle.pp_file.specs.declared.fault.FileFault.{FileFault}
use Rattle.pp_file.specs.declared.fault.FileFault.TheVariants.{Magic, Version, Short, Form, Verify, NoMemory}
use Rattle.pp_file.specs.Fields.{Left, Next, ◌>>=◌, items_at, any_at}
use Rattle.pp_file.specs.steps.Readers.{Fails}

-- what was read before, and what is still read
abbrev pub with_front : {X : Type 0} → List X → Next (List X) → Next (List X)
with_front front next = next >>= λ x. Ok (front ++ x.0, x.1)

regroup : {X : Type 0} (front : List X) (x : X) (next : Next (List X)) → with_front front (next >>= λ xs. Ok (x ∷ xs.0, xs.1)) ≡ with_front (front ++ x ∷ []) next
regroup {X} front x (Ok xs) = ap (λ (ys : List X). Ok (ys, xs.1)) (simp append_assoc)
regroup front x (Err place) = refl

-- one more item was read
pub goes_on : {X : Type 0} (item_at : Option X → Left → Next X) (front : List X) (count i : ℕ) (before : Option X) (left : Left) (x : X) (after : Left) (total : Next (List X))
    → i < count → item_at before left ≡ Ok (x, after)
    → with_front front (items_at item_at (count - i) before left) ≡ total
    → with_front (front ++ x ∷ []) (items_at item_at (count - (i + 1)) (Some x) after) ≡ total
unfolding items_at
goes_on item_at front count i before left x after total lt h so_far =
    let k : count - i ≡ suc (count - (i + 1)) = omega arith in
    let one : with_front front (items_at item_at (count - i) before left) ≡ with_front (front ++ x ∷ []) (items_at item_at (count - (i + 1)) (Some x) after) =
    rw (k, h) (regroup front x (items_at item_at (count - (i + 1)) (Some x) after)) in
    sym one ∙ so_far

-- an item is wrong
pub stops : {X : Type 0} (item_at : Option X → Left → Next X) (e : FileFault) (front : List X) (count i : ℕ) (before : Option X) (left : Left) (total : Next (List X))
    → i < count → Fails e (item_at before left)
    → with_front front (items_at item_at (count - i) before left) ≡ total → Fails e total
unfolding items_at
stops item_at Magic front count i before left total lt h so_far = absurd h
stops item_at (Version found) front count i before left total lt h so_far = absurd h
stops item_at Short front count i before left total lt h so_far = absurd h
stops item_at (Verify rule at) front count i before left total lt h so_far = absurd h
stops item_at NoMemory front count i before left total lt h so_far = tt
stops item_at (Form offset) front count i before left total lt h so_far =
    let k : count - i ≡ suc (count - (i + 1)) = omega arith in
    let one : with_front front (items_at item_at (count - i) before left) ≡ Err offset = rw (k, h) refl in
    sym so_far ∙ one

-- all items were read
pub is_done : {X : Type 0} (item_at : Option X → Left → Next X) (front : List X) (count i : ℕ) (before : Option X) (left : Left) (total : Next (List X))
    → count ≤ i → with_front front (items_at item_at (count - i) before left) ≡ total → total ≡ Ok (front, left)
unfolding items_at
is_done {X} item_at front count i before left total le so_far =
    let k : count - i ≡ 0 = omega arith in
    let one : with_front front (items_at item_at (count - i) before left) ≡ Ok (front, left) = rw k (ap (λ (xs : List X). Ok (xs, left)) (append-nil front)) in
    sym so_far ∙ one

-- where items may stand in any order, the one before them says nothing
free : {X : Type 0} (item_at : Left → Next X) (count : ℕ) (before : Option X) (left : Left) → items_at (λ _. item_at) count before left ≡ any_at item_at count left
unfolding items_at
free item_at zero before left = refl
free item_at (suc count) before left = refl

pub goes_on_freely : {X : Type 0} (item_at : Left → Next X) (front : List X) (count i : ℕ) (left : Left) (x : X) (after : Left) (total : Next (List X))
    → i < count → item_at left ≡ Ok (x, after)
    → with_front front (any_at item_at (count - i) left) ≡ total
    → with_front (front ++ x ∷ []) (any_at item_at (count - (i + 1)) after) ≡ total
goes_on_freely {X} item_at front count i left x after total lt h so_far =
    ap (λ (next : Next (List X)). with_front (front ++ x ∷ []) next) (sym (free item_at (count - (i + 1)) (Some x) after))
    ∙ goes_on (λ _. item_at) front count i None left x after total lt h so_far
