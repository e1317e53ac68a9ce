-- The calls that kept ones stand for, kept call by kept call.
use Rattle.std.proofs.Common.{◌≡◌, ℕ, zero, suc, ◌+◌, ◌<◌, ◌≤◌, List, [], ◌∷◌, ◌++◌, Option, Some, length, map, take, drop, get_or, refl, ap, ap₂, sym, ◌∙◌, subst, arith}
use Rattle.std.specs.Prelude.{sum_by}
use Rattle.std.specs.Prelude.{None as none}
use Rattle.std.specs.FinSet as set
use Rattle.std.specs.Ordering.{nat_cmp}
use Rattle.std.proofs.lemmas.List.{length-append, length-map, append_assoc, append-nil, take_more}
use Rattle.std.proofs.lemmas.List.Sums.{sum_by-cons}
use Rattle.pp_bytes.specs.Bytes.{bytes_of}
use Rattle.pp_rules.specs.declared.call.BuilderCall.{BuilderCall}
use Rattle.pp_rules.specs.declared.kept.ByteUse.{ByteUse}
use Rattle.pp_rules.specs.declared.kept.ByteUse.TheVariants as byte_use
use Rattle.pp_rules.specs.Sets.{byte_call, call_with, spread, all_calls, IsSetOf, AreSets, size_of}

-- the edge of another byte
pub call_with-byte : (how : ByteUse) (target : List ℕ) (a b : ℕ) → call_with (byte_call how target a) b ≡ byte_call how target b
call_with-byte (byte_use.Key number) target a b = refl
call_with-byte byte_use.Peek target a b = refl

map-same : (how : ByteUse) (target : List ℕ) (a : ℕ) (bytes : List ℕ) → map (call_with (byte_call how target a)) bytes ≡ map (byte_call how target) bytes
map-same how target a [] = refl
map-same how target a (b ∷ bytes) = ap₂ (λ c cs. c ∷ cs) (call_with-byte how target a b) (map-same how target a bytes)

-- the edges of a set
pub spread-set : (c : BuilderCall) (bytes : set.FinSet nat_cmp) (how : ByteUse) (target : List ℕ) (a : ℕ) → c ≡ byte_call how target a → spread c (Some bytes) ≡ map (byte_call how target) (bytes_of bytes)
spread-set c bytes how target a e = ap (λ d. map (call_with d) (bytes_of bytes)) e ∙ map-same how target a (bytes_of bytes)

-- how many they are
pub length-spread : (c : BuilderCall) (s : Option (set.FinSet nat_cmp)) → length (spread c s) ≡ size_of s
length-spread c none = refl
length-spread c (Some bytes) = length-map (bytes_of bytes) (call_with c)

-- each kept call has its set
pub length-sets : (calls : List BuilderCall) (sets : List (Option (set.FinSet nat_cmp))) → AreSets calls sets → length sets ≡ length calls
length-sets [] [] h = refl
length-sets [] (s ∷ sets) h = absurd h
length-sets (c ∷ calls) [] h = absurd h
length-sets (c ∷ calls) (s ∷ sets) h = ap suc (length-sets calls sets h.1)

pub set-at : (calls : List BuilderCall) (sets : List (Option (set.FinSet nat_cmp))) (i : ℕ) (c : BuilderCall) (s : Option (set.FinSet nat_cmp)) → AreSets calls sets → i < length calls → c ≡ get_or calls i c → s ≡ get_or sets i s → IsSetOf c s
set-at [] sets i c s h l e f = absurd (omega arith)
set-at (c ∷ calls) [] i d s h l e f = absurd h
set-at (c ∷ calls) (t ∷ sets) zero d s h l e f = subst (λ x. IsSetOf x s) (sym e) (subst (IsSetOf c) (sym f) h.0)
set-at (c ∷ calls) (t ∷ sets) (suc i) d s h l e f = set-at calls sets i d s h.1 (omega arith) e f

-- the first of them, and the others
pub sets-take : (calls : List BuilderCall) (sets : List (Option (set.FinSet nat_cmp))) (i : ℕ) → AreSets calls sets → AreSets (take i calls) (take i sets)
sets-take calls sets zero h = tt
sets-take [] [] (suc i) h = tt
sets-take [] (s ∷ sets) (suc i) h = absurd h
sets-take (c ∷ calls) [] (suc i) h = absurd h
sets-take (c ∷ calls) (s ∷ sets) (suc i) h = (h.0, sets-take calls sets i h.1)

pub sets-drop : (calls : List BuilderCall) (sets : List (Option (set.FinSet nat_cmp))) (i : ℕ) → AreSets calls sets → AreSets (drop i calls) (drop i sets)
sets-drop calls sets zero h = h
sets-drop [] [] (suc i) h = tt
sets-drop [] (s ∷ sets) (suc i) h = absurd h
sets-drop (c ∷ calls) [] (suc i) h = absurd h
sets-drop (c ∷ calls) (s ∷ sets) (suc i) h = sets-drop calls sets i h.1

-- one more at the end
pub sets-push : (calls : List BuilderCall) (sets : List (Option (set.FinSet nat_cmp))) (c : BuilderCall) (s : Option (set.FinSet nat_cmp)) → AreSets calls sets → IsSetOf c s → AreSets (calls ++ c ∷ []) (sets ++ s ∷ [])
sets-push [] [] c s h k = (k, tt)
sets-push [] (t ∷ sets) c s h k = absurd h
sets-push (d ∷ calls) [] c s h k = absurd h
sets-push (d ∷ calls) (t ∷ sets) c s h k = (h.0, sets-push calls sets c s h.1 k)

pub all-push : (calls : List BuilderCall) (sets : List (Option (set.FinSet nat_cmp))) (c : BuilderCall) (s : Option (set.FinSet nat_cmp)) → AreSets calls sets → all_calls (calls ++ c ∷ []) (sets ++ s ∷ []) ≡ all_calls calls sets ++ spread c s
all-push [] [] c s h = append-nil (spread c s)
all-push [] (t ∷ sets) c s h = absurd h
all-push (d ∷ calls) [] c s h = absurd h
all-push (d ∷ calls) (t ∷ sets) c s h = ap (λ xs. spread d t ++ xs) (all-push calls sets c s h.1) ∙ sym (append_assoc (spread d t) (all_calls calls sets) (spread c s))

-- the calls of the first kept ones, and one kept one more
pub all-more : (calls : List BuilderCall) (sets : List (Option (set.FinSet nat_cmp))) (i : ℕ) (c : BuilderCall) (s : Option (set.FinSet nat_cmp)) → AreSets calls sets → i < length calls → c ≡ get_or calls i c → s ≡ get_or sets i s → all_calls (take (i + 1) calls) (take (i + 1) sets) ≡ all_calls (take i calls) (take i sets) ++ spread c s
all-more calls sets i c s h l e f =
    let size : length sets ≡ length calls = length-sets calls sets h in
    ap₂ all_calls (take_more calls i c l ∙ ap (λ x. take i calls ++ x ∷ []) (sym e)) (take_more sets i s (omega arith) ∙ ap (λ x. take i sets ++ x ∷ []) (sym f))
    ∙ all-push (take i calls) (take i sets) c s (sets-take calls sets i h)

-- the calls of the first kept ones, and those of the others
pub all-split : (calls : List BuilderCall) (sets : List (Option (set.FinSet nat_cmp))) (i : ℕ) → AreSets calls sets → all_calls calls sets ≡ all_calls (take i calls) (take i sets) ++ all_calls (drop i calls) (drop i sets)
all-split calls sets zero h = refl
all-split [] [] (suc i) h = refl
all-split [] (s ∷ sets) (suc i) h = absurd h
all-split (c ∷ calls) [] (suc i) h = absurd h
all-split (c ∷ calls) (s ∷ sets) (suc i) h = ap (λ xs. spread c s ++ xs) (all-split calls sets i h.1) ∙ sym (append_assoc (spread c s) (all_calls (take i calls) (take i sets)) (all_calls (drop i calls) (drop i sets)))

-- of the others, those of the first kept one come first
pub all-drop : (calls : List BuilderCall) (sets : List (Option (set.FinSet nat_cmp))) (i : ℕ) (c : BuilderCall) (s : Option (set.FinSet nat_cmp)) → AreSets calls sets → i < length calls → c ≡ get_or calls i c → s ≡ get_or sets i s → all_calls (drop i calls) (drop i sets) ≡ spread c s ++ all_calls (drop (i + 1) calls) (drop (i + 1) sets)
all-drop [] sets i c s h l e f = absurd (omega arith)
all-drop (d ∷ calls) [] i c s h l e f = absurd h
all-drop (d ∷ calls) (t ∷ sets) zero c s h l e f = ap₂ (λ x y. spread x y ++ all_calls calls sets) (sym e) (sym f)
all-drop (d ∷ calls) (t ∷ sets) (suc i) c s h l e f =
    let next : suc i + 1 ≡ suc (i + 1) = omega arith in
    subst (λ n. all_calls (drop i calls) (drop i sets) ≡ spread c s ++ all_calls (drop n (d ∷ calls)) (drop n (t ∷ sets))) (sym next) (all-drop calls sets i c s h.1 (omega arith) e f)

-- how many calls there are
pub length-all : (calls : List BuilderCall) (sets : List (Option (set.FinSet nat_cmp))) → AreSets calls sets → length (all_calls calls sets) ≡ sum_by size_of sets
length-all [] [] h = refl
length-all [] (s ∷ sets) h = absurd h
length-all (c ∷ calls) [] h = absurd h
length-all (c ∷ calls) (s ∷ sets) h = length-append (spread c s) (all_calls calls sets) ∙ ap₂ ◌+◌ (length-spread c s) (length-all calls sets h.1) ∙ sym (sum_by-cons size_of s sets)

-- how many calls the first kept ones stand for
pub number-is : (calls : List BuilderCall) (sets : List (Option (set.FinSet nat_cmp))) (i : ℕ) → AreSets calls sets → length (all_calls (take i calls) (take i sets)) ≡ sum_by size_of (take i sets)
number-is calls sets i h = length-all (take i calls) (take i sets) (sets-take calls sets i h)

pub number-le : (calls : List BuilderCall) (sets : List (Option (set.FinSet nat_cmp))) (i : ℕ) → AreSets calls sets → length (all_calls (take i calls) (take i sets)) ≤ length (all_calls calls sets)
number-le calls sets i h = omega (arith, ap length (all-split calls sets i h), length-append (all_calls (take i calls) (take i sets)) (all_calls (drop i calls) (drop i sets)))

-- without sets the kept calls are all
pub all-none : (calls : List BuilderCall) (sets : List (Option (set.FinSet nat_cmp))) → AreSets calls sets → ((i : ℕ) → i < length calls → get_or sets i none ≡ none) → all_calls calls sets ≡ calls
all-none [] [] h n = refl
all-none [] (s ∷ sets) h n = absurd h
all-none (c ∷ calls) [] h n = absurd h
all-none (c ∷ calls) (s ∷ sets) h n = ap₂ (λ x xs. spread c x ++ xs) (n 0 (omega arith)) (all-none calls sets h.1 (λ i l. n (suc i) (omega arith)))
