-- The machine of a graph is steady, placed, orderly and quiet: what waits for no byte does the same with more bytes behind,
-- the place grows by the bytes that are taken, and just a pause tells a pause.
use Rattle.std.proofs.Common.{subst, ◌≡◌, ℕ, zero, suc, ◌+◌, ◌≤◌, ◌<◌, List, [], ◌∷◌, ◌++◌, Option, Some, None, Bool, true, false, cond, refl, sym, ◌∙◌, ap, arith, length, zero-le, add-zero, map, ◌&&◌, ◌||◌, eqb, ltb, length-append}
use Rattle.std.specs.Prelude.{slice_get, not, ◌==◌, nat_lt, unwrap_or}
use Rattle.std.proofs.lemmas.List.{map-append, length-map}
use Rattle.std.proofs.lemmas.Bool.{eq-eqb, eqb-true, eqb-false, ltb-true, lt-ltb}
use Rattle.std.proofs.lemmas.Option.{slice_get_within}
use Rattle.pp_bytes.specs.Fold.{folded}
use Rattle.pp_graph.specs.declared.node.Key.{Key}
use Rattle.pp_graph.specs.declared.node.Peek.{Peek}
use Rattle.pp_graph.specs.declared.node.Other.{Other}
use Rattle.pp_graph.specs.declared.node.Kind.{Kind}
use Rattle.pp_graph.specs.declared.node.Kind.TheVariants.{Match, Invoke, Consume, SpanOpen, SpanClose, Pause, Fail}
use Rattle.pp_graph.specs.declared.node.Node.{Node}
use Rattle.pp_graph.specs.Plan.{Plan}
use Rattle.pp_event.specs.Run.{Config, Turn, Rests, Fails}
use Rattle.pp_event.specs.Steady.{Keeps, IsSteady, Placed, IsPlaced}
use Rattle.pp_event.specs.Places.{SpansBehind, OrderlyTurn, IsOrderly}
use Rattle.pp_event.specs.Quiet.{QuietTurn, IsQuietMachine}
use Rattle.pp_event.specs.Codes.{answered, effect_of}
use Rattle.pp_event.proofs.TurnLaws.{effect-keeps, consume-keeps, effect-placed, consume-placed, Placed-if, effect-quiet, consume-quiet}
use Rattle.pp_event.proofs.PlaceLaws.{to-orderly, effect-orderly, consume-orderly, open-orderly, close-orderly, orderly-if}
use Rattle.pp_event.proofs.QuietLaws.{quiet-if}
use Rattle.pp_mean.specs.Nodes.{common, reach, fits, longer, best, goes_on, peek_at, is_empty, other_turn, peek_turn, key_turn, waits, match_turn, kind_turn, node_turn, graph_turn, rests_at}

-- a common prefix is no longer than either list
common-le : (k s : List ℕ) → common k s ≤ length s
common-le [] s = zero-le
common-le (x ∷ k) [] = zero-le
common-le (x ∷ k) (b ∷ s) = step (eqb x b) (common-le k s)
  where
    step : (v : Bool) → common k s ≤ length s → cond v (suc (common k s)) 0 ≤ suc (length s)
    step true i = omega arith
    step false i = zero-le

-- nor than the key
common-le_key : (k s : List ℕ) → common k s ≤ length k
common-le_key [] s = zero-le
common-le_key (x ∷ k) [] = zero-le
common-le_key (x ∷ k) (b ∷ s) = step (eqb x b) (common-le_key k s)
  where
    step : (v : Bool) → common k s ≤ length k → cond v (suc (common k s)) 0 ≤ suc (length k)
    step true i = omega arith
    step false i = zero-le

-- not all of s is a proper prefix of the key
abbrev Stops_short : List ℕ → List ℕ → Type 0
Stops_short k s = common k s ≡ length s → length s < length k → ⊥

-- one byte more in common
common_more_by : (v : Bool) (m n : ℕ) → (v ≡ true → m ≡ n) → cond v (suc m) 0 ≡ cond v (suc n) 0
common_more_by true m n h = ap suc (h refl)
common_more_by false m n h = refl

-- what stops short behind a common byte stops short from there on
common_tail : (v : Bool) (m n l : ℕ) → v ≡ true → (cond v (suc m) 0 ≡ suc n → suc n < suc l → ⊥) → m ≡ n → n < l → ⊥
common_tail true m n l t h e p = h (ap suc e) (omega arith)
common_tail false m n l t h e p = cc

-- then what it has in common with s stays
common-more : (k s more : List ℕ) → Stops_short k s → common k (s ++ more) ≡ common k s
common-more [] s more h = refl
common-more (x ∷ k) [] more h = absurd (h refl (omega arith))
common-more (x ∷ k) (b ∷ s) more h =
    common_more_by (eqb x b) (common k (s ++ more)) (common k s)
    (λ t. common-more k s more (common_tail (eqb x b) (common k s) (length s) (length k) t h))

-- so for each key
abbrev StopShort : List Key → List ℕ → Type 0
StopShort [] s = Unit {0}
StopShort (k ∷ keys) s = Stops_short k.bytes s × StopShort keys s

-- of two that are not, neither is
or_false : (a b : Bool) → a || b ≡ false → (a ≡ false) × (b ≡ false)
or_false true b h = cc
or_false false b h = (refl, h)

-- a key that does not go on stops short
stops_short : (a b m : ℕ) → (a == b) && nat_lt b m ≡ false → a ≡ b → b < m → ⊥
stops_short a b m h e l = let t : (a == b) && nat_lt b m ≡ true = rw (eq-eqb a b e, lt-ltb b m l) refl in cc

-- where no key goes on, each does
stop_short : (keys : List Key) (s : List ℕ) → goes_on keys s ≡ false → StopShort keys s
stop_short [] s h = tt
stop_short (k ∷ keys) s h =
    let both : (((common k.bytes s == length s) && nat_lt (length s) (length k.bytes)) ≡ false) × (goes_on keys s ≡ false) = or_false _ _ h in
    (stops_short (common k.bytes s) (length s) (length k.bytes) both.0, stop_short keys s both.1)

-- and so one does not go on
goes_on_by : (a b m : ℕ) → (a ≡ b → b < m → ⊥) → (a == b) && nat_lt b m ≡ false
goes_on_by a b m h = go (eqb a b) (ltb b m) refl refl
  where
    go : (v w : Bool) → eqb a b ≡ v → ltb b m ≡ w → v && w ≡ false
    go true true e f = absurd (h (eqb-true a b e) (ltb-true b m f))
    go true false e f = refl
    go false w e f = refl

-- and with more bytes behind no key goes on either
goes_on-more : (keys : List Key) (s more : List ℕ) → StopShort keys s → goes_on keys (s ++ more) ≡ false
goes_on-more [] s more h = refl
goes_on-more (k ∷ keys) s more h =
    let here : ((common k.bytes (s ++ more) == length (s ++ more)) && nat_lt (length (s ++ more)) (length k.bytes)) ≡ false =
    goes_on_by (common k.bytes (s ++ more)) (length (s ++ more)) (length k.bytes)
    (λ e l.
    let same : common k.bytes (s ++ more) ≡ common k.bytes s = common-more k.bytes s more h.0 in
    let most : common k.bytes s ≤ length s = common-le k.bytes s in
    let long : length (s ++ more) ≡ length s + length more = length-append s more in
    h.0 (omega arith) (omega arith)) in
    rw (here, goes_on-more keys s more h.1) refl

-- the longest common prefix stays, and the longest key that fits
reach-more : (keys : List Key) (s more : List ℕ) → StopShort keys s → reach keys (s ++ more) ≡ reach keys s
reach-more [] s more h = refl
reach-more (k ∷ keys) s more h = rw (common-more k.bytes s more h.0, reach-more keys s more h.1) refl

best-more : (keys : List Key) (s more : List ℕ) → StopShort keys s → best keys (s ++ more) ≡ best keys s
best-more [] s more h = refl
best-more (k ∷ keys) s more h = rw (common-more k.bytes s more h.0, best-more keys s more h.1) refl

-- a key that is taken has no more bytes than are there
abbrev IsFit : List ℕ → Option Key → Type 0
IsFit s None = Unit {0}
IsFit s (Some k) = length k.bytes ≤ length s

-- of two that do, the longer one does
longer-fit : (s : List ℕ) (k : Key) (o : Option Key) → length k.bytes ≤ length s → IsFit s o → length (longer k o).bytes ≤ length s
longer-fit s k None h i = h
longer-fit s k (Some l) h i = go (nat_lt (length k.bytes) (length l.bytes))
  where
    go : (v : Bool) → length (cond v l k).bytes ≤ length s
    go true = i
    go false = h

best-fit : (keys : List Key) (s : List ℕ) → IsFit s (best keys s)
best-fit [] s = tt
best-fit (k ∷ keys) s = go (fits s k) refl (best-fit keys s)
  where
    go : (v : Bool) → fits s k ≡ v → IsFit s (best keys s) → IsFit s (cond v (Some (longer k (best keys s))) (best keys s))
    go true e i =
        let all : common k.bytes s ≡ length k.bytes = eqb-true _ _ e in
        let most : common k.bytes s ≤ length s = common-le k.bytes s in
        longer-fit s k (best keys s) (omega arith) i
    go false e i = i

-- so has the longest common prefix
reach-le : (keys : List Key) (s : List ℕ) → reach keys s ≤ length s
reach-le [] s = zero-le
reach-le (k ∷ keys) s = (let i : reach keys s ≤ length s = reach-le keys s in let c : common k.bytes s ≤ length s = common-le k.bytes s in omega arith)

-- less, and not the same
below : (a b : ℕ) → a ≤ b → (a ≡ b → ⊥) → a < b
below a b h ne = grind arith

-- where no key fits, the first does not, and none behind it
none_here : (k : Key) (s : List ℕ) (o : Option Key) → cond (fits s k) (Some (longer k o)) o ≡ None → (common k.bytes s ≡ length k.bytes → ⊥) × (o ≡ None)
none_here k s o h = go (fits s k) refl h
  where
    go : (v : Bool) → fits s k ≡ v → cond v (Some (longer k o)) o ≡ None → (common k.bytes s ≡ length k.bytes → ⊥) × (o ≡ None)
    go true e h = cc
    go false e h = (eqb-false _ _ e, h)

-- where no key fits and none goes on, a byte is left behind the reach
reach-lt : (keys : List Key) (s : List ℕ) → 0 < length s → StopShort keys s → best keys s ≡ None → reach keys s < length s
reach-lt [] s n h e = n
reach-lt (k ∷ keys) s n h e =
    let none : (common k.bytes s ≡ length k.bytes → ⊥) × (best keys s ≡ None) = none_here k s (best keys s) e in
    let rest : reach keys s < length s = reach-lt keys s n h.1 none.1 in
    let most : common k.bytes s ≤ length s = common-le k.bytes s in
    let key : common k.bytes s ≤ length k.bytes = common-le_key k.bytes s in
    let here : common k.bytes s < length s = below _ _ most (λ t. h.0 t (subst (λ (m : ℕ). m < length k.bytes) t (below _ _ key none.0))) in
    omega arith

-- where it doesn't wait
abbrev Quiet : List Key → List Peek → Other → List ℕ → Type 0
Quiet keys peeks other s = waits keys peeks other s ≡ false

-- the same of three
or3_false : (a b c : Bool) → a || b || c ≡ false → (a ≡ false) × (b ≡ false) × (c ≡ false)
or3_false true b c h = cc
or3_false false true c h = cc
or3_false false false c h = (refl, refl, h)

-- what is not without elements has none
not_false : {A : Type 0} (xs : List A) → not (is_empty xs) ≡ false → xs ≡ []
not_false [] h = refl
not_false (x ∷ xs) h = cc

and_false : (v : Bool) → v && false ≡ false
and_false true = refl
and_false false = refl

-- a test of an empty list says the same of a longer one, where it failed
empty-more : (s t : List ℕ) (x : Bool) → is_empty s && x ≡ false → is_empty (s ++ t) && x ≡ false
empty-more [] t x h = rw h (and_false (is_empty t))
empty-more (b ∷ s) t x h = refl

-- without a peek there is none at a byte
peek_none : (t : List ℕ) → peek_at [] t ≡ None
peek_none [] = refl
peek_none (b ∷ t) = refl

-- the byte that a node looks at stays the first
peek-more : (peeks : List Peek) (s t : List ℕ) (a c : Bool) → is_empty s && (a || not (is_empty peeks) || c) ≡ false → peek_at peeks (s ++ t) ≡ peek_at peeks s
peek-more peeks [] t a c h =
    let none : peeks ≡ [] = not_false peeks (or3_false a (not (is_empty peeks)) c h).1 in
    subst (λ (p : List Peek). peek_at p t ≡ peek_at p []) (sym none) (peek_none t)
peek-more peeks (b ∷ s) t a c h = refl

-- a byte that is skipped is there
skip-lt : (keys : List Key) (s : List ℕ) (a b skip : Bool) → is_empty s && (a || b || skip) ≡ false → StopShort keys s → best keys s ≡ None → skip ≡ true → reach keys s < length s
skip-lt keys [] a b skip h q e t = let f : skip ≡ false = (or3_false a b skip h).2 in cc
skip-lt keys (x ∷ s) a b skip h q e t = reach-lt keys (x ∷ s) (omega arith) q e

-- what an otherwise takes is there
taken-le : (skip : Bool) (m n : ℕ) → m ≤ n → (skip ≡ true → m < n) → cond skip (m + 1) m ≤ n
taken-le true m n h k = let l : m < n = k refl in omega arith
taken-le false m n h k = h

-- a peek, an otherwise and a key take bytes that are there
peek-keeps : (c : Config) (other : Other) (m n : ℕ) (p : Option Peek) → m ≤ n → (other.skip ≡ true → m < n) → Keeps n (peek_turn c other m p) (peek_turn c other m p)
peek-keeps c other zero n (Some p) h k = (zero-le, refl)
peek-keeps c other zero n None h k = (taken-le other.skip 0 n h k, refl)
peek-keeps c other (suc m) n p h k = (taken-le other.skip (suc m) n h k, refl)

key-keeps : (c : Config) (keys : List Key) (peeks : List Peek) (other : Other) (s : List ℕ) (o : Option Key) → best keys s ≡ o → IsFit s o →
    (best keys s ≡ None → other.skip ≡ true → reach keys s < length s) → Keeps (length s) (key_turn c keys peeks other s o) (key_turn c keys peeks other s o)
key-keeps c keys peeks other s (Some k) e i l = (i, refl)
key-keeps c keys peeks other s None e i l = peek-keeps c other (reach keys s) (length s) (peek_at peeks s) (reach-le keys s) (l e)

-- and with more bytes behind they are the same
key_turn-more : (c : Config) (keys : List Key) (peeks : List Peek) (other : Other) (s t : List ℕ) (o : Option Key) → reach keys (s ++ t) ≡ reach keys s → peek_at peeks (s ++ t) ≡ peek_at peeks s →
    key_turn c keys peeks other (s ++ t) o ≡ key_turn c keys peeks other s o
key_turn-more c keys peeks other s t (Some k) r p = refl
key_turn-more c keys peeks other s t None r p = rw (r, p) refl

-- a match node that waits, or does not
abbrev match_by : Config → List ℕ → List Key → List Peek → Other → List ℕ → Bool → Turn
match_by c rest keys peeks other s v = cond v (Rests (rests_at c rest)) (key_turn c keys peeks other s (best keys s))

-- where it does not wait, its turn is kept
match_keeps_by : (c : Config) (rest more : List ℕ) (keys : List Key) (peeks : List Peek) (other : Other) (s t : List ℕ) → length s ≡ length rest → (v : Bool) → waits keys peeks other s ≡ v →
    Keeps (length rest) (match_by c rest keys peeks other s v) (match_turn c (rest ++ more) keys peeks other (s ++ t))
match_keeps_by c rest more keys peeks other s t n true e = tt
match_keeps_by c rest more keys peeks other s t n false e =
    let both : (goes_on keys s ≡ false) × ((is_empty s && (not (is_empty keys) || not (is_empty peeks) || other.skip)) ≡ false) = or_false _ _ e in
    let quiet : StopShort keys s = stop_short keys s both.0 in
    let later : waits keys peeks other (s ++ t) ≡ false = rw (goes_on-more keys s t quiet) (empty-more s t _ both.1) in
    let same : key_turn c keys peeks other (s ++ t) (best keys (s ++ t)) ≡ key_turn c keys peeks other s (best keys s) =
    ap (key_turn c keys peeks other (s ++ t)) (best-more keys s t quiet)
    ∙ key_turn-more c keys peeks other s t (best keys s) (reach-more keys s t quiet) (peek-more peeks s t (not (is_empty keys)) other.skip both.1) in
    let whole : match_turn c (rest ++ more) keys peeks other (s ++ t) ≡ key_turn c keys peeks other s (best keys s) =
    ap (match_by c (rest ++ more) keys peeks other (s ++ t)) later ∙ same in
    let keeps : Keeps (length s) (key_turn c keys peeks other s (best keys s)) (key_turn c keys peeks other s (best keys s)) =
    key-keeps c keys peeks other s (best keys s) refl (best-fit keys s) (skip-lt keys s (not (is_empty keys)) (not (is_empty peeks)) other.skip both.1 quiet) in
    subst (λ (m : ℕ). Keeps m (key_turn c keys peeks other s (best keys s)) (match_turn c (rest ++ more) keys peeks other (s ++ t))) n
    (subst (λ (u : Turn). Keeps (length s) (key_turn c keys peeks other s (best keys s)) u) (sym whole) keeps)

-- each kind of node is steady
kind-keeps : (kind : Kind) (c : Config) (rest more : List ℕ) → Keeps (length rest) (kind_turn kind c rest) (kind_turn kind c (rest ++ more))
kind-keeps (Match fold keys peeks other) c rest more =
    subst (λ (l : List ℕ). Keeps (length rest) (match_turn c rest keys peeks other (map (folded fold) rest)) (match_turn c (rest ++ more) keys peeks other l))
    (sym (map-append (folded fold) rest more))
    (match_keeps_by c rest more keys peeks other (map (folded fold) rest) (map (folded fold) more) (length-map rest (folded fold)) _ refl)
kind-keeps (Invoke what answers other) c rest more = effect-keeps c (answered answers other) (effect_of c.values c.carried what) (length rest)
kind-keeps (Consume p next) c rest more = consume-keeps c p next rest more
kind-keeps (SpanOpen s next) c rest more = (zero-le, refl)
kind-keeps (SpanClose s next) c rest more = (zero-le, refl)
kind-keeps (Pause number reason next) c rest more = refl
kind-keeps (Fail number reason) c rest more = refl

node-keeps : (n : Option Node) (c : Config) (rest more : List ℕ) → Keeps (length rest) (node_turn n c rest) (node_turn n c (rest ++ more))
node-keeps None c rest more = refl
node-keeps (Some n) c rest more = kind-keeps n.kind c rest more

-- more bytes change no turn of a graph but one that waits
pub graph-steady : (g : Plan) → IsSteady (graph_turn g)
graph-steady g c rest more = node-keeps (slice_get g.nodes c.node) c rest more

-- the edges of a match node grow the place by the bytes that they take
peek-placed : (c : Config) (other : Other) (m n : ℕ) (p : Option Peek) → Placed c n (peek_turn c other m p)
peek-placed c other zero n (Some p) = refl
peek-placed c other zero n None = refl
peek-placed c other (suc m) n p = refl

key-placed : (c : Config) (keys : List Key) (peeks : List Peek) (other : Other) (s : List ℕ) (n : ℕ) (o : Option Key) → Placed c n (key_turn c keys peeks other s o)
key-placed c keys peeks other s n (Some k) = refl
key-placed c keys peeks other s n None = peek-placed c other (reach keys s) n (peek_at peeks s)

-- each kind of node does
kind-placed : (kind : Kind) (c : Config) (rest : List ℕ) → Placed c (length rest) (kind_turn kind c rest)
kind-placed (Match fold keys peeks other) c rest =
    let s : List ℕ = map (folded fold) rest in
    Placed-if c (length rest) (waits keys peeks other s) (Rests (rests_at c rest)) (key_turn c keys peeks other s (best keys s)) refl
    (key-placed c keys peeks other s (length rest) (best keys s))
kind-placed (Invoke what answers other) c rest = effect-placed c (answered answers other) (effect_of c.values c.carried what) (length rest)
kind-placed (Consume p next) c rest = consume-placed c rest p next
kind-placed (SpanOpen s next) c rest = sym (add-zero c.at)
kind-placed (SpanClose s next) c rest = sym (add-zero c.at)
kind-placed (Pause number reason next) c rest = refl
kind-placed (Fail number reason) c rest = tt

node-placed : (n : Option Node) (c : Config) (rest : List ℕ) → Placed c (length rest) (node_turn n c rest)
node-placed None c rest = tt
node-placed (Some n) c rest = kind-placed n.kind c rest

-- each turn of a graph keeps the place
pub graph-placed : (g : Plan) → IsPlaced (graph_turn g)
graph-placed g c rest = node-placed (slice_get g.nodes c.node) c rest

-- the edges of a match node are orderly
other-orderly : (c : Config) (other : Other) (m : ℕ) → SpansBehind c → OrderlyTurn c (other_turn c other m)
other-orderly c other m h = to-orderly c other.target (cond other.skip (m + 1) m) 0 h

peek-orderly : (c : Config) (other : Other) (m : ℕ) (p : Option Peek) → SpansBehind c → OrderlyTurn c (peek_turn c other m p)
peek-orderly c other zero (Some p) h = to-orderly c p.target 0 0 h
peek-orderly c other zero None h = other-orderly c other 0 h
peek-orderly c other (suc m) p h = other-orderly c other (suc m) h

key-orderly : (c : Config) (keys : List Key) (peeks : List Peek) (other : Other) (s : List ℕ) (o : Option Key) → SpansBehind c → OrderlyTurn c (key_turn c keys peeks other s o)
key-orderly c keys peeks other s (Some k) h = to-orderly c k.target (length k.bytes) (unwrap_or k.number 0) h
key-orderly c keys peeks other s None h = peek-orderly c other (reach keys s) (peek_at peeks s) h

-- what rests stands no earlier
rests-behind : (c : Config) (rest : List ℕ) → SpansBehind c → SpansBehind (rests_at c rest)
rests-behind c rest h span from o = (let p : from ≤ c.at = h span from o in omega arith)

-- each kind of node is
kind-orderly : (kind : Kind) (c : Config) (rest : List ℕ) → SpansBehind c → OrderlyTurn c (kind_turn kind c rest)
kind-orderly (Match fold keys peeks other) c rest h =
    let s : List ℕ = map (folded fold) rest in
    orderly-if c (waits keys peeks other s) (Rests (rests_at c rest)) (key_turn c keys peeks other s (best keys s)) (rests-behind c rest h)
    (key-orderly c keys peeks other s (best keys s) h)
kind-orderly (Invoke what answers other) c rest h = effect-orderly c (answered answers other) (effect_of c.values c.carried what) h
kind-orderly (Consume p next) c rest h = consume-orderly c rest p next h
kind-orderly (SpanOpen s next) c rest h = open-orderly c s next h
kind-orderly (SpanClose s next) c rest h = close-orderly c s next h
kind-orderly (Pause number reason next) c rest h = h
kind-orderly (Fail number reason) c rest h = tt

node-orderly : (n : Option Node) (c : Config) (rest : List ℕ) → SpansBehind c → OrderlyTurn c (node_turn n c rest)
node-orderly None c rest h = tt
node-orderly (Some n) c rest h = kind-orderly n.kind c rest h

-- a graph tells its items in order, and keeps its open spans behind its place
pub graph-orderly : (g : Plan) → IsOrderly (graph_turn g)
graph-orderly g c rest h = node-orderly (slice_get g.nodes c.node) c rest h

-- the edges of a match node tell nothing
peek-quiet : (c : Config) (other : Other) (m : ℕ) (p : Option Peek) → QuietTurn (peek_turn c other m p)
peek-quiet c other zero (Some p) = refl
peek-quiet c other zero None = refl
peek-quiet c other (suc m) p = refl

key-quiet : (c : Config) (keys : List Key) (peeks : List Peek) (other : Other) (s : List ℕ) (o : Option Key) → QuietTurn (key_turn c keys peeks other s o)
key-quiet c keys peeks other s (Some k) = refl
key-quiet c keys peeks other s None = peek-quiet c other (reach keys s) (peek_at peeks s)

-- no kind of node tells a pause by itself
kind-quiet : (kind : Kind) (c : Config) (rest : List ℕ) → QuietTurn (kind_turn kind c rest)
kind-quiet (Match fold keys peeks other) c rest =
    let s : List ℕ = map (folded fold) rest in
    quiet-if (waits keys peeks other s) (Rests (rests_at c rest)) (key_turn c keys peeks other s (best keys s)) tt (key-quiet c keys peeks other s (best keys s))
kind-quiet (Invoke what answers other) c rest = effect-quiet c (answered answers other) (effect_of c.values c.carried what)
kind-quiet (Consume p next) c rest = consume-quiet c rest p next
kind-quiet (SpanOpen s next) c rest = refl
kind-quiet (SpanClose s next) c rest = refl
kind-quiet (Pause number reason next) c rest = tt
kind-quiet (Fail number reason) c rest = tt

node-quiet : (n : Option Node) (c : Config) (rest : List ℕ) → QuietTurn (node_turn n c rest)
node-quiet None c rest = tt
node-quiet (Some n) c rest = kind-quiet n.kind c rest

-- a graph tells no pause but where it pauses
pub graph-quiet : (g : Plan) → IsQuietMachine (graph_turn g)
graph-quiet g c rest = node-quiet (slice_get g.nodes c.node) c rest

-- at a place without a node it fails
pub graph-elsewhere : (g : Plan) (c : Config) (rest : List ℕ) → length g.nodes ≤ c.node → (code : ℕ) × (graph_turn g c rest ≡ Fails code)
graph-elsewhere g c rest h = go (slice_get g.nodes c.node) refl
  where
    go : (o : Option Node) → slice_get g.nodes c.node ≡ o → (code : ℕ) × (graph_turn g c rest ≡ Fails code)
    go None e = (0, ap (λ (x : Option Node). node_turn x c rest) e)
    go (Some n) e = (let inside : c.node < length g.nodes = slice_get_within g.nodes c.node n e in absurd (omega arith))
