-- What the rows of a match node give.
use Rattle.std.proofs.Common.{subst, ◌≡◌, ◌<◌, ◌≤◌, ◌+◌, ◌^◌, ℕ, zero, suc, List, [], ◌∷◌, ◌++◌, Option, Some, None, Bool, true, false, cond, refl, sym, ◌∙◌, ap, arith, length, take, map, get_or, append_assoc}
use Rattle.std.specs.Prelude.{option_map, slice_get, bytes_eq, Vec}
use Rattle.std.specs.declared.alloc.Global.{Global}
use Rattle.std.specs.List.{Contains}
use Rattle.std.proofs.lemmas.List.{length-map, map-append, take_all}
use Rattle.std.proofs.lemmas.Option.{slice_get_within}
use Rattle.pp_bytes.specs.declared.fold.Fold.{Fold}
use Rattle.pp_graph.specs.declared.node.Key.{Key}
use Rattle.pp_graph.specs.declared.node.Peek.{Peek}
use Rattle.pp_graph.specs.declared.node.Other.{Other}
use Rattle.pp_graph.specs.Plan.{key_bytes}
use Rattle.pp_program.specs.declared.program.Edge.{Edge}
use Rattle.pp_program.specs.declared.program.Instr.{Instr}
use Rattle.pp_program.specs.declared.program.Instr.TheVariants.{Branch}
use Rattle.pp_program.specs.declared.program.State.{State}
use Rattle.pp_program.specs.Merge.{merged}
use Rattle.pp_lower.specs.declared.links.Link.{Link}
use Rattle.pp_lower.specs.declared.states.Rows.{Rows}
use Rattle.pp_lower.specs.Tree.{comes_before, each_below, place_of}
use Rattle.pp_lower.specs.Lowered.{inner_of, key_of, edge_by, edge_at, peek_of, rest_by, branch_of}
use Rattle.pp_lower.specs.steps.Order.{Has}
use Rattle.pp_lower.specs.steps.Links.{link_by, links_in}
use Rattle.pp_lower.specs.steps.Parts.{key_by, peek_by, edge_from, PeeksBelow}
use Rattle.pp_lower.specs.steps.Rows.{AreRows}
use Rattle.pp_lower.proofs.TreeLaws.{PlaceIs, place_is, get_has}
use Rattle.pp_lower.proofs.Keys.{contains_has}
use Rattle.pp_lower.proofs.OrderLaws.{before_self, filled_by, at_is}
use Rattle.pp_lower.proofs.EdgeCode.{each_same}
use Rattle.pp_lower.proofs.CutLemmas.{there, take_next}

-- a place that was found lies in the list
place_within : (p : List ℕ) (l : List (List ℕ)) (o : Option ℕ) (i : ℕ) → o ≡ place_of p l → o ≡ Some i → i < length l
place_within p l o i e f = go (place_of p l) (place_is p l) (sym e ∙ f)
  where
    go : (r : Option ℕ) → PlaceIs p l r → r ≡ Some i → i < length l
    go None n s = absurd cc
    go (Some k) n s = slice_get_within l i p (let same : k ≡ i = cc in subst (λ (x : ℕ). slice_get l x ≡ Some p) same n)

-- the key at the place of some bytes is the key of these bytes
key_placed : (keys : List Key) (p : List ℕ) → key_by keys (place_of p (key_bytes keys)) ≡ key_of keys p
key_placed [] p = refl
key_placed (k ∷ keys) p = go (bytes_eq p k.bytes) (later (place_of p (key_bytes keys)) (key_placed keys p))
  where
    later : (o : Option ℕ) → key_by keys o ≡ key_of keys p → key_by (k ∷ keys) (option_map suc o) ≡ key_of keys p
    later None h = h
    later (Some i) h = h

    go : (v : Bool) → key_by (k ∷ keys) (option_map suc (place_of p (key_bytes keys))) ≡ key_of keys p →
        key_by (k ∷ keys) (cond v (Some 0) (option_map suc (place_of p (key_bytes keys)))) ≡ cond v (Some k) (key_of keys p)
    go true h = refl
    go false h = h

-- the first row alone has peeks
peeks_row : (peeks own : List Peek) (list : List (List ℕ)) (i : ℕ) (p : List ℕ) (b : ℕ) → ((q : List ℕ) → Has list q → q ≡ [] → ⊥) → slice_get ([] ∷ list) i ≡ Some p →
    (i ≡ 0 → own ≡ peeks) → (0 < i → own ≡ []) → peek_by own b ≡ peek_of peeks p b
peeks_row peeks own list zero p b filled e first later =
    let same : [] ≡ p = cc in
    ap (λ (l : List Peek). peek_by l b) (first refl) ∙ ap (λ (q : List ℕ). peek_of peeks q b) same
peeks_row peeks own list (suc i) [] b filled e first later = absurd (filled [] (get_has list i [] e) refl)
peeks_row peeks own list (suc i) (x ∷ p) b filled e first later = ap (λ (l : List Peek). peek_by l b) (later (omega arith))

-- the edge on a byte of a row's state
edge_row : (f : ℕ → ℕ) (root : ℕ) (keys : List Key) (peeks own : List Peek) (inner longer : List Link) (p : List ℕ) (b : ℕ) → link_by inner b ≡ place_of (p ++ b ∷ []) (inner_of keys) →
    link_by longer b ≡ place_of (p ++ b ∷ []) (key_bytes keys) → peek_by own b ≡ peek_of peeks p b → edge_from f root keys own inner longer b ≡ edge_at f root keys peeks p b
edge_row f root keys peeks own inner longer p b h k q =
    ap (λ (x : Option ℕ). edge_by f root b x (key_by keys (link_by longer b)) (peek_by own b)) h
    ∙ ap (λ (x : Option Key). edge_by f root b (place_of (p ++ b ∷ []) (inner_of keys)) x (peek_by own b)) (ap (key_by keys) k ∙ key_placed keys (p ++ b ∷ []))
    ∙ ap (edge_by f root b (place_of (p ++ b ∷ []) (inner_of keys)) (key_of keys (p ++ b ∷ []))) q

-- the branch of a row's state
pub branch_row : (f : ℕ → ℕ) (root : ℕ) (fold : Fold) (keys : List Key) (peeks own : List Peek) (other : Other) (rows : Rows) (inner longer : List Link) (end : Option ℕ) (i : ℕ) (p : List ℕ) → AreRows keys rows →
    slice_get ([] ∷ inner_of keys) i ≡ Some p → slice_get (links_in rows.inner.items) i ≡ Some inner → slice_get (links_in rows.keys.items) i ≡ Some longer → slice_get rows.ends.items i ≡ Some end →
    (i ≡ 0 → own ≡ peeks) → (0 < i → own ≡ []) →
    Branch fold [] (merged (each_below (edge_from f root keys own inner longer) 256)) (rest_by f other (key_by keys end)) ≡ branch_of f root fold keys peeks other p
branch_row f root fold keys peeks own other rows inner longer end i p are e g h k first later =
    ap (λ (l : List Edge). Branch fold [] (merged l) (rest_by f other (key_by keys end)))
    (each_same (edge_from f root keys own inner longer) (edge_at f root keys peeks p)
    (λ b. edge_row f root keys peeks own inner longer p b (are.inner.each i p inner b e g) (are.longer.each i p longer b e h) (peeks_row peeks own (inner_of keys) i p b filled e first later))
    256)
    ∙ ap (λ (x : Option Key). Branch fold [] (merged (each_below (edge_at f root keys peeks p) 256)) (rest_by f other x)) (ap (key_by keys) (are.ends.each i p end e k) ∙ key_placed keys p)
  where
    filled : (q : List ℕ) → Has (inner_of keys) q → q ≡ [] → ⊥
    filled q n s = before_self [] (subst (λ (x : List ℕ). comes_before [] x ≡ true) s (filled_by 1 (key_bytes keys) q n))

links_at : (rows : List (Vec Link Global)) (i : ℕ) (v : Vec Link Global) → i < length rows → v ≡ get_or rows i v → slice_get (links_in rows) i ≡ Some v.items
links_at [] i v h e = absurd (omega arith)
links_at (r ∷ rows) zero v h e = ap (λ (x : Vec Link Global). Some x.items) (sym e)
links_at (r ∷ rows) (suc i) v h e = links_at rows i v (omega arith) e

-- the row that was read
pub row_got : (rows : List (Vec Link Global)) (i n : ℕ) (v : Vec Link Global) (l : List Link) → length (links_in rows) ≡ suc n → i ≤ n → v ≡ get_or rows i v → l ≡ v.items → slice_get (links_in rows) i ≡ Some l
row_got rows i n v l long h e f =
    let same : length (links_in rows) ≡ length rows = length-map rows (λ (x : Vec Link Global). x.items) in
    links_at rows i v (omega (arith, long, same)) e ∙ ap (λ (x : List Link). Some x) (sym f)

-- the end that was read
pub end_got : (ends : List (Option ℕ)) (i n : ℕ) (x : Option ℕ) → length ends ≡ suc n → i ≤ n → x ≡ get_or ends i x → slice_get ends i ≡ Some x
end_got ends i n x long h e = at_is ends i x (omega (arith, long)) e

-- the text of a row
abbrev text_at : List Key → ℕ → List ℕ
text_at keys i = get_or ([] ∷ inner_of keys) i []

text_there : (keys : List Key) (i : ℕ) → i ≤ length (inner_of keys) → slice_get ([] ∷ inner_of keys) i ≡ Some (text_at keys i)
text_there keys i h = there ([] ∷ inner_of keys) i [] (omega arith)

-- links of a row lead to states that there are
pub inner_fits : (keys : List Key) (rows : Rows) (i root : ℕ) (l : List Link) → AreRows keys rows → i ≤ length (inner_of keys) → root + length (inner_of keys) < 2 ^ 32 → slice_get (links_in rows.inner.items) i ≡ Some l →
    (b k : ℕ) → link_by l b ≡ Some k → root + suc k < 2 ^ 32
inner_fits keys rows i root l are h fits g b k e =
    let within : k < length (inner_of keys) =
    place_within (text_at keys i ++ b ∷ []) (inner_of keys) (link_by l b) k (are.inner.each i (text_at keys i) l b (text_there keys i h) g) e in
    omega (arith, within, fits)

-- and to keys that there are
pub longer_fits : (keys : List Key) (rows : Rows) (i : ℕ) (l : List Link) → AreRows keys rows → i ≤ length (inner_of keys) → slice_get (links_in rows.keys.items) i ≡ Some l →
    (b k : ℕ) → link_by l b ≡ Some k → k < length keys
longer_fits keys rows i l are h g b k e =
    let within : k < length (key_bytes keys) =
    place_within (text_at keys i ++ b ∷ []) (key_bytes keys) (link_by l b) k (are.longer.each i (text_at keys i) l b (text_there keys i h) g) e in
    let same : length (key_bytes keys) ≡ length keys = length-map keys (λ (x : Key). x.bytes) in
    omega (arith, within, same)

pub end_fits : (keys : List Key) (rows : Rows) (i : ℕ) (x : Option ℕ) → AreRows keys rows → i ≤ length (inner_of keys) → slice_get rows.ends.items i ≡ Some x → (k : ℕ) → x ≡ Some k → k < length keys
end_fits keys rows i x are h g k e =
    let within : k < length (key_bytes keys) = place_within (text_at keys i) (key_bytes keys) x k (are.ends.each i (text_at keys i) x (text_there keys i h) g) e in
    let same : length (key_bytes keys) ≡ length keys = length-map keys (λ (y : Key). y.bytes) in
    omega (arith, within, same)

-- the peeks of a row lead to nodes
pub own_below : (n : ℕ) (peeks own : List Peek) (i : ℕ) → PeeksBelow n peeks → (i ≡ 0 → own ≡ peeks) → (0 < i → own ≡ []) → PeeksBelow n own
own_below n peeks own zero below first later = subst (PeeksBelow n) (sym (first refl)) below
own_below n peeks own (suc i) below first later = λ p c. absurd (contains_has [] p (subst (λ (l : List Peek). Contains l p) (later (omega arith)) c))

-- the states of these prefixes
abbrev pub prefix_states : (List ℕ → Instr) → ℕ → List (List ℕ) → List State
prefix_states instr origin l = map (λ (i : Instr). record { origin = origin; instr = i }) (map instr l)

-- one prefix more
states_more : (instr : List ℕ → Instr) (origin : ℕ) (l : List (List ℕ)) (i j : ℕ) (p : List ℕ) (x : Instr) (base old new : List State) → j ≡ suc i → slice_get l i ≡ Some p → x ≡ instr p →
    old ≡ base ++ prefix_states instr origin (take i l) → new ≡ old ++ record { origin = origin; instr = x } ∷ [] → new ≡ base ++ prefix_states instr origin (take j l)
states_more instr origin l i j p x base old new u e g o w =
    let as_state : Instr → State = λ y. record { origin = origin; instr = y } in
    let one : prefix_states instr origin (take i l ++ p ∷ []) ≡ prefix_states instr origin (take i l) ++ as_state (instr p) ∷ [] =
    ap (map as_state) (map-append instr (take i l) (p ∷ [])) ∙ map-append as_state (map instr (take i l)) (instr p ∷ []) in
    w
    ∙ ap (λ (y : List State). y ++ as_state x ∷ []) o
    ∙ ap (λ (y : Instr). (base ++ prefix_states instr origin (take i l)) ++ as_state y ∷ []) g
    ∙ append_assoc base (prefix_states instr origin (take i l)) (as_state (instr p) ∷ [])
    ∙ ap (λ (y : List State). base ++ y) (sym one)
    ∙ ap (λ (y : List (List ℕ)). base ++ prefix_states instr origin y) (take_next l i j p e u)

-- all of them
pub states_all : (instr : List ℕ → Instr) (origin : ℕ) (l : List (List ℕ)) (i : ℕ) (base now : List State) → length l ≤ i → now ≡ base ++ prefix_states instr origin (take i l) → now ≡ base ++ prefix_states instr origin l
states_all instr origin l i base now u h = h ∙ ap (λ (x : List (List ℕ)). base ++ prefix_states instr origin x) (take_all i l u)

-- the state of one row more
pub state_more : (instr : List ℕ → Instr) (origin : ℕ) (keys : List Key) (i j : ℕ) (x : Instr) (base old new : List State) → j ≡ suc i → i ≤ length (inner_of keys) → ((p : List ℕ) → slice_get ([] ∷ inner_of keys) i ≡ Some p → x ≡ instr p) →
    old ≡ base ++ prefix_states instr origin (take i ([] ∷ inner_of keys)) → new ≡ old ++ record { origin = origin; instr = x } ∷ [] → new ≡ base ++ prefix_states instr origin (take j ([] ∷ inner_of keys))
state_more instr origin keys i j x base old new u h is o w =
    states_more instr origin ([] ∷ inner_of keys) i j (text_at keys i) x base old new u (text_there keys i h) (is (text_at keys i) (text_there keys i h)) o w
