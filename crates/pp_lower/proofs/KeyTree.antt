-- The nodes of the tree of keys, and how many there are.
use Rattle.std.proofs.Common.{◌≡◌, ℕ, zero, suc, ◌+◌, ◌-◌, ◌<◌, ◌≤◌, ◌^◌, List, [], ◌∷◌, ◌++◌, Option, Some, None, Bool, true, false, cond, refl, sym, ◌∙◌, ap, arith, length, take, map, get_or, sum_by}
use Rattle.std.specs.Prelude.{slice_get, option_map, bytes_eq, fold, Vec}
use Rattle.std.specs.declared.alloc.Global.{Global}
use Rattle.std.proofs.lemmas.Bool.{false_from_ne_true}
use Rattle.std.proofs.lemmas.List.Sums.{sum_by-cons}
use Rattle.std.proofs.lemmas.Option.{slice_get_within}
use Rattle.pp_graph.specs.Plan.{AreDistinct}
use Rattle.pp_lower.specs.declared.links.Link.{Link}
use Rattle.pp_lower.specs.declared.tree.TreeNode.{TreeNode}
use Rattle.pp_lower.specs.Tree.{comes_before, with_prefix, with_prefixes, with_text, prefixes_by, place_of, listed, each_below, link_of, node_among, tree_of}
use Rattle.pp_lower.specs.steps.Links.{link_by, next_on, links_in, AreLinks, AreEnds}
use Rattle.pp_lower.proofs.LinkLaws.{place_within}
use Rattle.pp_lower.proofs.OrderLaws.{at_is}
use Rattle.pp_lower.proofs.TreeLaws.{same_is}

-- a place within a list has an element
pub within_get : {X : Type 0} (l : List X) (i : ℕ) → i < length l → (x : X) × (slice_get l i ≡ Some x)
within_get [] i h = absurd (omega arith)
within_get (x ∷ l) zero h = (x, refl)
within_get (x ∷ l) (suc i) h = within_get l i (omega arith)

row_there : (rows : List (Vec Link Global)) (i : ℕ) (v : Vec Link Global) → slice_get rows i ≡ Some v → slice_get (links_in rows) i ≡ Some v.items
row_there [] i v e = cc
row_there (x ∷ rows) zero v e = (let same : x ≡ v = cc in ap (λ (z : Vec Link Global). Some z.items) same)
row_there (x ∷ rows) (suc i) v e = row_there rows i v e

-- the links of a row lead to texts of the list
pub row_small : (list : List (List ℕ)) (rows : List (Vec Link Global)) (i : ℕ) (v : Vec Link Global) (row : List Link) → AreLinks list list (links_in rows) → slice_get rows i ≡ Some v → row ≡ v.items →
    length list + 1 < 2 ^ 32 → (b k : ℕ) → link_by row b ≡ Some k → suc k < 2 ^ 32
row_small list rows i v row h at is few b k e =
    let there : slice_get (links_in rows) i ≡ Some v.items = row_there rows i v at in
    let inside : i < length (links_in rows) = slice_get_within (links_in rows) i v.items there in
    let text : (p : List ℕ) × (slice_get ([] ∷ list) i ≡ Some p) = within_get ([] ∷ list) i (omega (arith, inside, h.long)) in
    let place : Some k ≡ place_of (text.0 ++ b ∷ []) list = sym e ∙ ap (λ (z : List Link). link_by z b) is ∙ h.each i text.0 v.items b text.1 there in
    let below : k < length list = place_within (text.0 ++ b ∷ []) list k place in
    omega (arith, below, few)

rows_long : (rows : List (Vec Link Global)) → length (links_in rows) ≡ length rows
rows_long [] = refl
rows_long (v ∷ rows) = ap suc (rows_long rows)

-- the row that was read
pub row_at : (list : List (List ℕ)) (rows : List (Vec Link Global)) (i : ℕ) (v : Vec Link Global) → AreLinks list list (links_in rows) → i < length list + 1 → v ≡ get_or rows i v → slice_get rows i ≡ Some v
row_at list rows i v h n e = (let long : length (links_in rows) ≡ length rows = rows_long rows in at_is rows i v (omega (arith, long, h.long, n)) e)

-- the end that was read
pub end_at : (list texts : List (List ℕ)) (ends : List (Option ℕ)) (i : ℕ) (end : Option ℕ) → AreEnds list texts ends → i < length list + 1 → end ≡ get_or ends i end → slice_get ends i ≡ Some end
end_at list texts ends i end h n e = at_is ends i end (omega (arith, h.long, n)) e

each_same : {A : Type 0} (f g : ℕ → Option A) (n : ℕ) → ((b : ℕ) → f b ≡ g b) → each_below f n ≡ each_below g n
each_same f g zero h = refl
each_same {A} f g (suc n) h =
    ap (λ (z : List A). z ++ listed (f n)) (each_same f g n h) ∙ ap (λ (o : Option A). each_below g n ++ listed o) (h n)

-- a text that isn't empty stands one place further behind the empty one
link_behind : (list : List (List ℕ)) (p : List ℕ) (b : ℕ) → option_map {U = ℕ × ℕ} (λ (i : ℕ). (b, suc i)) (place_of (p ++ b ∷ []) list) ≡ link_of ([] ∷ list) p b
link_behind list p b = go (bytes_eq (p ++ b ∷ []) []) (false_from_ne_true (bytes_eq (p ++ b ∷ []) []) (λ e. filled p (same_is (p ++ b ∷ []) [] e))) (place_of (p ++ b ∷ []) list)
  where
    filled : (p : List ℕ) → p ++ b ∷ [] ≡ [] → ⊥
    filled [] e = cc
    filled (x ∷ p) e = cc

    go : (v : Bool) → v ≡ false → (o : Option ℕ) → option_map {U = ℕ × ℕ} (λ (i : ℕ). (b, suc i)) o ≡ option_map {U = ℕ × ℕ} (λ (i : ℕ). (b, i)) (cond v (Some 0) (option_map suc o))
    go true e o = cc
    go false e None = refl
    go false e (Some i) = refl

node_with : (list texts : List (List ℕ)) (row : List Link) (end : Option ℕ) (p : List ℕ) (n : ℕ) → ((b : ℕ) → link_by row b ≡ place_of (p ++ b ∷ []) list) → end ≡ place_of p texts →
    (λ (z : TreeNode). z) (record { next = each_below (next_on row) n; key = end }) ≡ record { next = each_below (link_of ([] ∷ list) p) n; key = place_of p texts }
node_with list texts row end p n links ends =
    ap (λ (z : List (ℕ × ℕ)). record { next = z; key = end })
    (each_same (next_on row) (link_of ([] ∷ list) p) n (λ b. ap (option_map {U = ℕ × ℕ} (λ (i : ℕ). (b, suc i))) (links b) ∙ link_behind list p b))
    ∙ ap (λ (z : Option ℕ). record { next = each_below (link_of ([] ∷ list) p) n; key = z }) ends

take_snoc : {X : Type 0} (l : List X) (i : ℕ) (x : X) → slice_get l i ≡ Some x → take (suc i) l ≡ take i l ++ x ∷ []
take_snoc [] i x e = cc
take_snoc {X} (y ∷ l) zero x e = (let same : y ≡ x = cc in ap (λ (z : X). z ∷ []) same)
take_snoc {X} (y ∷ l) (suc i) x e = ap (λ (z : List X). y ∷ z) (take_snoc l i x e)

map_snoc : {X Y : Type 0} (f : X → Y) (l : List X) (x : X) → map f (l ++ x ∷ []) ≡ map f l ++ f x ∷ []
map_snoc f [] x = refl
map_snoc {X} {Y} f (y ∷ l) x = ap (λ (z : List Y). f y ∷ z) (map_snoc f l x)

-- one node more
pub nodes_more : (list texts : List (List ℕ)) (rows : List (Vec Link Global)) (ends : List (Option ℕ)) (i j : ℕ) (v : Vec Link Global) (row : List Link) (end : Option ℕ) (old new : List TreeNode) (node : TreeNode) →
    AreLinks list list (links_in rows) → AreEnds list texts ends → slice_get rows i ≡ Some v → row ≡ v.items → slice_get ends i ≡ Some end → j ≡ suc i →
    old ≡ map (node_among ([] ∷ list) texts) (take i ([] ∷ list)) → node ≡ record { next = each_below (next_on row) 256; key = end } → new ≡ old ++ node ∷ [] →
    new ≡ map (node_among ([] ∷ list) texts) (take j ([] ∷ list))
nodes_more list texts rows ends i j v row end old new node links are at is last next before made pushed =
    let there : slice_get (links_in rows) i ≡ Some v.items = row_there rows i v at in
    let inside : i < length (links_in rows) = slice_get_within (links_in rows) i v.items there in
    let text : (p : List ℕ) × (slice_get ([] ∷ list) i ≡ Some p) = within_get ([] ∷ list) i (omega (arith, inside, links.long)) in
    let same : node ≡ node_among ([] ∷ list) texts text.0 =
    made ∙ node_with list texts row end text.0 256 (λ b. ap (λ (z : List Link). link_by z b) is ∙ links.each i text.0 v.items b text.1 there) (are.each i text.0 end text.1 last) in
    pushed
    ∙ ap (λ (z : List TreeNode). z ++ node ∷ []) before
    ∙ ap (λ (z : TreeNode). map (node_among ([] ∷ list) texts) (take i ([] ∷ list)) ++ z ∷ []) same
    ∙ sym (map_snoc (node_among ([] ∷ list) texts) (take i ([] ∷ list)) text.0)
    ∙ ap (map (node_among ([] ∷ list) texts)) (sym (take_snoc ([] ∷ list) i text.0 text.1))
    ∙ ap (λ (k : ℕ). map (node_among ([] ∷ list) texts) (take k ([] ∷ list))) (sym next)

take_all : {X : Type 0} (l : List X) (i : ℕ) → length l ≤ i → take i l ≡ l
take_all [] zero h = refl
take_all [] (suc i) h = refl
take_all (x ∷ l) zero h = absurd (omega arith)
take_all {X} (x ∷ l) (suc i) h = ap (λ (z : List X). x ∷ z) (take_all l i (omega arith))

-- all nodes
pub nodes_all : (list texts : List (List ℕ)) (nodes : List TreeNode) (i : ℕ) → length list + 1 ≤ i → nodes ≡ map (node_among ([] ∷ list) texts) (take i ([] ∷ list)) → nodes ≡ map (node_among ([] ∷ list) texts) ([] ∷ list)
nodes_all list texts nodes i h e = e ∙ ap (map (node_among ([] ∷ list) texts)) (take_all ([] ∷ list) i (omega arith))

-- what the numbers below one have, all of them
pub below_all : {A : Type 0} (f : ℕ → Option A) (result items : List A) (n m : ℕ) → result ≡ items → items ≡ each_below f n → n ≡ m → result ≡ each_below f m
below_all f result items n m made is same = made ∙ is ∙ ap (each_below f) same

-- the tree
pub tree_is : (list texts keys : List (List ℕ)) (nodes result : List TreeNode) → list ≡ prefixes_by 0 keys → texts ≡ keys → nodes ≡ map (node_among ([] ∷ list) texts) ([] ∷ list) → result ≡ nodes → result ≡ tree_of keys
tree_is list texts keys nodes result is same all made =
    made ∙ all
    ∙ ap (λ (z : List (List ℕ)). map (node_among ([] ∷ z) texts) ([] ∷ z)) is
    ∙ ap (λ (z : List (List ℕ)). map (node_among ([] ∷ prefixes_by 0 keys) z) ([] ∷ prefixes_by 0 keys)) same

-- a text more makes a list longer by one at most
with_long : (p : List ℕ) (l : List (List ℕ)) → length (with_prefix p l) ≤ suc (length l)
with_long p [] = omega arith
with_long p (q ∷ l) = go (bytes_eq p q) (comes_before p q) (with_long p l)
  where
    go : (v w : Bool) → length (with_prefix p l) ≤ suc (length l) → length (cond v (q ∷ l) (cond w (p ∷ q ∷ l) (q ∷ with_prefix p l))) ≤ suc (suc (length l))
    go true w h = omega arith
    go false true h = omega arith
    go false false h = omega (arith, h)

prefixes_long : (l : List (List ℕ)) (text : List ℕ) (n : ℕ) → length (with_prefixes l text n) ≤ length l + n
prefixes_long l text zero = omega arith
prefixes_long l text (suc n) =
    let one : length (with_prefix (take (suc n) text) (with_prefixes l text n)) ≤ suc (length (with_prefixes l text n)) = with_long (take (suc n) text) (with_prefixes l text n) in
    let more : length (with_prefixes l text n) ≤ length l + n = prefixes_long l text n in
    omega (arith, one, more)

fold_long : (l texts : List (List ℕ)) → length (fold (with_text 0) l texts) ≤ length l + sum_by length texts
fold_long l [] = omega arith
fold_long l (t ∷ texts) =
    let one : length (with_text 0 l t) ≤ length l + (length t - 0) = prefixes_long l t (length t - 0) in
    let more : length (fold (with_text 0) (with_text 0 l t) texts) ≤ length (with_text 0 l t) + sum_by length texts = fold_long (with_text 0 l t) texts in
    let sum : sum_by length (t ∷ texts) ≡ length t + sum_by length texts = sum_by-cons length t texts in
    omega (arith, one, more, sum)

-- texts have no more prefixes than bytes, beside the empty one
pub few_prefixes : (list keys texts : List (List ℕ)) → list ≡ prefixes_by 0 texts → texts ≡ keys → sum_by length keys + 1 < 2 ^ 32 → length list + 1 < 2 ^ 32
few_prefixes list keys texts is same fits =
    let long : length list ≡ length (prefixes_by 0 texts) = ap length is in
    let most : length (prefixes_by 0 texts) ≤ 0 + sum_by length texts = fold_long [] texts in
    let sum : sum_by length texts ≡ sum_by length keys = ap (sum_by length) same in
    omega (arith, long, most, sum, fits)

later : (t : List ℕ) (texts : List (List ℕ)) → AreDistinct (t ∷ texts) → AreDistinct texts
later t texts h = λ i j d a b. h (suc i) (suc j) d (omega arith) (omega arith)

-- texts of which none is empty
count_filled : (texts : List (List ℕ)) → ((i : ℕ) (d : List ℕ) → i < length texts → get_or texts i d ≡ [] → ⊥) → length texts ≤ sum_by length texts
count_filled [] h = omega arith
count_filled ([] ∷ texts) h = absurd (h 0 [] (omega arith) refl)
count_filled ((x ∷ t) ∷ texts) h =
    let more : length texts ≤ sum_by length texts = count_filled texts (λ i d a e. h (suc i) d (omega arith) e) in
    let sum : sum_by length ((x ∷ t) ∷ texts) ≡ length (x ∷ t) + sum_by length texts = sum_by-cons length (x ∷ t) texts in
    omega (arith, more, sum)

count_distinct : (texts : List (List ℕ)) → AreDistinct texts → length texts ≤ sum_by length texts + 1
count_distinct [] h = omega arith
count_distinct ([] ∷ texts) h =
    let more : length texts ≤ sum_by length texts = count_filled texts (λ i d a e. h 0 (suc i) d (omega arith) (omega arith) (sym e)) in
    let sum : sum_by length ([] ∷ texts) ≡ 0 + sum_by length texts = sum_by-cons length [] texts in
    omega (arith, more, sum)
count_distinct ((x ∷ t) ∷ texts) h =
    let more : length texts ≤ sum_by length texts + 1 = count_distinct texts (later (x ∷ t) texts h) in
    let sum : sum_by length ((x ∷ t) ∷ texts) ≡ length (x ∷ t) + sum_by length texts = sum_by-cons length (x ∷ t) texts in
    omega (arith, more, sum)

-- texts that differ are no more than their bytes and one
pub few_distinct : (texts keys : List (List ℕ)) → texts ≡ keys → AreDistinct keys → sum_by length keys + 1 < 2 ^ 32 → length texts < 2 ^ 32
few_distinct texts keys same h fits =
    let long : length texts ≡ length keys = ap length same in
    let most : length keys ≤ sum_by length keys + 1 = count_distinct keys h in
    omega (arith, long, most, fits)
