-- The prefixes of a node's keys, and the tree that they form.
use Rattle.std.specs.Prelude.{ℕ, zero, suc, ◌-◌, List, [], ◌∷◌, ◌++◌, Option, Some, None, Bool, length, map, take, fold, bytes_eq, if◌then◌else◌, option_map}
use Rattle.std.specs.Ordering.{nat_cmp, is_lt}
use Rattle.std.specs.Cmp.Lexicographic.{slice_cmp}
use Rattle.pp_graph.specs.declared.node.Key.{Key}
use Rattle.pp_graph.specs.declared.node.Kind.{Kind}
use Rattle.pp_graph.specs.declared.node.Kind.TheVariants.{Match, Invoke, Consume, SpanOpen, SpanClose, Pause, Fail}
use Rattle.pp_lower.specs.declared.tree.TreeNode.{TreeNode}

-- lexicographic order
abbrev pub comes_before : List ℕ → List ℕ → Bool
comes_before p q = is_lt (slice_cmp nat_cmp p q)

-- a list of texts in lexicographic order, with one more at its place, if it isn't there
abbrev pub with_prefix : List ℕ → List (List ℕ) → List (List ℕ)
with_prefix p [] = p ∷ []
with_prefix p (q ∷ l) = if bytes_eq p q then q ∷ l else if comes_before p q then p ∷ q ∷ l else q ∷ with_prefix p l

-- with the first n prefixes of a text that aren't empty
abbrev pub with_prefixes : List (List ℕ) → List ℕ → ℕ → List (List ℕ)
with_prefixes l text zero = l
with_prefixes l text (suc n) = with_prefix (take (suc n) text) (with_prefixes l text n)

-- with the prefixes of a text that aren't empty and leave so many of its bytes
abbrev pub with_text : ℕ → List (List ℕ) → List ℕ → List (List ℕ)
with_text left l text = with_prefixes l text (length text - left)

-- the prefixes of texts that aren't empty and leave so many bytes, each once, in lexicographic order
abbrev pub prefixes_by : ℕ → List (List ℕ) → List (List ℕ)
prefixes_by left texts = fold (with_text left) [] texts

-- the proper prefixes of texts that aren't empty
abbrev pub inner_prefixes : List (List ℕ) → List (List ℕ)
inner_prefixes texts = prefixes_by 1 texts

-- all prefixes of texts, the empty one first
abbrev pub prefixes : List (List ℕ) → List (List ℕ)
prefixes texts = [] ∷ prefixes_by 0 texts

-- where a text stands in a list, if it is there
abbrev pub place_of : List ℕ → List (List ℕ) → Option ℕ
place_of p [] = None
place_of p (q ∷ l) = if bytes_eq p q then Some 0 else option_map suc (place_of p l)

-- none, or the one
abbrev pub listed : {A : Type 0} → Option A → List A
listed None = []
listed (Some x) = x ∷ []

-- what the numbers below n have, in order
abbrev pub each_below : {A : Type 0} → (ℕ → Option A) → ℕ → List A
each_below f zero = []
each_below f (suc n) = each_below f n ++ listed (f n)

-- the byte that leads from a prefix to one that is longer by it, with the place of that, if it is there
abbrev pub link_of : List (List ℕ) → List ℕ → ℕ → Option (ℕ × ℕ)
link_of list p b = option_map (λ i. (b, i)) (place_of (p ++ b ∷ []) list)

-- The node of a prefix among a list of them: by each byte, in order, the place of the prefix that is longer by it, and the
-- place of the text that ends here.
abbrev pub node_among : List (List ℕ) → List (List ℕ) → List ℕ → TreeNode
node_among list texts p = record { next = each_below (link_of list p) 256; key = place_of p texts }

-- the tree of keys with these bytes: a node for each prefix
abbrev pub tree_of : List (List ℕ) → List TreeNode
tree_of texts = map (node_among (prefixes texts) texts) (prefixes texts)

abbrev pub IsMatch : Kind → Type 0
IsMatch (Match fold keys peeks other) = Unit {0}
IsMatch (Invoke code answers other) = ⊥
IsMatch (Consume prop next) = ⊥
IsMatch (SpanOpen span next) = ⊥
IsMatch (SpanClose span next) = ⊥
IsMatch (Pause code reason next) = ⊥
IsMatch (Fail code reason) = ⊥

-- the keys of a match node; another one has none
abbrev pub keys_of : Kind → List Key
keys_of (Match fold keys peeks other) = keys
keys_of (Invoke code answers other) = []
keys_of (Consume prop next) = []
keys_of (SpanOpen span next) = []
keys_of (SpanClose span next) = []
keys_of (Pause code reason next) = []
keys_of (Fail code reason) = []
