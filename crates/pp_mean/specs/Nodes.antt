-- What a node of a graph does at a configuration, with these bytes left. A match node reads whole keys.
use Rattle.std.specs.Prelude.{ℕ, zero, suc, ◌+◌, List, [], ◌∷◌, Option, Some, None, Bool, true, false, ◌&&◌, ◌||◌, not, length, map, max, slice_get, nat_lt, ◌==◌, if◌then◌else◌, unwrap_or, find}
use Rattle.std.specs.List.{list_any}
use Rattle.pp_bytes.specs.Fold.{folded}
use Rattle.pp_graph.specs.declared.node.Key.{Key}
use Rattle.pp_graph.specs.declared.node.Peek.{Peek}
use Rattle.pp_graph.specs.declared.node.Other.{Other}
use Rattle.pp_graph.specs.declared.node.Kind.{Kind}
use Rattle.pp_graph.specs.declared.node.Kind.TheVariants.{Match, Invoke, Consume, SpanOpen, SpanClose, Pause, Fail}
use Rattle.pp_graph.specs.declared.node.Node.{Node}
use Rattle.pp_graph.specs.Plan.{Plan}
use Rattle.pp_event.specs.Run.{Config, Turn, Rests, Stops, Fails, Machine}
use Rattle.pp_event.specs.Turns.{to, effect_turn, consume_turn, open_turn, close_turn}
use Rattle.pp_event.specs.Codes.{answered, effect_of}

-- the length of the longest common prefix
abbrev pub common : List ℕ → List ℕ → ℕ
common [] bytes = 0
common (x ∷ key) [] = 0
common (x ∷ key) (b ∷ bytes) = if x == b then suc (common key bytes) else 0

-- the length of the longest common prefix with any key
abbrev pub reach : List Key → List ℕ → ℕ
reach [] bytes = 0
reach (k ∷ keys) bytes = max (common k.bytes bytes) (reach keys bytes)

-- the bytes begin with the whole key
abbrev pub fits : List ℕ → Key → Bool
fits bytes k = common k.bytes bytes == length k.bytes

-- the longest key that fits, if one fits
abbrev pub longer : Key → Option Key → Key
longer k None = k
longer k (Some l) = if nat_lt (length k.bytes) (length l.bytes) then l else k

-- the longest key of the list that fits
abbrev pub best : List Key → List ℕ → Option Key
best [] bytes = None
best (k ∷ keys) bytes = if fits bytes k then Some (longer k (best keys bytes)) else best keys bytes

-- some key begins with all of these bytes and goes on
abbrev pub goes_on : List Key → List ℕ → Bool
goes_on keys bytes = list_any (λ k. common k.bytes bytes == length bytes && nat_lt (length bytes) (length k.bytes)) keys

-- there is none
abbrev pub is_empty : {A : Type 0} → List A → Bool
is_empty [] = true
is_empty (x ∷ xs) = false

-- the otherwise, behind so many bytes, and one more where it is a skip
abbrev pub other_turn : Config → Other → ℕ → Turn
other_turn c other reached = to c other.target (if other.skip then reached + 1 else reached) 0

-- the peek edge of the byte that comes first
abbrev pub peek_at : List Peek → List ℕ → Option Peek
peek_at peeks [] = None
peek_at peeks (b ∷ bytes) = find (λ (p : Peek). p.byte == b) peeks

-- where no key fits: a peek edge, which is there only where no key begins with the byte, else the otherwise behind
-- the longest common prefix
abbrev pub peek_turn : Config → Other → ℕ → Option Peek → Turn
peek_turn c other zero (Some p) = to c p.target 0 0
peek_turn c other zero None = other_turn c other 0
peek_turn c other (suc m) p = other_turn c other (suc m)

-- the longest key that fits, else a peek or the otherwise
abbrev pub key_turn : Config → List Key → List Peek → Other → List ℕ → Option Key → Turn
key_turn c keys peeks other bytes (Some k) = to c k.target (length k.bytes) (unwrap_or k.number 0)
key_turn c keys peeks other bytes None = peek_turn c other (reach keys bytes) (peek_at peeks bytes)

-- a match node waits where a key may still come whole, and without a byte where it looks at one. These are the
-- bytes that are left, as the node compares them.
abbrev pub waits : List Key → List Peek → Other → List ℕ → Bool
waits keys peeks other bytes =
    goes_on keys bytes || (is_empty bytes && (not (is_empty keys) || not (is_empty peeks) || other.skip))

-- behind all the bytes that are left
abbrev pub rests_at : Config → List ℕ → Config
rests_at c rest = record c { at = c.at + length rest; carried = 0 }

-- a match node waits, or takes an edge
abbrev pub match_turn : Config → List ℕ → List Key → List Peek → Other → List ℕ → Turn
match_turn c rest keys peeks other bytes =
    if waits keys peeks other bytes then Rests (rests_at c rest) else key_turn c keys peeks other bytes (best keys bytes)

-- what a node of a kind does
abbrev pub kind_turn : Kind → Config → List ℕ → Turn
kind_turn (Match fold keys peeks other) c rest = match_turn c rest keys peeks other (map (folded fold) rest)
kind_turn (Invoke what answers other) c rest = effect_turn c (answered answers other) (effect_of c.values c.carried what)
kind_turn (Consume prop next) c rest = consume_turn c rest prop next
kind_turn (SpanOpen span next) c rest = open_turn c span next
kind_turn (SpanClose span next) c rest = close_turn c span next
kind_turn (Pause number reason next) c rest = Stops number (record c { node = next; carried = 0 })
kind_turn (Fail number reason) c rest = Fails number

-- a place without a node has no move
abbrev pub node_turn : Option Node → Config → List ℕ → Turn
node_turn None c rest = Fails 0
node_turn (Some n) c rest = kind_turn n.kind c rest

-- a graph as a machine
abbrev pub graph_turn : Plan → Machine
graph_turn g c rest = node_turn (slice_get g.nodes c.node) c rest
