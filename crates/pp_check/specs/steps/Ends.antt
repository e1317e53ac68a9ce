-- Where the moves of a node lead, as its edges tell it.
use Rattle.std.specs.Prelude.{◌≡◌, ℕ, ◌<◌, List, Bool, true, false, Option, Some, None, ◌⊎◌, length, take, slice_get, slice_index, IsTrue}
use Rattle.std.specs.List.{Any}
use Rattle.std.specs.FinSet.{FinSet, contains}
use Rattle.std.specs.Ordering.{nat_cmp}
use Rattle.pp_bytes.specs.declared.fold.Fold.{Fold}
use Rattle.pp_bytes.specs.Fold.{folded}
use Rattle.pp_flow.specs.Rows.{free, onward, edge, Ends, NoEnds, OrEnds, FreeEnds, BothEnds}
use Rattle.pp_graph.specs.declared.node.Answer.{Answer}
use Rattle.pp_graph.specs.declared.node.Key.{Key}
use Rattle.pp_graph.specs.declared.node.Peek.{Peek}
use Rattle.pp_graph.specs.declared.node.Other.{Other}
use Rattle.pp_graph.specs.declared.node.Kind.{Kind}
use Rattle.pp_graph.specs.declared.node.Kind.TheVariants.{Match, Invoke, Consume, SpanOpen, SpanClose, Pause, Fail}
use Rattle.pp_graph.specs.declared.node.Node.{Node}

-- bytes begin with these and go on with c
abbrev pub GoesOnBy : List ℕ → List ℕ → ℕ → Type 0
GoesOnBy front bytes c = (length front < length bytes) × (take (length front) bytes ≡ front) × (slice_index bytes (length front) ≡ c)

-- a string may go on behind these bytes as no key does
abbrev pub IsLive : Fold → List Key → List ℕ → Type 0
IsLive fold keys front = (c : ℕ) × (c < 256) × (Any (λ (k : Key). GoesOnBy front k.bytes (folded fold c)) keys → ⊥)

-- a key begins with this byte
abbrev pub KeyBegins : List Key → ℕ → Type 0
KeyBegins keys c = Any (λ (k : Key). slice_index k.bytes 0 ≡ c) keys

-- the byte is a peek byte
abbrev pub PeekAt : List Peek → ℕ → Type 0
PeekAt peeks c = Any (λ (p : Peek). p.byte ≡ c) peeks

-- these bytes are a key
abbrev pub IsKeyOf : List Key → List ℕ → Type 0
IsKeyOf keys bytes = Any (λ (k : Key). k.bytes ≡ bytes) keys

-- some front of the bytes is no key, and a string may stop fitting right behind it
abbrev pub StopsIn : Fold → List Key → List ℕ → Type 0
StopsIn fold keys bytes = (m : ℕ) × (0 < m) × (m < length bytes) × (IsKeyOf keys (take m bytes) → ⊥) × IsLive fold keys (take m bytes)

-- so in some key that begins with this byte
abbrev pub StopsBehind : Fold → List Key → ℕ → Type 0
StopsBehind fold keys c = Any (λ (k : Key). (slice_index k.bytes 0 ≡ c) × StopsIn fold keys k.bytes) keys

-- by one of some keys, among all keys
abbrev pub KeyEnds : Fold → List Key → List Key → Ends
KeyEnds fold keys front free b next = ⊥
KeyEnds fold keys front onward b next =
    Any (λ (k : Key). (slice_index k.bytes 0 ≡ folded fold b) × IsLive fold keys k.bytes × (k.target ≡ next)) front
KeyEnds fold keys front edge b next = Any (λ (k : Key). k.target ≡ next) front

-- by a peek
abbrev pub PeekEnds : Fold → List Peek → Ends
PeekEnds fold peeks free b next = Any (λ (p : Peek). (p.byte ≡ folded fold b) × (p.target ≡ next)) peeks
PeekEnds fold peeks onward b next = ⊥
PeekEnds fold peeks edge b next = Any (λ (p : Peek). p.target ≡ next) peeks

-- no key begins with the byte, and it is no peek byte
abbrev pub IsOtherByte : List Key → List Peek → ℕ → Type 0
IsOtherByte keys peeks c = (KeyBegins keys c → ⊥) × (PeekAt peeks c → ⊥)

-- by the otherwise
abbrev pub OtherEnds : Fold → List Key → List Peek → Other → Ends
OtherEnds fold keys peeks other free b next = (other.target ≡ next) × (other.skip ≡ false) × IsOtherByte keys peeks (folded fold b)
OtherEnds fold keys peeks other onward b next =
    (other.target ≡ next) × (((other.skip ≡ true) × IsOtherByte keys peeks (folded fold b)) ⊎ StopsBehind fold keys (folded fold b))
OtherEnds fold keys peeks other edge b next = other.target ≡ next

-- by an answer, or the otherwise of an invoke
abbrev pub AnswerEnds : List Answer → ℕ → Ends
AnswerEnds answers other free b next = (other ≡ next) ⊎ Any (λ (a : Answer). a.target ≡ next) answers
AnswerEnds answers other onward b next = ⊥
AnswerEnds answers other edge b next = (other ≡ next) ⊎ Any (λ (a : Answer). a.target ≡ next) answers

-- of a node of a kind
abbrev pub EndsOf : Kind → Ends
EndsOf (Match fold keys peeks other) = OrEnds (KeyEnds fold keys keys) (OrEnds (PeekEnds fold peeks) (OtherEnds fold keys peeks other))
EndsOf (Invoke what answers other) = AnswerEnds answers other
EndsOf (Consume prop n) = BothEnds n
EndsOf (SpanOpen span n) = FreeEnds n
EndsOf (SpanClose span n) = FreeEnds n
EndsOf (Pause code reason n) = BothEnds n
EndsOf (Fail code reason) = NoEnds

-- of a node that is there
abbrev pub EndsAt : Option Node → Ends
EndsAt None = NoEnds
EndsAt (Some n) = EndsOf n.kind

-- where the nodes lead
abbrev pub ends_of : List Node → ℕ → Ends
ends_of nodes node = EndsAt (slice_get nodes node)

-- on the bytes of a set, to one node, free or onward or neither
abbrev pub SetEnds : FinSet nat_cmp → ℕ → Bool → Bool → Ends
SetEnds bytes to keeps takes free b next = (to ≡ next) × IsTrue keeps × IsTrue (contains bytes b)
SetEnds bytes to keeps takes onward b next = (to ≡ next) × IsTrue takes × IsTrue (contains bytes b)
SetEnds bytes to keeps takes edge b next = to ≡ next
