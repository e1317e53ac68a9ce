-- Sets of bytes among the edges of a node: a call for each byte, and how a builder keeps them as one.
use Rattle.std.specs.Prelude.{◌≡◌, ℕ, ◌<◌, List, [], ◌∷◌, ◌++◌, Option, Some, length, map}
use Rattle.std.specs.Prelude.{None as none}
use Rattle.std.specs.FinSet as set
use Rattle.std.specs.Ordering.{nat_cmp}
use Rattle.pp_bytes.specs.Bytes.{bytes_of}
use Rattle.pp_rules.specs.declared.call.NamedEdge.{NamedEdge}
use Rattle.pp_rules.specs.declared.call.NamedEdge.TheVariants as edge
use Rattle.pp_rules.specs.declared.call.BuilderCall.{BuilderCall}
use Rattle.pp_rules.specs.declared.call.BuilderCall.TheVariants as call
use Rattle.pp_rules.specs.declared.kept.ByteUse.{ByteUse}
use Rattle.pp_rules.specs.declared.kept.ByteUse.TheVariants as byte_use

-- a key of one byte for each byte of a set, ascending
abbrev pub key_calls : set.FinSet nat_cmp → Option ℕ → List ℕ → List BuilderCall
key_calls bytes number target = map (λ b. call.Edge (edge.Key (b ∷ []) number) target) (bytes_of bytes)

-- a peek for each byte of a set, ascending
abbrev pub peek_calls : set.FinSet nat_cmp → List ℕ → List BuilderCall
peek_calls bytes target = map (λ b. call.Edge (edge.Peek b) target) (bytes_of bytes)

-- the edge of a byte
abbrev pub byte_edge : ByteUse → ℕ → NamedEdge
byte_edge (byte_use.Key number) b = edge.Key (b ∷ []) number
byte_edge byte_use.Peek b = edge.Peek b

abbrev pub byte_call : ByteUse → List ℕ → ℕ → BuilderCall
byte_call how target b = call.Edge (byte_edge how b) target

-- the same edge for another byte
abbrev pub with_byte : NamedEdge → ℕ → NamedEdge
with_byte (edge.Key bytes number) b = edge.Key (b ∷ []) number
with_byte (edge.Peek byte) b = edge.Peek b
with_byte (edge.Answer number) b = edge.Answer number
with_byte (edge.Otherwise skip) b = edge.Otherwise skip

abbrev pub call_with : BuilderCall → ℕ → BuilderCall
call_with (call.Prop name width) b = call.Prop name width
call_with (call.Host name value) b = call.Host name value
call_with (call.Span name) b = call.Span name
call_with (call.Entry node) b = call.Entry node
call_with (call.Finish prop host) b = call.Finish prop host
call_with (call.Node name what) b = call.Node name what
call_with (call.Edge when target) b = call.Edge (with_byte when b) target

-- the calls that a kept one stands for: itself, or the same for each byte of a set
abbrev pub spread : BuilderCall → Option (set.FinSet nat_cmp) → List BuilderCall
spread c none = c ∷ []
spread c (Some bytes) = map (call_with c) (bytes_of bytes)

-- all the calls that kept ones stand for, with the set of each
abbrev pub all_calls : List BuilderCall → List (Option (set.FinSet nat_cmp)) → List BuilderCall
all_calls [] sets = []
all_calls (c ∷ calls) [] = []
all_calls (c ∷ calls) (s ∷ sets) = spread c s ++ all_calls calls sets

-- a kept call with a set is an edge of a byte, and the set is not empty
abbrev pub IsSetOf : BuilderCall → Option (set.FinSet nat_cmp) → Type 0
IsSetOf c none = Unit {0}
IsSetOf c (Some bytes) = (how : ByteUse) × (target : List ℕ) × (b : ℕ) × (c ≡ byte_call how target b) × (0 < length (bytes_of bytes))

-- each kept call has its place among the sets
abbrev pub AreSets : List BuilderCall → List (Option (set.FinSet nat_cmp)) → Type 0
AreSets [] [] = Unit {0}
AreSets [] (s ∷ sets) = ⊥
AreSets (c ∷ calls) [] = ⊥
AreSets (c ∷ calls) (s ∷ sets) = IsSetOf c s × AreSets calls sets

-- how many calls a kept one stands for
abbrev pub size_of : Option (set.FinSet nat_cmp) → ℕ
size_of none = 1
size_of (Some bytes) = length (bytes_of bytes)
