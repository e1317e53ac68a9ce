-- The numbers of a graph lie within their types.
use Rattle.std.specs.Prelude.{ℕ, ◌<◌, ◌^◌, All, Option, Some}
use Rattle.std.specs.Prelude.{None as none}
use Rattle.pp_graph.specs.declared.node.Code.{Code}
use Rattle.pp_graph.specs.declared.node.Code.TheVariants as placed_code
use Rattle.pp_graph.specs.declared.node.Key.{Key}
use Rattle.pp_graph.specs.declared.node.Peek.{Peek}
use Rattle.pp_graph.specs.declared.node.Answer.{Answer}
use Rattle.pp_graph.specs.declared.node.Kind.{Kind}
use Rattle.pp_graph.specs.declared.node.Kind.TheVariants as placed
use Rattle.pp_graph.specs.declared.node.Node.{Node}

-- a number that an edge carries, if it carries one, has 32 bits
abbrev pub NumberInRange : Option ℕ → Type 0
NumberInRange none = Unit {0}
NumberInRange (Some number) = number < 2 ^ 32

-- constants have 64 bits, bases 32
abbrev pub CodeInRange : Code → Type 0
CodeInRange (placed_code.Call host) = Unit {0}
CodeInRange (placed_code.Store prop) = Unit {0}
CodeInRange (placed_code.Load prop) = Unit {0}
CodeInRange (placed_code.Update prop value) = value < 2 ^ 64
CodeInRange (placed_code.Equal prop value) = value < 2 ^ 64
CodeInRange (placed_code.And prop value) = value < 2 ^ 64
CodeInRange (placed_code.Or prop value) = value < 2 ^ 64
CodeInRange (placed_code.Test prop value) = value < 2 ^ 64
CodeInRange (placed_code.MulAdd prop base most) = (base < 2 ^ 32) × (most < 2 ^ 64)

-- a key has bytes, and a number of 32 bits or none
abbrev pub KeyInRange : Key → Type 0
KeyInRange k = All (λ b. b < 256) k.bytes × NumberInRange k.number

-- a peek has a byte
abbrev pub PeekInRange : Peek → Type 0
PeekInRange p = p.byte < 256

-- an answer has 32 bits
abbrev pub AnswerInRange : Answer → Type 0
AnswerInRange a = a.number < 2 ^ 32

-- codes of stops have 32 bits
abbrev pub KindInRange : Kind → Type 0
KindInRange (placed.Match fold keys peeks other) = All KeyInRange keys × All PeekInRange peeks
KindInRange (placed.Invoke what answers other) = CodeInRange what × All AnswerInRange answers
KindInRange (placed.Consume prop next) = Unit {0}
KindInRange (placed.SpanOpen span next) = Unit {0}
KindInRange (placed.SpanClose span next) = Unit {0}
KindInRange (placed.Pause number reason next) = number < 2 ^ 32
KindInRange (placed.Fail number reason) = number < 2 ^ 32

-- the numbers of what a node does lie within their types
abbrev pub NodeInRange : Node → Type 0
NodeInRange n = KindInRange n.kind
