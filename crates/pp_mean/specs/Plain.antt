-- Plain graphs: their match nodes compare bytes as they are and have keys of one byte without a number, their codes
-- are calls without answers, and there is no property, span or finish rule.
use Rattle.std.specs.Prelude.{◌≡◌, ℕ, List, [], Some, None, length, slice_get}
use Rattle.pp_bytes.specs.declared.fold.Fold.{Fold}
use Rattle.pp_bytes.specs.declared.fold.Fold.TheVariants.{Same}
use Rattle.pp_graph.specs.declared.node.Answer.{Answer}
use Rattle.pp_graph.specs.declared.node.Peek.{Peek}
use Rattle.pp_graph.specs.declared.node.Code.{Code}
use Rattle.pp_graph.specs.declared.node.Code.TheVariants as code
use Rattle.pp_graph.specs.declared.node.Key.{Key}
use Rattle.pp_graph.specs.declared.node.Kind.{Kind}
use Rattle.pp_graph.specs.declared.node.Kind.TheVariants.{Match, Invoke, Consume, SpanOpen, SpanClose, Pause, Fail}
use Rattle.pp_graph.specs.declared.node.Node.{Node}
use Rattle.pp_graph.specs.Plan.{Plan}

-- a key of one byte, without a number
pub record IsPlainKey (k : Key) : Type 0 where
  pub one : length k.bytes ≡ 1
  pub plain : k.number ≡ None

abbrev pub ArePlainKeys : List Key → Type 0
ArePlainKeys keys = (i : ℕ) (k : Key) → slice_get keys i ≡ Some k → IsPlainKey k

-- a call of a host
abbrev pub IsPlainCode : Code → Type 0
IsPlainCode (code.Call host) = Unit {0}
IsPlainCode (code.Store prop) = ⊥
IsPlainCode (code.Load prop) = ⊥
IsPlainCode (code.Update prop value) = ⊥
IsPlainCode (code.Equal prop value) = ⊥
IsPlainCode (code.And prop value) = ⊥
IsPlainCode (code.Or prop value) = ⊥
IsPlainCode (code.Test prop value) = ⊥
IsPlainCode (code.MulAdd prop base most) = ⊥

-- no peek, and plain keys
abbrev pub ArePlainEdges : List Key → List Peek → Type 0
ArePlainEdges keys peeks = (peeks ≡ []) × ArePlainKeys keys

-- bytes are compared as they are, by plain edges
abbrev pub IsPlainMatch : Fold → List Key → List Peek → Type 0
IsPlainMatch fold keys peeks = (fold ≡ Same) × ArePlainEdges keys peeks

-- a call without answers
abbrev pub IsPlainInvoke : Code → List Answer → Type 0
IsPlainInvoke what answers = IsPlainCode what × (answers ≡ [])

abbrev pub IsPlainKind : Kind → Type 0
IsPlainKind (Match fold keys peeks other) = IsPlainMatch fold keys peeks
IsPlainKind (Invoke what answers other) = IsPlainInvoke what answers
IsPlainKind (Consume prop next) = ⊥
IsPlainKind (SpanOpen span next) = ⊥
IsPlainKind (SpanClose span next) = ⊥
IsPlainKind (Pause number reason next) = ⊥
IsPlainKind (Fail number reason) = Unit {0}

abbrev pub ArePlainNodes : List Node → Type 0
ArePlainNodes nodes = (i : ℕ) (n : Node) → slice_get nodes i ≡ Some n → IsPlainKind n.kind

-- no property, no span and no finish rule
abbrev pub HasNodesAlone : Plan → Type 0
HasNodesAlone g = (g.props ≡ []) × (g.spans ≡ []) × (g.finish ≡ None)

-- a plain graph
abbrev pub IsPlain : Plan → Type 0
IsPlain g = HasNodesAlone g × ArePlainNodes g.nodes
