-- Each call that tells a graph can be printed.
use Rattle.std.proofs.Common.{ℕ, List, [], ◌∷◌, ◌++◌, map, Option, Some}
use Rattle.std.specs.Prelude.{All}
use Rattle.std.specs.Prelude.{None as none}
use Rattle.std.proofs.lemmas.List.Elements.{All-head, All-tail}
use Rattle.pp_graph.specs.declared.node.Code.{Code}
use Rattle.pp_graph.specs.declared.node.Code.TheVariants as placed_code
use Rattle.pp_graph.specs.declared.node.Kind.{Kind}
use Rattle.pp_graph.specs.declared.node.Kind.TheVariants as placed
use Rattle.pp_rules.specs.declared.call.BuilderCall.TheVariants as call
use Rattle.pp_graph.specs.Calls.{HasForm, HaveForm}
use Rattle.pp_graph.specs.Plan.{Plan}
use Rattle.pp_graph.proofs.TableLemmas.{Each}
use Rattle.pp_graph.proofs.EachLemmas.{each-map, each-both, each-append}
use Rattle.pp_text.specs.Statements.{CodeFits, KindFits}
use Rattle.pp_graph.specs.Ranges.{CodeInRange, KeyInRange, PeekInRange, AnswerInRange, KindInRange, NodeInRange}
use Rattle.pp_text.specs.Telling.{calls_of, prop_call, host_call, span_call, finish_calls, node_calls, edge_calls, key_call, peek_call, answer_call, other_call, else_call, node_name, named_code, named_kind}
use Rattle.pp_text.proofs.ListLemmas.{each-all, each-from_is, each-map_of}
use Rattle.pp_text.proofs.SuitLemmas.{each-calls}
use Rattle.pp_text.proofs.PrintedTokenLemmas.{CallInRange}
use Rattle.pp_text.proofs.PrintedTextLemmas.{CanBePrinted}

each-from_all : {X : Type 0} (P : X → Type 0) (xs : List X) → All P xs → Each P xs
each-from_all P [] h = tt
each-from_all P (x ∷ xs) h = (All-head P x xs h, each-from_all P xs (All-tail P x xs h))

-- the numbers of a node as its call has them
code-fits : (g : Plan) (what : Code) → CodeInRange what → CodeFits (named_code g what)
code-fits g (placed_code.Call host) h = tt
code-fits g (placed_code.Store prop) h = tt
code-fits g (placed_code.Load prop) h = tt
code-fits g (placed_code.Update prop value) h = h
code-fits g (placed_code.Equal prop value) h = h
code-fits g (placed_code.And prop value) h = h
code-fits g (placed_code.Or prop value) h = h
code-fits g (placed_code.Test prop value) h = h
code-fits g (placed_code.MulAdd prop base most) h = (h.0, h.1)

kind-fits : (g : Plan) (k : Kind) → KindInRange k → KindFits (named_kind g k)
kind-fits g (placed.Match fold keys peeks other) h = tt
kind-fits g (placed.Invoke what answers other) h = code-fits g what h.0
kind-fits g (placed.Consume prop next) h = tt
kind-fits g (placed.SpanOpen span next) h = tt
kind-fits g (placed.SpanClose span next) h = tt
kind-fits g (placed.Pause number reason next) h = h
kind-fits g (placed.Fail number reason) h = h

-- those of its edges
edges-in_range : (g : Plan) (k : Kind) → KindInRange k → Each CallInRange (edge_calls g k)
edges-in_range g (placed.Match fold keys peeks other) h =
    each-append CallInRange (map (key_call g) keys ++ map (peek_call g) peeks) (other_call g other ∷ [])
    (each-append CallInRange (map (key_call g) keys) (map (peek_call g) peeks)
    (each-map_of (key_call g) CallInRange keys (each-from_all KeyInRange keys h.0))
    (each-map_of (peek_call g) CallInRange peeks (each-from_all PeekInRange peeks h.1)))
    (tt, tt)
edges-in_range g (placed.Invoke what answers other) h =
    each-append CallInRange (map (answer_call g) answers) (else_call g other ∷ [])
    (each-map_of (answer_call g) CallInRange answers (each-from_all AnswerInRange answers h.1))
    (tt, tt)
edges-in_range g (placed.Consume prop next) h = (tt, tt)
edges-in_range g (placed.SpanOpen span next) h = (tt, tt)
edges-in_range g (placed.SpanClose span next) h = (tt, tt)
edges-in_range g (placed.Pause number reason next) h = (tt, tt)
edges-in_range g (placed.Fail number reason) h = tt

ends-in_range : (g : Plan) (i : ℕ) (rule : Option (ℕ × ℕ)) → Each CallInRange (call.Entry (node_name g i) ∷ finish_calls g rule)
ends-in_range g i none = (tt, tt)
ends-in_range g i (Some rule) = (tt, (tt, tt))

calls-in_range : (g : Plan) → All NodeInRange g.nodes → Each CallInRange (calls_of g)
calls-in_range g h =
    each-calls CallInRange g
    (each-all (λ p. CallInRange (prop_call p)) g.props (λ p. tt))
    (each-all (λ p. CallInRange (host_call p)) g.hosts (λ p. tt))
    (each-all (λ p. CallInRange (span_call p)) g.spans (λ p. tt))
    (ends-in_range g g.entry g.finish)
    (each-map NodeInRange (λ n. Each CallInRange (node_calls g n)) g.nodes
    (λ n r. (kind-fits g n.kind r, edges-in_range g n.kind r))
    (each-from_all NodeInRange g.nodes h))

pub calls-printable : (g : Plan) → HaveForm (calls_of g) → All NodeInRange g.nodes → Each CanBePrinted (calls_of g)
calls-printable g f h =
    each-both HasForm CallInRange CanBePrinted (calls_of g) (λ c a b. (a, b)) (each-from_is HasForm (calls_of g) f) (calls-in_range g h)
