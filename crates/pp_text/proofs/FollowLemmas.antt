-- The calls that tell a graph may follow one another.
use Rattle.std.proofs.Common.{◌≡◌, List, [], ◌∷◌, ◌++◌, false, ℕ, filter_map, refl, ap, sym, ◌∙◌, subst}
use Rattle.std.proofs.lemmas.List.Elements.{filter_map-append}
use Rattle.pp_rules.specs.declared.call.NamedEdge.{NamedEdge}
use Rattle.pp_rules.specs.declared.call.NamedEdge.TheVariants as edge
use Rattle.pp_rules.specs.declared.call.BuilderCall.{BuilderCall}
use Rattle.pp_rules.specs.declared.call.BuilderCall.TheVariants as call
use Rattle.pp_graph.specs.Plan.{Plan, IsWellFormed}
use Rattle.pp_graph.specs.Calls.{MayFollow, EdgeMayFollow, TakesOtherwise, last_of, has_otherwise}
use Rattle.pp_rules.specs.Calls.{own_calls, since_node, is_otherwise_edge}
use Rattle.pp_rules.specs.Edges.{edge_of, edges_of}
use Rattle.pp_rules.specs.Rules.Otherwise.{is_otherwise}
use Rattle.pp_graph.proofs.TableLemmas.{Each}
use Rattle.pp_graph.proofs.EachLemmas.{Pairs, each-map}
use Rattle.pp_rules.proofs.ListLemmas.{passes_some, any-filter_map}
use Rattle.pp_text.specs.Sequence.{Follow}
use Rattle.pp_text.specs.Telling.{calls_of, named_kind}
use Rattle.pp_text.proofs.ListLemmas.{Along, each-middle, pairs-middle, any-fails}
use Rattle.pp_text.proofs.PlaceLemmas.{IsPlaced, InPlace, along-calls}
use Rattle.pp_text.proofs.OwnLemmas.{edges_in, edges-of_kind, Apart, edges-apart, Belongs, edges-belong}

-- the edges of the node: those before, this one, those behind
pub edges-parted : (g : Plan) (before : List BuilderCall) (when : NamedEdge) (target : List ℕ) (after : List BuilderCall) (p : IsPlaced g before (call.Edge when target) after) → edges_in p.kind ≡ edges_of before ++ when ∷ filter_map edge_of (own_calls after)
edges-parted g before when target after p =
    sym (edges-of_kind g p.kind) ∙ ap (filter_map edge_of) (sym p.own) ∙ filter_map-append edge_of (since_node before) (call.Edge when target ∷ own_calls after)

-- what holds of each edge of the node holds of this one
pub edge-is : (P : NamedEdge → Type 0) (g : Plan) (before : List BuilderCall) (when : NamedEdge) (target : List ℕ) (after : List BuilderCall) (p : IsPlaced g before (call.Edge when target) after) → Each P (edges_in p.kind) → P when
edge-is P g before when target after p s =
    each-middle P (edges_of before) when (filter_map edge_of (own_calls after)) (subst (Each P) (edges-parted g before when target after p) s)

-- the edges before this one keep apart from it
pub edges-before : (g : Plan) (before : List BuilderCall) (when : NamedEdge) (target : List ℕ) (after : List BuilderCall) → IsPlaced g before (call.Edge when target) after → Each (λ e. Apart e when) (edges_of before)
edges-before g before when target after p =
    pairs-middle Apart (edges_of before) when (filter_map edge_of (own_calls after)) (subst (Pairs Apart) (edges-parted g before when target after p) (edges-apart g p.kind p.fits))

otherwise-test : (c : BuilderCall) → is_otherwise c ≡ passes_some is_otherwise_edge (edge_of c)
otherwise-test (call.Edge when target) = refl
otherwise-test c = refl

-- no otherwise stands before it
still-open : (g : Plan) (before : List BuilderCall) (when : NamedEdge) (target : List ℕ) (after : List BuilderCall) → IsPlaced g before (call.Edge when target) after → has_otherwise before ≡ false
still-open g before when target after p =
    p.closed
    ∙ any-filter_map edge_of is_otherwise_edge is_otherwise (since_node before) otherwise-test
    ∙ any-fails is_otherwise_edge (edges_of before) (each-map (λ e. Apart e when) (λ e. is_otherwise_edge e ≡ false) (edges_of before) (λ e a. a.0) (edges-before g before when target after p))

edge-follows : (g : Plan) (before : List BuilderCall) (when : NamedEdge) (target : List ℕ) (after : List BuilderCall) → (p : IsPlaced g before (call.Edge when target) after) → Belongs (last_of (named_kind g p.kind)) when → EdgeMayFollow before when
edge-follows g before (edge.Key bytes number) target after p b = p.after_node ∙ b
edge-follows g before (edge.Peek byte) target after p b = p.after_node ∙ b
edge-follows g before (edge.Answer number) target after p b = p.after_node ∙ b
edge-follows g before (edge.Otherwise skip) target after p b =
    (subst (λ l. TakesOtherwise l skip) (sym p.after_node) b, still-open g before (edge.Otherwise skip) target after p)

may-follow : (g : Plan) (before : List BuilderCall) (c : BuilderCall) (after : List BuilderCall) → InPlace g before c after → MayFollow before c
may-follow g before (call.Prop name width) after p = tt
may-follow g before (call.Host name value) after p = tt
may-follow g before (call.Span name) after p = tt
may-follow g before (call.Entry node) after p = tt
may-follow g before (call.Finish prop host) after p = tt
may-follow g before (call.Node name what) after p = tt
may-follow g before (call.Edge when target) after p =
    edge-follows g before when target after p (edge-is (Belongs (last_of (named_kind g p.kind))) g before when target after p (edges-belong g p.kind))

follow-along : (g : Plan) (before calls : List BuilderCall) → Along (InPlace g) before calls → Follow before calls
follow-along g before [] s = tt
follow-along g before (c ∷ calls) s = (may-follow g before c calls s.0, follow-along g (before ++ c ∷ []) calls s.1)

pub calls-follow : (g : Plan) → IsWellFormed g → Follow [] (calls_of g)
calls-follow g w = follow-along g [] (calls_of g) (along-calls g w)
