-- The rows of a flow, told node by node.
use Rattle.std.proofs.Common.{subst, ◌≡◌, ℕ, suc, ◌<◌, List, [], ◌++◌, Option, Some, refl, sym, ◌∙◌, ap, arith, length, get_or, inl, inr}
use Rattle.std.specs.Prelude.{slice_get}
use Rattle.std.proofs.lemmas.List.{length-map}
use Rattle.std.proofs.lemmas.Option.{slice_get-get_or}
use Rattle.pp_flow.specs.Chart.{Chart, with_point}
use Rattle.pp_flow.specs.declared.moves.Move.{Move}
use Rattle.pp_flow.specs.Rows.{Ends, edge as counts, Adds}
use Rattle.pp_flow.proofs.RowLemmas.{has-none, adds-behind}
use Rattle.pp_flow.proofs.RowLemmas as row
use Rattle.pp_graph.specs.declared.node.Node.{Node}
use Rattle.pp_graph.specs.Plan.{Plan, IsWellFormed}
use Rattle.pp_check.specs.Spans.{act_of}
use Rattle.pp_check.specs.steps.Ends.{EndsOf, EndsAt, ends_of}
use Rattle.pp_check.specs.steps.Rows.{TellsBelow, AreRowsOf, IsFlowOf, with_rows}
use Rattle.pp_check.proofs.SpanLemmas.{edge-is}
use Rattle.pp_check.proofs.WellLemmas.{edge-within}

-- the rows of one node are from it, and lead to nodes
pub rows-of-node : (g : Plan) → IsWellFormed g → (node : ℕ) (n : Node) → slice_get g.nodes node ≡ Some n → (rows : List Move) → Adds node [] rows (EndsOf n.kind) → AreRowsOf node (length g.nodes) rows
rows-of-node g well node n at rows adds k m e =
    elim ((adds counts 0 m.from m.to (omega arith)).0 (record { place = k; made = m; listed = e; from = refl; to = refl; on = tt })) [
      | inl none ↦ absurd (has-none none)
      | inr here ↦
          let ends : EndsAt (slice_get g.nodes node) counts 0 m.to = subst (λ (o : Option Node). EndsAt o counts 0 m.to) (sym at) here.1 in
          (here.0, edge-within g well node m.to ((edge-is (slice_get g.nodes node) 0 m.to).1 ends))
    ]

-- the rows of one more node
pub tells-more : (nodes : List Node) (node : ℕ) (n : Node) (before rows : List Move) → slice_get nodes node ≡ Some n → TellsBelow nodes node before → Adds node [] rows (EndsOf n.kind) →
    TellsBelow nodes (suc node) (before ++ rows)
tells-more nodes node n before rows at tells adds =
    row.tells-more (ends_of nodes) node before (before ++ rows) tells
    (subst (λ (o : Option Node). Adds node before (before ++ rows) (EndsAt o)) (sym at) (adds-behind node before rows (EndsOf n.kind) adds))

-- no rows tell of no node
pub tells-none : (nodes : List Node) → TellsBelow nodes 0 []
tells-none nodes = row.tells-none (ends_of nodes)

-- the node that is read at a place
pub node-at : (g : Plan) (nodes : List Node) (told place : ℕ) (n : Node) → nodes ≡ g.nodes → told ≡ place → place < length g.nodes → slice_get g.nodes told ≡ Some (get_or nodes place n)
node-at g nodes told place n same at low =
    subst (λ (i : ℕ). slice_get g.nodes i ≡ Some (get_or nodes place n)) (sym at)
    (slice_get-get_or g.nodes place n low ∙ ap (λ (ns : List Node). Some (get_or ns place n)) (sym same))

-- rows of a node that is the next
pub adds-at : (told place : ℕ) (seen rows : List Move) (P : Ends) → told ≡ place → seen ≡ rows → Adds place [] rows P → Adds told [] seen P
adds-at told place seen rows P at same adds = subst (λ (i : ℕ). Adds i [] seen P) (sym at) (subst (λ (ms : List Move). Adds place [] ms P) (sym same) adds)

-- as many acts as nodes
pub acts-length : (g : Plan) (flow : Chart) → IsFlowOf g flow → length flow.acts ≡ length g.nodes
acts-length g flow is = ap length is.acts ∙ length-map g.nodes (λ (n : Node). act_of n.kind)

-- the flow with the rows of one more node
pub flow-more : (g : Plan) (before pushed after : Chart) (n : Node) (rows : List Move) → IsFlowOf g before → slice_get g.nodes before.told ≡ Some n → Adds before.told [] rows (EndsOf n.kind) →
    pushed ≡ with_rows before rows → after ≡ with_point pushed → IsFlowOf g after
flow-more g before pushed after n rows is at adds push end = subst (IsFlowOf g) (sym (end ∙ ap with_point push)) (record {
  acts = is.acts;
  entry = is.entry;
  tells = tells-more g.nodes before.told n before.moves rows at is.tells adds;
})
