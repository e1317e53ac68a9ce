-- That a graph has no answer of a check is absurd: neither that it is in order nor a fault, no gap, or no masks.
use Rattle.std.proofs.Common.{◌≡◌, ◌≢◌, ℕ, ◌-◌, ◌≤◌, ◌<◌, ◌⊎◌, inl, inr, List, ◌∷◌, length, Option, Some, None, refl, sym, subst, arith, slice_index}
use Rattle.std.specs.Prelude.{slice_get}
use Rattle.std.proofs.lemmas.Option.{slice_get_within}
use Rattle.std.proofs.lemmas.Map.Steps.{length-le_from_distinct_below}
use Rattle.pp_graph.specs.declared.node.Node.{Node}
use Rattle.pp_graph.specs.Plan.{Plan}
use Rattle.pp_event.proofs.FlowLemmas.{reached-byte}
use Rattle.pp_event.specs.Loops.{Reaches, at_entry, FreeMove, FreeWay, stay, IsGap, LeadsTo}
use Rattle.pp_mean.specs.Nodes.{node_turn}
use Rattle.pp_mean.specs.Loops.{graph_moves, IsLoopFree, AnswerEdge}
use Rattle.pp_check.specs.declared.checked.CheckFault.{CheckFault}
use Rattle.pp_check.specs.declared.checked.CheckFault.TheVariants.{Loop, SpanReopened, SpanNotOpen, SpanMixed, NoMemory}
use Rattle.pp_check.specs.Loops.{IsOnCycle, IsLeastLoop}
use Rattle.pp_check.specs.Spans.{Reopens, ClosesShut, Mixes, HasNo, IsLeast, HasNoFault, SpansFit, MayBeOpen, TellsOpen}
use Rattle.pp_check.specs.Checked.{IsFault, NoneBefore}
use Rattle.pp_check.proofs.AbsurdLemmas.{either, least, most}
use Rattle.pp_check.proofs.WayLemmas.{nodes_of, nodes-length, row_of, left, distinct_of}
use Rattle.pp_check.proofs.MaskLemmas.{masks_some}

-- the graph has this fault, which is one of the graph
abbrev pub HasFault : Plan → Type 0
HasFault g = (f : CheckFault) × (f ≢ NoMemory) × IsFault g f

-- ---- loops

-- a cycle at the least byte and the least node
least_loop : (g : Plan) (a node : ℕ) → ((c n : ℕ) → c < a → IsOnCycle g c n → ⊥) → IsLeast (IsOnCycle g a) node → (cycle : List ℕ) × IsLeastLoop g a cycle
least_loop g a node none_before first =
    let row = row_of (graph_moves g) a first.0.way (omega arith) in (
      row.0,
      record {
        in_bytes = reached-byte (graph_moves g) first.0.reached;
        round = record {
          some = row.1.some;
          links = row.1.links;
          closes = subst (λ (x : ℕ). FreeMove (graph_moves g) a (slice_index row.0 (length row.0 - 1)) x) (sym row.1.first) row.1.last;
        };
        reached = subst (λ (x : ℕ). Reaches (graph_moves g) a x) (sym row.1.first) first.0.reached;
        least_byte = none_before;
        least_node = λ n before on. first.1 n (subst (λ (x : ℕ). n < x) row.1.first before) on;
      },
    )

-- some node is on a cycle at this byte
abbrev HasLoopAt : Plan → ℕ → Type 0
HasLoopAt g a = (node : ℕ) × IsOnCycle g a node

loop_fault : (g : Plan) (a : ℕ) → HasLoopAt g a → ¬ (¬ (HasFault g))
loop_fault g a has none =
    least (HasLoopAt g) a has (λ byte.
    least (IsOnCycle g byte.0) byte.1.0.0 byte.1.0.1 (λ node. loop_by byte.0 node.0 (least_loop g byte.0 node.0 (λ c n before on. byte.1.1 c before (n, on)) node.1)))
  where
    loop_by : (b node : ℕ) → (cycle : List ℕ) × IsLeastLoop g b cycle → ⊥
    loop_by b node found = none (Loop b found.0, (λ e. absurd cc), found.1)

-- ---- spans

-- a node has a fault of spans
abbrev Faulty : Plan → ℕ → Type 0
Faulty g node = ((s : ℕ) × Reopens g node s) ⊎ (((s : ℕ) × ClosesShut g node s) ⊎ ((s : ℕ) × Mixes g node s))

no_fault : (g : Plan) (node : ℕ) → ¬ (Faulty g node) → HasNoFault g node
no_fault g node fits = record {
  reopens = λ s h. fits (inl (s, h));
  closes = λ s h. fits (inr (inl (s, h)));
  mixes = λ s h. fits (inr (inr (s, h)));
}

module _ (g : Plan) (free : IsLoopFree g) (node : ℕ) (before : NoneBefore g node) where
  reopened : (s : ℕ) → Reopens g node s → ¬ (¬ (HasFault g))
  reopened s h none = least (Reopens g node) s h (λ first. none (SpanReopened node first.0, (λ e. absurd cc), (free, before, first.1)))

  not_open : HasNo (Reopens g node) → (s : ℕ) → ClosesShut g node s → ¬ (¬ (HasFault g))
  not_open opens s h none = least (ClosesShut g node) s h (λ first. none (SpanNotOpen node first.0, (λ e. absurd cc), (free, before, opens, first.1)))

  mixed : HasNo (Reopens g node) → HasNo (ClosesShut g node) → (s : ℕ) → Mixes g node s → ¬ (¬ (HasFault g))
  mixed opens closes s h none = least (Mixes g node) s h (λ first. none (SpanMixed node first.0, (λ e. absurd cc), (free, before, opens, closes, first.1)))

  last_kind : HasNo (Reopens g node) → HasNo (ClosesShut g node) → Faulty g node → ¬ (¬ (HasFault g))
  last_kind opens closes (inl h) none = opens h.0 h.1
  last_kind opens closes (inr (inl h)) none = closes h.0 h.1
  last_kind opens closes (inr (inr h)) none = mixed opens closes h.0 h.1 none

  by_kind : ((s : ℕ) × Reopens g node s) ⊎ ¬ ((s : ℕ) × Reopens g node s) → ((s : ℕ) × ClosesShut g node s) ⊎ ¬ ((s : ℕ) × ClosesShut g node s) → Faulty g node → ¬ (¬ (HasFault g))
  by_kind (inl h) closes faulty none = reopened h.0 h.1 none
  by_kind (inr opens) (inl h) faulty none = not_open (λ s o. opens (s, o)) h.0 h.1 none
  by_kind (inr opens) (inr closes) faulty none = last_kind (λ s o. opens (s, o)) (λ s c. closes (s, c)) faulty none

  node_fault : Faulty g node → ¬ (¬ (HasFault g))
  node_fault faulty none =
      either ((s : ℕ) × Reopens g node s) (λ opens.
      either ((s : ℕ) × ClosesShut g node s) (λ closes. by_kind opens closes faulty none))

spans_fault : (g : Plan) → IsLoopFree g → (node : ℕ) → Faulty g node → ¬ (¬ (HasFault g))
spans_fault g free node faulty none =
    least (Faulty g) node faulty (λ first. node_fault g free first.0 (λ k less. no_fault g k (first.1.1 k less)) first.1.0 none)

-- ---- an answer

free_of : (g : Plan) → ¬ ((a : ℕ) × HasLoopAt g a) → IsLoopFree g
free_of g no_loop b node n r w = no_loop (b, (node, record { reached = r; size = n; way = w }))

by_loops : (g : Plan) → ((a : ℕ) × HasLoopAt g a) ⊎ ¬ ((a : ℕ) × HasLoopAt g a) → ((node : ℕ) × Faulty g node) ⊎ ¬ ((node : ℕ) × Faulty g node) →
    ¬ (¬ ((IsLoopFree g × SpansFit g) ⊎ HasFault g))
by_loops g (inl loop) faults none = loop_fault g loop.0 loop.1 (λ f. none (inr f))
by_loops g (inr no_loop) (inl faulty) none = spans_fault g (free_of g no_loop) faulty.0 faulty.1 (λ f. none (inr f))
by_loops g (inr no_loop) (inr fits) none = none (inl (free_of g no_loop, λ node. no_fault g node (λ faulty. fits (node, faulty))))

-- it has no loop and its spans fit, or it has a fault
pub some_answer : (g : Plan) → ¬ (¬ ((IsLoopFree g × SpansFit g) ⊎ ((f : CheckFault) × (f ≢ NoMemory) × IsFault g f)))
some_answer g none =
    either ((a : ℕ) × HasLoopAt g a) (λ loops.
    either ((node : ℕ) × Faulty g node) (λ faults. by_loops g loops faults none))

-- ---- a gap

there : (g : Plan) (node : ℕ) (P : Option Node → Type 0) → (P None → ⊥) → P (slice_get g.nodes node) → node < length g.nodes
there g node P fails h = by (slice_get g.nodes node) refl
  where
    by : (o : Option Node) → slice_get g.nodes node ≡ o → node < length g.nodes
    by None e = absurd (fails (subst P e h))
    by (Some n) e = slice_get_within g.nodes node n e

-- a free move leads from a node that is there
move_there : (g : Plan) (b node next : ℕ) → FreeMove (graph_moves g) b node next → node < length g.nodes
move_there g b node next (inl leads) =
    let at = there g leads.0.node (λ (o : Option Node). LeadsTo (node_turn o leads.0 (b ∷ leads.1)) 0 next) (λ h. h) leads.4 in
    subst (λ (x : ℕ). x < length g.nodes) leads.3 at
move_there g b node next (inr edge) = there g node (λ (o : Option Node). AnswerEdge o next) (λ h. h) edge

-- a row of free moves is no longer than the list of nodes
way_short : (g : Plan) → IsLoopFree g → (b node n end : ℕ) → Reaches (graph_moves g) b node → FreeWay (graph_moves g) b node n end → n ≤ length g.nodes
way_short g free b node n end r w =
    let size : length (nodes_of (graph_moves g) b w) ≡ n = nodes-length (graph_moves g) b w in
    let few : length (nodes_of (graph_moves g) b w) ≤ length g.nodes = length-le_from_distinct_below (nodes_of (graph_moves g) b w) (length g.nodes)
    (distinct_of (graph_moves g) b free r w)
    (λ q h. let out = left (graph_moves g) b w q h in move_there g b q out.0 out.1) in
    omega arith

-- a row of so many free moves
abbrev HasWay : Plan → ℕ → Type 0
HasWay g n = (b node end : ℕ) × Reaches (graph_moves g) b node × FreeWay (graph_moves g) b node n end

pub some_gap : (g : Plan) → IsLoopFree g → ¬ (¬ ((gap : ℕ) × IsGap (graph_moves g) gap))
some_gap g free none =
    let first : HasWay g 0 = (0, g.entry, g.entry, at_entry (omega arith), stay) in
    most (HasWay g) (length g.nodes) first (λ n has. way_short g free has.0 has.1 n has.2 has.3 has.4) (λ greatest.
    none (
      greatest.0,
      record {
        most = λ b node n end r w. greatest.1.1 n (b, node, end, r, w);
        met = greatest.1.0;
      },
    ))

-- ---- masks

pub some_masks : (g : Plan) → ¬ (¬ ((opened : List ℕ) × TellsOpen g opened))
some_masks g none = masks_some (λ node s. MayBeOpen g s node) (length g.nodes) (λ masks. none (masks.0, record { long = masks.1.0; exact = masks.1.1 }))
