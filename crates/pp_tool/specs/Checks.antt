-- The stage that checks a graph: that it has no loop, and that its spans fit.
use Rattle.std.specs.Prelude.{◌≡◌, ℕ, List, [], Option, Some, None, slice_get, slice_index}
use Rattle.pp_rules.specs.declared.declaration.SpanDecl.{SpanDecl}
use Rattle.pp_graph.specs.Plan.{Plan}
use Rattle.pp_mean.specs.Loops.{IsLoopFree}
use Rattle.pp_check.specs.declared.checked.CheckFault.TheVariants.{SpanReopened, SpanNotOpen, SpanMixed}
use Rattle.pp_check.specs.Loops.{IsLeastLoop}
use Rattle.pp_check.specs.Spans.{SpansFit}
use Rattle.pp_check.specs.Checked.{IsFault}
use Rattle.pp_tool.specs.declared.refusal.CheckReason.{CheckReason}
use Rattle.pp_tool.specs.declared.refusal.CheckReason.TheVariants as check
use Rattle.pp_tool.specs.declared.refusal.Refusal.{Refusal}
use Rattle.pp_tool.specs.declared.refusal.Refusal.TheVariants as refusal
use Rattle.pp_tool.specs.Verdict.{Outcome, Gives, Refuses}
use Rattle.pp_tool.specs.Report.{name_of_node}

-- the name of a span, or nothing where there is none
abbrev pub name_of_span : Option SpanDecl → List ℕ
name_of_span None = []
name_of_span (Some s) = s.name

-- the graph has no loop, and its spans fit
pub record IsAccepted (g : Plan) : Type 0 where
  pub loop_free : IsLoopFree g
  pub spans_fit : SpansFit g

-- these are the names of a node and of a span
pub record AreNames (g : Plan) (node span : ℕ) (node_name span_name : List ℕ) : Type 0 where
  pub of_node : node_name ≡ name_of_node (slice_get g.nodes node)
  pub of_span : span_name ≡ name_of_span (slice_get g.spans span)

-- why the checks of a graph fail, by names: of a loop the least byte, and the least node on a cycle there; else the first
-- fault of spans
abbrev pub FailsFor : Plan → CheckReason → Type 0
FailsFor g check.NotYet = ⊥
FailsFor g (check.Loop name byte) = (cycle : List ℕ) × IsLeastLoop g byte cycle × (name ≡ name_of_node (slice_get g.nodes (slice_index cycle 0)))
FailsFor g (check.Reopened name at) = (node : ℕ) × (span : ℕ) × IsFault g (SpanReopened node span) × AreNames g node span at name
FailsFor g (check.NotOpen name at) = (node : ℕ) × (span : ℕ) × IsFault g (SpanNotOpen node span) × AreNames g node span at name
FailsFor g (check.Mixed name at) = (node : ℕ) × (span : ℕ) × IsFault g (SpanMixed node span) × AreNames g node span at name

-- the stage that hands on what it is handed where its graph is accepted, and else refuses it
abbrev pub Checks : {A : Type 0} → (A → Plan) → A → Outcome A → Type 0
Checks graph a (Gives b) = IsAccepted (graph a) × (b ≡ a)
Checks graph a (Refuses why before) = (reason : CheckReason) × FailsFor (graph a) reason × (why ≡ refusal.Check reason) × (before ≡ [])

-- a refusal of the checks
abbrev pub IsOfCheck : Refusal → Type 0
IsOfCheck (refusal.Graph why) = ⊥
IsOfCheck (refusal.Check why) = Unit {0}
IsOfCheck refusal.TooLong = ⊥
IsOfCheck refusal.Capture = ⊥
