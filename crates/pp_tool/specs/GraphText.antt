-- The stages that read a graph text: one that hands on what follows it, and one that wants nothing to follow it.
use Rattle.std.specs.Prelude.{◌≡◌, ◌≢◌, ◌⊎◌, ℕ, suc, List, []}
use Rattle.pp_graph.specs.Plan.{Plan}
use Rattle.pp_graph.specs.Built.{built}
use Rattle.pp_rules.specs.Rules.{KeepsRules}
use Rattle.pp_text.specs.Text.{Told, BeginWithText, IsWrongAt, IsTooLong}
use Rattle.pp_text.specs.Outcome.{Breaks}
use Rattle.pp_tool.specs.declared.refusal.GraphReason.{GraphReason}
use Rattle.pp_tool.specs.declared.refusal.GraphReason.TheVariants as graph
use Rattle.pp_tool.specs.declared.refusal.Refusal.{Refusal}
use Rattle.pp_tool.specs.declared.refusal.Refusal.TheVariants as refusal
use Rattle.pp_tool.specs.Verdict.{Outcome, Gives, Refuses}

-- the bytes begin with the text of a graph, whose `end` stands in the last line, and then the rest
pub record BeginsWithGraph (bytes : List ℕ) (g : Plan) (last : ℕ) (rest : List ℕ) : Type 0 where
  pub told : Told
  pub text : BeginWithText bytes told last rest
  pub rules : KeepsRules told.calls
  pub is : g ≡ built told.calls

-- why no graph begins the bytes
abbrev pub HasNoGraph : List ℕ → GraphReason → Type 0
HasNoGraph bytes graph.LongLine = IsTooLong bytes
HasNoGraph bytes (graph.WrongLine line) = IsWrongAt bytes line
HasNoGraph bytes (graph.BrokenRule line broken) = Breaks bytes line broken

-- bytes stand behind the text of a graph: they are wrong at the line behind that of `end`
abbrev pub HasMore : List ℕ → GraphReason → Type 0
HasMore bytes reason = (g : Plan) × (last : ℕ) × (rest : List ℕ) × BeginsWithGraph bytes g last rest × (rest ≢ []) × (reason ≡ graph.WrongLine (suc last))

-- why the bytes are not the text of a graph alone
abbrev pub IsNoGraph : List ℕ → GraphReason → Type 0
IsNoGraph bytes reason = HasNoGraph bytes reason ⊎ HasMore bytes reason

-- a graph, and the rest behind its text
abbrev pub Begun : Type 0
Begun = Plan × List ℕ

-- the stage that hands on both
abbrev pub ReadsText : List ℕ → Outcome Begun → Type 0
ReadsText bytes (Gives begun) = (last : ℕ) × BeginsWithGraph bytes begun.0 last begun.1
ReadsText bytes (Refuses why before) = (reason : GraphReason) × HasNoGraph bytes reason × (why ≡ refusal.Graph reason) × (before ≡ [])

-- the stage that wants the text alone
abbrev pub ReadsTextAlone : List ℕ → Outcome Plan → Type 0
ReadsTextAlone bytes (Gives g) = (last : ℕ) × BeginsWithGraph bytes g last []
ReadsTextAlone bytes (Refuses why before) = (reason : GraphReason) × IsNoGraph bytes reason × (why ≡ refusal.Graph reason) × (before ≡ [])

-- a refusal of the graph part
abbrev pub IsOfGraph : Refusal → Type 0
IsOfGraph (refusal.Graph why) = Unit {0}
IsOfGraph (refusal.Check why) = ⊥
IsOfGraph refusal.TooLong = ⊥
IsOfGraph refusal.Capture = ⊥
