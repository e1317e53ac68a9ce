-- What the steps of `run_whole` do, by the turns and moves of the meaning.
use Rattle.std.specs.Prelude.{◌≡◌, ℕ, ◌+◌, ◌<◌, List, [], Option, Some, None, length, drop, unwrap_or, Bool, ◌==◌, ◌&&◌, nat_lt, if◌then◌else◌, slice_index, count_by}
use Rattle.pp_graph.specs.declared.node.Key.{Key}
use Rattle.pp_graph.specs.declared.node.Kind.{Kind}
use Rattle.pp_graph.specs.declared.node.Kind.TheVariants.{Match, Invoke, Consume, SpanOpen, SpanClose, Pause, Fail}
use Rattle.pp_event.specs.declared.item.Item.{Item}
use Rattle.pp_event.specs.Answers.{is_call_of}
use Rattle.pp_event.specs.Chain.{Move, On, Over}
use Rattle.pp_event.specs.Run.{Config, Turn, Rests, Stage, RunResult, Finish}
use Rattle.pp_event.specs.Effects.{Uses}
use Rattle.pp_event.specs.Turns.{to}
use Rattle.pp_mean.specs.declared.matching.Edge.{Edge}
use Rattle.pp_mean.specs.declared.whole.End.{End}
use Rattle.pp_mean.specs.declared.whole.WholeRun.{WholeRun}
use Rattle.pp_mean.specs.Nodes.{rests_at, common}
use Rattle.pp_mean.specs.Whole.{IsEnd, open_from}

-- a key begins with all of these bytes and goes on
abbrev pub outlasts : List ℕ → Key → Bool
outlasts bytes k = common k.bytes bytes == length bytes && nat_lt (length bytes) (length k.bytes)

-- the turn that takes an edge, or waits without one
abbrev pub edge_turn : Config → List ℕ → Option Edge → Turn
edge_turn c rest None = Rests (rests_at c rest)
edge_turn c rest (Some e) = to c e.target e.taken e.number

-- the edge of a key
abbrev pub key_edge : Key → Edge
key_edge k = record { target = k.target; taken = length k.bytes; number = unwrap_or k.number 0 }

-- of two edges the one that takes more bytes, the first where both take as many
abbrev pub farther : Option Edge → Option Edge → Option Edge
farther None b = b
farther (Some e) None = Some e
farther (Some e) (Some f) = if nat_lt e.taken f.taken then Some f else Some e

-- a node of this kind uses properties and spans that are there
abbrev pub UsesKind : Config → Kind → Type 0
UsesKind c (Match fold keys peeks other) = Unit {0}
UsesKind c (Invoke what answers other) = Uses (length c.values) what
UsesKind c (Consume prop next) = prop < length c.values
UsesKind c (SpanOpen span next) = span < length c.spans
UsesKind c (SpanClose span next) = span < length c.spans
UsesKind c (Pause number reason next) = Unit {0}
UsesKind c (Fail number reason) = Unit {0}

-- each of 64 host codes was called so often
pub record CountsCalls (calls : List ℕ) (items : List Item) : Type 0 where
  pub long : length calls ≡ 64
  pub counts : (host : ℕ) → host < 64 → slice_index calls host ≡ count_by (is_call_of host) items

-- the stage behind so many bytes more
abbrev pub took : Stage → ℕ → Stage
took s taken = record s { config = record s.config { at = s.config.at + taken }; rest = drop taken s.rest }

-- the stage behind all bytes
abbrev pub waited : Stage → Stage
waited s = record s { config = rests_at s.config s.rest; rest = [] }

-- the run stands here now, and goes on, or has ended so: this is the move that it made
abbrev pub Made : Stage → Option End → Move Stage RunResult → Type 0
Made new None m = m ≡ On new
Made new (Some end) m = (finish : Finish) × (m ≡ Over (record { finish = finish; last = new })) × IsEnd end new.config.node finish

-- the run that ended so at this stage
pub record ShowsStage (s : Stage) (end : End) (w : WholeRun) : Type 0 where
  pub items : w.items ≡ s.items
  pub end_is : w.end ≡ end
  pub props : w.props ≡ s.config.values
  pub at : w.at ≡ s.config.at
  pub spans : w.spans ≡ open_from 0 s.config.spans
