-- The run of a graph ends, having come to no node twice at one place, or it comes to a node twice at one place. Without a
-- loop it ends.
use Rattle.std.proofs.Common.{◌⊎◌, inl, inr, ℕ, Option, length, refl}
use Rattle.std.specs.Prelude.{slice_get}
use Rattle.pp_event.specs.Loops.{AreBytes}
use Rattle.pp_event.specs.Run.{Stage, RunResult}
use Rattle.pp_event.specs.Runs.{IsBounded}
use Rattle.pp_event.proofs.ReturnLaws as run
use Rattle.pp_mean.specs.Loops.{IsLoopFree, graph_moves}
use Rattle.pp_mean.specs.Mean.{entry_with}
use Rattle.pp_mean.specs.Nodes.{graph_turn}
use Rattle.pp_mean.specs.Whole.{Given, EndsOnce, ComesBack, begin}
use Rattle.pp_mean.proofs.SteadyLaws.{graph-steady, graph-placed, graph-elsewhere}

-- one or the other
abbrev pub EndsOrComesBack : Given → Type 0
EndsOrComesBack x = ((r : RunResult) × EndsOnce x r) ⊎ ((node : ℕ) × (byte : Option ℕ) × ComesBack x node byte)

-- an end, as the lemmas of runs give it
ends : (x : Given) (r : RunResult) → run.EndsOnce (graph_turn x.graph) x.oracle (begin x) r → EndsOnce x r
ends x r e = record { moves_made = e.moves_made; ended = e.ended; once = e.once }

-- a return, as they give it
comes_back : (x : Given) (d : Stage) → run.Returns (graph_turn x.graph) x.oracle (begin x) d → ComesBack x d.config.node (slice_get x.bytes d.config.at)
comes_back x d b = record { moves_made = b.moves_made; stage = d; there = b.there; node_is = refl; byte_is = refl; once = b.once; again = b.again }

-- and as they take it
returns : (x : Given) (node : ℕ) (byte : Option ℕ) → (b : ComesBack x node byte) → run.Returns (graph_turn x.graph) x.oracle (begin x) b.stage
returns x node byte b = record { moves_made = b.moves_made; there = b.there; once = b.once; again = b.again }

-- each run does one
pub ends_or_comes_back : (x : Given) → EndsOrComesBack x
ends_or_comes_back x =
    elim (run.run_or_return (graph_turn x.graph) (graph-steady x.graph) (graph-placed x.graph) (length x.graph.nodes) (graph-elsewhere x.graph) x.oracle (begin x)) [
      | inl e ↦ inl (e.0, ends x e.0 e.1)
      | inr b ↦ inr (b.0.config.node, slice_get x.bytes b.0.config.at, comes_back x b.0 b.1)
    ]

-- and no run does both
pub not_both : (x : Given) (r : RunResult) (node : ℕ) (byte : Option ℕ) → EndsOnce x r → ComesBack x node byte → ⊥
not_both x r node byte e b =
    run.ends_or_returns (graph_turn x.graph) x.oracle (begin x) b.stage r (record { moves_made = e.moves_made; ended = e.ended; once = e.once }) (returns x node byte b)

-- without a loop it never comes back
pub never_back : (x : Given) → IsLoopFree x.graph → IsBounded x.oracle → AreBytes x.bytes → (node : ℕ) (byte : Option ℕ) → ComesBack x node byte → ⊥
never_back x free bounded bytes node byte b =
    run.never_returns (graph_moves x.graph) free (graph-steady x.graph) (graph-placed x.graph) x.oracle bounded (entry_with x.graph x.values) x.bytes x.resumes refl bytes b.stage (returns x node byte b)

-- and so it ends
pub ends_once : (x : Given) → IsLoopFree x.graph → IsBounded x.oracle → AreBytes x.bytes → (r : RunResult) × EndsOnce x r
ends_once x free bounded bytes =
    elim (ends_or_comes_back x) [ inl e ↦ e | inr b ↦ absurd (never_back x free bounded bytes b.0 b.1 b.2) ]
