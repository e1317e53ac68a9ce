-- The lines of calls, as runs of one line.
use Rattle.std.specs.Prelude.{ℕ, List, flat_map, replicate}
use Rattle.pp_text.specs.declared.calls.Run.{Run}

-- the line of each call
abbrev pub lines_of : List Run → List ℕ
lines_of runs = flat_map (λ (run : Run). replicate run.calls run.line) runs
