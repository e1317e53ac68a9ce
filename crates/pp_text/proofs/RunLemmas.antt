-- The lines of calls, by their runs.
use Rattle.std.proofs.Common.{◌≡◌, ℕ, ◌+◌, ◌<◌, ◌≤◌, List, [], ◌∷◌, ◌++◌, length, map, take, get_or, replicate, sym, ap, ◌∙◌, arith}
use Rattle.std.proofs.lemmas.List.{flat_map_more, take_all, length-replicate, get_or-replicate, get_or_past}
use Rattle.std.proofs.lemmas.List.Concat.{get_or-flat_map}
use Rattle.std.proofs.lemmas.Option.{unwrap_or-slice_get}
use Rattle.std.proofs.lemmas.Simd.{splat_is_map}
use Rattle.std.specs.Prelude.{unwrap_or, slice_get}
use Rattle.pp_rules.specs.declared.call.BuilderCall.{BuilderCall}
use Rattle.pp_text.specs.declared.calls.Run.{Run}
use Rattle.pp_text.specs.steps.Lines.{lines_of}

-- the lines of a run
abbrev of_run : Run → List ℕ
of_run run = replicate run.calls run.line

-- behind other runs, a run gives its line once for each of its calls
pub lines-push : (runs : List Run) (run : Run) → lines_of (runs ++ run ∷ []) ≡ lines_of runs ++ replicate run.calls run.line
lines-push runs run = sym (flat_map_more of_run [] runs run)

-- one line for each call
pub lines-told : (line n : ℕ) (calls : List BuilderCall) → n ≡ length calls → replicate n line ≡ map (λ c. line) calls
lines-told line n calls is = splat_is_map calls n line (sym is)

-- a call that lies in a run has its line
pub line-in : (runs : List Run) (i before call last : ℕ) (d : Run) → i < length runs → before < (get_or runs i d).calls → length (lines_of (take i runs)) + before ≡ call →
    (get_or runs i d).line ≡ unwrap_or (slice_get (lines_of runs) call) last
line-in runs i before call last d within below at =
    let run = get_or runs i d in
    let inside : before < length (of_run run) = omega (arith, below, length-replicate run.calls run.line) in
    sym (
    unwrap_or-slice_get (lines_of runs) call last
    ∙ ap (λ k. get_or (lines_of runs) k last) (sym at)
    ∙ get_or-flat_map of_run runs i before d last within inside
    ∙ get_or-replicate run.calls before run.line last below)

-- a call behind all runs has the last line
pub line-behind : (runs : List Run) (i before call last : ℕ) → length runs ≤ i → length (lines_of (take i runs)) + before ≡ call → last ≡ unwrap_or (slice_get (lines_of runs) call) last
line-behind runs i before call last above at =
    let all : length (lines_of (take i runs)) ≡ length (lines_of runs) = ap (λ l. length (lines_of l)) (take_all i runs above) in
    sym (unwrap_or-slice_get (lines_of runs) call last ∙ get_or_past (lines_of runs) call last (omega (arith, all, at)))
