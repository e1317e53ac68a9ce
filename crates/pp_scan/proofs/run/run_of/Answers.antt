use Rattle.std.proofs.Common.{◌≡◌, ℕ, ◌+◌, List, drop, take, sym, ◌∙◌, ap, arith, length-take}
use Rattle.std.proofs.lemmas.List.{take_rest}
use Rattle.std.proofs.lemmas.List.Sums.{prefix_len-le-length}
use Rattle.std.specs.List.{prefix_len}
use Rattle.pp_bytes.specs.Ranges.{in_ranges}
use Rattle.pp_scan.proofs.RunLemmas.{run_more, run_ends, run_within}
use Rattle.pp_scan.proofs.run.run_of.Goals as goal

pub overflow_add-at : goal.overflow_add-at
overflow_add-at c =
    let p = in_ranges c.args.ranges.now in
    let bytes = c.args.bytes.now in
    let run = c.block_run-run.ensures ∙ ap (λ (rest : List ℕ). prefix_len p (take 32 rest)) (take_rest bytes c.loop-at.at) in
    omega (arith, run_within p 32 c.loop-at.at bytes c.loop-at.invariant.within, run)

pub returns-then-run-lt-LANES-clause-run : goal.returns-then-run-lt-LANES-clause-run
returns-then-run-lt-LANES-clause-run c =
    let p = in_ranges c.args.ranges.now in
    let bytes = c.args.bytes.now in
    let run = c.block_run-run.ensures ∙ ap (λ (rest : List ℕ). prefix_len p (take 32 rest)) (take_rest bytes c.loop-at.at) in
    omega (arith, run_ends p 32 c.loop-at.at bytes (omega arith) (omega (arith, run)), run, c.loop-at.invariant.rest)

pub loop-at-preserved : goal.loop-at-preserved
loop-at-preserved c =
    let p = in_ranges c.args.ranges.now in
    let bytes = c.args.bytes.now in
    let at = c.loop-at.at in
    let run = c.block_run-run.ensures ∙ ap (λ (rest : List ℕ). prefix_len p (take 32 rest)) (take_rest bytes at) in
    let whole : prefix_len p (take 32 (drop at bytes)) ≡ 32 = omega (arith, run, prefix_len-le-length p (take 32 (drop at bytes)), length-take 32 (drop at bytes)) in
    let step : c.block_run-run.result ≡ 32 = omega (arith, run, whole) in
    record {
      within = omega (arith, step);
      rest =
          ap (λ (n : ℕ). at + n + prefix_len p (drop (at + n) bytes)) step
          ∙ sym (run_more p 32 at bytes (omega arith) whole)
          ∙ c.loop-at.invariant.rest;
    }

pub overflow_add-result : goal.overflow_add-result
overflow_add-result c =
    let p = in_ranges c.args.ranges.now in
    let run = c.plain_run.ensures ∙ ap (prefix_len p) (take_rest c.args.bytes.now c.loop-at.at) in
    omega (arith, prefix_len-le-length p c.args.bytes.now, run, c.loop-at.invariant.rest)

pub returns-clause-within : goal.returns-clause-within
returns-clause-within c =
    let p = in_ranges c.args.ranges.now in
    let run = c.plain_run.ensures ∙ ap (prefix_len p) (take_rest c.args.bytes.now c.loop-at.at) in
    omega (arith, prefix_len-le-length p c.args.bytes.now, run, c.loop-at.invariant.rest)
