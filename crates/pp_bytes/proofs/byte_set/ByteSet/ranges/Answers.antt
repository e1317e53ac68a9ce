use Rattle.std.proofs.Common.{◌≡◌, ℕ, ◌+◌, ◌≤◌, refl, arith, subst}
use Rattle.std.proofs.lemmas.Bool.{both_ways}
use Rattle.pp_bytes.specs.steps.Found.{HasRunsBelow}
use Rattle.pp_bytes.specs.Runs.{runs_of}
use Rattle.pp_bytes.proofs.RunLemmas.{all_runs, same_bytes}
use Rattle.pp_bytes.proofs.byte_set.ByteSet.ranges.Goals as goal
use Rattle.pp_bytes.proofs.byte_set.ByteSet.ranges.Goals.{else-loop-b-test, then-loop-b-test+in_ok-ranges+else-b-lt255}

-- behind the greatest byte the ranges are all runs of the set
found : (c : goal.Left-loop-b) → HasRunsBelow c.args.self.now c.loop-b-test.ranges 256
found c = elim c.loop-b-test.branch [
  | else-loop-b-test w ↦ absurd (omega arith)
  | then-loop-b-test+in_ok-ranges+else-b-lt255 w ↦
      let last : c.loop-b.b + 1 ≡ 256 = omega arith in
      rw w.ranges-is (subst (λ (n : ℕ). HasRunsBelow c.args.self.now w.in_ok-ranges.ranges n) last w.in_ok-ranges.ensures.found)
]

-- so there are at most 8
few : (c : goal.Left-loop-b) → runs_of c.args.self.now ≤ 8
few c = omega (arith, all_runs c.args.self.now c.loop-b-test.ranges 256 (found c) (omega arith), (found c).few)

pub returns-clause-same : goal.returns-clause-same
returns-clause-same c = same_bytes c.args.self.now c.loop-b-test.ranges 256 (found c) (omega arith)

pub returns-clause-some : goal.returns-clause-some
returns-clause-some c = (λ _. few c, λ _. refl)

pub returns-clause-none : goal.returns-clause-none
returns-clause-none c = (λ none. absurd (both_ways _ none refl), λ many. absurd (omega (arith, few c)))
