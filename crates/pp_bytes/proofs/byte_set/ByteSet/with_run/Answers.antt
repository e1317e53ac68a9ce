use Rattle.std.proofs.Common.{◌<◌, length, arith, sym}
use Rattle.pp_bytes.proofs.RunLemmas.{more_runs, runs_below_more_yes, runs_below_more_no}
use Rattle.pp_bytes.proofs.byte_set.ByteSet.with_run.Goals as goal
use Rattle.pp_bytes.proofs.byte_set.ByteSet.with_run.Goals.{then-begins_run+else-len-eq8, else-begins_run}

pub returns-then-len-eq8-clause-full : goal.returns-then-len-eq8-clause-full
returns-then-len-eq8-clause-full c =
    omega (arith, more_runs c.args.self.now c.args.ranges c.args.b c.requires (omega arith) (sym c.if-begins_run.ensures), c.len.ensures.count)

pub returns-clause-found : goal.returns-clause-found
returns-clause-found c = elim c.if-begins_run.branch [
  | then-begins_run+else-len-eq8 w ↦
      let room : length c.args.ranges < 8 = omega (arith, w.len.ensures.count, c.requires.few) in
      rw (w.ranges-is, w.push.ensures) (runs_below_more_yes c.args.self.now c.args.ranges c.args.b _ c.requires (omega arith) (sym w.if-begins_run.ensures) room w.run_end.ensures)
  | else-begins_run w ↦
      rw w.ranges-is (runs_below_more_no c.args.self.now c.args.ranges c.args.b c.requires (omega arith) (sym w.if-begins_run.ensures))
]
