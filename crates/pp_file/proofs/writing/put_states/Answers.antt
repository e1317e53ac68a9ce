use Rattle.std.proofs.Common.{◌++◌, flat_map, arith}
use Rattle.pp_file.specs.Spelling.{spelled_state}
use Rattle.pp_file.proofs.PutLemmas.{put_one_state, origin_fits, instr_fits}
use Rattle.pp_file.proofs.writing.put_states.Goals as goal

pub put_state-requires-clause-origin : goal.put_state-requires-clause-origin
put_state-requires-clause-origin g c = origin_fits _ c.requires _ _ c.origin.ensures

pub put_state-requires-clause-instr : goal.put_state-requires-clause-instr
put_state-requires-clause-instr g c = instr_fits _ c.requires _ _ c.fetch-instr.ensures.read

pub loop-state-preserved : goal.loop-state-preserved
loop-state-preserved g c = record {
  written = put_one_state c.args.program.now.program.states c.loop-state.state c.origin.result c.fetch-instr.result.now c.loop-state.out.items c.put_state.new.out.items
      (c.args.out.now.items ++ flat_map spelled_state c.args.program.now.program.states) c.fetch-instr.ensures.read c.origin.ensures c.loop-state.invariant.written c.in_ok-put_state.ensures;
  ticked = omega (arith, c.loop-state.invariant.ticked, c.fetch-instr.ensures.ticked);
}
