use Rattle.std.proofs.Common.{◌≡◌, ◌++◌, sym, subst, arith}
use Rattle.pp_program.specs.declared.program.Program.{Program}
use Rattle.pp_file.specs.Spelling.{spelled_parts}
use Rattle.pp_file.specs.steps.Places.{FinishFits}
use Rattle.pp_file.proofs.PlaceLemmas.{program_fits, file-short}
use Rattle.pp_file.proofs.PutLemmas.{front, written, length-whole, whole_file}
use Rattle.pp_file.proofs.writing.write_program.Goals as goal

pub put_counts-requires : goal.put_counts-requires
put_counts-requires g c = program_fits _ c.gap-gap.ensures.verified.valid

pub put_finish-requires : goal.put_finish-requires
put_finish-requires g c = subst FinishFits (sym c.finish_rule.ensures) (program_fits c.args.program.now.program c.gap-gap.ensures.verified.valid).finish

pub put_states-requires : goal.put_states-requires
put_states-requires g c = program_fits _ c.gap-gap.ensures.verified.valid

pub put_length-requires-clause-short : goal.put_length-requires-clause-short
put_length-requires-clause-short g c =
    let p : Program = c.args.program.now.program in
    let whole : c.put_states.new.out.items ≡ front ++ spelled_parts p =
    written p c.finish_rule.result _ _ _ _ _ _ _ _ _ c.in_ok-out.ensures.items c.in_ok-extend_from_slice.ensures.items c.in_ok-put_counts.ensures c.finish_rule.ensures
    c.in_ok-put_finish.ensures c.in_ok-put_props.ensures c.in_ok-put_hosts.ensures c.in_ok-put_spans.ensures c.in_ok-put_names.ensures c.in_ok-put_states.ensures.states in
    omega (arith, length-whole p c.put_states.new.out.items whole, file-short p c.gap-gap.ensures.verified.valid)

pub returns-clause-spelled : goal.returns-clause-spelled
returns-clause-spelled g c =
    let p : Program = c.args.program.now.program in
    let whole : c.put_states.new.out.items ≡ front ++ spelled_parts p =
    written p c.finish_rule.result _ _ _ _ _ _ _ _ _ c.in_ok-out.ensures.items c.in_ok-extend_from_slice.ensures.items c.in_ok-put_counts.ensures c.finish_rule.ensures
    c.in_ok-put_finish.ensures c.in_ok-put_props.ensures c.in_ok-put_hosts.ensures c.in_ok-put_spans.ensures c.in_ok-put_names.ensures c.in_ok-put_states.ensures.states in
    whole_file p c.put_states.new.out.items c.put_length.new.out.items whole c.put_length.ensures
