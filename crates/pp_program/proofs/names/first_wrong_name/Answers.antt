use Rattle.std.proofs.Common.{ap, sym, ◌∙◌, Some}
use Rattle.std.proofs.lemmas.Option.{slice_get-get_or}
use Rattle.pp_rules.specs.NameTables.{is_at}
use Rattle.pp_program.proofs.NameLemmas.{name-more, name-all}
use Rattle.pp_program.proofs.names.first_wrong_name.Goals as goal

pub loop-i-preserved : goal.loop-i-preserved
loop-i-preserved c =
    name-more c.args.names.now c.loop-i.i c.index-names-i.result (is_at c.loop-i.table) (is_at c.is_wrong.new.table) c.in_ok-is_wrong.field-0
    (slice_get-get_or c.args.names.now c.loop-i.i c.index-names-i.result c.loop-i-test.true ∙ ap Some (sym c.index-names-i.is)) c.loop-i.invariant.0 c.loop-i.invariant.1 c.in_ok-is_wrong.ensures.wrong c.in_ok-is_wrong.ensures.added c.if-branch.false

pub returns : goal.returns
returns c = name-all c.args.names.now c.loop-i.i c.loop-i-test.false c.loop-i.invariant.1
