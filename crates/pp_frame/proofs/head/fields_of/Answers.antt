use Rattle.pp_frame.proofs.HeadLemmas.{only_fields, only_no_end, only_no_colon, told_fields, told_no_end, told_no_colon}
use Rattle.pp_frame.proofs.PartLemmas.{told_parts}
use Rattle.pp_frame.proofs.head.fields_of.Goals as goal

pub returns-clause-ok : goal.returns-clause-ok
returns-clause-ok c = told_fields c.args.head.now _ c.read_fields.result c.read_fields.ensures

pub returns-clause-parts : goal.returns-clause-parts
returns-clause-parts c = told_parts c.args.head.now _ c.read_fields.result (told_fields c.args.head.now _ c.read_fields.result c.read_fields.ensures)

pub returns-clause-ok_only : goal.returns-clause-ok_only
returns-clause-ok_only c = only_fields c.args.head.now _ c.read_fields.result c.read_fields.ensures

pub returns-clause-no_end : goal.returns-clause-no_end
returns-clause-no_end c = told_no_end c.args.head.now _ c.read_fields.result c.read_fields.ensures

pub returns-clause-no_end_only : goal.returns-clause-no_end_only
returns-clause-no_end_only c = only_no_end c.args.head.now _ c.read_fields.result c.read_fields.ensures

pub returns-clause-no_colon : goal.returns-clause-no_colon
returns-clause-no_colon c = told_no_colon c.args.head.now _ c.read_fields.result c.read_fields.ensures

pub returns-clause-no_colon_only : goal.returns-clause-no_colon_only
returns-clause-no_colon_only c = only_no_colon c.args.head.now _ c.read_fields.result c.read_fields.ensures
