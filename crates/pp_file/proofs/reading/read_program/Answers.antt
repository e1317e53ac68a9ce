use Rattle.std.proofs.Common.{arith}
use Rattle.pp_file.proofs.AnswerLemmas.{ok_says, only_says, fault_says, first_says, magic_says, version_says, short_says}
use Rattle.pp_file.proofs.reading.read_program.Goals as goal

pub returns-clause-ok : goal.returns-clause-ok
returns-clause-ok c = ok_says c.args.bytes.now c.read_whole.result (λ i. omega (arith, c.type_inv.bytes i)) c.read_whole.ensures

pub returns-clause-fault : goal.returns-clause-fault
returns-clause-fault c = fault_says c.args.bytes.now c.read_whole.result c.read_whole.ensures

pub returns-clause-first : goal.returns-clause-first
returns-clause-first c = first_says c.args.bytes.now c.read_whole.result c.read_whole.ensures

pub returns-clause-magic : goal.returns-clause-magic
returns-clause-magic c = magic_says c.args.bytes.now c.read_whole.result c.read_whole.ensures

pub returns-clause-version : goal.returns-clause-version
returns-clause-version c = version_says c.args.bytes.now c.read_whole.result c.read_whole.ensures

pub returns-clause-short : goal.returns-clause-short
returns-clause-short c = short_says c.args.bytes.now c.read_whole.result c.read_whole.ensures

pub returns-clause-only : goal.returns-clause-only
returns-clause-only c = only_says c.args.bytes.now c.read_whole.result c.read_whole.ensures
