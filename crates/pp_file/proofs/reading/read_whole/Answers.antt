use Rattle.std.proofs.Common.{ℕ, ◌≡◌, Ok, ap, sym, subst, ◌∙◌, arith}
use Rattle.pp_file.specs.Fields.{Left}
use Rattle.pp_file.specs.Reading.{all_at}
use Rattle.pp_file.proofs.HeadLemmas.{is_countable, cursor_is}
use Rattle.pp_file.proofs.reading.read_whole.Goals as goal

pub verify-requires : goal.verify-requires
verify-requires c =
    is_countable c.args.bytes.now c.in_ok-program.program (λ i. omega (arith, c.type_inv.bytes i)) c.in_ok-length.ensures.ok.whole
    (cursor_is c.args.bytes.now c.in_ok-length.length c.new-cursor.result c.in_ok-program.program c.in_ok-length.ensures.ok.is_stated c.new-cursor.ensures c.in_ok-program.ensures.ok)
