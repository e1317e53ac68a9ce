use Rattle.std.proofs.Common.{refl}
use Rattle.std.proofs.lemmas.Result.{on_ok_weaker}
use Rattle.pp_check.proofs.RowLemmas.{other-all}
use Rattle.pp_check.proofs.rows.other_rows.Goals as goal

pub returns : goal.returns
returns c =
    on_ok_weaker c.set_rows-2.result
    (λ last. other-all _ c.args.fold c.args.keys.now c.args.peeks.now c.args.other _ _ _ _ _ _ refl c.other_bytes-others.ensures c.taken_bytes-taken.ensures c.in_ok-set_rows.ensures last)
    c.set_rows-2.ensures
