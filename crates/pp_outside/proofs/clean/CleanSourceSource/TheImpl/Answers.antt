-- What the trait asks of a read, from what this one says.
use Rattle.std.proofs.Common.{rules}
use Rattle.pp_outside.proofs.clean.CleanSourceSource.TheImpl.Goals as goal

pub read-tells : goal.read-tells
read-tells g c =
    record {
      bound = search rules;
      moved = search rules;
      end = search rules;
      failed = search rules;
      kept = search rules;
      never_falls = search rules;
      fits = search rules;
    }
