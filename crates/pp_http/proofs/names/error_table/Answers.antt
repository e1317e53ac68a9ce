use Rattle.std.proofs.Common.{refl}
use Rattle.pp_http.specs.Names.{errors}
use Rattle.pp_http.proofs.names.error_table.Goals as goal

pub returns : goal.returns
unfolding errors
returns c = refl
