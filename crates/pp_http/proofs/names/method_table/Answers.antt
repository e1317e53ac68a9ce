use Rattle.std.proofs.Common.{refl}
use Rattle.pp_http.specs.Lines.{method_names}
use Rattle.pp_http.proofs.names.method_table.Goals as goal

pub returns : goal.returns
unfolding method_names
returns c = refl
