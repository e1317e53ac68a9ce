use Rattle.std.proofs.Common.{◌≡◌, ◌++◌, subst}
use Rattle.std.specs.Result.{OnOk}
use Rattle.pp_rules.proofs.KeptLemmas.{spread-use}
use Rattle.pp_rules.proofs.kept.push_all.Goals as goal

pub returns-in-Some-use_of : goal.returns-in-Some-use_of
returns-in-Some-use_of c =
    subst (λ calls. OnOk c.push_bytes.result (c.push_bytes.new.all.items ≡ c.args.all.now.items ++ calls))
    (spread-use c.args.call c.args.set c.in-Some.bytes c.in-Some-use_of.how c.in-Some-use_of.target.now c.requires c.in-Some.is c.in-Some-use_of.ensures)
    c.push_bytes.ensures
