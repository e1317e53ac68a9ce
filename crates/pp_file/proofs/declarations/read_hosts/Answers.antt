use Rattle.std.proofs.Common.{◌≡◌, ◌++◌, ◌∷◌, [], Ok, None, ap, sym, ◌∙◌}
use Rattle.std.proofs.lemmas.Result.{err_from_is_err_and}
use Rattle.pp_file.specs.Fields.{any_at}
use Rattle.pp_file.specs.Parts.{host_at}
use Rattle.pp_file.proofs.LoopLemmas.{goes_on_freely, stops, is_done}
use Rattle.pp_file.proofs.declarations.read_hosts.Goals as goal

pub returns-in_err-host : goal.returns-in_err-host
returns-in_err-host c =
    let p = err_from_is_err_and c.from_residual.result c.from_residual.ensures.1 in
    rw (p.1, p.2) (stops (λ _. host_at) c.in_err-host.field-0.0 c.loop.hosts.items c.args.count c.loop.counter None c.loop.cursor (any_at host_at c.args.count c.args.cursor.now) c.loop-test.true c.in_err-host.ensures c.loop.invariant)

pub loop-preserved : goal.loop-preserved
loop-preserved c =
    rw c.in_ok-push.ensures.items (goes_on_freely host_at c.loop.hosts.items c.args.count c.loop.counter c.loop.cursor c.in_ok-host.host c.read_host.new.cursor (any_at host_at c.args.count c.args.cursor.now) c.loop-test.true c.in_ok-host.ensures c.loop.invariant)

pub returns : goal.returns
returns c =
    rw c.of.ensures (is_done (λ _. host_at) c.loop.hosts.items c.args.count c.loop.counter None c.loop.cursor (any_at host_at c.args.count c.args.cursor.now) c.loop-test.false c.loop.invariant)
