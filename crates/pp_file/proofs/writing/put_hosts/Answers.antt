use Rattle.pp_rules.specs.declared.declaration.HostDecl.{HostDecl}
use Rattle.pp_file.specs.Spelling.{spelled_host}
use Rattle.pp_file.proofs.PutLemmas.{put_more}
use Rattle.pp_file.proofs.writing.put_hosts.Goals as goal

pub loop-i-preserved : goal.loop-i-preserved
loop-i-preserved c = put_more HostDecl spelled_host _ c.loop-i.i _ _ _ _ c.host.ensures c.loop-i.invariant c.in_ok-put_host.ensures
