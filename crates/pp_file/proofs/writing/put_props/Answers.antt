use Rattle.pp_rules.specs.declared.declaration.PropDecl.{PropDecl}
use Rattle.pp_file.specs.Spelling.{spelled_prop}
use Rattle.pp_file.proofs.PutLemmas.{put_more}
use Rattle.pp_file.proofs.writing.put_props.Goals as goal

pub loop-i-preserved : goal.loop-i-preserved
loop-i-preserved c = put_more PropDecl spelled_prop _ c.loop-i.i _ _ _ _ c.prop.ensures c.loop-i.invariant c.in_ok-put_prop.ensures
