use Rattle.pp_event.specs.Run.{RunResult}
use Rattle.pp_mean.specs.Whole.{Given, EndsOnce}
use Rattle.pp_mean.proofs.ReturnLaws.{ends_once}
use Rattle.pp_lower.specs.Kept.{KeepsMeaning}
use Rattle.pp_lower.specs.Lowered.{lowered}
use Rattle.pp_lower.proofs.FormLaws.{well_formed_lowers}
use Rattle.pp_lower.proofs.LowerLaws.{lowering_keeps as keeps}
use Rattle.pp_lower.proofs.laws.lowering_adds_none.Goals as goal

pub returns : goal.returns
returns c g values bytes oracle resumes q form free bounded are_bytes run =
    let given : Given = record { graph = g; values = values; oracle = oracle; resumes = resumes; bytes = bytes } in
    let one : (r : RunResult) × EndsOnce given r = ends_once given free bounded are_bytes in
    let kept : KeepsMeaning g (lowered g) = keeps g (well_formed_lowers g form) in
    (one.0, (one.1.moves_made, one.1.ended), kept.back values bytes oracle resumes one.0 q (one.1.moves_made, one.1.ended) run)
