-- A capture from its beginning on.
use Rattle.std.proofs.Common.{List, ℕ, sym, subst}
use Rattle.pp_capture.specs.Spelling.{IsCapture as AreRecords}
use Rattle.pp_tool.specs.Capture.{parts_records}
use Rattle.pp_tool.proofs.CaptureLemmas.{begins}
use Rattle.pp_tool.proofs.capture.read_capture.Goals as goal

pub returns-in-Some-clause-only : goal.returns-in-Some-clause-only
returns-in-Some-clause-only c parts h =
    let b = begins c.args.bytes.now parts h in
    c.read_parts.ensures.only parts (subst (λ (l : List ℕ). AreRecords l (parts_records parts)) (sym (c.in-Some.ensures.only b.0 b.1)) b.2)

pub returns-in-None-clause-only : goal.returns-in-None-clause-only
returns-in-None-clause-only c parts h = let b = begins c.args.bytes.now parts h in absurd (c.in-None.ensures.only b.0 b.1)
