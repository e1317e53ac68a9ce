-- No other record is this one.
use Rattle.std.proofs.Common.{◌≡◌, [], false, true}
use Rattle.pp_capture.specs.Spelling.{Begins}
use Rattle.pp_tool.proofs.capture.behind_begin.Goals as goal

pub returns-in_default-clause-only : goal.returns-in_default-clause-only
returns-in_default-clause-only c len h = c.in_default.ensures.only (Begins 0 [] []) len h

pub returns-else-is_begin-clause-only : goal.returns-else-is_begin-clause-only
returns-else-is_begin-clause-only c len h =
    let no : false ≡ true = c.if-is_begin.ensures.1 (c.in-Ok.ensures.only (Begins 0 [] []) len h).0 in cc
