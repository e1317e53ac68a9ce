use Rattle.std.proofs.Common.{◌≡◌, drop}
use Rattle.pp_lower.specs.steps.Links.{link_by}
use Rattle.pp_lower.proofs.links.link_at.Given as goal

abbrev pub invariant-loop-link : goal.invariant-loop-link
invariant-loop-link l = link_by (drop l.link-index l.links) l.byte ≡ link_by l.links l.byte
