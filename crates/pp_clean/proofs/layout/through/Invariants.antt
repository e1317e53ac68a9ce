use Rattle.std.proofs.Common.{◌≡◌, take, map, get_or}
use Rattle.pp_clean.proofs.layout.through.Given as goal

abbrev pub invariant-loop-place : goal.invariant-loop-place
invariant-loop-place l = l.out.items ≡ map (λ n. get_or l.next n 0) (take l.place-index l.first)
