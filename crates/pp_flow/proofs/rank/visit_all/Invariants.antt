use Rattle.std.proofs.Common.{◌≡◌, ◌<◌, ℕ, length, get_or}
use Rattle.pp_flow.specs.steps.Bits.{Has}
use Rattle.pp_flow.specs.steps.Search.{IsSearched}
use Rattle.pp_flow.proofs.rank.visit_all.Given as goal

abbrev pub invariant-loop-x : goal.invariant-loop-x
invariant-loop-x l = record {
  searched : IsSearched l.moves l.starts (length l.fn.color) l.b l.color l.next l.rank;
  met : (x : ℕ) → x < l.x → Has l.words x l.b → get_or l.color x 0 ≡ 2;
}
