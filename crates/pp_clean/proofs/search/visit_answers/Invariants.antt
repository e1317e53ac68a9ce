use Rattle.std.proofs.Common.{◌≡◌, drop, map, length, get_or}
use Rattle.pp_graph.specs.declared.node.Answer.{Answer}
use Rattle.pp_clean.specs.Search.{visited_all}
use Rattle.pp_clean.proofs.search.visit_answers.Given as goal

abbrev pub invariant-loop-answer : goal.invariant-loop-answer
invariant-loop-answer l = record {
  long : length l.marks.items ≡ length l.initial.marks.items;
  done : visited_all (record { marks = l.marks.items; work = l.work.items }) (map (λ t. get_or l.landing t 0) (map (λ (a : Answer). a.target) (drop l.answer-index l.answers)))
      ≡ visited_all (record { marks = l.initial.marks.items; work = l.initial.work.items }) (map (λ t. get_or l.landing t 0) (map (λ (a : Answer). a.target) l.answers));
}
