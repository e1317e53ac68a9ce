use Rattle.std.proofs.Common.{◌≡◌, subst, sym, ℕ, [], List, Vec, Global, inl, inr}
use Rattle.pp_flow.proofs.RowLemmas.{adds-none, adds-then}
use Rattle.pp_flow.specs.declared.moves.Move.{Move}
use Rattle.pp_graph.specs.declared.node.Key.{Key}
use Rattle.pp_graph.specs.declared.node.Peek.{Peek}
use Rattle.pp_graph.specs.declared.node.Answer.{Answer}
use Rattle.pp_graph.specs.declared.node.Kind.{Kind}
use Rattle.pp_graph.specs.declared.node.Kind.TheVariants.{Match, Invoke, Consume, SpanOpen, SpanClose, Pause, Fail}
use Rattle.pp_check.specs.steps.Ends.{EndsOf, KeyEnds, PeekEnds, OtherEnds, AnswerEnds}
use Rattle.pp_flow.specs.Rows.{Adds}
use Rattle.pp_check.proofs.RowLemmas.{both-row, free-row}
use Rattle.pp_check.proofs.rows.rows_of.Goals as goal
use Rattle.pp_check.proofs.rows.rows_of.Goals.{in-Match+in_ok-key_rows-in-Match+in_ok-peek_rows-in-Match+in_ok-other_rows-in-Match, in-Invoke+in_ok-answer_rows-in-Invoke, in-Fail, in-SpanOpen+in_ok-row_on_all-in-SpanOpen, in-Consume+in_ok-row_on_all-in-Consume}

-- the rows of a kind that is shown, added to none
of-kind : (node : ℕ) (kind shown : Kind) (start : List Move) (rows after : Vec Move Global) → start ≡ [] → rows ≡ after → kind ≡ shown → Adds node start after.items (EndsOf shown) → Adds node [] rows.items (EndsOf kind)
of-kind node kind shown start rows after none same is adds =
    subst (λ (l : List Move). Adds node l rows.items (EndsOf kind)) none
    (subst (λ (v : Vec Move Global). Adds node start v.items (EndsOf kind)) (sym same) (subst (λ (k : Kind). Adds node start after.items (EndsOf k)) (sym is) adds))

pub returns : goal.returns
returns c = elim c.match-kind.branch [
  | in-Match+in_ok-key_rows-in-Match+in_ok-peek_rows-in-Match+in_ok-other_rows-in-Match w ↦
      let by_keys = subst (λ (keys : List Key). Adds c.args.from c.new-rows.result.items w.key_rows.new.rows.items (KeyEnds w.in-Match.fold keys keys)) w.items.ensures w.in_ok-key_rows-in-Match.ensures in
      let by_peeks = subst (λ (peeks : List Peek). Adds c.args.from w.key_rows.new.rows.items w.peek_rows.new.rows.items (PeekEnds w.in-Match.fold peeks)) w.items-in-Match.ensures w.in_ok-peek_rows-in-Match.ensures in
      let by_other = subst (λ (keys : List Key). Adds c.args.from w.peek_rows.new.rows.items w.other_rows.new.rows.items (OtherEnds w.in-Match.fold keys w.in-Match.peeks w.in-Match.other)) w.items-in-Match-2.ensures
      (subst (λ (peeks : List Peek). Adds c.args.from w.peek_rows.new.rows.items w.other_rows.new.rows.items (OtherEnds w.in-Match.fold w.items-in-Match-2.result.now peeks w.in-Match.other)) w.items-in-Match-3.ensures w.in_ok-other_rows-in-Match.ensures) in
      of-kind c.args.from c.args.kind.now (Match w.in-Match.fold w.in-Match.keys w.in-Match.peeks w.in-Match.other) _ c.match-kind.rows w.other_rows.new.rows c.new-rows.ensures.items w.rows-is w.in-Match.is
      (adds-then _ _ _ _ _ _ by_keys (adds-then _ _ _ _ _ _ by_peeks by_other))
  | in-Invoke+in_ok-answer_rows-in-Invoke w ↦
      of-kind c.args.from c.args.kind.now (Invoke w.in-Invoke.code w.in-Invoke.answers w.in-Invoke.other) _ c.match-kind.rows w.answer_rows.new.rows c.new-rows.ensures.items w.rows-is w.in-Invoke.is
      (subst (λ (answers : List Answer). Adds c.args.from c.new-rows.result.items w.answer_rows.new.rows.items (AnswerEnds answers w.in-Invoke.other)) w.items-in-Invoke.ensures w.in_ok-answer_rows-in-Invoke.ensures)
  | in-Fail w ↦ of-kind c.args.from c.args.kind.now (Fail w.in-Fail.code w.in-Fail.reason) _ c.match-kind.rows c.new-rows.result c.new-rows.ensures.items w.rows-is w.in-Fail.is (adds-none _ _)
  | in-SpanOpen+in_ok-row_on_all-in-SpanOpen w ↦
      let row = free-row _ _ _ _ w.in_ok-row_on_all-in-SpanOpen.ensures in
      elim w.in-SpanOpen.is [
        | inl is ↦ of-kind c.args.from c.args.kind.now (SpanOpen is.0 w.in-SpanOpen.next) _ c.match-kind.rows w.row_on_all.new.rows c.new-rows.ensures.items w.rows-is is.1 row
        | inr is ↦ of-kind c.args.from c.args.kind.now (SpanClose is.0 w.in-SpanOpen.next) _ c.match-kind.rows w.row_on_all.new.rows c.new-rows.ensures.items w.rows-is is.1 row
      ]
  | in-Consume+in_ok-row_on_all-in-Consume w ↦
      let row = both-row _ _ _ _ w.in_ok-row_on_all-in-Consume.ensures in
      elim w.in-Consume.is [
        | inl is ↦ of-kind c.args.from c.args.kind.now (Consume is.0 w.in-Consume.next) _ c.match-kind.rows w.row_on_all-in-Consume.new.rows c.new-rows.ensures.items w.rows-is is.1 row
        | inr is ↦ of-kind c.args.from c.args.kind.now (Pause is.0 is.1 w.in-Consume.next) _ c.match-kind.rows w.row_on_all-in-Consume.new.rows c.new-rows.ensures.items w.rows-is is.2 row
      ]
]
