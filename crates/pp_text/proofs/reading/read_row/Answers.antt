-- A row, statement by statement.
use Rattle.std.proofs.Common.{ap, arith}
use Rattle.std.proofs.lemmas.Result.{IfOk-weaker}
use Rattle.pp_text.specs.steps.Rows.{IsRowAnswer, RowIs, LastIs}
use Rattle.pp_text.specs.Tokens.{GoesOn, Ends}
use Rattle.pp_text.specs.steps.View.{tokens_of, behind_of, length_behind}
use Rattle.pp_text.proofs.DraftLemmas.{SameEnds-trans}
use Rattle.pp_text.proofs.RowStepLemmas.{row_answer, row_next, row_none, row_stop, row_last, left_behind, begins_alone, begins_none, leads_alone, leads_none}
use Rattle.pp_text.proofs.reading.read_row.Goals as goal

pub returns-in_default-behind-clause-answer : goal.returns-in_default-behind-clause-answer
returns-in_default-behind-clause-answer c =
    let line = c.args.line in
    let row = c.loop-behind.rest.now in
    let a = c.loop-behind.draft in
    let b = c.end_row.new.draft in
    let given = c.deref.result.now in
    let found = c.in_ok-behind.ensures in
    let begins = begins_alone row c.read_tokens.new.tokens.items given c.in_ok-behind.field-0 c.in-Some.behind Ends c.in-Some.is c.deref.ensures.value (ap behind_of c.in_default-behind.is) found.found found.only in
    let One = LastIs line (tokens_of given) a in
    let Row = RowIs line row a in
    let Whole = RowIs line c.args.row.now c.args.draft.now in
    IfOk-weaker c.end_row.result (λ end. IsRowAnswer end b One) (λ end. IsRowAnswer end b Whole)
    (λ end h. row_answer end b Row Whole c.loop-behind.invariant.1 (row_answer end b One Row (row_last line row (tokens_of given) a begins) h)) c.end_row.ensures.answer

pub returns-then-not-branch-clause-answer : goal.returns-then-not-branch-clause-answer
returns-then-not-branch-clause-answer c = λ other w.
    let line = c.args.line in
    let row = c.loop-behind.rest.now in
    let a = c.loop-behind.draft in
    let next = c.in-Statement.next.now in
    let given = c.deref-in-Some.result.now in
    let found = c.in_ok-behind.ensures in
    let begins = begins_alone row c.read_tokens.new.tokens.items given c.in_ok-behind.field-0 c.in-Some.behind (GoesOn next) c.in-Some.is c.deref-in-Some.ensures.value (ap behind_of c.in-Statement.is) found.found found.only in
    let none = leads_none line a c.add.new.self (tokens_of given) c.in_ok-add.field-0 c.if-not-branch.true c.in_ok-add.ensures.only in
    row_stop line row next (tokens_of given) a begins none other (c.loop-behind.invariant.1.from other w)

pub loop-behind-preserved : goal.loop-behind-preserved
loop-behind-preserved c =
    let line = c.args.line in
    let row = c.loop-behind.rest.now in
    let a = c.loop-behind.draft in
    let b = c.add.new.self in
    let next = c.in-Statement.next.now in
    let given = c.deref-in-Some.result.now in
    let found = c.in_ok-behind.ensures in
    let begins = begins_alone row c.read_tokens.new.tokens.items given c.in_ok-behind.field-0 c.in-Some.behind (GoesOn next) c.in-Some.is c.deref-in-Some.ensures.value (ap behind_of c.in-Statement.is) found.found found.only in
    let leads = leads_alone line a b (tokens_of given) c.in_ok-add.field-0 c.if-not-branch.false c.in_ok-add.ensures.leads c.in_ok-add.ensures.only in
    let left = left_behind row next c.read_tokens.new.tokens.items given c.in_ok-behind.field-0 c.in-Some.behind c.in-Some.is c.deref-in-Some.ensures.value (ap length_behind c.in-Statement.is) found.short in (
      omega (arith, c.in_ok-add.ensures.count, left),
      SameEnds-trans _ _ _ (row_next line row next (tokens_of given) a b begins leads) c.loop-behind.invariant.1,
    )

pub returns-clause-answer : goal.returns-clause-answer
returns-clause-answer c = λ other w.
    let none = begins_none c.loop-behind.rest.now c.read_tokens.new.tokens.items c.in_ok-behind.field-0 c.in_default.is c.in_ok-behind.ensures.only in
    row_none c.args.line c.loop-behind.rest.now c.loop-behind.draft none other (c.loop-behind.invariant.1.from other w)
