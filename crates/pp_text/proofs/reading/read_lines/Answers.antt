-- Line by line.
use Rattle.std.proofs.Common.{◌≡◌, ◌-◌, length, refl, arith, inr}
use Rattle.std.proofs.lemmas.Result.{err_from_is_err_and}
use Rattle.pp_text.specs.steps.Rows.{LinesAre, GoesOn, EndsHere}
use Rattle.pp_text.specs.Text.{limit}
use Rattle.pp_text.proofs.LineStepLemmas.{fault_same, reading_goes_on, reading_ends, reading_stops}
use Rattle.pp_text.proofs.reading.read_lines.Goals as goal

pub returns-in_err-behind : goal.returns-in_err-behind
returns-in_err-behind c =
    let p = err_from_is_err_and c.from_residual.result c.from_residual.ensures.1 in
    rw (p.1, p.2)
    (fault_same (LinesAre c.loop-rest.room c.loop-rest.line c.loop-rest.draft c.loop-rest.rest.now) (LinesAre limit 1 c.args.draft.now c.args.bytes.now) c.in_err-behind.field-0.0 c.loop-rest.invariant.same c.in_err-behind.ensures)

pub loop-rest-preserved : goal.loop-rest-preserved
loop-rest-preserved c =
    let on : GoesOn c.loop-rest.room c.loop-rest.line c.loop-rest.draft c.loop-rest.rest.now c.read_line.new.draft c.in-Leads.behind.now = rw c.in-Leads.is at c.in_ok-behind.ensures in
    reading_goes_on c.args.draft.now c.args.bytes.now c.loop-rest.room c.loop-rest.line c.loop-rest.draft c.loop-rest.rest.now c.read_line.new.draft c.in-Leads.behind.now _ _ c.loop-rest.invariant on refl refl

pub returns-in-Ends : goal.returns-in-Ends
returns-in-Ends c =
    let here : EndsHere c.loop-rest.room c.loop-rest.line c.loop-rest.draft c.loop-rest.rest.now c.read_line.new.draft c.in-Ends.behind.now = rw c.in-Ends.is at c.in_ok-behind.ensures in
    reading_ends c.args.draft.now c.args.bytes.now c.loop-rest.room c.loop-rest.line c.loop-rest.draft c.loop-rest.rest.now c.read_line.new.draft c.in-Ends.behind.now _ c.loop-rest.invariant here refl

pub returns : goal.returns
returns c =
    let none : length c.loop-rest.rest.now ≡ 0 = grind arith in
    let only = reading_stops c.args.draft.now c.args.bytes.now c.loop-rest.room c.loop-rest.line c.loop-rest.draft c.loop-rest.rest.now c.loop-rest.invariant none in
    let most = c.max.ensures in
    inr (c.loop-rest.line - 1, only, omega arith)
