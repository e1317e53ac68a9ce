-- One line.
use Rattle.std.proofs.Common.{◌+◌, ◌≤◌, length, refl, inl}
use Rattle.pp_text.specs.Text.{Whole, Open, BeginWithLine}
use Rattle.pp_text.specs.steps.Rows.{RowIs}
use Rattle.pp_text.proofs.LineStepLemmas.{long_only, row_leads, row_ends, line_leads, line_ends, line_wrong, whole_wrong, open_wrong}
use Rattle.pp_text.proofs.reading.read_line.Goals as goal

pub returns-in-None : goal.returns-in-None
returns-in-None c = long_only c.args.room c.args.line c.args.bytes.now c.args.draft.now (c.in-None.ensures.beyond refl) (c.in-None.ensures.no_end refl)

pub returns-in-Leads : goal.returns-in-Leads
returns-in-Leads c =
    let line = c.args.line in
    let bytes = c.args.bytes.now in
    let a = c.args.draft.now in
    let b = c.read_row.new.draft in
    let row = c.in-Some-Whole.row.now in
    let rest = c.in-Some-Whole.rest.now in
    let begins : BeginWithLine bytes (Whole row rest) = rw c.in-Some-Whole.field-0-is at c.in-Some-Whole.ensures.found in
    let within : length bytes ≤ c.args.room + length rest = rw c.in-Some-Whole.field-0-is at c.in-Some-Whole.ensures.within in
    let leads = row_leads c.in_ok-read_row-in-Some-Whole.field-0 b (RowIs line row a) c.in-Leads.is c.in_ok-read_row-in-Some-Whole.ensures.answer in
    line_leads c.args.room line bytes row rest a b begins within leads c.in_ok-read_row-in-Some-Whole.ensures.count

pub returns-in-Ends : goal.returns-in-Ends
returns-in-Ends c =
    let line = c.args.line in
    let bytes = c.args.bytes.now in
    let a = c.args.draft.now in
    let b = c.read_row.new.draft in
    let row = c.in-Some-Whole.row.now in
    let rest = c.in-Some-Whole.rest.now in
    let begins : BeginWithLine bytes (Whole row rest) = rw c.in-Some-Whole.field-0-is at c.in-Some-Whole.ensures.found in
    let within : length bytes ≤ c.args.room + length rest = rw c.in-Some-Whole.field-0-is at c.in-Some-Whole.ensures.within in
    let ends = row_ends c.in_ok-read_row-in-Some-Whole.field-0 b (RowIs line row a) c.in-Ends.is c.in_ok-read_row-in-Some-Whole.ensures.answer in
    line_ends c.args.room line bytes a b (Whole row rest) begins within c.requires.some ends

pub returns-in-Wrong : goal.returns-in-Wrong
returns-in-Wrong c =
    let line = c.args.line in
    let bytes = c.args.bytes.now in
    let a = c.args.draft.now in
    let b = c.read_row.new.draft in
    let row = c.in-Some-Whole.row.now in
    let rest = c.in-Some-Whole.rest.now in
    let begins : BeginWithLine bytes (Whole row rest) = rw c.in-Some-Whole.field-0-is at c.in-Some-Whole.ensures.found in
    let within : length bytes ≤ c.args.room + length rest = rw c.in-Some-Whole.field-0-is at c.in-Some-Whole.ensures.within in
    let wrong = whole_wrong line row rest a b c.in_ok-read_row-in-Some-Whole.field-0 c.in-Wrong.is c.in_ok-read_row-in-Some-Whole.ensures.answer in
    inl (line_wrong c.args.room line bytes a (Whole row rest) begins within c.requires.some wrong)

pub returns-in-Ends-2 : goal.returns-in-Ends-2
returns-in-Ends-2 c =
    let line = c.args.line in
    let bytes = c.args.bytes.now in
    let a = c.args.draft.now in
    let b = c.read_row-in-Some-Open.new.draft in
    let row = c.in-Some-Open.row.now in
    let begins : BeginWithLine bytes (Open row) = rw c.in-Some-Open.field-0-is at c.in-Some-Open.ensures.found in
    let within : length bytes ≤ c.args.room + 0 = rw c.in-Some-Open.field-0-is at c.in-Some-Open.ensures.within in
    let ends = row_ends c.in_ok-read_row-in-Some-Open.field-0 b (RowIs line row a) c.in-Ends-2.is c.in_ok-read_row-in-Some-Open.ensures.answer in
    line_ends c.args.room line bytes a b (Open row) begins within c.requires.some ends

pub returns-in-Leads-2 : goal.returns-in-Leads-2
returns-in-Leads-2 c =
    let line = c.args.line in
    let bytes = c.args.bytes.now in
    let a = c.args.draft.now in
    let b = c.read_row-in-Some-Open.new.draft in
    let row = c.in-Some-Open.row.now in
    let begins : BeginWithLine bytes (Open row) = rw c.in-Some-Open.field-0-is at c.in-Some-Open.ensures.found in
    let within : length bytes ≤ c.args.room + 0 = rw c.in-Some-Open.field-0-is at c.in-Some-Open.ensures.within in
    let wrong = open_wrong line row a b c.in_ok-read_row-in-Some-Open.field-0 c.in-Leads-2.is c.in_ok-read_row-in-Some-Open.ensures.answer in
    inl (line_wrong c.args.room line bytes a (Open row) begins within c.requires.some wrong)
