use Rattle.std.proofs.Common.{arith, subst, sym, List}
use Rattle.std.proofs.lemmas.List.{take_rest}
use Rattle.pp_frame.specs.declared.parts.Field.{Field}
use Rattle.pp_frame.specs.steps.Heads.{HasReadFields}
use Rattle.pp_frame.proofs.HeadLemmas.{fields_none, fields_more, fields_end, fields_fault, fields_no_end, cut_line}
use Rattle.pp_frame.proofs.head.read_fields.Goals as goal

pub loop-len-init : goal.loop-len-init
loop-len-init c =
    let P : List Field → Type 0 = λ fields. HasReadFields c.args.head.now fields 0 1 in
    subst P (sym c.new-fields.ensures.items) (fields_none c.args.head.now)

pub returns-then-len-eq0 : goal.returns-then-len-eq0
returns-then-len-eq0 c =
    let head = c.args.head.now in
    let at = c.loop-len.at in
    let begins = rw (take_rest head at, c.if-len-eq0.true) at c.in-Some.ensures.some in
    fields_end head c.loop-len.fields.items at c.loop-len.line c.loop-len.invariant begins

pub returns-in_default-field_in : goal.returns-in_default-field_in
returns-in_default-field_in c =
    let head = c.args.head.now in
    let at = c.loop-len.at in
    let len = c.in-Some.len in
    let begins = rw (take_rest head at) at c.in-Some.ensures.some in
    let lacks = rw (cut_line at len) at c.in_default-field_in.ensures in
    let is_fault = rw (take_rest head at) at c.line_fault.ensures in
    fields_fault head c.loop-len.fields.items at c.loop-len.line len c.line_fault.result c.loop-len.invariant begins (omega arith) lacks is_fault

pub loop-len-preserved : goal.loop-len-preserved
loop-len-preserved c =
    let head = c.args.head.now in
    let at = c.loop-len.at in
    let len = c.in-Some.len in
    let begins = rw (take_rest head at) at c.in-Some.ensures.some in
    let found = rw (cut_line at len) at c.in-Some-field_in.ensures in
    fields_more head c.loop-len.fields.items at c.loop-len.line len c.in-Some-field_in.field c.push.new.self.items c.loop-len.invariant begins (omega arith) found.0 found.1 c.in_ok-push.ensures.items

pub returns : goal.returns
returns c =
    let head = c.args.head.now in
    let no_end = rw (take_rest head c.loop-len.at) at c.in_default.ensures.none in
    fields_no_end head c.loop-len.fields.items c.loop-len.at c.loop-len.line c.loop-len.invariant no_end
