use Rattle.std.proofs.Common.{◌∙◌, ◌<◌, refl, sym, length, arith}
use Rattle.pp_lower.proofs.LinkLaws.{row_within, ends_apart, ends_held, ends_set, none_there}
use Rattle.pp_lower.proofs.links.add_end.Goals as goal

pub offset_bounds-ends-row : goal.offset_bounds-ends-row
offset_bounds-ends-row c = (let inside : c.in-Some.row < length c.args.ends.now = row_within c.args.text.now c.args.list.now c.in-Some.row (length c.args.ends.now) c.in-Some.ensures c.requires.long in omega arith)

pub bounds-ends-row : goal.bounds-ends-row
bounds-ends-row c = row_within c.args.text.now c.args.list.now c.in-Some.row (length c.args.ends.now) c.in-Some.ensures c.requires.long

pub offset_bounds-ends-row-then-is_none : goal.offset_bounds-ends-row-then-is_none
offset_bounds-ends-row-then-is_none c = (let inside : c.in-Some.row < length c.args.ends.now = row_within c.args.text.now c.args.list.now c.in-Some.row (length c.args.ends.now) c.in-Some.ensures c.requires.long in omega arith)

pub bounds-ends-row-then-is_none : goal.bounds-ends-row-then-is_none
bounds-ends-row-then-is_none c = row_within c.args.text.now c.args.list.now c.in-Some.row (length c.args.ends.now) c.in-Some.ensures c.requires.long

pub returns-then-is_none : goal.returns-then-is_none
returns-then-is_none c = λ texts n h. ends_set c.args.list.now texts c.args.ends.now _ c.args.text.now c.in-Some.row c.args.place c.requires.ordered c.in-Some.ensures
    (none_there _ c.if-is_none.ensures) n refl h

pub returns-else-is_none : goal.returns-else-is_none
returns-else-is_none c = λ texts n h. ends_held c.args.list.now texts c.args.ends.now c.args.text.now c.in-Some.row c.requires.ordered c.in-Some.ensures c.if-is_none.ensures h

pub returns-in_default : goal.returns-in_default
returns-in_default c = λ texts n h. ends_apart c.args.list.now texts c.args.ends.now c.args.text.now (sym c.in_default.is ∙ c.row_of.ensures) h
