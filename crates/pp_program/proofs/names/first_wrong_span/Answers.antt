use Rattle.std.proofs.Common.{map}
use Rattle.pp_rules.specs.declared.declaration.SpanDecl.{SpanDecl}
use Rattle.pp_rules.specs.NameTables.{is_at}
use Rattle.pp_program.proofs.NameLemmas.{name-more, name-all-map, listed-map}
use Rattle.pp_program.proofs.names.first_wrong_span.Goals as goal

pub loop-i-preserved : goal.loop-i-preserved
loop-i-preserved c =
    name-more (map (λ (d : SpanDecl). d.name) c.args.spans.now) c.loop-i.i _ (is_at c.loop-i.table) (is_at c.is_wrong.new.table) c.in_ok-is_wrong.field-0
    (listed-map (λ (d : SpanDecl). d.name) c.args.spans.now c.loop-i.i _ c.loop-i-test.true) c.loop-i.invariant.0 c.loop-i.invariant.1 c.in_ok-is_wrong.ensures.wrong c.in_ok-is_wrong.ensures.added c.if-branch.false

pub returns : goal.returns
returns c = name-all-map (λ (d : SpanDecl). d.name) c.args.spans.now c.loop-i.i c.loop-i-test.false c.loop-i.invariant.1
