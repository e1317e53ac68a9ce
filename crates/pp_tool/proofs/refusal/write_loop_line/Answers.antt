-- The five pieces are the line.
use Rattle.std.proofs.Common.{◌∙◌, subst}
use Rattle.std.specs.Prelude.{OnOk, OnErr}
use Rattle.pp_outside.specs.Sink.{Adds, AddsSome}
use Rattle.pp_tool.proofs.PieceLemmas.{loop_pieces}
use Rattle.pp_tool.proofs.refusal.write_loop_line.Goals as goal

pub returns-clause-whole : goal.returns-clause-whole
returns-clause-whole g c =
    let line = loop_pieces _ c.args.node.now _ _ _ c.args.byte c.as_slice.ensures c.as_slice-2.ensures (c.as_slice-3.ensures ∙ c.hex_digits-digits.ensures) c.as_slice-4.ensures in
    subst (λ l. OnOk c.write_pieces.result (Adds (g.E.Sink.written c.args.errors.now) (g.E.Sink.written c.write_pieces.new.errors) l)) line c.write_pieces.ensures.whole

pub returns-clause-front : goal.returns-clause-front
returns-clause-front g c =
    let line = loop_pieces _ c.args.node.now _ _ _ c.args.byte c.as_slice.ensures c.as_slice-2.ensures (c.as_slice-3.ensures ∙ c.hex_digits-digits.ensures) c.as_slice-4.ensures in
    subst (λ l. OnErr c.write_pieces.result (AddsSome (g.E.Sink.written c.args.errors.now) (g.E.Sink.written c.write_pieces.new.errors) l)) line c.write_pieces.ensures.front
