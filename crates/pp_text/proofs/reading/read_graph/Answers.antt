-- Each clause, from what the bytes are to the result.
use Rattle.pp_text.proofs.ReadingLemmas.{settles_graph, settles_syntax, settles_too_long, settles_rule, settles_graph_only, settles_syntax_only, settles_too_long_only, settles_rule_only}
use Rattle.pp_text.proofs.reading.read_graph.Goals as goal

pub returns-clause-graph : goal.returns-clause-graph
returns-clause-graph c = settles_graph c.args.bytes.now c.read_text.result c.read_text.ensures

pub returns-clause-syntax : goal.returns-clause-syntax
returns-clause-syntax c = settles_syntax c.args.bytes.now c.read_text.result c.read_text.ensures

pub returns-clause-too_long : goal.returns-clause-too_long
returns-clause-too_long c = settles_too_long c.args.bytes.now c.read_text.result c.read_text.ensures

pub returns-clause-rule : goal.returns-clause-rule
returns-clause-rule c = settles_rule c.args.bytes.now c.read_text.result c.read_text.ensures

pub returns-clause-graph_only : goal.returns-clause-graph_only
returns-clause-graph_only c = settles_graph_only c.args.bytes.now c.read_text.result c.read_text.ensures

pub returns-clause-syntax_only : goal.returns-clause-syntax_only
returns-clause-syntax_only c = settles_syntax_only c.args.bytes.now c.read_text.result c.read_text.ensures

pub returns-clause-too_long_only : goal.returns-clause-too_long_only
returns-clause-too_long_only c = settles_too_long_only c.args.bytes.now c.read_text.result c.read_text.ensures

pub returns-clause-rule_only : goal.returns-clause-rule_only
returns-clause-rule_only c = settles_rule_only c.args.bytes.now c.read_text.result c.read_text.ensures
