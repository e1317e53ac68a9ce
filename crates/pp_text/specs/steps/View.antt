-- The values of the reader, as the definitions see them.
use Rattle.std.specs.Prelude.{ℕ, List, length, map}
use Rattle.pp_rules.specs.declared.call.BuilderCall.{BuilderCall}
use Rattle.pp_rules.specs.declared.call.BuilderCall.TheVariants as call
use Rattle.pp_rules.specs.declared.call.NamedEdge.TheVariants as edge
use Rattle.pp_graph.specs.Calls.{named_kind}
use Rattle.pp_text.specs.declared.token.Token.{Token as Borrowed}
use Rattle.pp_text.specs.declared.token.Token.TheVariants as borrowed
use Rattle.pp_text.specs.declared.row.Behind.{Behind as Found}
use Rattle.pp_text.specs.declared.row.Behind.TheVariants as found
use Rattle.pp_text.specs.declared.line.Line.{Line as Taken}
use Rattle.pp_text.specs.declared.line.Line.TheVariants as taken
use Rattle.pp_text.specs.declared.statement.Call.{Call}
use Rattle.pp_text.specs.declared.statement.Call.TheVariants as said
use Rattle.pp_text.specs.declared.statement.Statement.{Statement}
use Rattle.pp_text.specs.declared.statement.Statement.TheVariants as statement
use Rattle.pp_text.specs.Tokens.{Token, Word, Quoted, Bracketed, Behind, GoesOn, Ends}
use Rattle.pp_text.specs.Text.{Line, Whole, Open}
use Rattle.pp_text.specs.steps.Shapes.{Shape, One, SomeKeys, SomePeeks}

abbrev pub token_of : Borrowed → Token
token_of (borrowed.Word bytes) = Word bytes.now
token_of (borrowed.Quoted inside) = Quoted inside.now
token_of (borrowed.Bracketed inside) = Bracketed inside.now

abbrev pub tokens_of : List Borrowed → List Token
tokens_of tokens = map token_of tokens

abbrev pub behind_of : Found → Behind
behind_of (found.Statement rest) = GoesOn rest.now
behind_of found.Nothing = Ends

-- how many bytes stand behind
abbrev pub length_behind : Found → ℕ
length_behind (found.Statement rest) = length rest.now
length_behind found.Nothing = 0

abbrev pub line_of : Taken → Line
line_of (taken.Whole row rest) = Whole row.now rest.now
line_of (taken.Open row) = Open row.now

-- the builder call of a statement that is no key and no peek
abbrev pub call_of : Call → BuilderCall
call_of (said.Prop name width) = call.Prop name.now width
call_of (said.Host name value) = call.Host name.now value
call_of (said.Span name) = call.Span name.now
call_of (said.Entry node) = call.Entry node.now
call_of (said.Finish prop host) = call.Finish prop.now host.now
call_of (said.Node name what) = call.Node name.now (named_kind what)
call_of (said.Answer number target) = call.Edge (edge.Answer number) target.now
call_of (said.Otherwise skip target) = call.Edge (edge.Otherwise skip) target.now

abbrev pub shape_of : Statement → Shape
shape_of (statement.One what) = One (call_of what)
shape_of (statement.Keys keys number target) = SomeKeys (tokens_of keys.now) number target.now
shape_of (statement.Peeks keys target) = SomePeeks (tokens_of keys.now) target.now
