-- The printed text of a graph: one statement a line, one blank between tokens, one key a statement.
use Rattle.std.specs.Prelude.{ℕ, ◌+◌, ◌/◌, ◌%◌, List, [], ◌∷◌, ◌++◌, codes, flat_map, nat_lt, if◌then◌else◌}
use Rattle.pp_rules.specs.declared.call.NamedKind.{NamedKind}
use Rattle.pp_rules.specs.declared.call.NamedEdge.TheVariants as edge
use Rattle.pp_rules.specs.declared.call.BuilderCall.{BuilderCall}
use Rattle.pp_rules.specs.declared.call.BuilderCall.TheVariants as call
use Rattle.pp_rules.specs.Names.{is_plain_byte}
use Rattle.pp_graph.specs.Plan.{Plan}
use Rattle.pp_text.specs.Tokens.{Token, Word, Quoted, token_text}
use Rattle.pp_text.specs.Statements.{call_tokens, carried_tokens, arrow_tokens}
use Rattle.pp_text.specs.Telling.{calls_of}

-- a hexadecimal digit in lower case
abbrev pub hex_digit : ℕ → ℕ
hex_digit d = if nat_lt d 10 then 48 + d else 87 + d

-- a key byte: as it is where it may stand so, else by `\x` and two digits
abbrev pub printed_byte : ℕ → List ℕ
printed_byte b = if is_plain_byte b then b ∷ [] else 92 ∷ 120 ∷ hex_digit (b / 16) ∷ hex_digit (b % 16) ∷ []

abbrev pub printed_key : List ℕ → Token
printed_key bytes = Quoted (flat_map printed_byte bytes)

-- the tokens of a call
abbrev pub printed_tokens : BuilderCall → List Token
printed_tokens (call.Prop name width) = call_tokens (call.Prop name width)
printed_tokens (call.Host name value) = call_tokens (call.Host name value)
printed_tokens (call.Span name) = call_tokens (call.Span name)
printed_tokens (call.Entry node) = call_tokens (call.Entry node)
printed_tokens (call.Finish prop host) = call_tokens (call.Finish prop host)
printed_tokens (call.Node name what) = call_tokens (call.Node name what)
printed_tokens (call.Edge (edge.Key bytes number) target) = Word (codes "on") ∷ printed_key bytes ∷ carried_tokens number ++ arrow_tokens target
printed_tokens (call.Edge (edge.Peek byte) target) = Word (codes "peek") ∷ printed_key (byte ∷ []) ∷ arrow_tokens target
printed_tokens (call.Edge (edge.Answer number) target) = call_tokens (call.Edge (edge.Answer number) target)
printed_tokens (call.Edge (edge.Otherwise skip) target) = call_tokens (call.Edge (edge.Otherwise skip) target)

-- a blank, and a token
abbrev pub behind_blank : Token → List ℕ
behind_blank token = 32 ∷ token_text token

-- tokens with one blank between them
abbrev pub spaced : List Token → List ℕ
spaced [] = []
spaced (token ∷ tokens) = token_text token ++ flat_map behind_blank tokens

-- the line of a call
abbrev pub printed_line : BuilderCall → List ℕ
printed_line c = spaced (printed_tokens c) ++ 10 ∷ []

-- the line of a node
abbrev pub node_line : List ℕ → NamedKind → List ℕ
node_line name what = printed_line (call.Node name what)

-- `graph 1`, the calls that tell the graph, and `end`
abbrev pub printed : Plan → List ℕ
printed g = codes "graph 1\n" ++ flat_map printed_line (calls_of g) ++ codes "end\n"
