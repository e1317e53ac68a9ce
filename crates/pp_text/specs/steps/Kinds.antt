-- The tokens of a node's kind by themselves.
use Rattle.std.specs.Prelude.{◌≡◌, List}
use Rattle.pp_rules.specs.declared.call.NamedCode.{NamedCode}
use Rattle.pp_rules.specs.declared.call.NamedKind.{NamedKind}
use Rattle.pp_graph.specs.Calls.{CodeHasForm, KindHasForm}
use Rattle.pp_text.specs.Tokens.{Token}
use Rattle.pp_text.specs.Statements.{code_tokens, kind_tokens, CodeFits, KindFits}

-- the tokens of what an invoke node runs
pub record AreCode (tokens : List Token) (what : NamedCode) : Type 0 where
  pub spelled : tokens ≡ code_tokens what
  pub form : CodeHasForm what
  pub fits : CodeFits what

-- the tokens of what a node does
pub record AreKind (tokens : List Token) (what : NamedKind) : Type 0 where
  pub spelled : tokens ≡ kind_tokens what
  pub form : KindHasForm what
  pub fits : KindFits what
