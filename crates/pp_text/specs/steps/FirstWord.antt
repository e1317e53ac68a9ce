-- Where the first word of a list of tokens stands.
use Rattle.std.specs.Prelude.{List, [], ◌∷◌}
use Rattle.pp_text.specs.declared.token.Token.{Token as Borrowed}
use Rattle.pp_text.specs.Tokens.{Token, Word}
use Rattle.pp_text.specs.steps.Shapes.{IsKeyToken}
use Rattle.pp_text.specs.steps.View.{token_of}

-- a word
abbrev pub IsWordToken : Token → Type 0
IsWordToken (Word bytes) = Unit {0}
IsWordToken other = ⊥

-- nothing, or a word in front
abbrev pub StartsWithWord : List Token → Type 0
StartsWithWord [] = Unit {0}
StartsWithWord (token ∷ tokens) = IsWordToken token

-- a token of the reader that is no word
abbrev pub IsKeyIn : Borrowed → Type 0
IsKeyIn token = IsKeyToken (token_of token)

-- and one that is
abbrev pub IsWordIn : Borrowed → Type 0
IsWordIn token = IsWordToken (token_of token)
