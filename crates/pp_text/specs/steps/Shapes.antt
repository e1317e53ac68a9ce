-- Statements before their keys are read.
use Rattle.std.specs.Prelude.{◌≡◌, ◌≢◌, ℕ, List, [], ◌∷◌, ◌++◌, Option, codes}
use Rattle.pp_rules.specs.declared.call.BuilderCall.{BuilderCall}
use Rattle.pp_rules.specs.Names.{IsName}
use Rattle.pp_text.specs.Tokens.{Token, Word}
use Rattle.pp_text.specs.Statements.{AreCall, NumberFits, carried_tokens, arrow_tokens}

-- one call; or keys as they are written, with a number or none and a target; or peek bytes as they are written
pub data Shape : Type 0 where
  One : (what : BuilderCall) → Shape
  SomeKeys : (written : List Token) (number : Option ℕ) (target : List ℕ) → Shape
  SomePeeks : (written : List Token) (target : List ℕ) → Shape

pub record IsKeysShape (tokens written : List Token) (number : Option ℕ) (target : List ℕ) : Type 0 where
  pub some : written ≢ []
  pub spelled : tokens ≡ Word (codes "on") ∷ written ++ carried_tokens number ++ arrow_tokens target
  pub fits : NumberFits number
  pub form : IsName target

pub record IsPeeksShape (tokens written : List Token) (target : List ℕ) : Type 0 where
  pub some : written ≢ []
  pub spelled : tokens ≡ Word (codes "peek") ∷ written ++ arrow_tokens target
  pub form : IsName target

-- No word is a key: what is written between `on` and the number or the arrow are quoted and bracketed tokens.
abbrev pub IsKeyToken : Token → Type 0
IsKeyToken (Word bytes) = ⊥
IsKeyToken other = Unit {0}

abbrev pub AreKeyTokens : List Token → Type 0
AreKeyTokens [] = Unit {0}
AreKeyTokens (token ∷ tokens) = IsKeyToken token × AreKeyTokens tokens

abbrev pub IsShape : List Token → Shape → Type 0
IsShape tokens (One what) = AreCall tokens what
IsShape tokens (SomeKeys written number target) = IsKeysShape tokens written number target × AreKeyTokens written
IsShape tokens (SomePeeks written target) = IsPeeksShape tokens written target × AreKeyTokens written
