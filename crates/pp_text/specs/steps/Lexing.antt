-- The steps of reading a row.
use Rattle.std.specs.Prelude.{◌≡◌, ℕ, List, [], ◌∷◌, ◌++◌, Bool, false, IsTrue}
use Rattle.std.specs.List.{list_all}
use Rattle.pp_text.specs.Tokens.{is_blank}

-- a byte that passes the test comes first
abbrev pub begins_with : (ℕ → Bool) → List ℕ → Bool
begins_with test [] = false
begins_with test (b ∷ bytes) = test b

-- the rest of a text, behind all the blanks that it begins with
pub record IsBehindBlanks (text rest : List ℕ) : Type 0 where
  pub gap : List ℕ
  pub blank : IsTrue (list_all is_blank gap)
  pub split : text ≡ gap ++ rest
  pub no_more : begins_with is_blank rest ≡ false
