-- What reading a text can come to.
use Rattle.std.specs.Prelude.{◌≡◌, ℕ, ◌+◌, List, length, Result, MatchResult, ◌⊎◌}
use Rattle.pp_rules.specs.declared.rules.GraphRule.{GraphRule}
use Rattle.pp_graph.specs.Built.{built}
use Rattle.pp_graph.specs.Plan.{Plan}
use Rattle.pp_rules.specs.Rules.{KeepsRules, IsFirstFault}
use Rattle.pp_text.specs.declared.fault.TextFault.{TextFault}
use Rattle.pp_text.specs.declared.fault.TextFault.TheVariants.{NoMemory}
use Rattle.pp_text.specs.Text.{Told, BeginWithText, IsWrongAt, IsTooLong, line_at}

-- the bytes begin with a text of these calls, which keep the rules; this is their graph, and the length of the text
pub record Reads (bytes : List ℕ) (told : Told) (last : ℕ) (rest : List ℕ) (graph : Plan) (used : ℕ) : Type 0 where
  pub text : BeginWithText bytes told last rest
  pub rules : KeepsRules told.calls
  pub is : graph ≡ built told.calls
  pub used_is : used + length rest ≡ length bytes

-- the bytes begin with a text whose calls break a rule, at the call of this line
pub record Breaks (bytes : List ℕ) (line : ℕ) (rule : GraphRule) : Type 0 where
  pub told : Told
  pub last : ℕ
  pub rest : List ℕ
  pub call : ℕ
  pub text : BeginWithText bytes told last rest
  pub first : IsFirstFault told.calls rule call
  pub line_is : line ≡ line_at told last call

-- bytes have a reading: they begin with a text whose calls keep the rules, or with one whose calls break a rule, or a line
-- is wrong, or one is too long
abbrev pub HasReading : List ℕ → Type 0
HasReading bytes =
    ((told : Told) × (last : ℕ) × (rest : List ℕ) × BeginWithText bytes told last rest × KeepsRules told.calls)
    ⊎ ((line : ℕ) × (rule : GraphRule) × Breaks bytes line rule)
    ⊎ ((line : ℕ) × IsWrongAt bytes line)
    ⊎ IsTooLong bytes

-- this fault and no other, but for want of memory
abbrev pub IsFaultAlone : {A : Type 0} → Result A TextFault → TextFault → Type 0
IsFaultAlone result fault = MatchResult result (λ r. ⊥) (λ e. (e ≡ fault) ⊎ (e ≡ NoMemory))
