-- What the steps of reading a head ensure.
use Rattle.std.specs.Prelude.{◌≡◌, ℕ, ◌+◌, ◌≤◌, List, ◌++◌, length, take, drop, All}
use Rattle.std.specs.List.{flat_map}
use Rattle.pp_frame.specs.declared.parts.HeadFault.{HeadFault}
use Rattle.pp_frame.specs.declared.parts.HeadFault.TheVariants.{NoColon, NoEnd, NoMemory}
use Rattle.pp_frame.specs.declared.parts.Field.{Field}
use Rattle.pp_frame.specs.Bytes.{crlf}
use Rattle.pp_frame.specs.Lines.{HasNoEnd, IsLine, ended, HasEmptyLine}
use Rattle.pp_frame.specs.Fields.{HasColon, fields_from, LacksColonAt}

-- The bytes begin with a line of this length, without a CRLF in it, and its CRLF.
pub record BeginsWithLine (bytes : List ℕ) (len : ℕ) : Type 0 where
  pub within : len + 2 ≤ length bytes
  pub no_end : HasNoEnd (take len bytes)
  pub bytes_are : bytes ≡ take len bytes ++ (crlf ++ drop (len + 2) bytes)

-- Why bytes are no end of a head, whose first line has this number and no colon: no line of them is empty, or one is.
abbrev pub IsFaultOfLine : List ℕ → ℕ → HeadFault → Type 0
IsFaultOfLine bytes number (NoColon line) = HasEmptyLine bytes × (line ≡ number)
IsFaultOfLine bytes number NoEnd = ¬ (HasEmptyLine bytes)
IsFaultOfLine bytes number NoMemory = ⊥

-- What each fault of a head means. Want of memory means nothing.
abbrev pub IsFaultOf : List ℕ → HeadFault → Type 0
IsFaultOf head (NoColon line) = LacksColonAt head line
IsFaultOf head NoEnd = ¬ (HasEmptyLine head)
IsFaultOf head NoMemory = Unit {0}

-- Where the reading of a head's lines stands: these lines were read, and the next begins at this place.
pub record HasRead (head : List ℕ) (lines : List (List ℕ)) (at : ℕ) : Type 0 where
  pub within : at ≤ length head
  pub each : All IsLine lines
  pub place : at ≡ length (flat_map ended lines)
  pub bytes_are : head ≡ flat_map ended lines ++ drop at head

-- The same, where each line has a colon and gave its field. The next line has this number, from 1.
pub record HasReadFields (head : List ℕ) (fields : List Field) (at number : ℕ) : Type 0 where
  pub lines : List (List ℕ)
  pub read : HasRead head lines at
  pub each : All HasColon lines
  pub fields_are : fields ≡ fields_from 0 lines
  pub counted : number ≡ length lines + 1
  pub few : number ≤ at + 1
