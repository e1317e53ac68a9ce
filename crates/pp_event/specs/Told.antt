-- A question with its answer, as plain data.
use Rattle.std.specs.Prelude.{ℕ, List, Bool}
use Rattle.pp_event.specs.declared.event.Event.{Event}
use Rattle.pp_event.specs.declared.event.Event.TheVariants.{Call, Piece}

-- a call or a piece, with the answer; the part of a piece is the list of its bytes
pub data Told : Type 0 where
  Called : (code value at : ℕ) (props : List ℕ) (answer : ℕ) → Told
  Pieced : (span at : ℕ) (part : List ℕ) (last : Bool) (answer : ℕ) → Told

-- an event as plain data
abbrev pub told : Event → Told
told (Call code value at props answer) = Called code value at props answer
told (Piece span at part last answer) = Pieced span at part.now last answer
