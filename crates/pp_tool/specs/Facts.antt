-- What an input is, in one fact for each refusal and each output. Only laws speak of these: a verdict says the same.
use Rattle.std.specs.Prelude.{ℕ, ◌≡◌, ◌⊎◌, ◌<◌, ◌≤◌, List, [], length}
use Rattle.pp_graph.specs.Plan.{Plan}
use Rattle.pp_text.specs.Printed.{printed}
use Rattle.pp_mean.specs.Plain.{IsPlain}
use Rattle.pp_tool.specs.declared.refusal.CheckReason.{CheckReason}
use Rattle.pp_tool.specs.declared.refusal.CheckReason.TheVariants as check
use Rattle.pp_tool.specs.GraphText.{BeginsWithGraph}
use Rattle.pp_tool.specs.Capture.{IsCapture}
use Rattle.pp_tool.specs.Checks.{IsAccepted, FailsFor}
use Rattle.pp_tool.specs.Check.{IsShape}
use Rattle.pp_tool.specs.Trace.{capture_limit, BeginsWithPlain}

-- a graph begins the bytes that is accepted and not plain
pub record HasOtherGraph (bytes : List ℕ) : Type 0 where
  pub g : Plan
  pub last : ℕ
  pub rest : List ℕ
  pub graph : BeginsWithGraph bytes g last rest
  pub accepted : IsAccepted g
  pub other : ¬ (IsPlain g)

-- a graph begins the bytes that fails the checks for this reason
pub record HasRefusedGraph (bytes : List ℕ) (reason : CheckReason) : Type 0 where
  pub g : Plan
  pub last : ℕ
  pub rest : List ℕ
  pub graph : BeginsWithGraph bytes g last rest
  pub fails : FailsFor g reason

-- more bytes than a capture may have stand behind a plain graph
pub record HasLongRest (bytes : List ℕ) : Type 0 where
  pub g : Plan
  pub rest : List ℕ
  pub graph : BeginsWithPlain bytes g rest
  pub long : capture_limit < length rest

-- a plain graph begins the bytes, and no capture follows it
pub record HasNoCapture (bytes : List ℕ) : Type 0 where
  pub g : Plan
  pub rest : List ℕ
  pub graph : BeginsWithPlain bytes g rest
  pub short : length rest ≤ capture_limit
  pub none : (parts : List (List ℕ)) → ¬ (IsCapture rest parts)

-- why the checks of `trace` fail
abbrev pub FailsCheck : List ℕ → CheckReason → Type 0
FailsCheck bytes reason = ((reason ≡ check.NotYet) × HasOtherGraph bytes) ⊎ HasRefusedGraph bytes reason

-- why those of `check` fail: of a graph whose text the bytes are alone
pub record FailsAlone (bytes : List ℕ) (reason : CheckReason) : Type 0 where
  pub g : Plan
  pub last : ℕ
  pub graph : BeginsWithGraph bytes g last []
  pub fails : FailsFor g reason

-- the bytes are the text of an accepted graph alone, and this line tells its shape
pub record HasShape (bytes line : List ℕ) : Type 0 where
  pub g : Plan
  pub last : ℕ
  pub graph : BeginsWithGraph bytes g last []
  pub accepted : IsAccepted g
  pub shape : IsShape g line

-- the bytes are the text of a graph alone, and this is its printed text
pub record HasPrint (bytes text : List ℕ) : Type 0 where
  pub g : Plan
  pub last : ℕ
  pub graph : BeginsWithGraph bytes g last []
  pub lines : text ≡ printed g
