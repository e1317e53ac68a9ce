-- Statements: what each says, and its tokens.
use Rattle.std.specs.Prelude.{◌≡◌, ◌≢◌, ℕ, ◌<◌, ◌^◌, List, [], ◌∷◌, ◌++◌, Option, Some, codes, decimal, map, if◌then◌else◌}
use Rattle.std.specs.Prelude.{None as none}
use Rattle.pp_bytes.specs.declared.fold.Fold.{Fold}
use Rattle.pp_bytes.specs.declared.fold.Fold.TheVariants.{Same, Lower}
use Rattle.pp_rules.specs.declared.declaration.Width.{Width}
use Rattle.pp_rules.specs.declared.declaration.Width.TheVariants.{W8, W16, W32, W64}
use Rattle.pp_rules.specs.declared.call.Constant.{Constant}
use Rattle.pp_rules.specs.declared.call.Constant.TheVariants as constant
use Rattle.pp_rules.specs.declared.call.NamedCode.{NamedCode}
use Rattle.pp_rules.specs.declared.call.NamedCode.TheVariants as code
use Rattle.pp_rules.specs.declared.call.NamedKind.{NamedKind}
use Rattle.pp_rules.specs.declared.call.NamedKind.TheVariants as kind
use Rattle.pp_rules.specs.declared.call.NamedEdge.{NamedEdge}
use Rattle.pp_rules.specs.declared.call.NamedEdge.TheVariants as edge
use Rattle.pp_rules.specs.declared.call.BuilderCall.{BuilderCall}
use Rattle.pp_rules.specs.declared.call.BuilderCall.TheVariants as call
use Rattle.pp_rules.specs.Names.{IsName}
use Rattle.pp_graph.specs.Calls.{HasForm}
use Rattle.pp_graph.specs.Ranges.{NumberInRange}
use Rattle.pp_text.specs.Tokens.{Token, Word, Quoted}
use Rattle.pp_text.specs.Keys.{GiveKeys}

-- A statement by what it says: one call that is no key and no peek; keys with one number and one target; peek bytes
-- with one target.
pub data Statement : Type 0 where
  Says : (what : BuilderCall) → Statement
  Keys : (keys : List (List ℕ)) (number : Option ℕ) (target : List ℕ) → Statement
  Peeks : (bytes : List ℕ) (target : List ℕ) → Statement

-- the calls of a statement, in order
abbrev pub statement_calls : Statement → List BuilderCall
statement_calls (Says what) = what ∷ []
statement_calls (Keys keys number target) = map (λ key. call.Edge (edge.Key key number) target) keys
statement_calls (Peeks bytes target) = map (λ byte. call.Edge (edge.Peek byte) target) bytes

abbrev pub width_word : Width → Token
width_word W8 = Word (codes "u8")
width_word W16 = Word (codes "u16")
width_word W32 = Word (codes "u32")
width_word W64 = Word (codes "u64")

abbrev pub constant_word : Constant → Token
constant_word constant.Update = Word (codes "update")
constant_word constant.Equal = Word (codes "equal")
constant_word constant.And = Word (codes "and")
constant_word constant.Or = Word (codes "or")
constant_word constant.Test = Word (codes "test")

abbrev pub number_word : ℕ → Token
number_word n = Word (decimal n)

-- the most of a muladd, which may be left out
abbrev pub most_tokens : Option ℕ → List Token
most_tokens none = []
most_tokens (Some most) = Word (codes "max") ∷ number_word most ∷ []

abbrev pub code_tokens : NamedCode → List Token
code_tokens (code.Call host) = Word (codes "call") ∷ Word host ∷ []
code_tokens (code.Store prop) = Word (codes "store") ∷ Word prop ∷ []
code_tokens (code.Load prop) = Word (codes "load") ∷ Word prop ∷ []
code_tokens (code.Constant what prop value) = constant_word what ∷ Word prop ∷ number_word value ∷ []
code_tokens (code.MulAdd prop base most) = Word (codes "muladd") ∷ Word prop ∷ number_word base ∷ most_tokens most

abbrev pub fold_tokens : Fold → List Token
fold_tokens Same = []
fold_tokens Lower = Word (codes "lower") ∷ []

abbrev pub kind_tokens : NamedKind → List Token
kind_tokens (kind.Match fold) = Word (codes "match") ∷ fold_tokens fold
kind_tokens (kind.Invoke what) = code_tokens what
kind_tokens (kind.Consume prop) = Word (codes "consume") ∷ Word prop ∷ []
kind_tokens (kind.SpanOpen span) = Word (codes "open") ∷ Word span ∷ []
kind_tokens (kind.SpanClose span) = Word (codes "close") ∷ Word span ∷ []
kind_tokens (kind.Pause number reason) = Word (codes "pause") ∷ number_word number ∷ Quoted reason ∷ []
kind_tokens (kind.Fail number reason) = Word (codes "error") ∷ number_word number ∷ Quoted reason ∷ []

-- the arrow and the node behind it
abbrev pub arrow_tokens : List ℕ → List Token
arrow_tokens target = Word (codes "->") ∷ Word target ∷ []

-- the number of a key edge, if it carries one
abbrev pub carried_tokens : Option ℕ → List Token
carried_tokens none = []
carried_tokens (Some number) = Word (codes "=") ∷ number_word number ∷ []

-- the tokens of an answer and of an otherwise
abbrev pub edge_tokens : NamedEdge → List ℕ → List Token
edge_tokens (edge.Key bytes number) target = []
edge_tokens (edge.Peek byte) target = []
edge_tokens (edge.Answer number) target = Word (codes "is") ∷ number_word number ∷ arrow_tokens target
edge_tokens (edge.Otherwise skip) target = Word (if skip then codes "skip" else codes "else") ∷ arrow_tokens target

-- the tokens of a call that is no key and no peek
abbrev pub call_tokens : BuilderCall → List Token
call_tokens (call.Prop name width) = Word (codes "prop") ∷ Word name ∷ width_word width ∷ []
call_tokens (call.Host name value) = Word (codes "host") ∷ Word name ∷ Word (if value then codes "value" else codes "match") ∷ []
call_tokens (call.Span name) = Word (codes "span") ∷ Word name ∷ []
call_tokens (call.Entry node) = Word (codes "entry") ∷ Word node ∷ []
call_tokens (call.Finish prop host) = Word (codes "finish") ∷ Word prop ∷ Word host ∷ []
call_tokens (call.Node name what) = Word (codes "node") ∷ Word name ∷ kind_tokens what
call_tokens (call.Edge when target) = edge_tokens when target

-- the numbers of a call lie within their types: bases, codes, answers and carried numbers have 32 bits, constants 64
abbrev pub MostFits : Option ℕ → Type 0
MostFits none = Unit {0}
MostFits (Some most) = most < 2 ^ 64

abbrev pub CodeFits : NamedCode → Type 0
CodeFits (code.Call host) = Unit {0}
CodeFits (code.Store prop) = Unit {0}
CodeFits (code.Load prop) = Unit {0}
CodeFits (code.Constant what prop value) = value < 2 ^ 64
CodeFits (code.MulAdd prop base most) = (base < 2 ^ 32) × MostFits most

abbrev pub KindFits : NamedKind → Type 0
KindFits (kind.Match fold) = Unit {0}
KindFits (kind.Invoke what) = CodeFits what
KindFits (kind.Consume prop) = Unit {0}
KindFits (kind.SpanOpen span) = Unit {0}
KindFits (kind.SpanClose span) = Unit {0}
KindFits (kind.Pause number reason) = number < 2 ^ 32
KindFits (kind.Fail number reason) = number < 2 ^ 32

-- keys and peeks are told by statements of their own
abbrev pub EdgeFits : NamedEdge → Type 0
EdgeFits (edge.Key bytes number) = ⊥
EdgeFits (edge.Peek byte) = ⊥
EdgeFits (edge.Answer number) = number < 2 ^ 32
EdgeFits (edge.Otherwise skip) = Unit {0}

abbrev pub Fits : BuilderCall → Type 0
Fits (call.Prop name width) = Unit {0}
Fits (call.Host name value) = Unit {0}
Fits (call.Span name) = Unit {0}
Fits (call.Entry node) = Unit {0}
Fits (call.Finish prop host) = Unit {0}
Fits (call.Node name what) = KindFits what
Fits (call.Edge when target) = EdgeFits when

-- a number that an edge carries, if it carries one, has 32 bits
abbrev pub NumberFits : Option ℕ → Type 0
NumberFits number = NumberInRange number

-- the tokens are `on`, keys, a number or none, and a node behind the arrow
pub record AreKeys (tokens : List Token) (keys : List (List ℕ)) (number : Option ℕ) (target : List ℕ) : Type 0 where
  pub written : List Token
  pub some : written ≢ []
  pub spelled : tokens ≡ Word (codes "on") ∷ written ++ carried_tokens number ++ arrow_tokens target
  pub given : GiveKeys written keys
  pub fits : NumberFits number
  pub form : IsName target

-- the tokens are `peek`, keys of one byte each, and a node behind the arrow
pub record ArePeeks (tokens : List Token) (bytes : List ℕ) (target : List ℕ) : Type 0 where
  pub written : List Token
  pub some : written ≢ []
  pub spelled : tokens ≡ Word (codes "peek") ∷ written ++ arrow_tokens target
  pub given : GiveKeys written (map (λ b. b ∷ []) bytes)
  pub form : IsName target

-- the tokens of a call
pub record AreCall (tokens : List Token) (what : BuilderCall) : Type 0 where
  pub spelled : tokens ≡ call_tokens what
  pub form : HasForm what
  pub fits : Fits what

-- the tokens are this statement
abbrev pub IsStatement : List Token → Statement → Type 0
IsStatement tokens (Says what) = AreCall tokens what
IsStatement tokens (Keys keys number target) = AreKeys tokens keys number target
IsStatement tokens (Peeks bytes target) = ArePeeks tokens bytes target
