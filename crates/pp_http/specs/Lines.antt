-- How the lines of the table read: each gives the calls of a builder.
use Rattle.std.specs.Prelude.{ℕ, suc, List, [], ◌∷◌, ◌++◌, Some, codes, map, false, true}
use Rattle.std.specs.Prelude.{None as none}
use Prim.Native.String.{String}
use Rattle.pp_bytes.specs.declared.fold.Fold.TheVariants.{Same, Lower}
use Rattle.pp_rules.specs.declared.call.Constant.TheVariants as constant
use Rattle.pp_rules.specs.declared.call.NamedCode.TheVariants as code
use Rattle.pp_rules.specs.declared.call.NamedKind.{NamedKind}
use Rattle.pp_rules.specs.declared.call.NamedKind.TheVariants as kind
use Rattle.pp_rules.specs.declared.call.NamedEdge.TheVariants as edge
use Rattle.pp_rules.specs.declared.call.BuilderCall.{BuilderCall}
use Rattle.pp_rules.specs.declared.call.BuilderCall.TheVariants as call

-- it compares bytes as they are
abbrev pub a_match : NamedKind
a_match = kind.Match Same

-- it compares them with A to Z read as a to z
abbrev pub lower_match : NamedKind
lower_match = kind.Match Lower

-- it asks the host
abbrev pub asks : String → NamedKind
asks host = kind.Invoke (code.Call (codes host))

-- it stores the number that is carried
abbrev pub store : String → NamedKind
store prop = kind.Invoke (code.Store (codes prop))

-- it answers with the value of a property
abbrev pub load : String → NamedKind
load prop = kind.Invoke (code.Load (codes prop))

-- it sets a property
abbrev pub update : String → ℕ → NamedKind
update prop value = kind.Invoke (code.Constant constant.Update (codes prop) value)

-- it answers 1 where a property has this value, else 0
abbrev pub equal : String → ℕ → NamedKind
equal prop value = kind.Invoke (code.Constant constant.Equal (codes prop) value)

-- it keeps these bits of a property
abbrev pub mask : String → ℕ → NamedKind
mask prop value = kind.Invoke (code.Constant constant.And (codes prop) value)

-- it sets these bits
abbrev pub set : String → ℕ → NamedKind
set prop value = kind.Invoke (code.Constant constant.Or (codes prop) value)

-- it answers 1 where a property has all of these bits, else 0
abbrev pub test : String → ℕ → NamedKind
test prop value = kind.Invoke (code.Constant constant.Test (codes prop) value)

-- it multiplies a property by the base and adds the number that is carried; where that passes its greatest value it answers 1
abbrev pub muladd : String → ℕ → NamedKind
muladd prop base = kind.Invoke (code.MulAdd (codes prop) base none)

-- it takes as many bytes as a property says
abbrev pub consume : String → NamedKind
consume prop = kind.Consume (codes prop)

-- it opens a span
abbrev pub opens : String → NamedKind
opens span = kind.SpanOpen (codes span)

-- it closes a span
abbrev pub closes : String → NamedKind
closes span = kind.SpanClose (codes span)

-- it pauses with this code
abbrev pub pause : ℕ → String → NamedKind
pause number reason = kind.Pause number (codes reason)

-- it fails with this number
abbrev pub error : ℕ → String → NamedKind
error number reason = kind.Fail number (codes reason)

-- a node without its edges
abbrev pub node : String → NamedKind → List BuilderCall
node name what = call.Node (codes name) what ∷ []

-- a key
abbrev pub on : String → String → List BuilderCall
on key target = call.Edge (edge.Key (codes key) none) (codes target) ∷ []

-- a key with its number
abbrev pub selects : String → ℕ → String → List BuilderCall
selects key number target = call.Edge (edge.Key (codes key) (Some number)) (codes target) ∷ []

-- a peek for each of these bytes
abbrev pub peeks : List ℕ → List ℕ → List BuilderCall
peeks bytes target = map (λ b. call.Edge (edge.Peek b) target) bytes

-- a peek for each byte of a text
abbrev pub peek : String → String → List BuilderCall
peek byte target = peeks (codes byte) (codes target)

-- a key of one byte for each of these bytes
abbrev pub on_any : List ℕ → String → List BuilderCall
on_any bytes target = let name : List ℕ = codes target in map (λ b. call.Edge (edge.Key (b ∷ []) none) name) bytes

-- a peek for each of these bytes
abbrev pub peek_any : List ℕ → String → List BuilderCall
peek_any bytes target = peeks bytes (codes target)

-- an answer
abbrev pub is : ℕ → String → List BuilderCall
is answer target = call.Edge (edge.Answer answer) (codes target) ∷ []

-- the otherwise, which takes no byte
abbrev pub otherwise : String → List BuilderCall
otherwise target = call.Edge (edge.Otherwise false) (codes target) ∷ []

-- the otherwise, which takes a byte
abbrev pub skip : String → List BuilderCall
skip target = call.Edge (edge.Otherwise true) (codes target) ∷ []

-- these keys, with the numbers from n on
abbrev pub numbered : ℕ → List (List ℕ) → List ℕ → List BuilderCall
numbered n [] target = []
numbered n (key ∷ keys) target = call.Edge (edge.Key key (Some n)) target ∷ numbered (suc n) keys target

-- the decimal digits, with their values
abbrev pub digits : String → List BuilderCall
digits target = numbered 0 (map (λ b. b ∷ []) (codes "0123456789")) (codes target)

-- the hexadecimal digits in lower case, with their values
abbrev pub hexs : String → List BuilderCall
hexs target = numbered 0 (map (λ b. b ∷ []) (codes "0123456789abcdef")) (codes target)

-- the names of the methods, by their numbers
unfoldable pub method_names : List (List ℕ)
method_names =
    codes "DELETE" ∷ codes "GET" ∷ codes "HEAD" ∷ codes "POST" ∷ codes "PUT" ∷ codes "CONNECT" ∷ codes "OPTIONS" ∷ codes "TRACE" ∷
    codes "COPY" ∷ codes "LOCK" ∷ codes "MKCOL" ∷ codes "MOVE" ∷ codes "PROPFIND" ∷ codes "PROPPATCH" ∷ codes "SEARCH" ∷
    codes "UNLOCK" ∷ codes "BIND" ∷ codes "REBIND" ∷ codes "UNBIND" ∷ codes "ACL" ∷ codes "REPORT" ∷ codes "MKACTIVITY" ∷
    codes "CHECKOUT" ∷ codes "MERGE" ∷ codes "M-SEARCH" ∷ codes "NOTIFY" ∷ codes "SUBSCRIBE" ∷ codes "UNSUBSCRIBE" ∷ codes "PATCH" ∷
    codes "PURGE" ∷ codes "MKCALENDAR" ∷ codes "LINK" ∷ codes "UNLINK" ∷ []

-- a key for each method, with its number
abbrev pub methods : String → List BuilderCall
methods target = numbered 0 method_names (codes target)

-- a callback: 0 goes on, 21 pauses and then goes on, every other answer is its error
abbrev pub callback_of : List ℕ → List ℕ → ℕ → List ℕ → List BuilderCall
callback_of name host error next =
    call.Node name (kind.Invoke (code.Call host)) ∷ call.Edge (edge.Answer 0) next ∷ call.Edge (edge.Answer 21) (name ++ codes "_p") ∷
    call.Edge (edge.Otherwise false) (name ++ codes "_e") ∷
    call.Node (name ++ codes "_p") (kind.Pause 21 host) ∷ call.Edge (edge.Otherwise false) next ∷
    call.Node (name ++ codes "_e") (kind.Fail error host) ∷ []

-- the same, told by texts
abbrev pub callback : String → String → ℕ → String → List BuilderCall
callback name host number next = callback_of (codes name) (codes host) number (codes next)

-- the end of a line: CR LF; with the lenient flag 64 a CR without LF, with 256 an LF without CR
abbrev pub line_end_of : List ℕ → List ℕ → List BuilderCall
line_end_of name next =
    call.Node name a_match ∷ call.Edge (edge.Key (13 ∷ []) none) (name ++ codes "_lf") ∷ call.Edge (edge.Peek 10) (name ++ codes "_b") ∷ otherwise "e_cr" ++
    call.Node (name ++ codes "_lf") a_match ∷ call.Edge (edge.Key (10 ∷ []) none) next ∷ call.Edge (edge.Otherwise false) (name ++ codes "_c") ∷
    call.Node (name ++ codes "_c") (test "lenient" 64) ∷ call.Edge (edge.Answer 1) next ∷ otherwise "e_lf" ++
    call.Node (name ++ codes "_b") (test "lenient" 256) ∷ call.Edge (edge.Answer 1) (name ++ codes "_n") ∷ otherwise "e_cr" ++
    call.Node (name ++ codes "_n") a_match ∷ call.Edge (edge.Otherwise true) next ∷ []

-- the same, told by texts
abbrev pub line_end : String → String → List BuilderCall
line_end name next = line_end_of (codes name) (codes next)
