-- The tokens of a printed line are tokens: words, numbers, keys and reasons.
use Rattle.std.proofs.Common.{◌≡◌, ℕ, ◌+◌, ◌%◌, ◌<◌, ◌^◌, List, [], ◌∷◌, ◌++◌, Bool, true, false, ◌&&◌, ◌||◌, ◌==◌, nat_le, length, Option, Some, refl, arith}
use Rattle.std.specs.Prelude.{All, codes, decimal, if◌then◌else◌}
use Rattle.std.specs.Prelude.{None as none}
use Rattle.std.specs.List.{list_all}
use Rattle.std.specs.Int.{is_in_range}
use Rattle.std.proofs.lemmas.Bool.{false≢true, agree_below_at, and_parts, and_from, or_left}
use Rattle.std.proofs.lemmas.Fmt.{decimal_by_steps}
use Rattle.std.proofs.lemmas.List.Elements.{All-nil, All-cons}
use Rattle.pp_bytes.specs.declared.fold.Fold.{Fold}
use Rattle.pp_bytes.specs.declared.fold.Fold.TheVariants.{Same, Lower}
use Rattle.pp_rules.specs.declared.declaration.Width.{Width}
use Rattle.pp_rules.specs.declared.declaration.Width.TheVariants.{W8, W16, W32, W64}
use Rattle.pp_rules.specs.declared.call.Constant.{Constant}
use Rattle.pp_rules.specs.declared.call.Constant.TheVariants as constant
use Rattle.pp_rules.specs.declared.call.NamedCode.{NamedCode}
use Rattle.pp_rules.specs.declared.call.NamedCode.TheVariants as code
use Rattle.pp_rules.specs.declared.call.NamedKind.{NamedKind}
use Rattle.pp_rules.specs.declared.call.NamedKind.TheVariants as kind
use Rattle.pp_rules.specs.declared.call.NamedEdge.{NamedEdge}
use Rattle.pp_rules.specs.declared.call.NamedEdge.TheVariants as edge
use Rattle.pp_rules.specs.declared.call.BuilderCall.{BuilderCall}
use Rattle.pp_rules.specs.declared.call.BuilderCall.TheVariants as call
use Rattle.pp_rules.specs.Names.{begins_name, continues_name, is_plain_byte, IsName, IsReason}
use Rattle.pp_graph.specs.Calls.{HasForm, CodeHasForm, KindHasForm}
use Rattle.pp_graph.proofs.TableLemmas.{Each}
use Rattle.pp_graph.proofs.EachLemmas.{each-append}
use Rattle.pp_text.specs.Tokens.{Token, Word, Quoted, is_token, is_word, is_word_byte}
use Rattle.pp_text.specs.Statements.{width_word, constant_word, most_tokens, code_tokens, fold_tokens, kind_tokens, arrow_tokens, carried_tokens, MostFits, CodeFits, KindFits, NumberFits}
use Rattle.pp_text.specs.Printed.{printed_tokens}
use Rattle.pp_text.proofs.PrintedKeyLemmas.{reason-inside, key-inside}

-- the numbers and bytes of an edge and of a call lie within their types
abbrev pub EdgeInRange : NamedEdge → Type 0
EdgeInRange (edge.Key bytes number) = All (λ b. b < 256) bytes × NumberFits number
EdgeInRange (edge.Peek byte) = byte < 256
EdgeInRange (edge.Answer number) = number < 2 ^ 32
EdgeInRange (edge.Otherwise skip) = Unit {0}

abbrev pub CallInRange : BuilderCall → Type 0
CallInRange (call.Prop name width) = Unit {0}
CallInRange (call.Host name value) = Unit {0}
CallInRange (call.Span name) = Unit {0}
CallInRange (call.Entry node) = Unit {0}
CallInRange (call.Finish prop host) = Unit {0}
CallInRange (call.Node name what) = KindFits what
CallInRange (call.Edge when target) = EdgeInRange when

abbrev pub IsToken : Token → Type 0
IsToken t = is_token t ≡ true

-- names are words
begins-continues : (d u l e : Bool) → ((u || l) || e) ≡ true → (((d || u) || l) || e) ≡ true
begins-continues true u l e h = refl
begins-continues false u l e h = h

continues-word : (b : ℕ) → continues_name b ≡ true → is_word_byte b ≡ true
continues-word b h =
    or_left (continues_name b || b == 45 || b == 61) (b == 62)
    (or_left (continues_name b || b == 45) (b == 61) (or_left (continues_name b) (b == 45) h))

list-word : (bytes : List ℕ) → list_all continues_name bytes ≡ true → list_all is_word_byte bytes ≡ true
list-word [] h = refl
list-word (b ∷ bytes) h =
    let parts = and_parts (continues_name b) (list_all continues_name bytes) h in
    and_from (is_word_byte b) (list_all is_word_byte bytes) (continues-word b parts.0) (list-word bytes parts.1)

name-word : (name : List ℕ) → IsName name → is_word name ≡ true
name-word [] h = absurd (false≢true h)
name-word (b ∷ bytes) h =
    let outer = and_parts (begins_name b && list_all continues_name bytes) (nat_le (length bytes) 31) h in
    let parts = and_parts (begins_name b) (list_all continues_name bytes) outer.0 in
    and_from (is_word_byte b) (list_all is_word_byte bytes)
    (continues-word b (begins-continues (is_in_range 48 57 b) (is_in_range 65 90 b) (is_in_range 97 122 b) (b == 95) parts.0))
    (list-word bytes parts.1)

-- numbers are words
digit-word : (d : ℕ) → d < 10 → is_word_byte (48 + d) ≡ true
digit-word d h = agree_below_at (λ d. is_word_byte (48 + d)) (λ d. true) 10 d refl h

words-push : (ds : List ℕ) (d : ℕ) → list_all is_word_byte ds ≡ true → is_word_byte d ≡ true → list_all is_word_byte (ds ++ d ∷ []) ≡ true
words-push [] d h w = and_from (is_word_byte d) true w refl
words-push (c ∷ ds) d h w =
    let parts = and_parts (is_word_byte c) (list_all is_word_byte ds) h in
    and_from (is_word_byte c) (list_all is_word_byte (ds ++ d ∷ [])) parts.0 (words-push ds d parts.1 w)

word-push : (ds : List ℕ) (d : ℕ) → is_word ds ≡ true → is_word_byte d ≡ true → is_word (ds ++ d ∷ []) ≡ true
word-push [] d h w = absurd (false≢true h)
word-push (c ∷ ds) d h w = words-push (c ∷ ds) d h w

number-word : (n : ℕ) → n < 2 ^ 64 → is_word (decimal n) ≡ true
number-word n h =
    decimal_by_steps (λ m ds. is_word ds ≡ true)
    (λ m l. and_from (is_word_byte (48 + m)) true (digit-word m l) refl)
    (λ m ds l w. word-push ds (48 + m % 10) w (digit-word (m % 10) (omega arith)))
    n h

small-number : (n : ℕ) → n < 2 ^ 32 → is_word (decimal n) ≡ true
small-number n h = number-word n (omega arith)

-- reasons are insides
reason-token : (reason : List ℕ) → IsReason reason → IsToken (Quoted reason)
reason-token reason h =
    reason-inside reason (and_parts (nat_le 1 (length reason) && nat_le (length reason) 80) (list_all is_plain_byte reason) h).1

-- words that stand for themselves
width-token : (width : Width) → IsToken (width_word width)
width-token W8 = refl
width-token W16 = refl
width-token W32 = refl
width-token W64 = refl

constant-token : (what : Constant) → IsToken (constant_word what)
constant-token constant.Update = refl
constant-token constant.Equal = refl
constant-token constant.And = refl
constant-token constant.Or = refl
constant-token constant.Test = refl

signature-token : (value : Bool) → IsToken (Word (if value then codes "value" else codes "match"))
signature-token true = refl
signature-token false = refl

other-token : (skip : Bool) → IsToken (Word (if skip then codes "skip" else codes "else"))
other-token true = refl
other-token false = refl

-- the parts of a line
arrow-are : (target : List ℕ) → IsName target → Each IsToken (arrow_tokens target)
arrow-are target h = (refl, (name-word target h, tt))

carried-are : (number : Option ℕ) → NumberFits number → Each IsToken (carried_tokens number)
carried-are none h = tt
carried-are (Some number) h = (refl, (small-number number h, tt))

most-are : (most : Option ℕ) → MostFits most → Each IsToken (most_tokens most)
most-are none h = tt
most-are (Some most) h = (refl, (number-word most h, tt))

code-are : (what : NamedCode) → CodeHasForm what → CodeFits what → Each IsToken (code_tokens what)
code-are (code.Call host) f r = (refl, (name-word host f, tt))
code-are (code.Store prop) f r = (refl, (name-word prop f, tt))
code-are (code.Load prop) f r = (refl, (name-word prop f, tt))
code-are (code.Constant what prop value) f r = (constant-token what, (name-word prop f, (number-word value r, tt)))
code-are (code.MulAdd prop base most) f r = (refl, (name-word prop f, (small-number base r.0, most-are most r.1)))

fold-are : (fold : Fold) → Each IsToken (fold_tokens fold)
fold-are Same = tt
fold-are Lower = (refl, tt)

kind-are : (what : NamedKind) → KindHasForm what → KindFits what → Each IsToken (kind_tokens what)
kind-are (kind.Match fold) f r = (refl, fold-are fold)
kind-are (kind.Invoke what) f r = code-are what f r
kind-are (kind.Consume prop) f r = (refl, (name-word prop f, tt))
kind-are (kind.SpanOpen span) f r = (refl, (name-word span f, tt))
kind-are (kind.SpanClose span) f r = (refl, (name-word span f, tt))
kind-are (kind.Pause number reason) f r = (refl, (small-number number r, (reason-token reason f, tt)))
kind-are (kind.Fail number reason) f r = (refl, (small-number number r, (reason-token reason f, tt)))

-- a key of one byte
pub one-byte : (b : ℕ) → b < 256 → All (λ b. b < 256) (b ∷ [])
one-byte b h = All-cons (λ b. b < 256) b [] h (All-nil (λ b. b < 256))

-- the tokens of a call
pub tokens-are : (c : BuilderCall) → HasForm c → CallInRange c → Each IsToken (printed_tokens c)
tokens-are (call.Prop name width) f r = (refl, (name-word name f, (width-token width, tt)))
tokens-are (call.Host name value) f r = (refl, (name-word name f, (signature-token value, tt)))
tokens-are (call.Span name) f r = (refl, (name-word name f, tt))
tokens-are (call.Entry node) f r = (refl, (name-word node f, tt))
tokens-are (call.Finish prop host) f r = (refl, (name-word prop f.0, (name-word host f.1, tt)))
tokens-are (call.Node name what) f r = (refl, (name-word name f.0, kind-are what f.1 r))
tokens-are (call.Edge (edge.Key bytes number) target) f r =
    (refl, (key-inside bytes r.0, each-append IsToken (carried_tokens number) (arrow_tokens target) (carried-are number r.1) (arrow-are target f)))
tokens-are (call.Edge (edge.Peek byte) target) f r =
    (refl, (key-inside (byte ∷ []) (one-byte byte r), arrow-are target f))
tokens-are (call.Edge (edge.Answer number) target) f r = (refl, (small-number number r, arrow-are target f))
tokens-are (call.Edge (edge.Otherwise skip) target) f r = (other-token skip, arrow-are target f)
