-- The tokens of a call tell the call.
use Rattle.std.proofs.Common.{◌≡◌, ℕ, ◌<◌, ◌^◌, Bool, true, false, if◌then◌else◌, List, [], ◌∷◌, Option, Some, map, drop, get_or, codes, decimal, refl, sym, ap, ap₂, ◌∙◌, arith}
use Rattle.std.specs.Prelude.{None as none}
use Rattle.std.specs.Str.{bytes_eq}
use Rattle.std.specs.Str.Parse.{digits_value}
use Rattle.std.proofs.lemmas.Fmt.{decimal_is_IsNumeral}
use Rattle.pp_bytes.specs.declared.fold.Fold.{Fold}
use Rattle.pp_bytes.specs.declared.fold.Fold.TheVariants.{Same, Lower}
use Rattle.pp_rules.specs.declared.declaration.Width.{Width}
use Rattle.pp_rules.specs.declared.declaration.Width.TheVariants.{W8, W16, W32, W64}
use Rattle.pp_rules.specs.declared.call.Constant.{Constant}
use Rattle.pp_rules.specs.declared.call.Constant.TheVariants as constant
use Rattle.pp_rules.specs.declared.call.NamedCode.{NamedCode}
use Rattle.pp_rules.specs.declared.call.NamedCode.TheVariants as code
use Rattle.pp_rules.specs.declared.call.NamedKind.{NamedKind}
use Rattle.pp_rules.specs.declared.call.NamedKind.TheVariants as kind
use Rattle.pp_rules.specs.declared.call.NamedEdge.{NamedEdge}
use Rattle.pp_rules.specs.declared.call.NamedEdge.TheVariants as edge
use Rattle.pp_rules.specs.declared.call.BuilderCall.{BuilderCall}
use Rattle.pp_rules.specs.declared.call.BuilderCall.TheVariants as call
use Rattle.pp_text.specs.Tokens.{Token, Word, Quoted, Bracketed}
use Rattle.pp_text.specs.Statements.{AreCall, call_tokens, kind_tokens, code_tokens, edge_tokens, CodeFits, KindFits, EdgeFits, Fits}

-- what a token has between its ends
abbrev inside_of : Token → List ℕ
inside_of (Word bytes) = bytes
inside_of (Quoted inside) = inside
inside_of (Bracketed inside) = inside

-- the text of a token by its place, and the number that it writes
abbrev word : ℕ → List Token → List ℕ
word k tokens = get_or (map inside_of tokens) k []

abbrev number : ℕ → List Token → ℕ
number k tokens = digits_value 10 (word k tokens)

-- this word stands at the place
abbrev has : ℕ → List Token → List ℕ → Bool
has k tokens text = bytes_eq (word k tokens) text

-- A reader of calls: it gives back each call that the tokens are of, and anything for other tokens.
abbrev width_from : List Token → Width
width_from tokens = if has 2 tokens (codes "u8") then W8 else if has 2 tokens (codes "u16") then W16 else if has 2 tokens (codes "u32") then W32 else W64

abbrev constant_from : List Token → Constant
constant_from tokens =
    if has 0 tokens (codes "update") then constant.Update else if has 0 tokens (codes "equal") then constant.Equal else if has 0 tokens (codes "and") then constant.And else if has 0 tokens (codes "or") then constant.Or else constant.Test

abbrev most_from : List Token → Option ℕ
most_from [] = none
most_from (token ∷ tokens) = Some (number 0 tokens)

abbrev code_from : List Token → NamedCode
code_from tokens =
    if has 0 tokens (codes "call") then code.Call (word 1 tokens)
    else if has 0 tokens (codes "store") then code.Store (word 1 tokens)
    else if has 0 tokens (codes "load") then code.Load (word 1 tokens)
    else if has 0 tokens (codes "muladd") then code.MulAdd (word 1 tokens) (number 2 tokens) (most_from (drop 3 tokens))
    else code.Constant (constant_from tokens) (word 1 tokens) (number 2 tokens)

abbrev fold_from : List Token → Fold
fold_from [] = Same
fold_from (token ∷ tokens) = Lower

abbrev kind_from : List Token → NamedKind
kind_from tokens =
    if has 0 tokens (codes "match") then kind.Match (fold_from (drop 1 tokens))
    else if has 0 tokens (codes "consume") then kind.Consume (word 1 tokens)
    else if has 0 tokens (codes "open") then kind.SpanOpen (word 1 tokens)
    else if has 0 tokens (codes "close") then kind.SpanClose (word 1 tokens)
    else if has 0 tokens (codes "pause") then kind.Pause (number 1 tokens) (word 2 tokens)
    else if has 0 tokens (codes "error") then kind.Fail (number 1 tokens) (word 2 tokens)
    else kind.Invoke (code_from tokens)

abbrev call_from : List Token → BuilderCall
call_from tokens =
    if has 0 tokens (codes "prop") then call.Prop (word 1 tokens) (width_from tokens)
    else if has 0 tokens (codes "host") then call.Host (word 1 tokens) (has 2 tokens (codes "value"))
    else if has 0 tokens (codes "span") then call.Span (word 1 tokens)
    else if has 0 tokens (codes "entry") then call.Entry (word 1 tokens)
    else if has 0 tokens (codes "finish") then call.Finish (word 1 tokens) (word 2 tokens)
    else if has 0 tokens (codes "node") then call.Node (word 1 tokens) (kind_from (drop 2 tokens))
    else if has 0 tokens (codes "is") then call.Edge (edge.Answer (number 1 tokens)) (word 3 tokens)
    else call.Edge (edge.Otherwise (has 0 tokens (codes "skip"))) (word 2 tokens)

-- the number that is printed is read
number_back : (n : ℕ) → n < 2 ^ 64 → digits_value 10 (decimal n) ≡ n
number_back n small = (decimal_is_IsNumeral n small).1

small_back : (n : ℕ) → n < 2 ^ 32 → digits_value 10 (decimal n) ≡ n
small_back n small = number_back n (omega arith)

code_back : (what : NamedCode) → CodeFits what → code_from (code_tokens what) ≡ what
code_back (code.Call host) fits = refl
code_back (code.Store prop) fits = refl
code_back (code.Load prop) fits = refl
code_back (code.Constant constant.Update prop value) fits = ap (code.Constant constant.Update prop) (number_back value fits)
code_back (code.Constant constant.Equal prop value) fits = ap (code.Constant constant.Equal prop) (number_back value fits)
code_back (code.Constant constant.And prop value) fits = ap (code.Constant constant.And prop) (number_back value fits)
code_back (code.Constant constant.Or prop value) fits = ap (code.Constant constant.Or prop) (number_back value fits)
code_back (code.Constant constant.Test prop value) fits = ap (code.Constant constant.Test prop) (number_back value fits)
code_back (code.MulAdd prop base none) fits = ap (λ n. code.MulAdd prop n none) (small_back base fits.0)
code_back (code.MulAdd prop base (Some most)) fits = ap₂ (λ n m. code.MulAdd prop n (Some m)) (small_back base fits.0) (number_back most fits.1)

-- no code is told by the word of another kind
runs_back : (what : NamedCode) → kind_from (code_tokens what) ≡ kind.Invoke (code_from (code_tokens what))
runs_back (code.Call host) = refl
runs_back (code.Store prop) = refl
runs_back (code.Load prop) = refl
runs_back (code.Constant constant.Update prop value) = refl
runs_back (code.Constant constant.Equal prop value) = refl
runs_back (code.Constant constant.And prop value) = refl
runs_back (code.Constant constant.Or prop value) = refl
runs_back (code.Constant constant.Test prop value) = refl
runs_back (code.MulAdd prop base most) = refl

kind_back : (what : NamedKind) → KindFits what → kind_from (kind_tokens what) ≡ what
kind_back (kind.Match Same) fits = refl
kind_back (kind.Match Lower) fits = refl
kind_back (kind.Invoke what) fits = runs_back what ∙ ap kind.Invoke (code_back what fits)
kind_back (kind.Consume prop) fits = refl
kind_back (kind.SpanOpen span) fits = refl
kind_back (kind.SpanClose span) fits = refl
kind_back (kind.Pause number reason) fits = ap (λ n. kind.Pause n reason) (small_back number fits)
kind_back (kind.Fail number reason) fits = ap (λ n. kind.Fail n reason) (small_back number fits)

edge_back : (when : NamedEdge) (target : List ℕ) → EdgeFits when → call_from (edge_tokens when target) ≡ call.Edge when target
edge_back (edge.Key bytes number) target fits = absurd fits
edge_back (edge.Peek byte) target fits = absurd fits
edge_back (edge.Answer number) target fits = ap (λ n. call.Edge (edge.Answer n) target) (small_back number fits)
edge_back (edge.Otherwise true) target fits = refl
edge_back (edge.Otherwise false) target fits = refl

call_back : (what : BuilderCall) → Fits what → call_from (call_tokens what) ≡ what
call_back (call.Prop name W8) fits = refl
call_back (call.Prop name W16) fits = refl
call_back (call.Prop name W32) fits = refl
call_back (call.Prop name W64) fits = refl
call_back (call.Host name true) fits = refl
call_back (call.Host name false) fits = refl
call_back (call.Span name) fits = refl
call_back (call.Entry node) fits = refl
call_back (call.Finish prop host) fits = refl
call_back (call.Node name what) fits = ap (call.Node name) (kind_back what fits)
call_back (call.Edge when target) fits = edge_back when target fits

-- so tokens are of one call
pub call_same : (tokens : List Token) (a b : BuilderCall) → AreCall tokens a → AreCall tokens b → a ≡ b
call_same tokens a b p q =
    sym (ap call_from p.spelled ∙ call_back a p.fits) ∙ ap call_from q.spelled ∙ call_back b q.fits
