-- Forms by their first word.
use Rattle.std.proofs.Common.{◌≡◌, ℕ, List, ◌∷◌, Option, Some, None, true, false, codes}
use Rattle.std.proofs.lemmas.Bool.{both_ways}
use Rattle.std.proofs.lemmas.Slice.Eq.{bytes_eq-Decides}
use Rattle.std.specs.Str.{bytes_eq}
use Rattle.pp_rules.specs.declared.call.NamedCode.{NamedCode}
use Rattle.pp_rules.specs.declared.call.NamedCode.TheVariants as code
use Rattle.pp_rules.specs.declared.call.Constant.{Constant}
use Rattle.pp_rules.specs.declared.call.NamedKind.{NamedKind}
use Rattle.pp_rules.specs.declared.call.NamedKind.TheVariants as kind
use Rattle.pp_rules.specs.declared.call.NamedEdge.TheVariants as edge
use Rattle.pp_rules.specs.declared.call.BuilderCall.{BuilderCall}
use Rattle.pp_rules.specs.declared.call.BuilderCall.TheVariants as call
use Rattle.pp_text.specs.Tokens.{Token, Word}
use Rattle.pp_text.specs.Statements.{AreCall, constant_word}
use Rattle.pp_text.specs.steps.Kinds.{AreCode, AreKind}

-- words that a test tells apart are not equal
pub apart : (w v : List ℕ) → bytes_eq w v ≡ false → w ≡ v → ⊥
apart w v differ e = both_ways (bytes_eq w v) differ ((bytes_eq-Decides w v).1 e)

-- the first words of equal tokens are equal
pub first-word : (w v : List ℕ) (rest others : List Token) → Word w ∷ rest ≡ Word v ∷ others → w ≡ v
first-word w v rest others e = cc

-- the word of no kind but those that run a code
pub record IsNoKind (w : List ℕ) : Type 0 where
  pub no_match : w ≡ codes "match" → ⊥
  pub no_consume : w ≡ codes "consume" → ⊥
  pub no_open : w ≡ codes "open" → ⊥
  pub no_close : w ≡ codes "close" → ⊥
  pub no_pause : w ≡ codes "pause" → ⊥
  pub no_error : w ≡ codes "error" → ⊥

-- a kind with such a word runs a code
pub kind-runs : (P : NamedKind → Type 0) (w : List ℕ) (rest : List Token) → IsNoKind w → ((what : NamedCode) → AreCode (Word w ∷ rest) what → P (kind.Invoke what)) →
    (what : NamedKind) → AreKind (Word w ∷ rest) what → P what
kind-runs P w rest none runs (kind.Match fold) s = absurd (none.no_match (first-word w _ rest _ s.spelled))
kind-runs P w rest none runs (kind.Invoke what) s = runs what (record { spelled = s.spelled; form = s.form; fits = s.fits })
kind-runs P w rest none runs (kind.Consume prop) s = absurd (none.no_consume (first-word w _ rest _ s.spelled))
kind-runs P w rest none runs (kind.SpanOpen span) s = absurd (none.no_open (first-word w _ rest _ s.spelled))
kind-runs P w rest none runs (kind.SpanClose span) s = absurd (none.no_close (first-word w _ rest _ s.spelled))
kind-runs P w rest none runs (kind.Pause number reason) s = absurd (none.no_pause (first-word w _ rest _ s.spelled))
kind-runs P w rest none runs (kind.Fail number reason) s = absurd (none.no_error (first-word w _ rest _ s.spelled))

-- the word of no code
pub record IsNoCode (w : List ℕ) : Type 0 where
  pub no_call : w ≡ codes "call" → ⊥
  pub no_store : w ≡ codes "store" → ⊥
  pub no_load : w ≡ codes "load" → ⊥
  pub no_muladd : w ≡ codes "muladd" → ⊥
  pub no_constant : (what : Constant) → Word w ≡ constant_word what → ⊥

-- none is not some
pub none-some : (what : Constant) (found : Option Constant) → found ≡ None → found ≡ Some what → ⊥
none-some what found none some = absurd cc

-- the first tokens of equal lists are equal
first-token : (token next : Token) (rest others : List Token) → token ∷ rest ≡ next ∷ others → token ≡ next
first-token token next rest others e = cc

-- no code begins with such a word
pub no-code : (w : List ℕ) (rest : List Token) → IsNoCode w → (what : NamedCode) → AreCode (Word w ∷ rest) what → ⊥
no-code w rest none (code.Call host) s = none.no_call (first-word w _ rest _ s.spelled)
no-code w rest none (code.Store prop) s = none.no_store (first-word w _ rest _ s.spelled)
no-code w rest none (code.Load prop) s = none.no_load (first-word w _ rest _ s.spelled)
no-code w rest none (code.Constant what prop value) s = none.no_constant what (first-token (Word w) (constant_word what) rest _ s.spelled)
no-code w rest none (code.MulAdd prop base most) s = none.no_muladd (first-word w _ rest _ s.spelled)

-- the word of no call
pub record IsNoCall (w : List ℕ) : Type 0 where
  pub no_prop : w ≡ codes "prop" → ⊥
  pub no_host : w ≡ codes "host" → ⊥
  pub no_span : w ≡ codes "span" → ⊥
  pub no_entry : w ≡ codes "entry" → ⊥
  pub no_finish : w ≡ codes "finish" → ⊥
  pub no_node : w ≡ codes "node" → ⊥
  pub no_is : w ≡ codes "is" → ⊥
  pub no_else : w ≡ codes "else" → ⊥
  pub no_skip : w ≡ codes "skip" → ⊥

-- no call begins with such a word
pub no-call : (w : List ℕ) (rest : List Token) → IsNoCall w → (what : BuilderCall) → AreCall (Word w ∷ rest) what → ⊥
no-call w rest none (call.Prop name width) s = none.no_prop (first-word w _ rest _ s.spelled)
no-call w rest none (call.Host name value) s = none.no_host (first-word w _ rest _ s.spelled)
no-call w rest none (call.Span name) s = none.no_span (first-word w _ rest _ s.spelled)
no-call w rest none (call.Entry node) s = none.no_entry (first-word w _ rest _ s.spelled)
no-call w rest none (call.Finish prop host) s = none.no_finish (first-word w _ rest _ s.spelled)
no-call w rest none (call.Node name what) s = none.no_node (first-word w _ rest _ s.spelled)
no-call w rest none (call.Edge (edge.Key bytes number) target) s = s.fits
no-call w rest none (call.Edge (edge.Peek byte) target) s = s.fits
no-call w rest none (call.Edge (edge.Answer number) target) s = none.no_is (first-word w _ rest _ s.spelled)
no-call w rest none (call.Edge (edge.Otherwise true) target) s = none.no_skip (first-word w _ rest _ s.spelled)
no-call w rest none (call.Edge (edge.Otherwise false) target) s = none.no_else (first-word w _ rest _ s.spelled)
