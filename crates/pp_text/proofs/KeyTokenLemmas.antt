-- Tokens split at the first word.
use Rattle.std.proofs.Common.{◌≡◌, ◌≢◌, ℕ, zero, suc, ◌<◌, ◌≤◌, true, ◌==◌, List, [], ◌∷◌, ◌++◌, Option, Some, None, length, take, drop, codes, append_assoc, refl, sym, ◌∙◌, ap, subst, arith}
use Rattle.std.proofs.lemmas.Bool.{eqb-true}
use Rattle.std.specs.List.{AllWithin, HoldsAt}
use Rattle.std.specs.Option.{MatchOption, unwrap_or}
use Rattle.pp_text.specs.declared.token.Token.{Token as Borrowed}
use Rattle.pp_rules.specs.Names.{IsName}
use Rattle.pp_text.specs.Tokens.{Token, Word, Quoted, Bracketed}
use Rattle.pp_text.specs.Statements.{NumberFits, carried_tokens, arrow_tokens}
use Rattle.pp_text.specs.steps.Shapes.{Shape, One, SomeKeys, SomePeeks, IsShape, IsKeyToken, AreKeyTokens}
use Rattle.pp_text.specs.steps.View.{tokens_of}
use Rattle.pp_text.specs.steps.FirstWord.{StartsWithWord, IsWordToken, IsKeyIn, IsWordIn}
use Rattle.pp_text.proofs.FirstWordLemmas.{apart, first-word, IsNoCall, no-call}

-- tokens in front of a place are keys, where each is one
front-keys : (tokens : List Borrowed) (at : ℕ) → at ≤ length tokens → AllWithin IsKeyIn tokens 0 at → AreKeyTokens (tokens_of (take at tokens))
front-keys tokens zero within all = tt
front-keys [] (suc at) within all = absurd (omega arith)
front-keys (token ∷ tokens) (suc at) within all =
    (all 0 token (omega arith) (omega arith), front-keys tokens at (omega arith) (λ k d low high. all (suc k) d (omega arith) (omega arith)))

-- a word at a place starts what stands from there on
word-behind : (tokens : List Borrowed) (at : ℕ) → at < length tokens → HoldsAt IsWordIn tokens at → StartsWithWord (tokens_of (drop at tokens))
word-behind [] at within word = absurd (omega arith)
word-behind (token ∷ tokens) zero within word = word token
word-behind (token ∷ tokens) (suc at) within word = word-behind tokens at (omega arith) (λ d. word d)

-- nothing stands behind the last token
none-behind : (tokens : List Borrowed) → StartsWithWord (tokens_of (drop (length tokens) tokens))
none-behind [] = tt
none-behind (token ∷ tokens) = none-behind tokens

-- what stands in front of the first word, or of the end where there is none, are keys
pub keys-in-front : (tokens : List Borrowed) (place : Option ℕ) →
    MatchOption place (AllWithin IsKeyIn tokens 0 (length tokens)) (λ at. (at < length tokens) × HoldsAt IsWordIn tokens at × AllWithin IsKeyIn tokens 0 at) →
    AreKeyTokens (tokens_of (take (unwrap_or place (length tokens)) tokens))
keys-in-front tokens None all = front-keys tokens (length tokens) (omega arith) all
keys-in-front tokens (Some at) found = front-keys tokens at (omega (arith, found.0)) found.2

-- and then comes a word, or nothing
pub word-next : (tokens : List Borrowed) (place : Option ℕ) →
    MatchOption place (AllWithin IsKeyIn tokens 0 (length tokens)) (λ at. (at < length tokens) × HoldsAt IsWordIn tokens at × AllWithin IsKeyIn tokens 0 at) →
    StartsWithWord (tokens_of (drop (unwrap_or place (length tokens)) tokens))
word-next tokens None all = none-behind tokens
word-next tokens (Some at) found = word-behind tokens at found.0 found.1

-- no token is a word and a key
word-or-key : (token : Token) → IsWordToken token → IsKeyToken token → ⊥
word-or-key (Word bytes) word key = key
word-or-key (Quoted inside) word key = word
word-or-key (Bracketed inside) word key = word

-- tokens split before their first word in one way
pub keys-unique : (a c b d : List Token) → AreKeyTokens a → AreKeyTokens c → StartsWithWord b → StartsWithWord d → a ++ b ≡ c ++ d → (a ≡ c) × (b ≡ d)
keys-unique [] [] b d p q v w e = (refl, e)
keys-unique [] (y ∷ c) b d p q v w e = absurd (word-or-key y (subst StartsWithWord e v) q.0)
keys-unique (x ∷ a) [] b d p q v w e = absurd (word-or-key x (subst StartsWithWord (sym e) w) p.0)
keys-unique (x ∷ a) (y ∷ c) b d p q v w e =
    let head : x ≡ y = cc in
    let rest : a ++ b ≡ c ++ d = cc in
    let same = keys-unique a c b d p.1 q.1 v w rest in
    (cc same.0, same.1)

-- a number or the arrow is a word
pub carried-word : (number : Option ℕ) (target : List ℕ) → StartsWithWord (carried_tokens number ++ arrow_tokens target)
carried-word None target = tt
carried-word (Some number) target = tt

-- what stands behind the first token
behind : (first next : Token) (rest others : List Token) → first ∷ rest ≡ next ∷ others → rest ≡ others
behind first next rest others e = cc

-- `on` is the word of no call
pub no-call-on : IsNoCall (codes "on")
no-call-on = record { no_prop = apart (codes "on") (codes "prop") refl; no_host = apart (codes "on") (codes "host") refl; no_span = apart (codes "on") (codes "span") refl; no_entry = apart (codes "on") (codes "entry") refl; no_finish = apart (codes "on") (codes "finish") refl; no_node = apart (codes "on") (codes "node") refl; no_is = apart (codes "on") (codes "is") refl; no_else = apart (codes "on") (codes "else") refl; no_skip = apart (codes "on") (codes "skip") refl }

-- a statement that begins with `on`, whose tokens split at the first word
pub record IsOn (keys others : List Token) (shape : Shape) (number : Option ℕ) (target : List ℕ) : Type 0 where
  pub some : keys ≢ []
  pub carried : others ≡ carried_tokens number ++ arrow_tokens target
  pub fits : NumberFits number
  pub form : IsName target
  pub is : SomeKeys keys number target ≡ shape

pub on-parts : (rest keys others : List Token) → rest ≡ keys ++ others → AreKeyTokens keys → StartsWithWord others → (shape : Shape) → IsShape (Word (codes "on") ∷ rest) shape →
    (number : Option ℕ) × (target : List ℕ) × IsOn keys others shape number target
on-parts rest keys others split are word (One what) s =
    absurd (no-call (codes "on") rest no-call-on what s)
on-parts rest keys others split are word (SomeKeys written number target) s =
    let tail = carried_tokens number ++ arrow_tokens target in
    let spelled = behind _ _ rest ((written ++ carried_tokens number) ++ arrow_tokens target) s.0.spelled ∙ append_assoc written (carried_tokens number) (arrow_tokens target) in
    let same = keys-unique keys written others tail are s.1 word (carried-word number target) (sym split ∙ spelled) in
    (number, target, record { some = λ e. s.0.some (sym same.0 ∙ e); carried = same.1; fits = s.0.fits; form = s.0.form; is = ap (λ k. SomeKeys k number target) same.0 })
on-parts rest keys others split are word (SomePeeks written target) s = absurd (apart (codes "on") (codes "peek") refl (first-word _ _ rest _ s.0.spelled))

-- `peek` is the word of no call
pub no-call-peek : IsNoCall (codes "peek")
no-call-peek = record { no_prop = apart (codes "peek") (codes "prop") refl; no_host = apart (codes "peek") (codes "host") refl; no_span = apart (codes "peek") (codes "span") refl; no_entry = apart (codes "peek") (codes "entry") refl; no_finish = apart (codes "peek") (codes "finish") refl; no_node = apart (codes "peek") (codes "node") refl; no_is = apart (codes "peek") (codes "is") refl; no_else = apart (codes "peek") (codes "else") refl; no_skip = apart (codes "peek") (codes "skip") refl }

-- a statement that begins with `peek`, whose tokens split at the first word
pub record IsPeek (keys others : List Token) (shape : Shape) (target : List ℕ) : Type 0 where
  pub some : keys ≢ []
  pub arrow : others ≡ arrow_tokens target
  pub form : IsName target
  pub is : SomePeeks keys target ≡ shape

pub peek-parts : (rest keys others : List Token) → rest ≡ keys ++ others → AreKeyTokens keys → StartsWithWord others → (shape : Shape) → IsShape (Word (codes "peek") ∷ rest) shape →
    (target : List ℕ) × IsPeek keys others shape target
peek-parts rest keys others split are word (One what) s =
    absurd (no-call (codes "peek") rest no-call-peek what s)
peek-parts rest keys others split are word (SomeKeys written number target) s = absurd (apart (codes "peek") (codes "on") refl (first-word _ _ rest _ s.0.spelled))
peek-parts rest keys others split are word (SomePeeks written target) s =
    let tail = arrow_tokens target in
    let spelled = behind _ _ rest (written ++ tail) s.0.spelled in
    let same = keys-unique keys written others tail are s.1 word tt (sym split ∙ spelled) in
    (target, record { some = λ e. s.0.some (sym same.0 ∙ e); arrow = same.1; form = s.0.form; is = ap (λ k. SomePeeks k target) same.0 })

-- no tokens are no tokens
pub none-of : (tokens : List Borrowed) → (length tokens == 0) ≡ true → tokens_of tokens ≡ []
none-of [] e = refl
none-of (token ∷ tokens) e = absurd (omega (arith, eqb-true (length (token ∷ tokens)) 0 e))
