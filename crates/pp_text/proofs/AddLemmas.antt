-- What a statement adds, from its shape.
use Rattle.std.proofs.Common.{◌≡◌, ◌≢◌, ℕ, suc, ◌≤◌, ◌<◌, Bool, true, false, List, [], ◌∷◌, ◌++◌, length, map, refl, sym, ap, subst, ◌∙◌, arith}
use Rattle.std.proofs.lemmas.List.{length-append, length-map}
use Rattle.std.specs.Prelude.{Option, Some}
use Rattle.pp_rules.specs.declared.call.NamedEdge.TheVariants as edge
use Rattle.pp_rules.specs.declared.call.BuilderCall.{BuilderCall}
use Rattle.pp_rules.specs.declared.call.BuilderCall.TheVariants as call
use Rattle.pp_text.specs.declared.calls.KeyUse.TheVariants as key_use
use Rattle.pp_text.specs.declared.token.Token.{Token as Borrowed}
use Rattle.pp_text.specs.Keys.{GiveKeys, GivesKeys}
use Rattle.pp_text.specs.Sequence.{Follow}
use Rattle.pp_text.specs.steps.Shapes.{Shape, One, SomeKeys, SomePeeks, IsShape, AreKeyTokens, IsKeyToken}
use Rattle.pp_text.specs.Statements.{Statement, Says, Keys, Peeks, IsStatement, statement_calls}
use Rattle.pp_text.specs.steps.Rows.{SameEnds, IsAnswer, FitUse, FitsUse, edge_call, AddsCall, AddsTokens, AddsStatement}
use Rattle.pp_text.specs.Text.{Told, tell, Leads}
use Rattle.pp_text.specs.Tokens.{Token, Word, Quoted, Bracketed}
use Rattle.pp_text.specs.steps.View.{tokens_of}
use Rattle.pp_text.proofs.SetAddLemmas.{fit_bytes, peek_edges}

-- a token that gives keys is no word
key_token : (token : Token) (keys : List (List ℕ)) → GivesKeys token keys → IsKeyToken token
key_token (Word bytes) keys g = g
key_token (Quoted inside) keys g = tt
key_token (Bracketed inside) keys g = tt

key_tokens : (tokens : List Token) (keys : List (List ℕ)) → GiveKeys tokens keys → AreKeyTokens tokens
key_tokens [] keys g = tt
key_tokens (token ∷ tokens) keys g = (key_token token g.0 g.2, key_tokens tokens g.1 g.3)

-- one call
one_from : (line : ℕ) (tokens : List Token) (what : BuilderCall) (a c : Told) → ((shape : Shape) → IsShape tokens shape → One what ≡ shape) →
    (s : Statement) → IsStatement tokens s → Follow a.calls (statement_calls s) → c ≡ tell line (statement_calls s) a → AddsCall line what a c
one_from line tokens what a c only (Says other) is follow told =
    let same : what ≡ other = cc (only (One other) is) in
    subst (λ (w : BuilderCall). AddsCall line w a c) (sym same) (follow.0, told)
one_from line tokens what a c only (Keys keys number target) is follow told =
    let other = only (SomeKeys is.written number target) (record { some = is.some; spelled = is.spelled; fits = is.fits; form = is.form }, key_tokens is.written keys is.given) in
    absurd cc
one_from line tokens what a c only (Peeks bytes target) is follow told =
    let other = only (SomePeeks is.written target) (record { some = is.some; spelled = is.spelled; form = is.form }, key_tokens is.written _ is.given) in
    absurd cc

pub one_same : (line : ℕ) (tokens : List Token) (what : BuilderCall) (a : Told) → IsShape tokens (One what) → ((shape : Shape) → IsShape tokens shape → One what ≡ shape) →
    SameEnds (AddsCall line what a) (AddsStatement line tokens a)
one_same line tokens what a is only = record {
  to = λ c g. (Says what, is, (g.0, tt), g.1);
  from = λ c w. one_from line tokens what a c only w.0 w.1 w.2 w.3;
}

-- any bytes are a key
fit_key : (number : Option ℕ) (keys : List (List ℕ)) → FitUse (key_use.Key number) keys
fit_key number [] = tt
fit_key number (key ∷ keys) = (tt, fit_key number keys)

keys_from_statement : (line : ℕ) (tokens written : List Token) (number : Option ℕ) (target : List ℕ) (a c : Told) →
    ((shape : Shape) → IsShape tokens shape → SomeKeys written number target ≡ shape) →
    (s : Statement) → IsStatement tokens s → Follow a.calls (statement_calls s) → c ≡ tell line (statement_calls s) a → AddsTokens line (key_use.Key number) target written a c
keys_from_statement line tokens written number target a c only (Says other) is follow told =
    let other = only (One other) is in
    absurd cc
keys_from_statement line tokens written number target a c only (Keys keys other_number other_target) is follow told =
    let same = only (SomeKeys is.written other_number other_target) (record { some = is.some; spelled = is.spelled; fits = is.fits; form = is.form }, key_tokens is.written keys is.given) in
    let same_written : is.written ≡ written = cc in
    let same_number : other_number ≡ number = cc in
    let same_target : other_target ≡ target = cc in
    let here : AddsTokens line (key_use.Key other_number) other_target is.written a c = (keys, is.given, (fit_key other_number keys, follow, told)) in
    subst (λ (n : Option ℕ). AddsTokens line (key_use.Key n) target written a c) same_number
    (subst (λ (t : List ℕ). AddsTokens line (key_use.Key other_number) t written a c) same_target
    (subst (λ (w : List Token). AddsTokens line (key_use.Key other_number) other_target w a c) same_written here))
keys_from_statement line tokens written number target a c only (Peeks bytes other_target) is follow told =
    let other = only (SomePeeks is.written other_target) (record { some = is.some; spelled = is.spelled; form = is.form }, key_tokens is.written _ is.given) in
    absurd cc

pub keys_same : (line : ℕ) (tokens written : List Token) (number : Option ℕ) (target : List ℕ) (a : Told) → IsShape tokens (SomeKeys written number target) →
    ((shape : Shape) → IsShape tokens shape → SomeKeys written number target ≡ shape) → SameEnds (AddsTokens line (key_use.Key number) target written a) (AddsStatement line tokens a)
keys_same line tokens written number target a is only = record {
  to = λ c g.
      (Keys g.0 number target, record { written = written; some = is.0.some; spelled = is.0.spelled; given = g.1; fits = is.0.fits; form = is.0.form }, g.2.1, g.2.2);
  from = λ c w. keys_from_statement line tokens written number target a c only w.0 w.1 w.2 w.3;
}

-- keys of one byte each, and these bytes
abbrev head : List ℕ → ℕ
head [] = 0
head (byte ∷ key) = byte

single : (key : List ℕ) → FitsUse key_use.Peek key → head key ∷ [] ≡ key
single [] f = absurd (omega arith)
single (byte ∷ []) f = refl
single (byte ∷ other ∷ key) f = absurd (omega arith)

singles : (keys : List (List ℕ)) → FitUse key_use.Peek keys → map (λ b. b ∷ []) (map head keys) ≡ keys
singles [] f = refl
singles (key ∷ keys) f =
    let one = single key f.0 in
    let others = singles keys f.1 in
    cc

peeks_from_statement : (line : ℕ) (tokens written : List Token) (target : List ℕ) (a c : Told) →
    ((shape : Shape) → IsShape tokens shape → SomePeeks written target ≡ shape) →
    (s : Statement) → IsStatement tokens s → Follow a.calls (statement_calls s) → c ≡ tell line (statement_calls s) a → AddsTokens line key_use.Peek target written a c
peeks_from_statement line tokens written target a c only (Says other) is follow told =
    let other = only (One other) is in
    absurd cc
peeks_from_statement line tokens written target a c only (Keys keys number other_target) is follow told =
    let other = only (SomeKeys is.written number other_target) (record { some = is.some; spelled = is.spelled; fits = is.fits; form = is.form }, key_tokens is.written keys is.given) in
    absurd cc
peeks_from_statement line tokens written target a c only (Peeks bytes other_target) is follow told =
    let keys = map (λ (b : ℕ). b ∷ []) bytes in
    let same = only (SomePeeks is.written other_target) (record { some = is.some; spelled = is.spelled; form = is.form }, key_tokens is.written keys is.given) in
    let same_written : is.written ≡ written = cc in
    let same_target : other_target ≡ target = cc in
    let calls = peek_edges other_target bytes in
    let here : AddsTokens line key_use.Peek other_target is.written a c =
    (keys, is.given, (fit_bytes key_use.Peek bytes, subst (Follow a.calls) calls follow, told ∙ ap (λ l. tell line l a) calls)) in
    subst (λ (t : List ℕ). AddsTokens line key_use.Peek t written a c) same_target
    (subst (λ (w : List Token). AddsTokens line key_use.Peek other_target w a c) same_written here)

pub peeks_same : (line : ℕ) (tokens written : List Token) (target : List ℕ) (a : Told) → IsShape tokens (SomePeeks written target) →
    ((shape : Shape) → IsShape tokens shape → SomePeeks written target ≡ shape) → SameEnds (AddsTokens line key_use.Peek target written a) (AddsStatement line tokens a)
peeks_same line tokens written target a is only = record {
  to = λ c g.
      let bytes = map head g.0 in
      let keys : map (λ (b : ℕ). b ∷ []) bytes ≡ g.0 = singles g.0 g.2.0 in
      let calls : map (edge_call key_use.Peek target) g.0 ≡ map (λ byte. call.Edge (edge.Peek byte) target) bytes =
      ap (map (edge_call key_use.Peek target)) (sym keys) ∙ sym (peek_edges target bytes) in (
        Peeks bytes target,
        record { written = written; some = is.0.some; spelled = is.0.spelled; given = subst (GiveKeys written) (sym keys) g.1; form = is.0.form },
        subst (Follow a.calls) calls g.2.1,
        g.2.2 ∙ ap (λ l. tell line l a) calls,
      );
  from = λ c w. peeks_from_statement line tokens written target a c only w.0 w.1 w.2 w.3;
}

-- the keys of a statement are fewer than its tokens
pub fewer : (tokens keys : List Borrowed) (word : Token) (tail : List Token) → tokens_of tokens ≡ word ∷ tokens_of keys ++ tail → suc (length keys) ≤ length tokens
fewer tokens keys word tail e =
    let all : length (tokens_of tokens) ≡ suc (length (tokens_of keys ++ tail)) = ap length e in
    omega (arith, length-append (tokens_of keys) tail, length-map {A = Borrowed} {B = Token})

none_in : (tokens : List Token) → ((shape : Shape) → ¬ (IsShape tokens shape)) → (s : Statement) → ¬ (IsStatement tokens s)
none_in tokens none (Says what) is = none (One what) is
none_in tokens none (Keys keys number target) is =
    none (SomeKeys is.written number target) (record { some = is.some; spelled = is.spelled; fits = is.fits; form = is.form }, key_tokens is.written keys is.given)
none_in tokens none (Peeks bytes target) is =
    none (SomePeeks is.written target) (record { some = is.some; spelled = is.spelled; form = is.form }, key_tokens is.written _ is.given)

-- tokens without a shape are no statement
pub none_same : (line : ℕ) (tokens : List Token) (a : Told) → ((shape : Shape) → ¬ (IsShape tokens shape)) → (c : Told) → ¬ (AddsStatement line tokens a c)
none_same line tokens a none c w = none_in tokens none w.0 w.1

-- what leads on behind `graph 1` is a statement
leads_statement : (line : ℕ) (tokens : List Token) (a : Told) (after : Option Told) → tokens ≢ [] → Leads line (Some a) tokens after → (t : Told) × (AddsStatement line tokens a t) × (after ≡ Some t)
leads_statement line [] a after some w = absurd (some refl)
leads_statement line (token ∷ tokens) a after some w = (tell line (statement_calls w.0) a, (w.0, w.1, w.2, refl), w.3)

is_added : (line : ℕ) (tokens : List Token) (a b t : Told) (after : Option Told) (led : Bool) → AddsStatement line tokens a t → after ≡ Some t →
    IsAnswer led b (AddsStatement line tokens a) → (led ≡ true) × (Some b ≡ after)
is_added line tokens a b t after true w e h = (refl, ap Some (h.1 t w) ∙ sym e)
is_added line tokens a b t after false w e h = absurd (h t w)

pub leads_only : (line : ℕ) (tokens : List Borrowed) (a b : Told) (before after : Option Told) (led : Bool) → 0 < length tokens → before ≡ Some a →
    Leads line before (tokens_of tokens) after → IsAnswer led b (AddsStatement line (tokens_of tokens) a) → (led ≡ true) × (Some b ≡ after)
leads_only line [] a b before after led some is w h = absurd (omega arith)
leads_only line (token ∷ tokens) a b before after led some is w h =
    let v : Leads line (Some a) (tokens_of (token ∷ tokens)) after = subst (λ (o : Option Told). Leads line o (tokens_of (token ∷ tokens)) after) is w in
    let s = leads_statement line (tokens_of (token ∷ tokens)) a after (λ e. cc) v in
    is_added line (tokens_of (token ∷ tokens)) a b s.0 after led s.1 s.2 h
