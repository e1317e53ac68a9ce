-- A printed line is one row of one statement, which tells its call.
use Rattle.std.proofs.Common.{◌≡◌, ◌≢◌, ℕ, ◌<◌, ◌≤◌, List, [], ◌∷◌, ◌++◌, Bool, true, false, not, ◌&&◌, ◌||◌, ◌==◌, nat_le, flat_map, Some, refl, ap, sym, ◌∙◌, subst, inr, arith}
use Rattle.std.specs.Prelude.{All}
use Rattle.std.specs.List.{list_all}
use Rattle.std.specs.Int.{is_in_range}
use Rattle.std.specs.Char.{is_ascii_alphanumeric}
use Rattle.std.proofs.lemmas.Bool.{false≢true, and_parts, and_from, leb-true, le-leb, eqb-true}
use Rattle.std.proofs.lemmas.List.{append-nil}
use Rattle.std.proofs.lemmas.List.Folds.{list_all-append}
use Rattle.std.proofs.lemmas.List.Elements.{All-nil, All-cons}
use Rattle.pp_rules.specs.declared.call.NamedEdge.TheVariants as edge
use Rattle.pp_rules.specs.declared.call.BuilderCall.{BuilderCall}
use Rattle.pp_rules.specs.declared.call.BuilderCall.TheVariants as call
use Rattle.pp_graph.specs.Calls.{HasForm, MayFollow}
use Rattle.pp_graph.proofs.TableLemmas.{Each}
use Rattle.pp_text.specs.Tokens.{Token, Word, Quoted, Bracketed, token_text, is_word, is_word_byte, is_printed, is_inside, is_apart, IsSpaced, IsRow}
use Rattle.pp_text.specs.Keys.{GiveKeys}
use Rattle.pp_text.specs.Sequence.{Follow}
use Rattle.pp_text.specs.Statements.{Statement, Says, Keys, Peeks, statement_calls, IsStatement}
use Rattle.pp_text.specs.Text.{Told, tell, Leads, RowLeads, IsOneLine, IsRowOf}
use Rattle.pp_text.specs.Printed.{printed_tokens, printed_key, behind_blank, spaced}
use Rattle.pp_text.proofs.PrintedKeyLemmas.{printed-spells}
use Rattle.pp_text.proofs.PrintedTokenLemmas.{CallInRange, IsToken, one-byte, tokens-are}

-- each byte of a token is printed
range-printed : (low high b : ℕ) → 32 ≤ low → high ≤ 126 → is_in_range low high b ≡ true → is_printed b ≡ true
range-printed low high b l h e =
    let parts = and_parts (nat_le low b) (nat_le b high) e in
    let above : low ≤ b = leb-true low b parts.0 in
    let below : b ≤ high = leb-true b high parts.1 in
    and_from (nat_le 32 b) (nat_le b 126) (le-leb 32 b (omega arith)) (le-leb b 126 (omega arith))

same-printed : (k b : ℕ) → is_printed k ≡ true → (b == k) ≡ true → is_printed b ≡ true
same-printed k b h e = subst (λ x. is_printed x ≡ true) (sym (eqb-true b k e)) h

either : (P : Type 0) (x y : Bool) → (x ≡ true → P) → (y ≡ true → P) → (x || y) ≡ true → P
either P true y f g h = f refl
either P false y f g h = g h

letter-printed : (b : ℕ) → is_ascii_alphanumeric b ≡ true → is_printed b ≡ true
letter-printed b h =
    let P : Type 0 = is_printed b ≡ true in
    either P (is_in_range 48 57 b || is_in_range 65 90 b) (is_in_range 97 122 b)
    (either P (is_in_range 48 57 b) (is_in_range 65 90 b) (range-printed 48 57 b (omega arith) (omega arith)) (range-printed 65 90 b (omega arith) (omega arith)))
    (range-printed 97 122 b (omega arith) (omega arith))
    h

word_byte-printed : (b : ℕ) → is_word_byte b ≡ true → is_printed b ≡ true
word_byte-printed b h =
    let P : Type 0 = is_printed b ≡ true in
    let a = is_ascii_alphanumeric b in
    either P (a || b == 95 || b == 45 || b == 61) (b == 62)
    (either P (a || b == 95 || b == 45) (b == 61)
    (either P (a || b == 95) (b == 45)
    (either P a (b == 95) (letter-printed b) (same-printed 95 b refl))
    (same-printed 45 b refl))
    (same-printed 61 b refl))
    (same-printed 62 b refl)
    h

word_bytes-printed : (bytes : List ℕ) → list_all is_word_byte bytes ≡ true → list_all is_printed bytes ≡ true
word_bytes-printed [] h = refl
word_bytes-printed (b ∷ bytes) h =
    let parts = and_parts (is_word_byte b) (list_all is_word_byte bytes) h in
    and_from (is_printed b) (list_all is_printed bytes) (word_byte-printed b parts.0) (word_bytes-printed bytes parts.1)

word-printed : (bytes : List ℕ) → is_word bytes ≡ true → list_all is_printed bytes ≡ true
word-printed [] h = refl
word-printed (b ∷ bytes) h = word_bytes-printed (b ∷ bytes) h

inside-printed : (close : ℕ) (escaped : Bool) (bytes : List ℕ) → is_inside close escaped bytes ≡ true → list_all is_printed bytes ≡ true
inside-printed close escaped [] h = refl
inside-printed close true (b ∷ bytes) h =
    let parts = and_parts (is_printed b) (is_inside close false bytes) h in
    and_from (is_printed b) (list_all is_printed bytes) parts.0 (inside-printed close false bytes parts.1)
inside-printed close false (b ∷ bytes) h =
    let parts = and_parts (is_printed b && not (b == close)) (is_inside close (b == 92) bytes) h in
    and_from (is_printed b) (list_all is_printed bytes) (and_parts (is_printed b) (not (b == close)) parts.0).0 (inside-printed close (b == 92) bytes parts.1)

joined-printed : (a b : List ℕ) → list_all is_printed a ≡ true → list_all is_printed b ≡ true → list_all is_printed (a ++ b) ≡ true
joined-printed a b h k =
    list_all-append is_printed a b ∙ and_from (list_all is_printed a) (list_all is_printed b) h k

token-printed : (t : Token) → IsToken t → list_all is_printed (token_text t) ≡ true
token-printed (Word bytes) h = word-printed bytes h
token-printed (Quoted inside) h = joined-printed inside (34 ∷ []) (inside-printed 34 false inside h) refl
token-printed (Bracketed inside) h = joined-printed inside (93 ∷ []) (inside-printed 93 false inside h) refl

behind-printed : (ts : List Token) → Each IsToken ts → list_all is_printed (flat_map behind_blank ts) ≡ true
behind-printed [] h = refl
behind-printed (t ∷ ts) h =
    joined-printed (token_text t) (flat_map behind_blank ts) (token-printed t h.0) (behind-printed ts h.1)

pub spaced-printed : (ts : List Token) → Each IsToken ts → list_all is_printed (spaced ts) ≡ true
spaced-printed [] h = refl
spaced-printed (t ∷ ts) h =
    joined-printed (token_text t) (flat_map behind_blank ts) (token-printed t h.0) (behind-printed ts h.1)

-- printed bytes are one line, and don't end with a CR
no_end : (b : ℕ) → is_printed b ≡ true → b ≢ 10
no_end b h e = false≢true (subst (λ x. is_printed x ≡ true) e h)

pub printed-one_line : (row : List ℕ) → list_all is_printed row ≡ true → IsOneLine row
printed-one_line [] h = All-nil (λ b. b ≢ 10)
printed-one_line (b ∷ row) h =
    let parts = and_parts (is_printed b) (list_all is_printed row) h in
    All-cons (λ b. b ≢ 10) b row (no_end b parts.0) (printed-one_line row parts.1)

no_return : (row front : List ℕ) → list_all is_printed row ≡ true → row ≢ front ++ 13 ∷ []
no_return row front h e =
    let both : (list_all is_printed front && list_all is_printed (13 ∷ [])) ≡ true = sym (list_all-append is_printed front (13 ∷ [])) ∙ ap (list_all is_printed) (sym e) ∙ h in
    false≢true (and_parts (list_all is_printed front) (list_all is_printed (13 ∷ [])) both).1

pub printed-row : (row : List ℕ) → list_all is_printed row ≡ true → IsRowOf row row
printed-row row h = inr (refl, λ front. no_return row front h)

-- tokens with one blank between them are spaced, and a row of one statement
apart : (ts : List Token) → is_apart (flat_map behind_blank ts) ≡ true
apart [] = refl
apart (t ∷ ts) = refl

behind-spaced : (ts : List Token) → Each IsToken ts → IsSpaced (flat_map behind_blank ts) ts
behind-spaced [] h = refl
behind-spaced (t ∷ ts) h =
    (flat_map behind_blank ts, record { gap = 32 ∷ []; blank = refl; is = h.0; spelled = refl; apart = apart ts }, behind-spaced ts h.1)

tokens-spaced : (ts : List Token) → Each IsToken ts → IsSpaced (spaced ts) ts
tokens-spaced [] h = refl
tokens-spaced (t ∷ ts) h =
    (flat_map behind_blank ts, record { gap = []; blank = refl; is = h.0; spelled = refl; apart = apart ts }, behind-spaced ts h.1)

pub tokens-row : (ts : List Token) → Each IsToken ts → IsRow (spaced ts) ts []
tokens-row ts h = record {
  text = spaced ts;
  after = [];
  split = sym (append-nil (spaced ts));
  spaced = tokens-spaced ts h;
  end = refl;
}

-- the statement of a call
abbrev statement_of : BuilderCall → Statement
statement_of (call.Prop name width) = Says (call.Prop name width)
statement_of (call.Host name value) = Says (call.Host name value)
statement_of (call.Span name) = Says (call.Span name)
statement_of (call.Entry node) = Says (call.Entry node)
statement_of (call.Finish prop host) = Says (call.Finish prop host)
statement_of (call.Node name what) = Says (call.Node name what)
statement_of (call.Edge (edge.Key bytes number) target) = Keys (bytes ∷ []) number target
statement_of (call.Edge (edge.Peek byte) target) = Peeks (byte ∷ []) target
statement_of (call.Edge (edge.Answer number) target) = Says (call.Edge (edge.Answer number) target)
statement_of (call.Edge (edge.Otherwise skip) target) = Says (call.Edge (edge.Otherwise skip) target)

statement-calls : (c : BuilderCall) → c ∷ [] ≡ statement_calls (statement_of c)
statement-calls (call.Prop name width) = refl
statement-calls (call.Host name value) = refl
statement-calls (call.Span name) = refl
statement-calls (call.Entry node) = refl
statement-calls (call.Finish prop host) = refl
statement-calls (call.Node name what) = refl
statement-calls (call.Edge (edge.Key bytes number) target) = refl
statement-calls (call.Edge (edge.Peek byte) target) = refl
statement-calls (call.Edge (edge.Answer number) target) = refl
statement-calls (call.Edge (edge.Otherwise skip) target) = refl

key-given : (bytes : List ℕ) → All (λ b. b < 256) bytes → GiveKeys (printed_key bytes ∷ []) (bytes ∷ [])
key-given bytes h = (bytes ∷ [], [], (bytes, printed-spells bytes h, refl), refl, refl)

cons-some : (t : Token) (ts : List Token) → t ∷ ts ≢ []
cons-some t ts e = absurd cc

is-statement : (c : BuilderCall) → HasForm c → CallInRange c → IsStatement (printed_tokens c) (statement_of c)
is-statement (call.Prop name width) f r = record { spelled = refl; form = f; fits = tt }
is-statement (call.Host name value) f r = record { spelled = refl; form = f; fits = tt }
is-statement (call.Span name) f r = record { spelled = refl; form = f; fits = tt }
is-statement (call.Entry node) f r = record { spelled = refl; form = f; fits = tt }
is-statement (call.Finish prop host) f r = record { spelled = refl; form = f; fits = tt }
is-statement (call.Node name what) f r = record { spelled = refl; form = f; fits = r }
is-statement (call.Edge (edge.Key bytes number) target) f r =
    record { written = printed_key bytes ∷ []; some = cons-some (printed_key bytes) []; spelled = refl; given = key-given bytes r.0; fits = r.1; form = f }
is-statement (call.Edge (edge.Peek byte) target) f r =
    record { written = printed_key (byte ∷ []) ∷ []; some = cons-some (printed_key (byte ∷ [])) []; spelled = refl; given = key-given (byte ∷ []) (one-byte byte r); form = f }
is-statement (call.Edge (edge.Answer number) target) f r = record { spelled = refl; form = f; fits = r }
is-statement (call.Edge (edge.Otherwise skip) target) f r = record { spelled = refl; form = f; fits = tt }

-- it leads on to this call
abbrev are_some : List Token → Bool
are_some [] = false
are_some (t ∷ ts) = true

tokens-some : (c : BuilderCall) → are_some (printed_tokens c) ≡ true
tokens-some (call.Prop name width) = refl
tokens-some (call.Host name value) = refl
tokens-some (call.Span name) = refl
tokens-some (call.Entry node) = refl
tokens-some (call.Finish prop host) = refl
tokens-some (call.Node name what) = refl
tokens-some (call.Edge (edge.Key bytes number) target) = refl
tokens-some (call.Edge (edge.Peek byte) target) = refl
tokens-some (call.Edge (edge.Answer number) target) = refl
tokens-some (call.Edge (edge.Otherwise skip) target) = refl

tokens-lead : (line : ℕ) (told : Told) (ts : List Token) (c : BuilderCall) (s : Statement) → are_some ts ≡ true → IsStatement ts s → c ∷ [] ≡ statement_calls s → MayFollow told.calls c → Leads line (Some told) ts (Some (tell line (c ∷ []) told))
tokens-lead line told [] c s some is e m = absurd (false≢true some)
tokens-lead line told (t ∷ ts) c s some is e m =
    (s, is, subst (Follow told.calls) e (m, tt), ap (λ calls. Some (tell line calls told)) e)

pub row-leads : (line : ℕ) (told : Told) (c : BuilderCall) → HasForm c → CallInRange c → MayFollow told.calls c → RowLeads line (spaced (printed_tokens c)) (Some told) (Some (tell line (c ∷ []) told))
row-leads line told c f r m = record {
  first = printed_tokens c;
  others = [];
  row_is = tokens-row (printed_tokens c) (tokens-are c f r);
  lead = (
    Some (tell line (c ∷ []) told),
    tokens-lead line told (printed_tokens c) c (statement_of c) (tokens-some c) (is-statement c f r) (statement-calls c) m,
    refl,
  );
}
