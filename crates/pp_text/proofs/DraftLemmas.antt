-- What keys, tokens and statements add to what was told.
use Rattle.std.proofs.Common.{◌≡◌, ℕ, ◌+◌, ◌<◌, ◌≤◌, Bool, true, false, List, [], ◌∷◌, ◌++◌, length, map, drop, get_or, append_assoc, refl, sym, ap, subst, ◌∙◌}
use Rattle.std.proofs.lemmas.List.{append-nil, map-append, drop_more, at_drop_all}
use Rattle.std.specs.FinSet as set
use Rattle.std.specs.Ordering.{nat_cmp}
use Rattle.pp_rules.specs.declared.call.BuilderCall.{BuilderCall}
use Rattle.pp_text.specs.declared.calls.KeyUse.{KeyUse}
use Rattle.pp_text.specs.declared.token.Token.{Token as Borrowed}
use Rattle.pp_text.specs.steps.View.{token_of, tokens_of}
use Rattle.pp_text.specs.Keys.{SpellsKey, SpellsSet}
use Rattle.pp_text.specs.steps.Reading.{HasBytes}
use Rattle.pp_text.specs.Sequence.{Follow}
use Rattle.pp_text.specs.steps.Rows.{SameEnds, IsAnswer, FitUse, edge_call, AddsKeys, AddsToken, AddsTokens, keys_of}
use Rattle.pp_text.specs.Text.{Told, tell}
use Rattle.pp_text.proofs.SetKeyLemmas.{set_keys}
use Rattle.pp_text.specs.Tokens.{Token, Quoted, Bracketed}

-- and so on
pub SameEnds-trans : {A : Type 0} (P Q R : A → Type 0) → SameEnds P Q → SameEnds Q R → SameEnds P R
SameEnds-trans P Q R p q = record { to = λ a w. q.to a (p.to a w); from = λ a w. p.from a (q.from a w) }

-- the same comes of both, so the answers are the same
pub IsAnswer-same : {A : Type 0} (led : Bool) (new : A) (Left Whole : A → Type 0) → SameEnds Left Whole → IsAnswer led new Left → IsAnswer led new Whole
IsAnswer-same true new Left Whole same h = (same.to new h.0, λ other w. h.1 other (same.from other w))
IsAnswer-same false new Left Whole same h = λ other w. h other (same.from other w)

pub Follow-join : (before xs ys : List BuilderCall) → Follow before xs → Follow (before ++ xs) ys → Follow before (xs ++ ys)
Follow-join before [] ys f g = subst (λ l. Follow l ys) (append-nil before) g
Follow-join before (x ∷ xs) ys f g =
    (f.0, Follow-join (before ++ x ∷ []) xs ys f.1 (subst (λ l. Follow l ys) (sym (append_assoc before (x ∷ []) xs)) g))

pub Follow-split : (before xs ys : List BuilderCall) → Follow before (xs ++ ys) → (Follow before xs) × (Follow (before ++ xs) ys)
Follow-split before [] ys f = (tt, subst (λ l. Follow l ys) (sym (append-nil before)) f)
Follow-split before (x ∷ xs) ys f =
    let r = Follow-split (before ++ x ∷ []) xs ys f.1 in
    ((f.0, r.0), subst (λ l. Follow l ys) (append_assoc before (x ∷ []) xs) r.1)

FitUse-join : (how : KeyUse) (ks ls : List (List ℕ)) → FitUse how ks → FitUse how ls → FitUse how (ks ++ ls)
FitUse-join how [] ls f g = g
FitUse-join how (k ∷ ks) ls f g = (f.0, FitUse-join how ks ls f.1 g)

FitUse-split : (how : KeyUse) (ks ls : List (List ℕ)) → FitUse how (ks ++ ls) → (FitUse how ks) × (FitUse how ls)
FitUse-split how [] ls f = (tt, f)
FitUse-split how (k ∷ ks) ls f = let r = FitUse-split how ks ls f.1 in ((f.0, r.0), r.1)

pub told_is : (c d : List BuilderCall) (l m : List ℕ) → c ≡ d → l ≡ m → (let a : Told = record { calls = c; lines = l } in let b : Told = record { calls = d; lines = m } in a ≡ b)
told_is c d l m p q = cc

pub tell-nil : (line : ℕ) (told : Told) → tell line [] told ≡ told
tell-nil line told = told_is _ _ _ _ (append-nil told.calls) (append-nil told.lines)

pub tell-join : (line : ℕ) (xs ys : List BuilderCall) (told : Told) → tell line ys (tell line xs told) ≡ tell line (xs ++ ys) told
tell-join line xs ys told =
    told_is _ _ _ _ (append_assoc told.calls xs ys)
    (append_assoc told.lines (map (λ c. line) xs) (map (λ c. line) ys) ∙ ap (λ l. told.lines ++ l) (sym (map-append (λ (c : BuilderCall). line) xs ys)))

-- keys and then others
pub AddsKeys-join : (line : ℕ) (how : KeyUse) (target : List ℕ) (ks ls : List (List ℕ)) (a b c : Told) →
    AddsKeys line how target ks a b → AddsKeys line how target ls b c → AddsKeys line how target (ks ++ ls) a c
AddsKeys-join line how target ks ls a b c f h =
    let xs = map (edge_call how target) ks in
    let ys = map (edge_call how target) ls in
    let g : AddsKeys line how target ls (tell line xs a) c = subst (λ (t : Told). AddsKeys line how target ls t c) f.2 h in
    let seam : map (edge_call how target) (ks ++ ls) ≡ xs ++ ys = map-append (edge_call how target) ks ls in (
      FitUse-join how ks ls f.0 g.0,
      subst (Follow a.calls) (sym seam) (Follow-join a.calls xs ys f.1 g.1),
      g.2 ∙ tell-join line xs ys a ∙ ap (λ l. tell line l a) (sym seam),
    )

pub AddsKeys-split : (line : ℕ) (how : KeyUse) (target : List ℕ) (ks ls : List (List ℕ)) (a c : Told) →
    AddsKeys line how target (ks ++ ls) a c → (b : Told) × (AddsKeys line how target ks a b) × (AddsKeys line how target ls b c)
AddsKeys-split line how target ks ls a c f =
    let xs = map (edge_call how target) ks in
    let ys = map (edge_call how target) ls in
    let seam : map (edge_call how target) (ks ++ ls) ≡ xs ++ ys = map-append (edge_call how target) ks ls in
    let fit = FitUse-split how ks ls f.0 in
    let follow = Follow-split a.calls xs ys (subst (Follow a.calls) seam f.1) in (
      tell line xs a,
      (fit.0, follow.0, refl),
      (fit.1, follow.1, f.2 ∙ ap (λ l. tell line l a) seam ∙ sym (tell-join line xs ys a)),
    )

pub AddsKeys-none : (line : ℕ) (how : KeyUse) (target : List ℕ) (a : Told) → IsAnswer true a (AddsKeys line how target [] a)
AddsKeys-none line how target a = ((tt, tt, sym (tell-nil line a)), λ other h. sym (h.2 ∙ tell-nil line a))

-- an answer by its test
pub answer_true : {A : Type 0} (led : Bool) (new : A) (Comes : A → Type 0) → led ≡ true → IsAnswer led new Comes → IsAnswer true new Comes
answer_true led new Comes e h = subst (λ (b : Bool). IsAnswer b new Comes) e h

pub answer_false : {A : Type 0} (led : Bool) (new : A) (Comes : A → Type 0) → led ≡ false → IsAnswer led new Comes → IsAnswer false new Comes
answer_false led new Comes e h = subst (λ (b : Bool). IsAnswer b new Comes) e h

-- a token with a key between quotes
pub quoted_same : (line : ℕ) (how : KeyUse) (target inside key : List ℕ) (a : Told) → SpellsKey inside key → ((k : List ℕ) → SpellsKey inside k → key ≡ k) →
    SameEnds (AddsKeys line how target (key ∷ []) a) (AddsToken line how target (Quoted inside) a)
quoted_same line how target inside key a spells only = record {
  to = λ c g. (key ∷ [], (key, spells, refl), g);
  from = λ c w.
      let same : w.0 ≡ key ∷ [] = w.1.2 ∙ ap (λ (k : List ℕ). k ∷ []) (sym (only w.1.0 w.1.1)) in
      subst (λ (ks : List (List ℕ)). AddsKeys line how target ks a c) same w.2;
}

pub quoted_none : (line : ℕ) (how : KeyUse) (target inside : List ℕ) (a : Told) → ((k : List ℕ) → ¬ (SpellsKey inside k)) →
    (c : Told) → ¬ (AddsToken line how target (Quoted inside) a c)
quoted_none line how target inside a none = λ c w. none w.1.0 w.1.1

-- a token with a set
bracketed : (line : ℕ) (how : KeyUse) (target inside bytes : List ℕ) (s : set.FinSet nat_cmp) (a : Told) → SpellsSet inside bytes →
    HasBytes s bytes → ((other : List ℕ) → SpellsSet inside other → HasBytes s other) → SameEnds (AddsKeys line how target (keys_of s) a) (AddsToken line how target (Bracketed inside) a)
bracketed line how target inside bytes s a spells has only = record {
  to = λ c g. (keys_of s, (bytes, spells, sym (set_keys inside bytes s spells has)), g);
  from = λ c w.
      let same : w.0 ≡ keys_of s = w.1.2 ∙ set_keys inside w.1.0 s w.1.1 (only w.1.0 w.1.1) in
      subst (λ (ks : List (List ℕ)). AddsKeys line how target ks a c) same w.2;
}

pub bracketed_same : (line : ℕ) (how : KeyUse) (target inside : List ℕ) (token : Token) (s : set.FinSet nat_cmp) (a : Told) → token ≡ Bracketed inside →
    ((bytes : List ℕ) × SpellsSet inside bytes × HasBytes s bytes) → ((other : List ℕ) → SpellsSet inside other → HasBytes s other) →
    SameEnds (AddsKeys line how target (keys_of s) a) (AddsToken line how target token a)
bracketed_same line how target inside token s a is found only =
    subst (λ (t : Token). SameEnds (AddsKeys line how target (keys_of s) a) (AddsToken line how target t a)) (sym is)
    (bracketed line how target inside found.0 s a found.1 found.2 only)

pub bracketed_none : (line : ℕ) (how : KeyUse) (target inside : List ℕ) (token : Token) (a : Told) → token ≡ Bracketed inside → ((bytes : List ℕ) → ¬ (SpellsSet inside bytes)) →
    (c : Told) → ¬ (AddsToken line how target token a c)
bracketed_none line how target inside token a is none c w =
    let v : AddsToken line how target (Bracketed inside) a c = subst (λ (t : Token). AddsToken line how target t a c) is w in
    none v.1.0 v.1.1

-- a token whose keys were added, and what comes of the others
pub tokens_step : (line : ℕ) (how : KeyUse) (target : List ℕ) (token : Token) (tokens : List Token) (a b : Told) → IsAnswer true b (AddsToken line how target token a) →
    SameEnds (AddsTokens line how target tokens b) (AddsTokens line how target (token ∷ tokens) a)
tokens_step line how target token tokens a b h = record {
  to = λ c g. (h.0.0 ++ g.0, (h.0.0, g.0, h.0.1, g.1, refl), AddsKeys-join line how target h.0.0 g.0 a b c h.0.2 g.2);
  from = λ c w.
      let first = w.1.0 in
      let others = w.1.1 in
      let s = AddsKeys-split line how target first others a c (subst (λ (ks : List (List ℕ)). AddsKeys line how target ks a c) w.1.4 w.2) in
      let same : s.0 ≡ b = sym (h.1 s.0 (first, w.1.2, s.1)) in
      (others, w.1.3, subst (λ (t : Told). AddsKeys line how target others t c) same s.2);
}

pub tokens_stop : (line : ℕ) (how : KeyUse) (target : List ℕ) (token : Token) (tokens : List Token) (a b : Told) → IsAnswer false b (AddsToken line how target token a) →
    IsAnswer false b (AddsTokens line how target (token ∷ tokens) a)
tokens_stop line how target token tokens a b h = λ c w.
    let s = AddsKeys-split line how target w.1.0 w.1.1 a c (subst (λ (ks : List (List ℕ)). AddsKeys line how target ks a c) w.1.4 w.2) in
    h s.0 (w.1.0, w.1.2, s.1)

pub tokens_end : (line : ℕ) (how : KeyUse) (target : List ℕ) (a : Told) → IsAnswer true a (AddsTokens line how target [] a)
tokens_end line how target a =
    let none = AddsKeys-none line how target a in
    (([], refl, none.0), λ c w. none.1 c (subst (λ (ks : List (List ℕ)). AddsKeys line how target ks a c) w.1 w.2))

-- tokens from one on: it, and the others
pub tokens_at : (tokens : List Borrowed) (i : ℕ) (d : Borrowed) → i < length tokens → tokens_of (drop i tokens) ≡ token_of (get_or tokens i d) ∷ tokens_of (drop (i + 1) tokens)
tokens_at tokens i d below = ap tokens_of (drop_more tokens i d below)

pub token_step : (line : ℕ) (how : KeyUse) (target : List ℕ) (tokens : List Borrowed) (i : ℕ) (d : Borrowed) (a b : Told) → i < length tokens →
    IsAnswer true b (AddsToken line how target (token_of (get_or tokens i d)) a) →
    SameEnds (AddsTokens line how target (tokens_of (drop (i + 1) tokens)) b) (AddsTokens line how target (tokens_of (drop i tokens)) a)
token_step line how target tokens i d a b below h =
    subst (λ (ts : List Token). SameEnds (AddsTokens line how target (tokens_of (drop (i + 1) tokens)) b) (AddsTokens line how target ts a)) (sym (tokens_at tokens i d below))
    (tokens_step line how target (token_of (get_or tokens i d)) (tokens_of (drop (i + 1) tokens)) a b h)

pub token_stop : (line : ℕ) (how : KeyUse) (target : List ℕ) (tokens : List Borrowed) (i : ℕ) (d : Borrowed) (a b : Told) → i < length tokens →
    IsAnswer false b (AddsToken line how target (token_of (get_or tokens i d)) a) → IsAnswer false b (AddsTokens line how target (tokens_of (drop i tokens)) a)
token_stop line how target tokens i d a b below h =
    subst (λ (ts : List Token). IsAnswer false b (AddsTokens line how target ts a)) (sym (tokens_at tokens i d below))
    (tokens_stop line how target (token_of (get_or tokens i d)) (tokens_of (drop (i + 1) tokens)) a b h)

pub token_end : (line : ℕ) (how : KeyUse) (target : List ℕ) (tokens : List Borrowed) (i : ℕ) (a : Told) → length tokens ≤ i →
    IsAnswer true a (AddsTokens line how target (tokens_of (drop i tokens)) a)
token_end line how target tokens i a above =
    subst (λ (ts : List Token). IsAnswer true a (AddsTokens line how target ts a)) (sym (at_drop_all tokens_of tokens i above)) (tokens_end line how target a)
