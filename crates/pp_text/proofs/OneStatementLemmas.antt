-- The tokens of a statement tell the statement, and what it leads to.
use Rattle.std.proofs.Common.{◌≡◌, ℕ, List, [], ◌∷◌, ◌++◌, map, codes, decimal, append_assoc, refl, sym, ap, ap₂, subst, ◌∙◌, arith}
use Rattle.std.specs.Prelude.{Option, Some}
use Rattle.std.specs.Prelude.{None as none}
use Rattle.std.proofs.lemmas.Fmt.{decimal_injective}
use Rattle.pp_rules.specs.declared.call.BuilderCall.{BuilderCall}
use Rattle.pp_text.specs.Tokens.{Token}
use Rattle.pp_text.specs.Keys.{GiveKeys}
use Rattle.pp_text.specs.Statements.{Statement, Says, Keys, Peeks, IsStatement, AreKeys, ArePeeks, AreCall, NumberFits, carried_tokens, arrow_tokens, statement_calls}
use Rattle.pp_text.specs.Text.{Told, tell, end_tokens, Leads}
use Rattle.pp_text.specs.steps.Rows.{RowOutcome, LeadsTo, EndsWith, LastIs}
use Rattle.pp_text.proofs.FirstWordLemmas.{apart, first-word, IsNoCall, no-call}
use Rattle.pp_text.proofs.KeyTokenLemmas.{keys-unique, carried-word, no-call-on, no-call-peek}
use Rattle.pp_text.proofs.RowStepLemmas.{LeadsAlone}
use Rattle.pp_text.proofs.OneCallLemmas.{call_same}
use Rattle.pp_text.proofs.OneKeyLemmas.{keys_same, are_keys}

-- what stands behind the keys is one number, or none, and one node
arrow_same : (a b : List ℕ) → arrow_tokens a ≡ arrow_tokens b → a ≡ b
arrow_same a b e = cc

carried_same : (n m : Option ℕ) (a b : List ℕ) → NumberFits n → NumberFits m → carried_tokens n ++ arrow_tokens a ≡ carried_tokens m ++ arrow_tokens b → (n ≡ m) × (a ≡ b)
carried_same none none a b p q e = (refl, arrow_same a b e)
carried_same none (Some m) a b p q e = absurd (apart (codes "->") (codes "=") refl (first-word _ _ _ _ e))
carried_same (Some n) none a b p q e = absurd (apart (codes "=") (codes "->") refl (first-word _ _ _ _ e))
carried_same (Some n) (Some m) a b p q e =
    let texts : decimal n ≡ decimal m = cc in
    let nodes : a ≡ b = cc in
    (ap Some (decimal_injective n m (omega arith) (omega arith) texts), nodes)

-- what stands behind the first token
behind_first : (first next : Token) (rest others : List Token) → first ∷ rest ≡ next ∷ others → rest ≡ others
behind_first first next rest others e = cc

keys_statement : (tokens : List Token) (keys others : List (List ℕ)) (n m : Option ℕ) (a b : List ℕ) → AreKeys tokens keys n a → AreKeys tokens others m b → Keys keys n a ≡ Keys others m b
keys_statement tokens keys others n m a b p q =
    let left : (p.written ++ carried_tokens n) ++ arrow_tokens a ≡ (q.written ++ carried_tokens m) ++ arrow_tokens b = behind_first _ _ _ _ (sym p.spelled ∙ q.spelled) in
    let cut = keys-unique p.written q.written (carried_tokens n ++ arrow_tokens a) (carried_tokens m ++ arrow_tokens b) (are_keys p.written keys p.given) (are_keys q.written others q.given)
    (carried-word n a) (carried-word m b)
    (sym (append_assoc p.written (carried_tokens n) (arrow_tokens a)) ∙ left ∙ append_assoc q.written (carried_tokens m) (arrow_tokens b)) in
    let behind = carried_same n m a b p.fits q.fits cut.1 in
    let keys_are : keys ≡ others = keys_same p.written keys others p.given (subst (λ (w : List Token). GiveKeys w others) (sym cut.0) q.given) in
    let number_is = behind.0 in
    let node_is = behind.1 in
    cc

-- keys of one byte each are of one list of bytes
bytes_same : (a b : List ℕ) → map (λ (x : ℕ). x ∷ []) a ≡ map (λ (x : ℕ). x ∷ []) b → a ≡ b
bytes_same [] [] e = refl
bytes_same [] (y ∷ b) e = absurd cc
bytes_same (x ∷ a) [] e = absurd cc
bytes_same (x ∷ a) (y ∷ b) e =
    let heads : x ≡ y = cc in
    let tails : map (λ (x : ℕ). x ∷ []) a ≡ map (λ (x : ℕ). x ∷ []) b = cc in
    ap₂ ◌∷◌ heads (bytes_same a b tails)

peeks_statement : (tokens : List Token) (bytes others a b : List ℕ) → ArePeeks tokens bytes a → ArePeeks tokens others b → Peeks bytes a ≡ Peeks others b
peeks_statement tokens bytes others a b p q =
    let left : p.written ++ arrow_tokens a ≡ q.written ++ arrow_tokens b = behind_first _ _ _ _ (sym p.spelled ∙ q.spelled) in
    let cut = keys-unique p.written q.written (arrow_tokens a) (arrow_tokens b) (are_keys p.written (map (λ (x : ℕ). x ∷ []) bytes) p.given) (are_keys q.written (map (λ (x : ℕ). x ∷ []) others) q.given) tt tt left in
    let keys_are = keys_same p.written (map (λ (x : ℕ). x ∷ []) bytes) (map (λ (x : ℕ). x ∷ []) others) p.given (subst (λ (w : List Token). GiveKeys w (map (λ (x : ℕ). x ∷ []) others)) (sym cut.0) q.given) in
    ap₂ Peeks (bytes_same bytes others keys_are) (arrow_same a b cut.1)

-- `on`, `peek` and the word of a call differ
call_not_keys : (tokens : List Token) (what : BuilderCall) (keys : List (List ℕ)) (n : Option ℕ) (a : List ℕ) → AreCall tokens what → ¬ (AreKeys tokens keys n a)
call_not_keys tokens what keys n a p q = no-call (codes "on") _ no-call-on what (subst (λ (t : List Token). AreCall t what) q.spelled p)

call_not_peeks : (tokens : List Token) (what : BuilderCall) (bytes a : List ℕ) → AreCall tokens what → ¬ (ArePeeks tokens bytes a)
call_not_peeks tokens what bytes a p q = no-call (codes "peek") _ no-call-peek what (subst (λ (t : List Token). AreCall t what) q.spelled p)

keys_not_peeks : (tokens : List Token) (keys : List (List ℕ)) (n : Option ℕ) (a bytes b : List ℕ) → AreKeys tokens keys n a → ¬ (ArePeeks tokens bytes b)
keys_not_peeks tokens keys n a bytes b p q = apart (codes "on") (codes "peek") refl (first-word _ _ _ _ (sym p.spelled ∙ q.spelled))

-- so tokens are of one statement
pub statement_same : (tokens : List Token) (s t : Statement) → IsStatement tokens s → IsStatement tokens t → s ≡ t
statement_same tokens (Says a) (Says b) p q = ap Says (call_same tokens a b p q)
statement_same tokens (Says a) (Keys keys n target) p q = absurd (call_not_keys tokens a keys n target p q)
statement_same tokens (Says a) (Peeks bytes target) p q = absurd (call_not_peeks tokens a bytes target p q)
statement_same tokens (Keys keys n target) (Says b) p q = absurd (call_not_keys tokens b keys n target q p)
statement_same tokens (Keys keys n target) (Keys others m node) p q = keys_statement tokens keys others n m target node p q
statement_same tokens (Keys keys n target) (Peeks bytes node) p q = absurd (keys_not_peeks tokens keys n target bytes node p q)
statement_same tokens (Peeks bytes target) (Says b) p q = absurd (call_not_peeks tokens b bytes target q p)
statement_same tokens (Peeks bytes target) (Keys keys n node) p q = absurd (keys_not_peeks tokens keys n node bytes target q p)
statement_same tokens (Peeks bytes target) (Peeks others node) p q = peeks_statement tokens bytes others target node p q

-- a statement leads to one place
leads_same : (line : ℕ) (before : Option Told) (tokens : List Token) (a b : Option Told) → Leads line before tokens a → Leads line before tokens b → a ≡ b
leads_same line before [] a b p q = p ∙ sym q
leads_same line none (token ∷ tokens) a b p q = p.1 ∙ sym q.1
leads_same line (Some told) (token ∷ tokens) a b p q =
    p.3 ∙ ap (λ (s : Statement). Some (tell line (statement_calls s) told)) (statement_same (token ∷ tokens) p.0 q.0 p.1 q.1) ∙ sym q.3

pub leads_alone_here : (line : ℕ) (before : Option Told) (tokens : List Token) (after : Option Told) → Leads line before tokens after → LeadsAlone line before tokens after
leads_alone_here line before tokens after leads = (leads, λ other w. leads_same line before tokens after other leads w)

-- `end` is no statement
no-call-end : IsNoCall (codes "end")
no-call-end = record { no_prop = apart (codes "end") (codes "prop") refl; no_host = apart (codes "end") (codes "host") refl; no_span = apart (codes "end") (codes "span") refl; no_entry = apart (codes "end") (codes "entry") refl; no_finish = apart (codes "end") (codes "finish") refl; no_node = apart (codes "end") (codes "node") refl; no_is = apart (codes "end") (codes "is") refl; no_else = apart (codes "end") (codes "else") refl; no_skip = apart (codes "end") (codes "skip") refl }

end_no_statement : (s : Statement) → ¬ (IsStatement end_tokens s)
end_no_statement (Says what) p = no-call (codes "end") [] no-call-end what p
end_no_statement (Keys keys n target) p = apart (codes "end") (codes "on") refl (first-word _ _ _ _ p.spelled)
end_no_statement (Peeks bytes target) p = apart (codes "end") (codes "peek") refl (first-word _ _ _ _ p.spelled)

end_leads_not : (line : ℕ) (tokens : List Token) (before after : Option Told) (told : Told) → tokens ≡ end_tokens → before ≡ Some told → ¬ (Leads line before tokens after)
end_leads_not line tokens before after told ends is leads =
    let here : Leads line (Some told) end_tokens after = subst (λ (o : Option Told). Leads line o end_tokens after) is (subst (λ (t : List Token). Leads line before t after) ends leads) in
    end_no_statement here.0 here.1

-- the last statement of a row comes to one thing
pub last_same : (line : ℕ) (tokens : List Token) (before : Option Told) (o p : RowOutcome) → LastIs line tokens before o → LastIs line tokens before p → o ≡ p
last_same line tokens before (LeadsTo a) (LeadsTo b) x y = ap LeadsTo (leads_same line before tokens a b x y)
last_same line tokens before (LeadsTo a) (EndsWith told) x y = absurd (end_leads_not line tokens before a told y.0 y.1 x)
last_same line tokens before (EndsWith told) (LeadsTo b) x y = absurd (end_leads_not line tokens before b told x.0 x.1 y)
last_same line tokens before (EndsWith told) (EndsWith other) x y =
    let both : Some told ≡ Some other = sym x.1 ∙ y.1 in
    let same : told ≡ other = cc in
    ap EndsWith same
