-- What reading a text comes to.
use Rattle.std.proofs.Common.{◌≡◌, ◌≢◌, ℕ, ◌+◌, ◌<◌, ◌⊎◌, inl, inr, List, [], ◌∷◌, length, get_or, max, refl, sym, ap, subst, ◌∙◌}
use Rattle.std.proofs.lemmas.Bool.{cases_order}
use Rattle.std.specs.Prelude.{Option, None, Result, Ok, Err, IfOk, MatchResult}
use Rattle.pp_rules.specs.declared.rules.GraphRule.{GraphRule}
use Rattle.pp_rules.specs.declared.rules.GraphRule.TheVariants.{DuplicateName, UnknownName, NoEntry, NoOtherwise, KeyClash, PrefixGap, ValueTarget, ValueTooWide, EmptyKey, KeyNotFolded, TooMany}
use Rattle.pp_graph.specs.Built.{built}
use Rattle.pp_graph.specs.Plan.{Plan}
use Rattle.pp_rules.specs.Rules.{KeepsRules, IsFirstFault, order}
use Rattle.pp_rules.specs.declared.call.BuilderCall.{BuilderCall}
use Rattle.pp_text.specs.declared.fault.TextFault.{TextFault}
use Rattle.pp_text.specs.declared.fault.TextFault.TheVariants as fault
use Rattle.pp_text.specs.Outcome.{Reads, Breaks, IsFaultAlone}
use Rattle.pp_text.specs.steps.Rows.{IsOnly, Verdict, Ended, WrongAt, Endless, Long, LinesAre, IsLineFault, IsText, IsGraphFault}
use Rattle.pp_text.specs.Text.{Told, BeginWithText, IsWrongAt, IsTooLong, limit, line_at}
use Rattle.pp_text.specs.steps.Settled.{Settles}

-- the rules in their order
rule_at : ℕ → GraphRule
rule_at n = get_or (DuplicateName ∷ DuplicateName ∷ UnknownName ∷ NoEntry ∷ NoOtherwise ∷ KeyClash ∷ PrefixGap ∷ ValueTarget ∷ ValueTooWide ∷ EmptyKey ∷ KeyNotFolded ∷ TooMany ∷ []) n TooMany

rule_at-order : (rule : GraphRule) → rule_at (order rule) ≡ rule
unfolding rule_at
rule_at-order DuplicateName = refl
rule_at-order UnknownName = refl
rule_at-order NoEntry = refl
rule_at-order NoOtherwise = refl
rule_at-order KeyClash = refl
rule_at-order PrefixGap = refl
rule_at-order ValueTarget = refl
rule_at-order ValueTooWide = refl
rule_at-order EmptyKey = refl
rule_at-order KeyNotFolded = refl
rule_at-order TooMany = refl

-- one rule is the first that fails, and one call the first at which it does
rule_unique : (calls : List BuilderCall) (r s : GraphRule) (i j : ℕ) → IsFirstFault calls r i → IsFirstFault calls s j → ((order r ≡ order s) ⊎ ((order r < order s) ⊎ (order s < order r))) → r ≡ s
rule_unique calls r s i j f g (inl e) = sym (rule_at-order r) ∙ ap rule_at e ∙ rule_at-order s
rule_unique calls r s i j f g (inr (inl below)) = absurd (g.earlier_rules r below i f.fails)
rule_unique calls r s i j f g (inr (inr below)) = absurd (f.earlier_rules s below j g.fails)

call_unique : (calls : List BuilderCall) (r : GraphRule) (i j : ℕ) → IsFirstFault calls r i → IsFirstFault calls r j → ((i ≡ j) ⊎ ((i < j) ⊎ (j < i))) → i ≡ j
call_unique calls r i j f g (inl e) = e
call_unique calls r i j f g (inr (inl below)) = absurd (g.none_before i below f.fails)
call_unique calls r i j f g (inr (inr below)) = absurd (f.none_before j below g.fails)

fault_unique : (calls : List BuilderCall) (r s : GraphRule) (i j : ℕ) → IsFirstFault calls r i → IsFirstFault calls s j → (r ≡ s) × (i ≡ j)
fault_unique calls r s i j f g =
    let same = rule_unique calls r s i j f g (cases_order (order r) (order s)) in
    let h : IsFirstFault calls r j = subst (λ (t : GraphRule). IsFirstFault calls t j) (sym same) g in
    (same, call_unique calls r i j f h (cases_order i j))

pub line_settles : (bytes : List ℕ) (e : TextFault) → IsLineFault (LinesAre limit 1 None bytes) e → Settles bytes (Err e)
line_settles bytes (fault.Syntax line) h = h
line_settles bytes fault.TooLong h = h
line_settles bytes (fault.Graph line rule) h = absurd h
line_settles bytes fault.NoMemory h = tt

pub graph_settles : (bytes : List ℕ) (after : Option Told) (last used : ℕ) (e : TextFault) (t : IsText bytes None after last used) → IsGraphFault t.told last e → Settles bytes (Err e)
graph_settles bytes after last used (fault.Syntax line) t h = absurd h
graph_settles bytes after last used fault.TooLong t h = absurd h
graph_settles bytes after last used (fault.Graph line rule) t h = (t.told, last, t.rest, h.0, t.only, h.1, h.2)
graph_settles bytes after last used fault.NoMemory t h = tt

pub text_settles : (bytes : List ℕ) (after : Option Told) (last used : ℕ) (graph : Plan) (t : IsText bytes None after last used) → KeepsRules t.told.calls → graph ≡ built t.told.calls →
    Settles bytes (Ok (graph, used))
text_settles bytes after last used graph t rules is = (t.told, last, t.rest, t.only, record { text = t.only.0; rules = rules; is = is; used_is = t.used_is })

pub settles_graph : (bytes : List ℕ) (r : Result (Plan × ℕ) TextFault) → Settles bytes r → IfOk r (λ r. (told : Told) × (last : ℕ) × (rest : List ℕ) × Reads bytes told last rest r.0 r.1)
settles_graph bytes (Ok r) h = (h.0, h.1, h.2, h.4)
settles_graph bytes (Err e) h = tt

-- each clause on a result, from what the bytes are
pub settles_syntax : (bytes : List ℕ) (r : Result (Plan × ℕ) TextFault) → Settles bytes r → (line : ℕ) → r ≡ Err (fault.Syntax line) → IsWrongAt bytes line
settles_syntax bytes (Ok r) h line e = absurd cc
settles_syntax bytes (Err (fault.Syntax other)) (inl h) line e =
    let same : other ≡ line = cc in
    subst (IsWrongAt bytes) same (inl h.0)
settles_syntax bytes (Err (fault.Syntax other)) (inr h) line e =
    let same : other ≡ line = cc in
    subst (IsWrongAt bytes) same (inr (h.0, h.1.0, h.2))
settles_syntax bytes (Err fault.TooLong) h line e = absurd cc
settles_syntax bytes (Err (fault.Graph other rule)) h line e = absurd cc
settles_syntax bytes (Err fault.NoMemory) h line e = absurd cc

pub settles_too_long : (bytes : List ℕ) (r : Result (Plan × ℕ) TextFault) → Settles bytes r → r ≡ Err fault.TooLong → IsTooLong bytes
settles_too_long bytes (Ok r) h e = absurd cc
settles_too_long bytes (Err (fault.Syntax other)) h e = absurd cc
settles_too_long bytes (Err fault.TooLong) h e = h.0
settles_too_long bytes (Err (fault.Graph other rule)) h e = absurd cc
settles_too_long bytes (Err fault.NoMemory) h e = absurd cc

pub settles_rule : (bytes : List ℕ) (r : Result (Plan × ℕ) TextFault) → Settles bytes r → (line : ℕ) (rule : GraphRule) → r ≡ Err (fault.Graph line rule) → Breaks bytes line rule
settles_rule bytes (Ok r) h line rule e = absurd cc
settles_rule bytes (Err (fault.Syntax other)) h line rule e = absurd cc
settles_rule bytes (Err fault.TooLong) h line rule e = absurd cc
settles_rule bytes (Err (fault.Graph other broken)) h line rule e =
    let same_line : other ≡ line = cc in
    let same_rule : broken ≡ rule = cc in
    let here : Breaks bytes other broken = record { told = h.0; last = h.1; rest = h.2; call = h.3; text = h.4.0; first = h.5; line_is = h.6 } in
    subst (λ (t : GraphRule). Breaks bytes line t) same_rule (subst (λ (n : ℕ). Breaks bytes n broken) same_line here)
settles_rule bytes (Err fault.NoMemory) h line rule e = absurd cc

-- and the other way round: what the bytes are, is told
pub settles_graph_only : (bytes : List ℕ) (r : Result (Plan × ℕ) TextFault) → Settles bytes r → (told : Told) (last : ℕ) (rest : List ℕ) → BeginWithText bytes told last rest → KeepsRules told.calls →
    MatchResult r (λ r. Reads bytes told last rest r.0 r.1) (λ e. e ≡ fault.NoMemory)
settles_graph_only bytes (Ok r) h told last rest begins rules =
    let same = h.3.1 (Ended told last rest) begins in
    let told_is : h.0 ≡ told = cc in
    let last_is : h.1 ≡ last = cc in
    let rest_is : h.2 ≡ rest = cc in
    let reads = h.4 in
    record { text = begins; rules = rules; is = reads.is ∙ ap (λ (t : Told). built t.calls) told_is; used_is = subst (λ (l : List ℕ). r.1 + length l ≡ length bytes) rest_is reads.used_is }
settles_graph_only bytes (Err (fault.Syntax line)) (inl h) told last rest begins rules =
    let same = h.1 (Ended told last rest) begins in
    absurd cc
settles_graph_only bytes (Err (fault.Syntax line)) (inr h) told last rest begins rules =
    let same = h.1.1 (Ended told last rest) begins in
    absurd cc
settles_graph_only bytes (Err fault.TooLong) h told last rest begins rules =
    let same = h.1 (Ended told last rest) begins in
    absurd cc
settles_graph_only bytes (Err (fault.Graph line rule)) h told last rest begins rules =
    let same = h.4.1 (Ended told last rest) begins in
    let told_is : h.0 ≡ told = cc in
    let first : IsFirstFault told.calls rule h.3 = subst (λ (t : Told). IsFirstFault t.calls rule h.3) told_is h.5 in
    absurd (rules rule h.3 first.fails)
settles_graph_only bytes (Err fault.NoMemory) h told last rest begins rules = refl

pub settles_too_long_only : (bytes : List ℕ) (r : Result (Plan × ℕ) TextFault) → Settles bytes r → IsTooLong bytes → IsFaultAlone r fault.TooLong
settles_too_long_only bytes (Ok r) h long =
    let same = h.3.1 Long long in
    absurd cc
settles_too_long_only bytes (Err (fault.Syntax line)) (inl h) long =
    let same = h.1 Long long in
    absurd cc
settles_too_long_only bytes (Err (fault.Syntax line)) (inr h) long =
    let same = h.1.1 Long long in
    absurd cc
settles_too_long_only bytes (Err fault.TooLong) h long = inl refl
settles_too_long_only bytes (Err (fault.Graph line rule)) h long =
    let same = h.4.1 Long long in
    absurd cc
settles_too_long_only bytes (Err fault.NoMemory) h long = inr refl

wrong_not : (bytes : List ℕ) (v : Verdict) (line : ℕ) → IsOnly (LinesAre limit 1 None bytes) v → ((n : ℕ) → v ≢ WrongAt n) → ((n : ℕ) → v ≢ Endless n) → ¬ (IsWrongAt bytes line)
wrong_not bytes v line only p q (inl w) = p line (only.1 (WrongAt line) w)
wrong_not bytes v line only p q (inr w) = q w.0 (only.1 (Endless w.0) w.1)

wrong_line : (bytes : List ℕ) (other line : ℕ) → IsOnly (LinesAre limit 1 None bytes) (WrongAt other) → IsWrongAt bytes line → other ≡ line
wrong_line bytes other line only (inl w) =
    let same = only.1 (WrongAt line) w in
    cc
wrong_line bytes other line only (inr w) =
    let same = only.1 (Endless w.0) w.1 in
    absurd cc

endless_line : (bytes : List ℕ) (last other line : ℕ) → IsOnly (LinesAre limit 1 None bytes) (Endless last) → other ≡ max 1 last → IsWrongAt bytes line → other ≡ line
endless_line bytes last other line only is (inl w) =
    let same = only.1 (WrongAt line) w in
    absurd cc
endless_line bytes last other line only is (inr w) =
    let same = only.1 (Endless w.0) w.1 in
    let last_is : last ≡ w.0 = cc in
    is ∙ ap (max 1) last_is ∙ sym w.2

pub settles_syntax_only : (bytes : List ℕ) (r : Result (Plan × ℕ) TextFault) → Settles bytes r → (line : ℕ) → IsWrongAt bytes line → IsFaultAlone r (fault.Syntax line)
settles_syntax_only bytes (Ok r) h line wrong = wrong_not bytes (Ended h.0 h.1 h.2) line h.3 (λ n e. absurd cc) (λ n e. absurd cc) wrong
settles_syntax_only bytes (Err (fault.Syntax other)) (inl h) line wrong = inl (ap fault.Syntax (wrong_line bytes other line h wrong))
settles_syntax_only bytes (Err (fault.Syntax other)) (inr h) line wrong = inl (ap fault.Syntax (endless_line bytes h.0 other line h.1 h.2 wrong))
settles_syntax_only bytes (Err fault.TooLong) h line wrong = absurd (wrong_not bytes Long line h (λ n e. absurd cc) (λ n e. absurd cc) wrong)
settles_syntax_only bytes (Err (fault.Graph other rule)) h line wrong = absurd (wrong_not bytes (Ended h.0 h.1 h.2) line h.4 (λ n e. absurd cc) (λ n e. absurd cc) wrong)
settles_syntax_only bytes (Err fault.NoMemory) h line wrong = inr refl

pub settles_rule_only : (bytes : List ℕ) (r : Result (Plan × ℕ) TextFault) → Settles bytes r → (line : ℕ) (rule : GraphRule) → Breaks bytes line rule → IsFaultAlone r (fault.Graph line rule)
settles_rule_only bytes (Ok r) h line rule b =
    let same = h.3.1 (Ended b.told b.last b.rest) b.text in
    let told_is : b.told ≡ h.0 = cc in
    let first : IsFirstFault h.0.calls rule b.call = subst (λ (t : Told). IsFirstFault t.calls rule b.call) told_is b.first in
    let rules = h.4.rules in
    rules rule b.call first.fails
settles_rule_only bytes (Err (fault.Syntax other)) (inl h) line rule b =
    let same = h.1 (Ended b.told b.last b.rest) b.text in
    absurd cc
settles_rule_only bytes (Err (fault.Syntax other)) (inr h) line rule b =
    let same = h.1.1 (Ended b.told b.last b.rest) b.text in
    absurd cc
settles_rule_only bytes (Err fault.TooLong) h line rule b =
    let same = h.1 (Ended b.told b.last b.rest) b.text in
    absurd cc
settles_rule_only bytes (Err (fault.Graph other broken)) h line rule b =
    let same = h.4.1 (Ended b.told b.last b.rest) b.text in
    let told_is : b.told ≡ h.0 = cc in
    let last_is : b.last ≡ h.1 = cc in
    let first : IsFirstFault h.0.calls rule b.call = subst (λ (t : Told). IsFirstFault t.calls rule b.call) told_is b.first in
    let one = fault_unique h.0.calls broken rule h.3 b.call h.5 first in
    let line_is : line ≡ line_at h.0 h.1 b.call =
    subst (λ (n : ℕ). line ≡ line_at h.0 n b.call) last_is (subst (λ (t : Told). line ≡ line_at t b.last b.call) told_is b.line_is) in
    let lines : other ≡ line = h.6 ∙ ap (line_at h.0 h.1) one.1 ∙ sym line_is in
    let rules = one.0 in
    inl cc
settles_rule_only bytes (Err fault.NoMemory) h line rule b = inr refl
