-- States, which their spellings tell.
use Rattle.std.proofs.Common.{◌≡◌, ℕ, ◌-◌, ◌<◌, ◌^◌, List, [], ◌∷◌, ◌++◌, length, All, refl, sym, ap, ◌∙◌, append_assoc, arith}
use Rattle.std.specs.Prelude.{◌==◌, nat_le, if◌then◌else◌}
use Rattle.std.specs.List.{flat_map}
use Rattle.std.specs.Int.{w16, w32, to_be_bytes}
use Rattle.pp_bytes.specs.declared.fold.Fold.{Fold}
use Rattle.pp_bytes.specs.declared.fold.Fold.TheVariants.{Same, Lower}
use Rattle.pp_graph.specs.declared.node.Answer.{Answer}
use Rattle.pp_graph.specs.declared.node.Code.{Code}
use Rattle.pp_graph.specs.declared.node.Code.TheVariants as code
use Rattle.pp_program.specs.declared.program.Edge.{Edge}
use Rattle.pp_program.specs.declared.program.Rest.{Rest}
use Rattle.pp_program.specs.declared.program.Instr.{Instr}
use Rattle.pp_program.specs.declared.program.Instr.TheVariants.{Branch, Invoke, Consume, SpanOpen, SpanClose, Pause, Fail}
use Rattle.pp_program.specs.declared.program.State.{State}
use Rattle.pp_file.specs.Held.{IsHeldInstr, IsHeldEdge}
use Rattle.pp_file.specs.Spelling.{text, fold_byte, spelled_range, spelled_edge, spelled_rest, spelled_answer, spelled_answers, spelled_code, spelled_instr, spelled_state}
use Rattle.pp_file.specs.steps.Places.{EdgeFits, EdgesFit, AnswersFit, InstrFits, StateFits}
use Rattle.pp_file.proofs.TellLemmas.{Tells, cons_same, regrouped, short_same, word_same, text_same, many_same, all_free}
use Rattle.pp_file.proofs.PartLemmas.{range_same, IsEdge, edge_same, IsRest, rest_same, IsAnswer, answer_same}
use Rattle.pp_file.proofs.CodeLemmas.{code_same}
use Rattle.pp_file.proofs.ListLemmas.{All-both}

fold_same : (f g : Fold) → fold_byte f ≡ fold_byte g → f ≡ g
fold_same Same Same e = refl
fold_same Lower Lower e = refl
fold_same f g e = absurd cc

are_edges : (edges : List Edge) → EdgesFit edges → All IsHeldEdge edges → All IsEdge edges
are_edges edges fit held = All-both Edge EdgeFits IsHeldEdge IsEdge (λ e f h. record { fits = f; number = h.number }) edges fit.each held

are_answers : (answers : List Answer) → AnswersFit answers → All (λ (a : Answer). a.number < 2 ^ 32) answers → All IsAnswer answers
are_answers answers fit held =
    All-both Answer (λ (a : Answer). a.target < 2 ^ 16) (λ (a : Answer). a.number < 2 ^ 32) IsAnswer (λ a t n. record { number = n; target = t }) answers fit.each held

-- how many answers there are, the answers, and where every other one leads
answers_same : (us vs : List Answer) (o p : ℕ) (x y : List ℕ) → length us < 2 ^ 16 → length vs < 2 ^ 16 → All IsAnswer us → All IsAnswer vs → o < 2 ^ 16 → p < 2 ^ 16
    → spelled_answers us o ++ x ≡ spelled_answers vs p ++ y → (us ≡ vs) × (o ≡ p) × (x ≡ y)
answers_same us vs o p x y as_few bs_few as_fit bs_fit o_fits p_fits e =
    let tail : List ℕ = flat_map spelled_answer us ++ to_be_bytes w16 o in
    let other : List ℕ = flat_map spelled_answer vs ++ to_be_bytes w16 p in
    let count = short_same (length us) (length vs) (tail ++ x) (other ++ y) as_few bs_few (regrouped (to_be_bytes w16 (length us)) tail x (to_be_bytes w16 (length vs)) other y e) in
    let each = many_same Answer spelled_answer IsAnswer answer_same us vs (to_be_bytes w16 o ++ x) (to_be_bytes w16 p ++ y) count.0 as_fit bs_fit
    (regrouped (flat_map spelled_answer us) (to_be_bytes w16 o) x (flat_map spelled_answer vs) (to_be_bytes w16 p) y count.1) in
    let last = short_same o p x y o_fits p_fits each.1 in
    (each.0, last.0, last.1)

-- a kind, a place and the next state
next_same : (k m n s t : ℕ) (x y : List ℕ) → s < 2 ^ 16 → t < 2 ^ 16 → k ∷ m ∷ (to_be_bytes w16 s ++ x) ≡ k ∷ n ∷ (to_be_bytes w16 t ++ y) → (m ≡ n) × (s ≡ t) × (x ≡ y)
next_same k m n s t x y s_fits t_fits e =
    let kind = cons_same k k (m ∷ (to_be_bytes w16 s ++ x)) (n ∷ (to_be_bytes w16 t ++ y)) e in
    let place = cons_same m n (to_be_bytes w16 s ++ x) (to_be_bytes w16 t ++ y) kind.1 in
    let next = short_same s t x y s_fits t_fits place.1 in
    (place.0, next.0, next.1)

-- a kind, a number and a reason
reason_same : (k m n : ℕ) (r s : List ℕ) (x y : List ℕ) → m < 2 ^ 32 → n < 2 ^ 32 → k ∷ (to_be_bytes w32 m ++ (text r ++ x)) ≡ k ∷ (to_be_bytes w32 n ++ (text s ++ y)) → (m ≡ n) × (r ≡ s) × (x ≡ y)
reason_same k m n r s x y m_fits n_fits e =
    let kind = cons_same k k (to_be_bytes w32 m ++ (text r ++ x)) (to_be_bytes w32 n ++ (text s ++ y)) e in
    let number = word_same m n (text r ++ x) (text s ++ y) m_fits n_fits kind.1 in
    let reason = text_same r s x y number.1 in
    (number.0, reason.0, reason.1)

-- what a branch's spelling tells, behind its kind
branch_same : (f g : Fold) (r s : List (ℕ × ℕ)) (c d : List Edge) (o p : Rest) (x y : List ℕ) → EdgesFit c → EdgesFit d → All IsEdge c → All IsEdge d → IsRest o → IsRest p
    → spelled_instr (Branch f r c o) ++ x ≡ spelled_instr (Branch g s d p) ++ y → (Branch f r c o ≡ Branch g s d p) × (x ≡ y)
branch_same f g r s c d o p x y c_fit d_fit cs ds o_fits p_fits e =
    let c3 : List ℕ = flat_map spelled_edge c ++ spelled_rest o in
    let d3 : List ℕ = flat_map spelled_edge d ++ spelled_rest p in
    let c2 : List ℕ = to_be_bytes w16 (length c) ++ c3 in
    let d2 : List ℕ = to_be_bytes w16 (length d) ++ d3 in
    let c1 : List ℕ = flat_map spelled_range r ++ c2 in
    let d1 : List ℕ = flat_map spelled_range s ++ d2 in
    let kind = cons_same 0 0 (fold_byte f ∷ length r ∷ (c1 ++ x)) (fold_byte g ∷ length s ∷ (d1 ++ y)) e in
    let fold = cons_same (fold_byte f) (fold_byte g) (length r ∷ (c1 ++ x)) (length s ∷ (d1 ++ y)) kind.1 in
    let count = cons_same (length r) (length s) (c1 ++ x) (d1 ++ y) fold.1 in
    let stay = many_same (ℕ × ℕ) spelled_range (λ z. Unit {0}) range_same r s (c2 ++ x) (d2 ++ y) count.0 (all_free (ℕ × ℕ) r) (all_free (ℕ × ℕ) s)
    (regrouped (flat_map spelled_range r) c2 x (flat_map spelled_range s) d2 y count.1) in
    let number = short_same (length c) (length d) (c3 ++ x) (d3 ++ y) c_fit.count d_fit.count (regrouped (to_be_bytes w16 (length c)) c3 x (to_be_bytes w16 (length d)) d3 y stay.1) in
    let edges = many_same Edge spelled_edge IsEdge edge_same c d (spelled_rest o ++ x) (spelled_rest p ++ y) number.0 cs ds
    (regrouped (flat_map spelled_edge c) (spelled_rest o) x (flat_map spelled_edge d) (spelled_rest p) y number.1) in
    let rest = rest_same o p x y o_fits p_fits edges.1 in
    (ap (λ (z : Fold). Branch z r c o) (fold_same f g fold.0) ∙ ap (λ (z : List (ℕ × ℕ)). Branch g z c o) stay.0 ∙ ap (λ (z : List Edge). Branch g s z o) edges.0 ∙ ap (λ (z : Rest). Branch g s d z) rest.0, rest.1)

-- what a state does, where it fits
pub record IsSpellable (i : Instr) : Type 0 where
  pub fits : InstrFits i
  pub held : IsHeldInstr i

-- which kind it is, from 0
class : Instr → ℕ
class (Branch fold stay edges rest) = 0
class (Invoke what answers other) = 1
class (Consume prop next) = 2
class (SpanOpen span next) = 3
class (SpanClose span next) = 4
class (Pause number reason next) = 5
class (Fail number reason) = 6

-- the same by the first byte
abbrev class_of : List ℕ → ℕ
class_of [] = 0
class_of (k ∷ bytes) = if k == 0 then 0 else (if nat_le k 9 then 1 else k - 8)

invoke_class : (c : Code) (x : List ℕ) → class_of (spelled_code c ++ x) ≡ 1
invoke_class (code.Call m) x = refl
invoke_class (code.Store m) x = refl
invoke_class (code.Load m) x = refl
invoke_class (code.Update m v) x = refl
invoke_class (code.Equal m v) x = refl
invoke_class (code.And m v) x = refl
invoke_class (code.Or m v) x = refl
invoke_class (code.Test m v) x = refl
invoke_class (code.MulAdd m b v) x = refl

class_is : (i : Instr) (x : List ℕ) → class_of (spelled_instr i ++ x) ≡ class i
unfolding class
class_is (Branch fold stay edges rest) x = refl
class_is (Invoke what answers other) x = ap class_of (append_assoc (spelled_code what) (spelled_answers answers other) x) ∙ invoke_class what (spelled_answers answers other ++ x)
class_is (Consume prop next) x = refl
class_is (SpanOpen span next) x = refl
class_is (SpanClose span next) x = refl
class_is (Pause number reason next) x = refl
class_is (Fail number reason) x = refl

class_same : (i j : Instr) (x y : List ℕ) → spelled_instr i ++ x ≡ spelled_instr j ++ y → class i ≡ class j
class_same i j x y e = sym (class_is i x) ∙ ap class_of e ∙ class_is j y

invoke_same : (c d : Code) (us vs : List Answer) (o p : ℕ) (x y : List ℕ) → IsSpellable (Invoke c us o) → IsSpellable (Invoke d vs p)
    → spelled_instr (Invoke c us o) ++ x ≡ spelled_instr (Invoke d vs p) ++ y → (Invoke c us o ≡ Invoke d vs p) × (x ≡ y)
invoke_same c d us vs o p x y a b e =
    let what = code_same c d (spelled_answers us o ++ x) (spelled_answers vs p ++ y) a.held.0 b.held.0 (regrouped (spelled_code c) (spelled_answers us o) x (spelled_code d) (spelled_answers vs p) y e) in
    let rest = answers_same us vs o p x y a.fits.1.count b.fits.1.count (are_answers us a.fits.1 a.held.1) (are_answers vs b.fits.1 b.held.1) a.fits.2 b.fits.2 what.1 in
    (ap (λ (z : Code). Invoke z us o) what.0 ∙ ap (λ (z : List Answer). Invoke d z o) rest.0 ∙ ap (λ (z : ℕ). Invoke d vs z) rest.1, rest.2)

pause_same : (m n : ℕ) (r q : List ℕ) (s t : ℕ) (x y : List ℕ) → IsSpellable (Pause m r s) → IsSpellable (Pause n q t)
    → spelled_instr (Pause m r s) ++ x ≡ spelled_instr (Pause n q t) ++ y → (Pause m r s ≡ Pause n q t) × (x ≡ y)
pause_same m n r q s t x y a b e =
    let head : to_be_bytes w32 m ++ ((text r ++ to_be_bytes w16 s) ++ x) ≡ to_be_bytes w32 n ++ ((text q ++ to_be_bytes w16 t) ++ y) =
    regrouped (to_be_bytes w32 m) (text r ++ to_be_bytes w16 s) x (to_be_bytes w32 n) (text q ++ to_be_bytes w16 t) y
    (cons_same 13 13 ((to_be_bytes w32 m ++ (text r ++ to_be_bytes w16 s)) ++ x) ((to_be_bytes w32 n ++ (text q ++ to_be_bytes w16 t)) ++ y) e).1 in
    let number = word_same m n ((text r ++ to_be_bytes w16 s) ++ x) ((text q ++ to_be_bytes w16 t) ++ y) a.held.0 b.held.0 head in
    let reason = text_same r q (to_be_bytes w16 s ++ x) (to_be_bytes w16 t ++ y) (regrouped (text r) (to_be_bytes w16 s) x (text q) (to_be_bytes w16 t) y number.1) in
    let next = short_same s t x y a.fits b.fits reason.1 in
    (ap (λ (z : ℕ). Pause z r s) number.0 ∙ ap (λ (z : List ℕ). Pause n z s) reason.0 ∙ ap (λ (z : ℕ). Pause n q z) next.0, next.1)

fail_same : (m n : ℕ) (r q : List ℕ) (x y : List ℕ) → IsSpellable (Fail m r) → IsSpellable (Fail n q)
    → spelled_instr (Fail m r) ++ x ≡ spelled_instr (Fail n q) ++ y → (Fail m r ≡ Fail n q) × (x ≡ y)
fail_same m n r q x y a b e =
    let same = reason_same 14 m n r q x y a.held.0 b.held.0
    (ap (λ (z : List ℕ). 14 ∷ z) (regrouped (to_be_bytes w32 m) (text r) x (to_be_bytes w32 n) (text q) y
    (cons_same 14 14 ((to_be_bytes w32 m ++ text r) ++ x) ((to_be_bytes w32 n ++ text q) ++ y) e).1)) in
    (ap (λ (z : ℕ). Fail z r) same.0 ∙ ap (λ (z : List ℕ). Fail n z) same.1, same.2)

-- of one kind
one_kind : (i j : Instr) (x y : List ℕ) → class i ≡ class j → IsSpellable i → IsSpellable j → spelled_instr i ++ x ≡ spelled_instr j ++ y → (i ≡ j) × (x ≡ y)
unfolding class
one_kind (Branch f r c o) (Branch g s d p) x y k a b e =
    branch_same f g r s c d o p x y a.fits.0 b.fits.0 (are_edges c a.fits.0 a.held.1) (are_edges d b.fits.0 b.held.1)
    (record { fits = a.fits.1; number = a.held.2 }) (record { fits = b.fits.1; number = b.held.2 }) e
one_kind (Invoke c us o) (Invoke d vs p) x y k a b e = invoke_same c d us vs o p x y a b e
one_kind (Consume m s) (Consume n t) x y k a b e =
    let same = next_same 10 m n s t x y a.fits.1 b.fits.1 e in
    (ap (λ (z : ℕ). Consume z s) same.0 ∙ ap (λ (z : ℕ). Consume n z) same.1, same.2)
one_kind (SpanOpen m s) (SpanOpen n t) x y k a b e =
    let same = next_same 11 m n s t x y a.fits.1 b.fits.1 e in
    (ap (λ (z : ℕ). SpanOpen z s) same.0 ∙ ap (λ (z : ℕ). SpanOpen n z) same.1, same.2)
one_kind (SpanClose m s) (SpanClose n t) x y k a b e =
    let same = next_same 12 m n s t x y a.fits.1 b.fits.1 e in
    (ap (λ (z : ℕ). SpanClose z s) same.0 ∙ ap (λ (z : ℕ). SpanClose n z) same.1, same.2)
one_kind (Pause m r s) (Pause n q t) x y k a b e = pause_same m n r q s t x y a b e
one_kind (Fail m r) (Fail n q) x y k a b e = fail_same m n r q x y a b e
one_kind i j x y k a b e = absurd (omega (arith, k))

pub instr_same : Tells Instr spelled_instr IsSpellable
instr_same i j x y a b e = one_kind i j x y (class_same i j x y e) a b e

-- a state that fits
pub record IsState (s : State) : Type 0 where
  pub fits : StateFits s
  pub held : IsHeldInstr s.instr

pub state_same : Tells State spelled_state IsState
state_same s t x y a b e =
    let origin = short_same s.origin t.origin (spelled_instr s.instr ++ x) (spelled_instr t.instr ++ y) a.fits.origin b.fits.origin
    (regrouped (to_be_bytes w16 s.origin) (spelled_instr s.instr) x (to_be_bytes w16 t.origin) (spelled_instr t.instr) y e) in
    let instr = instr_same s.instr t.instr x y (record { fits = a.fits.instr; held = a.held }) (record { fits = b.fits.instr; held = b.held }) origin.1 in
    let one : s ≡ record { origin = t.origin; instr = s.instr } = ap (λ (n : ℕ). record { origin = n; instr = s.instr }) origin.0 in
    let two : record { origin = t.origin; instr = s.instr } ≡ t = ap (λ (i : Instr). record { origin = t.origin; instr = i }) instr.0 in
    (one ∙ two, instr.1)
