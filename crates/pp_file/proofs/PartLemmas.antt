-- Declarations, ranges, moves and answers, which their spellings tell.
use Rattle.std.proofs.Common.{◌≡◌, ℕ, ◌<◌, ◌^◌, List, [], ◌∷◌, ◌++◌, Option, Some, None, Bool, true, false, refl, sym, ap, ◌∙◌}
use Rattle.std.specs.Prelude.{◌==◌, if◌then◌else◌}
use Rattle.std.specs.Int.{w16, w32, to_be_bytes}
use Rattle.pp_rules.specs.declared.declaration.Width.{Width}
use Rattle.pp_rules.specs.declared.declaration.Width.TheVariants.{W8, W16, W32, W64}
use Rattle.pp_rules.specs.declared.declaration.PropDecl.{PropDecl}
use Rattle.pp_rules.specs.declared.declaration.HostDecl.{HostDecl}
use Rattle.pp_rules.specs.declared.declaration.SpanDecl.{SpanDecl}
use Rattle.pp_graph.specs.declared.node.Answer.{Answer}
use Rattle.pp_program.specs.declared.program.Edge.{Edge}
use Rattle.pp_program.specs.declared.program.Rest.{Rest}
use Rattle.pp_file.specs.Held.{IsNumber}
use Rattle.pp_file.specs.Spelling.{text, width_byte, signature_byte, spelled_prop, spelled_host, spelled_span, spelled_move, spelled_range, spelled_edge, spelled_rest, spelled_answer, spelled_finish}
use Rattle.pp_file.specs.steps.Places.{IsFlagged, EdgeFits, RestFits}
use Rattle.pp_file.proofs.TellLemmas.{Tells, cons_same, regrouped, short_same, word_same, text_same}

-- the width of so many bits
abbrev width_of : ℕ → Width
width_of bits = if bits == 8 then W8 else (if bits == 16 then W16 else (if bits == 32 then W32 else W64))

width_back : (w : Width) → width_of (width_byte w) ≡ w
width_back W8 = refl
width_back W16 = refl
width_back W32 = refl
width_back W64 = refl

width_same : (v w : Width) → width_byte v ≡ width_byte w → v ≡ w
width_same v w e = sym (width_back v) ∙ ap width_of e ∙ width_back w

signature_same : (b c : Bool) → signature_byte b ≡ signature_byte c → b ≡ c
signature_same true true e = refl
signature_same false false e = refl
signature_same b c e = absurd cc

pub prop_same : Tells PropDecl spelled_prop (λ d. Unit {0})
prop_same a b x y a_fits b_fits e =
    let name = text_same a.name b.name (width_byte a.width ∷ x) (width_byte b.width ∷ y) (regrouped (text a.name) (width_byte a.width ∷ []) x (text b.name) (width_byte b.width ∷ []) y e) in
    let width = cons_same (width_byte a.width) (width_byte b.width) x y name.1 in
    let named : a ≡ record { name = b.name; width = a.width } = ap (λ (s : List ℕ). record { name = s; width = a.width }) name.0 in
    let whole : record { name = b.name; width = a.width } ≡ b = ap (λ (w : Width). record { name = b.name; width = w }) (width_same a.width b.width width.0) in
    (named ∙ whole, width.1)

pub host_same : Tells HostDecl spelled_host (λ d. Unit {0})
host_same a b x y a_fits b_fits e =
    let name = text_same a.name b.name (signature_byte a.value ∷ x) (signature_byte b.value ∷ y) (regrouped (text a.name) (signature_byte a.value ∷ []) x (text b.name) (signature_byte b.value ∷ []) y e) in
    let value = cons_same (signature_byte a.value) (signature_byte b.value) x y name.1 in
    let named : a ≡ record { name = b.name; value = a.value } = ap (λ (s : List ℕ). record { name = s; value = a.value }) name.0 in
    let whole : record { name = b.name; value = a.value } ≡ b = ap (λ (v : Bool). record { name = b.name; value = v }) (signature_same a.value b.value value.0) in
    (named ∙ whole, value.1)

pub span_same : Tells SpanDecl spelled_span (λ d. Unit {0})
span_same a b x y a_fits b_fits e =
    let name = text_same a.name b.name x y e in
    let whole : a ≡ b = ap (λ (s : List ℕ). record { name = s }) name.0 in
    (whole, name.1)

pub name_same : Tells (List ℕ) text (λ s. Unit {0})
name_same a b x y a_fits b_fits e = text_same a b x y e

pub range_same : Tells (ℕ × ℕ) spelled_range (λ r. Unit {0})
range_same a b x y a_fits b_fits e =
    let lo = cons_same a.0 b.0 (a.1 ∷ x) (b.1 ∷ y) e in
    let hi = cons_same a.1 b.1 x y lo.1 in
    (ap (λ (n : ℕ). (n, a.1)) lo.0 ∙ ap (λ (n : ℕ). (b.0, n)) hi.0, hi.1)

-- ---- moves

-- 1 where the byte is taken
abbrev flag : Bool → ℕ
flag takes = if takes then 1 else 0

flag_same : (b c : Bool) → flag b ≡ flag c → b ≡ c
flag_same true true e = refl
flag_same false false e = refl
flag_same b c e = absurd cc

not_two : (b : Bool) → flag b ≡ 2 → ⊥
not_two true e = absurd cc
not_two false e = absurd cc

-- what a move's spelling tells
pub record SameMove (takes also : Bool) (m n : Option ℕ) (s t : ℕ) (x y : List ℕ) : Type 0 where
  pub flag : takes ≡ also
  pub number : m ≡ n
  pub target : s ≡ t
  pub rest : x ≡ y

pub move_same : (right takes also : Bool) (m n : Option ℕ) (s t : ℕ) (x y : List ℕ) → IsFlagged takes right m → IsFlagged also right n
    → IsNumber m → IsNumber n → s < 2 ^ 16 → t < 2 ^ 16 → spelled_move takes m s ++ x ≡ spelled_move also n t ++ y → SameMove takes also m n s t x y
move_same right takes also None None s t x y f g u v s_fits t_fits e =
    let head = cons_same (flag takes) (flag also) (to_be_bytes w16 s ++ x) (to_be_bytes w16 t ++ y) e in
    let target = short_same s t x y s_fits t_fits head.1 in
    record { flag = flag_same takes also head.0; number = refl; target = target.0; rest = target.1 }
move_same right takes also None (Some n) s t x y f g u v s_fits t_fits e =
    let head = cons_same (flag takes) 2 (to_be_bytes w16 s ++ x) ((to_be_bytes w16 t ++ to_be_bytes w32 n) ++ y) e in
    absurd (not_two takes head.0)
move_same right takes also (Some m) None s t x y f g u v s_fits t_fits e =
    let head = cons_same 2 (flag also) ((to_be_bytes w16 s ++ to_be_bytes w32 m) ++ x) (to_be_bytes w16 t ++ y) e in
    absurd (not_two also (sym head.0))
move_same right takes also (Some m) (Some n) s t x y f g u v s_fits t_fits e =
    let head = cons_same 2 2 ((to_be_bytes w16 s ++ to_be_bytes w32 m) ++ x) ((to_be_bytes w16 t ++ to_be_bytes w32 n) ++ y) e in
    let target = short_same s t (to_be_bytes w32 m ++ x) (to_be_bytes w32 n ++ y) s_fits t_fits (regrouped (to_be_bytes w16 s) (to_be_bytes w32 m) x (to_be_bytes w16 t) (to_be_bytes w32 n) y head.1) in
    let number = word_same m n x y u v target.1 in
    record { flag = f ∙ sym g; number = ap (λ (k : ℕ). Some k) number.0; target = target.0; rest = number.1 }

-- an edge that fits
pub record IsEdge (e : Edge) : Type 0 where
  pub fits : EdgeFits e
  pub number : IsNumber e.number

edge_is : (a b : Edge) → a.lo ≡ b.lo → a.hi ≡ b.hi → a.take ≡ b.take → a.number ≡ b.number → a.target ≡ b.target → a ≡ b
edge_is a b lo hi flag number target =
    let one : a ≡ record { lo = b.lo; hi = a.hi; take = a.take; number = a.number; target = a.target } = ap (λ (n : ℕ). record { lo = n; hi = a.hi; take = a.take; number = a.number; target = a.target }) lo in
    let two : record { lo = b.lo; hi = a.hi; take = a.take; number = a.number; target = a.target } ≡ record { lo = b.lo; hi = b.hi; take = a.take; number = a.number; target = a.target } = ap (λ (n : ℕ). record { lo = b.lo; hi = n; take = a.take; number = a.number; target = a.target }) hi in
    let three : record { lo = b.lo; hi = b.hi; take = a.take; number = a.number; target = a.target } ≡ record { lo = b.lo; hi = b.hi; take = b.take; number = a.number; target = a.target } = ap (λ (c : Bool). record { lo = b.lo; hi = b.hi; take = c; number = a.number; target = a.target }) flag in
    let four : record { lo = b.lo; hi = b.hi; take = b.take; number = a.number; target = a.target } ≡ record { lo = b.lo; hi = b.hi; take = b.take; number = b.number; target = a.target } = ap (λ (o : Option ℕ). record { lo = b.lo; hi = b.hi; take = b.take; number = o; target = a.target }) number in
    let five : record { lo = b.lo; hi = b.hi; take = b.take; number = b.number; target = a.target } ≡ b = ap (λ (n : ℕ). record { lo = b.lo; hi = b.hi; take = b.take; number = b.number; target = n }) target in
    one ∙ two ∙ three ∙ four ∙ five

pub edge_same : Tells Edge spelled_edge IsEdge
edge_same a b x y a_fits b_fits e =
    let lo = cons_same a.lo b.lo (a.hi ∷ (spelled_move a.take a.number a.target ++ x)) (b.hi ∷ (spelled_move b.take b.number b.target ++ y)) e in
    let hi = cons_same a.hi b.hi (spelled_move a.take a.number a.target ++ x) (spelled_move b.take b.number b.target ++ y) lo.1 in
    let move = move_same true a.take b.take a.number b.number a.target b.target x y a_fits.fits.flag b_fits.fits.flag a_fits.number b_fits.number a_fits.fits.target b_fits.fits.target hi.1 in
    (edge_is a b lo.0 hi.0 move.flag move.number move.target, move.rest)

-- a rest that fits
pub record IsRest (r : Rest) : Type 0 where
  pub fits : RestFits r
  pub number : IsNumber r.number

pub rest_same : Tells Rest spelled_rest IsRest
rest_same a b x y a_fits b_fits e =
    let move = move_same false a.skip b.skip a.number b.number a.target b.target x y a_fits.fits.flag b_fits.fits.flag a_fits.number b_fits.number a_fits.fits.target b_fits.fits.target e in
    let one : a ≡ record { skip = b.skip; number = a.number; target = a.target } = ap (λ (c : Bool). record { skip = c; number = a.number; target = a.target }) move.flag in
    let two : record { skip = b.skip; number = a.number; target = a.target } ≡ record { skip = b.skip; number = b.number; target = a.target } = ap (λ (o : Option ℕ). record { skip = b.skip; number = o; target = a.target }) move.number in
    let three : record { skip = b.skip; number = b.number; target = a.target } ≡ b = ap (λ (n : ℕ). record { skip = b.skip; number = b.number; target = n }) move.target in
    (one ∙ two ∙ three, move.rest)

-- an answer that fits
pub record IsAnswer (a : Answer) : Type 0 where
  pub number : a.number < 2 ^ 32
  pub target : a.target < 2 ^ 16

pub answer_same : Tells Answer spelled_answer IsAnswer
answer_same a b x y a_fits b_fits e =
    let number = word_same a.number b.number (to_be_bytes w16 a.target ++ x) (to_be_bytes w16 b.target ++ y) a_fits.number b_fits.number
    (regrouped (to_be_bytes w32 a.number) (to_be_bytes w16 a.target) x (to_be_bytes w32 b.number) (to_be_bytes w16 b.target) y e) in
    let target = short_same a.target b.target x y a_fits.target b_fits.target number.1 in
    let one : a ≡ record { number = b.number; target = a.target } = ap (λ (n : ℕ). record { number = n; target = a.target }) number.0 in
    let two : record { number = b.number; target = a.target } ≡ b = ap (λ (n : ℕ). record { number = b.number; target = n }) target.0 in
    (one ∙ two, target.1)

pub finish_same : (f g : Option (ℕ × ℕ)) (x y : List ℕ) → spelled_finish f ++ x ≡ spelled_finish g ++ y → (f ≡ g) × (x ≡ y)
finish_same None None x y e = (refl, cc)
finish_same None (Some g) x y e = absurd cc
finish_same (Some f) None x y e = absurd cc
finish_same (Some f) (Some g) x y e =
    let head = cons_same 1 1 (f.0 ∷ f.1 ∷ x) (g.0 ∷ g.1 ∷ y) e in
    let rule = range_same f g x y tt tt head.1 in
    (ap (λ (r : ℕ × ℕ). Some r) rule.0, rule.1)
