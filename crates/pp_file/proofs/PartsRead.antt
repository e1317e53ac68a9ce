-- A part that is read is spelled by the bytes that it takes.
use Rattle.std.proofs.Common.{◌≡◌, ℕ, zero, suc, ◌+◌, ◌^◌, ◌<◌, ◌≤◌, ◌⊎◌, inl, inr, Bool, true, false, cond, ◌||◌, eqb, leb, List, [], ◌∷◌, ◌++◌, length, Option, Some, None, Result, Ok, Err, refl, sym, ap, subst, ◌∙◌, arith}
use Rattle.std.specs.Int.{w8, w16, w32, w64, to_be_bytes}
use Rattle.std.specs.List.{flat_map}
use Rattle.std.proofs.lemmas.Bool.{eqb-true, eqb-false, leb-true, and_parts}
use Rattle.pp_bytes.specs.declared.fold.Fold.{Fold}
use Rattle.pp_bytes.specs.declared.fold.Fold.TheVariants.{Same, Lower}
use Rattle.pp_rules.specs.declared.declaration.Width.{Width}
use Rattle.pp_rules.specs.declared.declaration.Width.TheVariants.{W8, W16, W32, W64}
use Rattle.pp_rules.specs.declared.declaration.PropDecl.{PropDecl}
use Rattle.pp_rules.specs.declared.declaration.HostDecl.{HostDecl}
use Rattle.pp_rules.specs.declared.declaration.SpanDecl.{SpanDecl}
use Rattle.pp_graph.specs.declared.node.Answer.{Answer}
use Rattle.pp_graph.specs.declared.node.Code.{Code}
use Rattle.pp_graph.specs.declared.node.Code.TheVariants as code
use Rattle.pp_program.specs.declared.program.Edge.{Edge}
use Rattle.pp_program.specs.declared.program.Rest.{Rest}
use Rattle.pp_program.specs.declared.program.Instr.{Instr}
use Rattle.pp_program.specs.declared.program.Instr.TheVariants.{Branch, Invoke, Consume, SpanOpen, SpanClose, Pause, Fail}
use Rattle.pp_program.specs.declared.program.State.{State}
use Rattle.pp_file.specs.Fields.{Left, Next, ◌>>=◌, field_at, number_at, within, text_at, items_at, any_at}
use Rattle.pp_file.specs.Parts.{is_width_byte, width_of, width_at, prop_at, host_at, span_at, rule_at, finish_at, least_stay, range_at, least_edge, may_stand, plain_edge, numbered_edge, plain_edge_at, numbered_edge_at, edge_at, plain_rest_at, numbered_rest_at, rest_at, least_answer, answer_at, answers_at, fold_of, branch_at}
use Rattle.pp_file.specs.Spelling.{text, width_byte, signature_byte, fold_byte, spelled_prop, spelled_host, spelled_span, spelled_move, spelled_range, spelled_edge, spelled_rest, spelled_answer, spelled_answers, spelled_finish, spelled_code, spelled_instr}
use Rattle.pp_file.proofs.NumberLemmas.{AreBytes, wide8, wide16, wide32, wide64}
use Rattle.pp_file.proofs.FieldLemmas.{bind_ok, ok_is, Takes, then, Takes-none, field_takes, number_takes, byte_takes, right_byte_takes, text_takes, IsReader, items_take}

-- what a number within limits is
pub within_says : (least most n : ℕ) → within least most n ≡ true → (least ≤ n) × (n ≤ most)
within_says least most n e =
    let b = and_parts (leb least n) (leb n most) e in
    (leb-true least n b.0, leb-true n most b.1)

-- the one number that is left
nonzero : (n : ℕ) → n ≤ 1 → (n ≡ 0 → ⊥) → n ≡ 1
nonzero zero le ne = absurd (ne refl)
nonzero (suc zero) le ne = refl
nonzero (suc (suc n)) le ne = absurd (omega arith)

-- which way a choice went
pub choice : {A : Type 0} (b : Bool) (x y z : A) → cond b x y ≡ z → ((b ≡ true) × (x ≡ z)) ⊎ ((b ≡ false) × (y ≡ z))
choice true x y z e = inl (refl, e)
choice false x y z e = inr (refl, e)

widths : (n : ℕ) (a b c d : Bool) → (a ≡ true → n ≡ 8) → (b ≡ true → n ≡ 16) → (c ≡ true → n ≡ 32) → (d ≡ true → n ≡ 64)
    → (a || b || c || d) ≡ true → width_byte (cond a W8 (cond b W16 (cond c W32 W64))) ≡ n
widths n true b c d ea eb ec ed e = sym (ea refl)
widths n false true c d ea eb ec ed e = sym (eb refl)
widths n false false true d ea eb ec ed e = sym (ec refl)
widths n false false false true ea eb ec ed e = sym (ed refl)
widths n false false false false ea eb ec ed e = absurd cc

width_back : (n : ℕ) → is_width_byte n ≡ true → width_byte (width_of n) ≡ n
width_back n e = widths n (eqb n 8) (eqb n 16) (eqb n 32) (eqb n 64) (eqb-true n 8) (eqb-true n 16) (eqb-true n 32) (eqb-true n 64) e

width_takes : (left : Left) (x : Width × Left) → AreBytes left.bytes → width_at left ≡ Ok x → Takes left (width_byte x.0 ∷ []) x.1
unfolding width_at
width_takes left x fits e =
    let a = bind_ok (number_at w8 is_width_byte left) _ x e in
    let t = right_byte_takes is_width_byte left a.0 fits a.1 in
    let made : Takes left (width_byte (width_of a.0.0) ∷ []) a.0.1 = subst (λ (n : ℕ). Takes left (n ∷ []) a.0.1) (sym (width_back a.0.0 t.2)) t.0 in
    subst (λ (y : Width × Left). Takes left (width_byte y.0 ∷ []) y.1) (ok_is (width_of a.0.0, a.0.1) x a.2) made

pub prop_takes : IsReader prop_at spelled_prop
unfolding prop_at
prop_takes left x fits e =
    let a = bind_ok (text_at left) _ x e in
    let b = bind_ok (width_at a.0.1) _ x a.2 in
    let first = text_takes left a.0 fits a.1 in
    let second = width_takes a.0.1 b.0 first.rest_fits b.1 in
    subst (λ (y : PropDecl × Left). Takes left (spelled_prop y.0) y.1) (ok_is (record { name = a.0.0; width = b.0.0 }, b.0.1) x b.2) (then first second)

signature_back : (n : ℕ) → n ≤ 1 → signature_byte (eqb n 1) ≡ n
signature_back zero le = refl
signature_back (suc zero) le = refl
signature_back (suc (suc n)) le = absurd (omega arith)

pub host_takes : IsReader host_at spelled_host
unfolding host_at
host_takes left x fits e =
    let a = bind_ok (text_at left) _ x e in
    let b = bind_ok (number_at w8 (within 0 1) a.0.1) _ x a.2 in
    let first = text_takes left a.0 fits a.1 in
    let t = right_byte_takes (within 0 1) a.0.1 b.0 first.rest_fits b.1 in
    let second : Takes a.0.1 (signature_byte (eqb b.0.0 1) ∷ []) b.0.1 =
    subst (λ (n : ℕ). Takes a.0.1 (n ∷ []) b.0.1) (sym (signature_back b.0.0 (within_says 0 1 b.0.0 t.2).1)) t.0 in
    subst (λ (y : HostDecl × Left). Takes left (spelled_host y.0) y.1) (ok_is (record { name = a.0.0; value = eqb b.0.0 1 }, b.0.1) x b.2) (then first second)

pub span_takes : IsReader span_at spelled_span
unfolding span_at
span_takes left x fits e =
    let a = bind_ok (text_at left) _ x e in
    subst (λ (y : SpanDecl × Left). Takes left (spelled_span y.0) y.1) (ok_is (record { name = a.0.0 }, a.0.1) x a.2) (text_takes left a.0 fits a.1)

-- a part whose first byte was read before the rest of it
pub record IsBehind (first : ℕ) (whole : List ℕ) (left after : Left) : Type 0 where
  pub part : List ℕ
  pub takes : Takes left part after
  pub whole_is : whole ≡ first ∷ part

pub with_first : (first : ℕ) (whole : List ℕ) (left middle after : Left) → Takes left (first ∷ []) middle → IsBehind first whole middle after → Takes left whole after
with_first first whole left middle after t h = subst (λ (part : List ℕ). Takes left part after) (sym h.whole_is) (then t h.takes)

rule_takes : (left : Left) (x : Option (ℕ × ℕ) × Left) → AreBytes left.bytes → rule_at left ≡ Ok x → IsBehind 1 (spelled_finish x.0) left x.1
unfolding rule_at
rule_takes left x fits e =
    let a = bind_ok (field_at w8 left) _ x e in
    let b = bind_ok (field_at w8 a.0.1) _ x a.2 in
    let first = byte_takes left a.0 fits a.1 in
    let second = byte_takes a.0.1 b.0 first.0.rest_fits b.1 in
    subst (λ (y : Option (ℕ × ℕ) × Left). IsBehind 1 (spelled_finish y.0) left y.1) (ok_is (Some (a.0.0, b.0.0), b.0.1) x b.2)
    (record { part = a.0.0 ∷ b.0.0 ∷ []; takes = then first.0 second.0; whole_is = refl })

pub finish_takes : IsReader finish_at spelled_finish
unfolding finish_at
finish_takes left x fits e =
    let a = bind_ok (number_at w8 (within 0 1) left) _ x e in
    let t = right_byte_takes (within 0 1) left a.0 fits a.1 in
    let most : a.0.0 ≤ 1 = (within_says 0 1 a.0.0 t.2).1 in
    elim (choice (eqb a.0.0 0) (Ok (None, a.0.1)) (rule_at a.0.1) (Ok x) a.2) [
      | inl none ↦
          let zero_is : a.0.0 ≡ 0 = eqb-true a.0.0 0 none.0 in
          subst (λ (y : Option (ℕ × ℕ) × Left). Takes left (spelled_finish y.0) y.1) (ok_is (None, a.0.1) x none.1)
          (subst (λ (n : ℕ). Takes left (n ∷ []) a.0.1) zero_is t.0)
      | inr some ↦
          let one_is : a.0.0 ≡ 1 = nonzero a.0.0 most (eqb-false a.0.0 0 some.0) in
          with_first 1 (spelled_finish x.0) left a.0.1 x.1 (subst (λ (n : ℕ). Takes left (n ∷ []) a.0.1) one_is t.0) (rule_takes a.0.1 x t.0.rest_fits some.1)
    ]

pub range_takes : (before : Option (ℕ × ℕ)) → IsReader (range_at before) spelled_range
unfolding range_at
range_takes before left x fits e =
    let a = bind_ok (number_at w8 (within (least_stay before) 255) left) _ x e in
    let b = bind_ok (number_at w8 (within a.0.0 255) a.0.1) _ x a.2 in
    let first = right_byte_takes (within (least_stay before) 255) left a.0 fits a.1 in
    let second = right_byte_takes (within a.0.0 255) a.0.1 b.0 first.0.rest_fits b.1 in
    subst (λ (y : (ℕ × ℕ) × Left). Takes left (spelled_range y.0) y.1) (ok_is ((a.0.0, b.0.0), b.0.1) x b.2) (then first.0 second.0)

-- ---- edges and rests

-- the flag of a move that carries no number
flag_back : (flag : ℕ) → flag ≤ 2 → (flag ≡ 2 → ⊥) → cond (eqb flag 1) 1 0 ≡ flag
flag_back zero le ne = refl
flag_back (suc zero) le ne = refl
flag_back (suc (suc zero)) le ne = absurd (ne refl)
flag_back (suc (suc (suc n))) le ne = absurd (omega arith)

-- a move is spelled by its flag, and then this
pub target_takes : (left : Left) (x : ℕ × Left) → AreBytes left.bytes → field_at w16 left ≡ Ok x → Takes left (to_be_bytes w16 x.0) x.1
target_takes left x fits e = (field_takes w16 (2 ^ 16) wide16 left x fits e).0

plain_edge_takes : (before : Option Edge) (lo hi : ℕ) (take : Bool) (left : Left) (x : Edge × Left) → AreBytes left.bytes → plain_edge_at before lo hi take left ≡ Ok x
    → (part : List ℕ) × Takes left part x.1 × (spelled_edge x.0 ≡ lo ∷ hi ∷ cond take 1 0 ∷ part)
unfolding plain_edge_at
plain_edge_takes before lo hi take left x fits e =
    let a = bind_ok (number_at w16 (λ target. may_stand before (plain_edge lo hi take target)) left) _ x e in
    let t = number_takes w16 (2 ^ 16) wide16 (λ target. may_stand before (plain_edge lo hi take target)) left a.0 fits a.1 in
    subst (λ (y : Edge × Left). (part : List ℕ) × Takes left part y.1 × (spelled_edge y.0 ≡ lo ∷ hi ∷ cond take 1 0 ∷ part)) (ok_is (plain_edge lo hi take a.0.0, a.0.1) x a.2)
    (to_be_bytes w16 a.0.0, t.0, refl)

numbered_edge_takes : (before : Option Edge) (lo hi : ℕ) (left : Left) (x : Edge × Left) → AreBytes left.bytes → numbered_edge_at before lo hi left ≡ Ok x
    → (part : List ℕ) × Takes left part x.1 × (spelled_edge x.0 ≡ lo ∷ hi ∷ 2 ∷ part)
unfolding numbered_edge_at
numbered_edge_takes before lo hi left x fits e =
    let a = bind_ok (field_at w16 left) _ x e in
    let b = bind_ok (number_at w32 (λ number. may_stand before (numbered_edge lo hi a.0.0 number)) a.0.1) _ x a.2 in
    let first = field_takes w16 (2 ^ 16) wide16 left a.0 fits a.1 in
    let second = number_takes w32 (2 ^ 32) wide32 (λ number. may_stand before (numbered_edge lo hi a.0.0 number)) a.0.1 b.0 first.0.rest_fits b.1 in
    subst (λ (y : Edge × Left). (part : List ℕ) × Takes left part y.1 × (spelled_edge y.0 ≡ lo ∷ hi ∷ 2 ∷ part)) (ok_is (numbered_edge lo hi a.0.0 b.0.0, b.0.1) x b.2)
    (to_be_bytes w16 a.0.0 ++ to_be_bytes w32 b.0.0, then first.0 second.0, refl)

pub edge_takes : (before : Option Edge) → IsReader (edge_at before) spelled_edge
unfolding edge_at
edge_takes before left x fits e =
    let a = bind_ok (number_at w8 (within (least_edge before) 255) left) _ x e in
    let b = bind_ok (number_at w8 (within a.0.0 255) a.0.1) _ x a.2 in
    let c = bind_ok (number_at w8 (within 0 2) b.0.1) _ x b.2 in
    let first = right_byte_takes (within (least_edge before) 255) left a.0 fits a.1 in
    let second = right_byte_takes (within a.0.0 255) a.0.1 b.0 first.0.rest_fits b.1 in
    let third = right_byte_takes (within 0 2) b.0.1 c.0 second.0.rest_fits c.1 in
    let most : c.0.0 ≤ 2 = (within_says 0 2 c.0.0 third.2).1 in
    elim (choice (eqb c.0.0 2) (numbered_edge_at before a.0.0 b.0.0 c.0.1) (plain_edge_at before a.0.0 b.0.0 (eqb c.0.0 1) c.0.1) (Ok x) c.2) [
      | inl numbered ↦
          let r = numbered_edge_takes before a.0.0 b.0.0 c.0.1 x third.0.rest_fits numbered.1 in
          let flag : Takes b.0.1 (2 ∷ []) c.0.1 = subst (λ (n : ℕ). Takes b.0.1 (n ∷ []) c.0.1) (eqb-true c.0.0 2 numbered.0) third.0 in
          subst (λ (part : List ℕ). Takes left part x.1) (sym r.2) (then first.0 (then second.0 (then flag r.1)))
      | inr plain ↦
          let r = plain_edge_takes before a.0.0 b.0.0 (eqb c.0.0 1) c.0.1 x third.0.rest_fits plain.1 in
          let flag : Takes b.0.1 (cond (eqb c.0.0 1) 1 0 ∷ []) c.0.1 =
          subst (λ (n : ℕ). Takes b.0.1 (n ∷ []) c.0.1) (sym (flag_back c.0.0 most (eqb-false c.0.0 2 plain.0))) third.0 in
          subst (λ (part : List ℕ). Takes left part x.1) (sym r.2) (then first.0 (then second.0 (then flag r.1)))
    ]

plain_rest_takes : (skip : Bool) (left : Left) (x : Rest × Left) → AreBytes left.bytes → plain_rest_at skip left ≡ Ok x → IsBehind (cond skip 1 0) (spelled_rest x.0) left x.1
unfolding plain_rest_at
plain_rest_takes skip left x fits e =
    let a = bind_ok (field_at w16 left) _ x e in
    subst (λ (y : Rest × Left). IsBehind (cond skip 1 0) (spelled_rest y.0) left y.1) (ok_is (record { skip = skip; number = None; target = a.0.0 }, a.0.1) x a.2)
    (record { part = to_be_bytes w16 a.0.0; takes = target_takes left a.0 fits a.1; whole_is = refl })

numbered_rest_takes : (left : Left) (x : Rest × Left) → AreBytes left.bytes → numbered_rest_at left ≡ Ok x → IsBehind 2 (spelled_rest x.0) left x.1
unfolding numbered_rest_at
numbered_rest_takes left x fits e =
    let a = bind_ok (field_at w16 left) _ x e in
    let b = bind_ok (field_at w32 a.0.1) _ x a.2 in
    let first = target_takes left a.0 fits a.1 in
    let second = field_takes w32 (2 ^ 32) wide32 a.0.1 b.0 first.rest_fits b.1 in
    subst (λ (y : Rest × Left). IsBehind 2 (spelled_rest y.0) left y.1) (ok_is (record { skip = false; number = Some b.0.0; target = a.0.0 }, b.0.1) x b.2)
    (record { part = to_be_bytes w16 a.0.0 ++ to_be_bytes w32 b.0.0; takes = then first second.0; whole_is = refl })

pub rest_takes : IsReader rest_at spelled_rest
unfolding rest_at
rest_takes left x fits e =
    let a = bind_ok (number_at w8 (within 0 2) left) _ x e in
    let t = right_byte_takes (within 0 2) left a.0 fits a.1 in
    let most : a.0.0 ≤ 2 = (within_says 0 2 a.0.0 t.2).1 in
    elim (choice (eqb a.0.0 2) (numbered_rest_at a.0.1) (plain_rest_at (eqb a.0.0 1) a.0.1) (Ok x) a.2) [
      | inl numbered ↦
          with_first 2 (spelled_rest x.0) left a.0.1 x.1 (subst (λ (n : ℕ). Takes left (n ∷ []) a.0.1) (eqb-true a.0.0 2 numbered.0) t.0)
          (numbered_rest_takes a.0.1 x t.0.rest_fits numbered.1)
      | inr plain ↦
          with_first (cond (eqb a.0.0 1) 1 0) (spelled_rest x.0) left a.0.1 x.1
          (subst (λ (n : ℕ). Takes left (n ∷ []) a.0.1) (sym (flag_back a.0.0 most (eqb-false a.0.0 2 plain.0))) t.0)
          (plain_rest_takes (eqb a.0.0 1) a.0.1 x t.0.rest_fits plain.1)
    ]

-- ---- answers and codes

pub answer_takes : (before : Option Answer) → IsReader (answer_at before) spelled_answer
unfolding answer_at
answer_takes before left x fits e =
    let a = bind_ok (number_at w32 (leb (least_answer before)) left) _ x e in
    let b = bind_ok (field_at w16 a.0.1) _ x a.2 in
    let first = number_takes w32 (2 ^ 32) wide32 (leb (least_answer before)) left a.0 fits a.1 in
    let second = target_takes a.0.1 b.0 first.0.rest_fits b.1 in
    subst (λ (y : Answer × Left). Takes left (spelled_answer y.0) y.1) (ok_is (record { number = a.0.0; target = b.0.0 }, b.0.1) x b.2) (then first.0 second)

-- the answers behind a code, which was read before
pub answers_take : (what : Code) (left : Left) (x : Instr × Left) → AreBytes left.bytes → answers_at what left ≡ Ok x
    → (part : List ℕ) × Takes left part x.1 × (spelled_instr x.0 ≡ spelled_code what ++ part)
unfolding answers_at
answers_take what left x fits e =
    let a = bind_ok (field_at w16 left) _ x e in
    let b = bind_ok (items_at answer_at a.0.0 None a.0.1) _ x a.2 in
    let c = bind_ok (field_at w16 b.0.1) _ x b.2 in
    let first = target_takes left a.0 fits a.1 in
    let second = items_take answer_at spelled_answer answer_takes a.0.0 None a.0.1 b.0 first.rest_fits b.1 in
    let third = target_takes b.0.1 c.0 second.0.rest_fits c.1 in
    let count : Takes left (to_be_bytes w16 (length b.0.0)) a.0.1 = subst (λ (n : ℕ). Takes left (to_be_bytes w16 n) a.0.1) (sym second.1) first in
    subst (λ (y : Instr × Left). (part : List ℕ) × Takes left part y.1 × (spelled_instr y.0 ≡ spelled_code what ++ part)) (ok_is (Invoke what b.0.0 c.0.0, c.0.1) x c.2)
    (spelled_answers b.0.0 c.0.0, then count (then second.0 third), refl)
