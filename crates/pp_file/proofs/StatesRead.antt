-- A state that is read is spelled by the bytes that it takes, and so are all parts.
use Rattle.std.proofs.Common.{◌≡◌, ℕ, zero, suc, ◌+◌, ◌^◌, ◌<◌, ◌≤◌, ◌⊎◌, inl, inr, Bool, true, false, cond, eqb, List, [], ◌∷◌, ◌++◌, length, Option, Some, None, Result, Ok, Err, refl, sym, ap, subst, ◌∙◌, arith}
use Rattle.std.specs.Int.{w8, w16, w32, w64, to_be_bytes}
use Rattle.std.specs.List.{flat_map}
use Rattle.std.proofs.lemmas.Bool.{eqb-true, eqb-false}
use Rattle.std.proofs.lemmas.List.{append-nil, nil_from_length}
use Rattle.pp_bytes.specs.declared.fold.Fold.{Fold}
use Rattle.pp_bytes.specs.declared.fold.Fold.TheVariants.{Same, Lower}
use Rattle.pp_rules.specs.Rules.Limits.{most_props, most_hosts, most_spans}
use Rattle.pp_graph.specs.declared.node.Code.{Code}
use Rattle.pp_graph.specs.declared.node.Code.TheVariants as code
use Rattle.pp_program.specs.declared.program.Instr.{Instr}
use Rattle.pp_program.specs.declared.program.Instr.TheVariants.{Branch, Invoke, Consume, SpanOpen, SpanClose, Pause, Fail}
use Rattle.pp_program.specs.declared.program.State.{State}
use Rattle.pp_program.specs.declared.program.Program.{Program}
use Rattle.pp_program.specs.Targets.{most_edges, most_names, most_states}
use Rattle.pp_file.specs.declared.declarations.Counts.{Counts}
use Rattle.pp_file.specs.Fields.{Left, Next, ◌>>=◌, place, field_at, number_at, within, text_at, items_at, any_at}
use Rattle.pp_file.specs.Parts.{finish_at, prop_at, host_at, span_at, range_at, edge_at, rest_at, muladd_at, valued, value_at, constants_at, code_at, answers_at, invoke_at, next_at, fold_of, branch_at, pause_at, fail_at, body_at, state_at, counts_at, parts_at}
use Rattle.pp_file.specs.Reading.{all_at}
use Rattle.pp_file.specs.Spelling.{text, fold_byte, spelled_range, spelled_edge, spelled_rest, spelled_finish, spelled_prop, spelled_host, spelled_span, spelled_code, spelled_instr, spelled_state, spelled_counts, spelled_parts}
use Rattle.pp_file.proofs.NumberLemmas.{AreBytes, wide16, wide32, wide64}
use Rattle.pp_file.proofs.FieldLemmas.{bind_ok, done, ok_is, passed, Takes, then, Takes-none, field_takes, number_takes, byte_takes, right_byte_takes, text_takes, IsReader, items_take}
use Rattle.pp_file.proofs.PartsRead.{within_says, choice, IsBehind, with_first, target_takes, prop_takes, host_takes, span_takes, finish_takes, range_takes, edge_takes, rest_takes, answers_take}

-- ---- codes

muladd_takes : (prop : ℕ) (left : Left) (x : Code × Left) → AreBytes left.bytes → muladd_at prop left ≡ Ok x
    → (part : List ℕ) × Takes left part x.1 × (spelled_code x.0 ≡ 9 ∷ prop ∷ part)
unfolding muladd_at
muladd_takes prop left x fits e =
    let a = bind_ok (field_at w32 left) _ x e in
    let b = bind_ok (field_at w64 a.0.1) _ x a.2 in
    let first = field_takes w32 (2 ^ 32) wide32 left a.0 fits a.1 in
    let second = field_takes w64 (2 ^ 64) wide64 a.0.1 b.0 first.0.rest_fits b.1 in
    subst (λ (y : Code × Left). (part : List ℕ) × Takes left part y.1 × (spelled_code y.0 ≡ 9 ∷ prop ∷ part)) (ok_is (code.MulAdd prop a.0.0 b.0.0, b.0.1) x b.2)
    (to_be_bytes w32 a.0.0 ++ to_be_bytes w64 b.0.0, then first.0 second.0, refl)

values : (kind prop value : ℕ) (a b c d : Bool) → (a ≡ true → kind ≡ 4) → (b ≡ true → kind ≡ 5) → (c ≡ true → kind ≡ 6) → (d ≡ true → kind ≡ 7)
    → (a ≡ false → b ≡ false → c ≡ false → d ≡ false → kind ≡ 8)
    → spelled_code (cond a (code.Update prop value) (cond b (code.Equal prop value) (cond c (code.And prop value) (cond d (code.Or prop value) (code.Test prop value)))))
    ≡ kind ∷ prop ∷ to_be_bytes w64 value
values kind prop value true b c d ea eb ec ed other = ap (λ (k : ℕ). k ∷ prop ∷ to_be_bytes w64 value) (sym (ea refl))
values kind prop value false true c d ea eb ec ed other = ap (λ (k : ℕ). k ∷ prop ∷ to_be_bytes w64 value) (sym (eb refl))
values kind prop value false false true d ea eb ec ed other = ap (λ (k : ℕ). k ∷ prop ∷ to_be_bytes w64 value) (sym (ec refl))
values kind prop value false false false true ea eb ec ed other = ap (λ (k : ℕ). k ∷ prop ∷ to_be_bytes w64 value) (sym (ed refl))
values kind prop value false false false false ea eb ec ed other = ap (λ (k : ℕ). k ∷ prop ∷ to_be_bytes w64 value) (sym (other refl refl refl refl))

-- the last of five kinds
is_eight : (kind : ℕ) → 4 ≤ kind → kind ≤ 8 → (kind ≡ 4 → ⊥) → (kind ≡ 5 → ⊥) → (kind ≡ 6 → ⊥) → (kind ≡ 7 → ⊥) → kind ≡ 8
is_eight kind least most a b c d = omega arith

value_takes : (kind prop : ℕ) (left : Left) (x : Code × Left) → 4 ≤ kind → kind ≤ 8 → AreBytes left.bytes → value_at kind prop left ≡ Ok x
    → (part : List ℕ) × Takes left part x.1 × (spelled_code x.0 ≡ kind ∷ prop ∷ part)
unfolding value_at
value_takes kind prop left x least most fits e =
    let a = bind_ok (field_at w64 left) _ x e in
    let first = field_takes w64 (2 ^ 64) wide64 left a.0 fits a.1 in
    let spelled = values kind prop a.0.0 (eqb kind 4) (eqb kind 5) (eqb kind 6) (eqb kind 7) (eqb-true kind 4) (eqb-true kind 5) (eqb-true kind 6) (eqb-true kind 7)
    (λ p q r s. is_eight kind least most (eqb-false kind 4 p) (eqb-false kind 5 q) (eqb-false kind 6 r) (eqb-false kind 7 s)) in
    subst (λ (y : Code × Left). (part : List ℕ) × Takes left part y.1 × (spelled_code y.0 ≡ kind ∷ prop ∷ part)) (ok_is (valued kind prop a.0.0, a.0.1) x a.2)
    (to_be_bytes w64 a.0.0, first.0, spelled)

-- nothing more than the place
bare_takes : (kind at : ℕ) (what : Code) (left : Left) (x : Code × Left) → AreBytes left.bytes → spelled_code what ≡ kind ∷ at ∷ [] → Ok (what, left) ≡ done x
    → (part : List ℕ) × Takes left part x.1 × (spelled_code x.0 ≡ kind ∷ at ∷ part)
bare_takes kind at what left x fits spelled e =
    subst (λ (y : Code × Left). (part : List ℕ) × Takes left part y.1 × (spelled_code y.0 ≡ kind ∷ at ∷ part)) (ok_is (what, left) x e)
    ([], Takes-none left fits, spelled)

-- a kind that a test has found
abbrev HasCode : ℕ → ℕ → Left → Code × Left → Type 0
HasCode kind at left x = (part : List ℕ) × Takes left part x.1 × (spelled_code x.0 ≡ kind ∷ at ∷ part)

found_code : (kind n at : ℕ) (left : Left) (x : Code × Left) → eqb kind n ≡ true → HasCode n at left x → HasCode kind at left x
found_code kind n at left x e h = subst (λ (k : ℕ). HasCode k at left x) (sym (eqb-true kind n e)) h

constants_take : (kind at : ℕ) (left : Left) (x : Code × Left) → 1 ≤ kind → kind ≤ 9 → AreBytes left.bytes → constants_at kind at left ≡ Ok x → HasCode kind at left x
unfolding constants_at
constants_take kind at left x least most fits e =
    elim (choice (eqb kind 1) (Ok (code.Call at, left)) _ (Ok x) e) [
      | inl p ↦ found_code kind 1 at left x p.0 (bare_takes 1 at (code.Call at) left x fits refl p.1)
      | inr p ↦ elim (choice (eqb kind 2) (Ok (code.Store at, left)) _ (Ok x) p.1) [
        | inl q ↦ found_code kind 2 at left x q.0 (bare_takes 2 at (code.Store at) left x fits refl q.1)
        | inr q ↦ elim (choice (eqb kind 3) (Ok (code.Load at, left)) _ (Ok x) q.1) [
          | inl r ↦ found_code kind 3 at left x r.0 (bare_takes 3 at (code.Load at) left x fits refl r.1)
          | inr r ↦ elim (choice (eqb kind 9) (muladd_at at left) (value_at kind at left) (Ok x) r.1) [
            | inl s ↦ found_code kind 9 at left x s.0 (muladd_takes at left x fits s.1)
            | inr s ↦
                let one = eqb-false kind 1 p.0 in
                let two = eqb-false kind 2 q.0 in
                let three = eqb-false kind 3 r.0 in
                let nine = eqb-false kind 9 s.0 in
                value_takes kind at left x (omega arith) (omega arith) fits s.1
          ]
        ]
      ]
    ]

code_takes : (kind : ℕ) (left : Left) (x : Code × Left) → 1 ≤ kind → kind ≤ 9 → AreBytes left.bytes → code_at kind left ≡ Ok x → IsBehind kind (spelled_code x.0) left x.1
unfolding code_at
code_takes kind left x least most fits e =
    let a = bind_ok (field_at w8 left) _ x e in
    let first = byte_takes left a.0 fits a.1 in
    let second = constants_take kind a.0.0 a.0.1 x least most first.0.rest_fits a.2 in
    record { part = a.0.0 ∷ second.0; takes = then first.0 second.1; whole_is = second.2 }

-- ---- what a state does

abbrev IsBody : ℕ → (Left → Next Instr) → Type 0
IsBody kind body = (left : Left) (x : Instr × Left) → AreBytes left.bytes → body left ≡ Ok x → IsBehind kind (spelled_instr x.0) left x.1

invoke_takes : (kind : ℕ) → 1 ≤ kind → kind ≤ 9 → IsBody kind (invoke_at kind)
unfolding invoke_at
invoke_takes kind least most left x fits e =
    let a = bind_ok (code_at kind left) _ x e in
    let first = code_takes kind left a.0 least most fits a.1 in
    let second = answers_take a.0.0 a.0.1 x first.takes.rest_fits a.2 in
    record { part = first.part ++ second.0; takes = then first.takes second.1; whole_is = second.2 ∙ ap (λ (c : List ℕ). c ++ second.0) first.whole_is }

next_takes : (kind : ℕ) (instr_of : ℕ → ℕ → Instr) → ((at next : ℕ) → spelled_instr (instr_of at next) ≡ kind ∷ at ∷ to_be_bytes w16 next) → IsBody kind (next_at instr_of)
unfolding next_at
next_takes kind instr_of spelled left x fits e =
    let a = bind_ok (field_at w8 left) _ x e in
    let b = bind_ok (field_at w16 a.0.1) _ x a.2 in
    let first = byte_takes left a.0 fits a.1 in
    let second = target_takes a.0.1 b.0 first.0.rest_fits b.1 in
    subst (λ (y : Instr × Left). IsBehind kind (spelled_instr y.0) left y.1) (ok_is (instr_of a.0.0 b.0.0, b.0.1) x b.2)
    (record { part = a.0.0 ∷ to_be_bytes w16 b.0.0; takes = then first.0 second; whole_is = spelled a.0.0 b.0.0 })

pause_takes : IsBody 13 pause_at
unfolding pause_at
pause_takes left x fits e =
    let a = bind_ok (field_at w32 left) _ x e in
    let b = bind_ok (text_at a.0.1) _ x a.2 in
    let c = bind_ok (field_at w16 b.0.1) _ x b.2 in
    let first = field_takes w32 (2 ^ 32) wide32 left a.0 fits a.1 in
    let second = text_takes a.0.1 b.0 first.0.rest_fits b.1 in
    let third = target_takes b.0.1 c.0 second.rest_fits c.1 in
    subst (λ (y : Instr × Left). IsBehind 13 (spelled_instr y.0) left y.1) (ok_is (Pause a.0.0 b.0.0 c.0.0, c.0.1) x c.2)
    (record { part = to_be_bytes w32 a.0.0 ++ (text b.0.0 ++ to_be_bytes w16 c.0.0); takes = then first.0 (then second third); whole_is = refl })

fail_takes : IsBody 14 fail_at
unfolding fail_at
fail_takes left x fits e =
    let a = bind_ok (field_at w32 left) _ x e in
    let b = bind_ok (text_at a.0.1) _ x a.2 in
    let first = field_takes w32 (2 ^ 32) wide32 left a.0 fits a.1 in
    let second = text_takes a.0.1 b.0 first.0.rest_fits b.1 in
    subst (λ (y : Instr × Left). IsBehind 14 (spelled_instr y.0) left y.1) (ok_is (Fail a.0.0 b.0.0, b.0.1) x b.2)
    (record { part = to_be_bytes w32 a.0.0 ++ text b.0.0; takes = then first.0 second; whole_is = refl })

fold_back : (n : ℕ) → n ≤ 1 → fold_byte (fold_of n) ≡ n
fold_back zero le = refl
fold_back (suc zero) le = refl
fold_back (suc (suc n)) le = absurd (omega arith)

branch_takes : IsBody 0 branch_at
unfolding branch_at
branch_takes left x fits e =
    let a = bind_ok (number_at w8 (within 0 1) left) _ x e in
    let b = bind_ok (number_at w8 (within 0 8) a.0.1) _ x a.2 in
    let c = bind_ok (items_at range_at b.0.0 None b.0.1) _ x b.2 in
    let d = bind_ok (number_at w16 (within 0 most_edges) c.0.1) _ x c.2 in
    let f = bind_ok (items_at edge_at d.0.0 None d.0.1) _ x d.2 in
    let g = bind_ok (rest_at f.0.1) _ x f.2 in
    let t1 = right_byte_takes (within 0 1) left a.0 fits a.1 in
    let t2 = right_byte_takes (within 0 8) a.0.1 b.0 t1.0.rest_fits b.1 in
    let t3 = items_take range_at spelled_range range_takes b.0.0 None b.0.1 c.0 t2.0.rest_fits c.1 in
    let t4 = number_takes w16 (2 ^ 16) wide16 (within 0 most_edges) c.0.1 d.0 t3.0.rest_fits d.1 in
    let t5 = items_take edge_at spelled_edge edge_takes d.0.0 None d.0.1 f.0 t4.0.rest_fits f.1 in
    let t6 = rest_takes f.0.1 g.0 t5.0.rest_fits g.1 in
    let fold : Takes left (fold_byte (fold_of a.0.0) ∷ []) a.0.1 =
    subst (λ (n : ℕ). Takes left (n ∷ []) a.0.1) (sym (fold_back a.0.0 (within_says 0 1 a.0.0 t1.2).1)) t1.0 in
    let ranges : Takes a.0.1 (length c.0.0 ∷ []) b.0.1 = subst (λ (n : ℕ). Takes a.0.1 (n ∷ []) b.0.1) (sym t3.1) t2.0 in
    let count : Takes c.0.1 (to_be_bytes w16 (length f.0.0)) d.0.1 = subst (λ (n : ℕ). Takes c.0.1 (to_be_bytes w16 n) d.0.1) (sym t5.1) t4.0 in
    subst (λ (y : Instr × Left). IsBehind 0 (spelled_instr y.0) left y.1) (ok_is (Branch (fold_of a.0.0) c.0.0 f.0.0 g.0.0, g.0.1) x g.2)
    (record {
      part = fold_byte (fold_of a.0.0) ∷ length c.0.0 ∷ (flat_map spelled_range c.0.0 ++ (to_be_bytes w16 (length f.0.0) ++ (flat_map spelled_edge f.0.0 ++ spelled_rest g.0.0)));
      takes = then fold (then ranges (then t3.0 (then count (then t5.0 t6))));
      whole_is = refl;
    })

found_kind : (kind n : ℕ) (whole : List ℕ) (left after : Left) → eqb kind n ≡ true → IsBehind n whole left after → IsBehind kind whole left after
found_kind kind n whole left after e h = subst (λ (k : ℕ). IsBehind k whole left after) (sym (eqb-true kind n e)) h

body_takes : (kind : ℕ) → kind ≤ 14 → IsBody kind (body_at kind)
unfolding body_at
body_takes kind most left x fits e =
    elim (choice (eqb kind 0) (branch_at left) _ (Ok x) e) [
      | inl p ↦ found_kind kind 0 (spelled_instr x.0) left x.1 p.0 (branch_takes left x fits p.1)
      | inr p ↦ elim (choice (eqb kind 10) (next_at Consume left) _ (Ok x) p.1) [
        | inl q ↦ found_kind kind 10 (spelled_instr x.0) left x.1 q.0 (next_takes 10 Consume (λ at next. refl) left x fits q.1)
        | inr q ↦ elim (choice (eqb kind 11) (next_at SpanOpen left) _ (Ok x) q.1) [
          | inl r ↦ found_kind kind 11 (spelled_instr x.0) left x.1 r.0 (next_takes 11 SpanOpen (λ at next. refl) left x fits r.1)
          | inr r ↦ elim (choice (eqb kind 12) (next_at SpanClose left) _ (Ok x) r.1) [
            | inl s ↦ found_kind kind 12 (spelled_instr x.0) left x.1 s.0 (next_takes 12 SpanClose (λ at next. refl) left x fits s.1)
            | inr s ↦ elim (choice (eqb kind 13) (pause_at left) _ (Ok x) s.1) [
              | inl t ↦ found_kind kind 13 (spelled_instr x.0) left x.1 t.0 (pause_takes left x fits t.1)
              | inr t ↦ elim (choice (eqb kind 14) (fail_at left) (invoke_at kind left) (Ok x) t.1) [
                | inl u ↦ found_kind kind 14 (spelled_instr x.0) left x.1 u.0 (fail_takes left x fits u.1)
                | inr u ↦
                    let ne0 = eqb-false kind 0 p.0 in
                    let ne10 = eqb-false kind 10 q.0 in
                    let ne11 = eqb-false kind 11 r.0 in
                    let ne12 = eqb-false kind 12 s.0 in
                    let ne13 = eqb-false kind 13 t.0 in
                    let ne14 = eqb-false kind 14 u.0 in
                    invoke_takes kind (omega arith) (omega arith) left x fits u.1
              ]
            ]
          ]
        ]
      ]
    ]

pub state_takes : IsReader state_at spelled_state
unfolding state_at
state_takes left x fits e =
    let a = bind_ok (field_at w16 left) _ x e in
    let b = bind_ok (number_at w8 (within 0 14) a.0.1) _ x a.2 in
    let c = bind_ok (body_at b.0.0 b.0.1) _ x b.2 in
    let first = target_takes left a.0 fits a.1 in
    let second = right_byte_takes (within 0 14) a.0.1 b.0 first.rest_fits b.1 in
    let third = body_takes b.0.0 (within_says 0 14 b.0.0 second.2).1 b.0.1 c.0 second.0.rest_fits c.1 in
    subst (λ (y : State × Left). Takes left (spelled_state y.0) y.1) (ok_is (record { origin = a.0.0; instr = c.0.0 }, c.0.1) x c.2)
    (then first (with_first b.0.0 (spelled_instr c.0.0) a.0.1 b.0.1 c.0.1 second.0 third))

-- ---- all parts

abbrev counts_bytes : Counts → List ℕ
counts_bytes c = c.props ∷ c.hosts ∷ c.spans ∷ (to_be_bytes w16 c.names ++ (to_be_bytes w16 c.states ++ to_be_bytes w16 c.entry))

counts_take : IsReader counts_at counts_bytes
unfolding counts_at
counts_take left x fits e =
    let a = bind_ok (number_at w8 (within 0 most_props) left) _ x e in
    let b = bind_ok (number_at w8 (within 0 most_hosts) a.0.1) _ x a.2 in
    let c = bind_ok (number_at w8 (within 0 most_spans) b.0.1) _ x b.2 in
    let d = bind_ok (number_at w16 (within 1 most_names) c.0.1) _ x c.2 in
    let f = bind_ok (number_at w16 (within 1 most_states) d.0.1) _ x d.2 in
    let g = bind_ok (field_at w16 f.0.1) _ x f.2 in
    let t1 = right_byte_takes (within 0 most_props) left a.0 fits a.1 in
    let t2 = right_byte_takes (within 0 most_hosts) a.0.1 b.0 t1.0.rest_fits b.1 in
    let t3 = right_byte_takes (within 0 most_spans) b.0.1 c.0 t2.0.rest_fits c.1 in
    let t4 = number_takes w16 (2 ^ 16) wide16 (within 1 most_names) c.0.1 d.0 t3.0.rest_fits d.1 in
    let t5 = number_takes w16 (2 ^ 16) wide16 (within 1 most_states) d.0.1 f.0 t4.0.rest_fits f.1 in
    let t6 = target_takes f.0.1 g.0 t5.0.rest_fits g.1 in
    subst (λ (y : Counts × Left). Takes left (counts_bytes y.0) y.1)
    (ok_is (record { props = a.0.0; hosts = b.0.0; spans = c.0.0; names = d.0.0; states = f.0.0; entry = g.0.0 }, g.0.1) x g.2)
    (then t1.0 (then t2.0 (then t3.0 (then t4.0 (then t5.0 t6)))))

parts_take : IsReader parts_at spelled_parts
unfolding parts_at spelled_parts spelled_counts
parts_take left x fits e =
    let c = bind_ok (counts_at left) _ x e in
    let f = bind_ok (finish_at c.0.1) _ x c.2 in
    let p = bind_ok (any_at prop_at c.0.0.props f.0.1) _ x f.2 in
    let h = bind_ok (any_at host_at c.0.0.hosts p.0.1) _ x p.2 in
    let s = bind_ok (any_at span_at c.0.0.spans h.0.1) _ x h.2 in
    let n = bind_ok (any_at text_at c.0.0.names s.0.1) _ x s.2 in
    let q = bind_ok (any_at state_at c.0.0.states n.0.1) _ x n.2 in
    let tc = counts_take left c.0 fits c.1 in
    let tf = finish_takes c.0.1 f.0 tc.rest_fits f.1 in
    let tp = items_take (λ _. prop_at) spelled_prop (λ _. prop_takes) c.0.0.props None f.0.1 p.0 tf.rest_fits p.1 in
    let th = items_take (λ _. host_at) spelled_host (λ _. host_takes) c.0.0.hosts None p.0.1 h.0 tp.0.rest_fits h.1 in
    let ts = items_take (λ _. span_at) spelled_span (λ _. span_takes) c.0.0.spans None h.0.1 s.0 th.0.rest_fits s.1 in
    let tn = items_take (λ _. text_at) text (λ _. text_takes) c.0.0.names None s.0.1 n.0 ts.0.rest_fits n.1 in
    let tq = items_take (λ _. state_at) spelled_state (λ _. state_takes) c.0.0.states None n.0.1 q.0 tn.0.rest_fits q.1 in
    let counted : Takes left (counts_bytes (record { props = length p.0.0; hosts = length h.0.0; spans = length s.0.0; names = length n.0.0; states = length q.0.0; entry = c.0.0.entry })) c.0.1 =
    rw (tp.1, th.1, ts.1, tn.1, tq.1) tc in
    subst (λ (y : Program × Left). Takes left (spelled_parts y.0) y.1)
    (ok_is (record { props = p.0.0; hosts = h.0.0; spans = s.0.0; names = n.0.0; states = q.0.0; entry = c.0.0.entry; finish = f.0.0 }, q.0.1) x q.2)
    (then counted (then tf (then tp.0 (then th.0 (then ts.0 (then tn.0 tq.0))))))

-- what all bytes give spells them
pub all_takes : (left : Left) (p : Program) → AreBytes left.bytes → all_at left ≡ Ok p → left.bytes ≡ spelled_parts p
unfolding all_at
all_takes left p fits e =
    let a = bind_ok (parts_at left) _ p e in
    let t = parts_take left a.0 fits a.1 in
    let g = passed (eqb (length a.0.1.bytes) 0) (place a.0.1) a.0.0 p a.2 in
    let nothing : a.0.1.bytes ≡ [] = nil_from_length a.0.1.bytes (eqb-true _ _ g.0) in
    t.parts ∙ ap (λ (rest : List ℕ). spelled_parts a.0.0 ++ rest) nothing ∙ append-nil (spelled_parts a.0.0) ∙ ap spelled_parts g.1
