-- A table of moves grows by a move or by a point.
use Rattle.std.proofs.Common.{◌≡◌, ℕ, zero, suc, ◌+◌, ◌<◌, ◌≤◌, ◌⊎◌, List, [], ◌∷◌, ◌++◌, Some, length, arith, refl, sym, ◌∙◌, ap, subst, inl, inr, length-append}
use Rattle.std.specs.Prelude.{slice_get, ◌-◌}
use Rattle.std.proofs.lemmas.Option.{slice_get_within}
use Rattle.std.proofs.lemmas.Bool.{cases_lt, cases_eq}
use Rattle.pp_flow.specs.declared.moves.Move.{Move}
use Rattle.pp_flow.specs.steps.Table.{IsTable, IsPart, IsBuilt}
use Rattle.pp_flow.specs.declared.moves.Act.{Act}
use Rattle.pp_flow.proofs.SearchLemmas.{at, last_at, front_at, long_one, some_same}

-- the moves with one more behind them
pub get_snoc : (xs : List Move) (y : Move) (k : ℕ) (x : Move) → slice_get (xs ++ y ∷ []) k ≡ Some x → (slice_get xs k ≡ Some x) ⊎ ((k ≡ length xs) × (x ≡ y))
get_snoc [] y zero x e = inr (refl, some_same x y (sym e))
get_snoc [] y (suc k) x e = absurd (cc)
get_snoc (z ∷ xs) y zero x e = inl e
get_snoc (z ∷ xs) y (suc k) x e = elim (get_snoc xs y k x e) [ inl a ↦ inl a | inr b ↦ inr (ap suc b.0, b.1) ]

pub part_first : (count : ℕ) → IsPart [] (0 ∷ []) count
part_first count = record {
  some = omega arith;
  room = omega arith;
  upto = λ x h. (let z : x ≡ 0 = omega arith in subst (λ (y : ℕ). at (0 ∷ []) y ≤ 0) (sym z) (omega arith));
  rising = λ x h. absurd (omega arith);
  own = λ x k m h lo hi e. absurd (cc);
  all = λ k m e. absurd (cc);
  points = λ k m e. absurd (cc);
}

pub part_push : (moves : List Move) (starts : List ℕ) (count : ℕ) (m : Move) → IsPart moves starts count → suc m.from ≡ length starts → m.from < count → m.to < count → IsPart (moves ++ m ∷ []) starts count
part_push moves starts count m p from from_in to_in = record {
  some = p.some;
  room = p.room;
  upto = λ x h. (let u : at starts x ≤ length moves = p.upto x h in let l : length (moves ++ m ∷ []) ≡ length moves + 1 = length-append moves (m ∷ []) in omega arith);
  rising = p.rising;
  own = λ x k m' h lo hi e. elim (get_snoc moves m k m' e) [
    | inl old ↦ p.own x k m' h lo hi old
    | inr new ↦ (let u : at starts (suc x) ≤ length moves = p.upto (suc x) h in absurd (omega (arith, new.0)))
  ];
  all = λ k m' e. elim (get_snoc moves m k m' e) [
    | inl old ↦ p.all k m' old
    | inr new ↦ subst (λ (y : Move). (at starts y.from ≤ k) × (suc y.from ≤ length starts) × (suc y.from < length starts → k < at starts (suc y.from))) (sym new.1)
        (let u : at starts m.from ≤ length moves = p.upto m.from (omega arith) in (omega (arith, new.0), omega arith, λ h. absurd (omega arith)))
  ];
  points = λ k m' e. elim (get_snoc moves m k m' e) [
    | inl old ↦ p.points k m' old
    | inr new ↦ subst (λ (y : Move). (y.from < count) × (y.to < count)) (sym new.1) (from_in, to_in)
  ];
}

pub part_end : (moves : List Move) (starts : List ℕ) (count : ℕ) → IsPart moves starts count → length starts ≤ count → IsPart moves (starts ++ length moves ∷ []) count
part_end moves starts count p room = record {
  some = omega (arith, long_one starts (length moves));
  room = omega (arith, long_one starts (length moves));
  upto = λ x h. elim (cases_lt x (length starts)) [
    | inl lt ↦ subst (λ (y : ℕ). y ≤ length moves) (sym (front x lt)) (p.upto x lt)
    | inr ge ↦ subst (λ (y : ℕ). y ≤ length moves) (sym (last x h ge)) (omega arith)
  ];
  rising = λ x h. elim (cases_lt (suc x) (length starts)) [
    | inl lt ↦ subst (λ (y : ℕ). y ≤ at (starts ++ length moves ∷ []) (suc x)) (sym (front x (omega arith))) (subst (λ (y : ℕ). at starts x ≤ y) (sym (front (suc x) lt)) (p.rising x lt))
    | inr ge ↦ subst (λ (y : ℕ). y ≤ at (starts ++ length moves ∷ []) (suc x)) (sym (front x (omega (arith, long_one starts (length moves))))) (subst (λ (y : ℕ). at starts x ≤ y) (sym (last (suc x) h ge)) (p.upto x (omega (arith, long_one starts (length moves)))))
  ];
  own = λ x k m h lo hi e. elim (cases_lt (suc x) (length starts)) [
    | inl lt ↦ p.own x k m lt (subst (λ (y : ℕ). y ≤ k) (front x (omega arith)) lo) (subst (λ (y : ℕ). k < y) (front (suc x) lt) hi) e
    | inr ge ↦ (
        let x_is : suc x ≡ length starts = omega (arith, long_one starts (length moves)) in
        let from_le : suc m.from ≤ length starts = (p.all k m e).1 in
        let lo' : at starts x ≤ k = subst (λ (y : ℕ). y ≤ k) (front x (omega arith)) lo in
        elim (cases_eq m.from x) [
          | inl same ↦ same
          | inr o ↦ (
              let below : k < at starts (suc m.from) = (p.all k m e).2 (omega arith) in
              let up : at starts (suc m.from) ≤ at starts x = climbs x (suc m.from) (omega arith) (omega arith) in
              absurd (omega arith))
        ])
  ];
  all = λ k m e. (
      let q = p.all k m e in
      let h : suc m.from ≤ length starts = q.1 in (
        subst (λ (y : ℕ). y ≤ k) (sym (front m.from (omega arith))) q.0,
        omega (arith, long_one starts (length moves)),
        λ lt. elim (cases_lt (suc m.from) (length starts)) [
          | inl in' ↦ subst (λ (y : ℕ). k < y) (sym (front (suc m.from) in')) (q.2 in')
          | inr ge ↦ subst (λ (y : ℕ). k < y) (sym (last (suc m.from) lt ge)) (slice_get_within moves k m e)
        ],
      ));
  points = p.points;
}
  where
    front : (x : ℕ) → x < length starts → at (starts ++ length moves ∷ []) x ≡ at starts x
    front x h = front_at starts (length moves) x h

    last : (x : ℕ) → x < length (starts ++ length moves ∷ []) → length starts ≤ x → at (starts ++ length moves ∷ []) x ≡ length moves
    last x h ge = ap (at (starts ++ length moves ∷ [])) (let e : x ≡ length starts = omega (arith, long_one starts (length moves)) in e) ∙ last_at starts (length moves)

    climbs : (x y : ℕ) → y ≤ x → x < length starts → at starts y ≤ at starts x
    climbs zero y h g = subst (λ (z : ℕ). at starts z ≤ at starts zero) (let e : 0 ≡ y = omega arith in e) (omega arith)
    climbs (suc x) y h g = elim (cases_eq y (suc x)) [
      | inl e ↦ subst (λ (z : ℕ). at starts z ≤ at starts (suc x)) (sym e) (omega arith)
      | inr o ↦ (let rest : at starts y ≤ at starts x = climbs x y (omega arith) (omega arith) in let one : at starts x ≤ at starts (suc x) = p.rising x g in omega arith)
    ]

-- all points are told
pub part_whole : (moves : List Move) (starts : List ℕ) (count : ℕ) → IsPart moves starts count → length starts ≡ suc count → IsTable moves starts count
part_whole moves starts count p all = record {
  long = all;
  within = λ x h. p.upto (suc x) (omega arith);
  ordered = λ x h. p.rising x (omega arith);
  own = λ x k m h lo hi e. p.own x k m (omega arith) lo hi e;
  all = λ k m e. (let q = p.all k m e in let h : m.from < count = (p.points k m e).0 in (q.0, q.2 (omega arith)));
  points = p.points;
}

-- a move of the next point
pub built_push : (acts : List Act) (entry : ℕ) (moves : List Move) (starts : List ℕ) (m : Move) → IsBuilt acts entry moves starts →
    m.from ≡ length starts - 1 → length starts - 1 < length acts → m.to < length acts → IsBuilt acts entry (moves ++ m ∷ []) starts
built_push acts entry moves starts m built from open' to = record {
  part = part_push moves starts (length acts) m built.part (let some : 0 < length starts = built.part.some in omega arith) (omega arith) to;
  few = built.few;
  entry_in = built.entry_in;
  spans = built.spans;
}

-- the end of the next point
pub built_end : (acts : List Act) (entry : ℕ) (moves : List Move) (starts : List ℕ) (end : ℕ) → IsBuilt acts entry moves starts →
    length starts - 1 < length acts → end ≡ length moves → IsBuilt acts entry moves (starts ++ end ∷ [])
built_end acts entry moves starts end built open' is = record {
  part = subst (λ (n : ℕ). IsPart moves (starts ++ n ∷ []) (length acts)) (sym is) (part_end moves starts (length acts) built.part (let some : 0 < length starts = built.part.some in omega arith));
  few = built.few;
  entry_in = built.entry_in;
  spans = built.spans;
}

-- the form of a flow of which all points are told
pub built_whole : (acts : List Act) (entry : ℕ) (moves : List Move) (starts : List ℕ) → IsBuilt acts entry moves starts →
    length starts - 1 ≡ length acts → IsTable moves starts (length acts)
built_whole acts entry moves starts built whole = part_whole moves starts (length acts) built.part (let some : 0 < length starts = built.part.some in omega arith)
