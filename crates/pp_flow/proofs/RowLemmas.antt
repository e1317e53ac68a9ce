-- What is told by rows, and when rows are added.
use Rattle.std.proofs.Common.{subst, ◌≡◌, ◌↔◌, ℕ, suc, ◌<◌, ◌⊎◌, List, [], ◌∷◌, ◌++◌, Some, true, false, refl, sym, ◌∙◌, ap, arith, length, inl, inr}
use Rattle.std.specs.Prelude.{slice_get}
use Rattle.std.proofs.lemmas.Bool.{cases_lt, false≢true}
use Rattle.std.proofs.lemmas.Option.{slice_get_within}
use Rattle.pp_flow.specs.Chart.{Chart, with_move}
use Rattle.pp_flow.specs.declared.moves.Move.{Move}
use Rattle.pp_flow.specs.Flow.{IsFree, IsOnward}
use Rattle.pp_flow.specs.Spans.{IsEdge}
use Rattle.pp_flow.specs.Rows.{Way, free, onward, edge, Ends, NoEnds, OrEnds, FreeEnds, BothEnds, DeadEnds, IsOn, Has, RowEnds, Adds, TellsBelow, Rowed}
use Rattle.pp_flow.proofs.ListLemmas.{get-pushed, get-last, get-either, get-front, get-back}

-- ---- rows as moves

module _ (rows : List Move) (node next : ℕ) where
  pub free-has : (b : ℕ) → IsFree rows b node next ↔ Has rows free b node next
  free-has b = (
    (λ f. record { place = f.place; made = f.made; listed = f.listed; from = f.from; to = f.to; on = (f.free, f.low, f.high) }),
    (λ h. record { place = h.place; made = h.made; listed = h.listed; from = h.from; to = h.to; free = h.on.0; low = h.on.1; high = h.on.2 }),
  )

  pub onward-has : (b : ℕ) → IsOnward rows b node next ↔ Has rows onward b node next
  onward-has b = (
    (λ f. record { place = f.place; made = f.made; listed = f.listed; from = f.from; to = f.to; on = (f.onward, f.low, f.high) }),
    (λ h. record { place = h.place; made = h.made; listed = h.listed; from = h.from; to = h.to; onward = h.on.0; low = h.on.1; high = h.on.2 }),
  )

  pub edge-has : (b : ℕ) → IsEdge rows node next ↔ Has rows edge b node next
  edge-has b = (
    (λ f. record { place = f.place; made = f.made; listed = f.listed; from = f.from; to = f.to; on = tt }),
    (λ h. record { place = h.place; made = h.made; listed = h.listed; from = h.from; to = h.to }),
  )

-- rows that tell the ends of all points, each of which is below a count
module _ (ends : ℕ → Ends) (count : ℕ) (rows : List Move) (tells : TellsBelow ends count rows) (there : (way : Way) (b node next : ℕ) → ends node way b next → node < count) where
  told : (way : Way) (b node next : ℕ) → b < 256 → Has rows way b node next ↔ ends node way b next
  told way b node next h = ((λ has. ((tells way b node next h).0 has).1), (λ e. (tells way b node next h).1 (there way b node next e, e)))

  pub free-ends : (b node next : ℕ) → b < 256 → IsFree rows b node next ↔ ends node free b next
  free-ends b node next h = ((λ f. (told free b node next h).0 ((free-has rows node next b).0 f)), (λ e. (free-has rows node next b).1 ((told free b node next h).1 e)))

  pub onward-ends : (b node next : ℕ) → b < 256 → IsOnward rows b node next ↔ ends node onward b next
  onward-ends b node next h = ((λ f. (told onward b node next h).0 ((onward-has rows node next b).0 f)), (λ e. (onward-has rows node next b).1 ((told onward b node next h).1 e)))

  pub edge-ends : (node next : ℕ) → IsEdge rows node next ↔ ends node edge 0 next
  edge-ends node next = (
    (λ f. (told edge 0 node next (omega arith)).0 ((edge-has rows node next 0).0 f)),
    (λ e. (edge-has rows node next 0).1 ((told edge 0 node next (omega arith)).1 e)),
  )

-- ---- rows that are added

-- no rows
pub has-none : {way : Way} {b from next : ℕ} → Has [] way b from next → ⊥
has-none h = (let low : h.place < 0 = slice_get_within [] h.place h.made h.listed in omega (arith, low))

-- one more row
pub adds-push : (rows : List Move) (m : Move) → Adds m.from rows (rows ++ m ∷ []) (RowEnds m)
adds-push rows m way b from next low = (
  (λ h. elim (get-pushed rows m h.made h.place h.listed) [
    | inl old ↦ inl (record { place = h.place; made = h.made; listed = old; from = h.from; to = h.to; on = h.on })
    | inr same ↦ inr (
      sym h.from ∙ ap (λ (x : Move). x.from) (sym same),
      (ap (λ (x : Move). x.to) same ∙ h.to, subst (λ (x : Move). IsOn way x b) (sym same) h.on),
    )
  ]),
  (λ h. elim h [
    | inl old ↦ record { place = old.place; made = old.made; listed = get-front rows (m ∷ []) old.made old.place old.listed; from = old.from; to = old.to; on = old.on }
    | inr new ↦ record { place = length rows; made = m; listed = get-last rows m; from = sym new.0; to = new.1.0; on = new.1.1 }
  ]),
)

-- no row more
pub adds-none : (node : ℕ) (rows : List Move) → Adds node rows rows NoEnds
adds-none node rows way b from next low = ((λ h. inl h), (λ h. elim h [ inl old ↦ old | inr new ↦ absurd new.1 ]))

-- rows, and then rows
pub adds-then : (node : ℕ) (a b c : List Move) (P Q : Ends) → Adds node a b P → Adds node b c Q → Adds node a c (OrEnds P Q)
adds-then node a b c P Q f g way x from next low = (
  (λ h. elim ((g way x from next low).0 h) [
    | inl old ↦ elim ((f way x from next low).0 old) [ inl older ↦ inl older | inr new ↦ inr (new.0, inl new.1) ]
    | inr new ↦ inr (new.0, inr new.1)
  ]),
  (λ h. elim h [
    | inl old ↦ (g way x from next low).1 (inl ((f way x from next low).1 (inl old)))
    | inr new ↦ elim new.1 [
      | inl p ↦ (g way x from next low).1 (inl ((f way x from next low).1 (inr (new.0, p))))
      | inr q ↦ (g way x from next low).1 (inr (new.0, q))
    ]
  ]),
)

-- the same ends, told otherwise
pub adds-same : (node : ℕ) (a b : List Move) (P Q : Ends) → ((way : Way) (x next : ℕ) → x < 256 → P way x next ↔ Q way x next) → Adds node a b P → Adds node a b Q
adds-same node a b P Q same f way x from next low = (
  (λ h. elim ((f way x from next low).0 h) [ inl old ↦ inl old | inr new ↦ inr (new.0, (same way x next low).0 new.1) ]),
  (λ h. elim h [ inl old ↦ (f way x from next low).1 (inl old) | inr new ↦ (f way x from next low).1 (inr (new.0, (same way x next low).1 new.1)) ]),
)

has-either : (xs ys : List Move) (way : Way) (b from next : ℕ) → Has (xs ++ ys) way b from next → Has xs way b from next ⊎ Has ys way b from next
has-either xs ys way b from next h = elim (get-either xs ys h.place h.made h.listed) [
  | inl e ↦ inl (record { place = h.place; made = h.made; listed = e; from = h.from; to = h.to; on = h.on })
  | inr r ↦ inr (record { place = r.0; made = h.made; listed = r.1; from = h.from; to = h.to; on = h.on })
]

has-front : (xs ys : List Move) (way : Way) (b from next : ℕ) → Has xs way b from next → Has (xs ++ ys) way b from next
has-front xs ys way b from next h = record { place = h.place; made = h.made; listed = get-front xs ys h.made h.place h.listed; from = h.from; to = h.to; on = h.on }

has-back : (xs ys : List Move) (way : Way) (b from next : ℕ) → Has ys way b from next → Has (xs ++ ys) way b from next
has-back xs ys way b from next h =
    let r : (k : ℕ) × (slice_get (xs ++ ys) k ≡ Some h.made) = get-back xs ys h.made h.place h.listed in
    record { place = r.0; made = h.made; listed = r.1; from = h.from; to = h.to; on = h.on }

-- rows that were told on their own, behind others
pub adds-behind : (node : ℕ) (before rows : List Move) (P : Ends) → Adds node [] rows P → Adds node before (before ++ rows) P
adds-behind node before rows P adds way b from next low = (
  (λ has. elim (has-either before rows way b from next has) [
    | inl x ↦ inl x
    | inr y ↦ elim ((adds way b from next low).0 y) [ inl none ↦ absurd (has-none none) | inr here ↦ inr here ]
  ]),
  (λ h. elim h [
    | inl old ↦ has-front before rows way b from next old
    | inr here ↦ has-back before rows way b from next ((adds way b from next low).1 (inr here))
  ]),
)

-- no rows tell of no point
pub tells-none : (ends : ℕ → Ends) → TellsBelow ends 0 []
tells-none ends way b from next h = ((λ has. absurd (has-none has)), (λ t. absurd (omega (arith, t.0))))

-- the rows of one more point
pub tells-more : (ends : ℕ → Ends) (node : ℕ) (before after : List Move) → TellsBelow ends node before → Adds node before after (ends node) → TellsBelow ends (suc node) after
tells-more ends node before after tells adds way b from next low = (
  (λ has. elim ((adds way b from next low).0 has) [
    | inl old ↦ (let t = (tells way b from next low).0 old in (omega (arith, t.0), t.1))
    | inr new ↦ (omega (arith, new.0), subst (λ n. ends n way b next) (sym new.0) new.1)
  ]),
  (λ t. elim (cases_lt from node) [
    | inl less ↦ (adds way b from next low).1 (inl ((tells way b from next low).1 (less, t.1)))
    | inr past ↦
        let same : from ≡ node = omega (arith, t.0, past) in
        (adds way b from next low).1 (inr (same, subst (λ n. ends n way b next) same t.1))
  ]),
)

-- ---- rows of a chart

-- one more row
pub rowed-push : (c : Chart) (m : Move) → m.from ≡ c.told → Rowed c (with_move c m) (RowEnds m)
rowed-push c m e = record { acts = refl; entry = refl; told = refl; adds = subst (λ n. Adds n c.moves (c.moves ++ m ∷ []) (RowEnds m)) e (adds-push c.moves m) }

-- no row more
pub rowed-none : (c : Chart) → Rowed c c NoEnds
rowed-none c = record { acts = refl; entry = refl; told = refl; adds = adds-none c.told c.moves }

-- rows, and then rows
pub rowed-then : (a b c : Chart) (P Q : Ends) → Rowed a b P → Rowed b c Q → Rowed a c (OrEnds P Q)
rowed-then a b c P Q f g = record {
  acts = g.acts ∙ f.acts;
  entry = g.entry ∙ f.entry;
  told = g.told ∙ f.told;
  adds = adds-then a.told a.moves b.moves c.moves P Q f.adds (subst (λ n. Adds n b.moves c.moves Q) f.told g.adds);
}

-- the same ends, told otherwise
pub rowed-same : (a b : Chart) (P Q : Ends) → ((way : Way) (x next : ℕ) → x < 256 → P way x next ↔ Q way x next) → Rowed a b P → Rowed a b Q
rowed-same a b P Q same f = record { acts = f.acts; entry = f.entry; told = f.told; adds = adds-same a.told a.moves b.moves P Q same f.adds }

-- ---- rows on no byte, and on every byte

pub dead-row : (node target : ℕ) (way : Way) (x next : ℕ) → x < 256 →
    RowEnds (record { from = node; to = target; lo = 1; hi = 0; free = false; onward = false }) way x next ↔ DeadEnds target way x next
dead-row node target free x next low = ((λ h. false≢true h.1.0), (λ h. absurd h))
dead-row node target onward x next low = ((λ h. false≢true h.1.0), (λ h. absurd h))
dead-row node target edge x next low = ((λ h. h.0), (λ h. (h, tt)))

pub free-row : (node target : ℕ) (way : Way) (x next : ℕ) → x < 256 →
    RowEnds (record { from = node; to = target; lo = 0; hi = 255; free = true; onward = false }) way x next ↔ FreeEnds target way x next
free-row node target free x next low = ((λ h. h.0), (λ h. (h, (refl, omega arith, omega arith))))
free-row node target onward x next low = ((λ h. false≢true h.1.0), (λ h. absurd h))
free-row node target edge x next low = ((λ h. h.0), (λ h. (h, tt)))

pub both-row : (node target : ℕ) (way : Way) (x next : ℕ) → x < 256 →
    RowEnds (record { from = node; to = target; lo = 0; hi = 255; free = true; onward = true }) way x next ↔ BothEnds target way x next
both-row node target free x next low = ((λ h. h.0), (λ h. (h, (refl, omega arith, omega arith))))
both-row node target onward x next low = ((λ h. h.0), (λ h. (h, (refl, omega arith, omega arith))))
both-row node target edge x next low = ((λ h. h.0), (λ h. (h, tt)))
