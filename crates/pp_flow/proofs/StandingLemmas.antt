-- What is told of the spans of a flow is so of the ways that it has.
use Rattle.std.proofs.Common.{subst, ◌≡◌, ◌↔◌, ℕ, ◌+◌, ◌*◌, ◌<◌, ◌⊎◌, List, Bool, true, false, cond, refl, sym, ◌∙◌, ap, arith, length, inl, inr}
use Rattle.std.specs.Prelude.{◌/◌, ◌==◌}
use Rattle.std.proofs.lemmas.Bool.{cases_lt, eqb-true, false≢true}
use Rattle.pp_flow.specs.Chart.{Chart}
use Rattle.pp_flow.specs.declared.moves.Act.{Act}
use Rattle.pp_flow.specs.declared.moves.Act.TheVariants.{Goes, Opens, Closes, Fails}
use Rattle.pp_flow.specs.declared.faults.SpanFault.{SpanFault}
use Rattle.pp_flow.specs.declared.faults.SpanFault.TheVariants.{Reopened, NotOpen, Mixed}
use Rattle.pp_flow.specs.Faults as faults
use Rattle.pp_flow.specs.Spans as points
use Rattle.pp_flow.specs.Standing.{Ways, behind, MayStand, at_entry, along, MayBeOpen, MayBeShut, Reopens, ClosesShut, Mixes, HasNo, HasNoFault, HasFault, SpansFit, NoneBefore, IsFirstFault, node_of, TellsOpen}

-- ---- faults

-- a first fault is one of its point
pub has-fault : (w : Ways) (f : SpanFault) → IsFirstFault w f → HasFault w (node_of f)
has-fault w (Reopened node span) h = inl (span, h.1.0)
has-fault w (NotOpen node span) h = inr (inl (span, h.2.0))
has-fault w (Mixed node span) h = inr (inr (span, h.3.0))

-- and no point before it has one
pub none-before : (w : Ways) (f : SpanFault) → IsFirstFault w f → NoneBefore w (node_of f)
none-before w (Reopened node span) h = h.0
none-before w (NotOpen node span) h = h.0
none-before w (Mixed node span) h = h.0

pub no-fault-has : (w : Ways) (node : ℕ) → HasNoFault w node → HasFault w node → ⊥
no-fault-has w node none (inl r) = none.reopens r.0 r.1
no-fault-has w node none (inr (inl r)) = none.closes r.0 r.1
no-fault-has w node none (inr (inr r)) = none.mixes r.0 r.1

-- ---- what a flow tells

-- a flow has the entry of the ways, their acts and their edges, its spans are below 32, and edges lead to its points
pub record HasWays (w : Ways) (c : Chart) : Type 0 where
  pub entry : c.entry ≡ w.entry
  pub acts : (node : ℕ) → points.act_at c.acts node ≡ w.act node
  pub edges : (node next : ℕ) → points.IsEdge c.moves node next ↔ w.Edge node next
  pub spans : points.HaveSpans c.acts
  pub entry_in : w.entry < length c.acts
  pub within : (node next : ℕ) → w.Edge node next → next < length c.acts

-- a standing of a span as a flow numbers it
abbrev stand_of : ℕ → Bool → ℕ
stand_of s is_open = cond is_open (s * 2 + 1) (s * 2)

half : (s : ℕ) (is_open : Bool) → stand_of s is_open / 2 ≡ s
half s true = omega arith
half s false = omega arith

opens-is : (s span : ℕ) (is_open : Bool) → cond (stand_of s is_open / 2 == span) (span * 2 + 1) (stand_of s is_open) ≡ stand_of s (cond (s == span) true is_open)
opens-is s span is_open = subst (λ h. cond (h == span) (span * 2 + 1) (stand_of s is_open) ≡ stand_of s (cond (s == span) true is_open)) (sym (half s is_open)) (by (s == span) refl)
  where
    by : (t : Bool) → (s == span) ≡ t → cond t (span * 2 + 1) (stand_of s is_open) ≡ stand_of s (cond t true is_open)
    by true e = ap (λ x. x * 2 + 1) (sym (eqb-true s span e))
    by false e = refl

closes-is : (s span : ℕ) (is_open : Bool) → cond (stand_of s is_open / 2 == span) (span * 2) (stand_of s is_open) ≡ stand_of s (cond (s == span) false is_open)
closes-is s span is_open = subst (λ h. cond (h == span) (span * 2) (stand_of s is_open) ≡ stand_of s (cond (s == span) false is_open)) (sym (half s is_open)) (by (s == span) refl)
  where
    by : (t : Bool) → (s == span) ≡ t → cond t (span * 2) (stand_of s is_open) ≡ stand_of s (cond t false is_open)
    by true e = ap (λ x. x * 2) (sym (eqb-true s span e))
    by false e = refl

leads-is : (a : Act) (s : ℕ) (is_open : Bool) → points.leads a (stand_of s is_open) ≡ stand_of s (behind a s is_open)
leads-is Goes s is_open = refl
leads-is (Opens span) s is_open = opens-is s span is_open
leads-is (Closes span) s is_open = closes-is s span is_open
leads-is Fails s is_open = refl

stand-open : (s t : ℕ) (is_open : Bool) → s * 2 + 1 ≡ stand_of t is_open → (t ≡ s) × (is_open ≡ true)
stand-open s t true e = (omega (arith, e), refl)
stand-open s t false e = absurd (omega (arith, e))

stand-shut : (s t : ℕ) (is_open : Bool) → s * 2 ≡ stand_of t is_open → (t ≡ s) × (is_open ≡ false)
stand-shut s t true e = absurd (omega (arith, e))
stand-shut s t false e = (omega (arith, e), refl)

-- a span is open behind a point that opens it, or where it was open before
opened-by : (a : Act) (s : ℕ) (is_open : Bool) → behind a s is_open ≡ true → (is_open ≡ true) ⊎ (a ≡ Opens s)
opened-by Goes s is_open e = inl e
opened-by (Opens span) s is_open e = by (s == span) refl e
  where
    by : (t : Bool) → (s == span) ≡ t → cond t true is_open ≡ true → (is_open ≡ true) ⊎ (Opens span ≡ Opens s)
    by true f e = inr (ap Opens (sym (eqb-true s span f)))
    by false f e = inl e
opened-by (Closes span) s is_open e = by (s == span) e
  where
    by : (t : Bool) → cond t false is_open ≡ true → (is_open ≡ true) ⊎ (Closes span ≡ Opens s)
    by true e = absurd (false≢true e)
    by false e = inl e
opened-by Fails s is_open e = inl e

module _ (w : Ways) (c : Chart) (has : HasWays w c) where
  abbrev Stands : ℕ → ℕ → Type 0
  Stands b node = points.MayStand c.moves c.acts c.entry b node

  there : {s node : ℕ} {is_open : Bool} → s < 32 → MayStand w s is_open node → Stands (stand_of s is_open) node
  there {s} h at_entry = subst (λ n. Stands (s * 2) n) has.entry (points.at_entry h)
  there {s} h (along {is_open} {node} {next} m e) =
      subst (λ b. Stands b next) (ap (λ a. points.leads a (stand_of s is_open)) (has.acts node) ∙ leads-is (w.act node) s is_open)
      (points.along (there h m) ((has.edges node next).1 e))

  here : {b node : ℕ} → Stands b node → (s : ℕ) × (s < 32) × (is_open : Bool) × (b ≡ stand_of s is_open) × MayStand w s is_open node
  here (points.at_entry {s} h) = (s, h, false, refl, subst (λ n. MayStand w s false n) (sym has.entry) at_entry)
  here (points.along {b} {node} {next} m e) =
      let q : (s : ℕ) × (s < 32) × (is_open : Bool) × (b ≡ stand_of s is_open) × MayStand w s is_open node = here m in (
        q.0,
        q.1,
        behind (w.act node) q.0 q.2,
        ap (points.leads (points.act_at c.acts node)) q.3 ∙ (ap (λ a. points.leads a (stand_of q.0 q.2)) (has.acts node) ∙ leads-is (w.act node) q.0 q.2),
        along q.4 ((has.edges node next).0 e),
      )

  open-here : (s node : ℕ) → Stands (s * 2 + 1) node → MayBeOpen w s node
  open-here s node m =
      let q = here m in
      let is : (q.0 ≡ s) × (q.2 ≡ true) = stand-open s q.0 q.2 q.3 in
      subst (λ t. MayStand w t true node) is.0 (subst (λ (o : Bool). MayStand w q.0 o node) is.1 q.4)

  shut-here : (s node : ℕ) → Stands (s * 2) node → MayBeShut w s node
  shut-here s node m =
      let q = here m in
      let is : (q.0 ≡ s) × (q.2 ≡ false) = stand-shut s q.0 q.2 q.3 in
      subst (λ t. MayStand w t false node) is.0 (subst (λ (o : Bool). MayStand w q.0 o node) is.1 q.4)

  -- a span that may be open is one of the first 32
  open-low : {s node : ℕ} {is_open : Bool} → MayStand w s is_open node → is_open ≡ true → s < 32
  open-low at_entry e = absurd (false≢true e)
  open-low {s} (along {is_open} {node} {next} m f) e = elim (opened-by (w.act node) s is_open e) [
    | inl was ↦ open-low m was
    | inr opens ↦ has.spans node s (inl (has.acts node ∙ opens))
  ]

  stands-within : {s node : ℕ} {is_open : Bool} → MayStand w s is_open node → node < length c.acts
  stands-within at_entry = has.entry_in
  stands-within (along {is_open} {node} {next} m e) = has.within node next e

  reopens-there : (n s : ℕ) → Reopens w n s → faults.Reopens Stands c.acts n s
  reopens-there n s r = (has.acts n ∙ r.0, there (open-low r.1 refl) r.1)

  reopens-here : (n s : ℕ) → faults.Reopens Stands c.acts n s → Reopens w n s
  reopens-here n s r = (sym (has.acts n) ∙ r.0, open-here s n r.1)

  closes-there : (n s : ℕ) → ClosesShut w n s → faults.ClosesShut Stands c.acts n s
  closes-there n s r = (let closes = has.acts n ∙ r.0 in (closes, there (has.spans n s (inr closes)) r.1))

  closes-here : (n s : ℕ) → faults.ClosesShut Stands c.acts n s → ClosesShut w n s
  closes-here n s r = (sym (has.acts n) ∙ r.0, shut-here s n r.1)

  mixes-there : (n s : ℕ) → Mixes w n s → faults.Mixes Stands c.acts n s
  mixes-there n s r = (let low : s < 32 = open-low r.1 refl in (low, (λ e. r.0 (sym (has.acts n) ∙ e)), there low r.1, there low r.2))

  mixes-here : (n s : ℕ) → faults.Mixes Stands c.acts n s → Mixes w n s
  mixes-here n s r = ((λ e. r.1 (has.acts n ∙ e)), open-here s n r.2, shut-here s n r.3)

  no-reopens : (n : ℕ) → faults.HasNo (faults.Reopens Stands c.acts n) → HasNo (Reopens w n)
  no-reopens n h s r = h s (reopens-there n s r)

  no-closes : (n : ℕ) → faults.HasNo (faults.ClosesShut Stands c.acts n) → HasNo (ClosesShut w n)
  no-closes n h s r = h s (closes-there n s r)

  no-fault : (n : ℕ) → faults.HasNoFault Stands c.acts n → HasNoFault w n
  no-fault n h = record { reopens = no-reopens n h.reopens; closes = no-closes n h.closes; mixes = λ s r. h.mixes s (mixes-there n s r) }

  -- spans fit where no point of the flow has a fault
  pub spans-fit : ((x : ℕ) → x < length c.acts → faults.HasNoFault Stands c.acts x) → SpansFit w
  spans-fit h n = elim (cases_lt n (length c.acts)) [
    | inl low ↦ no-fault n (h n low)
    | inr past ↦ record {
      reopens = λ s r. (let low : n < length c.acts = stands-within r.1 in omega (arith, low, past));
      closes = λ s r. (let low : n < length c.acts = stands-within r.1 in omega (arith, low, past));
      mixes = λ s r. (let low : n < length c.acts = stands-within r.1 in omega (arith, low, past));
    }
  ]

  -- the same masks
  pub same-masks : (opened : List ℕ) → points.TellsOpen c.moves c.acts c.entry (length c.acts) opened → TellsOpen w (length c.acts) opened
  same-masks opened h = record {
    long = h.long;
    exact = λ node s low few. ((λ e. open-here s node ((h.exact node s low few).0 e)), (λ m. (h.exact node s low few).1 (there few m)));
  }

  -- the same first fault
  pub same-fault : (f : SpanFault) → faults.IsFirstFault Stands c.acts f → IsFirstFault w f
  same-fault f h = by f h.first
    where
      before : NoneBefore w h.node
      before m low = no-fault m (h.before m low)

      by : (g : SpanFault) → faults.IsFirstAt Stands c.acts h.node g → IsFirstFault w g
      by (Reopened node span) x = subst (λ n. IsFirstFault w (Reopened n span)) (sym x.0)
          (before, (reopens-here h.node span x.1, (λ t low r. x.2 t low (reopens-there h.node t r))))
      by (NotOpen node span) x = subst (λ n. IsFirstFault w (NotOpen n span)) (sym x.0)
          (before, no-reopens h.node x.2, (closes-here h.node span x.1, (λ t low r. x.3 t low (closes-there h.node t r))))
      by (Mixed node span) x = subst (λ n. IsFirstFault w (Mixed n span)) (sym x.0)
          (before, no-reopens h.node x.2, no-closes h.node x.3, (mixes-here h.node span x.1, (λ t low r. x.4 t low (mixes-there h.node t r))))
