-- What is told by rows when rows are added.
use Rattle.std.proofs.Common.{subst, ap, ◌≡◌, ◌↔◌, ℕ, ◌+◌, ◌≤◌, ◌<◌, ◌⊎◌, List, [], ◌∷◌, ◌++◌, Bool, true, false, refl, sym, ◌∙◌, arith, length, take, get_or, inl, inr}
use Rattle.std.specs.Prelude.{slice_index, slice_index_or, IsTrue, not}
use Rattle.std.specs.FinSet.{FinSet, contains}
use Rattle.std.specs.Ordering.{nat_cmp}
use Rattle.std.proofs.lemmas.Bool.{cases_lt, false≢true}
use Rattle.std.proofs.lemmas.List.{get_or_default}
use Rattle.pp_bytes.specs.declared.fold.Fold.{Fold}
use Rattle.pp_bytes.specs.Fold.{folded}
use Rattle.pp_flow.specs.declared.moves.Move.{Move}
use Rattle.pp_graph.specs.declared.node.Answer.{Answer}
use Rattle.pp_graph.specs.declared.node.Key.{Key}
use Rattle.pp_graph.specs.declared.node.Peek.{Peek}
use Rattle.pp_graph.specs.declared.node.Other.{Other}
use Rattle.pp_check.specs.steps.Ends.{SetEnds, KeyEnds, PeekEnds, AnswerEnds, IsLive, KeyBegins, PeekAt, IsOtherByte, OtherEnds, StopsBehind}
use Rattle.pp_flow.specs.Rows.{Way, free, onward, edge, Ends, OrEnds, NoEnds, FreeEnds, BothEnds, RowEnds, Adds}
use Rattle.pp_flow.proofs.ListLemmas.{any-more, any-none}
use Rattle.pp_flow.proofs.RowLemmas.{adds-push, adds-none, adds-then, adds-same}
use Rattle.pp_flow.proofs.RowLemmas as rows

-- a row on every byte, one after which the place is kept, and one after which it may be either
pub free-row : (node target : ℕ) (a b : List Move) → b ≡ a ++ record { from = node; to = target; lo = 0; hi = 255; free = true; onward = false } ∷ [] → Adds node a b (FreeEnds target)
free-row node target a b e =
    subst (λ (rows : List Move). Adds node a rows (FreeEnds target)) (sym e) (adds-same node a _ (RowEnds m) (FreeEnds target) (rows.free-row node target) (adds-push a m))
  where
    m : Move
    m = record { from = node; to = target; lo = 0; hi = 255; free = true; onward = false }

pub both-row : (node target : ℕ) (a b : List Move) → b ≡ a ++ record { from = node; to = target; lo = 0; hi = 255; free = true; onward = true } ∷ [] → Adds node a b (BothEnds target)
both-row node target a b e =
    subst (λ (rows : List Move). Adds node a rows (BothEnds target)) (sym e) (adds-same node a _ (RowEnds m) (BothEnds target) (rows.both-row node target) (adds-push a m))
  where
    m : Move
    m = record { from = node; to = target; lo = 0; hi = 255; free = true; onward = true }

-- the otherwise of an invoke, with no answer yet
pub answers-none : (node other : ℕ) (a b : List Move) → Adds node a b (FreeEnds other) → Adds node a b (AnswerEnds [] other)
answers-none node other a b = adds-same node a b (FreeEnds other) (AnswerEnds [] other) same
  where
    same : (way : Way) (x next : ℕ) → x < 256 → FreeEnds other way x next ↔ AnswerEnds [] other way x next
    same free x next low = ((λ h. inl h), (λ h. elim h [ inl p ↦ p | inr p ↦ absurd (any-none _ p) ]))
    same onward x next low = ((λ h. h), (λ h. h))
    same edge x next low = ((λ h. inl h), (λ h. elim h [ inl p ↦ p | inr p ↦ absurd (any-none _ p) ]))

or-more : {A B C D : Type 0} → (D ↔ (B ⊎ C)) → ((A ⊎ B) ⊎ C) ↔ (A ⊎ D)
or-more e = (
  (λ h. elim h [ inl p ↦ elim p [ inl q ↦ inl q | inr q ↦ inr (e.1 (inl q)) ] | inr p ↦ inr (e.1 (inr p)) ]),
  (λ h. elim h [ inl p ↦ inl (inl p) | inr p ↦ elim (e.0 p) [ inl q ↦ inl (inr q) | inr q ↦ inr q ] ]),
)

either-absurd : (⊥ ⊎ ⊥) ↔ ⊥
either-absurd = ((λ q. elim q [ inl p ↦ p | inr p ↦ p ]), (λ q. absurd q))

-- one answer more
pub answers-more : (node other : ℕ) (a b c : List Move) (answers : List Answer) (i : ℕ) (d : Answer) → i < length answers → Adds node a b (AnswerEnds (take i answers) other) →
    Adds node b c (FreeEnds (slice_index_or answers i d).target) → Adds node a c (AnswerEnds (take (i + 1) answers) other)
answers-more node other a b c answers i d low f g = adds-same node a c (OrEnds (AnswerEnds (take i answers) other) (FreeEnds e.target)) (AnswerEnds (take (i + 1) answers) other) same (adds-then node a b c _ _ f g)
  where
    e : Answer
    e = slice_index_or answers i d

    at : e ≡ get_or answers i e
    at = get_or_default answers i d e low

    same : (way : Way) (x next : ℕ) → x < 256 → OrEnds (AnswerEnds (take i answers) other) (FreeEnds e.target) way x next ↔ AnswerEnds (take (i + 1) answers) other way x next
    same free x next h = or-more (any-more (λ (y : Answer). y.target ≡ next) answers i e low at)
    same onward x next h = either-absurd
    same edge x next h = or-more (any-more (λ (y : Answer). y.target ≡ next) answers i e low at)

-- no key, no peek
pub keys-none : (node : ℕ) (fold : Fold) (keys : List Key) (rows : List Move) → Adds node rows rows (KeyEnds fold keys [])
keys-none node fold keys rows = adds-same node rows rows NoEnds (KeyEnds fold keys []) same (adds-none node rows)
  where
    same : (way : Way) (x next : ℕ) → x < 256 → NoEnds way x next ↔ KeyEnds fold keys [] way x next
    same free x next low = ((λ h. h), (λ h. h))
    same onward x next low = ((λ h. absurd h), (λ h. any-none _ h))
    same edge x next low = ((λ h. absurd h), (λ h. any-none _ h))

pub peeks-none : (node : ℕ) (fold : Fold) (rows : List Move) → Adds node rows rows (PeekEnds fold [])
peeks-none node fold rows = adds-same node rows rows NoEnds (PeekEnds fold []) same (adds-none node rows)
  where
    same : (way : Way) (x next : ℕ) → x < 256 → NoEnds way x next ↔ PeekEnds fold [] way x next
    same free x next low = ((λ h. absurd h), (λ h. any-none _ h))
    same onward x next low = ((λ h. h), (λ h. h))
    same edge x next low = ((λ h. absurd h), (λ h. any-none _ h))

more-by : {B C D E : Type 0} → (D ↔ (B ⊎ C)) → (E ↔ C) → (B ⊎ E) ↔ D
more-by e f = (
  (λ h. elim h [ inl p ↦ e.1 (inl p) | inr p ↦ e.1 (inr (f.0 p)) ]),
  (λ h. elim (e.0 h) [ inl p ↦ inl p | inr p ↦ inr (f.1 p) ]),
)

-- one key more
pub keys-more : (node : ℕ) (fold : Fold) (all : List Key) (a b c : List Move) (keys : List Key) (i : ℕ) (k : Key) (begun : FinSet nat_cmp) (first : ℕ) (live : Bool) → i < length keys →
    k ≡ get_or keys i k → first ≡ slice_index k.bytes 0 → ((x : ℕ) → x < 256 → (contains begun x ≡ true) ↔ (first ≡ folded fold x)) → (IsTrue live ↔ IsLive fold all k.bytes) →
    Adds node a b (KeyEnds fold all (take i keys)) → Adds node b c (SetEnds begun k.target false live) → Adds node a c (KeyEnds fold all (take (i + 1) keys))
keys-more node fold all a b c keys i k begun first live low at is begins lives f g =
    adds-same node a c (OrEnds (KeyEnds fold all (take i keys)) (SetEnds begun k.target false live)) (KeyEnds fold all (take (i + 1) keys)) same (adds-then node a b c _ _ f g)
  where
    same : (way : Way) (x next : ℕ) → x < 256 → OrEnds (KeyEnds fold all (take i keys)) (SetEnds begun k.target false live) way x next ↔ KeyEnds fold all (take (i + 1) keys) way x next
    same free x next h = ((λ q. elim q [ inl p ↦ p | inr p ↦ false≢true p.1 ]), (λ q. absurd q))
    same onward x next h =
        more-by (any-more (λ (y : Key). (slice_index y.bytes 0 ≡ folded fold x) × IsLive fold all y.bytes × (y.target ≡ next)) keys i k low at)
        ((λ q. (sym is ∙ (begins x h).0 q.2, lives.0 q.1, q.0)), (λ q. (q.2, lives.1 q.1, (begins x h).1 (is ∙ q.0))))
    same edge x next h = (let more = any-more (λ (y : Key). y.target ≡ next) keys i k low at in (more.1, more.0))

-- one peek more
pub peeks-more : (node : ℕ) (fold : Fold) (a b c : List Move) (peeks : List Peek) (i : ℕ) (d : Peek) (begun : FinSet nat_cmp) → i < length peeks →
    ((x : ℕ) → x < 256 → (contains begun x ≡ true) ↔ ((slice_index_or peeks i d).byte ≡ folded fold x)) →
    Adds node a b (PeekEnds fold (take i peeks)) → Adds node b c (SetEnds begun (slice_index_or peeks i d).target true false) → Adds node a c (PeekEnds fold (take (i + 1) peeks))
peeks-more node fold a b c peeks i d begun low begins f g =
    adds-same node a c (OrEnds (PeekEnds fold (take i peeks)) (SetEnds begun e.target true false)) (PeekEnds fold (take (i + 1) peeks)) same (adds-then node a b c _ _ f g)
  where
    e : Peek
    e = slice_index_or peeks i d

    at : e ≡ get_or peeks i e
    at = get_or_default peeks i d e low

    same : (way : Way) (x next : ℕ) → x < 256 → OrEnds (PeekEnds fold (take i peeks)) (SetEnds begun e.target true false) way x next ↔ PeekEnds fold (take (i + 1) peeks) way x next
    same free x next h =
        more-by (any-more (λ (p : Peek). (p.byte ≡ folded fold x) × (p.target ≡ next)) peeks i e low at)
        ((λ q. ((begins x h).0 q.2, q.0)), (λ q. (q.1, refl, (begins x h).1 q.0)))
    same onward x next h = ((λ q. elim q [ inl p ↦ p | inr p ↦ false≢true p.1 ]), (λ q. absurd q))
    same edge x next h = (let more = any-more (λ (p : Peek). p.target ≡ next) peeks i e low at in (more.1, more.0))

-- those of a set that are below a number
abbrev pub SetBelow : FinSet nat_cmp → ℕ → Bool → Bool → ℕ → Ends
SetBelow bytes to keeps takes n free b next = (to ≡ next) × IsTrue keeps × (b < n) × IsTrue (contains bytes b)
SetBelow bytes to keeps takes n onward b next = (to ≡ next) × IsTrue takes × (b < n) × IsTrue (contains bytes b)
SetBelow bytes to keeps takes n edge b next = to ≡ next

module _ (bytes : FinSet nat_cmp) (node to : ℕ) (keeps takes : Bool) where
  -- the row on no byte
  pub set-none : (a b : List Move) → b ≡ a ++ record { from = node; to = to; lo = 1; hi = 0; free = keeps; onward = takes } ∷ [] → Adds node a b (SetBelow bytes to keeps takes 0)
  set-none a b e = subst (λ (rows : List Move). Adds node a rows (SetBelow bytes to keeps takes 0)) (sym e) (adds-same node a _ (RowEnds m) (SetBelow bytes to keeps takes 0) same (adds-push a m))
    where
      m : Move
      m = record { from = node; to = to; lo = 1; hi = 0; free = keeps; onward = takes }

      same : (way : Way) (x next : ℕ) → x < 256 → RowEnds m way x next ↔ SetBelow bytes to keeps takes 0 way x next
      same free x next low = ((λ h. absurd (omega (arith, h.1.1, h.1.2))), (λ h. absurd (omega (arith, h.2))))
      same onward x next low = ((λ h. absurd (omega (arith, h.1.1, h.1.2))), (λ h. absurd (omega (arith, h.2))))
      same edge x next low = ((λ h. h.0), (λ h. (h, tt)))

  -- a row on a range of the set
  pub set-more : (a b c : List Move) (lo hi n : ℕ) → lo ≤ hi → n ≡ hi + 1 → ((x : ℕ) → lo ≤ x → x ≤ hi → contains bytes x ≡ true) →
      Adds node a b (SetBelow bytes to keeps takes lo) → c ≡ b ++ record { from = node; to = to; lo = lo; hi = hi; free = keeps; onward = takes } ∷ [] →
      Adds node a c (SetBelow bytes to keeps takes n)
  set-more a b c lo hi n le is inside f e =
      subst (λ (rows : List Move). Adds node a rows (SetBelow bytes to keeps takes n)) (sym e)
      (adds-same node a _ (OrEnds (SetBelow bytes to keeps takes lo) (RowEnds m)) (SetBelow bytes to keeps takes n) same (adds-then node a b _ _ _ f (adds-push b m)))
    where
      m : Move
      m = record { from = node; to = to; lo = lo; hi = hi; free = keeps; onward = takes }

      part : (flag : Bool) (x next : ℕ) →
          (((to ≡ next) × IsTrue flag × (x < lo) × IsTrue (contains bytes x)) ⊎ ((to ≡ next) × (IsTrue flag × (lo ≤ x) × (x ≤ hi)))) ↔ ((to ≡ next) × IsTrue flag × (x < n) × IsTrue (contains bytes x))
      part flag x next = (
        (λ h. elim h [
          | inl old ↦ (old.0, old.1, omega (arith, old.2, le, is), old.3)
          | inr new ↦ (new.0, new.1.0, omega (arith, new.1.2, is), inside x new.1.1 new.1.2)
        ]),
        (λ h. elim (cases_lt x lo) [
          | inl less ↦ inl (h.0, h.1, less, h.3)
          | inr more ↦ inr (h.0, (h.1, more, omega (arith, h.2, is)))
        ]),
      )

      same : (way : Way) (x next : ℕ) → x < 256 → OrEnds (SetBelow bytes to keeps takes lo) (RowEnds m) way x next ↔ SetBelow bytes to keeps takes n way x next
      same free x next low = part keeps x next
      same onward x next low = part takes x next
      same edge x next low = ((λ h. elim h [ inl p ↦ p | inr p ↦ p.0 ]), (λ h. inl h))

  -- no row for a byte that isn't in the set
  pub set-skip : (a b : List Move) (n : ℕ) (t : Bool) → t ≡ contains bytes n → t ≡ false → Adds node a b (SetBelow bytes to keeps takes n) → Adds node a b (SetBelow bytes to keeps takes (n + 1))
  set-skip a b n t is out f = adds-same node a b (SetBelow bytes to keeps takes n) (SetBelow bytes to keeps takes (n + 1)) same f
    where
      less : (x : ℕ) → x < n + 1 → IsTrue (contains bytes x) → x < n
      less x h p = elim (cases_lt x n) [
        | inl q ↦ q
        | inr q ↦ (let here : x ≡ n = omega (arith, h, q) in absurd (false≢true (sym out ∙ (is ∙ subst (λ k. IsTrue (contains bytes k)) here p))))
      ]

      same : (way : Way) (x next : ℕ) → x < 256 → SetBelow bytes to keeps takes n way x next ↔ SetBelow bytes to keeps takes (n + 1) way x next
      same free x next low = ((λ h. (h.0, h.1, omega (arith, h.2), h.3)), (λ h. (h.0, h.1, less x h.2 h.3, h.3)))
      same onward x next low = ((λ h. (h.0, h.1, omega (arith, h.2), h.3)), (λ h. (h.0, h.1, less x h.2 h.3, h.3)))
      same edge x next low = ((λ h. h), (λ h. h))

  -- all of them
  pub set-all : (a b : List Move) (n : ℕ) → 256 ≤ n → Adds node a b (SetBelow bytes to keeps takes n) → Adds node a b (SetEnds bytes to keeps takes)
  set-all a b n end f = adds-same node a b (SetBelow bytes to keeps takes n) (SetEnds bytes to keeps takes) same f
    where
      same : (way : Way) (x next : ℕ) → x < 256 → SetBelow bytes to keeps takes n way x next ↔ SetEnds bytes to keeps takes way x next
      same free x next low = ((λ h. (h.0, h.1, h.3)), (λ h. (h.0, h.1, omega (arith, low, end), h.2)))
      same onward x next low = ((λ h. (h.0, h.1, h.3)), (λ h. (h.0, h.1, omega (arith, low, end), h.2)))
      same edge x next low = ((λ h. h), (λ h. h))

-- a set that holds the bytes with a property tells it of the byte that another is compared as
pub told-in : (s : FinSet nat_cmp) (P : ℕ → Type 0) → ((x : ℕ) → x < 256 → (contains s x ≡ true) ↔ P x) → (c d : ℕ) → c < 256 → c ≡ d → contains s c ≡ true → P d
told-in s P tells c d low same has = subst P same ((tells c low).0 has)

pub told-out : (s : FinSet nat_cmp) (P : ℕ → Type 0) → ((x : ℕ) → x < 256 → (contains s x ≡ true) ↔ P x) → (c d : ℕ) → c < 256 → c ≡ d → contains s c ≡ false → P d → ⊥
told-out s P tells c d low same lacks p = false≢true (sym lacks ∙ (tells c low).1 (subst P (sym same) p))

-- where a byte is in neither of the two sets, it is an otherwise one
pub told-neither : (keys : List Key) (peeks : List Peek) (begun peeked : FinSet nat_cmp) → ((x : ℕ) → x < 256 → (contains begun x ≡ true) ↔ KeyBegins keys x) →
    ((x : ℕ) → x < 256 → (contains peeked x ≡ true) ↔ PeekAt peeks x) → (c d : ℕ) → c < 256 → c ≡ d → ((contains begun c ≡ false) × (contains peeked c ≡ false)) ↔ IsOtherByte keys peeks d
told-neither keys peeks begun peeked begins peeks-tell c d low same = (
  (λ h. (told-out begun (KeyBegins keys) begins c d low same h.0, told-out peeked (PeekAt peeks) peeks-tell c d low same h.1)),
  (λ h. (not-in begun (λ has. h.0 (told-in begun (KeyBegins keys) begins c d low same has)), not-in peeked (λ has. h.1 (told-in peeked (PeekAt peeks) peeks-tell c d low same has)))),
)
  where
    by : (t : Bool) → (t ≡ true → ⊥) → t ≡ false
    by true out = absurd (out refl)
    by false out = refl

    not-in : (s : FinSet nat_cmp) → (contains s c ≡ true → ⊥) → contains s c ≡ false
    not-in s out = by (contains s c) out

-- the otherwise: on the bytes that are otherwise ones, and on those that are taken anyhow
pub other-all : (node : ℕ) (fold : Fold) (keys : List Key) (peeks : List Peek) (other : Other) (a b c : List Move) (others taken : FinSet nat_cmp) (keeps : Bool) → keeps ≡ not other.skip →
    ((x : ℕ) → x < 256 → (contains others x ≡ true) ↔ IsOtherByte keys peeks (folded fold x)) → ((x : ℕ) → x < 256 → (contains taken x ≡ true) ↔ StopsBehind fold keys (folded fold x)) →
    Adds node a b (SetEnds others other.target keeps other.skip) → Adds node b c (SetEnds taken other.target false true) → Adds node a c (OtherEnds fold keys peeks other)
other-all node fold keys peeks other a b c others taken keeps is otherwise stops f g =
    adds-same node a c (OrEnds (SetEnds others other.target keeps other.skip) (SetEnds taken other.target false true)) (OtherEnds fold keys peeks other) same (adds-then node a b c _ _ f g)
  where
    not-true : (t : Bool) → not t ≡ true → t ≡ false
    not-true true e = absurd (false≢true e)
    not-true false e = refl

    same : (way : Way) (x next : ℕ) → x < 256 → OrEnds (SetEnds others other.target keeps other.skip) (SetEnds taken other.target false true) way x next ↔ OtherEnds fold keys peeks other way x next
    same free x next low = (
      (λ h. elim h [ inl p ↦ (p.0, not-true other.skip (sym is ∙ p.1), (otherwise x low).0 p.2) | inr p ↦ absurd (false≢true p.1) ]),
      (λ h. inl (h.0, is ∙ ap not h.1, (otherwise x low).1 h.2)),
    )
    same onward x next low = (
      (λ h. elim h [ inl p ↦ (p.0, inl (p.1, (otherwise x low).0 p.2)) | inr p ↦ (p.0, inr ((stops x low).0 p.2)) ]),
      (λ h. elim h.1 [ inl p ↦ inl (h.0, p.0, (otherwise x low).1 p.1) | inr p ↦ inr (h.0, refl, (stops x low).1 p) ]),
    )
    same edge x next low = ((λ h. elim h [ inl p ↦ p | inr p ↦ p ]), (λ h. inl h))
