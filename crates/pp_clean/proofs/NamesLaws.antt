-- Leaving out names keeps the meaning.
use Rattle.std.proofs.Common.{◌≡◌, ℕ, zero, suc, ◌+◌, ◌<◌, List, [], ◌∷◌, Some, Bool, true, refl, sym, ◌∙◌, ap, arith, length, add-zero}
use Rattle.std.specs.Prelude.{slice_get, ◌==◌}
use Rattle.std.specs.List.{list_any}
use Rattle.std.proofs.lemmas.Bool.{or_left, or_right, eq-eqb}
use Rattle.pp_program.specs.declared.program.State.{State}
use Rattle.pp_program.specs.declared.program.Program.{Program}
use Rattle.pp_clean.specs.Keeps.{Keeps}
use Rattle.pp_clean.specs.Reach.{rank}
use Rattle.pp_clean.specs.Names.{used_from, used, moved_origin, renamed}
use Rattle.pp_clean.proofs.ReachLaws.{picked_at}
use Rattle.pp_clean.proofs.SameLaws.{mapped_keeps}

-- a test that holds somewhere
pub any_at : {X : Type 0} (test : X → Bool) (xs : List X) (n : ℕ) (x : X) → slice_get xs n ≡ Some x → test x ≡ true → list_any test xs ≡ true
any_at test [] n x e h = cc
any_at test (y ∷ xs) zero x e h = let same : y ≡ x = cc in or_left (test y) (list_any test xs) (ap test same ∙ h)
any_at test (y ∷ xs) (suc n) x e h = or_right (test y) (list_any test xs) (any_at test xs n x e h)

pub used_at : (states : List State) (k : ℕ) (names : List (List ℕ)) (i : ℕ) → i < length names →
    slice_get (used_from states k names) i ≡ Some (list_any (λ (s : State). s.origin == k + i) states)
used_at states k [] i h = absurd (omega arith)
used_at states k (name ∷ names) zero h = ap (λ (n : ℕ). Some (list_any (λ (s : State). s.origin == n) states)) (sym (add-zero k))
used_at states k (name ∷ names) (suc i) h =
    let place : suc k + i ≡ k + suc i = omega arith in
    used_at states (suc k) names i (omega arith) ∙ ap (λ (n : ℕ). Some (list_any (λ (s : State). s.origin == n) states)) place

-- the origin of each state is used
pub origin_used : (p : Program) (n : ℕ) (s : State) → slice_get p.states n ≡ Some s → s.origin < length p.names → slice_get (used p) s.origin ≡ Some true
origin_used p n s e h =
    let same : s.origin ≡ 0 + s.origin = omega arith in
    used_at p.states 0 p.names s.origin h ∙ ap Some (any_at (λ (x : State). x.origin == 0 + s.origin) p.states n s e (eq-eqb s.origin (0 + s.origin) same))

-- leaving out the names that no state has as its origin keeps the meaning
pub renamed_keeps : (p : Program) → ((n : ℕ) (s : State) → slice_get p.states n ≡ Some s → s.origin < length p.names) → Keeps p (renamed p)
renamed_keeps p origins = record {
  props = refl;
  hosts = refl;
  spans = refl;
  finish = refl;
  runs = mapped_keeps p (renamed p) (moved_origin (rank (used p))) refl
      (λ n s e. record { turns = λ c bytes. refl; name = picked_at (used p) p.names s.origin (origin_used p n s e (origins n s e)); reason = refl }) refl refl;
}
