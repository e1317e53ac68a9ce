-- A run that passes no pause tells a pause only where it ends.
use Rattle.std.proofs.Common.{◌≡◌, ℕ, zero, suc, List, [], ◌∷◌, ◌++◌, Option, Some, Bool, true, false, cond, refl, sym, ◌∙◌, ap, subst}
use Rattle.pp_event.specs.declared.item.Item.{Item}
use Rattle.pp_event.specs.declared.item.Item.TheVariants as item
use Rattle.pp_event.specs.Chain.{Move, On, Over, then, run_for}
use Rattle.pp_event.specs.Run.{Config, Turn, Goes, Asks, Rests, Stops, Fails, Machine, Oracle, Stage, RunResult, move, move_by, pass}
use Rattle.pp_event.specs.Joined.{besides_pauses}
use Rattle.pp_event.specs.Quiet.{IsQuiet, QuietTurn, QuietEnd}
use Rattle.pp_event.proofs.JoinLaws.{besides-more}

-- either side of a choice
pub quiet-if : (b : Bool) (t u : Turn) → QuietTurn t → QuietTurn u → QuietTurn (cond b t u)
quiet-if true t u h k = h
quiet-if false t u h k = k

-- what a move of a quiet run leads to is quiet
abbrev QuietOver : Move Stage RunResult → Type 0
QuietOver (On s) = (s.resumes ≡ 0) × IsQuiet s.items
QuietOver (Over r) = QuietEnd r.finish r.last.config.at r.last.items

quiet-more : (xs ys : List Item) → IsQuiet xs → IsQuiet ys → IsQuiet (xs ++ ys)
quiet-more xs ys h k = besides-more xs ys ∙ ap (λ (l : List Item). l ++ besides_pauses ys) h ∙ ap (λ (l : List Item). xs ++ l) k

module _ (turn : Machine) (quiet : (c : Config) (bytes : List ℕ) → QuietTurn (turn c bytes)) (oracle : Oracle) where
  quiet_move : (s : Stage) (t : Turn) → QuietTurn t → s.resumes ≡ 0 → IsQuiet s.items → QuietOver (move_by oracle s t)
  quiet_move s (Goes d k items) q r h = (r, quiet-more s.items items h q)
  quiet_move s (Asks code value next) q r h =
      (r, quiet-more s.items (item.Call code value s.config.at s.config.values (oracle s.items code) ∷ []) h refl)
  quiet_move s (Rests d) q r h = h
  quiet_move s (Stops code d) q r h =
      subst (λ (n : ℕ). QuietOver (pass s code d n)) (sym r) (s.items, h, refl)
  quiet_move s (Fails code) q r h = h

  quiet_then : (f : Stage → Option RunResult) (r : RunResult) → ((s : Stage) → f s ≡ Some r → s.resumes ≡ 0 → IsQuiet s.items → QuietEnd r.finish r.last.config.at r.last.items) →
      (m : Move Stage RunResult) → QuietOver m → then f m ≡ Some r → QuietEnd r.finish r.last.config.at r.last.items
  quiet_then f r go (On s) q e = go s e q.0 q.1
  quiet_then f r go (Over x) q e = (let same : x ≡ r = cc in subst (λ (y : RunResult). QuietEnd y.finish y.last.config.at y.last.items) same q)

  pub quiet_for : (n : ℕ) (s : Stage) (r : RunResult) → run_for (move turn oracle) n s ≡ Some r → s.resumes ≡ 0 → IsQuiet s.items → QuietEnd r.finish r.last.config.at r.last.items
  quiet_for zero s r e q h = cc
  quiet_for (suc n) s r e q h =
      quiet_then (run_for (move turn oracle) n) r (λ d k x y. quiet_for n d r k x y) (move turn oracle s)
      (quiet_move s (turn s.config s.rest) (quiet s.config s.rest) q h) e
