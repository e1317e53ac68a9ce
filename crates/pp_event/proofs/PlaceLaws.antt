-- The places of a run's items and open spans grow, and lie within the string.
use Rattle.std.proofs.Common.{subst, ◌≡◌, ℕ, zero, suc, ◌+◌, ◌-◌, ◌≤◌, ◌<◌, List, [], ◌∷◌, ◌++◌, Option, Some, None, Bool, true, false, cond, refl, sym, ◌∙◌, ap, arith, length, drop, set, leb}
use Rattle.std.proofs.lemmas.List.{length-drop}
use Rattle.std.proofs.lemmas.Bool.{leb-true, leb-false}
use Rattle.std.specs.Prelude.{slice_index, unwrap_or}
use Rattle.pp_event.specs.declared.item.Item.{Item}
use Rattle.pp_event.specs.declared.item.Item.TheVariants.{Call, Pause}
use Rattle.pp_event.specs.Chain.{Move, On, Over, then, run_for, Ends}
use Rattle.pp_event.specs.Run.{Config, Turn, Goes, Asks, Rests, Stops, Fails, Machine, Oracle, Stage, RunResult, Finish, Waiting, Paused, Failed, move, move_by, pass, start, RunEnds}
use Rattle.pp_event.specs.Steady.{Keeps, IsSteady, Placed, IsPlaced}
use Rattle.pp_event.specs.Turns.{slot, Effect, AsksHost, Answers, Sets, effect_turn, consume_turn, consumed, drained, open_turn, close_turn, to}
use Rattle.pp_event.specs.Places.{place_of, start_of, Ordered, SpansBehind, OrderlyTurn, IsOrderly, LiesIn}

-- items in a row
pub Ordered-more : (a b d : ℕ) (xs ys : List Item) → Ordered a xs b → Ordered b ys d → Ordered a (xs ++ ys) d
Ordered-more a b d [] [] h k = (let p : a ≤ b = h in let q : b ≤ d = k in omega arith)
Ordered-more a b d [] (y ∷ ys) h k = (let p : a ≤ b = h in let q : b ≤ place_of y = k.0 in omega arith, k.1, k.2)
Ordered-more a b d (x ∷ xs) ys h k = (h.0, h.1, Ordered-more (place_of x) b d xs ys h.2 k)

-- one item more, told here
Ordered-one : (a at : ℕ) (xs : List Item) (i : Item) → place_of i ≡ at → start_of i ≤ at → Ordered a xs at → Ordered a (xs ++ i ∷ []) at
Ordered-one a at xs i e s h =
    Ordered-more a at at xs (i ∷ []) h (omega (arith, e), subst (λ (n : ℕ). start_of i ≤ n) (sym e) s, omega (arith, e))

-- up to a later place
pub Ordered-later : (a b d : ℕ) (xs : List Item) → Ordered a xs b → b ≤ d → Ordered a xs d
Ordered-later a b d [] h k = (let p : a ≤ b = h in omega arith)
Ordered-later a b d (x ∷ xs) h k = (h.0, h.1, Ordered-later (place_of x) b d xs h.2 k)

-- what a move leads to lies so as well
abbrev pub LiesThen : ℕ → ℕ → Move Stage RunResult → Type 0
LiesThen from to (On s) = LiesIn from to s
LiesThen from to (Over r) = LiesIn from to r.last

module _ (from to : ℕ) where
  lies_pass : (s : Stage) (code : ℕ) (d : Config) (n : ℕ) → LiesIn from to s → d.at ≡ s.config.at → SpansBehind d → LiesThen from to (pass s code d n)
  lies_pass s code d zero h e b = record {
    items = Ordered-one from s.config.at s.items (Pause code s.config.at) refl (omega arith) h.items;
    spans = h.spans;
    place = h.place;
  }
  lies_pass s code d (suc n) h e b = record {
    items = subst (Ordered from (s.items ++ Pause code s.config.at ∷ [])) (sym e) (Ordered-one from s.config.at s.items (Pause code s.config.at) refl (omega arith) h.items);
    spans = b;
    place = ap (λ (k : ℕ). k + length s.rest) e ∙ h.place;
  }

  lies_by : (oracle : Oracle) (s : Stage) (t u : Turn) → LiesIn from to s → Keeps (length s.rest) t u → Placed s.config (length s.rest) t → OrderlyTurn s.config t → LiesThen from to (move_by oracle s t)
  lies_by oracle s (Goes d k items) u h kept p o = record {
    items = Ordered-more from s.config.at d.at s.items items h.items o.1;
    spans = o.0;
    place = (let l : length (drop k s.rest) ≡ length s.rest - k = length-drop k s.rest in omega (arith, l, kept.0, h.place, p));
  }
  lies_by oracle s (Asks code value next) u h kept p o =
      let answer : ℕ = oracle s.items code in
      let x : Item = Call code value s.config.at s.config.values answer in
      record {
        items = subst (Ordered from (s.items ++ x ∷ [])) (sym (p answer)) (Ordered-one from s.config.at s.items x refl (omega arith) h.items);
        spans = o answer;
        place = ap (λ (k : ℕ). k + length s.rest) (p answer) ∙ h.place;
      }
  lies_by oracle s (Rests d) u h kept p o = record {
    items = Ordered-later from s.config.at d.at s.items h.items (omega (arith, p));
    spans = o;
    place = omega (arith, p, h.place);
  }
  lies_by oracle s (Stops code d) u h kept p o = lies_pass s code d s.resumes h p o
  lies_by oracle s (Fails code) u h kept p o = h

module _ (turn : Machine) (steady : IsSteady turn) (placed : IsPlaced turn) (orderly : IsOrderly turn) (oracle : Oracle) where
  lies_then : (from to : ℕ) (f : Stage → Option RunResult) (r : RunResult) → ((s : Stage) → LiesIn from to s → f s ≡ Some r → LiesIn from to r.last) →
      (m : Move Stage RunResult) → LiesThen from to m → then f m ≡ Some r → LiesIn from to r.last
  lies_then from to f r go (On s) h p = go s h p
  lies_then from to f r go (Over q) h p = (let e : q ≡ r = cc in subst (λ (x : RunResult). LiesIn from to x.last) e h)

  -- a run that lies so at some moment lies so at its end
  pub lies_for : (from to n : ℕ) (s : Stage) (r : RunResult) → LiesIn from to s → run_for (move turn oracle) n s ≡ Some r → LiesIn from to r.last
  lies_for from to zero s r h p = cc
  lies_for from to (suc n) s r h p =
      lies_then from to (run_for (move turn oracle) n) r (λ d k q. lies_for from to n d r k q) (move turn oracle s)
      (lies_by from to oracle s (turn s.config s.rest) (turn s.config (s.rest ++ [])) h (steady s.config s.rest []) (placed s.config s.rest) (orderly s.config s.rest h.spans)) p

  -- a run from its beginning lies within its string
  pub lies : (c : Config) (bytes : List ℕ) (resumes : ℕ) (r : RunResult) → SpansBehind c → RunEnds turn oracle c bytes resumes r → LiesIn c.at (c.at + length bytes) r.last
  lies c bytes resumes r b h =
      lies_for c.at (c.at + length bytes) h.0 (start c bytes resumes) r (record { items = omega arith; spans = b; place = refl }) h.1

-- what waits has no byte left
abbrev NoneLeft : Finish → List ℕ → Type 0
NoneLeft Waiting rest = rest ≡ []
NoneLeft (Paused code) rest = Unit {0}
NoneLeft (Failed code) rest = Unit {0}

abbrev NoneLeftThen : Move Stage RunResult → Type 0
NoneLeftThen (On s) = Unit {0}
NoneLeftThen (Over r) = NoneLeft r.finish r.last.rest

module _ (turn : Machine) (oracle : Oracle) where
  left_pass : (s : Stage) (code : ℕ) (d : Config) (n : ℕ) → NoneLeftThen (pass s code d n)
  left_pass s code d zero = tt
  left_pass s code d (suc n) = tt

  left_by : (s : Stage) (t : Turn) → NoneLeftThen (move_by oracle s t)
  left_by s (Goes d k items) = tt
  left_by s (Asks code value next) = tt
  left_by s (Rests d) = refl
  left_by s (Stops code d) = left_pass s code d s.resumes
  left_by s (Fails code) = tt

  left_then : (f : Stage → Option RunResult) (r : RunResult) → ((s : Stage) → f s ≡ Some r → NoneLeft r.finish r.last.rest) →
      (m : Move Stage RunResult) → NoneLeftThen m → then f m ≡ Some r → NoneLeft r.finish r.last.rest
  left_then f r go (On s) h p = go s p
  left_then f r go (Over q) h p = (let e : q ≡ r = cc in subst (λ (x : RunResult). NoneLeft x.finish x.last.rest) e h)

  left_for : (n : ℕ) (s : Stage) (r : RunResult) → run_for (move turn oracle) n s ≡ Some r → NoneLeft r.finish r.last.rest
  left_for zero s r p = cc
  left_for (suc n) s r p = left_then (run_for (move turn oracle) n) r (λ d q. left_for n d r q) (move turn oracle s) (left_by s (turn s.config s.rest)) p

  -- a run that waits has taken all its bytes
  pub waits_at_end : (s : Stage) (r : RunResult) → Ends (move turn oracle) s r → r.finish ≡ Waiting → r.last.rest ≡ []
  waits_at_end s r h e = subst (λ (f : Finish). NoneLeft f r.last.rest) e (left_for h.0 s r h.1)

-- the same open spans, no earlier
behind-later : (c d : Config) → d.spans ≡ c.spans → c.at ≤ d.at → SpansBehind c → SpansBehind d
behind-later c d e l h span from o = (let p : from ≤ c.at = h span from (ap (λ (s : List (Option ℕ)). slot s span) (sym e) ∙ o) in omega arith)

-- going to a node is orderly
pub to-orderly : (c : Config) (node taken number : ℕ) → SpansBehind c → OrderlyTurn c (to c node taken number)
to-orderly c node taken number h =
    (behind-later c (record { node = node; at = c.at + taken; carried = number; values = c.values; spans = c.spans }) refl (omega arith) h, omega arith)

-- an effect is orderly
pub effect-orderly : (c : Config) (edge : ℕ → ℕ) (f : Effect) → SpansBehind c → OrderlyTurn c (effect_turn c edge f)
effect-orderly c edge (AsksHost host) h = λ answer. h
effect-orderly c edge (Answers answer) h = (h, omega arith)
effect-orderly c edge (Sets prop value) h = (h, omega arith)

-- either side of a choice
pub orderly-if : (c : Config) (b : Bool) (t u : Turn) → OrderlyTurn c t → OrderlyTurn c u → OrderlyTurn c (cond b t u)
orderly-if c true t u h k = h
orderly-if c false t u h k = k

-- a consume is orderly
pub consume-orderly : (c : Config) (rest : List ℕ) (p next : ℕ) → SpansBehind c → OrderlyTurn c (consume_turn c rest p next)
consume-orderly c rest p next h =
    orderly-if c (leb (slice_index c.values p) (length rest)) (Goes (consumed c p next (slice_index c.values p)) (slice_index c.values p) [])
    (Rests (drained c p (slice_index c.values p) (length rest)))
    (behind-later c (consumed c p next (slice_index c.values p)) refl (omega arith) h, omega arith)
    (behind-later c (drained c p (slice_index c.values p) (length rest)) refl (omega arith) h)

-- a slot that was written, at its place or at another one
slot-set : (xs : List (Option ℕ)) (s : ℕ) (v : Option ℕ) (t from : ℕ) → slot (set xs s v) t ≡ Some from → (v ≡ Some from → ⊥) → slot xs t ≡ Some from
slot-set [] s v t from h n = h
slot-set (x ∷ xs) zero v zero from h n = absurd (n h)
slot-set (x ∷ xs) zero v (suc t) from h n = h
slot-set (x ∷ xs) (suc s) v zero from h n = h
slot-set (x ∷ xs) (suc s) v (suc t) from h n = slot-set xs s v t from h n

-- an open is orderly
pub open-orderly : (c : Config) (s next : ℕ) → SpansBehind c → OrderlyTurn c (open_turn c s next)
open-orderly c s next h = ((λ span from o. go span from o (leb from c.at) refl), omega arith)
  where
    go : (span from : ℕ) → slot (set c.spans s (Some c.at)) span ≡ Some from → (b : Bool) → leb from c.at ≡ b → from ≤ c.at
    go span from o true e = leb-true from c.at e
    go span from o false e =
        let above : c.at < from = leb-false from c.at e in
        h span from (slot-set c.spans s (Some c.at) span from o (λ q. (let same : c.at ≡ from = cc in absurd (omega (arith, same, above)))))

close-from : (c : Config) (o : Option ℕ) → ((from : ℕ) → o ≡ Some from → from ≤ c.at) → unwrap_or o c.at ≤ c.at
close-from c None h = omega arith
close-from c (Some from) h = h from refl

-- a close is orderly
pub close-orderly : (c : Config) (s next : ℕ) → SpansBehind c → OrderlyTurn c (close_turn c s next)
close-orderly c s next h = (
  (λ span from o. h span from (slot-set c.spans s None span from o (λ q. absurd cc))),
  (omega arith, close-from c (slot c.spans s) (λ from e. h s from e), omega arith),
)
