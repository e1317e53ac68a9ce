-- What holds of every run over bytes.
use Rattle.std.proofs.Common.{subst, ◌≡◌, ℕ, zero, suc, List, [], ◌∷◌, ◌++◌, Option, Some, refl, sym, ◌∙◌, ap, ◌↔◌, length, drop, append_assoc, append-nil}
use Rattle.std.proofs.lemmas.List.{drop-append-le}
use Rattle.std.proofs.Math.Seq.{drop-append-add}
use Rattle.pp_event.specs.declared.item.Item.{Item}
use Rattle.pp_event.specs.declared.item.Item.TheVariants.{Call, Pause}
use Rattle.pp_event.specs.Chain.{Move, On, Over, then, run_for, Ends}
use Rattle.pp_event.specs.Run.{Config, Turn, Goes, Asks, Rests, Stops, Fails, Machine, Oracle, Stage, RunResult, Finish, Waiting, Paused, Failed, move, move_by, telling, pass, RunEnds}
use Rattle.pp_event.specs.Growth.{Extends, followed, followed_result, IsKept, Onward, allowed, OnceResumed}
use Rattle.pp_event.specs.Steady.{Keeps, IsSteady, GoesOn, IsResumable}
use Rattle.pp_event.proofs.ChainLaws.{Gives, gives, ends_by}

pub Extends-refl : (xs : List Item) → Extends xs xs
Extends-refl xs = ([], sym (append-nil xs))

pub Extends-trans : (xs ys zs : List Item) → Extends xs ys → Extends ys zs → Extends xs zs
Extends-trans xs ys zs p q = (p.0 ++ q.0, q.1 ∙ ap (λ (l : List Item). l ++ q.0) p.1 ∙ append_assoc xs p.0 q.0)

-- the items of a move's outcome
abbrev pub items_of : Move Stage RunResult → List Item
items_of (On s) = s.items
items_of (Over r) = r.last.items

pass-extends : (s : Stage) (code : ℕ) (d : Config) (r : ℕ) → Extends s.items (items_of (pass s code d r))
pass-extends s code d zero = (Pause code s.config.at ∷ [], refl)
pass-extends s code d (suc r) = (Pause code s.config.at ∷ [], refl)

-- a move takes no item back
move_by-extends : (oracle : Oracle) (s : Stage) (t : Turn) → Extends s.items (items_of (move_by oracle s t))
move_by-extends oracle s (Goes d k items) = (items, refl)
move_by-extends oracle s (Asks code value next) = (Call code value s.config.at s.config.values (oracle s.items code) ∷ [], refl)
move_by-extends oracle s (Rests d) = Extends-refl s.items
move_by-extends oracle s (Stops code d) = pass-extends s code d s.resumes
move_by-extends oracle s (Fails code) = Extends-refl s.items

grows_then : (f : Stage → Option RunResult) (r : RunResult) (items : List Item) →
    ((s : Stage) → f s ≡ Some r → Extends s.items r.last.items) →
    (m : Move Stage RunResult) → Extends items (items_of m) → then f m ≡ Some r → Extends items r.last.items
grows_then f r items go (On s) e p = Extends-trans items s.items r.last.items e (go s p)
grows_then f r items go (Over q) e p =
    let same : q ≡ r = cc in
    let same_items : q.last.items ≡ r.last.items = ap (λ (x : RunResult). x.last.items) same in
    (e.0, sym same_items ∙ e.1)

-- a run takes no item back
pub grows : (turn : Machine) (oracle : Oracle) (n : ℕ) (s : Stage) (r : RunResult) →
    run_for (move turn oracle) n s ≡ Some r → Extends s.items r.last.items
grows turn oracle zero s r p = cc
grows turn oracle (suc n) s r p =
    grows_then (run_for (move turn oracle) n) r s.items (λ d. grows turn oracle n d r)
    (move turn oracle s) (move_by-extends oracle s (turn s.config s.rest)) p

-- the move that leads on to a stage
abbrev pub on : Stage → Move Stage RunResult
on s = On s

-- how the move with more bytes to come follows from the move without them
abbrev pub FollowedEnd : Stage → RunResult → Move Stage RunResult → List ℕ → Finish → Type 0
FollowedEnd s r later more Waiting = r.last.items ≡ s.items
FollowedEnd s r later more (Paused code) = later ≡ Over (followed_result r more)
FollowedEnd s r later more (Failed code) = later ≡ Over (followed_result r more)

-- the same of any move
abbrev pub FollowedMove : Stage → Move Stage RunResult → List ℕ → Move Stage RunResult → Type 0
FollowedMove s (On d) more later = later ≡ On (followed d more)
FollowedMove s (Over r) more later = FollowedEnd s r later more r.finish

pass-followed : (s : Stage) (more : List ℕ) (code : ℕ) (d : Config) (r : ℕ) →
    FollowedMove s (pass s code d r) more (pass (followed s more) code d r)
pass-followed s more code d zero = refl
pass-followed s more code d (suc r) = refl

-- a turn that is kept makes the same move
move_by-followed : (oracle : Oracle) (s : Stage) (more : List ℕ) (t u : Turn) → Keeps (length s.rest) t u →
    FollowedMove s (move_by oracle s t) more (move_by oracle (followed s more) u)
move_by-followed oracle s more (Goes d k items) u h =
    ap (move_by oracle (followed s more)) h.1
    ∙ ap (λ (l : List ℕ). on (telling s items d l)) (drop-append-le k s.rest more h.0)
move_by-followed oracle s more (Asks code value next) u h = ap (move_by oracle (followed s more)) h
move_by-followed oracle s more (Rests d) u h = refl
move_by-followed oracle s more (Stops code d) u h =
    subst (FollowedMove s (pass s code d s.resumes) more) (sym (ap (move_by oracle (followed s more)) h)) (pass-followed s more code d s.resumes)
move_by-followed oracle s more (Fails code) u h = ap (move_by oracle (followed s more)) h

module _ (turn : Machine) (oracle : Oracle) (steady : IsSteady turn) where
  pub move-followed : (s : Stage) (more : List ℕ) → FollowedMove s (move turn oracle s) more (move turn oracle (followed s more))
  move-followed s more = move_by-followed oracle s more (turn s.config s.rest) (turn s.config (s.rest ++ more)) (steady s.config s.rest more)

  prefix_end : (s : Stage) (r q : RunResult) (later : Move Stage RunResult) (more : List ℕ) (finish : Finish) →
      FollowedEnd s r later more finish → Ends (move turn oracle) (followed s more) q → Gives (move turn oracle) later q → Extends r.last.items q.last.items
  prefix_end s r q later more Waiting e h g =
      let grown = grows turn oracle h.0 (followed s more) q h.1 in
      (grown.0, grown.1 ∙ ap (λ (l : List Item). l ++ grown.0) (sym e))
  prefix_end s r q later more (Paused code) e h g =
      let same : followed_result r more ≡ q = subst (λ (m : Move Stage RunResult). Gives (move turn oracle) m q) e g in
      ([], sym (ap (λ (x : RunResult). x.last.items) same) ∙ sym (append-nil r.last.items))
  prefix_end s r q later more (Failed code) e h g =
      let same : followed_result r more ≡ q = subst (λ (m : Move Stage RunResult). Gives (move turn oracle) m q) e g in
      ([], sym (ap (λ (x : RunResult). x.last.items) same) ∙ sym (append-nil r.last.items))

  prefix_then : (f : Stage → Option RunResult) (s : Stage) (more : List ℕ) (r q : RunResult) →
      ((d : Stage) → f d ≡ Some r → Ends (move turn oracle) (followed d more) q → Extends r.last.items q.last.items) →
      (m later : Move Stage RunResult) → FollowedMove s m more later → then f m ≡ Some r →
      Ends (move turn oracle) (followed s more) q → Gives (move turn oracle) later q → Extends r.last.items q.last.items
  prefix_then f s more r q go (On d) later e p h g =
      go d p (subst (λ (m : Move Stage RunResult). Gives (move turn oracle) m q) e g)
  prefix_then f s more r q go (Over x) later e p h g =
      let same : x ≡ r = cc in
      subst (λ (y : RunResult). Extends y.last.items q.last.items) same (prefix_end s x q later more x.finish e h g)

  prefix_for : (n : ℕ) (s : Stage) (more : List ℕ) (r q : RunResult) → run_for (move turn oracle) n s ≡ Some r →
      Ends (move turn oracle) (followed s more) q → Extends r.last.items q.last.items
  prefix_for zero s more r q p h = cc
  prefix_for (suc n) s more r q p h =
      prefix_then (run_for (move turn oracle) n) s more r q (λ d. prefix_for n d more r q)
      (move turn oracle s) (move turn oracle (followed s more)) (move-followed s more) p h
      (gives (move turn oracle) (followed s more) q h)

  -- the items of a run are a prefix of those of a run with more bytes behind
  pub prefix : (c : Config) (bytes more : List ℕ) (resumes : ℕ) (r q : RunResult) → RunEnds turn oracle c bytes resumes r →
      RunEnds turn oracle c (bytes ++ more) resumes q → Extends r.last.items q.last.items
  prefix c bytes more resumes r q p h = prefix_for p.0 (record { config = c; rest = bytes; items = []; resumes = resumes }) more r q p.1 h

-- how the move over all the bytes follows where the run without them ended
abbrev pub OnwardEnd : Machine → Oracle → RunResult → List ℕ → Move Stage RunResult → Finish → Type 0
OnwardEnd turn oracle r more later Waiting = later ≡ move turn oracle (followed r.last more)
OnwardEnd turn oracle r more later (Paused code) = later ≡ Over (followed_result r more)
OnwardEnd turn oracle r more later (Failed code) = later ≡ Over (followed_result r more)

-- the same of any move
abbrev pub OnwardMove : Machine → Oracle → Move Stage RunResult → List ℕ → Move Stage RunResult → Type 0
OnwardMove turn oracle (On d) more later = later ≡ On (followed d more)
OnwardMove turn oracle (Over r) more later = OnwardEnd turn oracle r more later r.finish

pass-onward : (turn : Machine) (oracle : Oracle) (s : Stage) (more : List ℕ) (code : ℕ) (d : Config) (r : ℕ) →
    OnwardMove turn oracle (pass s code d r) more (pass (followed s more) code d r)
pass-onward turn oracle s more code d zero = refl
pass-onward turn oracle s more code d (suc r) = refl

-- what waited goes on as it would have gone on with all the bytes
waited : (oracle : Oracle) (s : Stage) (d : Config) (more : List ℕ) (whole t : Turn) → GoesOn (length s.rest) whole t →
    move_by oracle (followed s more) whole ≡ move_by oracle (record s { config = d; rest = more }) t
waited oracle s d more whole (Goes e k items) h =
    ap (move_by oracle (followed s more)) h ∙ ap (λ (l : List ℕ). on (telling s items e l)) (drop-append-add s.rest more k)
waited oracle s d more whole (Rests e) h = ap (move_by oracle (followed s more)) h
waited oracle s d more whole (Asks code value next) h = absurd h
waited oracle s d more whole (Stops code e) h = absurd h
waited oracle s d more whole (Fails code) h = absurd h

module _ (turn : Machine) (oracle : Oracle) (steady : IsSteady turn) (resumable : IsResumable turn) where
  move_by-onward : (s : Stage) (more : List ℕ) (t : Turn) → turn s.config s.rest ≡ t → Keeps (length s.rest) t (turn s.config (s.rest ++ more)) →
      OnwardMove turn oracle (move_by oracle s t) more (move turn oracle (followed s more))
  move_by-onward s more (Goes d k items) e h =
      ap (move_by oracle (followed s more)) h.1 ∙ ap (λ (l : List ℕ). on (telling s items d l)) (drop-append-le k s.rest more h.0)
  move_by-onward s more (Asks code value next) e h = ap (move_by oracle (followed s more)) h
  move_by-onward s more (Rests d) e h =
      waited oracle s d more (turn s.config (s.rest ++ more)) (turn d more) (resumable s.config d s.rest more e)
  move_by-onward s more (Stops code d) e h =
      subst (OnwardMove turn oracle (pass s code d s.resumes) more) (sym (ap (move_by oracle (followed s more)) h)) (pass-onward turn oracle s more code d s.resumes)
  move_by-onward s more (Fails code) e h = ap (move_by oracle (followed s more)) h

  onward_end : (r q : RunResult) (more : List ℕ) (later : Move Stage RunResult) (finish : Finish) →
      OnwardEnd turn oracle r more later finish → Gives (move turn oracle) later q ↔ Onward turn oracle r more q finish
  onward_end r q more later Waiting e =
      let back : later ≡ move turn oracle (followed r.last more) = e in (
        λ g. ends_by (move turn oracle) (followed r.last more) q (subst (λ (m : Move Stage RunResult). Gives (move turn oracle) m q) back g),
        λ h. subst (λ (m : Move Stage RunResult). Gives (move turn oracle) m q) (sym back) (gives (move turn oracle) (followed r.last more) q h),
      )
  onward_end r q more later (Paused code) e =
      (λ g. subst (λ (m : Move Stage RunResult). Gives (move turn oracle) m q) e g, λ h. subst (λ (m : Move Stage RunResult). Gives (move turn oracle) m q) (sym e) h)
  onward_end r q more later (Failed code) e =
      (λ g. subst (λ (m : Move Stage RunResult). Gives (move turn oracle) m q) e g, λ h. subst (λ (m : Move Stage RunResult). Gives (move turn oracle) m q) (sym e) h)

  onward_then : (f : Stage → Option RunResult) (more : List ℕ) (r q : RunResult) →
      ((d : Stage) → f d ≡ Some r → Ends (move turn oracle) (followed d more) q ↔ Onward turn oracle r more q r.finish) →
      (m later : Move Stage RunResult) → OnwardMove turn oracle m more later → then f m ≡ Some r →
      Gives (move turn oracle) later q ↔ Onward turn oracle r more q r.finish
  onward_then f more r q go (On d) later e p =
      subst (λ (m : Move Stage RunResult). Gives (move turn oracle) m q ↔ Onward turn oracle r more q r.finish) (sym e) (go d p)
  onward_then f more r q go (Over x) later e p =
      let same : x ≡ r = cc in
      subst (λ (y : RunResult). Gives (move turn oracle) later q ↔ Onward turn oracle y more q y.finish) same (onward_end x q more later x.finish e)

  onward_for : (n : ℕ) (s : Stage) (more : List ℕ) (r q : RunResult) → run_for (move turn oracle) n s ≡ Some r →
      Ends (move turn oracle) (followed s more) q ↔ Onward turn oracle r more q r.finish
  onward_for zero s more r q p = cc
  onward_for (suc n) s more r q p =
      let step : Gives (move turn oracle) (move turn oracle (followed s more)) q ↔ Onward turn oracle r more q r.finish =
      onward_then (run_for (move turn oracle) n) more r q (λ d. onward_for n d more r q)
      (move turn oracle s) (move turn oracle (followed s more))
      (move_by-onward s more (turn s.config s.rest) refl (steady s.config s.rest more)) p in
      (λ h. step.0 (gives (move turn oracle) (followed s more) q h), λ h. ends_by (move turn oracle) (followed s more) q (step.1 h))

  -- the run on bytes and more is the run on bytes, gone on with from where it ended
  pub onward : (s : Stage) (more : List ℕ) (r q : RunResult) → Ends (move turn oracle) s r →
      Ends (move turn oracle) (followed s more) q ↔ Onward turn oracle r more q r.finish
  onward s more r q h = onward_for h.0 s more r q h.1

-- what a move leads to with one more resume
abbrev pub AllowedMove : Machine → Oracle → Move Stage RunResult → RunResult → RunResult → Type 0
AllowedMove turn oracle later r q = Gives (move turn oracle) later q ↔ OnceResumed turn oracle r q r.finish

module _ (turn : Machine) (oracle : Oracle) where
  pass-allowed : (s : Stage) (code : ℕ) (d : Config) (n : ℕ) → s.resumes ≡ n → turn s.config s.rest ≡ Stops code d → (q : RunResult) →
      (f : Stage → Option RunResult) (r : RunResult) →
      ((e : Stage) → f e ≡ Some r → Ends (move turn oracle) (allowed e) q ↔ OnceResumed turn oracle r q r.finish) →
      then f (pass s code d n) ≡ Some r → Gives (move turn oracle) (pass (allowed s) code d (suc n)) q ↔ OnceResumed turn oracle r q r.finish
  pass-allowed s code d (suc n) e t q f r go p = go (record { config = d; rest = s.rest; items = s.items ++ Pause code s.config.at ∷ []; resumes = n }) p
  pass-allowed s code d zero e t q f r go p =
      let x : RunResult = record { finish = Paused code; last = telling s (Pause code s.config.at ∷ []) s.config s.rest } in
      let same : x ≡ r = cc in
      let items : List Item = s.items ++ Pause code s.config.at ∷ [] in
      let at : Config → ℕ → Stage = λ c n. record { config = c; rest = s.rest; items = items; resumes = n } in
      let pair : Ends (move turn oracle) (at d 0) q ↔ OnceResumed turn oracle x q (Paused code) = (
        (λ h. (d, t, subst (λ (n : ℕ). Ends (move turn oracle) (at d n) q) (sym e) h)),
        (λ a. let next : a.0 ≡ d = cc (a.1, t) in
            subst (λ (n : ℕ). Ends (move turn oracle) (at d n) q) e (subst (λ (c : Config). Ends (move turn oracle) (at c s.resumes) q) next a.2)),
      ) in
      subst (λ (y : RunResult). Ends (move turn oracle) (at d 0) q ↔ OnceResumed turn oracle y q y.finish) same pair

  over-allowed : (x r q : RunResult) (later : RunResult) (finish : Finish) → x ≡ r → ((later ≡ q) ↔ OnceResumed turn oracle x q x.finish) → (later ≡ q) ↔ OnceResumed turn oracle r q r.finish
  over-allowed x r q later finish same h = subst (λ (y : RunResult). (later ≡ q) ↔ OnceResumed turn oracle y q y.finish) same h

  allowed_by : (s : Stage) (t : Turn) → turn s.config s.rest ≡ t → (q : RunResult) (f : Stage → Option RunResult) (r : RunResult) →
      ((e : Stage) → f e ≡ Some r → Ends (move turn oracle) (allowed e) q ↔ OnceResumed turn oracle r q r.finish) →
      then f (move_by oracle s t) ≡ Some r → Gives (move turn oracle) (move_by oracle (allowed s) t) q ↔ OnceResumed turn oracle r q r.finish
  allowed_by s (Goes d k items) e q f r go p = go (telling s items d (drop k s.rest)) p
  allowed_by s (Asks code value next) e q f r go p = go (telling s (Call code value s.config.at s.config.values (oracle s.items code) ∷ []) (next (oracle s.items code)) s.rest) p
  allowed_by s (Rests d) e q f r go p =
      let x : RunResult = record { finish = Waiting; last = record s { config = d; rest = [] } } in
      let same : x ≡ r = cc in
      over-allowed x r q (record x { last = allowed x.last }) Waiting same ((λ h. h), (λ h. h))
  allowed_by s (Stops code d) e q f r go p = pass-allowed s code d s.resumes refl e q f r go p
  allowed_by s (Fails code) e q f r go p =
      let x : RunResult = record { finish = Failed code; last = s } in
      let same : x ≡ r = cc in
      over-allowed x r q (record x { last = allowed x.last }) (Failed code) same ((λ h. h), (λ h. h))

  allowed_for : (n : ℕ) (s : Stage) (r q : RunResult) → run_for (move turn oracle) n s ≡ Some r →
      Ends (move turn oracle) (allowed s) q ↔ OnceResumed turn oracle r q r.finish
  allowed_for zero s r q p = cc
  allowed_for (suc n) s r q p =
      let both : Gives (move turn oracle) (move turn oracle (allowed s)) q ↔ OnceResumed turn oracle r q r.finish =
      allowed_by s (turn s.config s.rest) refl q (run_for (move turn oracle) n) r (λ e. allowed_for n e r q) p in
      ((λ h. both.0 (gives (move turn oracle) (allowed s) q h)), (λ h. ends_by (move turn oracle) (allowed s) q (both.1 h)))

  -- with one more resume the run is the same up to the pause where it ended, and goes on from there
  pub one_more_resume : (s : Stage) (r q : RunResult) → Ends (move turn oracle) s r → Ends (move turn oracle) (allowed s) q ↔ OnceResumed turn oracle r q r.finish
  one_more_resume s r q h = allowed_for h.0 s r q h.1

module _ (turn : Machine) (oracle : Oracle) (steady : IsSteady turn) where
  keeps_end : (s : Stage) (r : RunResult) (more : List ℕ) (later : Move Stage RunResult) (finish : Finish) → move turn oracle (followed s more) ≡ later →
      FollowedEnd s r later more finish → IsKept turn oracle s more r finish
  keeps_end s r more later Waiting m e = tt
  keeps_end s r more later (Paused code) m e = ends_by (move turn oracle) (followed s more) (followed_result r more)
      (subst (λ (x : Move Stage RunResult). Gives (move turn oracle) x (followed_result r more)) (sym (m ∙ e)) refl)
  keeps_end s r more later (Failed code) m e = ends_by (move turn oracle) (followed s more) (followed_result r more)
      (subst (λ (x : Move Stage RunResult). Gives (move turn oracle) x (followed_result r more)) (sym (m ∙ e)) refl)

  keeps_on : (s d : Stage) (r : RunResult) (more : List ℕ) (finish : Finish) → move turn oracle (followed s more) ≡ On (followed d more) →
      IsKept turn oracle d more r finish → IsKept turn oracle s more r finish
  keeps_on s d r more Waiting m h = tt
  keeps_on s d r more (Paused code) m h = ends_by (move turn oracle) (followed s more) (followed_result r more)
      (subst (λ (x : Move Stage RunResult). Gives (move turn oracle) x (followed_result r more)) (sym m) h)
  keeps_on s d r more (Failed code) m h = ends_by (move turn oracle) (followed s more) (followed_result r more)
      (subst (λ (x : Move Stage RunResult). Gives (move turn oracle) x (followed_result r more)) (sym m) h)

  keeps_then : (f : Stage → Option RunResult) (s : Stage) (more : List ℕ) (r : RunResult) →
      ((d : Stage) → f d ≡ Some r → IsKept turn oracle d more r r.finish) →
      (m later : Move Stage RunResult) → move turn oracle (followed s more) ≡ later → FollowedMove s m more later → then f m ≡ Some r →
      IsKept turn oracle s more r r.finish
  keeps_then f s more r go (On d) later m e p = keeps_on s d r more r.finish (m ∙ e) (go d p)
  keeps_then f s more r go (Over x) later m e p =
      let same : x ≡ r = cc in
      subst (λ (y : RunResult). IsKept turn oracle s more y y.finish) same (keeps_end s x more later x.finish m e)

  -- a result that paused or failed is kept with more bytes behind
  pub keeps_for : (n : ℕ) (s : Stage) (more : List ℕ) (r : RunResult) → run_for (move turn oracle) n s ≡ Some r → IsKept turn oracle s more r r.finish
  keeps_for zero s more r p = cc
  keeps_for (suc n) s more r p =
      keeps_then (run_for (move turn oracle) n) s more r (λ d. keeps_for n d more r)
      (move turn oracle s) (move turn oracle (followed s more)) refl (move-followed turn oracle steady s more) p
