-- What holds of questions in a row.
use Rattle.std.proofs.Common.{subst, ◌≡◌, ℕ, ◌≤◌, ◌<◌, inl, inr, List, [], ◌∷◌, ◌++◌, Option, Some, None, refl, sym, ◌∙◌, ap, arith, append_assoc, append-nil}
use Rattle.pp_outside.specs.Faults.{Rose}
use Rattle.pp_event.specs.Told.{Told, Called, Pieced}
use Rattle.pp_event.specs.Events.{Shown, Logs, Answered, Refused}
use Rattle.pp_event.specs.Asked.{Logged, AllAllowed, view_after, Went, answers_of}

Logged-none : (log : Option (List Told)) → Logged log [] log
Logged-none None = refl
Logged-none (Some log) = ap (λ (l : List Told). Some l) (sym (append-nil log))

Logged-more : (old mid new : Option (List Told)) (xs ys : List Told) → Logged old xs mid → Logged mid ys new → Logged old (xs ++ ys) new
Logged-more None None new xs ys p q = q
Logged-more None (Some m) new xs ys p q = cc
Logged-more (Some log) None new xs ys p q = cc
Logged-more (Some log) (Some m) new xs ys p q =
    let same : m ≡ log ++ xs = cc in
    q ∙ ap (λ (l : List Told). Some (l ++ ys)) same ∙ ap (λ (l : List Told). Some l) (append_assoc log xs ys)

Logged-one : (old new : Option (List Told)) (e : Told) → Logs old e new → Logged old (e ∷ []) new
Logged-one None new e p = p
Logged-one (Some log) new e p = p

AllAllowed-more : {View : Type 0} (allows : View → Told → Type 0) (next : View → Told → View) (v : View) (xs ys : List Told) →
    AllAllowed allows next v xs → AllAllowed allows next (view_after next v xs) ys → AllAllowed allows next v (xs ++ ys)
AllAllowed-more allows next v [] ys p q = q
AllAllowed-more allows next v (x ∷ xs) ys p q = (p.0, AllAllowed-more allows next (next v x) xs ys p.1 q)

view_after-more : {View : Type 0} (next : View → Told → View) (v : View) (xs ys : List Told) →
    view_after next v (xs ++ ys) ≡ view_after next (view_after next v xs) ys
view_after-more next v [] ys = refl
view_after-more next v (x ∷ xs) ys = view_after-more next (next v x) xs ys

module _ {View : Type 0} (allows : View → Told → Type 0) (next : View → Told → View) where
  pub went_none : (old : Shown View) → Went allows next old old []
  went_none old = record { logs = Logged-none old.log; allowed = tt; view = refl; refusals = omega arith }

  pub went_one : (old new : Shown View) (e : Told) → Answered allows next old new e → Went allows next old new (e ∷ [])
  went_one old new e a = record { logs = Logged-one old.log new.log e a.logs; allowed = (a.allowed, tt); view = a.view; refusals = a.refusals }

  pub went_more : (old mid new : Shown View) (xs ys : List Told) → Went allows next old mid xs → Went allows next mid new ys → Went allows next old new (xs ++ ys)
  went_more old mid new xs ys p q = record {
    logs = Logged-more old.log mid.log new.log xs ys p.logs q.logs;
    allowed = AllAllowed-more allows next old.view xs ys p.allowed (subst (λ (v : View). AllAllowed allows next v ys) p.view q.allowed);
    view = q.view ∙ ap (λ (v : View). view_after next v ys) p.view ∙ sym (view_after-more next old.view xs ys);
    refusals = (let a : old.refusals ≤ mid.refusals = p.refusals in let b : mid.refusals ≤ new.refusals = q.refusals in omega arith);
  }

  -- a refused question leaves what was asked before it
  pub went_refused : (old mid new : Shown View) (xs : List Told) → Went allows next old mid xs → Refused mid new → Went allows next old new xs
  went_refused old mid new xs p r = record {
    logs = subst (λ (l : Option (List Told)). Logged old.log xs l) (sym r.log) p.logs;
    allowed = p.allowed;
    view = r.view ∙ p.view;
    refusals = (let a : old.refusals ≤ mid.refusals = p.refusals in let b : mid.refusals ≤ new.refusals = r.refusals in omega arith);
  }

  pub rose_refused : (old mid new : Shown View) (xs : List Told) → Went allows next old mid xs → Refused mid new → Rose old.refusals new.refusals
  rose_refused old mid new xs p r =
      let a : old.refusals ≤ mid.refusals = p.refusals in
      elim r.rose [ inl b ↦ inl (let c : mid.refusals < new.refusals = b in omega arith) | inr b ↦ inr b ]

-- the answers of events in a row
pub answers_of-more : (xs ys : List Told) → answers_of (xs ++ ys) ≡ answers_of xs ++ answers_of ys
answers_of-more [] ys = refl
answers_of-more (Called code value at values answer ∷ xs) ys = ap (λ (l : List ℕ). answer ∷ l) (answers_of-more xs ys)
answers_of-more (Pieced span at part last answer ∷ xs) ys = answers_of-more xs ys
