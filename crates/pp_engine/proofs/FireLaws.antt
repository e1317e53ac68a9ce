-- Pieces that a host is asked.
use Rattle.std.proofs.Common.{subst, ◌≡◌, ℕ, zero, suc, ◌-◌, ◌≤◌, ◌<◌, inl, inr, List, [], ◌∷◌, ◌++◌, Option, Some, None, Bool, false, cond, refl, sym, ◌∙◌, ap, arith, append_assoc, append-nil, length, drop, map, max}
use Rattle.std.specs.Prelude.{slice_get}
use Rattle.std.proofs.lemmas.Bool.{lt-ltb, le-ltb}
use Rattle.pp_event.specs.Told.{Told, Pieced}
use Rattle.pp_event.specs.Events.{Shown, Answered}
use Rattle.pp_event.specs.Asked.{Went, answers_of, IsStopped, IsRefused}
use Rattle.pp_outside.specs.Faults.{Rose}
use Rattle.pp_event.specs.Pieces.{AskPiece, between, parts, told_ask}
use Rattle.pp_event.proofs.AskedLaws.{went_none, went_one, went_more, answers_of-more}
use Rattle.pp_engine.specs.declared.host.Fired.{Fired}
use Rattle.pp_engine.specs.declared.host.Fired.TheVariants as fired
use Rattle.pp_engine.specs.Feeds.{Fires, Fire, piece_of, parts_of}

pub stopped_after : (xs due events : List Told) (answer place : ℕ) → IsStopped due events answer place → IsStopped (xs ++ due) (xs ++ events) answer place
stopped_after xs due events answer place s = record {
  before = xs ++ s.before;
  after = s.after;
  span = s.span;
  from = s.from;
  part = s.part;
  last = s.last;
  due_is = ap (λ (l : List Told). xs ++ l) s.due_is ∙ sym (append_assoc xs s.before (Pieced s.span s.from s.part s.last 0 ∷ s.after));
  events_are = ap (λ (l : List Told). xs ++ l) s.events_are ∙ sym (append_assoc xs s.before (Pieced s.span s.from s.part s.last answer ∷ []));
  not_zero = s.not_zero;
  place_is = s.place_is;
}

pub stopped_more : (due events more : List Told) (answer place : ℕ) → IsStopped due events answer place → IsStopped (due ++ more) events answer place
stopped_more due events more answer place s = record {
  before = s.before;
  after = s.after ++ more;
  span = s.span;
  from = s.from;
  part = s.part;
  last = s.last;
  due_is = ap (λ (l : List Told). l ++ more) s.due_is ∙ append_assoc s.before (Pieced s.span s.from s.part s.last 0 ∷ s.after) more;
  events_are = s.events_are;
  not_zero = s.not_zero;
  place_is = s.place_is;
}

pub refused_after : (xs due events : List Told) → IsRefused due events → IsRefused (xs ++ due) (xs ++ events)
refused_after xs due events s = record {
  after = s.after;
  question = s.question;
  due_is = ap (λ (l : List Told). xs ++ l) s.due_is ∙ sym (append_assoc xs events (s.question ∷ s.after));
}

pub refused_more : (due events more : List Told) → IsRefused due events → IsRefused (due ++ more) events
refused_more due events more s = record {
  after = s.after ++ more;
  question = s.question;
  due_is = ap (λ (l : List Told). l ++ more) s.due_is ∙ append_assoc events (s.question ∷ s.after) more;
}

pub rose_after : (old mid new : ℕ) → old ≤ mid → Rose mid new → Rose old new
rose_after old mid new h (inl b) = inl (let c : mid < new = b in omega arith)
rose_after old mid new h (inr b) = inr b

module _ {View : Type 0} (allows : View → Told → Type 0) (next : View → Told → View) where
  fires_after : (old mid new : Shown View) (xs due events : List Told) (place : ℕ) (f : Fired) → old.refusals ≤ mid.refusals →
      Fires mid new due events place f → Fires old new (xs ++ due) (xs ++ events) place f
  fires_after old mid new xs due events place fired.All n h = ap (λ (l : List Told). xs ++ l) h
  fires_after old mid new xs due events place (fired.Stopped answer) n h = stopped_after xs due events answer place h
  fires_after old mid new xs due events place fired.Out n h = (refused_after xs due events h.0, rose_after old.refusals mid.refusals new.refusals n h.1)

  -- what was asked_of before
  pub fire_after : (old mid new : Shown View) (xs due : List Told) (place : ℕ) (f : Fired) → Went allows next old mid xs → answers_of xs ≡ [] →
      Fire allows next mid new due place f → Fire allows next old new (xs ++ due) place f
  fire_after old mid new xs due place f w n h = record {
    events = xs ++ h.events;
    none = answers_of-more xs h.events ∙ ap (λ (l : List ℕ). l ++ answers_of h.events) n ∙ h.none;
    went = went_more allows next old mid new xs h.events w h.went;
    fires = fires_after old mid new xs due h.events place f w.refusals h.fires;
  }

  pub fire_stopped_more : (old new : Shown View) (due more : List Told) (place answer : ℕ) →
      Fire allows next old new due place (fired.Stopped answer) → Fire allows next old new (due ++ more) place (fired.Stopped answer)
  fire_stopped_more old new due more place answer h = record {
    events = h.events;
    none = h.none;
    went = h.went;
    fires = stopped_more due h.events more answer place h.fires;
  }

  pub fire_out_more : (old new : Shown View) (due more : List Told) (place : ℕ) →
      Fire allows next old new due place fired.Out → Fire allows next old new (due ++ more) place fired.Out
  fire_out_more old new due more place h = record {
    events = h.events;
    none = h.none;
    went = h.went;
    fires = (refused_more due h.events more h.fires.0, h.fires.1);
  }

  -- one piece_of that stopped the run
  pub fire_stopped : (old new : Shown View) (o : ℕ) (w : List ℕ) (span from at : ℕ) (last : Bool) (answer start : ℕ) (part : List ℕ) → start ≡ max from o →
      part ≡ between o w start at → length part ≡ at - start → start ≤ at → 0 < answer → Answered allows next old new (Pieced span start part last answer) →
      Fire allows next old new (piece_of o w span from at last ∷ []) at (fired.Stopped answer)
  fire_stopped old new o w span from at last answer start part e p n s h a = record {
    events = Pieced span start part last answer ∷ [];
    none = refl;
    went = went_one allows next old new (Pieced span start part last answer) a;
    fires = record {
      before = [];
      after = [];
      span = span;
      from = start;
      part = part;
      last = last;
      due_is = ap (λ (x : ℕ). Pieced span x (between o w x at) last 0 ∷ []) (sym e) ∙ ap (λ (l : List ℕ). Pieced span start l last 0 ∷ []) (sym p);
      events_are = refl;
      not_zero = h;
      place_is = omega arith;
    };
  }

  -- the pieces of the spans before the i-th one were asked
  pub record Parts (old new : Shown View) (o : ℕ) (w : List ℕ) (at : ℕ) (spans : List (Option ℕ)) (i : ℕ) : Type 0 where
    pub events : List Told
    pub none : answers_of events ≡ []
    pub went : Went allows next old new events
    pub due : parts_of o w at 0 spans ≡ events ++ parts_of o w at i (drop i spans)

  pub parts_first : (old : Shown View) (o : ℕ) (w : List ℕ) (at : ℕ) (spans : List (Option ℕ)) → Parts old old o w at spans 0
  parts_first old o w at spans = record { events = []; none = refl; went = went_none allows next old; due = refl }

drop_at : (spans : List (Option ℕ)) (i : ℕ) (x : Option ℕ) → slice_get spans i ≡ Some x → drop i spans ≡ x ∷ drop (suc i) spans
drop_at [] i x h = cc
drop_at (y ∷ spans) zero x h = (let same : y ≡ x = cc in ap (λ (z : Option ℕ). z ∷ spans) same)
drop_at (y ∷ spans) (suc i) x h = drop_at spans i x h

drop_all : (spans : List (Option ℕ)) (i : ℕ) → length spans ≤ i → drop i spans ≡ []
drop_all [] zero h = refl
drop_all [] (suc i) h = refl
drop_all (y ∷ spans) zero h = absurd (omega arith)
drop_all (y ∷ spans) (suc i) h = drop_all spans i (omega arith)

module _ (o : ℕ) (w : List ℕ) (at : ℕ) (spans : List (Option ℕ)) (i : ℕ) where
  pub parts_none : slice_get spans i ≡ Some None → parts_of o w at i (drop i spans) ≡ parts_of o w at (suc i) (drop (suc i) spans)
  parts_none h = ap (parts_of o w at i) (drop_at spans i None h)

  pub parts_short : (from : ℕ) → slice_get spans i ≡ Some (Some from) → at ≤ max from o → parts_of o w at i (drop i spans) ≡ parts_of o w at (suc i) (drop (suc i) spans)
  parts_short from h n =
      ap (parts_of o w at i) (drop_at spans i (Some from) h)
      ∙ ap (λ (b : Bool). map (told_ask o w) (cond b (AskPiece i from (max from o) at false ∷ parts o at (suc i) (drop (suc i) spans)) (parts o at (suc i) (drop (suc i) spans)))) (le-ltb (max from o) at n)

  pub parts_long : (from : ℕ) → slice_get spans i ≡ Some (Some from) → max from o < at → parts_of o w at i (drop i spans) ≡ piece_of o w i from at false ∷ parts_of o w at (suc i) (drop (suc i) spans)
  parts_long from h n =
      ap (parts_of o w at i) (drop_at spans i (Some from) h)
      ∙ ap (λ (b : Bool). map (told_ask o w) (cond b (AskPiece i from (max from o) at false ∷ parts o at (suc i) (drop (suc i) spans)) (parts o at (suc i) (drop (suc i) spans)))) (lt-ltb (max from o) at n)

  module _ {View : Type 0} (allows : View → Told → Type 0) (next : View → Told → View) (old : Shown View) where
    -- a span that is shut, or has no part
    pub parts_skip : (new : Shown View) → Parts allows next old new o w at spans i → parts_of o w at i (drop i spans) ≡ parts_of o w at (suc i) (drop (suc i) spans) →
        Parts allows next old new o w at spans (suc i)
    parts_skip new p e = record { events = p.events; none = p.none; went = p.went; due = p.due ∙ ap (λ (l : List Told). p.events ++ l) e }

    -- a span whose part was asked
    pub parts_fired : (mid new : Shown View) (from : ℕ) → Parts allows next old mid o w at spans i → slice_get spans i ≡ Some (Some from) → max from o < at →
        Fire allows next mid new (piece_of o w i from at false ∷ []) at fired.All → Parts allows next old new o w at spans (suc i)
    parts_fired mid new from p h n f =
        let due : piece_of o w i from at false ∷ [] ≡ f.events = sym f.fires in record {
          events = p.events ++ f.events;
          none = answers_of-more p.events f.events ∙ ap (λ (l : List ℕ). l ++ answers_of f.events) p.none ∙ f.none;
          went = went_more allows next old mid new p.events f.events p.went f.went;
          due = p.due ∙ ap (λ (l : List Told). p.events ++ l) (parts_long from h n)
              ∙ sym (append_assoc p.events (piece_of o w i from at false ∷ []) (parts_of o w at (suc i) (drop (suc i) spans)))
              ∙ ap (λ (l : List Told). (p.events ++ l) ++ parts_of o w at (suc i) (drop (suc i) spans)) due;
        }

    due_here : (mid : Shown View) (from : ℕ) (p : Parts allows next old mid o w at spans i) → slice_get spans i ≡ Some (Some from) → max from o < at →
        p.events ++ ((piece_of o w i from at false ∷ []) ++ parts_of o w at (suc i) (drop (suc i) spans)) ≡ parts_of o w at 0 spans
    due_here mid from p h n = sym (p.due ∙ ap (λ (l : List Told). p.events ++ l) (parts_long from h n))

    pub parts_stopped : (mid new : Shown View) (from answer : ℕ) → Parts allows next old mid o w at spans i → slice_get spans i ≡ Some (Some from) → max from o < at →
        Fire allows next mid new (piece_of o w i from at false ∷ []) at (fired.Stopped answer) → Fire allows next old new (parts_of o w at 0 spans) at (fired.Stopped answer)
    parts_stopped mid new from answer p h n f =
        subst (λ (l : List Told). Fire allows next old new l at (fired.Stopped answer)) (due_here mid from p h n)
        (fire_after allows next old mid new p.events _ at (fired.Stopped answer) p.went p.none
        (fire_stopped_more allows next mid new (piece_of o w i from at false ∷ []) (parts_of o w at (suc i) (drop (suc i) spans)) at answer f))

    pub parts_out : (mid new : Shown View) (from : ℕ) → Parts allows next old mid o w at spans i → slice_get spans i ≡ Some (Some from) → max from o < at →
        Fire allows next mid new (piece_of o w i from at false ∷ []) at fired.Out → Fire allows next old new (parts_of o w at 0 spans) at fired.Out
    parts_out mid new from p h n f =
        subst (λ (l : List Told). Fire allows next old new l at fired.Out) (due_here mid from p h n)
        (fire_after allows next old mid new p.events _ at fired.Out p.went p.none
        (fire_out_more allows next mid new (piece_of o w i from at false ∷ []) (parts_of o w at (suc i) (drop (suc i) spans)) at f))

    pub parts_done : (new : Shown View) → Parts allows next old new o w at spans i → length spans ≤ i → Fire allows next old new (parts_of o w at 0 spans) at fired.All
    parts_done new p n = record {
      events = p.events;
      none = p.none;
      went = p.went;
      fires = sym (p.due ∙ ap (λ (l : List (Option ℕ)). p.events ++ parts_of o w at i l) (drop_all spans i n) ∙ append-nil p.events);
    }
