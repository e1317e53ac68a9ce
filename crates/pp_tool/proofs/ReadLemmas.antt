-- What the front of an input says of the stages that read a graph text from the whole.
use Rattle.std.proofs.Common.{◌≡◌, ◌≢◌, ℕ, suc, ◌+◌, ◌<◌, ◌≤◌, inl, inr, List, [], ◌++◌, length, take, drop, Option, refl, sym, ◌∙◌, ap, ap₂, subst, arith}
use Rattle.std.specs.Prelude.{count_by}
use Rattle.std.proofs.Math.ListN.{drop_of_length-le}
use Rattle.std.proofs.lemmas.List.{length-drop, length-append}
use Rattle.pp_graph.specs.Plan.{Plan}
use Rattle.pp_rules.specs.Rules.{KeepsRules}
use Rattle.pp_text.specs.Text.{Told, limit, BeginWithText}
use Rattle.pp_text.specs.Outcome.{Reads}
use Rattle.pp_tool.specs.declared.refusal.GraphReason.{GraphReason}
use Rattle.pp_tool.specs.declared.refusal.GraphReason.TheVariants as graph
use Rattle.pp_tool.specs.declared.refusal.Refusal.TheVariants as refusal
use Rattle.pp_tool.specs.declared.stop.Stop.{Stop}
use Rattle.pp_tool.specs.declared.stop.Stop.TheVariants as stop
use Rattle.pp_tool.specs.Verdict.{Outcome, Gives, Refuses, IsOnly, Stops}
use Rattle.pp_tool.specs.GraphText.{Begun, BeginsWithGraph, HasNoGraph, IsNoGraph, ReadsText, ReadsTextAlone}
use Rattle.pp_tool.specs.steps.Reading.{CanFollow, IsFront, IsGraphAt, IsTextStop, IsRefusedFor, IsTheGraph, IsTaken, IsTakenStop, is_lf}
use Rattle.pp_tool.proofs.FrontLemmas.{text-more, text-cut, no_graph-more, no_graph-cut}
use Rattle.pp_tool.proofs.TextLemmas.{behind-text, line-behind}

-- the graph that was read from the front begins the whole
the_graph : (bytes front : List ℕ) (left : Option (List ℕ)) (g : Plan) (used : ℕ) → (f : IsFront bytes front left) → (at : IsGraphAt front g used) →
    ((told : Told) (last : ℕ) (rest : List ℕ) → BeginWithText front told last rest → KeepsRules told.calls → Reads front told last rest g used) →
    ((reason : GraphReason) → ¬ (HasNoGraph front reason)) → IsTheGraph bytes g at.last (drop used front ++ f.more)
the_graph bytes front left g used f at only no_fault = record {
  begins = subst (λ x. BeginsWithGraph x g at.last (drop used front ++ f.more)) (sym f.is) (record {
    told = at.told;
    text = subst (λ r. BeginWithText (front ++ f.more) at.told at.last (r ++ f.more)) (behind-text front at.told at.last at.rest g used at.reads)
        (text-more limit 1 _ front f.more at.told at.last at.rest f.follows at.reads.text);
    rules = at.reads.rules;
    is = at.reads.is;
  });
  no_fault = λ reason h. no_fault reason (no_graph-cut front f.more reason f.follows (subst (λ x. HasNoGraph x reason) f.is h));
  only = λ h l r b.
      let t = text-cut limit 1 _ front f.more b.told l r f.follows (subst (λ x. BeginWithText x b.told l r) f.is b.text) in
      let reads : Reads front b.told l t.0 g used = only b.told l t.0 t.1 b.rules in
      (b.is ∙ sym reads.is, t.2 ∙ ap (λ x. x ++ f.more) (behind-text front b.told l t.0 g used reads));
}

-- a text that takes the whole front takes the whole input
all_taken : (front more rest : List ℕ) → CanFollow front more → length front ≤ limit + length rest → rest ≡ [] → more ≡ []
all_taken front more rest (inl e) within none = e
all_taken front more rest (inr l) within none = absurd (omega (arith, ap length none))

-- so where something stands behind a text in the whole, something does in the front
some_in_front : (front more rest : List ℕ) → CanFollow front more → length front ≤ limit + length rest → rest ++ more ≢ [] → rest ≢ []
some_in_front front more rest follows within some e = some (ap₂ ◌++◌ e (all_taken front more rest follows within e))

line_of : (bytes front : List ℕ) (left : Option (List ℕ)) (g : Plan) (used : ℕ) → (f : IsFront bytes front left) →
    ((told : Told) (last : ℕ) (rest : List ℕ) → BeginWithText front told last rest → KeepsRules told.calls → Reads front told last rest g used) →
    (h : Plan) (l : ℕ) (r : List ℕ) → BeginsWithGraph bytes h l r → r ≢ [] → suc l ≡ suc (count_by is_lf (take used front))
line_of bytes front left g used f only h l r b some =
    let t = text-cut limit 1 _ front f.more b.told l r f.follows (subst (λ x. BeginWithText x b.told l r) f.is b.text) in
    let reads : Reads front b.told l t.0 g used = only b.told l t.0 t.1 b.rules in
    let in_front : t.0 ≢ [] = some_in_front front f.more t.0 f.follows reads.text.within (λ e. some (t.2 ∙ e)) in
    sym (line-behind front b.told l t.0 g used reads in_front)

pub is_taken : (bytes front : List ℕ) (left : Option (List ℕ)) (g : Plan) (used : ℕ) → IsFront bytes front left → IsGraphAt front g used →
    ((told : Told) (last : ℕ) (rest : List ℕ) → BeginWithText front told last rest → KeepsRules told.calls → Reads front told last rest g used) →
    ((reason : GraphReason) → ¬ (HasNoGraph front reason)) → IsTaken bytes front g used left
is_taken bytes front left g used f at only no_fault = record {
  front_is = f;
  at = at;
  the = the_graph bytes front left g used f at only no_fault;
  line = line_of bytes front left g used f only;
}

-- no graph begins the whole where none begins the front, for the same reason
refused_for : (bytes front : List ℕ) (left : Option (List ℕ)) (reason : GraphReason) → IsFront bytes front left → IsRefusedFor front reason → IsRefusedFor bytes reason
refused_for bytes front left reason f h = record {
  here = subst (λ x. HasNoGraph x reason) (sym f.is) (no_graph-more front f.more reason f.follows h.here);
  none = λ g last rest b.
      let t = text-cut limit 1 _ front f.more b.told last rest f.follows (subst (λ x. BeginWithText x b.told last rest) f.is b.text) in
      h.none g last t.0 (record { told = b.told; text = t.1; rules = b.rules; is = b.is });
  only = λ other w. h.only other (no_graph-cut front f.more other f.follows (subst (λ x. HasNoGraph x other) f.is w));
}

pub taken_stop : (bytes front : List ℕ) (left : Option (List ℕ)) (s : Stop) → IsFront bytes front left → IsTextStop front s → IsTakenStop bytes s
taken_stop bytes front left s f (inl e) = inr (inl e)
taken_stop bytes front left s f (inr h) = inr (inr (h.0, h.1, refused_for bytes front left h.0 f h.2))

-- the stage that hands on the rest
pair_is : (begun : Begun) (g : Plan) (rest : List ℕ) → begun.0 ≡ g → begun.1 ≡ rest → begun ≡ (g, rest)
pair_is begun g rest e f = let h : (begun.0, begun.1) ≡ (g, rest) = ap₂ (λ x y. (x, y)) e f in h

begun_only : (bytes : List ℕ) (g : Plan) (last : ℕ) (rest : List ℕ) (other : Outcome Begun) → IsTheGraph bytes g last rest → ReadsText bytes other → other ≡ Gives (g, rest)
begun_only bytes g last rest (Gives begun) the h = let same = the.only begun.0 h.0 begun.1 h.1 in ap Gives (pair_is begun g rest same.0 same.1)
begun_only bytes g last rest (Refuses why before) the h = absurd (the.no_fault h.0 h.1)

pub begun : (bytes : List ℕ) (g : Plan) (last : ℕ) (rest : List ℕ) → IsTheGraph bytes g last rest → IsOnly (ReadsText bytes) (Gives (g, rest))
begun bytes g last rest the = ((last, the.begins), λ other h. begun_only bytes g last rest other the h)

refused_only : (bytes : List ℕ) (reason : GraphReason) (other : Outcome Begun) → IsRefusedFor bytes reason → ReadsText bytes other → other ≡ Refuses (refusal.Graph reason) []
refused_only bytes reason (Gives begun) r h = absurd (r.none begun.0 h.0 begun.1 h.1)
refused_only bytes reason (Refuses why before) r h = ap₂ Refuses (h.2 ∙ ap refusal.Graph (r.only h.0 h.1)) h.3

refused_text : (bytes : List ℕ) (s : Stop) (reason : GraphReason) → s ≡ stop.Refused (refusal.Graph reason) → IsRefusedFor bytes reason → Stops (ReadsText bytes) s
refused_text bytes s reason e r =
    subst (λ x. Stops (ReadsText bytes) x) (sym e) ((reason, r.here, refl, refl), λ other h. refused_only bytes reason other r h)

pub stops_text : (bytes : List ℕ) (s : Stop) → IsTakenStop bytes s → Stops (ReadsText bytes) s
stops_text bytes s (inl e) = subst (λ x. Stops (ReadsText bytes) x) (sym e) tt
stops_text bytes s (inr (inl e)) = subst (λ x. Stops (ReadsText bytes) x) (sym e) tt
stops_text bytes s (inr (inr h)) = refused_text bytes s h.0 h.1 h.2

-- the stage that wants the text alone: no graph
alone_reason : (bytes : List ℕ) (reason other : GraphReason) → IsRefusedFor bytes reason → IsNoGraph bytes other → other ≡ reason
alone_reason bytes reason other r (inl w) = r.only other w
alone_reason bytes reason other r (inr m) = absurd (r.none m.0 m.1 m.2 m.3)

no_graph_only : (bytes : List ℕ) (reason : GraphReason) (other : Outcome Plan) → IsRefusedFor bytes reason → ReadsTextAlone bytes other → other ≡ Refuses (refusal.Graph reason) []
no_graph_only bytes reason (Gives g) r h = absurd (r.none g h.0 [] h.1)
no_graph_only bytes reason (Refuses why before) r h = ap₂ Refuses (h.2 ∙ ap refusal.Graph (alone_reason bytes reason h.0 r h.1)) h.3

no_graph : (bytes : List ℕ) (s : Stop) (reason : GraphReason) → s ≡ stop.Refused (refusal.Graph reason) → IsRefusedFor bytes reason → Stops (ReadsTextAlone bytes) s
no_graph bytes s reason e r =
    subst (λ x. Stops (ReadsTextAlone bytes) x) (sym e) ((reason, inl r.here, refl, refl), λ other h. no_graph_only bytes reason other r h)

pub stops_alone : (bytes : List ℕ) (s : Stop) → IsTakenStop bytes s → Stops (ReadsTextAlone bytes) s
stops_alone bytes s (inl e) = subst (λ x. Stops (ReadsTextAlone bytes) x) (sym e) tt
stops_alone bytes s (inr (inl e)) = subst (λ x. Stops (ReadsTextAlone bytes) x) (sym e) tt
stops_alone bytes s (inr (inr h)) = no_graph bytes s h.0 h.1 h.2

-- bytes behind it
more_reason : (bytes front : List ℕ) (g : Plan) (used : ℕ) (left : Option (List ℕ)) (other : GraphReason) → IsTaken bytes front g used left →
    IsNoGraph bytes other → other ≡ graph.WrongLine (suc (count_by is_lf (take used front)))
more_reason bytes front g used left other t (inl w) = absurd (t.the.no_fault other w)
more_reason bytes front g used left other t (inr m) = m.5 ∙ ap graph.WrongLine (t.line m.0 m.1 m.2 m.3 m.4)

more_only : (bytes front : List ℕ) (g : Plan) (used : ℕ) (left : Option (List ℕ)) (other : Outcome Plan) → (t : IsTaken bytes front g used left) → drop used front ++ t.front_is.more ≢ [] →
    ReadsTextAlone bytes other → other ≡ Refuses (refusal.Graph (graph.WrongLine (suc (count_by is_lf (take used front))))) []
more_only bytes front g used left (Gives h) t some a = absurd (some (sym (t.the.only h a.0 [] a.1).1))
more_only bytes front g used left (Refuses why before) t some a = ap₂ Refuses (a.2 ∙ ap refusal.Graph (more_reason bytes front g used left a.0 t a.1)) a.3

some_behind : (front more : List ℕ) (used : ℕ) → used < length front → drop used front ++ more ≢ []
some_behind front more used h e = omega (arith, ap length e, length-drop used front, length-append (drop used front) more)

pub more_behind : (bytes front : List ℕ) (g : Plan) (used line : ℕ) (left : Option (List ℕ)) → IsTaken bytes front g used left → used < length front →
    line ≡ suc (count_by is_lf (take used front)) → IsOnly (ReadsTextAlone bytes) (Refuses (refusal.Graph (graph.WrongLine line)) [])
more_behind bytes front g used line left t shorter e =
    let some = some_behind front t.front_is.more used shorter in
    subst (λ n. IsOnly (ReadsTextAlone bytes) (Refuses (refusal.Graph (graph.WrongLine n)) [])) (sym e) (
      (graph.WrongLine (suc (count_by is_lf (take used front))), inr (g, t.at.last, drop used front ++ t.front_is.more, t.the.begins, some, ap graph.WrongLine (sym (t.line g t.at.last (drop used front ++ t.front_is.more) t.the.begins some))), refl, refl),
      λ other h. more_only bytes front g used left other t some h,
    )

-- and none
nothing_left : (bytes front : List ℕ) (g : Plan) (used : ℕ) (left : Option (List ℕ)) → (t : IsTaken bytes front g used left) → length front ≤ used → (t.front_is.more ≡ []) × (drop used front ++ t.front_is.more ≡ [])
nothing_left bytes front g used left t h =
    let at = t.at in
    let behind : at.rest ≡ drop used front = behind-text front at.told at.last at.rest g used at.reads in
    let none : at.rest ≡ [] = behind ∙ drop_of_length-le front h in
    let more : t.front_is.more ≡ [] = all_taken front t.front_is.more at.rest t.front_is.follows at.reads.text.within none in
    (more, ap₂ ◌++◌ (sym behind ∙ none) more)

no_reason : (bytes : List ℕ) (g : Plan) (last : ℕ) (rest : List ℕ) (reason : GraphReason) → IsTheGraph bytes g last rest → rest ≡ [] → ¬ (IsNoGraph bytes reason)
no_reason bytes g last rest reason the none (inl h) = the.no_fault reason h
no_reason bytes g last rest reason the none (inr h) = h.4 ((the.only h.0 h.1 h.2 h.3).1 ∙ none)

alone_only : (bytes : List ℕ) (g : Plan) (last : ℕ) (rest : List ℕ) (other : Outcome Plan) → IsTheGraph bytes g last rest → rest ≡ [] → ReadsTextAlone bytes other → other ≡ Gives g
alone_only bytes g last rest (Gives h) the none a = ap Gives (the.only h a.0 [] a.1).0
alone_only bytes g last rest (Refuses why before) the none a = absurd (no_reason bytes g last rest a.0 the none a.1)

pub alone : (bytes front : List ℕ) (g : Plan) (used : ℕ) (left : Option (List ℕ)) → IsTaken bytes front g used left → length front ≤ used → IsOnly (ReadsTextAlone bytes) (Gives g)
alone bytes front g used left t h =
    let none = (nothing_left bytes front g used left t h).1 in
    ((t.at.last, subst (BeginsWithGraph bytes g t.at.last) none t.the.begins), λ other a. alone_only bytes g t.at.last _ other t.the none a)

pub at_end : (bytes front : List ℕ) (g : Plan) (used : ℕ) (left : Option (List ℕ)) → IsTaken bytes front g used left → length front ≤ used → left ≡ Option.Some []
at_end bytes front g used left t h = t.front_is.left_is ∙ ap Option.Some (nothing_left bytes front g used left t h).0
