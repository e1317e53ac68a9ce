-- The places of names, with one name more and with one call more.
use Rattle.std.proofs.Common.{◌≡◌, ℕ, suc, ◌+◌, ◌^◌, ◌<◌, ◌≤◌, List, [], ◌∷◌, ◌++◌, Bool, true, false, not, cond, if◌then◌else◌, length, Option, Some, option_map, unwrap_or, refl, sym, ap, ◌∙◌, subst, arith}
use Rattle.std.specs.Prelude.{bytes_eq}
use Rattle.std.specs.Prelude.{None as none}
use Rattle.std.specs.List.{cons_option}
use Rattle.std.specs.Option.{option_or}
use Rattle.std.proofs.lemmas.List.{append-nil, length_push}
use Rattle.std.proofs.lemmas.List.Elements.{filter_map-append}
use Rattle.pp_rules.specs.declared.call.NamedKind.{NamedKind}
use Rattle.pp_rules.specs.declared.call.NamedEdge.{NamedEdge}
use Rattle.pp_rules.specs.declared.call.BuilderCall.{BuilderCall}
use Rattle.pp_rules.specs.declared.call.BuilderCall.TheVariants as call
use Rattle.pp_rules.specs.declared.call.Sort.{Sort}
use Rattle.pp_rules.specs.declared.call.Sort.TheVariants as sort
use Rattle.pp_rules.specs.declared.declaration.Width.{Width}
use Rattle.pp_rules.specs.Calls.{declared_by, names_of, name_if}
use Rattle.pp_rules.specs.NameTables.{value_at}
use Rattle.pp_rules.proofs.ListLemmas.{bytes_eq-comm}
use Rattle.pp_graph.specs.Built.{place_of}
use Rattle.pp_graph.specs.declared.places.NamePlaces.{NamePlaces}
use Rattle.pp_graph.specs.declared.places.SortPlaces.{SortPlaces}
use Rattle.pp_graph.specs.steps.Places.{place_among, HasPlaces, HaveRoom, ArePlaces}

-- the place behind one more name
behind-step : (a : Option ℕ) (b : Bool) (n : ℕ) → option_map suc (option_or a (if b then Some n else none)) ≡ option_or (option_map suc a) (if b then Some (suc n) else none)
behind-step none true n = refl
behind-step none false n = refl
behind-step (Some k) b n = refl

push-step : (b c : Bool) (more a : Option ℕ) (n : ℕ) → more ≡ option_or a (if c then Some n else none) → (if b then Some 0 else option_map suc more) ≡ option_or (if b then Some 0 else option_map suc a) (if c then Some (suc n) else none)
push-step true c more a n e = refl
push-step false c more a n e = ap (option_map suc) e ∙ behind-step a c n

-- the place of a name among these with one more
place_among-push : (names : List (List ℕ)) (more name : List ℕ) → place_among (names ++ more ∷ []) name ≡ option_or (place_among names name) (if bytes_eq more name then Some (length names) else none)
place_among-push [] more name = rw (bytes_eq-comm more name) refl
place_among-push (other ∷ names) more name =
    push-step (bytes_eq name other) (bytes_eq more name) (place_among (names ++ more ∷ []) name) (place_among names name) (length names) (place_among-push names more name)

-- the place of a name, or the count of all
or-step : (b : Bool) (a : Option ℕ) (n m : ℕ) → unwrap_or a n ≡ m → unwrap_or (if b then Some 0 else option_map suc a) (suc n) ≡ cond (not b) (1 + m) 0
or-step true a n m e = refl
or-step false none n m e = let same : n ≡ m = e in omega arith
or-step false (Some k) n m e = let same : k ≡ m = e in omega arith

place_among-or : (names : List (List ℕ)) (name : List ℕ) → unwrap_or (place_among names name) (length names) ≡ place_of names name
place_among-or [] name = refl
place_among-or (other ∷ names) name =
    or-step (bytes_eq name other) (place_among names name) (length names) (place_of names name) (place_among-or names name)

-- what a table answers
pub place-is : (places : NamePlaces) (names : List (List ℕ)) (name : List ℕ) → HasPlaces places names → unwrap_or (value_at places.first name) places.count ≡ place_of names name
place-is places names name h =
    ap (λ a. unwrap_or a places.count) (h.first name) ∙ ap (unwrap_or (place_among names name)) h.count ∙ place_among-or names name

-- a table with one name more
pub HasPlaces-push : (old new : NamePlaces) (names : List (List ℕ)) (name : List ℕ) → ((other : List ℕ) → value_at new.first other ≡ option_or (value_at old.first other) (if bytes_eq name other then Some old.count else none)) → new.count ≡ old.count + 1 → HasPlaces old names → HasPlaces new (names ++ name ∷ [])
HasPlaces-push old new names name added count h = record {
  first = λ other. added other ∙ ap (λ a. option_or a (if bytes_eq name other then Some old.count else none)) (h.first other) ∙ ap (λ n. option_or (place_among names other) (if bytes_eq name other then Some n else none)) h.count ∙ sym (place_among-push names name other);
  count = let counted = h.count in omega (arith, count, counted, length_push names name);
}

-- the names of a sort are no more than the calls
length-cons : (o : Option (List ℕ)) (names : List (List ℕ)) (n : ℕ) → length names ≤ n → length (cons_option o names) ≤ n + 1
length-cons none names n h = omega arith
length-cons (Some name) names n h = omega arith

few-names : (s : Sort) (calls : List BuilderCall) → length (names_of s calls) ≤ length calls
few-names s [] = omega arith
few-names s (c ∷ calls) = omega (arith, length-cons (name_if s (declared_by c)) (names_of s calls) (length calls) (few-names s calls))

-- so each table has room
pub room-left : (places : SortPlaces) (calls : List BuilderCall) → length calls + 1 < 2 ^ 32 → ArePlaces places calls → HaveRoom places
room-left places calls few h = record {
  props = let count = h.props.count in omega (arith, few, count, few-names sort.Prop calls);
  hosts = let count = h.hosts.count in omega (arith, few, count, few-names sort.Host calls);
  spans = let count = h.spans.count in omega (arith, few, count, few-names sort.Span calls);
  nodes = let count = h.nodes.count in omega (arith, few, count, few-names sort.Node calls);
}

module _ (before : List BuilderCall) (c : BuilderCall) (places : NamePlaces) (s : Sort) where
  names-push : (o : Option (List ℕ)) → name_if s (declared_by c) ≡ o → names_of s before ++ cons_option o [] ≡ names_of s (before ++ c ∷ [])
  names-push o e =
      sym (filter_map-append (λ x. name_if s (declared_by x)) before (c ∷ []) ∙ ap (λ a. names_of s before ++ cons_option a []) e)

  -- the table of a sort of which the call declares nothing
  kept : name_if s (declared_by c) ≡ none → HasPlaces places (names_of s before) → HasPlaces places (names_of s (before ++ c ∷ []))
  kept e h = subst (HasPlaces places) (sym (append-nil (names_of s before)) ∙ names-push none e) h

  -- and of one of which it declares a name
  more : (name : List ℕ) → name_if s (declared_by c) ≡ Some name → HasPlaces places (names_of s before ++ name ∷ []) → HasPlaces places (names_of s (before ++ c ∷ []))
  more name e h = subst (HasPlaces places) (names-push (Some name) e) h

-- the tables with one call more
module _ (t : SortPlaces) (before : List BuilderCall) (h : ArePlaces t before) where
  pub ArePlaces-prop : (props : NamePlaces) (name : List ℕ) (width : Width) → HasPlaces props (names_of sort.Prop before ++ name ∷ []) → ArePlaces (record { props = props; hosts = t.hosts; spans = t.spans; nodes = t.nodes }) (before ++ call.Prop name width ∷ [])
  ArePlaces-prop props name width added =
      let c : BuilderCall = call.Prop name width in
      record {
        props = more before c props sort.Prop name refl added;
        hosts = kept before c t.hosts sort.Host refl h.hosts;
        spans = kept before c t.spans sort.Span refl h.spans;
        nodes = kept before c t.nodes sort.Node refl h.nodes;
      }

  pub ArePlaces-host : (hosts : NamePlaces) (name : List ℕ) (value : Bool) → HasPlaces hosts (names_of sort.Host before ++ name ∷ []) → ArePlaces (record { props = t.props; hosts = hosts; spans = t.spans; nodes = t.nodes }) (before ++ call.Host name value ∷ [])
  ArePlaces-host hosts name value added =
      let c : BuilderCall = call.Host name value in
      record {
        props = kept before c t.props sort.Prop refl h.props;
        hosts = more before c hosts sort.Host name refl added;
        spans = kept before c t.spans sort.Span refl h.spans;
        nodes = kept before c t.nodes sort.Node refl h.nodes;
      }

  pub ArePlaces-span : (spans : NamePlaces) (name : List ℕ) → HasPlaces spans (names_of sort.Span before ++ name ∷ []) → ArePlaces (record { props = t.props; hosts = t.hosts; spans = spans; nodes = t.nodes }) (before ++ call.Span name ∷ [])
  ArePlaces-span spans name added =
      let c : BuilderCall = call.Span name in
      record {
        props = kept before c t.props sort.Prop refl h.props;
        hosts = kept before c t.hosts sort.Host refl h.hosts;
        spans = more before c spans sort.Span name refl added;
        nodes = kept before c t.nodes sort.Node refl h.nodes;
      }

  pub ArePlaces-node : (nodes : NamePlaces) (name : List ℕ) (what : NamedKind) → HasPlaces nodes (names_of sort.Node before ++ name ∷ []) → ArePlaces (record { props = t.props; hosts = t.hosts; spans = t.spans; nodes = nodes }) (before ++ call.Node name what ∷ [])
  ArePlaces-node nodes name what added =
      let c : BuilderCall = call.Node name what in
      record {
        props = kept before c t.props sort.Prop refl h.props;
        hosts = kept before c t.hosts sort.Host refl h.hosts;
        spans = kept before c t.spans sort.Span refl h.spans;
        nodes = more before c nodes sort.Node name refl added;
      }

  -- behind a call that declares no name
  same : (c : BuilderCall) → name_if sort.Prop (declared_by c) ≡ none → name_if sort.Host (declared_by c) ≡ none → name_if sort.Span (declared_by c) ≡ none → name_if sort.Node (declared_by c) ≡ none → ArePlaces t (before ++ c ∷ [])
  same c prop host span node = record {
    props = kept before c t.props sort.Prop prop h.props;
    hosts = kept before c t.hosts sort.Host host h.hosts;
    spans = kept before c t.spans sort.Span span h.spans;
    nodes = kept before c t.nodes sort.Node node h.nodes;
  }

  pub ArePlaces-entry : (node : List ℕ) → ArePlaces t (before ++ call.Entry node ∷ [])
  ArePlaces-entry node = same (call.Entry node) refl refl refl refl

  pub ArePlaces-finish : (prop host : List ℕ) → ArePlaces t (before ++ call.Finish prop host ∷ [])
  ArePlaces-finish prop host = same (call.Finish prop host) refl refl refl refl

  pub ArePlaces-edge : (when : NamedEdge) (target : List ℕ) → ArePlaces t (before ++ call.Edge when target ∷ [])
  ArePlaces-edge when target = same (call.Edge when target) refl refl refl refl
