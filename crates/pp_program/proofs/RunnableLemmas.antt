-- What the rules of programs give, as plain facts for runs.
use Rattle.std.proofs.Common.{subst, ◌≡◌, ℕ, zero, suc, ◌+◌, ◌≤◌, ◌<◌, List, [], ◌∷◌, ◌++◌, Option, Some, None, Bool, true, false, cond, refl, sym, ◌∙◌, ap, arith, length, inl, inr, ◌&&◌}
use Rattle.std.specs.Prelude.{slice_get, not, nat_lt, is_none, ◌==◌}
use Rattle.std.specs.List.{list_all, list_any}
use Rattle.std.proofs.lemmas.Bool.{cases_Bool, false≢true, leb-true, ltb-true, ltb-false, or_parts}
use Rattle.pp_rules.specs.Names.{is_reason}
use Rattle.pp_rules.specs.Widths.{greatest}
use Rattle.pp_rules.specs.declared.declaration.PropDecl.{PropDecl}
use Rattle.pp_rules.specs.declared.declaration.HostDecl.{HostDecl}
use Rattle.pp_graph.specs.declared.node.Answer.{Answer}
use Rattle.pp_graph.specs.declared.node.Code.{Code}
use Rattle.pp_graph.specs.declared.node.Code.TheVariants as code
use Rattle.pp_program.specs.declared.program.Edge.{Edge}
use Rattle.pp_program.specs.declared.program.Rest.{Rest}
use Rattle.pp_program.specs.declared.program.Instr.{Instr}
use Rattle.pp_program.specs.declared.program.Instr.TheVariants.{Branch, Invoke, Consume, SpanOpen, SpanClose, Pause, Fail}
use Rattle.pp_program.specs.declared.program.State.{State}
use Rattle.pp_program.specs.declared.program.Program.{Program}
use Rattle.pp_program.specs.declared.fault.VerifyRule.TheVariants.{Target, Width, Spans, Names}
use Rattle.pp_program.specs.Names.{reason_of, reasons_of}
use Rattle.pp_program.specs.Runnable.{CanHold, CodeFits, StoresFit, NumberFits, Suits, Leads, EdgesFit, RestFits, AnswersFit, InstrFits, StateFits, FinishFits, HasLimits, IsRunnable}
use Rattle.pp_program.specs.Targets.{leads, is_plain_state, is_value_state, is_value_instr, is_edge, is_rest, is_answer, is_code, are_edges, are_answers, is_instr, is_state, are_counts, in_row, row_behind, may_follow, is_alike, answer_follows, is_finish, is_match_host, most_edges, most_answers}
use Rattle.pp_program.specs.Valid.{Sound, Holds, IsVerified}
use Rattle.pp_program.specs.Widths.{is_narrow, is_wide_code, is_narrow_code, is_narrow_instr, is_narrow_state, is_wide_number, is_wide_edge, is_wide_instr}
use Rattle.pp_program.specs.steps.Rows.{Counts}
use Rattle.pp_program.proofs.RowLemmas.{both-true}
use Rattle.pp_program.proofs.SoundLemmas.{each-passes, frame-right, leads-within, counts-of, sound-of}
use Rattle.pp_program.proofs.StandLemmas.{stands-entry, stands-kept, opened-shut, closed-open, mask-open}

-- a property that is there, and isn't too narrow
can-hold : (p : Program) (prop value : ℕ) → prop < length p.props → is_narrow (slice_get p.props prop) value ≡ false → CanHold p prop value
can-hold p prop value low wide = record {
  within = low;
  wide = λ d at. (let e : nat_lt (greatest d.width) value ≡ false = subst (λ (o : Option PropDecl). is_narrow o value ≡ false) at wide in ltb-false (greatest d.width) value e);
}

code-fits : (p : Program) (c : Code) → is_code p c ≡ true → is_wide_code p c ≡ false → CodeFits p c
code-fits p (code.Call host) h w = ltb-true host (length p.hosts) h
code-fits p (code.Store prop) h w = ltb-true prop (length p.props) h
code-fits p (code.Load prop) h w = ltb-true prop (length p.props) h
code-fits p (code.Update prop value) h w = can-hold p prop value (ltb-true prop (length p.props) h) w
code-fits p (code.Equal prop value) h w = can-hold p prop value (ltb-true prop (length p.props) h) w
code-fits p (code.And prop value) h w = can-hold p prop value (ltb-true prop (length p.props) h) w
code-fits p (code.Or prop value) h w = can-hold p prop value (ltb-true prop (length p.props) h) w
code-fits p (code.Test prop value) h w = can-hold p prop value (ltb-true prop (length p.props) h) w
code-fits p (code.MulAdd prop base most) h w = can-hold p prop most (ltb-true prop (length p.props) h) w

stores-fit : (p : Program) (number : ℕ) (c : Code) → is_code p c ≡ true → is_narrow_code p number c ≡ false → StoresFit p number c
stores-fit p number (code.Call host) h w = tt
stores-fit p number (code.Store prop) h w = can-hold p prop number (ltb-true prop (length p.props) h) w
stores-fit p number (code.Load prop) h w = tt
stores-fit p number (code.Update prop value) h w = tt
stores-fit p number (code.Equal prop value) h w = tt
stores-fit p number (code.And prop value) h w = tt
stores-fit p number (code.Or prop value) h w = tt
stores-fit p number (code.Test prop value) h w = tt
stores-fit p number (code.MulAdd prop base most) h w = tt

number-fits : (p : Program) (number : ℕ) (i : Instr) → is_instr p i ≡ true → is_narrow_instr p number i ≡ false → NumberFits p number i
number-fits p number (Branch fold stay edges rest) h w = tt
number-fits p number (Invoke what answers other) h w =
    let both = both-true (is_code p what && are_answers p answers) (leads p None other) h in
    stores-fit p number what (both-true (is_code p what) (are_answers p answers) both.0).0 w
number-fits p number (Consume prop next) h w = tt
number-fits p number (SpanOpen span next) h w = tt
number-fits p number (SpanClose span next) h w = tt
number-fits p number (Pause code reason next) h w = tt
number-fits p number (Fail code reason) h w = tt

not-true : (t : Bool) → not t ≡ true → t ≡ false
not-true true e = absurd (false≢true e)
not-true false e = refl

-- edges and rests that have a number only where a test allows it
only-numbers : (t : Bool) (number : Option ℕ) → cond t true (is_none number) ≡ true → t ≡ false → number ≡ None
only-numbers true number e f = absurd (false≢true (sym f))
only-numbers false None e f = refl
only-numbers false (Some n) e f = absurd (false≢true e)

no-numbers : (t : Bool) (number : Option ℕ) → cond t (is_none number) true ≡ true → t ≡ true → number ≡ None
no-numbers true None e f = refl
no-numbers true (Some n) e f = absurd (false≢true e)
no-numbers false number e f = absurd (false≢true f)

-- none of some elements passes
none-passes : {X : Type 0} (test : X → Bool) (xs : List X) → list_any test xs ≡ false → (i : ℕ) (x : X) → slice_get xs i ≡ Some x → test x ≡ false
none-passes test [] e i x at = absurd cc
none-passes test (y ∷ xs) e zero x at = (let same : y ≡ x = cc in subst (λ z. test z ≡ false) same (or_parts (test y) (list_any test xs) e).0)
none-passes test (y ∷ xs) e (suc i) x at = none-passes test xs (or_parts (test y) (list_any test xs) e).1 i x at

-- a row of elements, each of which goes on from the one before it, and so from all before it
module _ {X : Type 0} (follows : X → X → Bool) (IsOne : X → Type 0) (Before : X → X → Type 0) (first : (x y : X) → follows x y ≡ true → Before x y)
    (more : (x y z : X) → IsOne y → Before x y → follows y z ≡ true → Before x z) where
  -- each element of a list is one
  abbrev pub AllOnes : List X → Type 0
  AllOnes xs = (i : ℕ) (x : X) → slice_get xs i ≡ Some x → IsOne x

  -- all elements behind x stand behind one before
  all-behind : (before x : X) (ys : List X) → ((y : X) → follows x y ≡ true → Before before y) → AllOnes ys → row_behind follows x ys ≡ true →
      (j : ℕ) (z : X) → slice_get ys j ≡ Some z → Before before z
  all-behind before x [] is ones e j z at = absurd cc
  all-behind before x (y ∷ ys) is ones e zero z at =
      let same : y ≡ z = cc in
      subst (Before before) same (is y (both-true (follows x y) (row_behind follows y ys) e).0)
  all-behind before x (y ∷ ys) is ones e (suc j) z at =
      let both = both-true (follows x y) (row_behind follows y ys) e in
      all-behind before y ys (λ w f. more before y w (ones 0 y refl) (is y both.0) f) (λ i v a. ones (suc i) v a) both.1 j z at

  row-tail : (x : X) (ys : List X) → row_behind follows x ys ≡ true → in_row follows ys ≡ true
  row-tail x [] e = refl
  row-tail x (y ∷ ys) e = (both-true (follows x y) (row_behind follows y ys) e).1

  -- each element stands before each later one
  pub row-ascends : (xs : List X) → AllOnes xs → in_row follows xs ≡ true → (i j : ℕ) (x y : X) → i < j → slice_get xs i ≡ Some x → slice_get xs j ≡ Some y → Before x y
  row-ascends [] ones e i j x y low at to = absurd cc
  row-ascends (z ∷ xs) ones e zero zero x y low at to = absurd (omega (arith, low))
  row-ascends (z ∷ xs) ones e zero (suc j) x y low at to =
      let same : z ≡ x = cc in
      all-behind x z xs (λ w f. subst (λ v. Before v w) same (first z w f)) (λ i v a. ones (suc i) v a) e j y to
  row-ascends (z ∷ xs) ones e (suc i) zero x y low at to = absurd (omega (arith, low))
  row-ascends (z ∷ xs) ones e (suc i) (suc j) x y low at to = row-ascends xs (λ k v a. ones (suc k) v a) (row-tail z xs e) i j x y (omega (arith, low)) at to

-- an element of a list that stands behind another
get-far : (front more : List (List ℕ)) (j : ℕ) (r : List ℕ) → slice_get more j ≡ Some r → slice_get (front ++ more) (length front + j) ≡ Some r
get-far [] more j r e = (let none : j ≡ 0 + j = omega arith in subst (λ (n : ℕ). slice_get more n ≡ Some r) none e)
get-far (f ∷ front) more j r e =
    let next : suc (length front + j) ≡ suc (length front) + j = omega arith in
    subst (λ (n : ℕ). slice_get (f ∷ front ++ more) n ≡ Some r) next (get-far front more j r e)

-- no state fails the rule on targets
state-passes : (p : Program) → Holds p Target → (i : ℕ) (s : State) → slice_get p.states i ≡ Some s → is_state p s ≡ true
state-passes p holds i s at = elim (cases_Bool (is_state p s)) [ inl right ↦ right | inr wrong ↦ absurd (holds i (inl (s, at, wrong))) ]

-- what is known of an instruction of a program that keeps the rules on targets, widths and names
module _ (p : Program) (targets : Holds p Target) (widths : Holds p Width) (names : Holds p Names) where
  state-narrow : (i : ℕ) (s : State) → slice_get p.states i ≡ Some s → is_wide_instr p s.instr ≡ false
  state-narrow i s at = elim (cases_Bool (is_wide_instr p s.instr)) [ inl wide ↦ absurd (widths i (s, at, wide)) | inr narrow ↦ narrow ]

  suits-plain : (o : Option State) → is_plain_state p o ≡ true → (s : State) → o ≡ Some s → Suits p None s.instr
  suits-plain None h s at = absurd cc
  suits-plain (Some x) h s at = (let same : x ≡ s = cc in subst (λ (y : State). is_value_instr p y.instr ≡ false) same (not-true (is_value_instr p x.instr) h))

  suits-value : (number : ℕ) (o : Option State) → ((s : State) → o ≡ Some s → is_instr p s.instr ≡ true) → is_value_state p o ≡ true → is_narrow_state p number o ≡ false → (s : State) → o ≡ Some s → Suits p (Some number) s.instr
  suits-value number None right h w s at = absurd cc
  suits-value number (Some x) right h w s at =
      let same : x ≡ s = cc in
      subst (λ (y : State). Suits p (Some number) y.instr) same (h, number-fits p number x.instr (right x refl) w)

  there-instr : (i : ℕ) (s : State) → slice_get p.states i ≡ Some s → is_instr p s.instr ≡ true
  there-instr i s at = (both-true (nat_lt s.origin (length p.names)) (is_instr p s.instr) (state-passes p targets i s at)).1

  pub leads-to : (number : Option ℕ) (target : ℕ) → leads p number target ≡ true → is_wide_number p number target ≡ false → Leads p number target
  leads-to None target h w = record { within = leads-within p None target h; suits = suits-plain (slice_get p.states target) h }
  leads-to (Some n) target h w = record { within = leads-within p (Some n) target h; suits = suits-value n (slice_get p.states target) (there-instr target) h w }

  edge-parts : (e : Edge) → is_edge p e ≡ true → (e.lo ≤ e.hi) × (e.take ≡ false → e.number ≡ None) × (leads p e.number e.target ≡ true)
  edge-parts e h =
      let outer = both-true _ (leads p e.number e.target) h in
      let inner = both-true _ _ outer.0 in
      (leb-true e.lo e.hi inner.0, (λ f. only-numbers e.take e.number inner.1 f), outer.1)

  follows-below : (e f : Edge) → may_follow e f ≡ true → e.hi < f.lo
  follows-below e f h = ltb-true e.hi f.lo (both-true (nat_lt e.hi f.lo) (not (e.hi + 1 == f.lo && is_alike e f)) h).0

  edges-fit : (edges : List Edge) → are_edges p edges ≡ true → list_any (is_wide_edge p) edges ≡ false → EdgesFit p edges
  edges-fit edges h w =
      let three = both-true _ (in_row may_follow edges) h in
      let two = both-true _ (list_all (is_edge p) edges) three.0 in
      let parts : (i : ℕ) (e : Edge) → slice_get edges i ≡ Some e → (e.lo ≤ e.hi) × (e.take ≡ false → e.number ≡ None) × (leads p e.number e.target ≡ true) = λ i e at. edge-parts e (each-passes (is_edge p) edges two.1 i e at) in
      record {
        few = leb-true (length edges) most_edges two.0;
        some = λ i e at. (parts i e at).0;
        ascend = row-ascends may_follow (λ e. e.lo ≤ e.hi) (λ e f. e.hi < f.lo) follows-below
            (λ e f g one low next. (let up : f.hi < g.lo = follows-below f g next in omega (arith, one, low, up))) edges (λ i e at. (parts i e at).0) three.1;
        looks = λ i e at. (parts i e at).1;
        lead = λ i e at. leads-to e.number e.target (parts i e at).2 (none-passes (is_wide_edge p) edges w i e at);
      }

  rest-fits : (rest : Rest) → is_rest p rest ≡ true → is_wide_number p rest.number rest.target ≡ false → RestFits p rest
  rest-fits rest h w =
      let both = both-true _ (leads p rest.number rest.target) h in
      record { skips = λ f. no-numbers rest.skip rest.number both.0 f; lead = leads-to rest.number rest.target both.1 w }

  answers-fit : (answers : List Answer) → are_answers p answers ≡ true → AnswersFit p answers
  answers-fit answers h =
      let three = both-true _ (in_row answer_follows answers) h in
      let two = both-true _ (list_all (is_answer p) answers) three.0 in
      record {
        few = leb-true (length answers) most_answers two.0;
        ascend = row-ascends answer_follows (λ a. Unit {0}) (λ a b. a.number < b.number) (λ a b f. ltb-true a.number b.number f)
            (λ a b c one low f. (let up : b.number < c.number = ltb-true b.number c.number f in omega (arith, low, up))) answers (λ i a at. tt) three.1;
        lead = λ i a at. leads-to None a.target (each-passes (is_answer p) answers two.1 i a at) refl;
      }

  -- the reason of a state is one of all reasons
  reason-listed : (states : List State) (i : ℕ) (s : State) (reason : List ℕ) → slice_get states i ≡ Some s → reason_of s.instr ≡ reason ∷ [] →
      (j : ℕ) × (slice_get (reasons_of states) j ≡ Some reason)
  reason-listed [] i s reason at is = absurd cc
  reason-listed (x ∷ states) zero s reason at is =
      let same : x ≡ s = cc in
      (0, ap (λ (rs : List (List ℕ)). slice_get (rs ++ reasons_of states) 0) (ap (λ (y : State). reason_of y.instr) same ∙ is))
  reason-listed (x ∷ states) (suc i) s reason at is =
      let rest = reason-listed states i s reason at is in
      (length (reason_of x.instr) + rest.0, get-far (reason_of x.instr) (reasons_of states) rest.0 reason rest.1)

  reason-right : (i : ℕ) (s : State) (reason : List ℕ) → slice_get p.states i ≡ Some s → reason_of s.instr ≡ reason ∷ [] → is_reason reason ≡ true
  reason-right i s reason at is =
      let listed = reason-listed p.states i s reason at is in
      elim (cases_Bool (is_reason reason)) [
        | inl right ↦ right
        | inr wrong ↦ absurd (names (length p.props + length p.hosts + length p.spans + length p.names + listed.0)
            (inr (inr (inr (inr (listed.0, refl, (reason, listed.1, wrong)))))))
      ]

  instr-fits : (i : Instr) → is_instr p i ≡ true → is_wide_instr p i ≡ false → ((reason : List ℕ) → reason_of i ≡ reason ∷ [] → is_reason reason ≡ true) → InstrFits p i
  instr-fits (Branch fold stay edges rest) h w right =
      let both = both-true (are_edges p edges) (is_rest p rest) h in
      let narrow = or_parts (list_any (is_wide_edge p) edges) (is_wide_number p rest.number rest.target) w in
      (edges-fit edges both.0 narrow.0, rest-fits rest both.1 narrow.1)
  instr-fits (Invoke what answers other) h w right =
      let outer = both-true (is_code p what && are_answers p answers) (leads p None other) h in
      let inner = both-true (is_code p what) (are_answers p answers) outer.0 in
      (code-fits p what inner.0 w, answers-fit answers inner.1, leads-to None other outer.1 refl)
  instr-fits (Consume prop next) h w right =
      let both = both-true (nat_lt prop (length p.props)) (leads p None next) h in
      (ltb-true prop (length p.props) both.0, leads-to None next both.1 refl)
  instr-fits (SpanOpen span next) h w right =
      let both = both-true (nat_lt span (length p.spans)) (leads p None next) h in
      (ltb-true span (length p.spans) both.0, leads-to None next both.1 refl)
  instr-fits (SpanClose span next) h w right =
      let both = both-true (nat_lt span (length p.spans)) (leads p None next) h in
      (ltb-true span (length p.spans) both.0, leads-to None next both.1 refl)
  instr-fits (Pause number reason next) h w right = (right reason refl, leads-to None next h refl)
  instr-fits (Fail number reason) h w right = right reason refl

  pub state-fits : (i : ℕ) (s : State) → slice_get p.states i ≡ Some s → StateFits p s
  state-fits i s at =
      let both = both-true (nat_lt s.origin (length p.names)) (is_instr p s.instr) (state-passes p targets i s at) in
      (ltb-true s.origin (length p.names) both.0, instr-fits s.instr both.1 (state-narrow i s at) (λ reason is. reason-right i s reason at is))

  pub entry-leads : Leads p None p.entry
  entry-leads =
      let outer = both-true (leads p None p.entry && is_finish p p.finish) (are_counts p) (frame-right p targets) in
      leads-to None p.entry (both-true (leads p None p.entry) (is_finish p p.finish) outer.0).0 refl

  match-host : (o : Option HostDecl) → is_match_host o ≡ true → (host : HostDecl) × (o ≡ Some host) × (host.value ≡ false)
  match-host None h = absurd (false≢true h)
  match-host (Some host) h = (host, refl, not-true host.value h)

  finish-by : (finish : Option (ℕ × ℕ)) → is_finish p finish ≡ true → FinishFits p finish
  finish-by None h = tt
  finish-by (Some rule) h =
      let both = both-true (nat_lt rule.0 (length p.props)) (is_match_host (slice_get p.hosts rule.1)) h in
      let host = match-host (slice_get p.hosts rule.1) both.1 in
      (ltb-true rule.0 (length p.props) both.0, host.0, host.1, host.2)

  pub finish-fits : FinishFits p p.finish
  finish-fits =
      let outer = both-true (leads p None p.entry && is_finish p p.finish) (are_counts p) (frame-right p targets) in
      finish-by p.finish (both-true (leads p None p.entry) (is_finish p p.finish) outer.0).1

  pub limits : HasLimits p
  limits = (let counts : Counts p = counts-of p targets in record { props = counts.props; hosts = counts.hosts; spans = counts.spans; names = counts.names; states = counts.states })

-- what a run of a verified program rests on
pub runnable : (v : Sound) → IsVerified v → IsRunnable v
runnable v is =
    let p : Program = v.program in
    let targets : Holds p Target = is.valid Target in
    let widths : Holds p Width = is.valid Width in
    let names : Holds p Names = is.valid Names in
    let fit : Holds p Spans = is.valid Spans in
    record {
      limits = limits p targets widths names;
      entry = entry-leads p targets widths names;
      finish = finish-fits p targets widths names;
      states = state-fits p targets widths names;
      gap = is.exact_gap;
      ranks = is.ranks;
      spans = record {
        entry = stands-entry p;
        kept = stands-kept p (sound-of p targets);
        opens_shut = opened-shut p fit;
        closes_open = closed-open p fit;
        masks = mask-open p fit v.opened is.exact_spans;
      };
    }
