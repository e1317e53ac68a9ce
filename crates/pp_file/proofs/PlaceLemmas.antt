-- A valid program has room in a file.
use Rattle.std.proofs.Common.{◌≡◌, ℕ, ◌<◌, ◌≤◌, ◌^◌, List, Option, Some, None, Bool, true, false, ◌&&◌, length, refl, inl, inr, arith}
use Rattle.std.specs.Prelude.{slice_get, nat_lt, nat_le, is_none, if◌then◌else◌}
use Rattle.std.specs.List.{list_all}
use Rattle.std.proofs.lemmas.Bool.{cases_Bool, false≢true, leb-true, ltb-true}
use Rattle.std.proofs.lemmas.Option.{slice_get_within}
use Rattle.pp_rules.specs.declared.declaration.HostDecl.{HostDecl}
use Rattle.pp_graph.specs.declared.node.Answer.{Answer}
use Rattle.pp_graph.specs.declared.node.Code.{Code}
use Rattle.pp_graph.specs.declared.node.Code.TheVariants as code
use Rattle.pp_program.specs.declared.program.Edge.{Edge}
use Rattle.pp_program.specs.declared.program.Rest.{Rest}
use Rattle.pp_program.specs.declared.program.Instr.{Instr}
use Rattle.pp_program.specs.declared.program.Instr.TheVariants.{Branch, Invoke, Consume, SpanOpen, SpanClose, Pause, Fail}
use Rattle.pp_program.specs.declared.program.State.{State}
use Rattle.pp_program.specs.declared.program.Program.{Program}
use Rattle.pp_program.specs.declared.fault.VerifyRule.TheVariants.{Target}
use Rattle.pp_program.specs.FileLength.{file_length}
use Rattle.pp_program.specs.Targets.{leads, is_edge, is_rest, is_answer, is_code, are_edges, are_answers, is_instr, is_state, is_match_host, is_finish, are_counts, in_row, may_follow, answer_follows, most_edges, most_answers, most_file_bytes}
use Rattle.pp_program.specs.Valid.{Holds, IsValid}
use Rattle.pp_program.specs.steps.Rows.{Counts}
use Rattle.pp_program.proofs.RowLemmas.{both-true}
use Rattle.pp_program.proofs.SoundLemmas.{each-passes, leads-within, frame-right, counts-of}
use Rattle.pp_file.specs.steps.Places.{IsFlagged, EdgeFits, RestFits, CodeFits, EdgesFit, AnswersFit, InstrFits, StateFits, FinishFits, ProgramFits}
use Rattle.pp_file.proofs.ListLemmas.{All-from_places}

leads-short : (p : Program) (number : Option ℕ) (target : ℕ) → Counts p → leads p number target ≡ true → target < 2 ^ 16
leads-short p number target c h = omega (arith, leads-within p number target h, c.states)

takes-flag : (takes : Bool) (number : Option ℕ) → (if takes then true else is_none number) ≡ true → IsFlagged takes true number
takes-flag takes None h = tt
takes-flag true (Some n) h = refl
takes-flag false (Some n) h = absurd (false≢true h)

skip-flag : (skip : Bool) (number : Option ℕ) → (if skip then is_none number else true) ≡ true → IsFlagged skip false number
skip-flag skip None h = tt
skip-flag true (Some n) h = absurd (false≢true h)
skip-flag false (Some n) h = refl

edge-fits : (p : Program) → Counts p → (e : Edge) → is_edge p e ≡ true → EdgeFits e
edge-fits p c e h =
    let two = both-true _ (leads p e.number e.target) h in
    let one = both-true (nat_le e.lo e.hi) (if e.take then true else is_none e.number) two.0 in
    record { flag = takes-flag e.take e.number one.1; target = leads-short p e.number e.target c two.1 }

edges-fit : (p : Program) → Counts p → (edges : List Edge) → are_edges p edges ≡ true → EdgesFit edges
edges-fit p c edges h =
    let three = both-true _ (in_row may_follow edges) h in
    let two = both-true (nat_le (length edges) most_edges) (list_all (is_edge p) edges) three.0 in
    record {
      count = omega (arith, leb-true (length edges) most_edges two.0);
      each = All-from_places Edge EdgeFits edges (λ i e at. edge-fits p c e (each-passes (is_edge p) edges two.1 i e at));
    }

rest-fits : (p : Program) → Counts p → (r : Rest) → is_rest p r ≡ true → RestFits r
rest-fits p c r h =
    let two = both-true (if r.skip then is_none r.number else true) (leads p r.number r.target) h in
    record { flag = skip-flag r.skip r.number two.0; target = leads-short p r.number r.target c two.1 }

below-short : (place count : ℕ) → count ≤ 64 → nat_lt place count ≡ true → place < 2 ^ 8
below-short place count few h = omega (arith, ltb-true place count h)

code-fits : (p : Program) → Counts p → (what : Code) → is_code p what ≡ true → CodeFits what
code-fits p c (code.Call host) h = below-short host (length p.hosts) c.hosts h
code-fits p c (code.Store prop) h = below-short prop (length p.props) c.props h
code-fits p c (code.Load prop) h = below-short prop (length p.props) c.props h
code-fits p c (code.Update prop value) h = below-short prop (length p.props) c.props h
code-fits p c (code.Equal prop value) h = below-short prop (length p.props) c.props h
code-fits p c (code.And prop value) h = below-short prop (length p.props) c.props h
code-fits p c (code.Or prop value) h = below-short prop (length p.props) c.props h
code-fits p c (code.Test prop value) h = below-short prop (length p.props) c.props h
code-fits p c (code.MulAdd prop base most) h = below-short prop (length p.props) c.props h

answers-fit : (p : Program) → Counts p → (answers : List Answer) → are_answers p answers ≡ true → AnswersFit answers
answers-fit p c answers h =
    let three = both-true _ (in_row answer_follows answers) h in
    let two = both-true (nat_le (length answers) most_answers) (list_all (is_answer p) answers) three.0 in
    record {
      count = omega (arith, leb-true (length answers) most_answers two.0);
      each = All-from_places Answer (λ (a : Answer). a.target < 2 ^ 16) answers (λ i a at. leads-short p None a.target c (each-passes (is_answer p) answers two.1 i a at));
    }

instr-fits : (p : Program) → Counts p → (i : Instr) → is_instr p i ≡ true → InstrFits i
instr-fits p c (Branch fold stay edges rest) h =
    let two = both-true (are_edges p edges) (is_rest p rest) h in
    (edges-fit p c edges two.0, rest-fits p c rest two.1)
instr-fits p c (Invoke what answers other) h =
    let two = both-true _ (leads p None other) h in
    let one = both-true (is_code p what) (are_answers p answers) two.0 in
    (code-fits p c what one.0, answers-fit p c answers one.1, leads-short p None other c two.1)
instr-fits p c (Consume prop next) h =
    let two = both-true (nat_lt prop (length p.props)) (leads p None next) h in
    (below-short prop (length p.props) c.props two.0, leads-short p None next c two.1)
instr-fits p c (SpanOpen span next) h =
    let two = both-true (nat_lt span (length p.spans)) (leads p None next) h in
    (below-short span (length p.spans) (omega (arith, c.spans)) two.0, leads-short p None next c two.1)
instr-fits p c (SpanClose span next) h =
    let two = both-true (nat_lt span (length p.spans)) (leads p None next) h in
    (below-short span (length p.spans) (omega (arith, c.spans)) two.0, leads-short p None next c two.1)
instr-fits p c (Pause number reason next) h = leads-short p None next c h
instr-fits p c (Fail number reason) h = tt

state-fits : (p : Program) → Counts p → (s : State) → is_state p s ≡ true → StateFits s
state-fits p c s h =
    let two = both-true (nat_lt s.origin (length p.names)) (is_instr p s.instr) h in
    record { origin = omega (arith, ltb-true s.origin (length p.names) two.0, c.names); instr = instr-fits p c s.instr two.1 }

pub state-right : (p : Program) → Holds p Target → (i : ℕ) (s : State) → slice_get p.states i ≡ Some s → is_state p s ≡ true
state-right p holds i s at = elim (cases_Bool (is_state p s)) [
  | inl right ↦ right
  | inr wrong ↦ absurd (holds i (inl (s, at, wrong)))
]

host-within : (hosts : List HostDecl) (host : ℕ) (o : Option HostDecl) → slice_get hosts host ≡ o → is_match_host o ≡ true → host < length hosts
host-within hosts host None at h = absurd (false≢true h)
host-within hosts host (Some d) at h = slice_get_within hosts host d at

finish-fits : (p : Program) → Counts p → (finish : Option (ℕ × ℕ)) → is_finish p finish ≡ true → FinishFits finish
finish-fits p c None h = tt
finish-fits p c (Some rule) h =
    let two = both-true (nat_lt rule.0 (length p.props)) (is_match_host (slice_get p.hosts rule.1)) h in
    (below-short rule.0 (length p.props) c.props two.0, omega (arith, host-within p.hosts rule.1 (slice_get p.hosts rule.1) refl two.1, c.hosts))

pub program_fits : (p : Program) → IsValid p → ProgramFits p
program_fits p valid =
    let c = counts-of p (valid Target) in
    let frame = both-true (leads p None p.entry && is_finish p p.finish) (are_counts p) (frame-right p (valid Target)) in
    let front = both-true (leads p None p.entry) (is_finish p p.finish) frame.0 in
    record {
      props = omega (arith, c.props);
      hosts = omega (arith, c.hosts);
      spans = omega (arith, c.spans);
      names = omega (arith, c.names);
      states = omega (arith, c.states);
      entry = leads-short p None p.entry c front.0;
      finish = finish-fits p c p.finish front.1;
      each = All-from_places State StateFits p.states (λ i s at. state-fits p c s (state-right p (valid Target) i s at));
    }

-- its file isn't too long
pub file-short : (p : Program) → IsValid p → file_length p ≤ most_file_bytes
file-short p valid =
    let frame = both-true (leads p None p.entry && is_finish p p.finish) (are_counts p) (frame-right p (valid Target)) in
    leb-true (file_length p) most_file_bytes (both-true _ (nat_le (file_length p) most_file_bytes) frame.1).1
