-- What is spelled is read again: codes, states, and all parts.
use Rattle.std.proofs.Common.{◌≡◌, ℕ, zero, suc, ◌+◌, ◌-◌, ◌^◌, ◌<◌, ◌≤◌, Bool, true, false, ◌&&◌, List, [], ◌∷◌, ◌++◌, length, All, Option, Some, None, Result, Ok, Err, refl, sym, ap, subst, ◌∙◌, append_assoc, leb, arith}
use Rattle.std.specs.Prelude.{slice_get, nat_lt, nat_le}
use Rattle.std.specs.List.{flat_map, list_all}
use Rattle.std.specs.Int.{w8, w16, w32, w64, to_be_bytes}
use Rattle.std.proofs.lemmas.Bool.{and_parts, leb-true}
use Rattle.std.proofs.lemmas.List.{append-nil}
use Rattle.pp_bytes.specs.declared.fold.Fold.{Fold}
use Rattle.pp_bytes.specs.declared.fold.Fold.TheVariants.{Same, Lower}
use Rattle.pp_rules.specs.Rules.Limits.{most_props, most_hosts, most_spans}
use Rattle.pp_rules.specs.declared.declaration.PropDecl.{PropDecl}
use Rattle.pp_rules.specs.declared.declaration.HostDecl.{HostDecl}
use Rattle.pp_rules.specs.declared.declaration.SpanDecl.{SpanDecl}
use Rattle.pp_graph.specs.declared.node.Answer.{Answer}
use Rattle.pp_graph.specs.declared.node.Code.{Code}
use Rattle.pp_graph.specs.declared.node.Code.TheVariants as code
use Rattle.pp_program.specs.declared.program.Edge.{Edge}
use Rattle.pp_program.specs.declared.program.Rest.{Rest}
use Rattle.pp_program.specs.declared.program.Instr.{Instr}
use Rattle.pp_program.specs.declared.program.Instr.TheVariants.{Branch, Invoke, Consume, SpanOpen, SpanClose, Pause, Fail}
use Rattle.pp_program.specs.declared.program.State.{State}
use Rattle.pp_program.specs.declared.program.Program.{Program}
use Rattle.pp_program.specs.declared.fault.VerifyRule.TheVariants.{Target}
use Rattle.pp_program.specs.Targets.{leads, is_edge, is_rest, is_answer, is_code, are_edges, are_answers, is_instr, is_state, is_finish, are_counts, in_row, may_follow, answer_follows, most_edges, most_answers, most_names, most_states}
use Rattle.pp_program.specs.Valid.{Holds, IsValid}
use Rattle.pp_program.specs.steps.Rows.{Counts as HasCounts}
use Rattle.pp_program.proofs.SoundLemmas.{each-passes, counts-of, frame-right}
use Rattle.pp_file.specs.declared.declarations.Counts.{Counts}
use Rattle.pp_file.specs.Fields.{Left, Next, ◌>>=◌, field_at, number_at, within, text_at, items_at, any_at}
use Rattle.pp_file.specs.Parts.{finish_at, prop_at, host_at, span_at, range_at, edge_at, rest_at, answer_at, muladd_at, valued, value_at, constants_at, code_at, answers_at, invoke_at, next_at, fold_of, branch_at, pause_at, fail_at, body_at, state_at, counts_at, parts_at}
use Rattle.pp_file.specs.Reading.{all_at}
use Rattle.pp_file.specs.Held.{IsText, IsNumber, IsHeldEdge, IsHeldCode, IsHeldInstr, IsHeld}
use Rattle.pp_file.specs.Spelling.{text, fold_byte, spelled_prop, spelled_host, spelled_span, spelled_range, spelled_edge, spelled_rest, spelled_answer, spelled_answers, spelled_finish, spelled_code, spelled_instr, spelled_state, spelled_counts, spelled_parts}
use Rattle.pp_file.specs.steps.Places.{EdgeFits, CodeFits, InstrFits, StateFits, ProgramFits}
use Rattle.pp_file.proofs.ListLemmas.{All-both, All-from_places}
use Rattle.pp_file.proofs.PlaceLemmas.{state-right, program_fits}
use Rattle.pp_file.proofs.FieldLemmas.{to_end, byte_again, text_again}
use Rattle.pp_file.proofs.AgainLemmas.{IsAgain, RowAgain, items_again, free_row, byte_within_again, short_within_again, short_again, long_again, wide_again, prop_again, host_again, span_again, name_again, finish_again, stay_again, edges_again, rest_again, answers_again}

-- the answers behind a code
all_answers_again : (what : Code) (answers : List Answer) (other : ℕ) → length answers < 2 ^ 16 → RowAgain answer_at spelled_answer None answers → other < 2 ^ 16
    → (limit : ℕ) (rest : List ℕ) → answers_at what (to_end limit (spelled_answers answers other ++ rest)) ≡ Ok (Invoke what answers other, to_end limit rest)
unfolding answers_at
all_answers_again what answers other few row short limit rest =
    ap (λ (bytes : List ℕ). answers_at what (to_end limit (to_be_bytes w16 (length answers) ++ bytes))) (append_assoc (flat_map spelled_answer answers) (to_be_bytes w16 other) rest)
    ∙ rw (
      short_again limit (length answers) (flat_map spelled_answer answers ++ (to_be_bytes w16 other ++ rest)) few,
      items_again answer_at spelled_answer None answers row limit (to_be_bytes w16 other ++ rest),
      short_again limit other rest short,
    ) refl

-- what a kind and its body are read as
abbrev kind_at : Left → Next Instr
kind_at left = number_at w8 (within 0 14) left >>= λ kind. body_at kind.0 kind.1

-- a kind's byte is read
start : (kind limit : ℕ) (bytes : List ℕ) → kind ≤ 14 → kind_at (to_end limit (kind ∷ bytes)) ≡ body_at kind (to_end limit bytes)
start kind limit bytes le = rw (byte_within_again 0 14 limit kind bytes (omega arith) (omega arith) le) refl

-- behind the bytes of a code its answers are read
code_again : (what : Code) → CodeFits what → IsHeldCode what → (limit : ℕ) (rest : List ℕ) → kind_at (to_end limit (spelled_code what ++ rest)) ≡ answers_at what (to_end limit rest)
unfolding body_at invoke_at code_at constants_at value_at muladd_at
code_again (code.Call host) fits held limit rest = start 1 limit (host ∷ rest) (omega arith) ∙ rw (byte_again limit host rest fits) refl
code_again (code.Store prop) fits held limit rest = start 2 limit (prop ∷ rest) (omega arith) ∙ rw (byte_again limit prop rest fits) refl
code_again (code.Load prop) fits held limit rest = start 3 limit (prop ∷ rest) (omega arith) ∙ rw (byte_again limit prop rest fits) refl
code_again (code.Update prop value) fits held limit rest =
    start 4 limit (prop ∷ (to_be_bytes w64 value ++ rest)) (omega arith) ∙ rw (byte_again limit prop (to_be_bytes w64 value ++ rest) fits, wide_again limit value rest held) refl
code_again (code.Equal prop value) fits held limit rest =
    start 5 limit (prop ∷ (to_be_bytes w64 value ++ rest)) (omega arith) ∙ rw (byte_again limit prop (to_be_bytes w64 value ++ rest) fits, wide_again limit value rest held) refl
code_again (code.And prop value) fits held limit rest =
    start 6 limit (prop ∷ (to_be_bytes w64 value ++ rest)) (omega arith) ∙ rw (byte_again limit prop (to_be_bytes w64 value ++ rest) fits, wide_again limit value rest held) refl
code_again (code.Or prop value) fits held limit rest =
    start 7 limit (prop ∷ (to_be_bytes w64 value ++ rest)) (omega arith) ∙ rw (byte_again limit prop (to_be_bytes w64 value ++ rest) fits, wide_again limit value rest held) refl
code_again (code.Test prop value) fits held limit rest =
    start 8 limit (prop ∷ (to_be_bytes w64 value ++ rest)) (omega arith) ∙ rw (byte_again limit prop (to_be_bytes w64 value ++ rest) fits, wide_again limit value rest held) refl
code_again (code.MulAdd prop base most) fits held limit rest =
    start 9 limit (prop ∷ (to_be_bytes w32 base ++ (to_be_bytes w64 most ++ rest))) (omega arith)
    ∙ rw (byte_again limit prop (to_be_bytes w32 base ++ (to_be_bytes w64 most ++ rest)) fits, long_again limit base (to_be_bytes w64 most ++ rest) held.0, wide_again limit most rest held.1) refl

-- the lists of a state can be read item by item
abbrev pub HasRows : Instr → Type 0
HasRows (Branch fold stay edges rest) =
    RowAgain range_at spelled_range None stay × (length stay ≤ 8) × RowAgain edge_at spelled_edge None edges × (length edges ≤ most_edges)
HasRows (Invoke what answers other) = RowAgain answer_at spelled_answer None answers
HasRows (Consume prop next) = Unit {0}
HasRows (SpanOpen span next) = Unit {0}
HasRows (SpanClose span next) = Unit {0}
HasRows (Pause number reason next) = Unit {0}
HasRows (Fail number reason) = Unit {0}

fold_again : (limit : ℕ) (fold : Fold) (rest : List ℕ) → (number_at w8 (within 0 1) (to_end limit (fold_byte fold ∷ rest)) ≡ Ok (fold_byte fold, to_end limit rest)) × (fold_of (fold_byte fold) ≡ fold)
fold_again limit Same rest = (byte_within_again 0 1 limit 0 rest (omega arith) (omega arith) (omega arith), refl)
fold_again limit Lower rest = (byte_within_again 0 1 limit 1 rest (omega arith) (omega arith) (omega arith), refl)

branch_again : (fold : Fold) (stay : List (ℕ × ℕ)) (edges : List Edge) (r : Rest) → InstrFits (Branch fold stay edges r) → IsHeldInstr (Branch fold stay edges r) → HasRows (Branch fold stay edges r)
    → (limit : ℕ) (rest : List ℕ)
    → branch_at (to_end limit (fold_byte fold ∷ length stay ∷ (flat_map spelled_range stay ++ (to_be_bytes w16 (length edges) ++ (flat_map spelled_edge edges ++ (spelled_rest r ++ rest))))))
    ≡ Ok (Branch fold stay edges r, to_end limit rest)
unfolding branch_at
branch_again fold stay edges r fits held rows limit rest =
    let last : List ℕ = spelled_rest r ++ rest in
    let listed : List ℕ = flat_map spelled_edge edges ++ last in
    let counted : List ℕ = to_be_bytes w16 (length edges) ++ listed in
    let stayed : List ℕ = flat_map spelled_range stay ++ counted in
    let folded = fold_again limit fold (length stay ∷ stayed) in
    rw (
      folded.0,
      byte_within_again 0 8 limit (length stay) stayed (omega (arith, rows.1)) (omega arith) rows.1,
      items_again range_at spelled_range None stay rows.0 limit counted,
      short_within_again 0 most_edges limit (length edges) listed (omega (arith, rows.3)) (omega arith) rows.3,
      items_again edge_at spelled_edge None edges rows.2 limit last,
      rest_again r.skip r.number r.target fits.1.target held.2 fits.1.flag limit rest,
      folded.1,
    ) refl

branch_regroup : (a b c d rest : List ℕ) → (a ++ (b ++ (c ++ d))) ++ rest ≡ a ++ (b ++ (c ++ (d ++ rest)))
branch_regroup a b c d rest = simp append_assoc

next_again : (kind limit at next : ℕ) (instr_of : ℕ → ℕ → Instr) (rest : List ℕ) → at < 2 ^ 8 → next < 2 ^ 16
    → next_at instr_of (to_end limit (at ∷ (to_be_bytes w16 next ++ rest))) ≡ Ok (instr_of at next, to_end limit rest)
unfolding next_at
next_again kind limit at next instr_of rest place short = rw (byte_again limit at (to_be_bytes w16 next ++ rest) place, short_again limit next rest short) refl

pause_again : (limit number : ℕ) (reason : List ℕ) (next : ℕ) (rest : List ℕ) → number < 2 ^ 32 → length reason < 256 → next < 2 ^ 16
    → pause_at (to_end limit (to_be_bytes w32 number ++ (text reason ++ (to_be_bytes w16 next ++ rest)))) ≡ Ok (Pause number reason next, to_end limit rest)
unfolding pause_at
pause_again limit number reason next rest held long short =
    rw (long_again limit number (text reason ++ (to_be_bytes w16 next ++ rest)) held, text_again limit reason (to_be_bytes w16 next ++ rest) long, short_again limit next rest short) refl

fail_again : (limit number : ℕ) (reason rest : List ℕ) → number < 2 ^ 32 → length reason < 256
    → fail_at (to_end limit (to_be_bytes w32 number ++ (text reason ++ rest))) ≡ Ok (Fail number reason, to_end limit rest)
unfolding fail_at
fail_again limit number reason rest held long = rw (long_again limit number (text reason ++ rest) held, text_again limit reason rest long) refl

instr_again : (i : Instr) → InstrFits i → IsHeldInstr i → HasRows i → IsAgain kind_at spelled_instr i
unfolding body_at
instr_again (Branch fold stay edges r) fits held rows limit rest =
    start 0 limit (fold_byte fold ∷ length stay ∷ ((flat_map spelled_range stay ++ (to_be_bytes w16 (length edges) ++ (flat_map spelled_edge edges ++ spelled_rest r))) ++ rest)) (omega arith)
    ∙ ap (λ (bytes : List ℕ). branch_at (to_end limit (fold_byte fold ∷ length stay ∷ bytes)))
    (branch_regroup (flat_map spelled_range stay) (to_be_bytes w16 (length edges)) (flat_map spelled_edge edges) (spelled_rest r) rest)
    ∙ branch_again fold stay edges r fits held rows limit rest
instr_again (Invoke what answers other) fits held rows limit rest =
    ap (λ (bytes : List ℕ). kind_at (to_end limit bytes)) (append_assoc (spelled_code what) (spelled_answers answers other) rest)
    ∙ code_again what fits.0 held.0 limit (spelled_answers answers other ++ rest)
    ∙ all_answers_again what answers other fits.1.count rows fits.2 limit rest
instr_again (Consume prop next) fits held rows limit rest =
    start 10 limit (prop ∷ (to_be_bytes w16 next ++ rest)) (omega arith) ∙ next_again 10 limit prop next Consume rest fits.0 fits.1
instr_again (SpanOpen span next) fits held rows limit rest =
    start 11 limit (span ∷ (to_be_bytes w16 next ++ rest)) (omega arith) ∙ next_again 11 limit span next SpanOpen rest fits.0 fits.1
instr_again (SpanClose span next) fits held rows limit rest =
    start 12 limit (span ∷ (to_be_bytes w16 next ++ rest)) (omega arith) ∙ next_again 12 limit span next SpanClose rest fits.0 fits.1
instr_again (Pause number reason next) fits held rows limit rest =
    start 13 limit ((to_be_bytes w32 number ++ (text reason ++ to_be_bytes w16 next)) ++ rest) (omega arith)
    ∙ ap (λ (bytes : List ℕ). pause_at (to_end limit (to_be_bytes w32 number ++ bytes))) (append_assoc (text reason) (to_be_bytes w16 next) rest)
    ∙ pause_again limit number reason next rest held.0 held.1.short fits
instr_again (Fail number reason) fits held rows limit rest =
    start 14 limit ((to_be_bytes w32 number ++ text reason) ++ rest) (omega arith) ∙ fail_again limit number reason rest held.0 held.1.short

bind_assoc : {A B C : Type 0} (m : Result A ℕ) (f : A → Result B ℕ) (g : B → Result C ℕ) → ((m >>= f) >>= g) ≡ (m >>= λ x. (f x >>= g))
bind_assoc (Ok x) f g = refl
bind_assoc (Err place) f g = refl

-- a state that is read again
pub record IsReady (s : State) : Type 0 where
  pub fits : StateFits s
  pub held : IsHeldInstr s.instr
  pub rows : HasRows s.instr

state_again : (s : State) → IsReady s → IsAgain state_at spelled_state s
unfolding state_at
state_again s ready limit rest =
    let named : Instr × Left → Next State = λ (read : Instr × Left). Ok (record { origin = s.origin; instr = read.0 }, read.1) in
    rw (short_again limit s.origin (spelled_instr s.instr ++ rest) ready.fits.origin)
    (sym (bind_assoc (number_at w8 (within 0 14) (to_end limit (spelled_instr s.instr ++ rest))) (λ kind. body_at kind.0 kind.1) named)
    ∙ ap (λ (read : Next Instr). read >>= named) (instr_again s.instr ready.fits.instr ready.held ready.rows limit rest))

-- ---- what the rules of a program say of its lists

edges_ordered : (p : Program) (edges : List Edge) → list_all (is_edge p) edges ≡ true → All (λ (e : Edge). e.lo ≤ e.hi) edges
edges_ordered p edges h = All-from_places Edge (λ (e : Edge). e.lo ≤ e.hi) edges (λ i e at.
    let two = and_parts _ (leads p e.number e.target) (each-passes (is_edge p) edges h i e at) in
    let one = and_parts (nat_le e.lo e.hi) _ two.0 in
    leb-true e.lo e.hi one.0)

rows_of : (p : Program) (i : Instr) → is_instr p i ≡ true → InstrFits i → IsHeldInstr i → HasRows i
rows_of p (Branch fold stay edges rest) h fits held =
    let two = and_parts (are_edges p edges) (is_rest p rest) h in
    let three = and_parts _ (in_row may_follow edges) two.0 in
    let each = and_parts (nat_le (length edges) most_edges) (list_all (is_edge p) edges) three.0 in
    (stay_again stay held.0, held.0.few, edges_again None edges three.1 (edges_ordered p edges each.1) fits.0.each held.1, leb-true (length edges) most_edges each.0)
rows_of p (Invoke what answers other) h fits held =
    let two = and_parts _ (leads p None other) h in
    let one = and_parts (is_code p what) (are_answers p answers) two.0 in
    let three = and_parts _ (in_row answer_follows answers) one.1 in
    answers_again None answers three.1 held.1 fits.1.each
rows_of p (Consume prop next) h fits held = tt
rows_of p (SpanOpen span next) h fits held = tt
rows_of p (SpanClose span next) h fits held = tt
rows_of p (Pause number reason next) h fits held = tt
rows_of p (Fail number reason) h fits held = tt

ready : (p : Program) (s : State) → is_state p s ≡ true → StateFits s → IsHeldInstr s.instr → IsReady s
ready p s right fits held =
    let two = and_parts (nat_lt s.origin (length p.names)) (is_instr p s.instr) right in
    record { fits = fits; held = held; rows = rows_of p s.instr two.1 fits.instr held }

all_ready : (p : Program) → IsValid p → IsHeld p → All IsReady p.states
all_ready p valid held =
    let right : All (λ (s : State). is_state p s ≡ true) p.states = All-from_places State (λ (s : State). is_state p s ≡ true) p.states (λ i s at. state-right p (valid Target) i s at) in
    let both : All (λ (s : State). StateFits s × IsHeldInstr s.instr) p.states =
    All-both State StateFits (λ (s : State). IsHeldInstr s.instr) (λ (s : State). StateFits s × IsHeldInstr s.instr) (λ s a b. (a, b)) p.states (program_fits p valid).each held.states in
    All-both State (λ (s : State). is_state p s ≡ true) (λ (s : State). StateFits s × IsHeldInstr s.instr) IsReady (λ s a b. ready p s a b.0 b.1) p.states right both

-- ---- all parts

-- there are names and states
some_of : (p : Program) → IsValid p → (1 ≤ length p.names) × (1 ≤ length p.states)
some_of p valid =
    let a = and_parts _ _ (and_parts (leads p None p.entry && is_finish p p.finish) (are_counts p) (frame-right p (valid Target))).1 in
    let b = and_parts _ _ a.0 in
    let c = and_parts _ _ b.0 in
    let d = and_parts _ _ c.0 in
    let e = and_parts _ _ d.0 in
    (leb-true 1 (length p.names) e.1, leb-true 1 (length p.states) c.1)

abbrev counts_of : Program → Counts
counts_of p = record { props = length p.props; hosts = length p.hosts; spans = length p.spans; names = length p.names; states = length p.states; entry = p.entry }

counts_again : (p : Program) → IsValid p → (limit : ℕ) (rest : List ℕ) → counts_at (to_end limit (spelled_counts p ++ rest)) ≡ Ok (counts_of p, to_end limit rest)
unfolding counts_at spelled_counts
counts_again p valid limit rest =
    let fits = program_fits p valid in
    let c : HasCounts p = counts-of p (valid Target) in
    let last : List ℕ = to_be_bytes w16 p.entry ++ rest in
    let states : List ℕ = to_be_bytes w16 (length p.states) ++ last in
    let names : List ℕ = to_be_bytes w16 (length p.names) ++ states in
    rw (
      byte_within_again 0 most_props limit (length p.props) (length p.hosts ∷ length p.spans ∷ names) fits.props (omega arith) (omega (arith, c.props)),
      byte_within_again 0 most_hosts limit (length p.hosts) (length p.spans ∷ names) fits.hosts (omega arith) (omega (arith, c.hosts)),
      byte_within_again 0 most_spans limit (length p.spans) names fits.spans (omega arith) (omega (arith, c.spans)),
      short_within_again 1 most_names limit (length p.names) states fits.names (some_of p valid).0 (omega (arith, c.names)),
      short_within_again 1 most_states limit (length p.states) last fits.states (some_of p valid).1 (omega (arith, c.states)),
      short_again limit p.entry rest fits.entry,
    ) refl

parts_regroup : (c f p h s n q rest : List ℕ) → (c ++ (f ++ (p ++ (h ++ (s ++ (n ++ q)))))) ++ rest ≡ c ++ (f ++ (p ++ (h ++ (s ++ (n ++ (q ++ rest))))))
parts_regroup c f p h s n q rest = simp append_assoc

parts_again : (p : Program) → IsValid p → IsHeld p → IsAgain parts_at spelled_parts p
unfolding parts_at spelled_parts
parts_again p valid held limit rest =
    let q : List ℕ = flat_map spelled_state p.states ++ rest in
    let n : List ℕ = flat_map text p.names ++ q in
    let s : List ℕ = flat_map spelled_span p.spans ++ n in
    let h : List ℕ = flat_map spelled_host p.hosts ++ s in
    let d : List ℕ = flat_map spelled_prop p.props ++ h in
    let f : List ℕ = spelled_finish p.finish ++ d in
    ap (λ (bytes : List ℕ). parts_at (to_end limit bytes))
    (parts_regroup (spelled_counts p) (spelled_finish p.finish) (flat_map spelled_prop p.props) (flat_map spelled_host p.hosts) (flat_map spelled_span p.spans) (flat_map text p.names) (flat_map spelled_state p.states) rest)
    ∙ rw (
      counts_again p valid limit f,
      finish_again p.finish (program_fits p valid).finish limit d,
      items_again (λ _. prop_at) spelled_prop None p.props (free_row prop_at spelled_prop (λ (x : PropDecl). IsText x.name) prop_again None p.props held.props) limit h,
      items_again (λ _. host_at) spelled_host None p.hosts (free_row host_at spelled_host (λ (x : HostDecl). IsText x.name) host_again None p.hosts held.hosts) limit s,
      items_again (λ _. span_at) spelled_span None p.spans (free_row span_at spelled_span (λ (x : SpanDecl). IsText x.name) span_again None p.spans held.spans) limit n,
      items_again (λ _. text_at) text None p.names (free_row text_at text IsText name_again None p.names held.names) limit q,
      items_again (λ _. state_at) spelled_state None p.states (free_row state_at spelled_state IsReady state_again None p.states (all_ready p valid held)) limit rest,
    ) refl

-- its parts, and nothing behind them, give the program
pub all_again : (p : Program) (limit : ℕ) → IsValid p → IsHeld p → all_at (to_end limit (spelled_parts p)) ≡ Ok p
unfolding all_at
all_again p limit valid held =
    ap (λ (bytes : List ℕ). all_at (to_end limit bytes)) (sym (append-nil (spelled_parts p))) ∙ rw (parts_again p valid held limit []) refl
