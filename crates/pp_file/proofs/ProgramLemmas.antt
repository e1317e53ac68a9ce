-- Programs, which their files tell.
use Rattle.std.proofs.Common.{◌≡◌, ℕ, List, [], ◌∷◌, ◌++◌, Option, length, All, refl, sym, ap, ◌∙◌}
use Rattle.std.specs.List.{flat_map}
use Rattle.std.specs.Int.{w16, w32, to_be_bytes}
use Rattle.pp_rules.specs.declared.declaration.PropDecl.{PropDecl}
use Rattle.pp_rules.specs.declared.declaration.HostDecl.{HostDecl}
use Rattle.pp_rules.specs.declared.declaration.SpanDecl.{SpanDecl}
use Rattle.pp_program.specs.declared.program.State.{State}
use Rattle.pp_program.specs.declared.program.Program.{Program}
use Rattle.pp_program.specs.FileLength.{file_length}
use Rattle.pp_file.specs.Held.{IsHeld, IsHeldInstr}
use Rattle.pp_file.specs.Spelling.{text, spelled_prop, spelled_host, spelled_span, spelled_finish, spelled_state, spelled_counts, spelled_parts, spelled, Spells}
use Rattle.pp_file.specs.steps.Places.{StateFits, ProgramFits}
use Rattle.pp_file.proofs.ListLemmas.{All-both}
use Rattle.pp_file.proofs.TellLemmas.{append_same, cons_same, regrouped, short_same, many_same, all_free}
use Rattle.pp_file.proofs.PartLemmas.{prop_same, host_same, span_same, name_same, finish_same}
use Rattle.pp_file.proofs.StateLemmas.{IsState, state_same}
use Rattle.pp_file.proofs.PlaceLemmas.{program_fits}

-- what the counts tell
record SameCounts (p q : Program) (x y : List ℕ) : Type 0 where
  props : length p.props ≡ length q.props
  hosts : length p.hosts ≡ length q.hosts
  spans : length p.spans ≡ length q.spans
  names : length p.names ≡ length q.names
  states : length p.states ≡ length q.states
  entry : p.entry ≡ q.entry
  rest : x ≡ y

counts_same : (p q : Program) (x y : List ℕ) → ProgramFits p → ProgramFits q → spelled_counts p ++ x ≡ spelled_counts q ++ y → SameCounts p q x y
unfolding spelled_counts
counts_same p q x y f g e =
    let p2 : List ℕ = to_be_bytes w16 (length p.states) ++ to_be_bytes w16 p.entry in
    let q2 : List ℕ = to_be_bytes w16 (length q.states) ++ to_be_bytes w16 q.entry in
    let p1 : List ℕ = to_be_bytes w16 (length p.names) ++ p2 in
    let q1 : List ℕ = to_be_bytes w16 (length q.names) ++ q2 in
    let props = cons_same (length p.props) (length q.props) (length p.hosts ∷ length p.spans ∷ (p1 ++ x)) (length q.hosts ∷ length q.spans ∷ (q1 ++ y)) e in
    let hosts = cons_same (length p.hosts) (length q.hosts) (length p.spans ∷ (p1 ++ x)) (length q.spans ∷ (q1 ++ y)) props.1 in
    let spans = cons_same (length p.spans) (length q.spans) (p1 ++ x) (q1 ++ y) hosts.1 in
    let names = short_same (length p.names) (length q.names) (p2 ++ x) (q2 ++ y) f.names g.names (regrouped (to_be_bytes w16 (length p.names)) p2 x (to_be_bytes w16 (length q.names)) q2 y spans.1) in
    let states = short_same (length p.states) (length q.states) (to_be_bytes w16 p.entry ++ x) (to_be_bytes w16 q.entry ++ y) f.states g.states
    (regrouped (to_be_bytes w16 (length p.states)) (to_be_bytes w16 p.entry) x (to_be_bytes w16 (length q.states)) (to_be_bytes w16 q.entry) y names.1) in
    let entry = short_same p.entry q.entry x y f.entry g.entry states.1 in
    record { props = props.0; hosts = hosts.0; spans = spans.0; names = names.0; states = states.0; entry = entry.0; rest = entry.1 }

-- the parts of a program
abbrev program_of : List PropDecl → List HostDecl → List SpanDecl → List (List ℕ) → List State → ℕ → Option (ℕ × ℕ) → Program
program_of props hosts spans names states entry finish = record { props = props; hosts = hosts; spans = spans; names = names; states = states; entry = entry; finish = finish }

program_is : (p q : Program) → p.props ≡ q.props → p.hosts ≡ q.hosts → p.spans ≡ q.spans → p.names ≡ q.names → p.states ≡ q.states → p.entry ≡ q.entry → p.finish ≡ q.finish → p ≡ q
program_is p q props hosts spans names states entry finish =
    let one : p ≡ program_of q.props p.hosts p.spans p.names p.states p.entry p.finish = ap (λ (z : List PropDecl). program_of z p.hosts p.spans p.names p.states p.entry p.finish) props in
    let two = ap (λ (z : List HostDecl). program_of q.props z p.spans p.names p.states p.entry p.finish) hosts in
    let three = ap (λ (z : List SpanDecl). program_of q.props q.hosts z p.names p.states p.entry p.finish) spans in
    let four = ap (λ (z : List (List ℕ)). program_of q.props q.hosts q.spans z p.states p.entry p.finish) names in
    let five = ap (λ (z : List State). program_of q.props q.hosts q.spans q.names z p.entry p.finish) states in
    let six = ap (λ (z : ℕ). program_of q.props q.hosts q.spans q.names q.states z p.finish) entry in
    let seven : program_of q.props q.hosts q.spans q.names q.states q.entry p.finish ≡ q = ap (λ (z : Option (ℕ × ℕ)). program_of q.props q.hosts q.spans q.names q.states q.entry z) finish in
    one ∙ two ∙ three ∙ four ∙ five ∙ six ∙ seven

are_states : (p : Program) → ProgramFits p → IsHeld p → All IsState p.states
are_states p f h = All-both State StateFits (λ (s : State). IsHeldInstr s.instr) IsState (λ s fits held. record { fits = fits; held = held }) p.states f.each h.states

-- the parts behind one, of a program
abbrev from_states : Program → List ℕ
from_states p = flat_map spelled_state p.states

abbrev from_names : Program → List ℕ
from_names p = flat_map text p.names ++ from_states p

abbrev from_spans : Program → List ℕ
from_spans p = flat_map spelled_span p.spans ++ from_names p

abbrev from_hosts : Program → List ℕ
from_hosts p = flat_map spelled_host p.hosts ++ from_spans p

abbrev from_props : Program → List ℕ
from_props p = flat_map spelled_prop p.props ++ from_hosts p

abbrev from_finish : Program → List ℕ
from_finish p = spelled_finish p.finish ++ from_props p

parts_same : (p q : Program) (x y : List ℕ) → ProgramFits p → ProgramFits q → IsHeld p → IsHeld q → spelled_parts p ++ x ≡ spelled_parts q ++ y → (p ≡ q) × (x ≡ y)
unfolding spelled_parts
parts_same p q x y f g h i e =
    let counts = counts_same p q (from_finish p ++ x) (from_finish q ++ y) f g (regrouped (spelled_counts p) (from_finish p) x (spelled_counts q) (from_finish q) y e) in
    let finish = finish_same p.finish q.finish (from_props p ++ x) (from_props q ++ y) (regrouped (spelled_finish p.finish) (from_props p) x (spelled_finish q.finish) (from_props q) y counts.rest) in
    let props = many_same PropDecl spelled_prop (λ d. Unit {0}) prop_same p.props q.props (from_hosts p ++ x) (from_hosts q ++ y) counts.props (all_free PropDecl p.props) (all_free PropDecl q.props)
    (regrouped (flat_map spelled_prop p.props) (from_hosts p) x (flat_map spelled_prop q.props) (from_hosts q) y finish.1) in
    let hosts = many_same HostDecl spelled_host (λ d. Unit {0}) host_same p.hosts q.hosts (from_spans p ++ x) (from_spans q ++ y) counts.hosts (all_free HostDecl p.hosts) (all_free HostDecl q.hosts)
    (regrouped (flat_map spelled_host p.hosts) (from_spans p) x (flat_map spelled_host q.hosts) (from_spans q) y props.1) in
    let spans = many_same SpanDecl spelled_span (λ d. Unit {0}) span_same p.spans q.spans (from_names p ++ x) (from_names q ++ y) counts.spans (all_free SpanDecl p.spans) (all_free SpanDecl q.spans)
    (regrouped (flat_map spelled_span p.spans) (from_names p) x (flat_map spelled_span q.spans) (from_names q) y hosts.1) in
    let names = many_same (List ℕ) text (λ s. Unit {0}) name_same p.names q.names (from_states p ++ x) (from_states q ++ y) counts.names (all_free (List ℕ) p.names) (all_free (List ℕ) q.names)
    (regrouped (flat_map text p.names) (from_states p) x (flat_map text q.names) (from_states q) y spans.1) in
    let states = many_same State spelled_state IsState state_same p.states q.states x y counts.states (are_states p f h) (are_states q g i) names.1 in
    (program_is p q props.0 hosts.0 spans.0 names.0 states.0 counts.entry finish.0, states.1)

-- what stands before the parts
abbrev head : Program → List ℕ
head p = 0x7f ∷ 0x4c ∷ 0x4c ∷ 0x50 ∷ 1 ∷ to_be_bytes w32 (file_length p)

spelled_same : (p q : Program) (x y : List ℕ) → ProgramFits p → ProgramFits q → IsHeld p → IsHeld q → spelled p ++ x ≡ spelled q ++ y → (p ≡ q) × (x ≡ y)
unfolding spelled
spelled_same p q x y f g h i e =
    let split = append_same (head p) (head q) (spelled_parts p ++ x) (spelled_parts q ++ y) refl (regrouped (head p) (spelled_parts p) x (head q) (spelled_parts q) y e) in
    parts_same p q x y f g h i split.1

-- no file begins another
pub prefix_free : (a b x y : List ℕ) (p q : Program) → IsHeld p → IsHeld q → Spells a p → Spells b q → a ++ x ≡ b ++ y → (a ≡ b) × (p ≡ q) × (x ≡ y)
prefix_free a b x y p q h i s t e =
    let same = spelled_same p q x y (program_fits p s.valid) (program_fits q t.valid) h i (ap (λ (z : List ℕ). z ++ x) (sym s.bytes_are) ∙ e ∙ ap (λ (z : List ℕ). z ++ y) t.bytes_are) in
    (s.bytes_are ∙ ap spelled same.0 ∙ sym t.bytes_are, same.0, same.1)

pub one_program : (bytes : List ℕ) (p q : Program) → IsHeld p → IsHeld q → Spells bytes p → Spells bytes q → p ≡ q
one_program bytes p q h i s t = (prefix_free bytes bytes [] [] p q h i s t refl).1
