-- Where the edges of a program lead, the places that it names, the form of its lists, and its counts.
use Rattle.std.specs.Prelude.{ℕ, ◌+◌, List, [], ◌∷◌, Option, Some, None, Bool, true, false, ◌&&◌, not, length, slice_get, nat_lt, nat_le, ◌==◌, is_none, if◌then◌else◌}
use Rattle.std.specs.List.{list_all}
use Rattle.pp_rules.specs.Rules.Limits.{most_props, most_hosts, most_spans}
use Rattle.pp_rules.specs.declared.declaration.HostDecl.{HostDecl}
use Rattle.pp_graph.specs.declared.node.Answer.{Answer}
use Rattle.pp_graph.specs.declared.node.Code.{Code}
use Rattle.pp_graph.specs.declared.node.Code.TheVariants as code
use Rattle.pp_graph.specs.Plan.{host_value}
use Rattle.pp_program.specs.declared.program.Edge.{Edge}
use Rattle.pp_program.specs.declared.program.Rest.{Rest}
use Rattle.pp_program.specs.declared.program.Instr.{Instr}
use Rattle.pp_program.specs.declared.program.Instr.TheVariants.{Branch, Invoke, Consume, SpanOpen, SpanClose, Pause, Fail}
use Rattle.pp_program.specs.declared.program.State.{State}
use Rattle.pp_program.specs.declared.program.Program.{Program}
use Rattle.pp_program.specs.FileLength.{file_length}

abbrev pub most_edges : ℕ
most_edges = 256

abbrev pub most_answers : ℕ
most_answers = 65535

abbrev pub most_names : ℕ
most_names = 4096

abbrev pub most_states : ℕ
most_states = 65535

abbrev pub most_file_bytes : ℕ
most_file_bytes = 16777216

-- a code of signature value: it uses the carried number. A host that isn't there has no signature.
abbrev pub is_value_code : Program → Code → Bool
is_value_code p (code.Call host) = host_value (slice_get p.hosts host)
is_value_code p (code.Store prop) = true
is_value_code p (code.Load prop) = false
is_value_code p (code.Update prop value) = false
is_value_code p (code.Equal prop value) = false
is_value_code p (code.And prop value) = false
is_value_code p (code.Or prop value) = false
is_value_code p (code.Test prop value) = false
is_value_code p (code.MulAdd prop base most) = true

-- an invoke of signature value
abbrev pub is_value_instr : Program → Instr → Bool
is_value_instr p (Branch fold stay edges rest) = false
is_value_instr p (Invoke what answers other) = is_value_code p what
is_value_instr p (Consume prop next) = false
is_value_instr p (SpanOpen span next) = false
is_value_instr p (SpanClose span next) = false
is_value_instr p (Pause number reason next) = false
is_value_instr p (Fail number reason) = false

-- the state at a place is there, and is one
abbrev pub is_value_state : Program → Option State → Bool
is_value_state p None = false
is_value_state p (Some s) = is_value_instr p s.instr

-- the state at a place is there, and is none
abbrev pub is_plain_state : Program → Option State → Bool
is_plain_state p None = false
is_plain_state p (Some s) = not (is_value_instr p s.instr)

-- An edge leads to a state: with a number to an invoke of signature value, without one to no such state.
abbrev pub leads : Program → Option ℕ → ℕ → Bool
leads p None target = is_plain_state p (slice_get p.states target)
leads p (Some number) target = is_value_state p (slice_get p.states target)

-- an edge of a branch: its bytes are some, it has a number only where it takes its byte, and it leads to a state
abbrev pub is_edge : Program → Edge → Bool
is_edge p e = nat_le e.lo e.hi && (if e.take then true else is_none e.number) && leads p e.number e.target

-- the rest of a branch: it has no number where it is a skip, and leads to a state
abbrev pub is_rest : Program → Rest → Bool
is_rest p r = (if r.skip then is_none r.number else true) && leads p r.number r.target

abbrev pub same_number : Option ℕ → Option ℕ → Bool
same_number None None = true
same_number None (Some n) = false
same_number (Some m) None = false
same_number (Some m) (Some n) = m == n

-- the edges do the same on their bytes
abbrev pub is_alike : Edge → Edge → Bool
is_alike e f = (if e.take then f.take else not f.take) && same_number e.number f.number && e.target == f.target

-- an edge may stand right behind another: its bytes are above, and it isn't the same edge gone on with
abbrev pub may_follow : Edge → Edge → Bool
may_follow e f = nat_lt e.hi f.lo && not (e.hi + 1 == f.lo && is_alike e f)

-- the first of these may stand right behind x, and each behind the one before it
abbrev pub row_behind : {X : Type 0} → (X → X → Bool) → X → List X → Bool
row_behind follows x [] = true
row_behind follows x (y ∷ ys) = follows x y && row_behind follows y ys

-- each element may stand right behind the one before it
abbrev pub in_row : {X : Type 0} → (X → X → Bool) → List X → Bool
in_row follows [] = true
in_row follows (x ∷ xs) = row_behind follows x xs

-- an answer leads to a state
abbrev pub is_answer : Program → Answer → Bool
is_answer p a = leads p None a.target

-- answers stand by their numbers
abbrev pub answer_follows : Answer → Answer → Bool
answer_follows a b = nat_lt a.number b.number

-- a code's host or property is there
abbrev pub is_code : Program → Code → Bool
is_code p (code.Call host) = nat_lt host (length p.hosts)
is_code p (code.Store prop) = nat_lt prop (length p.props)
is_code p (code.Load prop) = nat_lt prop (length p.props)
is_code p (code.Update prop value) = nat_lt prop (length p.props)
is_code p (code.Equal prop value) = nat_lt prop (length p.props)
is_code p (code.And prop value) = nat_lt prop (length p.props)
is_code p (code.Or prop value) = nat_lt prop (length p.props)
is_code p (code.Test prop value) = nat_lt prop (length p.props)
is_code p (code.MulAdd prop base most) = nat_lt prop (length p.props)

-- the edges of a branch, and the answers of an invoke
abbrev pub are_edges : Program → List Edge → Bool
are_edges p edges = nat_le (length edges) most_edges && list_all (is_edge p) edges && in_row may_follow edges

abbrev pub are_answers : Program → List Answer → Bool
are_answers p answers = nat_le (length answers) most_answers && list_all (is_answer p) answers && in_row answer_follows answers

-- what a state does names what is there
abbrev pub is_instr : Program → Instr → Bool
is_instr p (Branch fold stay edges rest) = are_edges p edges && is_rest p rest
is_instr p (Invoke what answers other) = is_code p what && are_answers p answers && leads p None other
is_instr p (Consume prop next) = nat_lt prop (length p.props) && leads p None next
is_instr p (SpanOpen span next) = nat_lt span (length p.spans) && leads p None next
is_instr p (SpanClose span next) = nat_lt span (length p.spans) && leads p None next
is_instr p (Pause number reason next) = leads p None next
is_instr p (Fail number reason) = true

-- so does its origin
abbrev pub is_state : Program → State → Bool
is_state p s = nat_lt s.origin (length p.names) && is_instr p s.instr

-- a host code is there, and is asked without a value
abbrev pub is_match_host : Option HostDecl → Bool
is_match_host None = false
is_match_host (Some h) = not h.value

-- the finish rule names a property and a host code that is asked without a value
abbrev pub is_finish : Program → Option (ℕ × ℕ) → Bool
is_finish p None = true
is_finish p (Some rule) = nat_lt rule.0 (length p.props) && is_match_host (slice_get p.hosts rule.1)

-- no count passes its limit, there are names and states, and the file of the program isn't too long
abbrev pub are_counts : Program → Bool
are_counts p =
    nat_le (length p.props) most_props && nat_le (length p.hosts) most_hosts && nat_le (length p.spans) most_spans
    && nat_le 1 (length p.names) && nat_le (length p.names) most_names
    && nat_le 1 (length p.states) && nat_le (length p.states) most_states
    && nat_le (file_length p) most_file_bytes

-- the entry, the finish rule and the counts
abbrev pub is_frame : Program → Bool
is_frame p = leads p None p.entry && is_finish p p.finish && are_counts p
