-- Constants and numbers that a property is too narrow for.
use Rattle.std.specs.Prelude.{ℕ, Option, Some, None, Bool, false, ◌||◌, slice_get, nat_lt}
use Rattle.std.specs.List.{list_any}
use Rattle.pp_rules.specs.Widths.{greatest}
use Rattle.pp_rules.specs.declared.declaration.PropDecl.{PropDecl}
use Rattle.pp_graph.specs.declared.node.Code.{Code}
use Rattle.pp_graph.specs.declared.node.Code.TheVariants as code
use Rattle.pp_program.specs.declared.program.Edge.{Edge}
use Rattle.pp_program.specs.declared.program.Instr.{Instr}
use Rattle.pp_program.specs.declared.program.Instr.TheVariants.{Branch, Invoke, Consume, SpanOpen, SpanClose, Pause, Fail}
use Rattle.pp_program.specs.declared.program.State.{State}
use Rattle.pp_program.specs.declared.program.Program.{Program}

-- the property is there, and can't hold the value
abbrev pub is_narrow : Option PropDecl → ℕ → Bool
is_narrow None value = false
is_narrow (Some d) value = nat_lt (greatest d.width) value

-- the constant of a code, or its most, is wider than its property
abbrev pub is_wide_code : Program → Code → Bool
is_wide_code p (code.Call host) = false
is_wide_code p (code.Store prop) = false
is_wide_code p (code.Load prop) = false
is_wide_code p (code.Update prop value) = is_narrow (slice_get p.props prop) value
is_wide_code p (code.Equal prop value) = is_narrow (slice_get p.props prop) value
is_wide_code p (code.And prop value) = is_narrow (slice_get p.props prop) value
is_wide_code p (code.Or prop value) = is_narrow (slice_get p.props prop) value
is_wide_code p (code.Test prop value) = is_narrow (slice_get p.props prop) value
is_wide_code p (code.MulAdd prop base most) = is_narrow (slice_get p.props prop) most

-- a code stores the number into a property that can't hold it
abbrev pub is_narrow_code : Program → ℕ → Code → Bool
is_narrow_code p number (code.Call host) = false
is_narrow_code p number (code.Store prop) = is_narrow (slice_get p.props prop) number
is_narrow_code p number (code.Load prop) = false
is_narrow_code p number (code.Update prop value) = false
is_narrow_code p number (code.Equal prop value) = false
is_narrow_code p number (code.And prop value) = false
is_narrow_code p number (code.Or prop value) = false
is_narrow_code p number (code.Test prop value) = false
is_narrow_code p number (code.MulAdd prop base most) = false

abbrev pub is_narrow_instr : Program → ℕ → Instr → Bool
is_narrow_instr p number (Branch fold stay edges rest) = false
is_narrow_instr p number (Invoke what answers other) = is_narrow_code p number what
is_narrow_instr p number (Consume prop next) = false
is_narrow_instr p number (SpanOpen span next) = false
is_narrow_instr p number (SpanClose span next) = false
is_narrow_instr p number (Pause code reason next) = false
is_narrow_instr p number (Fail code reason) = false

-- the state is there, and stores the number so
abbrev pub is_narrow_state : Program → ℕ → Option State → Bool
is_narrow_state p number None = false
is_narrow_state p number (Some s) = is_narrow_instr p number s.instr

-- the number of an edge is wider than the property that its target stores
abbrev pub is_wide_number : Program → Option ℕ → ℕ → Bool
is_wide_number p None target = false
is_wide_number p (Some number) target = is_narrow_state p number (slice_get p.states target)

abbrev pub is_wide_edge : Program → Edge → Bool
is_wide_edge p e = is_wide_number p e.number e.target

-- a state has a constant, a most or an edge that is too wide
abbrev pub is_wide_instr : Program → Instr → Bool
is_wide_instr p (Branch fold stay edges rest) = list_any (is_wide_edge p) edges || is_wide_number p rest.number rest.target
is_wide_instr p (Invoke what answers other) = is_wide_code p what
is_wide_instr p (Consume prop next) = false
is_wide_instr p (SpanOpen span next) = false
is_wide_instr p (SpanClose span next) = false
is_wide_instr p (Pause code reason next) = false
is_wide_instr p (Fail code reason) = false
