-- The file of a program: its bytes, part by part. A number of several bytes has its high byte first.
use Rattle.std.specs.Prelude.{◌≡◌, ℕ, List, [], ◌∷◌, ◌++◌, Option, Some, None, Bool, true, false, length, if◌then◌else◌}
use Rattle.std.specs.List.{flat_map}
use Rattle.std.specs.Int.{w16, w32, w64, to_be_bytes}
use Rattle.pp_bytes.specs.declared.fold.Fold.{Fold}
use Rattle.pp_bytes.specs.declared.fold.Fold.TheVariants.{Same, Lower}
use Rattle.pp_rules.specs.declared.declaration.Width.{Width}
use Rattle.pp_rules.specs.declared.declaration.Width.TheVariants.{W8, W16, W32, W64}
use Rattle.pp_rules.specs.declared.declaration.PropDecl.{PropDecl}
use Rattle.pp_rules.specs.declared.declaration.HostDecl.{HostDecl}
use Rattle.pp_rules.specs.declared.declaration.SpanDecl.{SpanDecl}
use Rattle.pp_graph.specs.declared.node.Answer.{Answer}
use Rattle.pp_graph.specs.declared.node.Code.{Code}
use Rattle.pp_graph.specs.declared.node.Code.TheVariants as code
use Rattle.pp_program.specs.declared.program.Edge.{Edge}
use Rattle.pp_program.specs.declared.program.Rest.{Rest}
use Rattle.pp_program.specs.declared.program.Instr.{Instr}
use Rattle.pp_program.specs.declared.program.Instr.TheVariants.{Branch, Invoke, Consume, SpanOpen, SpanClose, Pause, Fail}
use Rattle.pp_program.specs.declared.program.State.{State}
use Rattle.pp_program.specs.declared.program.Program.{Program}
use Rattle.pp_program.specs.FileLength.{file_length}
use Rattle.pp_program.specs.Valid.{IsValid}

-- a text: its length, and its bytes
abbrev pub text : List ℕ → List ℕ
text bytes = length bytes ∷ bytes

-- the bits of a property
abbrev pub width_byte : Width → ℕ
width_byte W8 = 8
width_byte W16 = 16
width_byte W32 = 32
width_byte W64 = 64

-- the signature of a host code: match, or value
abbrev pub signature_byte : Bool → ℕ
signature_byte false = 0
signature_byte true = 1

abbrev pub fold_byte : Fold → ℕ
fold_byte Same = 0
fold_byte Lower = 1

abbrev pub spelled_prop : PropDecl → List ℕ
spelled_prop d = text d.name ++ width_byte d.width ∷ []

abbrev pub spelled_host : HostDecl → List ℕ
spelled_host d = text d.name ++ signature_byte d.value ∷ []

abbrev pub spelled_span : SpanDecl → List ℕ
spelled_span d = text d.name

-- Where a branch leads: 0, or 1 where the byte is taken, and the state; or 2, the state, and the number that the move
-- carries. An edge with a number takes its byte, a rest with one does not.
abbrev pub spelled_move : Bool → Option ℕ → ℕ → List ℕ
spelled_move takes None target = (if takes then 1 else 0) ∷ to_be_bytes w16 target
spelled_move takes (Some number) target = 2 ∷ (to_be_bytes w16 target ++ to_be_bytes w32 number)

-- the first and the last byte of a range
abbrev pub spelled_range : ℕ × ℕ → List ℕ
spelled_range r = r.0 ∷ r.1 ∷ []

abbrev pub spelled_edge : Edge → List ℕ
spelled_edge e = e.lo ∷ e.hi ∷ spelled_move e.take e.number e.target

abbrev pub spelled_rest : Rest → List ℕ
spelled_rest r = spelled_move r.skip r.number r.target

abbrev pub spelled_answer : Answer → List ℕ
spelled_answer a = to_be_bytes w32 a.number ++ to_be_bytes w16 a.target

-- how many answers there are, the answers, and where every other answer leads
abbrev pub spelled_answers : List Answer → ℕ → List ℕ
spelled_answers answers other = to_be_bytes w16 (length answers) ++ (flat_map spelled_answer answers ++ to_be_bytes w16 other)

-- the kind of a state that runs a code, and the code's place and constants
abbrev pub spelled_code : Code → List ℕ
spelled_code (code.Call host) = 1 ∷ host ∷ []
spelled_code (code.Store prop) = 2 ∷ prop ∷ []
spelled_code (code.Load prop) = 3 ∷ prop ∷ []
spelled_code (code.Update prop value) = 4 ∷ prop ∷ to_be_bytes w64 value
spelled_code (code.Equal prop value) = 5 ∷ prop ∷ to_be_bytes w64 value
spelled_code (code.And prop value) = 6 ∷ prop ∷ to_be_bytes w64 value
spelled_code (code.Or prop value) = 7 ∷ prop ∷ to_be_bytes w64 value
spelled_code (code.Test prop value) = 8 ∷ prop ∷ to_be_bytes w64 value
spelled_code (code.MulAdd prop base most) = 9 ∷ prop ∷ (to_be_bytes w32 base ++ to_be_bytes w64 most)

-- the kind of a state, and what it does
abbrev pub spelled_instr : Instr → List ℕ
spelled_instr (Branch fold stay edges rest) =
    0 ∷ fold_byte fold ∷ length stay ∷ (flat_map spelled_range stay
    ++ (to_be_bytes w16 (length edges) ++ (flat_map spelled_edge edges ++ spelled_rest rest)))
spelled_instr (Invoke what answers other) = spelled_code what ++ spelled_answers answers other
spelled_instr (Consume prop next) = 10 ∷ prop ∷ to_be_bytes w16 next
spelled_instr (SpanOpen span next) = 11 ∷ span ∷ to_be_bytes w16 next
spelled_instr (SpanClose span next) = 12 ∷ span ∷ to_be_bytes w16 next
spelled_instr (Pause number reason next) = 13 ∷ (to_be_bytes w32 number ++ (text reason ++ to_be_bytes w16 next))
spelled_instr (Fail number reason) = 14 ∷ (to_be_bytes w32 number ++ text reason)

abbrev pub spelled_state : State → List ℕ
spelled_state s = to_be_bytes w16 s.origin ++ spelled_instr s.instr

-- the finish rule: 0, or 1 with its property and its host code
abbrev pub spelled_finish : Option (ℕ × ℕ) → List ℕ
spelled_finish None = 0 ∷ []
spelled_finish (Some rule) = 1 ∷ rule.0 ∷ rule.1 ∷ []

-- how many properties, host codes, spans, names and states there are, and the entry
unfoldable pub spelled_counts : Program → List ℕ
spelled_counts p =
    length p.props ∷ length p.hosts ∷ length p.spans
    ∷ (to_be_bytes w16 (length p.names) ++ (to_be_bytes w16 (length p.states) ++ to_be_bytes w16 p.entry))

-- what stands behind the length
unfoldable pub spelled_parts : Program → List ℕ
spelled_parts p =
    spelled_counts p
    ++ (spelled_finish p.finish
    ++ (flat_map spelled_prop p.props
    ++ (flat_map spelled_host p.hosts
    ++ (flat_map spelled_span p.spans
    ++ (flat_map text p.names
    ++ flat_map spelled_state p.states)))))

-- the first four bytes of every file: 7f, and LLP
abbrev pub mark : List ℕ
mark = 0x7f ∷ 0x4c ∷ 0x4c ∷ 0x50 ∷ []

abbrev pub version : ℕ
version = 1

-- the mark, the version, the length of the whole file, and the parts
unfoldable pub spelled : Program → List ℕ
spelled p = mark ++ (version ∷ (to_be_bytes w32 (file_length p) ++ spelled_parts p))

-- The bytes are the file of the program. Each valid program has one.
pub record Spells (bytes : List ℕ) (p : Program) : Type 0 where
  pub valid : IsValid p
  pub bytes_are : bytes ≡ spelled p
