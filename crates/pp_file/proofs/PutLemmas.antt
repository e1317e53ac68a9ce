-- Writing parts one behind another.
use Rattle.std.proofs.Common.{◌≡◌, ℕ, ◌+◌, ◌<◌, ◌^◌, List, [], ◌∷◌, ◌++◌, Option, Some, length, take, drop, refl, sym, ap, subst, ◌∙◌, append_assoc, arith}
use Rattle.std.specs.Prelude.{slice_get}
use Rattle.std.specs.List.{flat_map}
use Rattle.std.specs.Int.{w16, w32, to_be_bytes}
use Rattle.std.proofs.lemmas.List.{at_drop_more}
use Rattle.std.proofs.lemmas.Option.{slice_get_within, get_or_from_slice_get}
use Rattle.pp_program.specs.declared.program.Instr.{Instr}
use Rattle.pp_program.specs.declared.program.State.{State}
use Rattle.pp_program.specs.declared.program.Program.{Program}
use Rattle.pp_program.specs.FileLength.{file_length}
use Rattle.pp_program.specs.Valid.{IsInstrAt, IsOriginAt}
use Rattle.pp_file.specs.Spelling.{mark, version, text, spelled_counts, spelled_finish, spelled_prop, spelled_host, spelled_span, spelled_instr, spelled_state, spelled_parts, spelled}
use Rattle.pp_file.specs.steps.Places.{InstrFits, StateFits, ProgramFits}
use Rattle.pp_file.proofs.ListLemmas.{All-place}
use Rattle.pp_file.proofs.LengthLemmas.{length-parts}

-- one part more is written
pub put_more : (A : Type 0) (spell : A → List ℕ) (items : List A) (i : ℕ) (a : A) (before now all : List ℕ) → slice_get items i ≡ Some a
    → before ++ flat_map spell (drop i items) ≡ all → now ≡ before ++ spell a → now ++ flat_map spell (drop (i + 1) items) ≡ all
put_more A spell items i a before now all at so_far e =
    let left : List ℕ = flat_map spell (drop (i + 1) items) in
    let here : flat_map spell (drop i items) ≡ spell a ++ left =
    at_drop_more (flat_map spell) items i a (slice_get_within items i a at) ∙ ap (λ (b : A). spell b ++ left) (get_or_from_slice_get items i a a at) in
    ap (λ (z : List ℕ). z ++ left) e ∙ append_assoc before (spell a) left ∙ ap (λ (z : List ℕ). before ++ z) (sym here) ∙ so_far

-- three parts one behind another
pub put_three : (before one two three a b c : List ℕ) → one ≡ before ++ a → two ≡ one ++ b → three ≡ two ++ c → three ≡ before ++ (a ++ (b ++ c))
put_three before one two three a b c e f g =
    let flat : three ≡ ((before ++ a) ++ b) ++ c = cc in
    flat ∙ append_assoc (before ++ a) b c ∙ append_assoc before a (b ++ c)

same_some : (s t : State) → Some s ≡ Some t → s ≡ t
same_some s t e = cc

same_state : (states : List State) (i origin : ℕ) (instr : Instr) (a : IsInstrAt states i instr) → IsOriginAt states i origin → a.0.origin ≡ origin
same_state states i origin instr a b = (let same : a.0 ≡ b.0 = same_some a.0 b.0 (sym a.1 ∙ b.1) in ap (λ (s : State). s.origin) same ∙ b.2)

-- one state more is written
pub put_one_state : (states : List State) (i origin : ℕ) (instr : Instr) (before now all : List ℕ) → IsInstrAt states i instr → IsOriginAt states i origin
    → before ++ flat_map spelled_state (drop i states) ≡ all → now ≡ before ++ (to_be_bytes w16 origin ++ spelled_instr instr) → now ++ flat_map spelled_state (drop (i + 1) states) ≡ all
put_one_state states i origin instr before now all a b so_far e =
    let placed = ap (λ (n : ℕ). before ++ (to_be_bytes w16 n ++ spelled_instr instr)) (sym (same_state states i origin instr a b)) in
    let done = ap (λ (z : Instr). before ++ (to_be_bytes w16 a.0.origin ++ spelled_instr z)) (sym a.2) in
    put_more State spelled_state states i a.0 before now all a.1 so_far (e ∙ placed ∙ done)

-- a state has room
pub origin_fits : (p : Program) → ProgramFits p → (i origin : ℕ) → IsOriginAt p.states i origin → origin < 2 ^ 16
origin_fits p f i origin b = (let fits : StateFits b.0 = All-place State StateFits p.states i b.0 f.each b.1 in subst (λ n. n < 2 ^ 16) b.2 fits.origin)

pub instr_fits : (p : Program) → ProgramFits p → (i : ℕ) (instr : Instr) → IsInstrAt p.states i instr → InstrFits instr
instr_fits p f i instr a = (let fits : StateFits a.0 = All-place State StateFits p.states i a.0 f.each a.1 in subst InstrFits a.2 fits.instr)

-- what is written before the length is known
abbrev pub front : List ℕ
front = 0x7f ∷ 0x4c ∷ 0x4c ∷ 0x50 ∷ 1 ∷ 0 ∷ 0 ∷ 0 ∷ 0 ∷ []

-- seven parts behind it
pub behind_front : (h c f p q s n t : List ℕ) → ((((((h ++ c) ++ f) ++ p) ++ q) ++ s) ++ n) ++ t ≡ h ++ (c ++ (f ++ (p ++ (q ++ (s ++ (n ++ t))))))
behind_front h c f p q s n t = simp append_assoc refl

pub length-whole : (p : Program) (x : List ℕ) → x ≡ front ++ spelled_parts p → length x ≡ file_length p
length-whole p x e = ap length e ∙ omega (arith, length-parts p)

-- all parts are written behind the front
pub written : (p : Program) (rule : Option (ℕ × ℕ)) (marked fronted counts finish props hosts spans names states : List ℕ) → marked ≡ mark → fronted ≡ marked ++ (1 ∷ 0 ∷ 0 ∷ 0 ∷ 0 ∷ [])
    → counts ≡ fronted ++ spelled_counts p → rule ≡ p.finish → finish ≡ counts ++ spelled_finish rule → props ≡ finish ++ flat_map spelled_prop p.props → hosts ≡ props ++ flat_map spelled_host p.hosts
    → spans ≡ hosts ++ flat_map spelled_span p.spans → names ≡ spans ++ flat_map text p.names → states ≡ names ++ flat_map spelled_state p.states → states ≡ front ++ spelled_parts p
unfolding spelled_parts
written p rule marked fronted counts finish props hosts spans names states e0 e1 e2 r e3 e4 e5 e6 e7 e8 =
    let starts : fronted ≡ front = e1 ∙ ap (λ (z : List ℕ). z ++ (1 ∷ 0 ∷ 0 ∷ 0 ∷ 0 ∷ [])) e0 in
    let counted : counts ≡ front ++ spelled_counts p = e2 ∙ ap (λ (z : List ℕ). z ++ spelled_counts p) starts in
    let finished : finish ≡ (front ++ spelled_counts p) ++ spelled_finish p.finish = e3 ∙ ap (λ (z : Option (ℕ × ℕ)). counts ++ spelled_finish z) r ∙ ap (λ (z : List ℕ). z ++ spelled_finish p.finish) counted in
    let fourth = e4 ∙ ap (λ (z : List ℕ). z ++ flat_map spelled_prop p.props) finished in
    let fifth = e5 ∙ ap (λ (z : List ℕ). z ++ flat_map spelled_host p.hosts) fourth in
    let sixth = e6 ∙ ap (λ (z : List ℕ). z ++ flat_map spelled_span p.spans) fifth in
    let seventh = e7 ∙ ap (λ (z : List ℕ). z ++ flat_map text p.names) sixth in
    let eighth = e8 ∙ ap (λ (z : List ℕ). z ++ flat_map spelled_state p.states) seventh in
    eighth ∙ behind_front front (spelled_counts p) (spelled_finish p.finish) (flat_map spelled_prop p.props) (flat_map spelled_host p.hosts) (flat_map spelled_span p.spans) (flat_map text p.names) (flat_map spelled_state p.states)

-- the length in its place
pub whole_file : (p : Program) (x out : List ℕ) → x ≡ front ++ spelled_parts p → out ≡ take 5 x ++ (to_be_bytes w32 (length x) ++ drop 9 x) → out ≡ spelled p
unfolding spelled
whole_file p x out e f =
    f ∙ ap (λ (z : List ℕ). take 5 z ++ (to_be_bytes w32 (length x) ++ drop 9 z)) e ∙ ap (λ (n : ℕ). mark ++ (version ∷ (to_be_bytes w32 n ++ spelled_parts p))) (length-whole p x e)
