-- How many bytes a spelling has.
use Rattle.std.proofs.Common.{◌≡◌, ℕ, ◌+◌, ◌*◌, List, [], ◌∷◌, ◌++◌, Option, Some, None, Bool, length, refl, arith, length-append}
use Rattle.std.specs.Prelude.{sum_by}
use Rattle.std.specs.List.{flat_map}
use Rattle.std.specs.Int.{w16, to_be_bytes}
use Rattle.std.proofs.lemmas.List.Sums.{sum_by-cons}
use Rattle.pp_rules.specs.declared.declaration.PropDecl.{PropDecl}
use Rattle.pp_rules.specs.declared.declaration.HostDecl.{HostDecl}
use Rattle.pp_rules.specs.declared.declaration.SpanDecl.{SpanDecl}
use Rattle.pp_graph.specs.declared.node.Answer.{Answer}
use Rattle.pp_graph.specs.declared.node.Code.{Code}
use Rattle.pp_graph.specs.declared.node.Code.TheVariants as code
use Rattle.pp_program.specs.declared.program.Edge.{Edge}
use Rattle.pp_program.specs.declared.program.Rest.{Rest}
use Rattle.pp_program.specs.declared.program.Instr.{Instr}
use Rattle.pp_program.specs.declared.program.Instr.TheVariants.{Branch, Invoke, Consume, SpanOpen, SpanClose, Pause, Fail}
use Rattle.pp_program.specs.declared.program.State.{State}
use Rattle.pp_program.specs.declared.program.Program.{Program}
use Rattle.pp_program.specs.FileLength.{text_length, number_length, edge_length, rest_length, answers_length, code_length, instr_length, state_length, finish_length, file_length}
use Rattle.pp_file.specs.Spelling.{text, width_byte, signature_byte, spelled_prop, spelled_host, spelled_span, spelled_move, spelled_range, spelled_edge, spelled_rest, spelled_answer, spelled_answers, spelled_code, spelled_instr, spelled_state, spelled_finish, spelled_counts, spelled_parts, spelled}

-- of parts one behind another
length-many : (A : Type 0) (spell : A → List ℕ) (size : A → ℕ) → ((a : A) → length (spell a) ≡ size a) → (us : List A) → length (flat_map spell us) ≡ sum_by size us
length-many A spell size h [] = refl
length-many A spell size h (a ∷ us) = omega (arith, length-append (spell a) (flat_map spell us), h a, length-many A spell size h us, sum_by-cons size a us)

-- of parts of one size
length-each : (A : Type 0) (spell : A → List ℕ) (size : ℕ) → ((a : A) → length (spell a) ≡ size) → (us : List A) → length (flat_map spell us) ≡ size * length us
length-each A spell size h [] = omega arith
length-each A spell size h (a ∷ us) = omega (arith, length-append (spell a) (flat_map spell us), h a, length-each A spell size h us)

length-prop : (d : PropDecl) → length (spelled_prop d) ≡ text_length d.name + 1
length-prop d = omega (arith, length-append (text d.name) (width_byte d.width ∷ []))

length-host : (d : HostDecl) → length (spelled_host d) ≡ text_length d.name + 1
length-host d = omega (arith, length-append (text d.name) (signature_byte d.value ∷ []))

length-span : (d : SpanDecl) → length (spelled_span d) ≡ text_length d.name
length-span d = omega arith

length-text : (t : List ℕ) → length (text t) ≡ text_length t
length-text t = omega arith

length-move : (takes : Bool) (number : Option ℕ) (target : ℕ) → length (spelled_move takes number target) ≡ 3 + number_length number
length-move takes None target = refl
length-move takes (Some n) target = refl

length-edge : (e : Edge) → length (spelled_edge e) ≡ edge_length e
length-edge e = omega (arith, length-move e.take e.number e.target)

length-answers : (answers : List Answer) (other : ℕ) → length (spelled_answers answers other) ≡ answers_length answers
length-answers answers other =
    omega (arith, length-append (flat_map spelled_answer answers) (to_be_bytes w16 other), length-each Answer spelled_answer 6 (λ a. refl) answers)

length-code : (c : Code) → length (spelled_code c) ≡ 1 + code_length c
length-code (code.Call host) = refl
length-code (code.Store prop) = refl
length-code (code.Load prop) = refl
length-code (code.Update prop value) = refl
length-code (code.Equal prop value) = refl
length-code (code.And prop value) = refl
length-code (code.Or prop value) = refl
length-code (code.Test prop value) = refl
length-code (code.MulAdd prop base most) = refl

length-branch : (stay : List (ℕ × ℕ)) (edges : List Edge) (rest : Rest)
    → length (flat_map spelled_range stay ++ (to_be_bytes w16 (length edges) ++ (flat_map spelled_edge edges ++ spelled_rest rest))) ≡ 2 * length stay + (2 + (sum_by edge_length edges + rest_length rest))
length-branch stay edges rest =
    let tail : List ℕ = flat_map spelled_edge edges ++ spelled_rest rest in
    omega (
      arith,
      length-append (flat_map spelled_range stay) (to_be_bytes w16 (length edges) ++ tail),
      length-append (flat_map spelled_edge edges) (spelled_rest rest),
      length-each (ℕ × ℕ) spelled_range 2 (λ r. refl) stay,
      length-many Edge spelled_edge edge_length length-edge edges,
      length-move rest.skip rest.number rest.target,
    )

length-instr : (i : Instr) → length (spelled_instr i) ≡ 1 + instr_length i
length-instr (Branch fold stay edges rest) = omega (arith, length-branch stay edges rest)
length-instr (Invoke what answers other) = omega (arith, length-append (spelled_code what) (spelled_answers answers other), length-code what, length-answers answers other)
length-instr (Consume prop next) = refl
length-instr (SpanOpen span next) = refl
length-instr (SpanClose span next) = refl
length-instr (Pause number reason next) = omega (arith, length-append (text reason) (to_be_bytes w16 next))
length-instr (Fail number reason) = omega arith

length-state : (s : State) → length (spelled_state s) ≡ state_length s
length-state s = omega (arith, length-instr s.instr)

length-finish : (f : Option (ℕ × ℕ)) → length (spelled_finish f) ≡ finish_length f
length-finish None = refl
length-finish (Some rule) = refl

length-counts : (p : Program) → length (spelled_counts p) ≡ 9
unfolding spelled_counts
length-counts p = refl

pub length-parts : (p : Program) → length (spelled_parts p) + 9 ≡ file_length p
unfolding spelled_parts
length-parts p =
    let states : List ℕ = flat_map spelled_state p.states in
    let names : List ℕ = flat_map text p.names ++ states in
    let spans : List ℕ = flat_map spelled_span p.spans ++ names in
    let hosts : List ℕ = flat_map spelled_host p.hosts ++ spans in
    let props : List ℕ = flat_map spelled_prop p.props ++ hosts in
    let finish : List ℕ = spelled_finish p.finish ++ props in
    omega (
      arith,
      length-append (spelled_counts p) finish,
      length-append (spelled_finish p.finish) props,
      length-append (flat_map spelled_prop p.props) hosts,
      length-append (flat_map spelled_host p.hosts) spans,
      length-append (flat_map spelled_span p.spans) names,
      length-append (flat_map text p.names) states,
      length-counts p,
      length-finish p.finish,
      length-many PropDecl spelled_prop (λ (d : PropDecl). text_length d.name + 1) length-prop p.props,
      length-many HostDecl spelled_host (λ (d : HostDecl). text_length d.name + 1) length-host p.hosts,
      length-many SpanDecl spelled_span (λ (d : SpanDecl). text_length d.name) length-span p.spans,
      length-many (List ℕ) text text_length length-text p.names,
      length-many State spelled_state state_length length-state p.states,
    )

pub length-spelled : (p : Program) → length (spelled p) ≡ file_length p
unfolding spelled
length-spelled p = omega (arith, length-parts p)
