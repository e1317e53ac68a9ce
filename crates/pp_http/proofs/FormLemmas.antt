-- Calls in form, and nodes whose numbers lie within their types, by tests.
use Rattle.std.proofs.Common.{◌≡◌, subst, ℕ, zero, suc, ◌^◌, ◌<◌, List, [], ◌∷◌, Bool, true, ◌&&◌, Option, Some, nat_lt, arith}
use Rattle.std.specs.Prelude.{All}
use Rattle.std.specs.Prelude.{None as none}
use Rattle.std.specs.List.{list_all}
use Rattle.std.proofs.lemmas.Bool.{ltb-true}
use Rattle.pp_rules.specs.declared.call.BuilderCall.{BuilderCall}
use Rattle.pp_rules.specs.declared.call.BuilderCall.TheVariants as call
use Rattle.pp_rules.specs.Names.{is_name}
use Rattle.pp_graph.specs.declared.node.Code.{Code}
use Rattle.pp_graph.specs.declared.node.Code.TheVariants as code
use Rattle.pp_graph.specs.declared.node.Key.{Key}
use Rattle.pp_graph.specs.declared.node.Peek.{Peek}
use Rattle.pp_graph.specs.declared.node.Answer.{Answer}
use Rattle.pp_graph.specs.declared.node.Kind.{Kind}
use Rattle.pp_graph.specs.declared.node.Kind.TheVariants as kind
use Rattle.pp_graph.specs.declared.node.Node.{Node}
use Rattle.pp_graph.specs.Calls.{HasForm, HaveForm}
use Rattle.pp_graph.specs.Ranges.{NumberInRange, CodeInRange, KeyInRange, PeekInRange, AnswerInRange, KindInRange, NodeInRange}
use Rattle.pp_http.specs.Rows.{kind_has_form}
use Rattle.pp_http.proofs.RowLemmas.{kind_form}
use Rattle.pp_http.proofs.TestLemmas.{and_left, and_right}

-- the names and the reason of a call have their form
abbrev pub has_form : BuilderCall → Bool
has_form (call.Prop name width) = is_name name
has_form (call.Host name value) = is_name name
has_form (call.Span name) = is_name name
has_form (call.Entry node) = is_name node
has_form (call.Finish prop host) = is_name prop && is_name host
has_form (call.Node name what) = is_name name && kind_has_form what
has_form (call.Edge when target) = is_name target

form : (c : BuilderCall) → has_form c ≡ true → HasForm c
form (call.Prop name width) e = e
form (call.Host name value) e = e
form (call.Span name) e = e
form (call.Entry node) e = e
form (call.Finish prop host) e = (and_left (is_name prop) (is_name host) e, and_right (is_name prop) (is_name host) e)
form (call.Node name what) e = (and_left (is_name name) (kind_has_form what) e, kind_form what (and_right (is_name name) (kind_has_form what) e))
form (call.Edge when target) e = e

pub forms : (calls : List BuilderCall) → list_all has_form calls ≡ true → HaveForm calls
forms [] e i c g = absurd (grind (arith, g))
forms (x ∷ calls) e zero c g = (let same : x ≡ c = grind (arith, g) in subst HasForm same (form x (and_left (has_form x) (list_all has_form calls) e)))
forms (x ∷ calls) e (suc i) c g = forms calls (and_right (has_form x) (list_all has_form calls) e) i c g

-- what a test finds of all holds of all
all_hold : {X : Type 0} (P : X → Type 0) (f : X → Bool) (xs : List X) → ((x : X) → f x ≡ true → P x) → list_all f xs ≡ true → All P xs
all_hold P f [] is e k d h = absurd (omega (arith, h))
all_hold P f (x ∷ xs) is e zero d h = is x (and_left (f x) (list_all f xs) e)
all_hold P f (x ∷ xs) is e (suc k) d h = all_hold P f xs is (and_right (f x) (list_all f xs) e) k d (omega (arith, h))

-- the numbers of an edge, of a code and of a node lie within their types
abbrev pub number_fits : Option ℕ → Bool
number_fits none = true
number_fits (Some number) = nat_lt number (2 ^ 32)

abbrev pub code_fits : Code → Bool
code_fits (code.Call host) = true
code_fits (code.Store prop) = true
code_fits (code.Load prop) = true
code_fits (code.Update prop value) = nat_lt value (2 ^ 64)
code_fits (code.Equal prop value) = nat_lt value (2 ^ 64)
code_fits (code.And prop value) = nat_lt value (2 ^ 64)
code_fits (code.Or prop value) = nat_lt value (2 ^ 64)
code_fits (code.Test prop value) = nat_lt value (2 ^ 64)
code_fits (code.MulAdd prop base most) = nat_lt base (2 ^ 32) && nat_lt most (2 ^ 64)

abbrev pub kind_fits : Kind → Bool
kind_fits (kind.Match fold keys peeks other) =
    list_all (λ (k : Key). list_all (λ b. nat_lt b 256) k.bytes && number_fits k.number) keys && list_all (λ (p : Peek). nat_lt p.byte 256) peeks
kind_fits (kind.Invoke what answers other) = code_fits what && list_all (λ (a : Answer). nat_lt a.number (2 ^ 32)) answers
kind_fits (kind.Consume prop next) = true
kind_fits (kind.SpanOpen span next) = true
kind_fits (kind.SpanClose span next) = true
kind_fits (kind.Pause number reason next) = nat_lt number (2 ^ 32)
kind_fits (kind.Fail number reason) = nat_lt number (2 ^ 32)

number_in : (o : Option ℕ) → number_fits o ≡ true → NumberInRange o
number_in none e = tt
number_in (Some number) e = ltb-true number (2 ^ 32) e

code_in : (c : Code) → code_fits c ≡ true → CodeInRange c
code_in (code.Call host) e = tt
code_in (code.Store prop) e = tt
code_in (code.Load prop) e = tt
code_in (code.Update prop value) e = ltb-true value (2 ^ 64) e
code_in (code.Equal prop value) e = ltb-true value (2 ^ 64) e
code_in (code.And prop value) e = ltb-true value (2 ^ 64) e
code_in (code.Or prop value) e = ltb-true value (2 ^ 64) e
code_in (code.Test prop value) e = ltb-true value (2 ^ 64) e
code_in (code.MulAdd prop base most) e = (ltb-true base (2 ^ 32) (and_left (nat_lt base (2 ^ 32)) (nat_lt most (2 ^ 64)) e), ltb-true most (2 ^ 64) (and_right (nat_lt base (2 ^ 32)) (nat_lt most (2 ^ 64)) e))

key_in : (k : Key) → (list_all (λ b. nat_lt b 256) k.bytes && number_fits k.number) ≡ true → KeyInRange k
key_in k e = (
  all_hold (λ b. b < 256) (λ b. nat_lt b 256) k.bytes (λ b h. ltb-true b 256 h) (and_left (list_all (λ b. nat_lt b 256) k.bytes) (number_fits k.number) e),
  number_in k.number (and_right (list_all (λ b. nat_lt b 256) k.bytes) (number_fits k.number) e),
)

kind_in : (k : Kind) → kind_fits k ≡ true → KindInRange k
kind_in (kind.Match fold keys peeks other) e =
    let by_key : Bool = list_all (λ (k : Key). list_all (λ b. nat_lt b 256) k.bytes && number_fits k.number) keys in
    let by_peek : Bool = list_all (λ (p : Peek). nat_lt p.byte 256) peeks in (
      all_hold KeyInRange (λ (k : Key). list_all (λ b. nat_lt b 256) k.bytes && number_fits k.number) keys key_in (and_left by_key by_peek e),
      all_hold PeekInRange (λ (p : Peek). nat_lt p.byte 256) peeks (λ p h. ltb-true p.byte 256 h) (and_right by_key by_peek e),
    )
kind_in (kind.Invoke what answers other) e =
    let by_answer : Bool = list_all (λ (a : Answer). nat_lt a.number (2 ^ 32)) answers in (
      code_in what (and_left (code_fits what) by_answer e),
      all_hold AnswerInRange (λ (a : Answer). nat_lt a.number (2 ^ 32)) answers (λ a h. ltb-true a.number (2 ^ 32) h) (and_right (code_fits what) by_answer e),
    )
kind_in (kind.Consume prop next) e = tt
kind_in (kind.SpanOpen span next) e = tt
kind_in (kind.SpanClose span next) e = tt
kind_in (kind.Pause number reason next) e = ltb-true number (2 ^ 32) e
kind_in (kind.Fail number reason) e = ltb-true number (2 ^ 32) e

pub in_range : (nodes : List Node) → list_all (λ (n : Node). kind_fits n.kind) nodes ≡ true → All NodeInRange nodes
in_range nodes e = all_hold NodeInRange (λ (n : Node). kind_fits n.kind) nodes (λ n h. kind_in n.kind h) e
