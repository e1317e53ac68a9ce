-- What a row that fits says of its calls.
use Rattle.std.proofs.Common.{◌≡◌, refl, sym, subst, ◌∙◌, ℕ, List, [], ◌∷◌, ◌++◌, Bool, true, false, not, fold, arith, map}
use Rattle.pp_rules.specs.declared.call.NamedCode.{NamedCode}
use Rattle.pp_rules.specs.declared.call.NamedCode.TheVariants as code
use Rattle.pp_rules.specs.declared.call.NamedKind.{NamedKind}
use Rattle.pp_rules.specs.declared.call.NamedKind.TheVariants as kind
use Rattle.pp_rules.specs.declared.call.BuilderCall.{BuilderCall}
use Rattle.pp_graph.specs.declared.builder.LastNode.{LastNode}
use Rattle.pp_graph.specs.declared.builder.LastNode.TheVariants as last
use Rattle.pp_graph.specs.Calls.{last_after, otherwise_after, last_node, has_otherwise, KindHasForm, CodeHasForm, TakesOtherwise}
use Rattle.pp_http.specs.declared.row.Row.{Row}
use Rattle.pp_http.specs.declared.row.Row.TheVariants as row
use Rattle.pp_rules.specs.declared.call.BuilderCall.TheVariants as call
use Rattle.pp_rules.specs.declared.call.NamedEdge.TheVariants as edge
use Rattle.std.specs.Prelude.{None as none}
use Rattle.pp_http.specs.Rows.{bytes_in, row_calls, row_fits, rows_fit, code_has_form, kind_has_form, takes_keys, takes_answers, takes_otherwise, last_behind, closed_behind}
use Rattle.pp_http.proofs.TestLemmas.{and_right}

pub code_form : (c : NamedCode) → code_has_form c ≡ true → CodeHasForm c
code_form (code.Call host) e = e
code_form (code.Store prop) e = e
code_form (code.Load prop) e = e
code_form (code.Constant what prop value) e = e
code_form (code.MulAdd prop base most) e = e

pub kind_form : (k : NamedKind) → kind_has_form k ≡ true → KindHasForm k
kind_form (kind.Match fold) e = tt
kind_form (kind.Invoke what) e = code_form what e
kind_form (kind.Consume prop) e = e
kind_form (kind.SpanOpen span) e = e
kind_form (kind.SpanClose span) e = e
kind_form (kind.Pause number reason) e = e
kind_form (kind.Fail number reason) e = e

pub keys_match : (l : LastNode) → takes_keys l ≡ true → l ≡ last.Match
keys_match last.Match e = refl
keys_match last.None e = absurd (grind (arith, e))
keys_match last.Invoke e = absurd (grind (arith, e))
keys_match last.Other e = absurd (grind (arith, e))
keys_match last.Fail e = absurd (grind (arith, e))

pub answers_invoke : (l : LastNode) → takes_answers l ≡ true → l ≡ last.Invoke
answers_invoke last.Invoke e = refl
answers_invoke last.None e = absurd (grind (arith, e))
answers_invoke last.Match e = absurd (grind (arith, e))
answers_invoke last.Other e = absurd (grind (arith, e))
answers_invoke last.Fail e = absurd (grind (arith, e))

pub takes : (l : LastNode) → takes_otherwise l ≡ true → TakesOtherwise l false
takes last.Match e = tt
takes last.Invoke e = refl
takes last.Other e = refl
takes last.None e = grind (arith, e)
takes last.Fail e = grind (arith, e)

pub not_true : (b : Bool) → not b ≡ true → b ≡ false
not_true false e = refl
not_true true e = sym e

pub fold_append : {X Y : Type 0} (f : Y → X → Y) (y : Y) (xs ys : List X) → fold f y (xs ++ ys) ≡ fold f (fold f y xs) ys
fold_append f y [] ys = refl
fold_append f y (x ∷ xs) ys = fold_append f (f y x) xs ys

-- a fold that each edge of a set leaves as it is
pub fold_still : {Y : Type 0} (f : Y → BuilderCall → Y) (h : ℕ → BuilderCall) → ((y : Y) (b : ℕ) → f y (h b) ≡ y) → (y : Y) (bs : List ℕ) → fold f y (map h bs) ≡ y
fold_still f h still y [] = refl
fold_still f h still y (b ∷ bs) = fold_still f h still (f y (h b)) bs ∙ still y b

pub last_behind_row : (before : List BuilderCall) (r : Row) → last_node (before ++ row_calls r) ≡ last_behind (last_node before) r
last_behind_row before (row.Prop name width) = fold_append last_after last.None before (row_calls (row.Prop name width))
last_behind_row before (row.Host name) = fold_append last_after last.None before (row_calls (row.Host name))
last_behind_row before (row.Span name) = fold_append last_after last.None before (row_calls (row.Span name))
last_behind_row before (row.Entry name) = fold_append last_after last.None before (row_calls (row.Entry name))
last_behind_row before (row.Finish prop host) = fold_append last_after last.None before (row_calls (row.Finish prop host))
last_behind_row before (row.Node name what) = fold_append last_after last.None before (row_calls (row.Node name what))
last_behind_row before (row.On key target) = fold_append last_after last.None before (row_calls (row.On key target))
last_behind_row before (row.Select key number target) = fold_append last_after last.None before (row_calls (row.Select key number target))
last_behind_row before (row.OnAny bytes target) = fold_append last_after last.None before (row_calls (row.OnAny bytes target)) ∙ fold_still last_after (λ b. call.Edge (edge.Key (b ∷ []) none) target.now) (λ y b. refl) (last_node before) (bytes_in bytes)
last_behind_row before (row.Peek byte target) = fold_append last_after last.None before (row_calls (row.Peek byte target))
last_behind_row before (row.PeekAny bytes target) = fold_append last_after last.None before (row_calls (row.PeekAny bytes target)) ∙ fold_still last_after (λ b. call.Edge (edge.Peek b) target.now) (λ y b. refl) (last_node before) (bytes_in bytes)
last_behind_row before (row.Is answer target) = fold_append last_after last.None before (row_calls (row.Is answer target))
last_behind_row before (row.Otherwise target) = fold_append last_after last.None before (row_calls (row.Otherwise target))
last_behind_row before (row.Skip target) = fold_append last_after last.None before (row_calls (row.Skip target))

pub closed_behind_row : (before : List BuilderCall) (r : Row) → has_otherwise (before ++ row_calls r) ≡ closed_behind (has_otherwise before) r
closed_behind_row before (row.Prop name width) = fold_append otherwise_after false before (row_calls (row.Prop name width))
closed_behind_row before (row.Host name) = fold_append otherwise_after false before (row_calls (row.Host name))
closed_behind_row before (row.Span name) = fold_append otherwise_after false before (row_calls (row.Span name))
closed_behind_row before (row.Entry name) = fold_append otherwise_after false before (row_calls (row.Entry name))
closed_behind_row before (row.Finish prop host) = fold_append otherwise_after false before (row_calls (row.Finish prop host))
closed_behind_row before (row.Node name what) = fold_append otherwise_after false before (row_calls (row.Node name what))
closed_behind_row before (row.On key target) = fold_append otherwise_after false before (row_calls (row.On key target))
closed_behind_row before (row.Select key number target) = fold_append otherwise_after false before (row_calls (row.Select key number target))
closed_behind_row before (row.OnAny bytes target) = fold_append otherwise_after false before (row_calls (row.OnAny bytes target)) ∙ fold_still otherwise_after (λ b. call.Edge (edge.Key (b ∷ []) none) target.now) (λ y b. refl) (has_otherwise before) (bytes_in bytes)
closed_behind_row before (row.Peek byte target) = fold_append otherwise_after false before (row_calls (row.Peek byte target))
closed_behind_row before (row.PeekAny bytes target) = fold_append otherwise_after false before (row_calls (row.PeekAny bytes target)) ∙ fold_still otherwise_after (λ b. call.Edge (edge.Peek b) target.now) (λ y b. refl) (has_otherwise before) (bytes_in bytes)
closed_behind_row before (row.Is answer target) = fold_append otherwise_after false before (row_calls (row.Is answer target))
closed_behind_row before (row.Otherwise target) = fold_append otherwise_after false before (row_calls (row.Otherwise target))
closed_behind_row before (row.Skip target) = fold_append otherwise_after false before (row_calls (row.Skip target))

-- the rows behind a row that was added still fit
pub rest_fits : (before : List BuilderCall) (r : Row) (rows : List Row) → rows_fit (last_node before) (has_otherwise before) (r ∷ rows) ≡ true →
    rows_fit (last_node (before ++ row_calls r)) (has_otherwise (before ++ row_calls r)) rows ≡ true
rest_fits before r rows e =
    subst (λ l. rows_fit l (has_otherwise (before ++ row_calls r)) rows ≡ true) (sym (last_behind_row before r))
    (subst (λ c. rows_fit (last_behind (last_node before) r) c rows ≡ true) (sym (closed_behind_row before r))
    (and_right (row_fits (last_node before) (has_otherwise before) r) (rows_fit (last_behind (last_node before) r) (closed_behind (has_otherwise before) r) rows) e))
