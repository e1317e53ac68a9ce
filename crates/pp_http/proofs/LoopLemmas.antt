-- The loop over rows.
use Rattle.std.proofs.Common.{◌≡◌, refl, sym, subst, ap, ◌∙◌, ℕ, zero, suc, ◌+◌, ◌*◌, ◌<◌, ◌≤◌, List, [], ◌∷◌, ◌++◌, true, take, drop, get_or, length, flat_map, arith}
use Rattle.std.proofs.lemmas.List.{length-append, length-map}
use Rattle.std.specs.Prelude.{None as none}
use Rattle.pp_rules.specs.declared.call.BuilderCall.TheVariants as call
use Rattle.pp_rules.specs.declared.call.NamedEdge.TheVariants as edge
use Rattle.pp_http.specs.ByteSets.{ends, blanks, marks, list_bytes, token_bytes, value_bytes, value_bytes_no_comma, plain_value_bytes, target_bytes, every_byte}
use Rattle.pp_http.specs.declared.row.Bytes.{Bytes}
use Rattle.pp_http.specs.declared.row.Bytes.TheVariants as sets
use Rattle.pp_rules.specs.declared.call.BuilderCall.{BuilderCall}
use Rattle.pp_graph.specs.Calls.{last_node, has_otherwise}
use Rattle.pp_http.specs.declared.row.Row.{Row}
use Rattle.pp_http.specs.declared.row.Row.TheVariants as row
use Rattle.pp_http.specs.Rows.{bytes_in, row_calls, row_fits, rows_fit, last_behind, closed_behind}
use Rattle.pp_http.proofs.TestLemmas.{and_left}
use Rattle.pp_http.proofs.RowLemmas.{rest_fits}

pub set_len : (bytes : Bytes) → length (bytes_in bytes) ≤ 256
unfolding ends blanks marks list_bytes token_bytes value_bytes value_bytes_no_comma plain_value_bytes target_bytes every_byte
set_len sets.Ends = omega arith
set_len sets.Blanks = omega arith
set_len sets.Marks = omega arith
set_len sets.List = omega arith
set_len sets.Token = omega arith
set_len sets.Value = omega arith
set_len sets.ValueNoComma = omega arith
set_len sets.PlainValue = omega arith
set_len sets.Target = omega arith
set_len sets.Every = omega arith

pub row_len : (r : Row) → length (row_calls r) ≤ 256
row_len (row.Prop name width) = omega arith
row_len (row.Host name) = omega arith
row_len (row.Span name) = omega arith
row_len (row.Entry name) = omega arith
row_len (row.Finish prop host) = omega arith
row_len (row.Node name what) = omega arith
row_len (row.On key target) = omega arith
row_len (row.Select key number target) = omega arith
row_len (row.OnAny bytes target) = omega (arith, set_len bytes, length-map (bytes_in bytes) (λ b. call.Edge (edge.Key (b ∷ []) none) target.now))
row_len (row.Peek byte target) = omega arith
row_len (row.PeekAny bytes target) = omega (arith, set_len bytes, length-map (bytes_in bytes) (λ b. call.Edge (edge.Peek b) target.now))
row_len (row.Is answer target) = omega arith
row_len (row.Otherwise target) = omega arith
row_len (row.Skip target) = omega arith

pub drop_at : {X : Type 0} (xs : List X) (i : ℕ) (d : X) → i < length xs → drop i xs ≡ get_or xs i d ∷ drop (suc i) xs
drop_at [] i d h = absurd (omega (arith, h))
drop_at (x ∷ xs) zero d h = refl
drop_at (x ∷ xs) (suc i) d h = drop_at xs i d (omega (arith, h))

pub append_nil : {X : Type 0} (xs : List X) → xs ++ [] ≡ xs
append_nil [] = refl
append_nil (x ∷ xs) = ap (λ ys. x ∷ ys) (append_nil xs)

pub append_assoc : {X : Type 0} (xs ys zs : List X) → (xs ++ ys) ++ zs ≡ xs ++ (ys ++ zs)
append_assoc [] ys zs = refl
append_assoc (x ∷ xs) ys zs = ap (λ ws. x ∷ ws) (append_assoc xs ys zs)

pub take_at : (rows : List Row) (i : ℕ) (d : Row) → i < length rows → flat_map row_calls (take (suc i) rows) ≡ flat_map row_calls (take i rows) ++ row_calls (get_or rows i d)
take_at [] i d h = absurd (omega (arith, h))
take_at (r ∷ rows) zero d h = append_nil (row_calls r)
take_at (r ∷ rows) (suc i) d h = ap (λ cs. row_calls r ++ cs) (take_at rows i d (omega (arith, h))) ∙ sym (append_assoc (row_calls r) (flat_map row_calls (take i rows)) (row_calls (get_or rows i d)))

pub fits_here : (b : List BuilderCall) (rows : List Row) (i : ℕ) (d : Row) → i < length rows → rows_fit (last_node b) (has_otherwise b) (drop i rows) ≡ true → row_fits (last_node b) (has_otherwise b) (get_or rows i d) ≡ true
fits_here b rows i d h e =
    and_left (row_fits (last_node b) (has_otherwise b) (get_or rows i d)) (rows_fit (last_behind (last_node b) (get_or rows i d)) (closed_behind (has_otherwise b) (get_or rows i d)) (drop (suc i) rows))
    (subst (λ rs. rows_fit (last_node b) (has_otherwise b) rs ≡ true) (drop_at rows i d h) e)

pub row_added : (first b new : List BuilderCall) (rows : List Row) (i : ℕ) (d : Row) → i < length rows → new ≡ b ++ row_calls (get_or rows i d) →
    b ≡ first ++ flat_map row_calls (take i rows) → length b ≤ length first + 256 * i → rows_fit (last_node b) (has_otherwise b) (drop i rows) ≡ true →
    (new ≡ first ++ flat_map row_calls (take (i + 1) rows)) × (length new ≤ length first + 256 * (i + 1)) × (rows_fit (last_node new) (has_otherwise new) (drop (i + 1) rows) ≡ true)
row_added first b new rows i d h added so_far long fits =
    let r : Row = get_or rows i d in
    let one : suc i ≡ i + 1 = omega arith in (
      subst (λ n. new ≡ first ++ flat_map row_calls (take n rows)) one
          (added ∙ ap (λ cs. cs ++ row_calls (get_or rows i d)) so_far ∙ append_assoc first (flat_map row_calls (take i rows)) (row_calls (get_or rows i d)) ∙ ap (λ cs. first ++ cs) (sym (take_at rows i d h))),
      (let grown : length new ≡ length b + length (row_calls (get_or rows i d)) = ap length added ∙ length-append b (row_calls (get_or rows i d)) in let few : length (row_calls (get_or rows i d)) ≤ 256 = row_len (get_or rows i d) in omega (arith, long)),
      subst (λ n. rows_fit (last_node new) (has_otherwise new) (drop n rows) ≡ true) one
          (subst (λ cs. rows_fit (last_node cs) (has_otherwise cs) (drop (suc i) rows) ≡ true) (sym added)
          (rest_fits b (get_or rows i d) (drop (suc i) rows) (subst (λ rs. rows_fit (last_node b) (has_otherwise b) rs ≡ true) (drop_at rows i d h) fits))),
    )
