-- What is spelled is read again: declarations, edges, answers.
use Rattle.std.proofs.Common.{◌≡◌, ℕ, zero, suc, ◌+◌, ◌^◌, ◌<◌, ◌≤◌, Bool, true, false, ◌&&◌, not, List, [], ◌∷◌, ◌++◌, length, get_or, All, Option, Some, None, Result, Ok, Err, refl, sym, ap, subst, ◌∙◌, append_assoc, eqb, leb, ltb, arith}
use Rattle.std.specs.List.{flat_map, list_all, AllPairs}
use Rattle.std.specs.Int.{w8, w16, w32, w64, to_be_bytes}
use Rattle.std.proofs.lemmas.Bool.{and_from, and_parts, le-leb, leb-true, ltb-true, false≢true}
use Rattle.std.proofs.lemmas.List.Elements.{All-head, All-tail}
use Rattle.std.proofs.lemmas.List.Concat.{flat_map-cons}
use Rattle.pp_bytes.specs.Ranges.{IsRanges}
use Rattle.pp_rules.specs.declared.declaration.Width.{Width}
use Rattle.pp_rules.specs.declared.declaration.Width.TheVariants.{W8, W16, W32, W64}
use Rattle.pp_rules.specs.declared.declaration.PropDecl.{PropDecl}
use Rattle.pp_rules.specs.declared.declaration.HostDecl.{HostDecl}
use Rattle.pp_rules.specs.declared.declaration.SpanDecl.{SpanDecl}
use Rattle.pp_graph.specs.declared.node.Answer.{Answer}
use Rattle.pp_program.specs.declared.program.Edge.{Edge}
use Rattle.pp_program.specs.declared.program.Rest.{Rest}
use Rattle.pp_program.specs.declared.program.Program.{Program}
use Rattle.pp_program.specs.Targets.{is_edge, may_follow, is_alike, row_behind, in_row, answer_follows}
use Rattle.pp_file.specs.Fields.{Left, Next, ◌>>=◌, field_at, number_at, within, text_at, items_at}
use Rattle.pp_file.specs.Parts.{is_width_byte, width_at, prop_at, host_at, span_at, rule_at, finish_at, least_stay, range_at, least_edge, may_stand, plain_edge, numbered_edge, plain_edge_at, numbered_edge_at, edge_at, plain_rest_at, numbered_rest_at, rest_at, least_answer, answer_at}
use Rattle.pp_file.specs.Held.{IsText, IsNumber, IsHeldEdge}
use Rattle.pp_file.specs.Spelling.{text, width_byte, signature_byte, spelled_prop, spelled_host, spelled_span, spelled_range, spelled_edge, spelled_rest, spelled_answer, spelled_finish}
use Rattle.pp_file.specs.steps.Places.{IsFlagged, EdgeFits, RestFits, FinishFits}
use Rattle.pp_file.proofs.NumberLemmas.{wide16, wide32, wide64}
use Rattle.pp_file.proofs.FieldLemmas.{to_end, field_again, number_again, byte_again, right_byte_again, text_again}

-- whatever follows its spelling, a part is read from it
abbrev pub IsAgain : {X : Type 0} → (Left → Next X) → (X → List ℕ) → X → Type 0
IsAgain item_at spelled x = (limit : ℕ) (rest : List ℕ) → item_at (to_end limit (spelled x ++ rest)) ≡ Ok (x, to_end limit rest)

-- each of the items is, behind the one before it
abbrev pub RowAgain : {X : Type 0} → (Option X → Left → Next X) → (X → List ℕ) → Option X → List X → Type 0
RowAgain item_at spelled before [] = Unit {0}
RowAgain item_at spelled before (x ∷ xs) = IsAgain (item_at before) spelled x × RowAgain item_at spelled (Some x) xs

pub items_again : {X : Type 0} (item_at : Option X → Left → Next X) (spelled : X → List ℕ) (before : Option X) (xs : List X) → RowAgain item_at spelled before xs
    → (limit : ℕ) (rest : List ℕ) → items_at item_at (length xs) before (to_end limit (flat_map spelled xs ++ rest)) ≡ Ok (xs, to_end limit rest)
unfolding items_at
items_again item_at spelled before [] h limit rest = refl
items_again {X} item_at spelled before (x ∷ xs) h limit rest =
    let regrouped : flat_map spelled (x ∷ xs) ++ rest ≡ spelled x ++ (flat_map spelled xs ++ rest) =
    ap (λ (bytes : List ℕ). bytes ++ rest) (flat_map-cons spelled x xs) ∙ append_assoc (spelled x) (flat_map spelled xs) rest in
    ap (λ (bytes : List ℕ). items_at item_at (suc (length xs)) before (to_end limit bytes)) regrouped
    ∙ rw (h.0 limit (flat_map spelled xs ++ rest), items_again item_at spelled (Some x) xs h.1 limit rest) refl

-- where items may stand in any order
pub free_row : {X : Type 0} (item_at : Left → Next X) (spelled : X → List ℕ) (P : X → Type 0) → ((x : X) → P x → IsAgain item_at spelled x)
    → (before : Option X) (xs : List X) → All P xs → RowAgain (λ _. item_at) spelled before xs
free_row item_at spelled P again before [] h = tt
free_row item_at spelled P again before (x ∷ xs) h = (again x (All-head P x xs h), free_row item_at spelled P again (Some x) xs (All-tail P x xs h))

-- a number that is within limits
pub byte_within_again : (least most limit n : ℕ) (rest : List ℕ) → n < 256 → least ≤ n → n ≤ most → number_at w8 (within least most) (to_end limit (n ∷ rest)) ≡ Ok (n, to_end limit rest)
byte_within_again least most limit n rest lt low high = right_byte_again (within least most) limit n rest lt (and_from _ _ (le-leb _ _ low) (le-leb _ _ high))

pub short_within_again : (least most limit n : ℕ) (rest : List ℕ) → n < 2 ^ 16 → least ≤ n → n ≤ most
    → number_at w16 (within least most) (to_end limit (to_be_bytes w16 n ++ rest)) ≡ Ok (n, to_end limit rest)
short_within_again least most limit n rest lt low high =
    number_again w16 (2 ^ 16) wide16 (within least most) limit n rest lt (and_from _ _ (le-leb _ _ low) (le-leb _ _ high))

pub short_again : (limit n : ℕ) (rest : List ℕ) → n < 2 ^ 16 → field_at w16 (to_end limit (to_be_bytes w16 n ++ rest)) ≡ Ok (n, to_end limit rest)
short_again limit n rest lt = field_again w16 (2 ^ 16) wide16 limit n rest lt

pub long_again : (limit n : ℕ) (rest : List ℕ) → n < 2 ^ 32 → field_at w32 (to_end limit (to_be_bytes w32 n ++ rest)) ≡ Ok (n, to_end limit rest)
long_again limit n rest lt = field_again w32 (2 ^ 32) wide32 limit n rest lt

pub wide_again : (limit n : ℕ) (rest : List ℕ) → n < 2 ^ 64 → field_at w64 (to_end limit (to_be_bytes w64 n ++ rest)) ≡ Ok (n, to_end limit rest)
wide_again limit n rest lt = field_again w64 (2 ^ 64) wide64 limit n rest lt

-- ---- declarations

width_again : (limit : ℕ) (w : Width) (rest : List ℕ) → width_at (to_end limit (width_byte w ∷ rest)) ≡ Ok (w, to_end limit rest)
unfolding width_at
width_again limit W8 rest = rw (right_byte_again is_width_byte limit 8 rest (omega arith) refl) refl
width_again limit W16 rest = rw (right_byte_again is_width_byte limit 16 rest (omega arith) refl) refl
width_again limit W32 rest = rw (right_byte_again is_width_byte limit 32 rest (omega arith) refl) refl
width_again limit W64 rest = rw (right_byte_again is_width_byte limit 64 rest (omega arith) refl) refl

pub prop_again : (d : PropDecl) → IsText d.name → IsAgain prop_at spelled_prop d
unfolding prop_at
prop_again d held limit rest =
    ap (λ (bytes : List ℕ). prop_at (to_end limit bytes)) (append_assoc (text d.name) (width_byte d.width ∷ []) rest)
    ∙ rw (text_again limit d.name (width_byte d.width ∷ rest) held.short, width_again limit d.width rest) refl

signature_again : (limit : ℕ) (name : List ℕ) (value : Bool) (rest : List ℕ) → length name < 256
    → host_at (to_end limit (text name ++ (signature_byte value ∷ rest))) ≡ Ok (record { name = name; value = value }, to_end limit rest)
unfolding host_at
signature_again limit name false rest short =
    rw (text_again limit name (0 ∷ rest) short, byte_within_again 0 1 limit 0 rest (omega arith) (omega arith) (omega arith)) refl
signature_again limit name true rest short =
    rw (text_again limit name (1 ∷ rest) short, byte_within_again 0 1 limit 1 rest (omega arith) (omega arith) (omega arith)) refl

pub host_again : (d : HostDecl) → IsText d.name → IsAgain host_at spelled_host d
host_again d held limit rest =
    ap (λ (bytes : List ℕ). host_at (to_end limit bytes)) (append_assoc (text d.name) (signature_byte d.value ∷ []) rest)
    ∙ signature_again limit d.name d.value rest held.short

pub span_again : (d : SpanDecl) → IsText d.name → IsAgain span_at spelled_span d
unfolding span_at
span_again d held limit rest = rw (text_again limit d.name rest held.short) refl

pub name_again : (name : List ℕ) → IsText name → IsAgain text_at text name
name_again name held limit rest = text_again limit name rest held.short

pub finish_again : (finish : Option (ℕ × ℕ)) → FinishFits finish → IsAgain finish_at spelled_finish finish
unfolding finish_at rule_at
finish_again None fits limit rest = rw (byte_within_again 0 1 limit 0 rest (omega arith) (omega arith) (omega arith)) refl
finish_again (Some rule) fits limit rest =
    rw (
      byte_within_again 0 1 limit 1 (rule.0 ∷ rule.1 ∷ rest) (omega arith) (omega arith) (omega arith),
      byte_again limit rule.0 (rule.1 ∷ rest) fits.0,
      byte_again limit rule.1 rest fits.1,
    ) refl

-- ---- stays

range_again : (before : Option (ℕ × ℕ)) (r : ℕ × ℕ) → least_stay before ≤ r.0 → r.0 ≤ r.1 → r.1 < 256 → IsAgain (range_at before) spelled_range r
unfolding range_at
range_again before r low ordered top limit rest =
    rw (
      byte_within_again (least_stay before) 255 limit r.0 (r.1 ∷ rest) (omega arith) low (omega arith),
      byte_within_again r.0 255 limit r.1 rest top ordered (omega arith),
    ) refl

stay_row : (before : Option (ℕ × ℕ)) (stay : List (ℕ × ℕ)) → All (λ (r : ℕ × ℕ). least_stay before ≤ r.0) stay → All (λ (r : ℕ × ℕ). r.1 < 256) stay
    → All (λ (r : ℕ × ℕ). r.0 ≤ r.1) stay → AllPairs (λ (r : ℕ × ℕ) (later : ℕ × ℕ). r.1 + 1 < later.0) stay → RowAgain range_at spelled_range before stay
stay_row before [] low top ordered apart = tt
stay_row before (r ∷ stay) low top ordered apart = (
  range_again before r (All-head (λ (x : ℕ × ℕ). least_stay before ≤ x.0) r stay low) (All-head (λ (x : ℕ × ℕ). x.0 ≤ x.1) r stay ordered) (All-head (λ (x : ℕ × ℕ). x.1 < 256) r stay top),
  stay_row (Some r) stay
      (λ k d within. omega (arith, apart 0 (suc k) d (omega arith) (omega arith)))
      (All-tail (λ (x : ℕ × ℕ). x.1 < 256) r stay top)
      (All-tail (λ (x : ℕ × ℕ). x.0 ≤ x.1) r stay ordered)
      (λ i j d below within. apart (suc i) (suc j) d (omega arith) (omega arith)),
)

pub stay_again : (stay : List (ℕ × ℕ)) → IsRanges stay → RowAgain range_at spelled_range None stay
stay_again stay form = stay_row None stay (λ k d within. omega arith) form.bytes form.ordered form.apart

-- ---- edges and rests

edge_again : (before : Option Edge) (lo hi : ℕ) (take : Bool) (number : Option ℕ) (target : ℕ) → least_edge before ≤ lo → lo ≤ hi → hi < 256 → target < 2 ^ 16
    → IsNumber number → IsFlagged take true number → may_stand before (record { lo = lo; hi = hi; take = take; number = number; target = target }) ≡ true
    → IsAgain (edge_at before) spelled_edge (record { lo = lo; hi = hi; take = take; number = number; target = target })
unfolding edge_at plain_edge_at numbered_edge_at
edge_again before lo hi false None target low ordered top short held flag stands limit rest =
    rw (
      byte_within_again (least_edge before) 255 limit lo (hi ∷ 0 ∷ (to_be_bytes w16 target ++ rest)) (omega arith) low (omega arith),
      byte_within_again lo 255 limit hi (0 ∷ (to_be_bytes w16 target ++ rest)) top ordered (omega arith),
      byte_within_again 0 2 limit 0 (to_be_bytes w16 target ++ rest) (omega arith) (omega arith) (omega arith),
      number_again w16 (2 ^ 16) wide16 (λ n. may_stand before (plain_edge lo hi false n)) limit target rest short stands,
    ) refl
edge_again before lo hi true None target low ordered top short held flag stands limit rest =
    rw (
      byte_within_again (least_edge before) 255 limit lo (hi ∷ 1 ∷ (to_be_bytes w16 target ++ rest)) (omega arith) low (omega arith),
      byte_within_again lo 255 limit hi (1 ∷ (to_be_bytes w16 target ++ rest)) top ordered (omega arith),
      byte_within_again 0 2 limit 1 (to_be_bytes w16 target ++ rest) (omega arith) (omega arith) (omega arith),
      number_again w16 (2 ^ 16) wide16 (λ n. may_stand before (plain_edge lo hi true n)) limit target rest short stands,
    ) refl
edge_again before lo hi true (Some number) target low ordered top short held flag stands limit rest =
    rw (
      byte_within_again (least_edge before) 255 limit lo (hi ∷ 2 ∷ (to_be_bytes w16 target ++ (to_be_bytes w32 number ++ rest))) (omega arith) low (omega arith),
      byte_within_again lo 255 limit hi (2 ∷ (to_be_bytes w16 target ++ (to_be_bytes w32 number ++ rest))) top ordered (omega arith),
      byte_within_again 0 2 limit 2 (to_be_bytes w16 target ++ (to_be_bytes w32 number ++ rest)) (omega arith) (omega arith) (omega arith),
      short_again limit target (to_be_bytes w32 number ++ rest) short,
      number_again w32 (2 ^ 32) wide32 (λ n. may_stand before (numbered_edge lo hi target n)) limit number rest held stands,
    ) refl
edge_again before lo hi false (Some number) target low ordered top short held flag stands limit rest = absurd (false≢true flag)

-- the first may stand behind the one before, if there is one, and each behind its own
abbrev pub is_row : {X : Type 0} → (X → X → Bool) → Option X → List X → Bool
is_row follows None xs = in_row follows xs
is_row follows (Some before) xs = row_behind follows before xs

edge_low : (before : Option Edge) (e : Edge) (edges : List Edge) → is_row may_follow before (e ∷ edges) ≡ true
    → (least_edge before ≤ e.lo) × (may_stand before e ≡ true) × (row_behind may_follow e edges ≡ true)
edge_low None e edges h = (omega arith, refl, h)
edge_low (Some before) e edges h =
    let two = and_parts (may_follow before e) (row_behind may_follow e edges) h in
    let low = and_parts (ltb before.hi e.lo) (not (eqb (before.hi + 1) e.lo && is_alike before e)) two.0 in
    (omega (arith, ltb-true before.hi e.lo low.0), two.0, two.1)

pub edges_again : (before : Option Edge) (edges : List Edge) → is_row may_follow before edges ≡ true → All (λ (e : Edge). e.lo ≤ e.hi) edges → All EdgeFits edges → All IsHeldEdge edges
    → RowAgain edge_at spelled_edge before edges
edges_again before [] row ordered fits held = tt
edges_again before (e ∷ edges) row ordered fits held =
    let low = edge_low before e edges row in
    let fit = All-head EdgeFits e edges fits in
    let hold = All-head IsHeldEdge e edges held in (
      edge_again before e.lo e.hi e.take e.number e.target low.0 (All-head (λ (x : Edge). x.lo ≤ x.hi) e edges ordered) hold.hi fit.target hold.number fit.flag low.1,
      edges_again (Some e) edges low.2 (All-tail (λ (x : Edge). x.lo ≤ x.hi) e edges ordered) (All-tail EdgeFits e edges fits) (All-tail IsHeldEdge e edges held),
    )

pub rest_again : (skip : Bool) (number : Option ℕ) (target : ℕ) → target < 2 ^ 16 → IsNumber number → IsFlagged skip false number
    → IsAgain rest_at spelled_rest (record { skip = skip; number = number; target = target })
unfolding rest_at plain_rest_at numbered_rest_at
rest_again false None target short held flag limit rest =
    rw (byte_within_again 0 2 limit 0 (to_be_bytes w16 target ++ rest) (omega arith) (omega arith) (omega arith), short_again limit target rest short) refl
rest_again true None target short held flag limit rest =
    rw (byte_within_again 0 2 limit 1 (to_be_bytes w16 target ++ rest) (omega arith) (omega arith) (omega arith), short_again limit target rest short) refl
rest_again false (Some number) target short held flag limit rest =
    rw (
      byte_within_again 0 2 limit 2 (to_be_bytes w16 target ++ (to_be_bytes w32 number ++ rest)) (omega arith) (omega arith) (omega arith),
      short_again limit target (to_be_bytes w32 number ++ rest) short,
      long_again limit number rest held,
    ) refl
rest_again true (Some number) target short held flag limit rest = absurd (false≢true (sym flag))

-- ---- answers

answer_again : (before : Option Answer) (a : Answer) → least_answer before ≤ a.number → a.number < 2 ^ 32 → a.target < 2 ^ 16 → IsAgain (answer_at before) spelled_answer a
unfolding answer_at
answer_again before a low held short limit rest =
    rw (
      number_again w32 (2 ^ 32) wide32 (leb (least_answer before)) limit a.number (to_be_bytes w16 a.target ++ rest) held (le-leb _ _ low),
      short_again limit a.target rest short,
    ) refl

answer_low : (before : Option Answer) (a : Answer) (answers : List Answer) → is_row answer_follows before (a ∷ answers) ≡ true
    → (least_answer before ≤ a.number) × (row_behind answer_follows a answers ≡ true)
answer_low None a answers h = (omega arith, h)
answer_low (Some before) a answers h =
    let two = and_parts (answer_follows before a) (row_behind answer_follows a answers) h in
    (omega (arith, ltb-true before.number a.number two.0), two.1)

pub answers_again : (before : Option Answer) (answers : List Answer) → is_row answer_follows before answers ≡ true → All (λ (a : Answer). a.number < 2 ^ 32) answers
    → All (λ (a : Answer). a.target < 2 ^ 16) answers → RowAgain answer_at spelled_answer before answers
answers_again before [] row held fits = tt
answers_again before (a ∷ answers) row held fits =
    let low = answer_low before a answers row in (
      answer_again before a low.0 (All-head (λ (x : Answer). x.number < 2 ^ 32) a answers held) (All-head (λ (x : Answer). x.target < 2 ^ 16) a answers fits),
      answers_again (Some a) answers low.1 (All-tail (λ (x : Answer). x.number < 2 ^ 32) a answers held) (All-tail (λ (x : Answer). x.target < 2 ^ 16) a answers fits),
    )
