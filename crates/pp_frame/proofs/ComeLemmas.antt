-- How far a chunked body was read, and what its end tells.
use Rattle.std.proofs.Common.{◌≡◌, ◌≢◌, ℕ, suc, ◌+◌, ◌<◌, Bool, true, false, List, [], ◌∷◌, ◌++◌, length, take, drop, get_or, replicate, None, Some, inl, inr, refl, sym, ap, ◌∙◌, subst, arith, append_assoc}
use Rattle.std.proofs.lemmas.Bool.{cases_lt}
use Rattle.std.proofs.lemmas.List.{append-nil, map-append, take_more, take_at, length-map, length-append, take-append-drop, length-replicate}
use Rattle.pp_frame.specs.declared.places.Place.{Place}
use Rattle.pp_frame.specs.declared.places.Place.TheVariants.{FirstDigit, Digits, Extension, SizeFeed, Data, DataReturn, DataFeed, FieldStart, Name, Value, ValueFeed, LastFeed, Whole}
use Rattle.pp_frame.specs.Chunked.{ChunkedBody, IsChunkedBody, IsChunked, IsChunkedFront, IsFirstWrong, spelled, unmarked, data_in, all_data}
use Rattle.pp_frame.specs.steps.Places.{holds_data, next, Marked, Body, Lines, BehindSize, LineEnd, Rest, HasCome, kept, is_whole}
use Rattle.pp_frame.proofs.PlaceLemmas.{step, back}

-- nothing was read yet
pub come_none : HasCome [] [] FirstDigit
come_none = record { marks = []; bytes_are = refl; body_is = refl; forth = λ more rest. rest; only = only_none }
  where
    only_none : (front more : Marked) → unmarked front ≡ [] → Body (front ++ more) → (front ≡ []) × Rest FirstDigit more
    only_none [] more is whole = (refl, whole)
    only_none (p ∷ front) more is whole = absurd (cc)

-- marked bytes with one more behind them
last_split : (front : Marked) (bytes : List ℕ) (b : ℕ) → unmarked front ≡ bytes ++ b ∷ [] → (first : Marked) × (k : Bool) × (front ≡ first ++ (b, k) ∷ []) × (unmarked first ≡ bytes)
last_split [] [] b is = absurd (cc)
last_split [] (c ∷ bytes) b is = absurd (cc)
last_split ((x, k) ∷ []) [] b is =
    let same : x ≡ b = cc in
    ([], k, ap (λ (y : ℕ). (y, k) ∷ []) same, refl)
last_split ((x, k) ∷ p ∷ front) [] b is = absurd (cc)
last_split ((x, k) ∷ front) (c ∷ bytes) b is =
    let same : x ≡ c = cc in
    let rest : unmarked front ≡ bytes ++ b ∷ [] = cc in
    let split = last_split front bytes b rest in
    ((x, k) ∷ split.0, split.1, ap (λ (ys : Marked). (x, k) ∷ ys) split.2, ap (λ (ys : List ℕ). x ∷ ys) split.3 ∙ ap (λ (y : ℕ). y ∷ bytes) same)

-- the data with one more byte behind it
data_push : (marks : Marked) (b : ℕ) (k : Bool) → data_in (marks ++ (b, k) ∷ []) ≡ kept k b (data_in marks)
data_push [] b true = refl
data_push [] b false = refl
data_push ((x, true) ∷ marks) b true = ap (λ (ys : List ℕ). x ∷ ys) (data_push marks b true)
data_push ((x, true) ∷ marks) b false = ap (λ (ys : List ℕ). x ∷ ys) (data_push marks b false)
data_push ((x, false) ∷ marks) b k = data_push marks b k

-- one more byte was read
pub come_more : (bytes body now : List ℕ) (s t : Place) (b : ℕ) → HasCome bytes body s → next s b ≡ Some t → now ≡ kept (holds_data s) b body → HasCome (bytes ++ b ∷ []) now t
come_more bytes body now s t b come is now_is =
    let last : ℕ × Bool = (b, holds_data s) in
    record {
      marks = come.marks ++ last ∷ [];
      bytes_are = map-append (λ (p : ℕ × Bool). p.0) come.marks (last ∷ []) ∙ ap (λ (ys : List ℕ). ys ++ b ∷ []) come.bytes_are;
      body_is = now_is ∙ ap (kept (holds_data s) b) come.body_is ∙ sym (data_push come.marks b (holds_data s));
      forth = λ more rest. subst Body (sym (append_assoc come.marks (last ∷ []) more)) (come.forth (last ∷ more) (back s b t more is rest));
      only = λ front more bytes_are whole. go front more bytes_are whole;
    }
  where
    go : (front more : Marked) → unmarked front ≡ bytes ++ b ∷ [] → Body (front ++ more) → (front ≡ come.marks ++ (b, holds_data s) ∷ []) × Rest t more
    go front more bytes_are whole =
        let split = last_split front bytes b bytes_are in
        let joined : front ++ more ≡ split.0 ++ ((b, split.1) ∷ more) = ap (λ (ys : Marked). ys ++ more) split.2 ∙ append_assoc split.0 ((b, split.1) ∷ []) more in
        let earlier = come.only split.0 ((b, split.1) ∷ more) split.3 (subst Body joined whole) in
        let here = step s b split.1 more earlier.1 in
        let same : here.0 ≡ t = let e = sym here.1 ∙ is in (cc) in
        let P : Place → Type 0 = λ p. Rest p more in
        (split.2 ∙ ap (λ (ys : Marked). ys ++ (b, split.1) ∷ []) earlier.0 ∙ ap (λ (k : Bool). come.marks ++ (b, k) ∷ []) here.2, subst P same here.3)

-- a whole chunked body was read
pub came_whole : (bytes body : List ℕ) → HasCome bytes body Whole → IsChunked bytes body
came_whole bytes body come =
    let whole = come.forth [] refl in
    let marks_are : come.marks ≡ spelled whole.0 = sym (append-nil come.marks) ∙ whole.2 in
    record { whole = whole.0; fits = whole.1; bytes_are = sym come.bytes_are ∙ ap unmarked marks_are; body_is = come.body_is ∙ ap data_in marks_are }

-- from each other place on something may stand
lines_on : (more : Marked) × (0 < length more) × Lines more
lines_on = ((13, false) ∷ (10, false) ∷ [], omega arith, ([], (λ i d within. absurd (omega arith)), refl))

body_on : (more : Marked) × (0 < length more) × Body more
unfolding spelled
body_on = (
  (48, false) ∷ (13, false) ∷ (10, false) ∷ (13, false) ∷ (10, false) ∷ [],
  omega arith,
  (
    record { chunks = []; last = record { digits = 48 ∷ []; extension = None }; fields = [] },
    record { chunks = (λ i d within. absurd (omega arith)); last = record { some = omega arith; digits = (omega arith, tt); small = omega arith; extension = tt }; zero_size = refl; fields = (λ i d within. absurd (omega arith)) },
    refl,
  ),
)

end_on : (more : Marked) × (0 < length more) × LineEnd Body more
end_on = ((13, false) ∷ (10, false) ∷ body_on.0, omega arith, ((10, false) ∷ body_on.0, refl, (body_on.0, refl, body_on.2)))

size_on : (size : ℕ) → (more : Marked) × BehindSize size more
size_on size = elim (cases_lt 0 size) [
  | inl some ↦ (all_data (replicate size 0) ++ end_on.0, inr (some, (replicate size 0, end_on.0, length-replicate size 0, refl, end_on.2)))
  | inr none ↦ (lines_on.0, inl (omega arith, lines_on.2))
]

goes_on : (s : Place) → s ≢ Whole → (more : Marked) × (0 < length more) × Rest s more
goes_on FirstDigit other = body_on
goes_on (Digits size) other =
    let on = size_on size in
    ((13, false) ∷ (10, false) ∷ on.0, omega arith, record { digits = []; extension = None; tail = on.0; each = tt; small = tt; text = tt; bytes_are = refl; behind = on.1 })
goes_on (Extension size) other =
    let on = size_on size in
    ((13, false) ∷ (10, false) ∷ on.0, omega arith, ([], (13, false) ∷ (10, false) ∷ on.0, (λ i d within. absurd (omega arith)), refl, ((10, false) ∷ on.0, refl, (on.0, refl, on.1))))
goes_on (SizeFeed size) other =
    let on = size_on size in
    ((10, false) ∷ on.0, omega arith, (on.0, refl, on.1))
goes_on (Data left) other =
    let e : suc (length (replicate left 0)) ≡ left + 1 = omega (arith, length-replicate {A = ℕ} left 0) in
    ((0, true) ∷ (all_data (replicate left 0) ++ end_on.0), omega arith, (0 ∷ replicate left 0, end_on.0, e, refl, end_on.2))
goes_on DataReturn other = end_on
goes_on DataFeed other = ((10, false) ∷ body_on.0, omega arith, (body_on.0, refl, body_on.2))
goes_on FieldStart other = lines_on
goes_on Name other = (
  (58, false) ∷ (13, false) ∷ (10, false) ∷ lines_on.0,
  omega arith,
  (
    [],
    (58, false) ∷ (13, false) ∷ (10, false) ∷ lines_on.0,
    (λ i d within. absurd (omega arith)),
    refl,
    ((13, false) ∷ (10, false) ∷ lines_on.0, refl, ([], (13, false) ∷ (10, false) ∷ lines_on.0, (λ i d within. absurd (omega arith)), refl, ((10, false) ∷ lines_on.0, refl, (lines_on.0, refl, lines_on.2)))),
  ),
)
goes_on Value other =
    ((13, false) ∷ (10, false) ∷ lines_on.0, omega arith, ([], (13, false) ∷ (10, false) ∷ lines_on.0, (λ i d within. absurd (omega arith)), refl, ((10, false) ∷ lines_on.0, refl, (lines_on.0, refl, lines_on.2))))
goes_on ValueFeed other = ((10, false) ∷ lines_on.0, omega arith, (lines_on.0, refl, lines_on.2))
goes_on LastFeed other = ((10, false) ∷ [], omega arith, ([], refl, refl))
goes_on Whole other = absurd (other refl)

-- a chunked body that is cut off was read
pub came_front : (bytes body : List ℕ) (s : Place) → HasCome bytes body s → s ≢ Whole → IsChunkedFront bytes body
came_front bytes body s come other =
    let on = goes_on s other in
    let whole = come.forth on.0 on.2 in
    let long : length bytes ≡ length come.marks = ap length (sym come.bytes_are) ∙ length-map come.marks (λ (p : ℕ × Bool). p.0) in
    let front : take (length bytes) (spelled whole.0) ≡ come.marks = ap (take (length bytes)) (sym whole.2) ∙ take_at come.marks on.0 (length bytes) (sym long) in
    record {
      whole = whole.0;
      fits = whole.1;
      within = omega (arith, long, ap length whole.2, length-append come.marks on.0, on.1);
      bytes_are = sym come.bytes_are ∙ ap unmarked (sym front);
      body_is = come.body_is ∙ ap data_in (sym front);
    }

-- a byte that may not stand at its place is the first wrong one
pub came_wrong : (bytes body : List ℕ) (i : ℕ) (s : Place) → i < length bytes → HasCome (take i bytes) body s → s ≢ Whole → next s (get_or bytes i 0) ≡ None → IsFirstWrong bytes i
came_wrong bytes body i s within come other stops = record { within = within; so_far = body; before = came_front (take i bytes) body s come other; none = none }
  where
    none : (whole : ChunkedBody) → IsChunkedBody whole → take (i + 1) bytes ≡ unmarked (take (i + 1) (spelled whole)) → ⊥
    none whole fits same =
        let b : ℕ = get_or bytes i 0 in
        let all : Marked = spelled whole in
        let split = last_split (take (i + 1) all) (take i bytes) b (sym same ∙ take_more bytes i 0 within) in
        let joined : all ≡ split.0 ++ ((b, split.1) ∷ drop (i + 1) all) =
        sym (take-append-drop (i + 1) all) ∙ ap (λ (ys : Marked). ys ++ drop (i + 1) all) split.2 ∙ append_assoc split.0 ((b, split.1) ∷ []) (drop (i + 1) all) in
        let rest = come.only split.0 ((b, split.1) ∷ drop (i + 1) all) split.3 (whole, fits, sym joined) in
        let here = step s b split.1 (drop (i + 1) all) rest.1 in
        let e = sym here.1 ∙ stops in
        (cc)

-- the place behind the last byte, and the others
pub whole_place : (s : Place) → true ≡ is_whole s → s ≡ Whole
whole_place FirstDigit is = absurd (cc)
whole_place (Digits size) is = absurd (cc)
whole_place (Extension size) is = absurd (cc)
whole_place (SizeFeed size) is = absurd (cc)
whole_place (Data left) is = absurd (cc)
whole_place DataReturn is = absurd (cc)
whole_place DataFeed is = absurd (cc)
whole_place FieldStart is = absurd (cc)
whole_place Name is = absurd (cc)
whole_place Value is = absurd (cc)
whole_place ValueFeed is = absurd (cc)
whole_place LastFeed is = absurd (cc)
whole_place Whole is = refl

pub other_place : (s : Place) → false ≡ is_whole s → s ≢ Whole
other_place s is same = let e = is ∙ ap is_whole same in (cc)
