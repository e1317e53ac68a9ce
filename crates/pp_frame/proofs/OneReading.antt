-- A chunked body is read in one way, and of the same bytes no two of the answers are true.
use Rattle.std.proofs.Common.{◌≡◌, ◌≢◌, ℕ, ◌+◌, ◌<◌, ◌≤◌, Bool, false, List, [], ◌∷◌, ◌++◌, length, take, drop, inl, inr, refl, sym, ap, ◌∙◌, subst, arith, length-append, length-drop}
use Rattle.std.specs.List.{flat_map}
use Rattle.std.proofs.lemmas.Bool.{cases_Bool, cases_lt}
use Rattle.std.proofs.lemmas.List.{append-nil, take-append-drop, take_all, take-take, take-map, length-map, length-take-le}
use Rattle.pp_frame.specs.declared.places.Place.{Place}
use Rattle.pp_frame.specs.declared.places.Place.TheVariants.{FirstDigit, Digits, Extension, SizeFeed, Data, DataReturn, DataFeed, FieldStart, Name, Value, ValueFeed, LastFeed, Whole}
use Rattle.pp_frame.specs.Bytes.{crlf, is_text_byte, is_token_byte}
use Rattle.pp_frame.specs.Chunked.{chunk_bytes, ChunkedBody, IsChunkedBody, IsChunked, IsChunkedFront, IsFirstWrong, size_line, extension_bytes, field_line, spelled, no_data, all_data, unmarked, data_in}
use Rattle.pp_frame.specs.steps.Places.{next, is_whole, Marked, Lit, Run, LineEnd, Nothing, Body, Lines, BehindSize, BehindDigits, Rest}
use Rattle.pp_frame.proofs.PlaceLemmas.{step}
use Rattle.pp_frame.proofs.ComeLemmas.{whole_place, other_place}

-- what begins with a certain byte, and what ends with such, is not empty
lit_some : (b : ℕ) (Then : Marked → Type 0) (more : Marked) → Lit b Then more → 0 < length more
lit_some b Then more (tail, is, then) = omega (arith, ap length is)

run_some : (test : ℕ → Bool) (Then : Marked → Type 0) (more : Marked) → ((tail : Marked) → Then tail → 0 < length tail) → Run test Then more → 0 < length more
run_some test Then more some (xs, tail, pass, is, then) = omega (arith, ap length is, length-append (no_data xs) tail, some tail then)

-- neither is a chunked body, nor its field lines, nor the end of a size
body_some : (more : Marked) → Body more → 0 < length more
unfolding spelled
body_some more (body, fits, is) =
    let fields : List ℕ = flat_map field_line body.fields in
    omega (
      arith,
      ap length is,
      length-append (flat_map chunk_bytes body.chunks) (no_data (size_line body.last ++ (fields ++ crlf))),
      length-map (size_line body.last ++ (fields ++ crlf)) (λ (b : ℕ). let marked : ℕ × Bool = (b, false) in marked),
      length-append (size_line body.last) (fields ++ crlf),
      length-append fields crlf,
    )

lines_some : (more : Marked) → Lines more → 0 < length more
lines_some more (fields, each, is) =
    omega (arith, ap length is, length-map (flat_map field_line fields ++ crlf) (λ (b : ℕ). let marked : ℕ × Bool = (b, false) in marked), length-append (flat_map field_line fields) crlf)

digits_some : (size : ℕ) (more : Marked) → BehindDigits size more → 0 < length more
digits_some size more rest =
    let ending : List ℕ = extension_bytes rest.extension ++ crlf in
    omega (
      arith,
      ap length rest.bytes_are,
      length-append (no_data (rest.digits ++ ending)) rest.tail,
      length-map (rest.digits ++ ending) (λ (b : ℕ). let marked : ℕ × Bool = (b, false) in marked),
      length-append rest.digits ending,
      length-append (extension_bytes rest.extension) crlf,
    )

-- before the end something is left
some_left : (s : Place) (more : Marked) → s ≢ Whole → Rest s more → 0 < length more
some_left FirstDigit more other rest = body_some more rest
some_left (Digits size) more other rest = digits_some size more rest
some_left (Extension size) more other rest = run_some is_text_byte (LineEnd (BehindSize size)) more (lit_some 13 (Lit 10 (BehindSize size))) rest
some_left (SizeFeed size) more other rest = lit_some 10 (BehindSize size) more rest
some_left (Data left) more other (xs, tail, long, is, then) = omega (arith, ap length is, length-append (all_data xs) tail, lit_some 13 (Lit 10 Body) tail then)
some_left DataReturn more other rest = lit_some 13 (Lit 10 Body) more rest
some_left DataFeed more other rest = lit_some 10 Body more rest
some_left FieldStart more other rest = lines_some more rest
some_left Name more other rest = run_some is_token_byte (Lit 58 (Run is_text_byte (LineEnd Lines))) more (lit_some 58 (Run is_text_byte (LineEnd Lines))) rest
some_left Value more other rest = run_some is_text_byte (LineEnd Lines) more (lit_some 13 (Lit 10 Lines)) rest
some_left ValueFeed more other rest = lit_some 10 Lines more rest
some_left LastFeed more other rest = lit_some 10 Nothing more rest
some_left Whole more other rest = absurd (other refl)

-- where nothing may be left, nothing is
ends : (s : Place) (more : Marked) → Rest s [] → Rest s more → more ≡ []
ends s more none rest = elim (cases_Bool (is_whole s)) [
  | inl whole ↦ let P : Place → Type 0 = λ p. Rest p more in subst P (whole_place s (sym whole)) rest
  | inr other ↦ absurd (omega (arith, some_left s [] (other_place s (sym other)) none))
]

-- the same bytes are marked in the same way, and no whole body goes on
agree : (s : Place) (xs ys m n : Marked) → unmarked xs ≡ unmarked ys → Rest s (xs ++ m) → Rest s (ys ++ n) → (xs ≡ ys) × (m ≡ [] → n ≡ [])
agree s [] [] m n same one two = (refl, λ none. ends s n (let P : Marked → Type 0 = λ zs. Rest s zs in subst P none one) two)
agree s [] (y ∷ ys) m n same one two = absurd (cc)
agree s (x ∷ xs) [] m n same one two = absurd (cc)
agree s ((b, k) ∷ xs) ((c, l) ∷ ys) m n same one two =
    let byte : b ≡ c = cc in
    let others : unmarked xs ≡ unmarked ys = cc in
    let first = step s b k (xs ++ m) one in
    let second = step s c l (ys ++ n) two in
    let place : second.0 ≡ first.0 = let e = sym second.1 ∙ ap (next s) (sym byte) ∙ first.1 in (cc) in
    let P : Place → Type 0 = λ p. Rest p (ys ++ n) in
    let on = agree first.0 xs ys m n others first.3 (subst P place second.3) in
    (ap (λ (j : Bool). (b, j) ∷ xs) (first.2 ∙ sym second.2) ∙ ap (λ (d : ℕ). (d, l) ∷ xs) byte ∙ ap (λ (zs : Marked). (c, l) ∷ zs) on.0, on.1)

-- a chunked body in two parts
cut : (k : ℕ) (whole : ChunkedBody) → IsChunkedBody whole → Body (take k (spelled whole) ++ drop k (spelled whole))
cut k whole fits = (whole, fits, take-append-drop k (spelled whole))

-- of the same bytes marked, fewer are the same too
fewer : (bytes : List ℕ) (i n : ℕ) (marks : Marked) → i ≤ n → take n bytes ≡ unmarked (take n marks) → take i bytes ≡ unmarked (take i marks)
fewer bytes i n marks within same =
    sym (take-take i n bytes within) ∙ ap (take i) same ∙ take-map (λ (p : ℕ × Bool). p.0) i (take n marks) ∙ ap unmarked (take-take i n marks within)

-- one whole body, with one end and one content
whole_within : (bytes a b : List ℕ) (u v : ℕ) → u ≤ v → v ≤ length bytes → IsChunked (take u bytes) a → IsChunked (take v bytes) b → (u ≡ v) × (a ≡ b)
whole_within bytes a b u v less within one two =
    let first : Marked = spelled one.whole in
    let second : Marked = spelled two.whole in
    let same : unmarked first ≡ unmarked (take u second) =
    sym one.bytes_are ∙ sym (take-take u v bytes less) ∙ ap (take u) two.bytes_are ∙ take-map (λ (p : ℕ × Bool). p.0) u second in
    let on = agree FirstDigit first (take u second) [] (drop u second) same (one.whole, one.fits, append-nil first) (cut u two.whole two.fits) in
    let none : drop u second ≡ [] = on.1 refl in
    let all : second ≡ first = sym (take-append-drop u second) ∙ ap (λ (zs : Marked). take u second ++ zs) none ∙ append-nil (take u second) ∙ sym on.0 in
    let long : length (take u bytes) ≡ length first = ap length one.bytes_are ∙ length-map first (λ (p : ℕ × Bool). p.0) in
    let wide : length (take v bytes) ≡ length second = ap length two.bytes_are ∙ length-map second (λ (p : ℕ × Bool). p.0) in
    (omega (arith, long, wide, ap length all, length-take-le u bytes (omega arith), length-take-le v bytes within), one.body_is ∙ ap data_in (sym all) ∙ sym two.body_is)

pub whole_once : (bytes a b : List ℕ) (u v : ℕ) → u ≤ length bytes → v ≤ length bytes → IsChunked (take u bytes) a → IsChunked (take v bytes) b → (u ≡ v) × (a ≡ b)
whole_once bytes a b u v low high one two = elim (cases_lt u v) [
  | inl less ↦ whole_within bytes a b u v (omega arith) high one two
  | inr more ↦ let e = whole_within bytes b a v u more low two one in (sym e.0, sym e.1)
]

-- a whole body begins none that is cut off
pub whole_no_front : (bytes a b : List ℕ) (u : ℕ) → u ≤ length bytes → IsChunked (take u bytes) a → IsChunkedFront bytes b → ⊥
whole_no_front bytes a b u within one two =
    let first : Marked = spelled one.whole in
    let second : Marked = spelled two.whole in
    let same : unmarked first ≡ unmarked (take u second) = sym one.bytes_are ∙ fewer bytes u (length bytes) second within (take_all (length bytes) bytes (omega arith) ∙ two.bytes_are) in
    let on = agree FirstDigit first (take u second) [] (drop u second) same (one.whole, one.fits, append-nil first) (cut u two.whole two.fits) in
    let none : drop u second ≡ [] = on.1 refl in
    omega (arith, ap length none, length-drop u second, two.within)

-- one content of bytes that are cut off
pub front_once : (bytes a b : List ℕ) → IsChunkedFront bytes a → IsChunkedFront bytes b → a ≡ b
front_once bytes a b one two =
    let n : ℕ = length bytes in
    let first : Marked = spelled one.whole in
    let second : Marked = spelled two.whole in
    let on = agree FirstDigit (take n first) (take n second) (drop n first) (drop n second) (sym one.bytes_are ∙ two.bytes_are) (cut n one.whole one.fits) (cut n two.whole two.fits) in
    one.body_is ∙ ap data_in on.0 ∙ sym two.body_is

-- bytes that are cut off have no wrong one
pub front_no_wrong : (bytes a : List ℕ) (i : ℕ) → IsChunkedFront bytes a → IsFirstWrong bytes i → ⊥
front_no_wrong bytes a i one wrong =
    wrong.none one.whole one.fits (fewer bytes (i + 1) (length bytes) (spelled one.whole) (let h : i < length bytes = wrong.within in omega arith) (take_all (length bytes) bytes (omega arith) ∙ one.bytes_are))

-- bytes that begin with a whole body have no wrong one
pub whole_no_wrong : (bytes a : List ℕ) (u i : ℕ) → u ≤ length bytes → IsChunked (take u bytes) a → IsFirstWrong bytes i → ⊥
whole_no_wrong bytes a u i within one wrong = elim (cases_lt i u) [
  | inl behind ↦
      let all : Marked = spelled one.whole in
      let long : length (take u bytes) ≡ length all = ap length one.bytes_are ∙ length-map all (λ (p : ℕ × Bool). p.0) in
      let same : take u all ≡ all = take_all u all (omega (arith, long, length-take-le u bytes within)) in
      wrong.none one.whole one.fits (fewer bytes (i + 1) u all (omega arith) (one.bytes_are ∙ ap unmarked (sym same)))
  | inr before ↦
      let P : List ℕ → Type 0 = λ xs. IsChunked xs a in
      let long : length (take i bytes) ≡ i = length-take-le i bytes (let h : i < length bytes = wrong.within in omega arith) in
      whole_no_front (take i bytes) a wrong.so_far u (omega arith) (subst P (sym (take-take u i bytes before)) one) wrong.before
]

-- one first wrong byte
wrong_within : (bytes : List ℕ) (i j : ℕ) → i < j → IsFirstWrong bytes i → IsFirstWrong bytes j → ⊥
wrong_within bytes i j less one two =
    let all : Marked = spelled two.before.whole in
    let long : length (take j bytes) ≡ j = length-take-le j bytes (let h : j < length bytes = two.within in omega arith) in
    one.none two.before.whole two.before.fits (fewer bytes (i + 1) j all (omega arith) (two.before.bytes_are ∙ ap (λ (n : ℕ). unmarked (take n all)) long))

pub wrong_once : (bytes : List ℕ) (i j : ℕ) → IsFirstWrong bytes i → IsFirstWrong bytes j → i ≡ j
wrong_once bytes i j one two = elim (cases_lt i j) [
  | inl less ↦ absurd (wrong_within bytes i j less one two)
  | inr more ↦ elim (cases_lt j i) [
    | inl less ↦ absurd (wrong_within bytes j i less two one)
    | inr same ↦ omega arith
  ]
]
