-- One byte of a chunked body: what may stand from its place on is the byte and what may stand behind it.
use Rattle.std.proofs.Common.{◌≡◌, ℕ, ◌+◌, ◌-◌, ◌*◌, ◌<◌, ◌≤◌, ◌^◌, Bool, true, false, cond, eqb, ltb, List, [], ◌∷◌, ◌++◌, length, Option, None, Some, ◌⊎◌, inl, inr, refl, sym, ap, ◌∙◌, subst, arith, append_assoc, All}
use Rattle.std.specs.List.{flat_map, AllPass}
use Rattle.std.specs.Char.{digit_value}
use Rattle.std.specs.Str.Parse.{AllDigits, digits_value_after}
use Rattle.std.proofs.lemmas.Bool.{and_from, and_parts, lt-ltb, ltb-true, eqb-true, cond-true, cond-false, cases_Bool, eqb-false}
use Rattle.std.proofs.lemmas.List.{map-append, nil_from_length}
use Rattle.std.proofs.lemmas.List.Elements.{All-cons, All-head, All-tail}
use Rattle.pp_frame.specs.declared.places.Place.{Place}
use Rattle.pp_frame.specs.declared.places.Place.TheVariants.{FirstDigit, Digits, Extension, SizeFeed, Data, DataReturn, DataFeed, FieldStart, Name, Value, ValueFeed, LastFeed, Whole}
use Rattle.pp_frame.specs.Bytes.{crlf, is_text_byte, is_token_byte}
use Rattle.pp_frame.specs.Chunked.{Chunk, IsChunk, chunk_bytes, ChunkedBody, IsExtension, SizeLine, IsSizeLine, size_of, size_line, spelled, no_data, all_data, FieldLine, IsFieldLine, field_line, extension_bytes}
use Rattle.pp_frame.specs.steps.Places.{holds_data, is_more, digit_or, when_is, behind_size, behind_data, next, Marked, Lit, Run, Counted, LineEnd, Nothing, Body, Lines, BehindSize, BehindDigits, Rest, IsFitting}

-- bytes without data, put together
pub no_data-append : (xs ys : List ℕ) → no_data (xs ++ ys) ≡ no_data xs ++ no_data ys
no_data-append xs ys = map-append (λ (b : ℕ). let marked : ℕ × Bool = (b, false) in marked) xs ys

no_data-then : (xs ys : List ℕ) (tail : Marked) → no_data (xs ++ ys) ++ tail ≡ no_data xs ++ (no_data ys ++ tail)
no_data-then xs ys tail = ap (λ (zs : Marked). zs ++ tail) (no_data-append xs ys) ∙ append_assoc (no_data xs) (no_data ys) tail

-- the one byte that may stand, and what is left behind it
lit_step : (wanted b : ℕ) (k : Bool) (more : Marked) (Then : Marked → Type 0) → Lit wanted Then ((b, k) ∷ more) → (b ≡ wanted) × (k ≡ false) × Then more
lit_step wanted b k more Then (tail, is, then) =
    let pair : (b, k) ≡ (wanted, false) = cc in
    let rest : tail ≡ more = cc in
    (ap (λ (p : ℕ × Bool). p.0) pair, ap (λ (p : ℕ × Bool). p.1) pair, subst Then rest then)

-- a byte of a run, or the byte that ends it
run_step : (test : ℕ → Bool) (b : ℕ) (k : Bool) (more : Marked) (Then : Marked → Type 0) → Run test Then ((b, k) ∷ more) →
    ((test b ≡ true) × (k ≡ false) × Run test Then more) ⊎ Then ((b, k) ∷ more)
run_step test b k more Then ([], tail, pass, is, then) = inr (subst Then (sym is) then)
run_step test b k more Then (x ∷ xs, tail, pass, is, then) =
    let pair : (b, k) ≡ (x, false) = cc in
    let rest : more ≡ no_data xs ++ tail = cc in
    let same : b ≡ x = ap (λ (p : ℕ × Bool). p.0) pair in
    inl (ap test same ∙ All-head (λ c. test c ≡ true) x xs pass, ap (λ (p : ℕ × Bool). p.1) pair, (xs, tail, All-tail (λ c. test c ≡ true) x xs pass, rest, then))

-- one more byte in front of a run
run_back : (test : ℕ → Bool) (b : ℕ) (more : Marked) (Then : Marked → Type 0) → test b ≡ true → Run test Then more → Run test Then ((b, false) ∷ more)
run_back test b more Then pass (xs, tail, each, is, then) = (b ∷ xs, tail, All-cons (λ c. test c ≡ true) b xs pass each, ap (λ (ys : Marked). (b, false) ∷ ys) is, then)

-- an empty run
run_none : (test : ℕ → Bool) (more : Marked) (Then : Marked → Type 0) → Then more → Run test Then more
run_none test more Then then = ([], more, (λ i d within. absurd (omega arith)), refl, then)

-- a choice that gave a place
chosen : {A : Type 0} (test : Bool) (x y : A) (other : Option A) → cond test (Some x) other ≡ Some y → ((test ≡ true) × (x ≡ y)) ⊎ ((test ≡ false) × (other ≡ Some y))
chosen true x y other is = inl (refl, cc)
chosen false x y other is = inr (refl, is)

-- the place behind the one byte that may stand
when_back : (wanted b : ℕ) (place t : Place) (more : Marked) (Then : Marked → Type 0) → when_is wanted b place None ≡ Some t → (Rest place more → Then more) → Rest t more → Lit wanted Then ((b, false) ∷ more)
when_back wanted b place t more Then is fits rest = elim (chosen (eqb b wanted) place t None is) [
  | inl yes' ↦
      let here : Rest place more = let P : Place → Type 0 = λ p. Rest p more in subst P (sym yes'.1) rest in
      (more, ap (λ (c : ℕ). (c, false) ∷ more) (eqb-true b wanted yes'.0), fits here)
  | inr no' ↦ absurd (let e = no'.1 in (cc))
]

-- what stands behind a size
size_to : (size : ℕ) (more : Marked) → BehindSize size more → Rest (behind_size size) more
size_to size more (inl (none, lines)) =
    let P : Place → Type 0 = λ p. Rest p more in
    subst P (ap behind_size (sym none)) lines
size_to size more (inr (some, counted)) =
    let P : Place → Type 0 = λ p. Rest p more in
    let Q : ℕ → Type 0 = λ n. Counted n (LineEnd Body) more in
    let e : size ≡ size - 1 + 1 = omega arith in
    subst P (sym (cond-false (eqb size 0) FieldStart (Data (size - 1)) (not_zero size some))) (subst Q e counted)
  where
    not_zero : (n : ℕ) → 0 < n → eqb n 0 ≡ false
    not_zero n positive = elim (cases_Bool (eqb n 0)) [ inl zero_is ↦ absurd (omega (arith, eqb-true n 0 zero_is)) | inr other ↦ other ]

size_from : (size : ℕ) (more : Marked) → Rest (behind_size size) more → BehindSize size more
size_from size more rest = elim (cases_Bool (eqb size 0)) [
  | inl none ↦
      let P : Place → Type 0 = λ p. Rest p more in
      inl (eqb-true size 0 none, subst P (cond-true (eqb size 0) FieldStart (Data (size - 1)) none) rest)
  | inr some ↦
      let P : Place → Type 0 = λ p. Rest p more in
      let Q : ℕ → Type 0 = λ n. Counted n (LineEnd Body) more in
      let apart : size ≡ 0 → ⊥ = eqb-false size 0 some in
      let e : size - 1 + 1 ≡ size = omega arith in
      inr (omega arith, subst Q e (subst P (cond-false (eqb size 0) FieldStart (Data (size - 1)) some) rest))
]

-- A size line and what stands behind it.
pub record SizeFirst (more : Marked) : Type 0 where
  pub line : SizeLine
  pub tail : Marked
  pub fits : IsSizeLine line
  pub bytes_are : more ≡ no_data (size_line line) ++ tail
  pub behind : BehindSize (size_of line) tail

-- a chunked body begins with a size line
body_to : (more : Marked) → Body more → SizeFirst more
unfolding spelled
body_to more (body, fits, is) = by_chunks body.chunks fits.chunks is
  where
    by_chunks : (chunks : List Chunk) → All IsChunk chunks → more ≡ flat_map chunk_bytes chunks ++ no_data (size_line body.last ++ (flat_map field_line body.fields ++ crlf)) → SizeFirst more
    by_chunks [] each e = record {
      line = body.last;
      tail = no_data (flat_map field_line body.fields ++ crlf);
      fits = fits.last;
      bytes_are = e ∙ no_data-append (size_line body.last) (flat_map field_line body.fields ++ crlf);
      behind = inl (fits.zero_size, (body.fields, fits.fields, refl));
    }
    by_chunks (chunk ∷ chunks) each e =
        let first : IsChunk chunk = All-head IsChunk chunk chunks each in
        let ending : Marked = no_data (size_line body.last ++ (flat_map field_line body.fields ++ crlf)) in
        let after : Marked = flat_map chunk_bytes chunks ++ ending in
        let others : ChunkedBody = record { chunks = chunks; last = body.last; fields = body.fields } in
        let behind : Body after = (others, record { chunks = All-tail IsChunk chunk chunks each; last = fits.last; zero_size = fits.zero_size; fields = fits.fields }, refl) in
        record {
          line = chunk.line;
          tail = all_data chunk.content ++ (no_data crlf ++ after);
          fits = first.line;
          bytes_are =
              e ∙ append_assoc (chunk_bytes chunk) (flat_map chunk_bytes chunks) ending
              ∙ append_assoc (no_data (size_line chunk.line)) (all_data chunk.content ++ no_data crlf) after
              ∙ ap (λ (ys : Marked). no_data (size_line chunk.line) ++ ys) (append_assoc (all_data chunk.content) (no_data crlf) after);
          behind = inr (omega (arith, first.some, first.long), (chunk.content, no_data crlf ++ after, first.long, refl, (no_data (10 ∷ []) ++ after, refl, (after, refl, behind))));
        }

-- a size line begins a chunked body
body_from : (more : Marked) → SizeFirst more → Body more
unfolding spelled
body_from more first = by_size first.behind
  where
    by_size : BehindSize (size_of first.line) first.tail → Body more
    by_size (inl (none, (fields, each, is))) = (
      record { chunks = []; last = first.line; fields = fields },
      record { chunks = (λ i d within. absurd (omega arith)); last = first.fits; zero_size = none; fields = each },
      first.bytes_are ∙ ap (λ (ys : Marked). no_data (size_line first.line) ++ ys) is ∙ sym (no_data-append (size_line first.line) (flat_map field_line fields ++ crlf)),
    )
    by_size (inr (some, (content, tail, long, is, (left, cr, (after, lf, (body, fits, spells)))))) =
        let chunk : Chunk = record { line = first.line; content = content } in
        let ending : Marked = no_data (size_line body.last ++ (flat_map field_line body.fields ++ crlf)) in
        let rest : tail ≡ no_data crlf ++ (flat_map chunk_bytes body.chunks ++ ending) = cr ∙ ap (λ (ys : Marked). (13, false) ∷ ys) (lf ∙ ap (λ (ys : Marked). (10, false) ∷ ys) spells) in (
          record { chunks = chunk ∷ body.chunks; last = body.last; fields = body.fields },
          record { chunks = All-cons IsChunk chunk body.chunks (record { line = first.fits; some = omega arith; long = long }) fits.chunks; last = fits.last; zero_size = fits.zero_size; fields = fits.fields },
          first.bytes_are ∙ ap (λ (ys : Marked). no_data (size_line first.line) ++ ys) (is ∙ ap (λ (ys : Marked). all_data content ++ ys) rest ∙ sym (append_assoc (all_data content) (no_data crlf) (flat_map chunk_bytes body.chunks ++ ending)))
              ∙ sym (append_assoc (no_data (size_line first.line)) (all_data content ++ no_data crlf) (flat_map chunk_bytes body.chunks ++ ending))
              ∙ sym (append_assoc (chunk_bytes chunk) (flat_map chunk_bytes body.chunks) ending),
        )

-- the size of more digits is no less
size_grows : (n : ℕ) (digits : List ℕ) → n ≤ digits_value_after 16 n digits
size_grows n [] = omega arith
size_grows n (d ∷ digits) = omega (arith, size_grows (n * 16 + digit_value d) digits)

-- a size below 2 ^ 64 fits, and one that fits behind such a one is below 2 ^ 64
fitting : (digits : List ℕ) (size : ℕ) → size < 2 ^ 64 → IsFitting digits size
fitting [] size small = tt
fitting (d ∷ digits) size small = small

unfitting : (digits : List ℕ) (n : ℕ) → n < 2 ^ 64 → IsFitting digits (digits_value_after 16 n digits) → digits_value_after 16 n digits < 2 ^ 64
unfitting [] n small fits = small
unfitting (d ∷ digits) n small fits = fits

-- the test of one more digit
more_passes : (size b : ℕ) → digit_value b < 16 → size * 16 + digit_value b < 2 ^ 64 → is_more size b ≡ true
more_passes size b digit small = and_from (ltb (digit_value b) 16) (ltb (size * 16 + digit_value b) (2 ^ 64)) (lt-ltb (digit_value b) 16 digit) (lt-ltb (size * 16 + digit_value b) (2 ^ 64) small)

-- digits begin with one more, or what ends them stands there
digits_step : (size b : ℕ) (k : Bool) (more : Marked) (other : Option Place) → BehindDigits size ((b, k) ∷ more) →
    ((k ≡ false) × (digit_or size b other ≡ Some (Digits (size * 16 + digit_value b))) × BehindDigits (size * 16 + digit_value b) more)
    ⊎ (((b ≡ 13) × (k ≡ false) × Lit 10 (BehindSize size) more) ⊎ ((b ≡ 59) × (k ≡ false) × Run is_text_byte (LineEnd (BehindSize size)) more))
digits_step size b k more other rest = by_digits rest.digits rest.extension rest.each rest.small rest.text rest.bytes_are rest.behind
  where
    by_digits : (digits : List ℕ) (extension : Option (List ℕ)) → AllDigits 16 digits → IsFitting digits (digits_value_after 16 size digits) → IsExtension extension →
        (b, k) ∷ more ≡ no_data (digits ++ (extension_bytes extension ++ crlf)) ++ rest.tail → BehindSize (digits_value_after 16 size digits) rest.tail →
        ((k ≡ false) × (digit_or size b other ≡ Some (Digits (size * 16 + digit_value b))) × BehindDigits (size * 16 + digit_value b) more)
        ⊎ (((b ≡ 13) × (k ≡ false) × Lit 10 (BehindSize size) more) ⊎ ((b ≡ 59) × (k ≡ false) × Run is_text_byte (LineEnd (BehindSize size)) more))
    by_digits [] None each small text e behind =
        let pair : (b, k) ≡ (13, false) = cc in
        let left : more ≡ (10, false) ∷ rest.tail = cc in
        inr (inl (ap (λ (p : ℕ × Bool). p.0) pair, ap (λ (p : ℕ × Bool). p.1) pair, (rest.tail, left, behind)))
    by_digits [] (Some xs) each small text e behind =
        let pair : (b, k) ≡ (59, false) = cc in
        let left : more ≡ no_data (xs ++ crlf) ++ rest.tail = cc in
        inr (inr (ap (λ (p : ℕ × Bool). p.0) pair, ap (λ (p : ℕ × Bool). p.1) pair, (xs, no_data crlf ++ rest.tail, text, left ∙ no_data-then xs crlf rest.tail, ((10, false) ∷ rest.tail, refl, (rest.tail, refl, behind)))))
    by_digits (d ∷ digits) extension each small text e behind =
        let pair : (b, k) ≡ (d, false) = cc in
        let left : more ≡ no_data (digits ++ (extension_bytes extension ++ crlf)) ++ rest.tail = cc in
        let same : d ≡ b = sym (ap (λ (p : ℕ × Bool). p.0) pair) in
        let P : ℕ → Type 0 = λ x. (digit_value x < 16) × (digits_value_after 16 (size * 16 + digit_value x) digits < 2 ^ 64) × BehindSize (digits_value_after 16 (size * 16 + digit_value x) digits) rest.tail in
        let here = subst P same (each.0, small, behind) in
        let fits : size * 16 + digit_value b < 2 ^ 64 = omega (arith, size_grows (size * 16 + digit_value b) digits, here.1) in
        inl (
          ap (λ (p : ℕ × Bool). p.1) pair,
          cond-true (is_more size b) (Some (Digits (size * 16 + digit_value b))) other (more_passes size b here.0 fits),
          record { digits = digits; extension = extension; tail = rest.tail; each = each.1; small = fitting digits (digits_value_after 16 (size * 16 + digit_value b) digits) here.1; text = text; bytes_are = left; behind = here.2 },
        )

-- one more digit in front of digits
digits_back : (size b : ℕ) (more : Marked) → is_more size b ≡ true → BehindDigits (size * 16 + digit_value b) more → BehindDigits size ((b, false) ∷ more)
digits_back size b more pass rest =
    let both = and_parts (ltb (digit_value b) 16) (ltb (size * 16 + digit_value b) (2 ^ 64)) pass in
    record {
      digits = b ∷ rest.digits;
      extension = rest.extension;
      tail = rest.tail;
      each = (ltb-true (digit_value b) 16 both.0, rest.each);
      small = unfitting rest.digits (size * 16 + digit_value b) (ltb-true (size * 16 + digit_value b) (2 ^ 64) both.1) rest.small;
      text = rest.text;
      bytes_are = ap (λ (ys : Marked). (b, false) ∷ ys) rest.bytes_are;
      behind = rest.behind;
    }

-- field lines begin with a CRLF, or with a name
lines_step : (b : ℕ) (k : Bool) (more : Marked) → Lines ((b, k) ∷ more) →
    ((b ≡ 13) × (k ≡ false) × Lit 10 Nothing more) ⊎ ((is_token_byte b ≡ true) × (k ≡ false) × Rest Name more)
lines_step b k more (fields, each, is) = by_fields fields each is
  where
    by_fields : (lines : List FieldLine) → All IsFieldLine lines → (b, k) ∷ more ≡ no_data (flat_map field_line lines ++ crlf) →
        ((b ≡ 13) × (k ≡ false) × Lit 10 Nothing more) ⊎ ((is_token_byte b ≡ true) × (k ≡ false) × Rest Name more)
    by_fields [] all e =
        let pair : (b, k) ≡ (13, false) = cc in
        let left : more ≡ (10, false) ∷ [] = cc in
        inl (ap (λ (p : ℕ × Bool). p.0) pair, ap (λ (p : ℕ × Bool). p.1) pair, ([], left, refl))
    by_fields (line ∷ lines) all e = by_name line.name (All-head IsFieldLine line lines all).some (All-head IsFieldLine line lines all).name e
      where
        by_name : (name : List ℕ) → 0 < length name → AllPass is_token_byte name → (b, k) ∷ more ≡ no_data (((name ++ (58 ∷ (line.value ++ crlf))) ++ flat_map field_line lines) ++ crlf) →
            ((b ≡ 13) × (k ≡ false) × Lit 10 Nothing more) ⊎ ((is_token_byte b ≡ true) × (k ≡ false) × Rest Name more)
        by_name [] some name f = absurd (omega arith)
        by_name (x ∷ xs) some name f =
            let after : Marked = no_data (flat_map field_line lines ++ crlf) in
            let pair : (b, k) ≡ (x, false) = cc in
            let left : more ≡ no_data (((xs ++ (58 ∷ (line.value ++ crlf))) ++ flat_map field_line lines) ++ crlf) = cc in
            let value_end : Run is_text_byte (LineEnd Lines) (no_data (line.value ++ crlf) ++ after) =
            (line.value, no_data crlf ++ after, (All-head IsFieldLine line lines all).value, no_data-then line.value crlf after, ((10, false) ∷ after, refl, (after, refl, (lines, All-tail IsFieldLine line lines all, refl)))) in
            inr (
              ap is_token_byte (ap (λ (p : ℕ × Bool). p.0) pair) ∙ All-head (λ c. is_token_byte c ≡ true) x xs name,
              ap (λ (p : ℕ × Bool). p.1) pair,
              (
                xs,
                (58, false) ∷ (no_data (line.value ++ crlf) ++ after),
                All-tail (λ c. is_token_byte c ≡ true) x xs name,
                left ∙ ap no_data (append_assoc (xs ++ (58 ∷ (line.value ++ crlf))) (flat_map field_line lines) crlf ∙ append_assoc xs (58 ∷ (line.value ++ crlf)) (flat_map field_line lines ++ crlf))
                    ∙ no_data-append xs (58 ∷ ((line.value ++ crlf) ++ (flat_map field_line lines ++ crlf)))
                    ∙ ap (λ (ys : Marked). no_data xs ++ ((58, false) ∷ ys)) (no_data-append (line.value ++ crlf) (flat_map field_line lines ++ crlf)),
                (no_data (line.value ++ crlf) ++ after, refl, value_end),
              ),
            )

-- a CRLF ends field lines
lines_none : (more : Marked) → Lit 10 Nothing more → Lines ((13, false) ∷ more)
lines_none more (tail, is, nothing) = ([], (λ i d within. absurd (omega arith)), ap (λ (ys : Marked). (13, false) ∷ ys) (is ∙ ap (λ (ys : Marked). (10, false) ∷ ys) nothing))

-- a byte of a name in front of the rest of a line
lines_back : (b : ℕ) (more : Marked) → is_token_byte b ≡ true → Rest Name more → Lines ((b, false) ∷ more)
lines_back b more pass (xs, tail, name, is, (left, colon_is, (value, ending, text, left_is, (lf_on, cr, (after, lf, (lines, each, after_is)))))) =
    let line : FieldLine = record { name = b ∷ xs; value = value } in
    let end_is : ending ≡ no_data (crlf ++ (flat_map field_line lines ++ crlf)) = cr ∙ ap (λ (ys : Marked). (13, false) ∷ ys) (lf ∙ ap (λ (ys : Marked). (10, false) ∷ ys) after_is) in
    let left_all : left ≡ no_data (value ++ (crlf ++ (flat_map field_line lines ++ crlf))) = left_is ∙ ap (λ (ys : Marked). no_data value ++ ys) end_is ∙ sym (no_data-append value (crlf ++ (flat_map field_line lines ++ crlf))) in
    let joined : (field_line line ++ flat_map field_line lines) ++ crlf ≡ (b ∷ xs) ++ (58 ∷ (value ++ (crlf ++ (flat_map field_line lines ++ crlf)))) =
    append_assoc (field_line line) (flat_map field_line lines) crlf ∙ append_assoc (b ∷ xs) (58 ∷ (value ++ crlf)) (flat_map field_line lines ++ crlf)
    ∙ ap (λ (ys : List ℕ). (b ∷ xs) ++ (58 ∷ ys)) (append_assoc value crlf (flat_map field_line lines ++ crlf)) in (
      line ∷ lines,
      All-cons IsFieldLine line lines (record { some = omega arith; name = All-cons (λ c. is_token_byte c ≡ true) b xs pass name; value = text }) each,
      ap (λ (ys : Marked). (b, false) ∷ ys) (is ∙ ap (λ (ys : Marked). no_data xs ++ ys) (colon_is ∙ ap (λ (ys : Marked). (58, false) ∷ ys) left_all) ∙ sym (no_data-append xs (58 ∷ (value ++ (crlf ++ (flat_map field_line lines ++ crlf))))))
          ∙ ap no_data (sym joined),
    )

-- an extension behind digits
extension_end : (size b : ℕ) (more : Marked) → b ≡ 59 → Run is_text_byte (LineEnd (BehindSize size)) more → BehindDigits size ((b, false) ∷ more)
extension_end size b more semi (xs, left, pass, is, (after, cr, (tail, lf, behind))) = record {
  digits = [];
  extension = Some xs;
  tail = tail;
  each = tt;
  small = tt;
  text = pass;
  bytes_are =
      ap (λ (c : ℕ). (c, false) ∷ more) semi
      ∙ ap (λ (ys : Marked). (59, false) ∷ ys) (is ∙ ap (λ (ys : Marked). no_data xs ++ ys) (cr ∙ ap (λ (ys : Marked). (13, false) ∷ ys) lf) ∙ sym (no_data-then xs crlf tail));
  behind = behind;
}

-- a byte of data, and what is left of the data
data_step : (left b : ℕ) (k : Bool) (more : Marked) → Rest (Data left) ((b, k) ∷ more) → (t : Place) × (Some (behind_data left) ≡ Some t) × (k ≡ true) × Rest t more
data_step left b k more ([], tail, long, is, then) = absurd (omega (arith, long))
data_step left b k more (x ∷ xs, tail, long, is, then) =
    let pair : (b, k) ≡ (x, true) = cc in
    let rest : more ≡ all_data xs ++ tail = cc in
    (behind_data left, refl, ap (λ (p : ℕ × Bool). p.1) pair, by_left (cases_Bool (eqb left 0)) rest)
  where
    by_left : (eqb left 0 ≡ true) ⊎ (eqb left 0 ≡ false) → more ≡ all_data xs ++ tail → Rest (behind_data left) more
    by_left (inl none) rest =
        let P : Place → Type 0 = λ p. Rest p more in
        let empty : xs ≡ [] = nil_from_length xs (omega (arith, long, eqb-true left 0 none)) in
        subst P (sym (cond-true (eqb left 0) DataReturn (Data (left - 1)) none)) (subst (LineEnd Body) (sym (rest ∙ ap (λ (ys : List ℕ). all_data ys ++ tail) empty)) then)
    by_left (inr some) rest =
        let P : Place → Type 0 = λ p. Rest p more in
        let apart : left ≡ 0 → ⊥ = eqb-false left 0 some in
        subst P (sym (cond-false (eqb left 0) DataReturn (Data (left - 1)) some)) (xs, tail, omega (arith, long, apart), rest, then)

data_back : (left b : ℕ) (more : Marked) → Rest (behind_data left) more → Rest (Data left) ((b, true) ∷ more)
data_back left b more rest = elim (cases_Bool (eqb left 0)) [
  | inl none ↦
      let P : Place → Type 0 = λ p. Rest p more in
      (b ∷ [], more, omega (arith, eqb-true left 0 none), refl, subst P (cond-true (eqb left 0) DataReturn (Data (left - 1)) none) rest)
  | inr some ↦
      let P : Place → Type 0 = λ p. Rest p more in
      let apart : left ≡ 0 → ⊥ = eqb-false left 0 some in
      let behind : Rest (Data (left - 1)) more = subst P (cond-false (eqb left 0) DataReturn (Data (left - 1)) some) rest in
      (b ∷ behind.0, behind.1, omega (arith, behind.2, apart), ap (λ (ys : Marked). (b, true) ∷ ys) behind.3, behind.4)
]

-- the end of digits
digits_end : (size b : ℕ) (t : Place) (more : Marked) → when_is 13 b (SizeFeed size) (when_is 59 b (Extension size) None) ≡ Some t → Rest t more → BehindDigits size ((b, false) ∷ more)
digits_end size b t more is rest = elim (chosen (eqb b 13) (SizeFeed size) t (when_is 59 b (Extension size) None) is) [
  | inl here ↦
      let P : Place → Type 0 = λ p. Rest p more in
      let behind : Lit 10 (BehindSize size) more = subst P (sym here.1) rest in
      record {
        digits = [];
        extension = None;
        tail = behind.0;
        each = tt;
        small = tt;
        text = tt;
        bytes_are = ap (λ (c : ℕ). (c, false) ∷ more) (eqb-true b 13 here.0) ∙ ap (λ (ys : Marked). (13, false) ∷ ys) behind.1;
        behind = behind.2;
      }
  | inr other ↦ elim (chosen (eqb b 59) (Extension size) t None other.1) [
    | inl semi ↦
        let P : Place → Type 0 = λ p. Rest p more in
        let run : Run is_text_byte (LineEnd (BehindSize size)) more = subst P (sym semi.1) rest in
        extension_end size b more (eqb-true b 59 semi.0) run
    | inr none ↦ absurd (let e = none.1 in (cc))
  ]
]

-- the first byte of a size line is a digit
first_digit : (b : ℕ) (k : Bool) (more : Marked) → SizeFirst ((b, k) ∷ more) → digit_value b < 16
first_digit b k more first = by_digits first.line.digits first.fits.some first.fits.digits first.bytes_are
  where
    by_digits : (digits : List ℕ) → 0 < length digits → AllDigits 16 digits → (b, k) ∷ more ≡ no_data (digits ++ (extension_bytes first.line.extension ++ crlf)) ++ first.tail → digit_value b < 16
    by_digits [] some each e = absurd (omega arith)
    by_digits (d ∷ digits) some each e =
        let pair : (b, k) ≡ (d, false) = cc in
        let same : d ≡ b = sym (ap (λ (p : ℕ × Bool). p.0) pair) in
        let P : ℕ → Type 0 = λ x. digit_value x < 16 in
        subst P same each.0

-- a first digit in front of digits
first_back : (b : ℕ) (more : Marked) → is_more 0 b ≡ true → BehindDigits (0 * 16 + digit_value b) more → SizeFirst ((b, false) ∷ more)
first_back b more pass rest =
    let both = and_parts (ltb (digit_value b) 16) (ltb (0 * 16 + digit_value b) (2 ^ 64)) pass in
    record {
      line = record { digits = b ∷ rest.digits; extension = rest.extension };
      tail = rest.tail;
      fits = record { some = omega arith; digits = (ltb-true (digit_value b) 16 both.0, rest.each); small = unfitting rest.digits (0 * 16 + digit_value b) (ltb-true (0 * 16 + digit_value b) (2 ^ 64) both.1) rest.small; extension = rest.text };
      bytes_are = ap (λ (ys : Marked). (b, false) ∷ ys) rest.bytes_are;
      behind = rest.behind;
    }

-- What may stand from a place on begins with a byte that may stand at the place, marked as the place says, and what may
-- stand behind it follows.
pub step : (s : Place) (b : ℕ) (k : Bool) (more : Marked) → Rest s ((b, k) ∷ more) → (t : Place) × (next s b ≡ Some t) × (k ≡ holds_data s) × Rest t more
unfolding next is_text_byte is_token_byte
step FirstDigit b k more rest = by_first (body_to ((b, k) ∷ more) rest)
  where
    by_first : SizeFirst ((b, k) ∷ more) → (t : Place) × (digit_or 0 b None ≡ Some t) × (k ≡ false) × Rest t more
    by_first first = by_digits (digits_step 0 b k more None (record { digits = first.line.digits; extension = first.line.extension; tail = first.tail; each = first.fits.digits; small = fitting first.line.digits (size_of first.line) first.fits.small; text = first.fits.extension; bytes_are = first.bytes_are; behind = first.behind }))
      where
        by_digits : ((k ≡ false) × (digit_or 0 b None ≡ Some (Digits (0 * 16 + digit_value b))) × BehindDigits (0 * 16 + digit_value b) more)
            ⊎ (((b ≡ 13) × (k ≡ false) × Lit 10 (BehindSize 0) more) ⊎ ((b ≡ 59) × (k ≡ false) × Run is_text_byte (LineEnd (BehindSize 0)) more)) → (t : Place) × (digit_or 0 b None ≡ Some t) × (k ≡ false) × Rest t more
        by_digits (inl (mark, is, behind)) = (Digits (0 * 16 + digit_value b), is, mark, behind)
        by_digits (inr (inl (cr, mark, behind))) = absurd (omega (arith, ap digit_value cr, first_digit b k more first))
        by_digits (inr (inr (semi, mark, behind))) = absurd (omega (arith, ap digit_value semi, first_digit b k more first))
step (Digits size) b k more rest = by_digits (digits_step size b k more (when_is 13 b (SizeFeed size) (when_is 59 b (Extension size) None)) rest)
  where
    by_digits : ((k ≡ false) × (next (Digits size) b ≡ Some (Digits (size * 16 + digit_value b))) × BehindDigits (size * 16 + digit_value b) more)
        ⊎ (((b ≡ 13) × (k ≡ false) × Lit 10 (BehindSize size) more) ⊎ ((b ≡ 59) × (k ≡ false) × Run is_text_byte (LineEnd (BehindSize size)) more)) → (t : Place) × (next (Digits size) b ≡ Some t) × (k ≡ false) × Rest t more
    by_digits (inl (mark, is, behind)) = (Digits (size * 16 + digit_value b), is, mark, behind)
    by_digits (inr (inl (cr, mark, behind))) = (SizeFeed size, ap (next (Digits size)) cr, mark, behind)
    by_digits (inr (inr (semi, mark, behind))) = (Extension size, ap (next (Digits size)) semi, mark, behind)
step (Extension size) b k more rest = elim (run_step is_text_byte b k more (LineEnd (BehindSize size)) rest) [
  | inl passes ↦ (Extension size, cond-true (is_text_byte b) (Some (Extension size)) (when_is 13 b (SizeFeed size) None) passes.0, passes.1, passes.2)
  | inr ends ↦ let e = lit_step 13 b k more (Lit 10 (BehindSize size)) ends in (SizeFeed size, ap (next (Extension size)) e.0, e.1, e.2)
]
step (SizeFeed size) b k more rest = let e = lit_step 10 b k more (BehindSize size) rest in (behind_size size, ap (next (SizeFeed size)) e.0, e.1, size_to size more e.2)
step (Data left) b k more rest = data_step left b k more rest
step DataReturn b k more rest = let e = lit_step 13 b k more (Lit 10 Body) rest in (DataFeed, ap (next DataReturn) e.0, e.1, e.2)
step DataFeed b k more rest = let e = lit_step 10 b k more Body rest in (FirstDigit, ap (next DataFeed) e.0, e.1, e.2)
step FieldStart b k more rest = elim (lines_step b k more rest) [
  | inl ends ↦ (LastFeed, ap (next FieldStart) ends.0, ends.1, ends.2)
  | inr name ↦ (Name, cond-true (is_token_byte b) (Some Name) (when_is 13 b LastFeed None) name.0, name.1, name.2)
]
step Name b k more rest = elim (run_step is_token_byte b k more (Lit 58 (Run is_text_byte (LineEnd Lines))) rest) [
  | inl passes ↦ (Name, cond-true (is_token_byte b) (Some Name) (when_is 58 b Value None) passes.0, passes.1, passes.2)
  | inr ends ↦ let e = lit_step 58 b k more (Run is_text_byte (LineEnd Lines)) ends in (Value, ap (next Name) e.0, e.1, e.2)
]
step Value b k more rest = elim (run_step is_text_byte b k more (LineEnd Lines) rest) [
  | inl passes ↦ (Value, cond-true (is_text_byte b) (Some Value) (when_is 13 b ValueFeed None) passes.0, passes.1, passes.2)
  | inr ends ↦ let e = lit_step 13 b k more (Lit 10 Lines) ends in (ValueFeed, ap (next Value) e.0, e.1, e.2)
]
step ValueFeed b k more rest = let e = lit_step 10 b k more Lines rest in (FieldStart, ap (next ValueFeed) e.0, e.1, e.2)
step LastFeed b k more rest = let e = lit_step 10 b k more Nothing rest in (Whole, ap (next LastFeed) e.0, e.1, e.2)
step Whole b k more rest = absurd (let e = rest in (cc))

-- A byte that may stand at a place, in front of what may stand behind it, may stand from the place on.
pub back : (s : Place) (b : ℕ) (t : Place) (more : Marked) → next s b ≡ Some t → Rest t more → Rest s ((b, holds_data s) ∷ more)
unfolding next
back FirstDigit b t more is rest = elim (chosen (is_more 0 b) (Digits (0 * 16 + digit_value b)) t None is) [
  | inl here ↦
      let P : Place → Type 0 = λ p. Rest p more in
      body_from ((b, false) ∷ more) (first_back b more here.0 (subst P (sym here.1) rest))
  | inr other ↦ absurd (let e = other.1 in (cc))
]
back (Digits size) b t more is rest = elim (chosen (is_more size b) (Digits (size * 16 + digit_value b)) t (when_is 13 b (SizeFeed size) (when_is 59 b (Extension size) None)) is) [
  | inl here ↦ let P : Place → Type 0 = λ p. Rest p more in digits_back size b more here.0 (subst P (sym here.1) rest)
  | inr other ↦ digits_end size b t more other.1 rest
]
back (Extension size) b t more is rest = elim (chosen (is_text_byte b) (Extension size) t (when_is 13 b (SizeFeed size) None) is) [
  | inl here ↦ let P : Place → Type 0 = λ p. Rest p more in run_back is_text_byte b more (LineEnd (BehindSize size)) here.0 (subst P (sym here.1) rest)
  | inr other ↦ run_none is_text_byte ((b, false) ∷ more) (LineEnd (BehindSize size)) (when_back 13 b (SizeFeed size) t more (Lit 10 (BehindSize size)) other.1 (λ r. r) rest)
]
back (SizeFeed size) b t more is rest = when_back 10 b (behind_size size) t more (BehindSize size) is (λ r. size_from size more r) rest
back (Data left) b t more is rest =
    let P : Place → Type 0 = λ p. Rest p more in
    let same : behind_data left ≡ t = cc in
    data_back left b more (subst P (sym same) rest)
back DataReturn b t more is rest = when_back 13 b DataFeed t more (Lit 10 Body) is (λ r. r) rest
back DataFeed b t more is rest = when_back 10 b FirstDigit t more Body is (λ r. r) rest
back FieldStart b t more is rest = elim (chosen (is_token_byte b) Name t (when_is 13 b LastFeed None) is) [
  | inl here ↦ let P : Place → Type 0 = λ p. Rest p more in lines_back b more here.0 (subst P (sym here.1) rest)
  | inr other ↦
      let e = when_back 13 b LastFeed t more (Lit 10 Nothing) other.1 (λ r. r) rest in
      let parts : ((b, false) ∷ more) ≡ ((13, false) ∷ e.0) = e.1 in
      subst Lines (sym parts) (lines_none e.0 e.2)
]
back Name b t more is rest = elim (chosen (is_token_byte b) Name t (when_is 58 b Value None) is) [
  | inl here ↦ let P : Place → Type 0 = λ p. Rest p more in run_back is_token_byte b more (Lit 58 (Run is_text_byte (LineEnd Lines))) here.0 (subst P (sym here.1) rest)
  | inr other ↦ run_none is_token_byte ((b, false) ∷ more) (Lit 58 (Run is_text_byte (LineEnd Lines))) (when_back 58 b Value t more (Run is_text_byte (LineEnd Lines)) other.1 (λ r. r) rest)
]
back Value b t more is rest = elim (chosen (is_text_byte b) Value t (when_is 13 b ValueFeed None) is) [
  | inl here ↦ let P : Place → Type 0 = λ p. Rest p more in run_back is_text_byte b more (LineEnd Lines) here.0 (subst P (sym here.1) rest)
  | inr other ↦ run_none is_text_byte ((b, false) ∷ more) (LineEnd Lines) (when_back 13 b ValueFeed t more (Lit 10 Lines) other.1 (λ r. r) rest)
]
back ValueFeed b t more is rest = when_back 10 b FieldStart t more Lines is (λ r. r) rest
back LastFeed b t more is rest = when_back 10 b Whole t more Nothing is (λ r. r) rest
back Whole b t more is rest = absurd (cc)
