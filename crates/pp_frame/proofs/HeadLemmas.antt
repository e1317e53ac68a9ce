-- The lines and the fields of a head.
use Rattle.std.proofs.Common.{◌≡◌, ℕ, suc, ◌+◌, ◌-◌, ◌<◌, List, [], ◌∷◌, ◌++◌, length, get_or, take, drop, inl, inr, sym, ap, ◌∙◌, refl, subst, arith, length-append, length-drop, append_assoc, All, ◌⊎◌, Result, Ok, Err, MatchResult, IfOk}
use Rattle.std.specs.List.{flat_map}
use Rattle.std.proofs.lemmas.List.{get_or_at, drop-drop, length-take-le, append-nil}
use Rattle.std.proofs.lemmas.List.Concat.{flat_map-append}
use Rattle.std.proofs.lemmas.List.Elements.{All-head, All-tail, All-append, All-push}
use Rattle.std.proofs.lemmas.Result.{MatchResult-at_err}
use Rattle.pp_frame.specs.declared.parts.Field.{Field}
use Rattle.pp_frame.specs.declared.parts.HeadFault.{HeadFault}
use Rattle.pp_frame.specs.declared.parts.HeadFault.TheVariants.{NoColon, NoEnd, NoMemory}
use Rattle.pp_frame.specs.Bytes.{crlf}
use Rattle.pp_frame.specs.Lines.{HasNoEnd, IsLine, ended, IsHead, HasEmptyLine}
use Rattle.pp_frame.specs.Fields.{HasColon, HasFields, LacksColonAt, fields_from, field_at}
use Rattle.pp_frame.specs.steps.Heads.{BeginsWithLine, HasRead, HasReadFields, IsFaultOf, IsFaultOfLine}
use Rattle.pp_frame.proofs.LineLemmas.{first_line}

-- nothing was read yet
pub read_none : (head : List ℕ) → HasRead head [] 0
read_none head = record { within = omega arith; each = λ k d h. absurd (omega arith); place = refl; bytes_are = refl }

-- a line in front of bytes, put together
pub ended_then : (line xs ys : List ℕ) → (ended line ++ xs) ++ ys ≡ line ++ (crlf ++ (xs ++ ys))
ended_then line xs ys = append_assoc (line ++ crlf) xs ys ∙ append_assoc line crlf (xs ++ ys)

-- one more line was read
pub read_more : (head : List ℕ) (lines : List (List ℕ)) (at len : ℕ) → HasRead head lines at → BeginsWithLine (drop at head) len → 0 < len →
    HasRead head (lines ++ take len (drop at head) ∷ []) (at + (len + 2))
read_more head lines at len read begins some =
    let rest : List ℕ = drop at head in
    let line : List ℕ = take len rest in
    let long : length line ≡ len = length-take-le len rest (omega (arith, begins.within)) in
    let one : flat_map ended (line ∷ []) ≡ ended line = append-nil (ended line) in
    let joined : flat_map ended (lines ++ line ∷ []) ≡ flat_map ended lines ++ ended line = flat_map-append ended lines (line ∷ []) ∙ ap (λ (xs : List ℕ). flat_map ended lines ++ xs) one in
    let place : at + (len + 2) ≡ length (flat_map ended (lines ++ line ∷ [])) = omega (arith, ap length joined, length-append (flat_map ended lines) (ended line), length-append line crlf, read.place, long) in
    let moved : drop (len + 2) rest ≡ drop (at + (len + 2)) head = drop-drop (len + 2) at head in
    record {
      within = omega (arith, begins.within, length-drop at head);
      each = All-push IsLine lines line read.each (record { some = omega arith; no_end = begins.no_end });
      place = place;
      bytes_are =
          read.bytes_are
          ∙ ap (λ (xs : List ℕ). flat_map ended lines ++ xs) (begins.bytes_are ∙ sym (append_assoc line crlf (drop (len + 2) rest)) ∙ ap (λ (xs : List ℕ). ended line ++ xs) moved)
          ∙ sym (append_assoc (flat_map ended lines) (ended line) (drop (at + (len + 2)) head))
          ∙ ap (λ (xs : List ℕ). xs ++ drop (at + (len + 2)) head) (sym joined);
    }

-- the lines of what is left follow those that were read
pub read_then : (head : List ℕ) (lines more : List (List ℕ)) (at : ℕ) (rest : List ℕ) → HasRead head lines at → IsHead (drop at head) more rest → IsHead head (lines ++ more) rest
read_then head lines more at rest read is_head = record {
  each = All-append IsLine lines more read.each is_head.each;
  bytes_are =
      read.bytes_are ∙ ap (λ (xs : List ℕ). flat_map ended lines ++ xs) is_head.bytes_are
      ∙ sym (append_assoc (flat_map ended lines) (flat_map ended more) (crlf ++ rest))
      ∙ ap (λ (xs : List ℕ). xs ++ (crlf ++ rest)) (sym (flat_map-append ended lines more));
}

-- an empty line stands where the bytes begin with one
pub head_at_once : (bytes : List ℕ) → BeginsWithLine bytes 0 → IsHead bytes [] (drop 2 bytes)
head_at_once bytes begins = record { each = λ k d h. absurd (omega arith); bytes_are = begins.bytes_are }

-- behind a line, the lines go on
pub head_tail : (line more : List ℕ) (lines : List (List ℕ)) (rest : List ℕ) → IsLine line → IsHead (line ++ (crlf ++ more)) lines rest →
    (others : List (List ℕ)) × (lines ≡ line ∷ others) × IsHead more others rest
head_tail line more [] rest is_line is_head =
    let empty : line ≡ [] = (first_line line [] more rest is_line.no_end (λ k cr lf. absurd (omega (arith, cr))) is_head.bytes_are).0 in
    absurd (omega (arith, is_line.some, ap length empty))
head_tail line more (other ∷ others) rest is_line is_head =
    let both = first_line line other more (flat_map ended others ++ (crlf ++ rest)) is_line.no_end (All-head IsLine other others is_head.each).no_end
    (is_head.bytes_are ∙ ended_then other (flat_map ended others) (crlf ++ rest)) in
    (others, ap (λ (x : List ℕ). x ∷ others) (sym both.0), record { each = All-tail IsLine other others is_head.each; bytes_are = both.1 })

-- behind several lines, they go on
pub head_behind : (before : List (List ℕ)) (more : List ℕ) (lines : List (List ℕ)) (rest : List ℕ) → All IsLine before → IsHead (flat_map ended before ++ more) lines rest →
    (others : List (List ℕ)) × (lines ≡ before ++ others) × IsHead more others rest
head_behind [] more lines rest each is_head = (lines, refl, is_head)
head_behind (line ∷ before) more lines rest each is_head =
    let e : flat_map ended (line ∷ before) ++ more ≡ line ++ (crlf ++ (flat_map ended before ++ more)) = ended_then line (flat_map ended before) more in
    let P : List ℕ → Type 0 = λ xs. IsHead xs lines rest in
    let one = head_tail line (flat_map ended before ++ more) lines rest (All-head IsLine line before each) (subst P e is_head) in
    let all = head_behind before more one.0 rest (All-tail IsLine line before each) one.2 in
    (all.0, one.1 ∙ ap (λ (xs : List (List ℕ)). line ∷ xs) all.1, all.2)

-- a head has its lines once
pub head_unique : (head : List ℕ) (lines others : List (List ℕ)) (rest more : List ℕ) → IsHead head lines rest → IsHead head others more → lines ≡ others
head_unique head lines others rest more first second =
    let P : List ℕ → Type 0 = λ xs. IsHead xs others more in
    let behind = head_behind lines (crlf ++ rest) others more first.each (subst P first.bytes_are second) in
    sym (behind.1 ∙ ap (λ (xs : List (List ℕ)). lines ++ xs) (none behind.0 behind.2) ∙ append-nil lines)
  where
    none : (left : List (List ℕ)) → IsHead (crlf ++ rest) left more → left ≡ []
    none [] is_head = refl
    none (line ∷ left) is_head =
        let is_line : IsLine line = All-head IsLine line left is_head.each in
        let both = first_line [] line rest (flat_map ended left ++ (crlf ++ more)) (λ k cr lf. absurd (omega (arith, cr))) is_line.no_end (is_head.bytes_are ∙ ended_then line (flat_map ended left) (crlf ++ more)) in
        absurd (omega (arith, is_line.some, ap length both.0))

-- bytes without a CRLF have no empty line
pub no_end_no_head : (bytes : List ℕ) → HasNoEnd bytes → ¬ (HasEmptyLine bytes)
no_end_no_head bytes no_end (lines, rest, is_head) =
    let front : List ℕ = flat_map ended lines in
    let n : ℕ = length front in
    let cr : get_or bytes n 0 ≡ 13 = ap (λ (xs : List ℕ). get_or xs n 0) is_head.bytes_are ∙ get_or_at front 13 (10 ∷ rest) 0 n refl in
    let lf : get_or bytes (n + 1) 0 ≡ 10 =
    ap (λ (xs : List ℕ). get_or xs (n + 1) 0) (is_head.bytes_are ∙ sym (append_assoc front (13 ∷ []) (10 ∷ rest)))
    ∙ get_or_at (front ++ 13 ∷ []) 10 rest 0 (n + 1) (length-append front (13 ∷ [])) in
    no_end n cr lf

-- what was read changes nothing of whether an empty line comes
pub empty_behind : (head : List ℕ) (lines : List (List ℕ)) (at : ℕ) → HasRead head lines at → HasEmptyLine head → HasEmptyLine (drop at head)
empty_behind head lines at read (all, rest, is_head) =
    let P : List ℕ → Type 0 = λ xs. IsHead xs all rest in
    let behind = head_behind lines (drop at head) all rest read.each (subst P read.bytes_are is_head) in
    (behind.0, rest, behind.2)

pub empty_in_all : (head : List ℕ) (lines : List (List ℕ)) (at : ℕ) → HasRead head lines at → HasEmptyLine (drop at head) → HasEmptyLine head
empty_in_all head lines at read (more, rest, is_head) = (lines ++ more, rest, read_then head lines more at rest read is_head)

-- the fields of one more line
pub fields_from_push : (from : ℕ) (lines : List (List ℕ)) (line : List ℕ) → fields_from from (lines ++ line ∷ []) ≡ fields_from from lines ++ field_at (from + length (flat_map ended lines)) line ∷ []
unfolding fields_from
fields_from_push from [] line = ap (λ (n : ℕ). field_at n line ∷ []) (let e : from ≡ from + 0 = omega arith in e)
fields_from_push from (first ∷ lines) line =
    let next : ℕ = from + length (ended first) in
    let place : next + length (flat_map ended lines) ≡ from + length (flat_map ended (first ∷ lines)) = omega (arith, length-append (ended first) (flat_map ended lines)) in
    ap (λ (xs : List Field). field_at from first ∷ xs) (fields_from_push next lines line ∙ ap (λ (n : ℕ). fields_from next lines ++ field_at n line ∷ []) place)

-- nothing was read yet
pub fields_none : (head : List ℕ) → HasReadFields head [] 0 1
unfolding fields_from
fields_none head = record { lines = []; read = read_none head; each = λ k d h. absurd (omega arith); fields_are = refl; counted = refl; few = omega arith }

-- one more line with a colon was read, and gave its field
pub fields_more : (head : List ℕ) (fields : List Field) (at number len : ℕ) (field : Field) (now : List Field) → HasReadFields head fields at number → BeginsWithLine (drop at head) len → 0 < len →
    HasColon (take len (drop at head)) → field ≡ field_at at (take len (drop at head)) → now ≡ fields ++ field ∷ [] → HasReadFields head now (at + (len + 2)) (number + 1)
fields_more head fields at number len field now so_far begins some has field_is now_is =
    let line : List ℕ = take len (drop at head) in
    record {
      lines = so_far.lines ++ line ∷ [];
      read = read_more head so_far.lines at len so_far.read begins some;
      each = All-push HasColon so_far.lines line so_far.each has;
      fields_are =
          now_is ∙ ap (λ (xs : List Field). xs ++ field ∷ []) so_far.fields_are
          ∙ ap (λ (x : Field). fields_from 0 so_far.lines ++ x ∷ []) (field_is ∙ ap (λ (n : ℕ). field_at n line) (let e : at ≡ 0 + length (flat_map ended so_far.lines) = omega (arith, so_far.read.place) in e))
          ∙ sym (fields_from_push 0 so_far.lines line);
      counted = omega (arith, so_far.counted, length-append so_far.lines (line ∷ []));
      few = omega (arith, so_far.few);
    }

-- the empty line comes next
pub fields_end : (head : List ℕ) (fields : List Field) (at number : ℕ) → HasReadFields head fields at number → BeginsWithLine (drop at head) 0 → HasFields head fields
fields_end head fields at number so_far begins = record {
  lines = so_far.lines;
  rest = drop 2 (drop at head);
  is_head =
      let P : List (List ℕ) → Type 0 = λ ls. IsHead head ls (drop 2 (drop at head)) in
      subst P (append-nil so_far.lines) (read_then head so_far.lines [] at (drop 2 (drop at head)) so_far.read (head_at_once (drop at head) begins));
  each = so_far.each;
  fields_are = so_far.fields_are;
}

-- the head has an empty line, behind a line without a colon that comes next
lacks_next : (head : List ℕ) (fields : List Field) (at number len : ℕ) → HasReadFields head fields at number → BeginsWithLine (drop at head) len → 0 < len →
    ¬ (HasColon (take len (drop at head))) → HasEmptyLine (drop at head) → LacksColonAt head number
lacks_next head fields at number len so_far begins some lacks (lines, rest, is_head) =
    let left : List ℕ = drop at head in
    let line : List ℕ = take len left in
    let is_line : IsLine line = record { some = omega (arith, length-take-le len left (omega (arith, begins.within))); no_end = begins.no_end } in
    let P : List ℕ → Type 0 = λ xs. IsHead xs lines rest in
    let tail = head_tail line (drop (len + 2) left) lines rest is_line (subst P begins.bytes_are is_head) in
    let Q : List (List ℕ) → Type 0 = λ ls. IsHead left ls rest in
    record {
      before = so_far.lines;
      line = line;
      after = tail.0;
      rest = rest;
      is_head = read_then head so_far.lines (line ∷ tail.0) at rest so_far.read (subst Q tail.1 is_head);
      each = so_far.each;
      lacks = lacks;
      counted = so_far.counted;
    }

-- a line without a colon comes next
pub fields_fault : (head : List ℕ) (fields : List Field) (at number len : ℕ) (fault : HeadFault) → HasReadFields head fields at number → BeginsWithLine (drop at head) len → 0 < len →
    ¬ (HasColon (take len (drop at head))) → IsFaultOfLine (drop at head) number fault → IsFaultOf head fault
fields_fault head fields at number len (NoColon line) so_far begins some lacks is_fault =
    subst (LacksColonAt head) (sym is_fault.1) (lacks_next head fields at number len so_far begins some lacks is_fault.0)
fields_fault head fields at number len NoEnd so_far begins some lacks is_fault = λ has. is_fault (empty_behind head so_far.lines at so_far.read has)
fields_fault head fields at number len NoMemory so_far begins some lacks is_fault = tt

-- no line ends any more
pub fields_no_end : (head : List ℕ) (fields : List Field) (at number : ℕ) → HasReadFields head fields at number → HasNoEnd (drop at head) → ¬ (HasEmptyLine head)
fields_no_end head fields at number so_far no_end has = no_end_no_head (drop at head) no_end (empty_behind head so_far.lines at so_far.read has)

-- of a head whose lines all have colons, none lacks one
fields_lack_none : (head : List ℕ) (fields : List Field) (number : ℕ) → HasFields head fields → ¬ (LacksColonAt head number)
fields_lack_none head fields number has lacks =
    let same : has.lines ≡ lacks.before ++ lacks.line ∷ lacks.after = head_unique head has.lines (lacks.before ++ lacks.line ∷ lacks.after) has.rest lacks.rest has.is_head lacks.is_head in
    lacks.lacks (colon_in lacks.before lacks.line lacks.after (subst (All HasColon) same has.each))
  where
    colon_in : (before : List (List ℕ)) (line : List ℕ) (after : List (List ℕ)) → All HasColon (before ++ line ∷ after) → HasColon line
    colon_in [] line after each = All-head HasColon line after each
    colon_in (first ∷ before) line after each = colon_in before line after (All-tail HasColon first (before ++ line ∷ after) each)

-- the first line without a colon is one line
lacks_once : (head : List ℕ) (m n : ℕ) → LacksColonAt head m → LacksColonAt head n → m ≡ n
lacks_once head m n first second =
    let same = head_unique head (first.before ++ first.line ∷ first.after) (second.before ++ second.line ∷ second.after) first.rest second.rest first.is_head second.is_head in
    omega (arith, first.counted, second.counted, as_long first.before second.before first.line second.line first.after second.after first.each second.each first.lacks second.lacks same)
  where
    as_long : (before others : List (List ℕ)) (line other : List ℕ) (after behind : List (List ℕ)) → All HasColon before → All HasColon others → ¬ (HasColon line) → ¬ (HasColon other) →
        before ++ line ∷ after ≡ others ++ other ∷ behind → length before ≡ length others
    as_long [] [] line other after behind each all lacks none same = refl
    as_long [] (first ∷ others) line other after behind each all lacks none same =
        let e : line ≡ first = cc in
        absurd (lacks (subst HasColon (sym e) (All-head HasColon first others all)))
    as_long (first ∷ before) [] line other after behind each all lacks none same =
        let e : other ≡ first = cc in
        absurd (none (subst HasColon (sym e) (All-head HasColon first before each)))
    as_long (first ∷ before) (second ∷ others) line other after behind each all lacks none same =
        let e : before ++ line ∷ after ≡ others ++ other ∷ behind = cc in
        ap suc (as_long before others line other after behind (All-tail HasColon first before each) (All-tail HasColon second others all) lacks none e)

-- a head has its fields once
fields_once : (head : List ℕ) (fields others : List Field) → HasFields head fields → HasFields head others → fields ≡ others
fields_once head fields others first second =
    first.fields_are ∙ ap (fields_from 0) (head_unique head first.lines second.lines first.rest second.rest first.is_head second.is_head) ∙ sym second.fields_are

-- What a reading of fields tells: fields, or a fault.
abbrev Tells : {V : Type 0} → List ℕ → (V → List Field) → Result V HeadFault → Type 0
Tells head items result = MatchResult result (λ v. HasFields head (items v)) (IsFaultOf head)

-- nothing else is told of a head with fields
pub only_fields : {V : Type 0} (head : List ℕ) (items : V → List Field) (result : Result V HeadFault) → Tells head items result → (fields : List Field) → HasFields head fields →
    MatchResult result (λ found. items found ≡ fields) (λ e. e ≡ NoMemory)
only_fields head items (Ok found) tells fields has = fields_once head (items found) fields tells has
only_fields head items (Err (NoColon line)) tells fields has = absurd (fields_lack_none head fields line has tells)
only_fields head items (Err NoEnd) tells fields has = absurd (tells (has.lines, has.rest, has.is_head))
only_fields head items (Err NoMemory) tells fields has = refl

-- nothing else is told of a head without an empty line
pub only_no_end : {V : Type 0} (head : List ℕ) (items : V → List Field) (result : Result V HeadFault) → Tells head items result → ¬ (HasEmptyLine head) →
    MatchResult result (λ _. ⊥) (λ e. (e ≡ NoEnd) ⊎ (e ≡ NoMemory))
only_no_end head items (Ok found) tells none = none (tells.lines, tells.rest, tells.is_head)
only_no_end head items (Err (NoColon line)) tells none = absurd (none (tells.before ++ tells.line ∷ tells.after, tells.rest, tells.is_head))
only_no_end head items (Err NoEnd) tells none = inl refl
only_no_end head items (Err NoMemory) tells none = inr refl

-- nothing else is told of a head in which this line is the first without a colon
pub only_no_colon : {V : Type 0} (head : List ℕ) (items : V → List Field) (result : Result V HeadFault) → Tells head items result → (line : ℕ) → LacksColonAt head line →
    MatchResult result (λ _. ⊥) (λ e. (e ≡ NoColon line) ⊎ (e ≡ NoMemory))
only_no_colon head items (Ok found) tells line lacks = fields_lack_none head (items found) line tells lacks
only_no_colon head items (Err (NoColon other)) tells line lacks = inl (ap NoColon (lacks_once head other line tells lacks))
only_no_colon head items (Err NoEnd) tells line lacks = absurd (tells (lacks.before ++ lacks.line ∷ lacks.after, lacks.rest, lacks.is_head))
only_no_colon head items (Err NoMemory) tells line lacks = inr refl

-- what the single answers mean
pub told_fields : {V : Type 0} (head : List ℕ) (items : V → List Field) (result : Result V HeadFault) → Tells head items result → IfOk result (λ v. HasFields head (items v))
told_fields head items (Ok found) tells = tells
told_fields head items (Err fault) tells = tt

pub told_no_end : {V : Type 0} (head : List ℕ) (items : V → List Field) (result : Result V HeadFault) → Tells head items result → result ≡ Err NoEnd → ¬ (HasEmptyLine head)
told_no_end head items result tells is = MatchResult-at_err (λ v. HasFields head (items v)) (IsFaultOf head) NoEnd is tells

pub told_no_colon : {V : Type 0} (head : List ℕ) (items : V → List Field) (result : Result V HeadFault) → Tells head items result → (line : ℕ) → result ≡ Err (NoColon line) → LacksColonAt head line
told_no_colon head items result tells line is = MatchResult-at_err (λ v. HasFields head (items v)) (IsFaultOf head) (NoColon line) is tells

-- the length of a line by its two places
pub cut_line : (at len : ℕ) → at + len - at ≡ len
cut_line at len = omega arith
