-- Parts of a capture read one after the other.
use Rattle.std.proofs.Common.{◌≡◌, ◌≢◌, ℕ, List, [], ◌∷◌, ◌++◌, length, drop, refl, sym, ap, ap₂, subst, ◌∙◌, append_assoc}
use Rattle.std.proofs.lemmas.List.{append-nil}
use Rattle.pp_capture.specs.Spelling.{Record, Begins, Carries, Halts, spelled, IsCapture as AreRecords}
use Rattle.pp_capture.specs.Reading.{BeginWith}
use Rattle.pp_capture.proofs.CallerLemmas.{capture_more, capture_first, capture_halt}
use Rattle.pp_capture.proofs.LawLemmas.{one_capture}
use Rattle.pp_tool.specs.Capture.{IsCapture, parts_records, joined}

no_halt : (part : List ℕ) → Carries 0 part ≢ Halts
no_halt part e = absurd cc

begin_no_halt : Begins 0 [] [] ≢ Halts
begin_no_halt e = absurd cc

part_is : (a b : List ℕ) → Carries 0 a ≡ Carries 0 b → a ≡ b
part_is a b e = cc

-- records are those of one list of parts
same_parts : (a b : List (List ℕ)) → parts_records a ≡ parts_records b → a ≡ b
same_parts [] [] e = refl
same_parts [] (y ∷ ys) e = absurd cc
same_parts (x ∷ xs) [] e = absurd cc
same_parts (x ∷ xs) (y ∷ ys) e =
    let head : Carries 0 x ≡ Carries 0 y = cc in
    let tail : parts_records xs ≡ parts_records ys = cc in
    ap₂ ◌∷◌ (part_is x y head) (same_parts xs ys tail)

behind_first : (a b : Record) (xs ys : List Record) → a ∷ xs ≡ b ∷ ys → xs ≡ ys
behind_first a b xs ys e = cc

-- so bytes are a capture of one list of parts
pub same_capture : (bytes : List ℕ) (a b : List (List ℕ)) → IsCapture bytes a → IsCapture bytes b → a ≡ b
same_capture bytes a b h k =
    same_parts a b (behind_first (Begins 0 [] []) (Begins 0 [] []) (parts_records a) (parts_records b) (one_capture bytes (Begins 0 [] [] ∷ parts_records a) (Begins 0 [] [] ∷ parts_records b) h k))

-- the parts so far were read of the whole: what is left, and what was read, say what the whole says
pub record IsReadTo (whole rest all : List ℕ) : Type 0 where
  pub to : (parts : List (List ℕ)) → AreRecords rest (parts_records parts) → (more : List (List ℕ)) × AreRecords whole (parts_records more) × (all ++ joined parts ≡ joined more)
  pub from : (parts : List (List ℕ)) → AreRecords whole (parts_records parts) → (more : List (List ℕ)) × AreRecords rest (parts_records more) × (all ++ joined more ≡ joined parts)

-- at the start none was
pub read_none : (whole all : List ℕ) → all ≡ [] → IsReadTo whole whole all
read_none whole all e = record {
  to = λ parts h. (parts, h, ap (λ (l : List ℕ). l ++ joined parts) e);
  from = λ parts h. (parts, h, ap (λ (l : List ℕ). l ++ joined parts) e);
}

-- the record of the part begins the rest, and no other record does
pub record IsPartOf (rest part after : List ℕ) : Type 0 where
  pub begins : (len : ℕ) × BeginWith rest (Carries 0 part) len × (after ≡ drop len rest)
  pub only : (value : Record) (len : ℕ) → BeginWith rest value len → (value ≡ Carries 0 part) × (after ≡ drop len rest)

to_more : (whole rest all part after : List ℕ) → IsReadTo whole rest all → IsPartOf rest part after → (parts : List (List ℕ)) → AreRecords after (parts_records parts) →
    (more : List (List ℕ)) × AreRecords whole (parts_records more) × (all ++ part ++ joined parts ≡ joined more)
to_more whole rest all part after r p parts h =
    let here : AreRecords rest (parts_records (part ∷ parts)) =
    capture_more rest (Carries 0 part) p.begins.0 (parts_records parts) p.begins.1 (no_halt part) (subst (λ (l : List ℕ). AreRecords l (parts_records parts)) p.begins.2 h) in
    let m = r.to (part ∷ parts) here in
    (m.0, m.1, append_assoc all part (joined parts) ∙ m.2)

from_rest : (rest part after all joint : List ℕ) (more : List (List ℕ)) → IsPartOf rest part after → AreRecords rest (parts_records more) → all ++ joined more ≡ joint →
    (others : List (List ℕ)) × AreRecords after (parts_records others) × (all ++ part ++ joined others ≡ joint)
from_rest rest part after all joint [] p h e = absurd (no_halt part (sym (p.only Halts (length rest) (capture_halt rest h)).0))
from_rest rest part after all joint (x ∷ xs) p h e =
    let first = capture_first rest (Carries 0 x) (parts_records xs) h in
    let same = p.only (Carries 0 x) (length (spelled (Carries 0 x))) first.1 in
    let is : x ≡ part = part_is x part same.0 in (
      xs,
      subst (λ (l : List ℕ). AreRecords l (parts_records xs)) (sym same.1) first.2,
      append_assoc all part (joined xs) ∙ ap (λ (y : List ℕ). all ++ (y ++ joined xs)) (sym is) ∙ e,
    )

-- one part more is read
pub read_more : (whole rest all part after : List ℕ) → IsReadTo whole rest all → IsPartOf rest part after → IsReadTo whole after (all ++ part)
read_more whole rest all part after r p = record {
  to = to_more whole rest all part after r p;
  from = λ parts h. let m = r.from parts h in from_rest rest part after all (joined parts) m.0 p m.1 m.2;
}

-- at the halt the whole is a capture of what was read
pub read_all : (whole rest all : List ℕ) → IsReadTo whole rest all → AreRecords rest [] → (parts : List (List ℕ)) × AreRecords whole (parts_records parts) × (all ≡ joined parts)
read_all whole rest all r h = let m = r.to [] h in (m.0, m.1, sym (append-nil all) ∙ m.2)

no_parts : (rest all joint : List ℕ) (more : List (List ℕ)) → AreRecords rest [] → AreRecords rest (parts_records more) → all ++ joined more ≡ joint → all ≡ joint
no_parts rest all joint [] halt h e = sym (append-nil all) ∙ e
no_parts rest all joint (x ∷ xs) halt h e = absurd (let same : [] ≡ parts_records (x ∷ xs) = one_capture rest [] (parts_records (x ∷ xs)) halt h in cc)

-- and however the whole is a capture, that is what its parts hold
pub read_only : (whole rest all : List ℕ) → IsReadTo whole rest all → AreRecords rest [] → (parts : List (List ℕ)) → AreRecords whole (parts_records parts) → all ≡ joined parts
read_only whole rest all r halt parts h = let m = r.from parts h in no_parts rest all (joined parts) m.0 halt m.1 m.2

stuck : (rest : List ℕ) (more : List (List ℕ)) → (AreRecords rest [] → ⊥) → ((part : List ℕ) (len : ℕ) → BeginWith rest (Carries 0 part) len → ⊥) → AreRecords rest (parts_records more) → ⊥
stuck rest [] halt none h = halt h
stuck rest (x ∷ xs) halt none h = none x (length (spelled (Carries 0 x))) (capture_first rest (Carries 0 x) (parts_records xs) h).1

-- where neither a part nor the halt alone begins the rest, the whole is no capture
pub read_stuck : (whole rest all : List ℕ) → IsReadTo whole rest all → (AreRecords rest [] → ⊥) → ((part : List ℕ) (len : ℕ) → BeginWith rest (Carries 0 part) len → ⊥) →
    (parts : List (List ℕ)) → AreRecords whole (parts_records parts) → ⊥
read_stuck whole rest all r halt none parts h = let m = r.from parts h in stuck rest m.0 halt none m.1

-- a capture from its beginning on
pub begun : (bytes rest : List ℕ) (len : ℕ) (parts : List (List ℕ)) → BeginWith bytes (Begins 0 [] []) len → rest ≡ drop len bytes → AreRecords rest (parts_records parts) → IsCapture bytes parts
begun bytes rest len parts s e h =
    capture_more bytes (Begins 0 [] []) len (parts_records parts) s begin_no_halt (subst (λ (l : List ℕ). AreRecords l (parts_records parts)) e h)

pub begins : (bytes : List ℕ) (parts : List (List ℕ)) → IsCapture bytes parts → (len : ℕ) × BeginWith bytes (Begins 0 [] []) len × AreRecords (drop len bytes) (parts_records parts)
begins bytes parts h = let first = capture_first bytes (Begins 0 [] []) (parts_records parts) h in (length (spelled (Begins 0 [] [])), first.1, first.2)
