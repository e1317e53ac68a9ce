-- A set that is read item by item.
use Rattle.std.proofs.Common.{◌≡◌, ℕ, ◌<◌, Bool, true, false, ◌&&◌, ◌||◌, not, ◌==◌, List, [], ◌∷◌, ◌++◌, length, refl, sym, ap, ◌∙◌, subst, arith, IsTrue, flat_map}
use Rattle.std.proofs.lemmas.Bool.{and_parts}
use Rattle.std.proofs.lemmas.List.{append-nil, append_assoc, length-append}
use Rattle.std.proofs.lemmas.List.Folds.{list_any-append}
use Rattle.std.proofs.Math.Bool.{or_assoc}
use Rattle.std.specs.List.{list_all, list_any}
use Rattle.std.specs.Ordering.{nat_cmp}
use Rattle.std.specs.FinSet.{FinSet, contains, empty, contains-empty}
use Rattle.pp_text.specs.Keys.{Written, Raw, Escape, Hex, written_text, byte_of, is_set_byte, Item, One, Range, item_text, is_item, item_has, set_bytes, SpellsSet}
use Rattle.pp_text.specs.steps.Places.{BeginsItem, is_between, is_no_range}
use Rattle.pp_text.specs.steps.Reading.{HasBytes}
use Rattle.pp_text.proofs.ItemLemmas.{is_between_same}
use Rattle.pp_text.proofs.KeyLemmas.{some_text}
use Rattle.pp_text.proofs.PushLemmas.{flat_map-push, list_all-push}
use Rattle.pp_text.proofs.SetLemmas.{any_of_kept}

or-false : (t : Bool) → (t || false) ≡ t
or-false true = refl
or-false false = refl

-- the set has the bytes of the items
abbrev pub HasItems : FinSet nat_cmp → List Item → Type 0
HasItems s items = (b : ℕ) → contains s b ≡ list_any (item_has b) items

-- these items are written in front of the rest
pub record HasReadItems (inside rest : List ℕ) (s : FinSet nat_cmp) : Type 0 where
  pub items : List Item
  pub each : IsTrue (list_all is_item items)
  pub spelled : inside ≡ flat_map item_text items ++ rest
  pub has : HasItems s items

-- at the start none is
pub no_items_read : (inside : List ℕ) → HasReadItems inside inside (empty {R = nat_cmp})
no_items_read inside = record { items = []; each = refl; spelled = refl; has = contains-empty nat_cmp }

-- one more item is read
pub one_more_item : (inside rest : List ℕ) (s more : FinSet nat_cmp) (first last : ℕ) (behind : List ℕ) → HasReadItems inside rest s → BeginsItem rest first last behind →
    ((b : ℕ) → contains more b ≡ (contains s b || is_between first last b)) → HasReadItems inside behind more
one_more_item inside rest s more first last behind read begins added = record {
  items = read.items ++ begins.item ∷ [];
  each = list_all-push is_item read.items begins.item read.each begins.is;
  spelled = read.spelled ∙ ap (λ (z : List ℕ). flat_map item_text read.items ++ z) begins.spelled ∙ sym (flat_map-push item_text read.items begins.item behind);
  has = λ b.
      added b
      ∙ ap (λ (t : Bool). t || is_between first last b) (read.has b)
      ∙ ap (λ (t : Bool). list_any (item_has b) read.items || t) (sym (or-false (item_has b begins.item) ∙ begins.has b))
      ∙ sym (list_any-append (item_has b) read.items (begins.item ∷ []));
}

-- a set of the items has their bytes
pub has_bytes : (s : FinSet nat_cmp) (items : List Item) → HasItems s items → HasBytes s (set_bytes items)
has_bytes s items has b byte = has b ∙ sym (any_of_kept (λ q. list_any (item_has q) items) 256 b byte)

-- where nothing is left, the set is read
pub set_read : (inside rest : List ℕ) (s : FinSet nat_cmp) → HasReadItems inside rest s → 0 < length inside → rest ≡ [] → (bytes : List ℕ) × SpellsSet inside bytes × HasBytes s bytes
set_read inside rest s read some none =
    let spelled : inside ≡ flat_map item_text read.items = read.spelled ∙ ap (λ (z : List ℕ). flat_map item_text read.items ++ z) none ∙ append-nil (flat_map item_text read.items) in (
      set_bytes read.items,
      record {
        items = read.items;
        some = λ no_items. absurd (omega (arith, some, ap length (spelled ∙ ap (λ (items : List Item). flat_map item_text items) no_items)));
        each = read.each;
        spelled = spelled;
        are = refl;
      },
      has_bytes s read.items read.has,
    )

-- an item takes text
some_item_text : (item : Item) → 0 < length (item_text item)
some_item_text (One byte) = some_text byte
some_item_text (Range first last) = omega (arith, length-append (written_text first) (45 ∷ written_text last), some_text first)

pub item_shorter : (rest : List ℕ) (first last : ℕ) (behind : List ℕ) → BeginsItem rest first last behind → length behind < length rest
item_shorter rest first last behind begins =
    omega (arith, ap length begins.spelled, length-append (item_text begins.item) behind, some_item_text begins.item)

-- no item begins with a `-`
written_no_range : (written : Written) (rest : List ℕ) → IsTrue (is_set_byte written) → IsTrue (is_no_range (written_text written ++ rest))
written_no_range (Raw byte) rest is = (and_parts _ (not (byte == 45)) is).1
written_no_range (Escape character) rest is = refl
written_no_range (Hex high low) rest is = refl

items_no_range : (items : List Item) → IsTrue (list_all is_item items) → IsTrue (is_no_range (flat_map item_text items))
items_no_range [] each = refl
items_no_range (One byte ∷ items) each = written_no_range byte (flat_map item_text items) (and_parts (is_set_byte byte) (list_all is_item items) each).0
items_no_range (Range first last ∷ items) each =
    let is = (and_parts (is_item (Range first last)) (list_all is_item items) each).0 in
    subst (λ (z : List ℕ). IsTrue (is_no_range z)) (sym (append_assoc (written_text first) (45 ∷ written_text last) (flat_map item_text items)))
    (written_no_range first _ (and_parts (is_set_byte first) (is_set_byte last) (and_parts (is_set_byte first && is_set_byte last) _ is).0).0)

-- the bytes of an item go from a first to a last
bounds : (item : Item) → (first last : ℕ) × ((b : ℕ) → item_has b item ≡ is_between first last b)
bounds (One byte) = (byte_of byte, byte_of byte, is_between_same (byte_of byte))
bounds (Range first last) = (byte_of first, byte_of last, λ b. refl)

-- items spell this text
pub record SpellsItems (text : List ℕ) (items : List Item) : Type 0 where
  pub each : IsTrue (list_all is_item items)
  pub spelled : text ≡ flat_map item_text items

-- the first item of a text that is not empty
record FirstItem (rest : List ℕ) (items : List Item) : Type 0 where
  first : ℕ
  last : ℕ
  behind : List ℕ
  more : List Item
  begins : BeginsItem rest first last behind
  apart : IsTrue (is_no_range behind)
  others : SpellsItems behind more
  has : (b : ℕ) → list_any (item_has b) items ≡ (is_between first last b || list_any (item_has b) more)

first_item : (rest : List ℕ) (items : List Item) → 0 < length rest → SpellsItems rest items → FirstItem rest items
first_item rest [] some spells = absurd (omega (arith, some, ap length spells.spelled))
first_item rest (item ∷ items) some spells =
    let parts = and_parts (is_item item) (list_all is_item items) spells.each in
    let range = bounds item in
    record {
      first = range.0;
      last = range.1;
      behind = flat_map item_text items;
      more = items;
      begins = record { item = item; is = parts.0; spelled = spells.spelled; has = range.2 };
      apart = items_no_range items parts.1;
      others = record { each = parts.1; spelled = refl };
      has = λ b. ap (λ (t : Bool). t || list_any (item_has b) items) (range.2 b);
    }

-- items of the whole text go on behind the set that is read with items of the rest
pub record GoOnAs (rest : List ℕ) (s : FinSet nat_cmp) (items : List Item) : Type 0 where
  pub others : List Item
  pub spells : SpellsItems rest others
  pub has : (b : ℕ) → list_any (item_has b) items ≡ (contains s b || list_any (item_has b) others)

abbrev pub AllGoOn : List ℕ → List ℕ → FinSet nat_cmp → Type 0
AllGoOn inside rest s = (items : List Item) → SpellsItems inside items → GoOnAs rest s items

pub all_go_on : (inside : List ℕ) → AllGoOn inside inside (empty {R = nat_cmp})
all_go_on inside items spells = record {
  others = items;
  spells = spells;
  has = λ b. ap (λ (t : Bool). t || list_any (item_has b) items) (sym (contains-empty nat_cmp b));
}

-- where no item can be read, there is no set
pub no_set : (inside rest : List ℕ) (s : FinSet nat_cmp) → 0 < length rest → AllGoOn inside rest s →
    ((first last : ℕ) (behind : List ℕ) → BeginsItem rest first last behind → IsTrue (is_no_range behind) → ⊥) → (bytes : List ℕ) → SpellsSet inside bytes → ⊥
no_set inside rest s some go_on none bytes spells =
    let others = go_on spells.items record { each = spells.each; spelled = spells.spelled } in
    let item = first_item rest others.others some others.spells in
    none item.first item.last item.behind item.begins item.apart

-- the item that was read is the next of all
pub all_go_on_behind : (inside rest : List ℕ) (s more : FinSet nat_cmp) (first last : ℕ) (behind : List ℕ) → 0 < length rest → AllGoOn inside rest s →
    ((lo hi : ℕ) (r : List ℕ) → BeginsItem rest lo hi r → IsTrue (is_no_range r) → (behind ≡ r) × ((b : ℕ) → is_between first last b ≡ is_between lo hi b)) →
    ((b : ℕ) → contains more b ≡ (contains s b || is_between first last b)) → AllGoOn inside behind more
all_go_on_behind inside rest s more first last behind some go_on only added items spells =
    let others = go_on items spells in
    let item = first_item rest others.others some others.spells in
    let agrees = only item.first item.last item.behind item.begins item.apart in
    record {
      others = item.more;
      spells = subst (λ (z : List ℕ). SpellsItems z item.more) (sym agrees.0) item.others;
      has = λ b.
          others.has b
          ∙ ap (λ (t : Bool). contains s b || t) (item.has b ∙ ap (λ (t : Bool). t || list_any (item_has b) item.more) (sym (agrees.1 b)))
          ∙ sym (or_assoc (contains s b) (is_between first last b) (list_any (item_has b) item.more))
          ∙ ap (λ (t : Bool). t || list_any (item_has b) item.more) (sym (added b));
    }

no_items : (items : List Item) → [] ≡ flat_map item_text items → items ≡ []
no_items [] spelled = refl
no_items (item ∷ items) spelled = absurd (omega (arith, ap length spelled, length-append (item_text item) (flat_map item_text items), some_item_text item))

-- where nothing is left, the set has the bytes of all
pub same_set : (inside rest : List ℕ) (s : FinSet nat_cmp) → rest ≡ [] → AllGoOn inside rest s → (bytes : List ℕ) → SpellsSet inside bytes → HasBytes s bytes
same_set inside rest s none go_on bytes spells =
    let others = go_on spells.items record { each = spells.each; spelled = spells.spelled } in
    let nothing : others.others ≡ [] = no_items others.others (sym none ∙ others.spells.spelled) in
    let has : HasItems s spells.items = λ b. sym (others.has b ∙ ap (λ (items : List Item). contains s b || list_any (item_has b) items) nothing ∙ or-false (contains s b)) in
    subst (HasBytes s) (sym spells.are) (has_bytes s spells.items has)

-- no items, no set
pub no_empty_set : (inside bytes : List ℕ) → inside ≡ [] → SpellsSet inside bytes → ⊥
no_empty_set inside bytes none spells = spells.some (no_items spells.items (sym none ∙ spells.spelled))
