use Rattle.std.proofs.Common.{◌≡◌, [], Bool, List, ℕ, length, take, get_or, refl, sym, ap, ◌∙◌, subst, arith, inl, inr}
use Rattle.std.proofs.lemmas.Bool.{cases_Bool}
use Rattle.std.proofs.lemmas.List.{take_more, take_all}
use Rattle.pp_frame.specs.declared.places.Place.{Place}
use Rattle.pp_frame.specs.declared.places.Place.TheVariants.{FirstDigit}
use Rattle.pp_frame.specs.declared.coded.ChunkFault.TheVariants.{Form}
use Rattle.pp_frame.specs.Chunked.{IsChunked, IsChunkedFront, IsFirstWrong}
use Rattle.pp_frame.specs.steps.Places.{HasCome, kept}
use Rattle.pp_frame.proofs.ComeLemmas.{come_none, come_more, came_whole, came_front, came_wrong, whole_place, other_place}
use Rattle.pp_frame.proofs.OneReading.{whole_once, whole_no_front, whole_no_wrong, front_once, front_no_wrong, wrong_once}
use Rattle.pp_frame.proofs.coded.chunk_data.Goals as goal

pub loop-i-init : goal.loop-i-init
loop-i-init c =
    let P : List ℕ → Type 0 = λ body. HasCome [] body FirstDigit in
    subst P (sym c.new-body.ensures.items) come_none

pub returns-then-is_whole-clause-whole : goal.returns-then-is_whole-clause-whole
returns-then-is_whole-clause-whole c = λ is.
    let P : Place → Type 0 = λ p. HasCome (take c.loop-i.i c.args.bytes.now) c.loop-i.body.items p in
    came_whole (take c.loop-i.i c.args.bytes.now) c.loop-i.body.items (subst P (whole_place c.loop-i.place c.if-is_whole.ensures) c.loop-i.invariant)

pub returns-then-is_whole-clause-whole_only : goal.returns-then-is_whole-clause-whole_only
returns-then-is_whole-clause-whole_only c = λ used body within has.
    let e = whole_once c.args.bytes.now c.loop-i.body.items body c.loop-i.i used (omega arith) within (returns-then-is_whole-clause-whole c refl) has in
    (e.0, e.1, refl)

pub returns-then-is_whole-clause-cut_off_only : goal.returns-then-is_whole-clause-cut_off_only
returns-then-is_whole-clause-cut_off_only c = λ body has.
    absurd (whole_no_front c.args.bytes.now c.loop-i.body.items body c.loop-i.i (omega arith) (returns-then-is_whole-clause-whole c refl) has)

pub returns-then-is_whole-clause-form_only : goal.returns-then-is_whole-clause-form_only
returns-then-is_whole-clause-form_only c = λ offset has.
    whole_no_wrong c.args.bytes.now c.loop-i.body.items c.loop-i.i offset (omega arith) (returns-then-is_whole-clause-whole c refl) has

pub returns-in_default-clause-form : goal.returns-in_default-clause-form
returns-in_default-clause-form c = λ offset is.
    let same : c.loop-i.i ≡ offset = cc is in
    subst (IsFirstWrong c.args.bytes.now) same
    (came_wrong c.args.bytes.now c.loop-i.body.items c.loop-i.i c.loop-i.place (omega arith) c.loop-i.invariant (other_place c.loop-i.place c.if-is_whole.ensures) (sym c.in_default.ensures))

pub returns-in_default-clause-whole_only : goal.returns-in_default-clause-whole_only
returns-in_default-clause-whole_only c = λ used body within has.
    absurd (whole_no_wrong c.args.bytes.now body used c.loop-i.i within has (returns-in_default-clause-form c c.loop-i.i refl))

pub returns-in_default-clause-cut_off_only : goal.returns-in_default-clause-cut_off_only
returns-in_default-clause-cut_off_only c = λ body has.
    absurd (front_no_wrong c.args.bytes.now body c.loop-i.i has (returns-in_default-clause-form c c.loop-i.i refl))

pub returns-in_default-clause-form_only : goal.returns-in_default-clause-form_only
returns-in_default-clause-form_only c = λ offset has.
    inl (ap Form (wrong_once c.args.bytes.now c.loop-i.i offset (returns-in_default-clause-form c c.loop-i.i refl) has))

pub loop-i-preserved : goal.loop-i-preserved
loop-i-preserved c =
    let bytes = c.args.bytes.now in
    let b = get_or bytes c.loop-i.i 0 in
    let P : List ℕ → Type 0 = λ xs. HasCome xs c.keep.new.body.items c.in-Some.next in
    let now_is = c.in_ok-keep.ensures ∙ ap (λ (k : Bool). kept k b c.loop-i.body.items) c.holds_data.ensures in
    subst P (sym (take_more bytes c.loop-i.i 0 (omega arith)))
    (come_more (take c.loop-i.i bytes) c.loop-i.body.items c.keep.new.body.items c.loop-i.place c.in-Some.next b c.loop-i.invariant (sym c.in-Some.ensures) now_is)

pub returns-clause-whole : goal.returns-clause-whole
returns-clause-whole c = λ is.
    let bytes = c.args.bytes.now in
    let end : c.loop-i.i ≡ length bytes = omega arith in
    let P : Place → Type 0 = λ p. HasCome (take c.loop-i.i bytes) c.loop-i.body.items p in
    let Q : ℕ → Type 0 = λ n. IsChunked (take n bytes) c.loop-i.body.items in
    subst Q end (came_whole (take c.loop-i.i bytes) c.loop-i.body.items (subst P (whole_place c.loop-i.place (sym is ∙ c.is_whole-2.ensures)) c.loop-i.invariant))

pub returns-clause-cut_off : goal.returns-clause-cut_off
returns-clause-cut_off c = λ is.
    let bytes = c.args.bytes.now in
    let P : List ℕ → Type 0 = λ xs. IsChunkedFront xs c.loop-i.body.items in
    (refl, subst P (take_all c.loop-i.i bytes (omega arith)) (came_front (take c.loop-i.i bytes) c.loop-i.body.items c.loop-i.place c.loop-i.invariant (other_place c.loop-i.place (sym is ∙ c.is_whole-2.ensures))))

pub returns-clause-whole_only : goal.returns-clause-whole_only
returns-clause-whole_only c = λ used body within has.
    elim (cases_Bool c.is_whole-2.result) [
      | inl whole ↦
          let e = whole_once c.args.bytes.now c.loop-i.body.items body (length c.args.bytes.now) used (omega arith) within (returns-clause-whole c whole) has in
          (e.0, e.1, whole)
      | inr other ↦ absurd (whole_no_front c.args.bytes.now body c.loop-i.body.items used within has (returns-clause-cut_off c other).1)
    ]

pub returns-clause-cut_off_only : goal.returns-clause-cut_off_only
returns-clause-cut_off_only c = λ body has.
    elim (cases_Bool c.is_whole-2.result) [
      | inl whole ↦ absurd (whole_no_front c.args.bytes.now c.loop-i.body.items body (length c.args.bytes.now) (omega arith) (returns-clause-whole c whole) has)
      | inr other ↦ (refl, front_once c.args.bytes.now c.loop-i.body.items body (returns-clause-cut_off c other).1 has, other)
    ]

pub returns-clause-form_only : goal.returns-clause-form_only
returns-clause-form_only c = λ offset has.
    elim (cases_Bool c.is_whole-2.result) [
      | inl whole ↦ whole_no_wrong c.args.bytes.now c.loop-i.body.items (length c.args.bytes.now) offset (omega arith) (returns-clause-whole c whole) has
      | inr other ↦ front_no_wrong c.args.bytes.now c.loop-i.body.items offset (returns-clause-cut_off c other).1 has
    ]
