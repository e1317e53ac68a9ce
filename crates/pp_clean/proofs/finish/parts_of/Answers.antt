use Rattle.std.proofs.Common.{subst, ◌≡◌, ◌∙◌, ap, sym, List, Bool, ℕ, length, map}
use Rattle.pp_program.specs.declared.program.State.{State}
use Rattle.pp_program.specs.declared.program.Program.{Program}
use Rattle.pp_clean.specs.Reach.{picked, rank}
use Rattle.pp_clean.specs.Tables.{Tells}
use Rattle.pp_clean.specs.Finished.{IsFinishable}
use Rattle.pp_clean.specs.Layout.{IsLayout, IsUsed, made_state}
use Rattle.pp_clean.proofs.LayoutLaws.{lent_ranks}
use Rattle.pp_clean.proofs.MakeLaws.{layout_long, lent_named, lent_targets, states_same, names_same}
use Rattle.pp_clean.proofs.finish.parts_of.Goals as goal

pub used_names-requires-clause-long : goal.used_names-requires-clause-long
used_names-requires-clause-long c =
    let p : Program = c.args.program.now in
    let h : IsFinishable p = c.requires.finishable in
    let lent : List State = c.items-old.result.now in
    let same : lent ≡ p.states = c.items-old.ensures in
    let lent_names : List (List ℕ) = c.items-old_names.result.now in
    let names : lent_names ≡ p.names = c.items-old_names.ensures in
    let marks : List Bool = c.args.layout.now.marks.items in
    let places : List ℕ = c.args.layout.now.places.items in
    let entry : ℕ = c.args.layout.now.entry in
    let layout : IsLayout p marks places entry = c.requires.layout in
    ap length same ∙ layout_long p h.range marks places entry layout ∙ sym (ap length c.deref.ensures.value)

pub used_names-requires-clause-named : goal.used_names-requires-clause-named
used_names-requires-clause-named c =
    let p : Program = c.args.program.now in
    let h : IsFinishable p = c.requires.finishable in
    let lent : List State = c.items-old.result.now in
    let same : lent ≡ p.states = c.items-old.ensures in
    let lent_names : List (List ℕ) = c.items-old_names.result.now in
    let names : lent_names ≡ p.names = c.items-old_names.ensures in
    let marks : List Bool = c.args.layout.now.marks.items in
    let places : List ℕ = c.args.layout.now.places.items in
    let entry : ℕ = c.args.layout.now.entry in
    let layout : IsLayout p marks places entry = c.requires.layout in
    lent_named p h lent same (length lent_names) (ap length names)

pub make_states-requires-clause-long : goal.make_states-requires-clause-long
make_states-requires-clause-long c =
    let p : Program = c.args.program.now in
    let h : IsFinishable p = c.requires.finishable in
    let lent : List State = c.items-old.result.now in
    let same : lent ≡ p.states = c.items-old.ensures in
    let lent_names : List (List ℕ) = c.items-old_names.result.now in
    let names : lent_names ≡ p.names = c.items-old_names.ensures in
    let marks : List Bool = c.args.layout.now.marks.items in
    let places : List ℕ = c.args.layout.now.places.items in
    let entry : ℕ = c.args.layout.now.entry in
    let layout : IsLayout p marks places entry = c.requires.layout in
    ap length same ∙ layout_long p h.range marks places entry layout ∙ sym (ap length c.deref-3.ensures.value)

pub make_states-requires-clause-within : goal.make_states-requires-clause-within
make_states-requires-clause-within c =
    let p : Program = c.args.program.now in
    let h : IsFinishable p = c.requires.finishable in
    let lent : List State = c.items-old.result.now in
    let same : lent ≡ p.states = c.items-old.ensures in
    let lent_names : List (List ℕ) = c.items-old_names.result.now in
    let names : lent_names ≡ p.names = c.items-old_names.ensures in
    let marks : List Bool = c.args.layout.now.marks.items in
    let places : List ℕ = c.args.layout.now.places.items in
    let entry : ℕ = c.args.layout.now.entry in
    let layout : IsLayout p marks places entry = c.requires.layout in
    lent_targets p h.range lent same (length c.deref-4.result.now) (ap length c.deref-4.ensures.value ∙ layout.placed.long)

pub make_states-requires-clause-named : goal.make_states-requires-clause-named
make_states-requires-clause-named c =
    let p : Program = c.args.program.now in
    let h : IsFinishable p = c.requires.finishable in
    let lent : List State = c.items-old.result.now in
    let same : lent ≡ p.states = c.items-old.ensures in
    let lent_names : List (List ℕ) = c.items-old_names.result.now in
    let names : lent_names ≡ p.names = c.items-old_names.ensures in
    let marks : List Bool = c.args.layout.now.marks.items in
    let places : List ℕ = c.args.layout.now.places.items in
    let entry : ℕ = c.args.layout.now.entry in
    let layout : IsLayout p marks places entry = c.requires.layout in
    let flags : List Bool = c.in_ok-used.used.items in
    let flagged : IsUsed (picked marks p.states) (length p.names) flags =
    subst (λ (l : List (List ℕ)). IsUsed (picked marks p.states) (length l) flags) names
    (subst (λ (l : List State). IsUsed (picked marks l) (length lent_names) flags) same
    (subst (λ (m : List Bool). IsUsed (picked m lent) (length lent_names) flags) c.deref.ensures.value c.in_ok-used.ensures)) in
    let origins : List ℕ = c.in_ok-origins.origins.items in
    let told : Tells (rank flags) (length flags) origins = lent_ranks c.deref-2.result.now flags origins c.deref-2.ensures.value c.in_ok-origins.ensures in
    lent_named p h lent same (length c.deref-5.result.now) (ap length c.deref-5.ensures.value ∙ told.long ∙ flagged.long)

pub returns-clause-states : goal.returns-clause-states
returns-clause-states c =
    let p : Program = c.args.program.now in
    let h : IsFinishable p = c.requires.finishable in
    let lent : List State = c.items-old.result.now in
    let same : lent ≡ p.states = c.items-old.ensures in
    let lent_names : List (List ℕ) = c.items-old_names.result.now in
    let names : lent_names ≡ p.names = c.items-old_names.ensures in
    let marks : List Bool = c.args.layout.now.marks.items in
    let places : List ℕ = c.args.layout.now.places.items in
    let entry : ℕ = c.args.layout.now.entry in
    let layout : IsLayout p marks places entry = c.requires.layout in
    let flags : List Bool = c.in_ok-used.used.items in
    let flagged : IsUsed (picked marks p.states) (length p.names) flags =
    subst (λ (l : List (List ℕ)). IsUsed (picked marks p.states) (length l) flags) names
    (subst (λ (l : List State). IsUsed (picked marks l) (length lent_names) flags) same
    (subst (λ (m : List Bool). IsUsed (picked m lent) (length lent_names) flags) c.deref.ensures.value c.in_ok-used.ensures)) in
    let origins : List ℕ = c.in_ok-origins.origins.items in
    let told : Tells (rank flags) (length flags) origins = lent_ranks c.deref-2.result.now flags origins c.deref-2.ensures.value c.in_ok-origins.ensures in
    c.in_ok-states.ensures
    ∙ ap (λ (x : List ℕ). map (made_state x c.deref-5.result.now) (picked c.deref-3.result.now lent)) c.deref-4.ensures.value
    ∙ ap (λ (x : List ℕ). map (made_state places x) (picked c.deref-3.result.now lent)) c.deref-5.ensures.value
    ∙ ap (λ (m : List Bool). map (made_state places origins) (picked m lent)) c.deref-3.ensures.value
    ∙ ap (λ (l : List State). map (made_state places origins) (picked marks l)) same
    ∙ states_same p h marks places entry layout flags flagged origins told

pub returns-clause-names : goal.returns-clause-names
returns-clause-names c =
    let p : Program = c.args.program.now in
    let h : IsFinishable p = c.requires.finishable in
    let lent : List State = c.items-old.result.now in
    let same : lent ≡ p.states = c.items-old.ensures in
    let lent_names : List (List ℕ) = c.items-old_names.result.now in
    let names : lent_names ≡ p.names = c.items-old_names.ensures in
    let marks : List Bool = c.args.layout.now.marks.items in
    let places : List ℕ = c.args.layout.now.places.items in
    let entry : ℕ = c.args.layout.now.entry in
    let layout : IsLayout p marks places entry = c.requires.layout in
    let flags : List Bool = c.in_ok-used.used.items in
    let flagged : IsUsed (picked marks p.states) (length p.names) flags =
    subst (λ (l : List (List ℕ)). IsUsed (picked marks p.states) (length l) flags) names
    (subst (λ (l : List State). IsUsed (picked marks l) (length lent_names) flags) same
    (subst (λ (m : List Bool). IsUsed (picked m lent) (length lent_names) flags) c.deref.ensures.value c.in_ok-used.ensures)) in
    let origins : List ℕ = c.in_ok-origins.origins.items in
    let told : Tells (rank flags) (length flags) origins = lent_ranks c.deref-2.result.now flags origins c.deref-2.ensures.value c.in_ok-origins.ensures in
    c.in_ok-names.ensures
    ∙ ap (λ (m : List Bool). picked m lent_names) c.deref-6.ensures.value
    ∙ ap (λ (l : List (List ℕ)). picked flags l) names
    ∙ names_same p h marks places entry layout flags flagged origins told
