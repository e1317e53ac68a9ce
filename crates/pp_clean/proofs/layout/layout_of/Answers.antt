use Rattle.std.proofs.Common.{rules, subst, ◌≡◌, ◌<◌, ◌∙◌, ap, sym, List, Bool, ℕ, All, length, map, get_or}
use Rattle.pp_program.specs.declared.program.State.{State}
use Rattle.pp_program.specs.declared.program.Program.{Program}
use Rattle.pp_clean.specs.Skip.{landing}
use Rattle.pp_clean.specs.Reach.{rank, IsInRange}
use Rattle.pp_clean.specs.Search.{lands, IsFound}
use Rattle.pp_clean.specs.Tables.{Tells}
use Rattle.pp_clean.proofs.LayoutLaws.{entry_lands, through_in, entry_ranked, layout_is, lent_below, lent_told, lent_within, lent_places, lent_entry, lent_found, lent_ranks}
use Rattle.pp_clean.proofs.layout.layout_of.Goals as goal

pub landings-requires-clause-within : goal.landings-requires-clause-within
landings-requires-clause-within c = lent_below c.args.program.now c.requires.range c.items-states.result.now c.items-states.ensures

pub reach-requires-clause-within : goal.reach-requires-clause-within
reach-requires-clause-within c =
    let p : Program = c.args.program.now in
    let range : IsInRange p = c.requires.range in
    let lent : List State = c.items-states.result.now in
    let same : lent ≡ p.states = c.items-states.ensures in
    let table : List ℕ = c.in_ok-landing.landing.items in
    lent_within p range lent same table c.in_ok-landing.ensures c.deref.result.now c.deref.ensures.value

pub reach-requires-clause-places : goal.reach-requires-clause-places
reach-requires-clause-places c =
    let p : Program = c.args.program.now in
    let range : IsInRange p = c.requires.range in
    let lent : List State = c.items-states.result.now in
    let same : lent ≡ p.states = c.items-states.ensures in
    let table : List ℕ = c.in_ok-landing.landing.items in
    lent_places p range lent same table c.in_ok-landing.ensures c.deref.result.now c.deref.ensures.value

pub reach-requires-clause-entry : goal.reach-requires-clause-entry
reach-requires-clause-entry c =
    let p : Program = c.args.program.now in
    let range : IsInRange p = c.requires.range in
    let lent : List State = c.items-states.result.now in
    let same : lent ≡ p.states = c.items-states.ensures in
    let table : List ℕ = c.in_ok-landing.landing.items in
    lent_entry p range lent same table c.in_ok-landing.ensures c.index-entry.result.now c.index-entry.ensures

pub through-requires : goal.through-requires
through-requires c =
    let p : Program = c.args.program.now in
    let range : IsInRange p = c.requires.range in
    let lent : List State = c.items-states.result.now in
    let same : lent ≡ p.states = c.items-states.ensures in
    let table : List ℕ = c.in_ok-landing.landing.items in
    let told : Tells (landing p.states) (length p.states) table = lent_told p range lent same table c.in_ok-landing.ensures in
    let e : ℕ = c.index-entry.result.now in
    let at : e ≡ landing p.states p.entry = entry_lands p range table told e c.index-entry.ensures in
    let marks : List Bool = c.in_ok-marks.marks.items in
    let found : IsFound (lands p.states table) (length p.states) e marks =
    lent_found p range lent same table c.in_ok-landing.ensures c.deref.result.now e marks c.deref.ensures.value c.in_ok-marks.ensures in
    let ranked : List ℕ = c.in_ok-ranked.ranked.items in
    let rank_told : Tells (rank marks) (length marks) ranked = lent_ranks c.deref-2.result.now marks ranked c.deref-2.ensures.value c.in_ok-ranked.ensures in
    let in_ranked : All (λ n. n < length ranked) table = through_in p range table told marks e at found ranked rank_told in
    subst (λ (l : List ℕ). All (λ n. n < length l) c.deref-3.result.now) (sym c.deref-4.ensures.value)
    (subst (λ (l : List ℕ). All (λ n. n < length ranked) l) (sym c.deref-3.ensures.value) in_ranked)

pub index-requires : goal.index-requires
index-requires c =
    let p : Program = c.args.program.now in
    let range : IsInRange p = c.requires.range in
    let lent : List State = c.items-states.result.now in
    let same : lent ≡ p.states = c.items-states.ensures in
    let table : List ℕ = c.in_ok-landing.landing.items in
    let told : Tells (landing p.states) (length p.states) table = lent_told p range lent same table c.in_ok-landing.ensures in
    let e : ℕ = c.index-entry.result.now in
    let at : e ≡ landing p.states p.entry = entry_lands p range table told e c.index-entry.ensures in
    let marks : List Bool = c.in_ok-marks.marks.items in
    let found : IsFound (lands p.states table) (length p.states) e marks =
    lent_found p range lent same table c.in_ok-landing.ensures c.deref.result.now e marks c.deref.ensures.value c.in_ok-marks.ensures in
    let ranked : List ℕ = c.in_ok-ranked.ranked.items in
    let rank_told : Tells (rank marks) (length marks) ranked = lent_ranks c.deref-2.result.now marks ranked c.deref-2.ensures.value c.in_ok-ranked.ensures in
    let below : e < length ranked = entry_ranked p range table told marks e at found ranked rank_told in
    let long : c.in_ok-ranked.ranked.len ≡ length ranked = search rules in
    rw long below

pub returns : goal.returns
returns c =
    let p : Program = c.args.program.now in
    let range : IsInRange p = c.requires.range in
    let lent : List State = c.items-states.result.now in
    let same : lent ≡ p.states = c.items-states.ensures in
    let table : List ℕ = c.in_ok-landing.landing.items in
    let told : Tells (landing p.states) (length p.states) table = lent_told p range lent same table c.in_ok-landing.ensures in
    let e : ℕ = c.index-entry.result.now in
    let at : e ≡ landing p.states p.entry = entry_lands p range table told e c.index-entry.ensures in
    let marks : List Bool = c.in_ok-marks.marks.items in
    let found : IsFound (lands p.states table) (length p.states) e marks =
    lent_found p range lent same table c.in_ok-landing.ensures c.deref.result.now e marks c.deref.ensures.value c.in_ok-marks.ensures in
    let ranked : List ℕ = c.in_ok-ranked.ranked.items in
    let rank_told : Tells (rank marks) (length marks) ranked = lent_ranks c.deref-2.result.now marks ranked c.deref-2.ensures.value c.in_ok-ranked.ensures in
    let placed : c.in_ok-places.places.items ≡ map (λ n. get_or ranked n 0) table =
    c.in_ok-places.ensures ∙ ap (λ (l : List ℕ). map (λ n. get_or l n 0) c.deref-3.result.now) c.deref-4.ensures.value
    ∙ ap (map (λ n. get_or ranked n 0)) c.deref-3.ensures.value in
    layout_is p range table told marks e at found ranked rank_told c.in_ok-places.places.items c.index.result.now placed c.index.ensures
