use Rattle.std.proofs.Common.{ℕ, List, arith, subst, sym}
use Rattle.pp_flow.specs.steps.Bits.{Has}
use Rattle.pp_flow.specs.Spans.{MayStand}
use Rattle.pp_flow.specs.steps.Spans.{IsSpanTable}
use Rattle.pp_flow.proofs.SpanLemmas.{masks_tell}
use Rattle.pp_flow.proofs.FaultLemmas.{no_fault_same, first_same}
use Rattle.pp_flow.proofs.faults.check_spans.Goals as goal

pub returns-in-Some : goal.returns-in-Some
returns-in-Some c =
    let table : IsSpanTable c.args.moves.now c.args.acts.now c.args.entry c.args.count c.deref.result.now = subst (λ (l : List ℕ). IsSpanTable c.args.moves.now c.args.acts.now c.args.entry c.args.count l) (sym c.deref.ensures.value) c.in_ok-words.ensures in
    first_same (λ b n. Has c.deref.result.now n b) (MayStand c.args.moves.now c.args.acts.now c.args.entry) (λ b n h. table.exact n b h) c.args.acts.now c.requires.spans c.in-Some.fault c.in-Some.ensures.some

pub returns : goal.returns
returns c =
    let table : IsSpanTable c.args.moves.now c.args.acts.now c.args.entry c.args.count c.deref.result.now = subst (λ (l : List ℕ). IsSpanTable c.args.moves.now c.args.acts.now c.args.entry c.args.count l) (sym c.deref.ensures.value) c.in_ok-words.ensures in (
      λ m h. no_fault_same (λ b n. Has c.deref.result.now n b) (MayStand c.args.moves.now c.args.acts.now c.args.entry) (λ b n h. table.exact n b h) c.args.acts.now c.requires.spans m (c.in-None.ensures.none m (omega (arith, h, c.requires.acts))),
      masks_tell c.args.moves.now c.args.acts.now c.args.entry c.args.count c.deref-in-None.result.now c.in_ok-masks-in-None.field-0.items
          (subst (λ (l : List ℕ). IsSpanTable c.args.moves.now c.args.acts.now c.args.entry c.args.count l) (sym c.deref-in-None.ensures.value) c.in_ok-words.ensures) c.in_ok-masks-in-None.ensures,
    )
