use Rattle.std.proofs.Common.{◌≡◌, ◌*◌, ℕ, List, Bool, false, length, replicate, subst, sym, ◌∙◌, ap, arith, get_or}
use Rattle.std.proofs.lemmas.List.{length-replicate}
use Rattle.pp_flow.specs.steps.Bits.{has_pair}
use Rattle.pp_flow.specs.steps.Reach.{IsReachTable}
use Rattle.pp_flow.specs.steps.Table.{IsTable}
use Rattle.pp_flow.proofs.BitLemmas.{none_set, flags_at, written_back}
use Rattle.pp_flow.proofs.reach.reachable.Goals as goal

pub settle-requires : goal.settle-requires
settle-requires c =
    let flags : c.deref_mut-2.result.now ≡ replicate c.args.count false = c.deref_mut-2.ensures.value ∙ c.in_ok-waiting.ensures in
    let words : c.deref_mut.result.now ≡ replicate (c.args.count * 4) 0 = c.deref_mut.ensures.value ∙ c.in_ok-words.ensures in
    let count : length c.deref_mut-2.result.now ≡ c.args.count = ap length flags ∙ length-replicate {A = Bool} c.args.count false in
    record {
      table = subst (λ (n : ℕ). IsTable c.args.moves.now c.args.starts.now n) (sym count) c.requires.table;
      entry = omega (arith, count, c.requires.entry);
      long = omega (arith, count, ap length words ∙ length-replicate {A = ℕ} (c.args.count * 4) 0);
      none = λ x b. ap (λ (w : List ℕ). has_pair w x b) words ∙ none_set (c.args.count * 4) x b;
      down = λ x. ap (λ (w : List Bool). get_or w x false) flags ∙ flags_at c.args.count x;
    }

pub returns : goal.returns
returns c =
    let flags : c.deref_mut-2.result.now ≡ replicate c.args.count false = c.deref_mut-2.ensures.value ∙ c.in_ok-waiting.ensures in
    let count : length c.deref_mut-2.result.now ≡ c.args.count = ap length flags ∙ length-replicate {A = Bool} c.args.count false in
    let table : IsReachTable c.args.moves.now c.args.entry c.args.count c.settle.new.words =
    subst (λ (n : ℕ). IsReachTable c.args.moves.now c.args.entry n c.settle.new.words) count c.in_ok-settle.ensures in
    let long : length c.in_ok-words.words.items ≡ c.args.count * 4 = ap length c.in_ok-words.ensures ∙ length-replicate {A = ℕ} (c.args.count * 4) 0 in
    subst (λ (l : List ℕ). IsReachTable c.args.moves.now c.args.entry c.args.count l)
    (sym (written_back c.in_ok-words.words.len c.settle.new.words c.in_ok-words.words.items (omega (arith, c.in_ok-words.words.ok.0)) (table.long ∙ sym long)))
    table
