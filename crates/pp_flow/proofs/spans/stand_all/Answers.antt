use Rattle.std.proofs.Common.{◌≡◌, ◌<◌, ◌≤◌, ◌+◌, ◌*◌, ℕ, List, ◌∷◌, [], ◌++◌, Some, suc, length, get_or, set, true, false, arith, subst, sym, ◌∙◌, ap, refl, length-append, add-one}
use Rattle.std.specs.Prelude.{slice_get}
use Rattle.std.specs.List.{All}
use Rattle.std.proofs.lemmas.Option.{slice_get-get_or}
use Rattle.pp_flow.specs.declared.moves.Move.{Move}
use Rattle.pp_flow.specs.Spans.{act_at}
use Rattle.pp_flow.specs.steps.Spans.{SpanSteps}
use Rattle.pp_flow.proofs.WorkLemmas.{unset, All-append_left, same_end, nothing}
use Rattle.pp_flow.proofs.SpanLemmas.{SpanWork, SpanSettling, span_work_first, span_settling_first, span_settling_last, span_step_settles, span_step_less, span_work_done, act_small}
use Rattle.pp_flow.proofs.spans.stand_all.Goals as goal

pub loop-node-init : goal.loop-node-init
loop-node-init c =
    subst (λ (l : List ℕ). SpanWork c.args.moves.now c.args.acts.now c.args.entry (length c.args.waiting.now) c.shut_all.new.words (set c.args.waiting.now c.args.entry true) l)
    (sym (c.in_ok-push.ensures ∙ ap (λ (l : List ℕ). l ++ c.args.entry ∷ []) c.new-stack.ensures.items))
    (span_work_first c.args.moves.now c.args.acts.now c.args.entry (length c.args.waiting.now) c.args.words.now c.shut_all.new.words c.args.waiting.now c.requires.down c.requires.long refl c.requires.entry c.shut_all.ensures.long c.shut_all.ensures.only c.shut_all.ensures.all)

pub loop-node-preserved : goal.loop-node-preserved
loop-node-preserved c =
    let node_in : c.in-Some.node < length c.args.waiting.now = (All-append_left (length c.args.waiting.now) c.pop.new.self.items c.in-Some.node (subst (λ (l : List ℕ). All (λ x. x < length c.args.waiting.now) l) c.in-Some.ensures.items c.loop-node.invariant.within)).1 in
    let next : get_or c.args.starts.now (c.in-Some.node + 1) 0 ≡ get_or c.args.starts.now (suc c.in-Some.node) 0 = ap (λ (i : ℕ). get_or c.args.starts.now i 0) (add-one c.in-Some.node) in
    let ordered : get_or c.args.starts.now c.in-Some.node 0 ≤ get_or c.args.starts.now (suc c.in-Some.node) 0 = c.requires.table.ordered c.in-Some.node node_in in
    let rising : get_or c.args.starts.now c.in-Some.node 0 ≤ get_or c.args.starts.now (c.in-Some.node + 1) 0 = subst (λ (i : ℕ). get_or c.args.starts.now c.in-Some.node 0 ≤ get_or c.args.starts.now i 0) (sym (add-one c.in-Some.node)) ordered in
    let up_to : c.loop-k.k ≤ get_or c.args.starts.now (c.in-Some.node + 1) 0 = c.loop-k.auto.k-end rising in
    let from : get_or c.args.starts.now (c.in-Some.node + 1) 0 ≤ c.loop-k.k = c.loop-k-test.false in
    let end : c.loop-k.k ≡ get_or c.args.starts.now (suc c.in-Some.node) 0 = same_end _ _ _ next up_to from in
    span_settling_last c.args.moves.now c.args.acts.now c.args.starts.now c.args.entry (length c.args.waiting.now) c.in-Some.node c.loop-k.words c.loop-k.waiting c.loop-k.stack.items c.requires.table
    (subst (λ (k : ℕ). SpanSettling c.args.moves.now c.args.acts.now c.args.starts.now c.args.entry (length c.args.waiting.now) c.in-Some.node k c.loop-k.words c.loop-k.waiting c.loop-k.stack.items) end c.loop-k.invariant.settling)

pub loop-node-smaller : goal.loop-node-smaller
loop-node-smaller c =
    let popped : length c.loop-node.stack.items ≡ length c.pop.new.self.items + 1 = ap length c.in-Some.ensures.items ∙ length-append c.pop.new.self.items (c.in-Some.node ∷ []) in
    let less : unset c.loop-k.words (length c.args.waiting.now * 256) * 2 + length c.loop-k.stack.items ≤ unset c.loop-node.words (length c.args.waiting.now * 256) * 2 + length c.pop.new.self.items = c.loop-k.invariant.less in
    let goal_is : unset c.loop-k.words (length c.args.waiting.now * 256) * 2 + length c.loop-k.stack.items < unset c.loop-node.words (length c.args.waiting.now * 256) * 2 + length c.loop-node.stack.items = omega arith in
    goal_is

pub loop-k-init : goal.loop-k-init
loop-k-init c =
    let work : SpanWork c.args.moves.now c.args.acts.now c.args.entry (length c.args.waiting.now) c.loop-node.words c.loop-node.waiting (c.pop.new.self.items ++ c.in-Some.node ∷ []) =
    subst (λ (l : List ℕ). SpanWork c.args.moves.now c.args.acts.now c.args.entry (length c.args.waiting.now) c.loop-node.words c.loop-node.waiting l) c.in-Some.ensures.items c.loop-node.invariant in
    let ends = All-append_left (length c.args.waiting.now) c.pop.new.self.items c.in-Some.node work.within in
    record {
      settling = span_settling_first c.args.moves.now c.args.acts.now c.args.starts.now c.args.entry (length c.args.waiting.now) c.in-Some.node c.loop-node.words c.loop-node.waiting c.pop.new.self.items ends.1 work ends.0;
      less = omega arith;
    }

pub loop-k-preserved : goal.loop-k-preserved
loop-k-preserved c =
    let node_in : c.in-Some.node < length c.args.waiting.now = (All-append_left (length c.args.waiting.now) c.pop.new.self.items c.in-Some.node (subst (λ (l : List ℕ). All (λ x. x < length c.args.waiting.now) l) c.in-Some.ensures.items c.loop-node.invariant.within)).1 in
    let first : get_or c.args.starts.now c.in-Some.node 0 ≤ c.loop-k.k = omega arith in
    let last : c.loop-k.k < get_or c.args.starts.now (suc c.in-Some.node) 0 = subst (λ (i : ℕ). c.loop-k.k < get_or c.args.starts.now i 0) (add-one c.in-Some.node) c.loop-k-test.true in
    let within : c.loop-k.k < length c.args.moves.now = omega (arith, c.requires.table.within c.in-Some.node node_in) in
    let no_move : Move = record { from = 0; to = 0; lo = 0; hi = 0; free = false; onward = false } in
    let m : Move = get_or c.args.moves.now c.loop-k.k no_move in
    let listed : slice_get c.args.moves.now c.loop-k.k ≡ Some m = slice_get-get_or c.args.moves.now c.loop-k.k no_move within in
    let below = (c.requires.table.points c.loop-k.k m listed).1 in
    let from : m.from ≡ c.in-Some.node = c.requires.table.own c.in-Some.node c.loop-k.k m node_in first last listed in
    let steps : SpanSteps (act_at c.args.acts.now m.from) m.from m.to c.loop-k.words c.step_on.new.words c.loop-k.waiting c.step_on.new.waiting c.loop-k.stack.items c.step_on.new.stack.items =
    subst (λ (x : ℕ). SpanSteps (act_at c.args.acts.now x) m.from m.to c.loop-k.words c.step_on.new.words c.loop-k.waiting c.step_on.new.waiting c.loop-k.stack.items c.step_on.new.stack.items) (sym from) c.in_ok-step_on.ensures in
    record {
      settling = span_step_settles c.args.moves.now c.args.acts.now c.args.starts.now c.args.entry (length c.args.waiting.now) c.in-Some.node c.loop-k.k m c.loop-k.words c.step_on.new.words c.loop-k.waiting c.step_on.new.waiting c.loop-k.stack.items c.step_on.new.stack.items c.requires.table c.requires.spans c.loop-k.invariant.settling listed (c.requires.table.own c.in-Some.node c.loop-k.k m node_in first last listed) steps;
      less = (let le = span_step_less (length c.args.waiting.now) (act_at c.args.acts.now m.from) m c.loop-k.words c.step_on.new.words c.loop-k.waiting c.step_on.new.waiting c.loop-k.stack.items c.step_on.new.stack.items below steps in omega (arith, le, c.loop-k.invariant.less));
    }

pub returns : goal.returns
returns c =
    let none : length c.loop-node.stack.items ≡ 0 = grind (arith, c.in_default.ensures.variant, c.in_default.ensures.cases, c.loop-node.stack.ok) in
    span_work_done c.args.moves.now c.args.acts.now c.args.entry (length c.args.waiting.now) c.loop-node.words c.loop-node.waiting c.requires.spans
    (subst (λ (l : List ℕ). SpanWork c.args.moves.now c.args.acts.now c.args.entry (length c.args.waiting.now) c.loop-node.words c.loop-node.waiting l) (nothing _ none) c.loop-node.invariant)

pub step_on-requires-clause-small : goal.step_on-requires-clause-small
step_on-requires-clause-small c b h = act_small c.args.acts.now c.in-Some.node b c.requires.spans h
