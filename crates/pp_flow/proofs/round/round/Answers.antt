use Rattle.std.proofs.Common.{◌≡◌, ℕ, List, ◌∷◌, [], ◌++◌, length, arith, subst, ◌∙◌, ap, refl, w64}
use Rattle.std.proofs.Math.Facts.{Fits-of_lt}
use Rattle.pp_flow.specs.steps.Round.{Rounding}
use Rattle.pp_flow.proofs.SpreadLemmas.{not_both}
use Rattle.pp_flow.proofs.WalkLemmas.{no_move}
use Rattle.pp_flow.proofs.WorkLemmas.{nothing}
use Rattle.pp_flow.proofs.RoundLemmas.{Turning, round_first, leads_below, arm_back, arm_pass, arm_meet, arm_close, no_way_back, less_twice, less_more}
use Rattle.pp_flow.proofs.round.round.Goals as goal

pub walk-init : goal.walk-init
walk-init c =
    round_first c.args.moves.now c.args.starts.now (length c.args.color.now) c.args.b c.args.root c.args.color.now c.args.next.now c.push.new.stack.items c.requires.table refl c.requires.new c.requires.start c.requires.root
    (c.in_ok-push.ensures ∙ ap (λ (l : List ℕ). l ++ c.args.root ∷ []) c.new-path.ensures.items)

pub walk-preserved-then-k-starts : goal.walk-preserved-then-k-starts
walk-preserved-then-k-starts c =
    let s : Turning c.args.moves.now c.args.starts.now (length c.args.color.now) c.args.b c.args.root c.walk.color c.walk.next c.walk.path.items c.last_of-node.result =
    record { search = c.walk.invariant; table = c.requires.table; some = c.has_any.ensures.0 c.walk-test.true; top = c.last_of-node.ensures } in
    (arm_back c.args.moves.now c.args.starts.now (length c.args.color.now) c.args.b c.args.root c.walk.color c.walk.next c.walk.path.items c.last_of-node.result s c.if-k-starts.true c.drop_last.new.path.items c.drop_last.ensures).0

pub walk-preserved-then-not-is_free : goal.walk-preserved-then-not-is_free
walk-preserved-then-not-is_free c =
    let s : Turning c.args.moves.now c.args.starts.now (length c.args.color.now) c.args.b c.args.root c.walk.color c.walk.next c.walk.path.items c.last_of-node.result =
    record { search = c.walk.invariant; table = c.requires.table; some = c.has_any.ensures.0 c.walk-test.true; top = c.last_of-node.ensures } in
    (arm_pass c.args.moves.now c.args.starts.now (length c.args.color.now) c.args.b c.args.root c.walk.color c.walk.next c.walk.path.items c.last_of-node.result s c.if-k-starts.false no_move (λ f. absurd (not_both _ (c.is_free.ensures.1 f) c.if-not-is_free.true))).0

pub walk-smaller-then-not-is_free : goal.walk-smaller-then-not-is_free
walk-smaller-then-not-is_free c =
    let s : Turning c.args.moves.now c.args.starts.now (length c.args.color.now) c.args.b c.args.root c.walk.color c.walk.next c.walk.path.items c.last_of-node.result =
    record { search = c.walk.invariant; table = c.requires.table; some = c.has_any.ensures.0 c.walk-test.true; top = c.last_of-node.ensures } in
    less_twice _ _ _ (arm_pass c.args.moves.now c.args.starts.now (length c.args.color.now) c.args.b c.args.root c.walk.color c.walk.next c.walk.path.items c.last_of-node.result s c.if-k-starts.false no_move (λ f. absurd (not_both _ (c.is_free.ensures.1 f) c.if-not-is_free.true))).1

pub walk-preserved : goal.walk-preserved
walk-preserved c =
    let s : Turning c.args.moves.now c.args.starts.now (length c.args.color.now) c.args.b c.args.root c.walk.color c.walk.next c.walk.path.items c.last_of-node.result =
    record { search = c.walk.invariant; table = c.requires.table; some = c.has_any.ensures.0 c.walk-test.true; top = c.last_of-node.ensures } in
    (arm_pass c.args.moves.now c.args.starts.now (length c.args.color.now) c.args.b c.args.root c.walk.color c.walk.next c.walk.path.items c.last_of-node.result s c.if-k-starts.false no_move (λ f. (omega (arith, c.if-color-m-eq0.false), c.if-m-root.false))).0

pub walk-smaller : goal.walk-smaller
walk-smaller c =
    let s : Turning c.args.moves.now c.args.starts.now (length c.args.color.now) c.args.b c.args.root c.walk.color c.walk.next c.walk.path.items c.last_of-node.result =
    record { search = c.walk.invariant; table = c.requires.table; some = c.has_any.ensures.0 c.walk-test.true; top = c.last_of-node.ensures } in
    less_twice _ _ _ (arm_pass c.args.moves.now c.args.starts.now (length c.args.color.now) c.args.b c.args.root c.walk.color c.walk.next c.walk.path.items c.last_of-node.result s c.if-k-starts.false no_move (λ f. (omega (arith, c.if-color-m-eq0.false), c.if-m-root.false))).1

pub walk-preserved-in-Continue-branch-2 : goal.walk-preserved-in-Continue-branch-2
walk-preserved-in-Continue-branch-2 c =
    let s : Turning c.args.moves.now c.args.starts.now (length c.args.color.now) c.args.b c.args.root c.walk.color c.walk.next c.walk.path.items c.last_of-node.result =
    record { search = c.walk.invariant; table = c.requires.table; some = c.has_any.ensures.0 c.walk-test.true; top = c.last_of-node.ensures } in
    (arm_meet c.args.moves.now c.args.starts.now (length c.args.color.now) c.args.b c.args.root c.walk.color c.walk.next c.walk.path.items c.last_of-node.result s c.if-k-starts.false no_move c.is_free.result c.is_free.ensures c.if-not-is_free.false c.if-color-m-eq0.true c.push-then-color-m-eq0.new.stack.items c.in_ok-push-2.ensures).0

pub walk-smaller-in-Continue-branch-2 : goal.walk-smaller-in-Continue-branch-2
walk-smaller-in-Continue-branch-2 c =
    let s : Turning c.args.moves.now c.args.starts.now (length c.args.color.now) c.args.b c.args.root c.walk.color c.walk.next c.walk.path.items c.last_of-node.result =
    record { search = c.walk.invariant; table = c.requires.table; some = c.has_any.ensures.0 c.walk-test.true; top = c.last_of-node.ensures } in
    less_more _ _ _ _ (arm_meet c.args.moves.now c.args.starts.now (length c.args.color.now) c.args.b c.args.root c.walk.color c.walk.next c.walk.path.items c.last_of-node.result s c.if-k-starts.false no_move c.is_free.result c.is_free.ensures c.if-not-is_free.false c.if-color-m-eq0.true c.push-then-color-m-eq0.new.stack.items c.in_ok-push-2.ensures).1 (arm_meet c.args.moves.now c.args.starts.now (length c.args.color.now) c.args.b c.args.root c.walk.color c.walk.next c.walk.path.items c.last_of-node.result s c.if-k-starts.false no_move c.is_free.result c.is_free.ensures c.if-not-is_free.false c.if-color-m-eq0.true c.push-then-color-m-eq0.new.stack.items c.in_ok-push-2.ensures).2

pub returns-then-m-root-clause-cycle : goal.returns-then-m-root-clause-cycle
returns-then-m-root-clause-cycle c =
    let s : Turning c.args.moves.now c.args.starts.now (length c.args.color.now) c.args.b c.args.root c.walk.color c.walk.next c.walk.path.items c.last_of-node.result =
    record { search = c.walk.invariant; table = c.requires.table; some = c.has_any.ensures.0 c.walk-test.true; top = c.last_of-node.ensures } in
    arm_close c.args.moves.now c.args.starts.now (length c.args.color.now) c.args.b c.args.root c.walk.color c.walk.next c.walk.path.items c.last_of-node.result s c.if-k-starts.false no_move c.is_free.result c.is_free.ensures c.if-not-is_free.false c.if-m-root.true

pub overflow_cast-m : goal.overflow_cast-m
overflow_cast-m c =
    let s : Turning c.args.moves.now c.args.starts.now (length c.args.color.now) c.args.b c.args.root c.walk.color c.walk.next c.walk.path.items c.last_of-node.result =
    record { search = c.walk.invariant; table = c.requires.table; some = c.has_any.ensures.0 c.walk-test.true; top = c.last_of-node.ensures } in
    Fits-of_lt {w = w64} (omega (arith, leads_below c.args.moves.now c.args.starts.now (length c.args.color.now) c.args.b c.args.root c.walk.color c.walk.next c.walk.path.items c.last_of-node.result s c.if-k-starts.false no_move, c.requires.points))

pub overflow_cast-color-then-color-m-eq0 : goal.overflow_cast-color-then-color-m-eq0
overflow_cast-color-then-color-m-eq0 c =
    let s : Turning c.args.moves.now c.args.starts.now (length c.args.color.now) c.args.b c.args.root c.walk.color c.walk.next c.walk.path.items c.last_of-node.result =
    record { search = c.walk.invariant; table = c.requires.table; some = c.has_any.ensures.0 c.walk-test.true; top = c.last_of-node.ensures } in
    Fits-of_lt {w = w64} (omega (arith, leads_below c.args.moves.now c.args.starts.now (length c.args.color.now) c.args.b c.args.root c.walk.color c.walk.next c.walk.path.items c.last_of-node.result s c.if-k-starts.false no_move, c.requires.points))

pub bounds-color-m : goal.bounds-color-m
bounds-color-m c =
    let s : Turning c.args.moves.now c.args.starts.now (length c.args.color.now) c.args.b c.args.root c.walk.color c.walk.next c.walk.path.items c.last_of-node.result =
    record { search = c.walk.invariant; table = c.requires.table; some = c.has_any.ensures.0 c.walk-test.true; top = c.last_of-node.ensures } in
    omega (arith, leads_below c.args.moves.now c.args.starts.now (length c.args.color.now) c.args.b c.args.root c.walk.color c.walk.next c.walk.path.items c.last_of-node.result s c.if-k-starts.false no_move, c.walk.invariant.long_color)

pub bounds-color-m-then-color-m-eq0 : goal.bounds-color-m-then-color-m-eq0
bounds-color-m-then-color-m-eq0 c =
    let s : Turning c.args.moves.now c.args.starts.now (length c.args.color.now) c.args.b c.args.root c.walk.color c.walk.next c.walk.path.items c.last_of-node.result =
    record { search = c.walk.invariant; table = c.requires.table; some = c.has_any.ensures.0 c.walk-test.true; top = c.last_of-node.ensures } in
    omega (arith, leads_below c.args.moves.now c.args.starts.now (length c.args.color.now) c.args.b c.args.root c.walk.color c.walk.next c.walk.path.items c.last_of-node.result s c.if-k-starts.false no_move, c.walk.invariant.long_color)

pub returns-clause-none : goal.returns-clause-none
returns-clause-none c =
    let none : length c.walk.path.items ≡ 0 = grind (arith, c.has_any.ensures, c.walk-test.false) in
    no_way_back c.args.moves.now c.args.starts.now (length c.args.color.now) c.args.b c.args.root c.walk.color c.walk.next c.requires.table
    (subst (λ (l : List ℕ). Rounding c.args.moves.now c.args.starts.now (length c.args.color.now) c.args.b c.args.root c.walk.color c.walk.next l) (nothing _ none) c.walk.invariant)
