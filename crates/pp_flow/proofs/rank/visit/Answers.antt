use Rattle.std.proofs.Common.{ℕ, List, ◌∷◌, [], ◌++◌, length, arith, ◌∙◌, ap, w32, w64}
use Rattle.std.proofs.Math.Facts.{Fits-of_lt}
use Rattle.pp_flow.proofs.WalkLemmas.{Standing, no_move, walk_first, leads_below, arm_finish, arm_skip, arm_rank, arm_round, arm_descend, rank_fits}
use Rattle.pp_flow.proofs.rank.visit.Goals as goal

pub walk-init : goal.walk-init
walk-init c =
    walk_first c.args.moves.now c.args.starts.now (length c.args.color.now) c.args.b c.args.root c.args.color.now c.args.next.now c.args.rank.now c.push.new.stack.items c.requires.searched c.requires.root c.requires.new
    (c.in_ok-push.ensures ∙ ap (λ (l : List ℕ). l ++ c.args.root ∷ []) c.new-path.ensures.items)

pub walk-smaller-then-k-starts : goal.walk-smaller-then-k-starts
walk-smaller-then-k-starts c =
    let s : Standing c.args.moves.now c.args.starts.now (length c.args.color.now) c.args.b c.args.root c.args.color.now c.walk.color c.walk.next c.walk.rank c.walk.path.items c.last_of-node.result =
    record { walking = c.walk.invariant; table = c.requires.table; some = c.has_any.ensures.0 c.walk-test.true; top = c.last_of-node.ensures } in
    (arm_finish c.args.moves.now c.args.starts.now (length c.args.color.now) c.args.b c.args.root c.args.color.now c.walk.color c.walk.next c.walk.rank c.walk.path.items c.last_of-node.result s c.if-k-starts.true c.drop_last.new.path.items c.drop_last.ensures).1

pub walk-preserved-then-k-starts : goal.walk-preserved-then-k-starts
walk-preserved-then-k-starts c =
    let s : Standing c.args.moves.now c.args.starts.now (length c.args.color.now) c.args.b c.args.root c.args.color.now c.walk.color c.walk.next c.walk.rank c.walk.path.items c.last_of-node.result =
    record { walking = c.walk.invariant; table = c.requires.table; some = c.has_any.ensures.0 c.walk-test.true; top = c.last_of-node.ensures } in
    (arm_finish c.args.moves.now c.args.starts.now (length c.args.color.now) c.args.b c.args.root c.args.color.now c.walk.color c.walk.next c.walk.rank c.walk.path.items c.last_of-node.result s c.if-k-starts.true c.drop_last.new.path.items c.drop_last.ensures).0

pub walk-smaller-then-not-is_free : goal.walk-smaller-then-not-is_free
walk-smaller-then-not-is_free c =
    let s : Standing c.args.moves.now c.args.starts.now (length c.args.color.now) c.args.b c.args.root c.args.color.now c.walk.color c.walk.next c.walk.rank c.walk.path.items c.last_of-node.result =
    record { walking = c.walk.invariant; table = c.requires.table; some = c.has_any.ensures.0 c.walk-test.true; top = c.last_of-node.ensures } in
    (arm_skip c.args.moves.now c.args.starts.now (length c.args.color.now) c.args.b c.args.root c.args.color.now c.walk.color c.walk.next c.walk.rank c.walk.path.items c.last_of-node.result s c.if-k-starts.false no_move c.is_free.result c.is_free.ensures c.if-not-is_free.true).1

pub walk-preserved-then-not-is_free : goal.walk-preserved-then-not-is_free
walk-preserved-then-not-is_free c =
    let s : Standing c.args.moves.now c.args.starts.now (length c.args.color.now) c.args.b c.args.root c.args.color.now c.walk.color c.walk.next c.walk.rank c.walk.path.items c.last_of-node.result =
    record { walking = c.walk.invariant; table = c.requires.table; some = c.has_any.ensures.0 c.walk-test.true; top = c.last_of-node.ensures } in
    (arm_skip c.args.moves.now c.args.starts.now (length c.args.color.now) c.args.b c.args.root c.args.color.now c.walk.color c.walk.next c.walk.rank c.walk.path.items c.last_of-node.result s c.if-k-starts.false no_move c.is_free.result c.is_free.ensures c.if-not-is_free.true).0

pub walk-smaller-in-Continue-branch-2 : goal.walk-smaller-in-Continue-branch-2
walk-smaller-in-Continue-branch-2 c =
    let s : Standing c.args.moves.now c.args.starts.now (length c.args.color.now) c.args.b c.args.root c.args.color.now c.walk.color c.walk.next c.walk.rank c.walk.path.items c.last_of-node.result =
    record { walking = c.walk.invariant; table = c.requires.table; some = c.has_any.ensures.0 c.walk-test.true; top = c.last_of-node.ensures } in
    (arm_descend c.args.moves.now c.args.starts.now (length c.args.color.now) c.args.b c.args.root c.args.color.now c.walk.color c.walk.next c.walk.rank c.walk.path.items c.last_of-node.result s c.if-k-starts.false no_move c.is_free.result c.is_free.ensures c.if-not-is_free.false c.if-color-m-eq0.true c.push-then-color-m-eq0.new.stack.items c.in_ok-push-2.ensures).1

pub walk-preserved-in-Continue-branch-2 : goal.walk-preserved-in-Continue-branch-2
walk-preserved-in-Continue-branch-2 c =
    let s : Standing c.args.moves.now c.args.starts.now (length c.args.color.now) c.args.b c.args.root c.args.color.now c.walk.color c.walk.next c.walk.rank c.walk.path.items c.last_of-node.result =
    record { walking = c.walk.invariant; table = c.requires.table; some = c.has_any.ensures.0 c.walk-test.true; top = c.last_of-node.ensures } in
    (arm_descend c.args.moves.now c.args.starts.now (length c.args.color.now) c.args.b c.args.root c.args.color.now c.walk.color c.walk.next c.walk.rank c.walk.path.items c.last_of-node.result s c.if-k-starts.false no_move c.is_free.result c.is_free.ensures c.if-not-is_free.false c.if-color-m-eq0.true c.push-then-color-m-eq0.new.stack.items c.in_ok-push-2.ensures).0

pub walk-smaller : goal.walk-smaller
walk-smaller c =
    let s : Standing c.args.moves.now c.args.starts.now (length c.args.color.now) c.args.b c.args.root c.args.color.now c.walk.color c.walk.next c.walk.rank c.walk.path.items c.last_of-node.result =
    record { walking = c.walk.invariant; table = c.requires.table; some = c.has_any.ensures.0 c.walk-test.true; top = c.last_of-node.ensures } in
    (arm_rank c.args.moves.now c.args.starts.now (length c.args.color.now) c.args.b c.args.root c.args.color.now c.walk.color c.walk.next c.walk.rank c.walk.path.items c.last_of-node.result s c.if-k-starts.false no_move c.is_free.result c.is_free.ensures c.if-not-is_free.false c.if-color-m-eq0.false c.if-color-m-eq1.false c.max.result c.max.ensures).1

pub walk-preserved : goal.walk-preserved
walk-preserved c =
    let s : Standing c.args.moves.now c.args.starts.now (length c.args.color.now) c.args.b c.args.root c.args.color.now c.walk.color c.walk.next c.walk.rank c.walk.path.items c.last_of-node.result =
    record { walking = c.walk.invariant; table = c.requires.table; some = c.has_any.ensures.0 c.walk-test.true; top = c.last_of-node.ensures } in
    (arm_rank c.args.moves.now c.args.starts.now (length c.args.color.now) c.args.b c.args.root c.args.color.now c.walk.color c.walk.next c.walk.rank c.walk.path.items c.last_of-node.result s c.if-k-starts.false no_move c.is_free.result c.is_free.ensures c.if-not-is_free.false c.if-color-m-eq0.false c.if-color-m-eq1.false c.max.result c.max.ensures).0

pub returns-then-color-m-eq1-clause-some : goal.returns-then-color-m-eq1-clause-some
returns-then-color-m-eq1-clause-some c =
    let s : Standing c.args.moves.now c.args.starts.now (length c.args.color.now) c.args.b c.args.root c.args.color.now c.walk.color c.walk.next c.walk.rank c.walk.path.items c.last_of-node.result =
    record { walking = c.walk.invariant; table = c.requires.table; some = c.has_any.ensures.0 c.walk-test.true; top = c.last_of-node.ensures } in
    arm_round c.args.moves.now c.args.starts.now (length c.args.color.now) c.args.b c.args.root c.args.color.now c.walk.color c.walk.next c.walk.rank c.walk.path.items c.last_of-node.result s c.if-k-starts.false no_move c.is_free.result c.is_free.ensures c.if-not-is_free.false c.if-color-m-eq1.true

pub overflow_cast-m : goal.overflow_cast-m
overflow_cast-m c =
    let s : Standing c.args.moves.now c.args.starts.now (length c.args.color.now) c.args.b c.args.root c.args.color.now c.walk.color c.walk.next c.walk.rank c.walk.path.items c.last_of-node.result =
    record { walking = c.walk.invariant; table = c.requires.table; some = c.has_any.ensures.0 c.walk-test.true; top = c.last_of-node.ensures } in
    Fits-of_lt {w = w64} (omega (arith, leads_below c.args.moves.now c.args.starts.now (length c.args.color.now) c.args.b c.args.root c.args.color.now c.walk.color c.walk.next c.walk.rank c.walk.path.items c.last_of-node.result s c.if-k-starts.false no_move, c.requires.points))

pub bounds-color-m : goal.bounds-color-m
bounds-color-m c =
    let s : Standing c.args.moves.now c.args.starts.now (length c.args.color.now) c.args.b c.args.root c.args.color.now c.walk.color c.walk.next c.walk.rank c.walk.path.items c.last_of-node.result =
    record { walking = c.walk.invariant; table = c.requires.table; some = c.has_any.ensures.0 c.walk-test.true; top = c.last_of-node.ensures } in
    omega (arith, leads_below c.args.moves.now c.args.starts.now (length c.args.color.now) c.args.b c.args.root c.args.color.now c.walk.color c.walk.next c.walk.rank c.walk.path.items c.last_of-node.result s c.if-k-starts.false no_move, c.walk.invariant.search.long_color)

pub overflow_cast-color-then-color-m-eq0 : goal.overflow_cast-color-then-color-m-eq0
overflow_cast-color-then-color-m-eq0 c =
    let s : Standing c.args.moves.now c.args.starts.now (length c.args.color.now) c.args.b c.args.root c.args.color.now c.walk.color c.walk.next c.walk.rank c.walk.path.items c.last_of-node.result =
    record { walking = c.walk.invariant; table = c.requires.table; some = c.has_any.ensures.0 c.walk-test.true; top = c.last_of-node.ensures } in
    Fits-of_lt {w = w64} (omega (arith, leads_below c.args.moves.now c.args.starts.now (length c.args.color.now) c.args.b c.args.root c.args.color.now c.walk.color c.walk.next c.walk.rank c.walk.path.items c.last_of-node.result s c.if-k-starts.false no_move, c.requires.points))

pub bounds-color-m-then-color-m-eq0 : goal.bounds-color-m-then-color-m-eq0
bounds-color-m-then-color-m-eq0 c =
    let s : Standing c.args.moves.now c.args.starts.now (length c.args.color.now) c.args.b c.args.root c.args.color.now c.walk.color c.walk.next c.walk.rank c.walk.path.items c.last_of-node.result =
    record { walking = c.walk.invariant; table = c.requires.table; some = c.has_any.ensures.0 c.walk-test.true; top = c.last_of-node.ensures } in
    omega (arith, leads_below c.args.moves.now c.args.starts.now (length c.args.color.now) c.args.b c.args.root c.args.color.now c.walk.color c.walk.next c.walk.rank c.walk.path.items c.last_of-node.result s c.if-k-starts.false no_move, c.walk.invariant.search.long_color)

pub overflow_add-rank : goal.overflow_add-rank
overflow_add-rank c =
    let s : Standing c.args.moves.now c.args.starts.now (length c.args.color.now) c.args.b c.args.root c.args.color.now c.walk.color c.walk.next c.walk.rank c.walk.path.items c.last_of-node.result =
    record { walking = c.walk.invariant; table = c.requires.table; some = c.has_any.ensures.0 c.walk-test.true; top = c.last_of-node.ensures } in
    Fits-of_lt {w = w32} (omega (arith, rank_fits c.args.moves.now c.args.starts.now (length c.args.color.now) c.args.b c.args.root c.args.color.now c.walk.color c.walk.next c.walk.rank c.walk.path.items c.last_of-node.result s _ c.if-color-m-eq0.false c.if-color-m-eq1.false, c.requires.points))
