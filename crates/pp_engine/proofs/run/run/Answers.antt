use Rattle.std.proofs.Common.{◌≡◌, ℕ, ◌+◌, ◌-◌, refl, sym, ◌∙◌, ap, subst, arith, drop, ◌∷◌, [], true}
use Rattle.pp_event.specs.Run.{Config}
use Rattle.pp_engine.specs.Spots.{config, edge_of}
use Rattle.pp_engine.specs.Feeds.{Fed, Fire, piece_of, parts_of}
use Rattle.pp_event.specs.Told.{Called}
use Rattle.pp_event.specs.Events.{Answered}
use Rattle.pp_engine.specs.declared.host.Fired.TheVariants as fired
use Rattle.pp_engine.specs.declared.run.Ended.TheVariants as ended
use Rattle.pp_engine.proofs.FitLaws.{closes_in, instr_at}
use Rattle.pp_engine.proofs.GoingLaws.{Going, going_first, going_goes, going_closes, going_asks, fed_stopped, fed_out, fed_refused, fed_failed, fed_waits, fed_waits_stopped, fed_waits_out, fed_paused, fed_paused_stopped, fed_paused_out}
use Rattle.pp_engine.proofs.run.run.Goals as goal

pub run-init : goal.run-init
run-init g c =
    let n : 0 ≡ c.args.steps.now - c.args.steps.now = omega arith in record {
      going = subst (λ (x : ℕ). Going g.H.Host.allows g.H.Host.next c.args.program.now (config c.args.spot.now) c.args.input.now (g.H.Host.shown c.args.host.now) (config c.args.spot.now) 0 (g.H.Host.shown c.args.host.now) x) n (going_first g.H.Host.allows g.H.Host.next c.args.program.now (config c.args.spot.now) c.args.input.now (g.H.Host.shown c.args.host.now) c.gap-gap.ensures.runnable (λ i. omega (arith, c.type_inv.input i)) c.requires.stands);
      steps = omega arith;
      base = refl;
    }

pub run-preserved-in-Goes : goal.run-preserved-in-Goes
run-preserved-in-Goes g c =
    let n : c.run.steps - c.args.steps.now + 1 ≡ c.fetch-instr.new.steps - c.args.steps.now = omega (arith, c.fetch-instr.ensures.ticked, c.run.invariant.steps) in
    let go : Going g.H.Host.allows g.H.Host.next c.args.program.now (config c.args.spot.now) c.args.input.now (g.H.Host.shown c.args.host.now) (config c.turn_from.new.spot) (c.run.taken + c.in-Goes.takes) (g.H.Host.shown c.run.host) (c.run.steps - c.args.steps.now + 1) =
    going_goes g.H.Host.allows g.H.Host.next c.args.program.now (config c.args.spot.now) c.args.input.now (g.H.Host.shown c.args.host.now) (config c.run.spot) c.run.taken (g.H.Host.shown c.run.host) (c.run.steps - c.args.steps.now) c.run.invariant.going (λ i. omega (arith, c.type_inv.input i)) c.fetch-instr.result.now (config c.turn_from.new.spot) c.in-Goes.takes c.fetch-instr.ensures.read c.in-Goes.ensures.turn in record {
      going = subst (λ (x : ℕ). Going g.H.Host.allows g.H.Host.next c.args.program.now (config c.args.spot.now) c.args.input.now (g.H.Host.shown c.args.host.now) (config c.turn_from.new.spot) (c.run.taken + c.in-Goes.takes) (g.H.Host.shown c.run.host) x) n go;
      steps = omega (arith, c.fetch-instr.ensures.ticked, c.run.invariant.steps);
      base = refl;
    }

pub fire-requires : goal.fire-requires
fire-requires g c κs =
    let going = c.run.invariant.going in
    let t = c.in-Closes.ensures.turn in
    let f = closes_in c.args.program.now.program c.fetch-instr.result.now (config c.run.spot) (config c.turn_from.new.spot) (drop c.run.taken c.args.input.now) 0 c.in-Closes.span c.in-Closes.from c.run.spot.at
    (instr_at c.args.program.now going.good c.run.spot.node c.fetch-instr.result.now c.fetch-instr.ensures.read) going.fits t.1 in
    ((refl, tt), (omega (arith, f.0, going.good.limits.spans), (omega (arith, f.1, t.0), (omega (arith, t.0, going.place), omega (arith, t.0, going.place, going.taken_in)))))

pub run-preserved-in-All : goal.run-preserved-in-All
run-preserved-in-All g c =
    let n : c.run.steps - c.args.steps.now + 1 ≡ c.fetch-instr.new.steps - c.args.steps.now = omega (arith, c.fetch-instr.ensures.ticked, c.run.invariant.steps) in
    let go : Going g.H.Host.allows g.H.Host.next c.args.program.now (config c.args.spot.now) c.args.input.now (g.H.Host.shown c.args.host.now) (config c.turn_from.new.spot) (c.run.taken) (g.H.Host.shown c.fire.new.host) (c.run.steps - c.args.steps.now + 1) =
    going_closes g.H.Host.allows g.H.Host.next c.args.program.now (config c.args.spot.now) c.args.input.now (g.H.Host.shown c.args.host.now) (config c.run.spot) c.run.taken (g.H.Host.shown c.run.host) (c.run.steps - c.args.steps.now) c.run.invariant.going (λ i. omega (arith, c.type_inv.input i)) c.fetch-instr.result.now (config c.turn_from.new.spot) c.in-Closes.span c.in-Closes.from (g.H.Host.shown c.fire.new.host) c.fetch-instr.ensures.read c.in-Closes.ensures.turn.1 (subst (λ (x : ℕ). Fire g.H.Host.allows g.H.Host.next (g.H.Host.shown c.run.host) (g.H.Host.shown c.fire.new.host) (piece_of c.args.spot.now.at c.args.input.now c.in-Closes.span c.in-Closes.from x true ∷ []) x fired.All) c.in-Closes.ensures.turn.0 c.in-All.ensures) in record {
      going = subst (λ (x : ℕ). Going g.H.Host.allows g.H.Host.next c.args.program.now (config c.args.spot.now) c.args.input.now (g.H.Host.shown c.args.host.now) (config c.turn_from.new.spot) (c.run.taken) (g.H.Host.shown c.fire.new.host) x) n go;
      steps = omega (arith, c.fetch-instr.ensures.ticked, c.run.invariant.steps);
      base = refl;
    }

pub returns-in-Stopped : goal.returns-in-Stopped
returns-in-Stopped g c =
    let n : c.run.steps - c.args.steps.now + 1 ≡ c.fetch-instr.new.steps - c.args.steps.now = omega (arith, c.fetch-instr.ensures.ticked, c.run.invariant.steps) in
    subst (λ (k : ℕ). Fed g.H.Host.allows g.H.Host.next c.args.program.now.program c.args.program.now.gap (config c.args.spot.now) (config c.turn_from.new.spot) c.args.input.now (g.H.Host.shown c.args.host.now) (g.H.Host.shown c.fire.new.host) k (ended.Stopped c.in-Stopped.answer)) n
    (fed_stopped g.H.Host.allows g.H.Host.next c.args.program.now (config c.args.spot.now) c.args.input.now (g.H.Host.shown c.args.host.now) (config c.run.spot) c.run.taken (g.H.Host.shown c.run.host) (c.run.steps - c.args.steps.now) c.run.invariant.going (λ i. omega (arith, c.type_inv.input i)) c.fetch-instr.result.now (config c.turn_from.new.spot) c.in-Closes.span c.in-Closes.from (g.H.Host.shown c.fire.new.host) c.fetch-instr.ensures.read c.in-Closes.ensures.turn.1 c.in-Closes.ensures.turn.0 c.in-Stopped.answer (subst (λ (x : ℕ). Fire g.H.Host.allows g.H.Host.next (g.H.Host.shown c.run.host) (g.H.Host.shown c.fire.new.host) (piece_of c.args.spot.now.at c.args.input.now c.in-Closes.span c.in-Closes.from x true ∷ []) x (fired.Stopped c.in-Stopped.answer)) c.in-Closes.ensures.turn.0 c.in-Stopped.ensures))

pub returns-in-Out : goal.returns-in-Out
returns-in-Out g c =
    let n : c.run.steps - c.args.steps.now + 1 ≡ c.fetch-instr.new.steps - c.args.steps.now = omega (arith, c.fetch-instr.ensures.ticked, c.run.invariant.steps) in
    subst (λ (k : ℕ). Fed g.H.Host.allows g.H.Host.next c.args.program.now.program c.args.program.now.gap (config c.args.spot.now) (config c.turn_from.new.spot) c.args.input.now (g.H.Host.shown c.args.host.now) (g.H.Host.shown c.fire.new.host) k ended.Out) n
    (fed_out g.H.Host.allows g.H.Host.next c.args.program.now (config c.args.spot.now) c.args.input.now (g.H.Host.shown c.args.host.now) (config c.run.spot) c.run.taken (g.H.Host.shown c.run.host) (c.run.steps - c.args.steps.now) c.run.invariant.going (λ i. omega (arith, c.type_inv.input i)) c.fetch-instr.result.now (config c.turn_from.new.spot) c.in-Closes.span c.in-Closes.from (g.H.Host.shown c.fire.new.host) c.fetch-instr.ensures.read c.in-Closes.ensures.turn.1 c.in-Closes.ensures.turn.0 (subst (λ (x : ℕ). Fire g.H.Host.allows g.H.Host.next (g.H.Host.shown c.run.host) (g.H.Host.shown c.fire.new.host) (piece_of c.args.spot.now.at c.args.input.now c.in-Closes.span c.in-Closes.from x true ∷ []) x fired.Out) c.in-Closes.ensures.turn.0 c.in-Out.ensures))

pub run-preserved : goal.run-preserved
run-preserved g c =
    let same : config c.turn_from.new.spot ≡ config c.run.spot = c.in-Asks.ensures.turn.0 in
    let onto : record (config c.run.spot) { node = edge_of c.fetch-instr.result.now c.in-Is.answer; carried = 0 } ≡ config c.answer_by.new.spot =
    sym (c.answer_by.ensures.config ∙ ap (λ (x : Config). record x { node = edge_of c.fetch-instr.result.now c.in-Is.answer; carried = 0 }) same) in
    let answered : Answered g.H.Host.allows g.H.Host.next (g.H.Host.shown c.run.host) (g.H.Host.shown c.call.new.self) (Called c.in-Asks.code c.run.spot.carried c.run.spot.at c.run.spot.props c.in-Is.answer) =
    subst (λ (x : Config). Answered g.H.Host.allows g.H.Host.next (g.H.Host.shown c.run.host) (g.H.Host.shown c.call.new.self) (Called c.in-Asks.code x.carried x.at x.values c.in-Is.answer)) same (subst (λ (y : ℕ). Answered g.H.Host.allows g.H.Host.next (g.H.Host.shown c.run.host) (g.H.Host.shown c.call.new.self) (Called c.in-Asks.code y c.turn_from.new.spot.at c.turn_from.new.spot.props c.in-Is.answer)) c.from.ensures c.in-Is.ensures.replies) in
    let n : c.run.steps - c.args.steps.now + 1 ≡ c.fetch-instr.new.steps - c.args.steps.now = omega (arith, c.fetch-instr.ensures.ticked, c.run.invariant.steps) in
    let go : Going g.H.Host.allows g.H.Host.next c.args.program.now (config c.args.spot.now) c.args.input.now (g.H.Host.shown c.args.host.now) (config c.answer_by.new.spot) (c.run.taken) (g.H.Host.shown c.call.new.self) (c.run.steps - c.args.steps.now + 1) =
    subst (λ (x : Config). Going g.H.Host.allows g.H.Host.next c.args.program.now (config c.args.spot.now) c.args.input.now (g.H.Host.shown c.args.host.now) x c.run.taken (g.H.Host.shown c.call.new.self) (c.run.steps - c.args.steps.now + 1)) onto (going_asks g.H.Host.allows g.H.Host.next c.args.program.now (config c.args.spot.now) c.args.input.now (g.H.Host.shown c.args.host.now) (config c.run.spot) c.run.taken (g.H.Host.shown c.run.host) (c.run.steps - c.args.steps.now) c.run.invariant.going (λ i. omega (arith, c.type_inv.input i)) c.fetch-instr.result.now c.in-Asks.code c.run.spot.carried c.in-Is.answer (λ (answer : ℕ). record (config c.run.spot) { node = edge_of c.fetch-instr.result.now answer; carried = 0 }) (g.H.Host.shown c.call.new.self) c.fetch-instr.ensures.read c.in-Asks.ensures.turn.1 c.answer_by.ensures.fits answered) in record {
      going = subst (λ (x : ℕ). Going g.H.Host.allows g.H.Host.next c.args.program.now (config c.args.spot.now) c.args.input.now (g.H.Host.shown c.args.host.now) (config c.answer_by.new.spot) (c.run.taken) (g.H.Host.shown c.call.new.self) x) n go;
      steps = omega (arith, c.fetch-instr.ensures.ticked, c.run.invariant.steps);
      base = refl;
    }

pub returns-in-NoMemory : goal.returns-in-NoMemory
returns-in-NoMemory g c =
    let n : c.run.steps - c.args.steps.now + 1 ≡ c.fetch-instr.new.steps - c.args.steps.now = omega (arith, c.fetch-instr.ensures.ticked, c.run.invariant.steps) in
    subst (λ (x : Config). Fed g.H.Host.allows g.H.Host.next c.args.program.now.program c.args.program.now.gap (config c.args.spot.now) x c.args.input.now (g.H.Host.shown c.args.host.now) (g.H.Host.shown c.call.new.self) (c.fetch-instr.new.steps - c.args.steps.now) ended.Out) (sym c.in-Asks.ensures.turn.0)
    (subst (λ (k : ℕ). Fed g.H.Host.allows g.H.Host.next c.args.program.now.program c.args.program.now.gap (config c.args.spot.now) (config c.run.spot) c.args.input.now (g.H.Host.shown c.args.host.now) (g.H.Host.shown c.call.new.self) k ended.Out) n
    (fed_refused g.H.Host.allows g.H.Host.next c.args.program.now (config c.args.spot.now) c.args.input.now (g.H.Host.shown c.args.host.now) (config c.run.spot) c.run.taken (g.H.Host.shown c.run.host) (c.run.steps - c.args.steps.now) c.run.invariant.going (λ i. omega (arith, c.type_inv.input i)) c.fetch-instr.result.now c.in-Asks.code c.run.spot.carried (λ (answer : ℕ). record (config c.run.spot) { node = edge_of c.fetch-instr.result.now answer; carried = 0 }) (g.H.Host.shown c.call.new.self) c.fetch-instr.ensures.read c.in-Asks.ensures.turn.1 c.in-NoMemory.ensures.replies))

pub returns-in-All-fire_parts : goal.returns-in-All-fire_parts
returns-in-All-fire_parts g c =
    let n : c.run.steps - c.args.steps.now + 1 ≡ c.fetch-instr.new.steps - c.args.steps.now = omega (arith, c.fetch-instr.ensures.ticked, c.run.invariant.steps) in
    subst (λ (k : ℕ). Fed g.H.Host.allows g.H.Host.next c.args.program.now.program c.args.program.now.gap (config c.args.spot.now) (config c.turn_from.new.spot) c.args.input.now (g.H.Host.shown c.args.host.now) (g.H.Host.shown c.fire_parts.new.host) k ended.Waits) n
    (fed_waits g.H.Host.allows g.H.Host.next c.args.program.now (config c.args.spot.now) c.args.input.now (g.H.Host.shown c.args.host.now) (config c.run.spot) c.run.taken (g.H.Host.shown c.run.host) (c.run.steps - c.args.steps.now) c.run.invariant.going (λ i. omega (arith, c.type_inv.input i)) c.fetch-instr.result.now (config c.turn_from.new.spot) (g.H.Host.shown c.fire_parts.new.host) c.fetch-instr.ensures.read c.in-Rests.ensures.turn c.in-All-fire_parts.ensures)

pub returns-in-Stopped-fire_parts : goal.returns-in-Stopped-fire_parts
returns-in-Stopped-fire_parts g c =
    let n : c.run.steps - c.args.steps.now + 1 ≡ c.fetch-instr.new.steps - c.args.steps.now = omega (arith, c.fetch-instr.ensures.ticked, c.run.invariant.steps) in
    subst (λ (k : ℕ). Fed g.H.Host.allows g.H.Host.next c.args.program.now.program c.args.program.now.gap (config c.args.spot.now) (config c.turn_from.new.spot) c.args.input.now (g.H.Host.shown c.args.host.now) (g.H.Host.shown c.fire_parts.new.host) k (ended.Stopped c.in-Stopped-fire_parts.answer)) n
    (fed_waits_stopped g.H.Host.allows g.H.Host.next c.args.program.now (config c.args.spot.now) c.args.input.now (g.H.Host.shown c.args.host.now) (config c.run.spot) c.run.taken (g.H.Host.shown c.run.host) (c.run.steps - c.args.steps.now) c.run.invariant.going (λ i. omega (arith, c.type_inv.input i)) c.fetch-instr.result.now (config c.turn_from.new.spot) (g.H.Host.shown c.fire_parts.new.host) c.fetch-instr.ensures.read c.in-Rests.ensures.turn c.in-Stopped-fire_parts.answer c.in-Stopped-fire_parts.ensures)

pub returns-in-Out-fire_parts : goal.returns-in-Out-fire_parts
returns-in-Out-fire_parts g c =
    let n : c.run.steps - c.args.steps.now + 1 ≡ c.fetch-instr.new.steps - c.args.steps.now = omega (arith, c.fetch-instr.ensures.ticked, c.run.invariant.steps) in
    subst (λ (k : ℕ). Fed g.H.Host.allows g.H.Host.next c.args.program.now.program c.args.program.now.gap (config c.args.spot.now) (config c.turn_from.new.spot) c.args.input.now (g.H.Host.shown c.args.host.now) (g.H.Host.shown c.fire_parts.new.host) k ended.Out) n
    (fed_waits_out g.H.Host.allows g.H.Host.next c.args.program.now (config c.args.spot.now) c.args.input.now (g.H.Host.shown c.args.host.now) (config c.run.spot) c.run.taken (g.H.Host.shown c.run.host) (c.run.steps - c.args.steps.now) c.run.invariant.going (λ i. omega (arith, c.type_inv.input i)) c.fetch-instr.result.now (config c.turn_from.new.spot) (g.H.Host.shown c.fire_parts.new.host) c.fetch-instr.ensures.read c.in-Rests.ensures.turn c.in-Out-fire_parts.ensures)

pub returns-in-All-fire_parts-2 : goal.returns-in-All-fire_parts-2
returns-in-All-fire_parts-2 g c =
    let n : c.run.steps - c.args.steps.now + 1 ≡ c.fetch-instr.new.steps - c.args.steps.now = omega (arith, c.fetch-instr.ensures.ticked, c.run.invariant.steps) in
    subst (λ (x : Config). Fed g.H.Host.allows g.H.Host.next c.args.program.now.program c.args.program.now.gap (config c.args.spot.now) x c.args.input.now (g.H.Host.shown c.args.host.now) (g.H.Host.shown c.fire_parts-in-Stops.new.host) (c.fetch-instr.new.steps - c.args.steps.now) (ended.Paused c.in-Stops.code c.in-Stops.next c.in-Stops.reason)) (sym c.in-Stops.ensures.turn.0)
    (subst (λ (k : ℕ). Fed g.H.Host.allows g.H.Host.next c.args.program.now.program c.args.program.now.gap (config c.args.spot.now) (config c.run.spot) c.args.input.now (g.H.Host.shown c.args.host.now) (g.H.Host.shown c.fire_parts-in-Stops.new.host) k (ended.Paused c.in-Stops.code c.in-Stops.next c.in-Stops.reason)) n
    (fed_paused g.H.Host.allows g.H.Host.next c.args.program.now (config c.args.spot.now) c.args.input.now (g.H.Host.shown c.args.host.now) (config c.run.spot) c.run.taken (g.H.Host.shown c.run.host) (c.run.steps - c.args.steps.now) c.run.invariant.going (λ i. omega (arith, c.type_inv.input i)) c.fetch-instr.result.now c.in-Stops.code c.in-Stops.next (g.H.Host.shown c.fire_parts-in-Stops.new.host) c.fetch-instr.ensures.read c.in-Stops.ensures.turn.1 (subst (λ (x : Config). Fire g.H.Host.allows g.H.Host.next (g.H.Host.shown c.run.host) (g.H.Host.shown c.fire_parts-in-Stops.new.host) (parts_of c.args.spot.now.at c.args.input.now x.at 0 x.spans) x.at fired.All) c.in-Stops.ensures.turn.0 c.in-All-fire_parts-2.ensures) c.in-Stops.reason c.in-Stops.ensures.says))

pub returns-in-Stopped-fire_parts-2 : goal.returns-in-Stopped-fire_parts-2
returns-in-Stopped-fire_parts-2 g c =
    let n : c.run.steps - c.args.steps.now + 1 ≡ c.fetch-instr.new.steps - c.args.steps.now = omega (arith, c.fetch-instr.ensures.ticked, c.run.invariant.steps) in
    subst (λ (x : Config). Fed g.H.Host.allows g.H.Host.next c.args.program.now.program c.args.program.now.gap (config c.args.spot.now) x c.args.input.now (g.H.Host.shown c.args.host.now) (g.H.Host.shown c.fire_parts-in-Stops.new.host) (c.fetch-instr.new.steps - c.args.steps.now) (ended.Stopped c.in-Stopped-fire_parts-2.answer)) (sym c.in-Stops.ensures.turn.0)
    (subst (λ (k : ℕ). Fed g.H.Host.allows g.H.Host.next c.args.program.now.program c.args.program.now.gap (config c.args.spot.now) (config c.run.spot) c.args.input.now (g.H.Host.shown c.args.host.now) (g.H.Host.shown c.fire_parts-in-Stops.new.host) k (ended.Stopped c.in-Stopped-fire_parts-2.answer)) n
    (fed_paused_stopped g.H.Host.allows g.H.Host.next c.args.program.now (config c.args.spot.now) c.args.input.now (g.H.Host.shown c.args.host.now) (config c.run.spot) c.run.taken (g.H.Host.shown c.run.host) (c.run.steps - c.args.steps.now) c.run.invariant.going (λ i. omega (arith, c.type_inv.input i)) c.fetch-instr.result.now c.in-Stops.code c.in-Stops.next (g.H.Host.shown c.fire_parts-in-Stops.new.host) c.fetch-instr.ensures.read c.in-Stops.ensures.turn.1 c.in-Stopped-fire_parts-2.answer (subst (λ (x : Config). Fire g.H.Host.allows g.H.Host.next (g.H.Host.shown c.run.host) (g.H.Host.shown c.fire_parts-in-Stops.new.host) (parts_of c.args.spot.now.at c.args.input.now x.at 0 x.spans) x.at (fired.Stopped c.in-Stopped-fire_parts-2.answer)) c.in-Stops.ensures.turn.0 c.in-Stopped-fire_parts-2.ensures)))

pub returns-in-Out-fire_parts-2 : goal.returns-in-Out-fire_parts-2
returns-in-Out-fire_parts-2 g c =
    let n : c.run.steps - c.args.steps.now + 1 ≡ c.fetch-instr.new.steps - c.args.steps.now = omega (arith, c.fetch-instr.ensures.ticked, c.run.invariant.steps) in
    subst (λ (x : Config). Fed g.H.Host.allows g.H.Host.next c.args.program.now.program c.args.program.now.gap (config c.args.spot.now) x c.args.input.now (g.H.Host.shown c.args.host.now) (g.H.Host.shown c.fire_parts-in-Stops.new.host) (c.fetch-instr.new.steps - c.args.steps.now) ended.Out) (sym c.in-Stops.ensures.turn.0)
    (subst (λ (k : ℕ). Fed g.H.Host.allows g.H.Host.next c.args.program.now.program c.args.program.now.gap (config c.args.spot.now) (config c.run.spot) c.args.input.now (g.H.Host.shown c.args.host.now) (g.H.Host.shown c.fire_parts-in-Stops.new.host) k ended.Out) n
    (fed_paused_out g.H.Host.allows g.H.Host.next c.args.program.now (config c.args.spot.now) c.args.input.now (g.H.Host.shown c.args.host.now) (config c.run.spot) c.run.taken (g.H.Host.shown c.run.host) (c.run.steps - c.args.steps.now) c.run.invariant.going (λ i. omega (arith, c.type_inv.input i)) c.fetch-instr.result.now c.in-Stops.code c.in-Stops.next (g.H.Host.shown c.fire_parts-in-Stops.new.host) c.fetch-instr.ensures.read c.in-Stops.ensures.turn.1 (subst (λ (x : Config). Fire g.H.Host.allows g.H.Host.next (g.H.Host.shown c.run.host) (g.H.Host.shown c.fire_parts-in-Stops.new.host) (parts_of c.args.spot.now.at c.args.input.now x.at 0 x.spans) x.at fired.Out) c.in-Stops.ensures.turn.0 c.in-Out-fire_parts-2.ensures)))

pub returns-in-Fails : goal.returns-in-Fails
returns-in-Fails g c =
    let n : c.run.steps - c.args.steps.now + 1 ≡ c.fetch-instr.new.steps - c.args.steps.now = omega (arith, c.fetch-instr.ensures.ticked, c.run.invariant.steps) in
    subst (λ (x : Config). Fed g.H.Host.allows g.H.Host.next c.args.program.now.program c.args.program.now.gap (config c.args.spot.now) x c.args.input.now (g.H.Host.shown c.args.host.now) (g.H.Host.shown c.run.host) (c.fetch-instr.new.steps - c.args.steps.now) (ended.Failed c.in-Fails.code c.in-Fails.reason)) (sym c.in-Fails.ensures.turn.0)
    (subst (λ (k : ℕ). Fed g.H.Host.allows g.H.Host.next c.args.program.now.program c.args.program.now.gap (config c.args.spot.now) (config c.run.spot) c.args.input.now (g.H.Host.shown c.args.host.now) (g.H.Host.shown c.run.host) k (ended.Failed c.in-Fails.code c.in-Fails.reason)) n
    (fed_failed g.H.Host.allows g.H.Host.next c.args.program.now (config c.args.spot.now) c.args.input.now (g.H.Host.shown c.args.host.now) (config c.run.spot) c.run.taken (g.H.Host.shown c.run.host) (c.run.steps - c.args.steps.now) c.run.invariant.going (λ i. omega (arith, c.type_inv.input i)) c.fetch-instr.result.now c.in-Fails.code c.in-Fails.reason c.fetch-instr.ensures.read c.in-Fails.ensures.says c.in-Fails.ensures.turn.1))
