-- The loop of a run: the items so far, and the run from here, are the run from the start.
use Rattle.std.proofs.Common.{Bor, subst, ◌≡◌, ℕ, zero, suc, ◌+◌, ◌-◌, ◌*◌, ◌≤◌, ◌<◌, List, [], ◌∷◌, ◌++◌, true, refl, sym, ◌∙◌, ap, arith, append_assoc, append-nil, length, get_or, drop, length-drop, add-zero}
use Rattle.std.specs.Prelude.{◌^◌, count_by}
use Rattle.std.proofs.lemmas.List.{drop-drop}
use Rattle.pp_event.specs.declared.item.Item.{Item}
use Rattle.pp_event.specs.declared.item.Item.TheVariants as item
use Rattle.pp_event.specs.Told.{Told, Called}
use Rattle.pp_event.specs.Events.{Shown, Answered, Refused}
use Rattle.pp_event.specs.Asked.{Went, answers_of, IsStopped, IsRefused}
use Rattle.pp_event.specs.Answers.{by_list, is_call, SameAnswers}
use Rattle.pp_event.specs.Growth.{Extends}
use Rattle.pp_event.specs.Loops.{AreBytes}
use Rattle.pp_event.specs.Pieces.{pieces}
use Rattle.pp_event.specs.Run.{Config, Turn, Goes, Asks, Rests, Stops, Fails, Oracle, RunResult, Waiting, Paused, Failed, move, RunEnds}
use Rattle.pp_event.specs.Cost.{taking_moves}
use Rattle.pp_event.proofs.AskedLaws.{went_none, went_one, went_more, went_refused, rose_refused, answers_of-more}
use Rattle.pp_event.proofs.CameLaws.{moment, Came, came_first, came_goes, came_tells, came_takes, came_asks, ran_on, ran_waits, ran_pauses, ran_breaks}
use Rattle.pp_event.proofs.AnswerLaws.{agrees_asked}
use Rattle.pp_event.proofs.LoopLaws.{AreBytes-drop}
use Rattle.pp_event.proofs.RunLaws.{grows}
use Rattle.pp_program.specs.declared.program.Instr.{Instr}
use Rattle.pp_program.specs.declared.program.Instr.TheVariants.{Consume, Pause, Fail}
use Rattle.pp_program.specs.States.{instr_turn, program_turn}
use Rattle.pp_program.specs.Runnable.{IsRunnable}
use Rattle.pp_program.specs.Valid.{Sound, IsInstrAt}
use Rattle.pp_program.proofs.StateTurns.{program-steady, program-placed}
use Rattle.pp_event.specs.Steady.{Keeps, Placed}
use Rattle.pp_engine.specs.declared.host.Fired.TheVariants as fired
use Rattle.pp_engine.specs.declared.run.Ended.TheVariants as ended
use Rattle.pp_engine.specs.Feeds.{Fits, CanStand, Fire, Within, Fed, resumed, piece_of, parts_of}
use Rattle.pp_engine.proofs.AskLaws.{asked_of, end_of, asked_of-more, pieces-are}
use Rattle.pp_engine.proofs.FireLaws.{stopped_after, stopped_more, refused_after, refused_more, rose_after}
use Rattle.pp_engine.proofs.FitLaws.{turn_at, instr_at, TurnFits, instr_fits, instr_rests}
use Rattle.pp_engine.proofs.LevelLaws.{Leveled, level_first, level_free, level_asks, level_taking, lies_paused, lies_waiting, run_exists}

-- answers are numbers of 32 bits
abbrev pub AreAnswers : List ℕ → Type 0
AreAnswers answers = (i : ℕ) → get_or answers i 0 < 2 ^ 32

AreAnswers-one : (xs : List ℕ) (a : ℕ) → AreAnswers xs → a < 2 ^ 32 → AreAnswers (xs ++ a ∷ [])
AreAnswers-one [] a h n zero = n
AreAnswers-one [] a h n (suc i) = omega arith
AreAnswers-one (x ∷ xs) a h n zero = h 0
AreAnswers-one (x ∷ xs) a h n (suc i) = AreAnswers-one xs a (λ j. h (suc j)) n i

-- a 0 behind changes no answer
zero_behind : (xs : List ℕ) → SameAnswers xs (xs ++ 0 ∷ [])
zero_behind [] zero = refl
zero_behind [] (suc i) = refl
zero_behind (x ∷ xs) zero = refl
zero_behind (x ∷ xs) (suc i) = zero_behind xs i

-- the steps so far, with the moves that took bytes and how many moves without bytes may follow
pub record Spent (gap spent takes level : ℕ) : Type 0 where
  pub within : spent + level ≤ takes * (gap + 1) + gap
  pub low : level ≤ gap

module _ {View : Type 0} (allows : View → Told → Type 0) (next : View → Told → View) (v : Sound) (c : Config) (w : List ℕ) (old : Shown View) where
  -- from c on w the run came to d, having taken so many bytes, and the host was asked_of what it should be
  pub record Going (d : Config) (taken : ℕ) (new : Shown View) (spent : ℕ) : Type 0 where
    pub good : IsRunnable v
    pub items : List Item
    pub takes : ℕ
    pub came : Came (program_turn v.program) c w d (drop taken w) items takes
    pub went : Went allows next old new (asked_of c.at w items)
    pub answers : AreAnswers (answers_of (asked_of c.at w items))
    pub fits : Fits v.program d
    pub place : d.at ≡ c.at + taken
    pub taken_in : taken ≤ length w
    pub takes_in : takes ≤ taken
    pub level : ℕ
    pub leveled : Leveled v.program v.gap good.ranks d (drop taken w) level
    pub spending : Spent v.gap spent takes level

  pub going_first : IsRunnable v → AreBytes w → CanStand v.program c → Going c 0 old 0
  going_first good h s = record {
    good = good;
    items = [];
    came = came_first (program_turn v.program) c w;
    went = went_none allows next old;
    answers = λ i. omega arith;
    fits = s.fits;
    place = omega arith;
    taken_in = omega arith;
    takes = 0;
    takes_in = omega arith;
    level = v.gap;
    leveled = level_first v.program v.gap good.ranks c w h s.lies;
    spending = record { within = omega arith; low = omega arith };
  }

  module _ (d : Config) (taken : ℕ) (new : Shown View) (spent : ℕ) (g : Going d taken new spent) (h : AreBytes w) where
    rest : List ℕ
    rest = drop taken w

    left_bytes : AreBytes (drop taken w)
    left_bytes = AreBytes-drop taken w h

    -- the turn takes no more than is left
    takes_within : (e : Config) (k : ℕ) (told : List Item) → program_turn v.program d (drop taken w) ≡ Goes e k told → k ≤ length (drop taken w)
    takes_within e k told t =
        (subst (λ (x : Turn). Keeps (length (drop taken w)) x (program_turn v.program d (drop taken w ++ []))) t (program-steady v.program d (drop taken w) [])).0

    goes_place : (e : Config) (k : ℕ) (told : List Item) → program_turn v.program d (drop taken w) ≡ Goes e k told → e.at ≡ d.at + k
    goes_place e k told t = subst (Placed d (length (drop taken w))) t (program-placed v.program d (drop taken w))

    spend_free : (later : ℕ) → later < g.level → Spent v.gap (spent + 1) g.takes later
    spend_free later n = (let a : spent + g.level ≤ g.takes * (v.gap + 1) + v.gap = g.spending.within in let b : g.level ≤ v.gap = g.spending.low in record { within = omega arith; low = omega arith })

    spend_taking : Spent v.gap (spent + 1) (g.takes + 1) v.gap
    spend_taking =
        let a : spent + g.level ≤ g.takes * (v.gap + 1) + v.gap = g.spending.within in
        let e : (g.takes + 1) * (v.gap + 1) ≡ g.takes * (v.gap + 1) + (v.gap + 1) = grind arith in
        record { within = omega arith; low = omega arith }

    turn_fits : (i : Instr) → IsInstrAt v.program.states d.node i → TurnFits v.program (program_turn v.program d (drop taken w))
    turn_fits i at = subst (TurnFits v.program) (sym (turn_at v.program d (drop taken w) i at)) (instr_fits v.program d g.fits i (drop taken w) (instr_at v g.good d.node i at))

    -- the turn took bytes or none, and told nothing
    pub going_goes : (i : Instr) (e : Config) (k : ℕ) → IsInstrAt v.program.states d.node i → instr_turn i d (drop taken w) ≡ Goes e k [] → Going e (taken + k) new (spent + 1)
    going_goes i e k at ti = go k (turn_at v.program d (drop taken w) i at ∙ ti)
      where
        later : (k : ℕ) → drop k (drop taken w) ≡ drop (taken + k) w
        later k = drop-drop k taken w

        go : (k : ℕ) → program_turn v.program d (drop taken w) ≡ Goes e k [] → Going e (taken + k) new (spent + 1)
        go zero t =
            let l = level_free v.program v.gap g.good.ranks d e (drop taken w) g.level [] g.leveled t left_bytes in subst (λ (n : ℕ). Going e n new (spent + 1)) (sym (add-zero taken)) (record {
              good = g.good;
              items = g.items;
              came = came_goes (program_turn v.program) c w d (drop taken w) g.items g.takes g.came e t;
              went = g.went;
              answers = g.answers;
              fits = subst (TurnFits v.program) t (turn_fits i at);
              place = goes_place e 0 [] t ∙ (let q : d.at ≡ c.at + taken = g.place in omega arith);
              taken_in = g.taken_in;
              takes = g.takes;
              takes_in = g.takes_in;
              level = l.0;
              leveled = l.2;
              spending = spend_free l.0 l.1;
            })
        go (suc k) t =
            let n : suc k ≤ length (drop taken w) = takes_within e (suc k) [] t in
            let long : length (drop taken w) ≡ length w - taken = length-drop taken w in
            let q : d.at ≡ c.at + taken = g.place in
            let a : g.takes ≤ taken = g.takes_in in record {
              good = g.good;
              items = g.items;
              came = subst (λ (l : List ℕ). Came (program_turn v.program) c w e l g.items (g.takes + 1)) (later (suc k)) (came_takes (program_turn v.program) c w d (drop taken w) g.items g.takes g.came e k t n);
              went = g.went;
              answers = g.answers;
              fits = subst (TurnFits v.program) t (turn_fits i at);
              place = goes_place e (suc k) [] t ∙ omega arith;
              taken_in = omega arith;
              takes = g.takes + 1;
              takes_in = omega arith;
              level = v.gap;
              leveled = subst (λ (l : List ℕ). Leveled v.program v.gap g.good.ranks e l v.gap) (later (suc k)) (level_taking v.program v.gap g.good.ranks d e (drop taken w) g.level k [] g.leveled t left_bytes n);
              spending = spend_taking;
            }

    -- a span was closed, and the host answered 0 to its piece_of
    pub going_closes : (i : Instr) (e : Config) (span from : ℕ) (last : Shown View) → IsInstrAt v.program.states d.node i →
        instr_turn i d (drop taken w) ≡ Goes e 0 (item.Span span from d.at ∷ []) →
        Fire allows next new last (piece_of c.at w span from d.at true ∷ []) d.at fired.All → Going e taken last (spent + 1)
    going_closes i e span from last at ti f =
        let t : program_turn v.program d (drop taken w) ≡ Goes e 0 (item.Span span from d.at ∷ []) = turn_at v.program d (drop taken w) i at ∙ ti in
        let l = level_free v.program v.gap g.good.ranks d e (drop taken w) g.level _ g.leveled t left_bytes in
        let more : asked_of c.at w g.items ++ f.events ≡ asked_of c.at w (g.items ++ item.Span span from d.at ∷ []) =
        ap (λ (x : List Told). asked_of c.at w g.items ++ x) f.fires ∙ sym (asked_of-more c.at w g.items (item.Span span from d.at ∷ [])) in record {
          good = g.good;
          items = g.items ++ item.Span span from d.at ∷ [];
          came = came_tells (program_turn v.program) c w d (drop taken w) g.items g.takes g.came e _ t;
          went = subst (Went allows next old last) more (went_more allows next old new last (asked_of c.at w g.items) f.events g.went f.went);
          answers = subst AreAnswers (sym (append-nil _) ∙ ap (λ (x : List ℕ). answers_of (asked_of c.at w g.items) ++ x) (sym f.none) ∙ sym (answers_of-more (asked_of c.at w g.items) f.events) ∙ ap answers_of more) g.answers;
          fits = subst (TurnFits v.program) t (turn_fits i at);
          place = goes_place e 0 _ t ∙ (let q : d.at ≡ c.at + taken = g.place in omega arith);
          taken_in = g.taken_in;
          takes = g.takes;
          takes_in = g.takes_in;
          level = l.0;
          leveled = l.2;
          spending = spend_free l.0 l.1;
        }

    -- the host answered a call
    pub going_asks : (i : Instr) (code value answer : ℕ) (edge : ℕ → Config) (last : Shown View) → IsInstrAt v.program.states d.node i →
        instr_turn i d (drop taken w) ≡ Asks code value edge → answer < 2 ^ 32 →
        Answered allows next new last (Called code value d.at d.values answer) → Going (edge answer) taken last (spent + 1)
    going_asks i code value answer edge last at ti n a =
        let t : program_turn v.program d (drop taken w) ≡ Asks code value edge = turn_at v.program d (drop taken w) i at ∙ ti in
        let l = level_asks v.program v.gap g.good.ranks d (drop taken w) g.level code value edge answer g.leveled t n left_bytes in
        let told : Item = item.Call code value d.at d.values answer in
        let more : asked_of c.at w g.items ++ Called code value d.at d.values answer ∷ [] ≡ asked_of c.at w (g.items ++ told ∷ []) = sym (asked_of-more c.at w g.items (told ∷ [])) in
        let same : answers_of (asked_of c.at w g.items) ++ answer ∷ [] ≡ answers_of (asked_of c.at w (g.items ++ told ∷ [])) =
        sym (answers_of-more (asked_of c.at w g.items) (Called code value d.at d.values answer ∷ [])) ∙ ap answers_of more in record {
          good = g.good;
          items = g.items ++ told ∷ [];
          came = came_asks (program_turn v.program) c w d (drop taken w) g.items g.takes g.came code value edge answer t;
          went = subst (Went allows next old last) more (went_more allows next old new last (asked_of c.at w g.items) (Called code value d.at d.values answer ∷ []) g.went (went_one allows next new last _ a));
          answers = subst AreAnswers same (AreAnswers-one _ answer g.answers n);
          fits = (subst (TurnFits v.program) t (turn_fits i at)) answer;
          place = (subst (Placed d (length (drop taken w))) t (program-placed v.program d (drop taken w))) answer ∙ g.place;
          taken_in = g.taken_in;
          takes = g.takes;
          takes_in = g.takes_in;
          level = l.0;
          leveled = l.2;
          spending = spend_free l.0 l.1;
        }

    -- a run of what the host answered, that goes on from a moment behind the items
    record Cut (items : List Item) (events : List Told) : Type 0 where
      result : RunResult
      ran : RunEnds (program_turn v.program) (by_list (answers_of events)) c w 0 result
      more : List Told
      due : pieces result.last.items c.at result w ≡ asked_of c.at w items ++ more

    by_bounded : (answers : List ℕ) → AreAnswers answers → (items : List Item) (code : ℕ) → by_list answers items code < 2 ^ 32
    by_bounded answers h items code = h (count_by is_call items)

    cut : (events : List Told) (e : Config) (left : List ℕ) (items : List Item) (takes level : ℕ) → Came (program_turn v.program) c w e left items takes → AreBytes left →
        Leveled v.program v.gap g.good.ranks e left level → AreAnswers (answers_of events) → SameAnswers (answers_of events) (answers_of (asked_of c.at w items)) → Cut items events
    cut events e left items takes level come b l n same =
        let oracle : Oracle = by_list (answers_of events) in
        let q = run_exists v.program v.gap g.good.ranks oracle (by_bounded (answers_of events) n) e left level items b l in
        let grown : Extends items q.0.last.items = grows (program_turn v.program) oracle q.1.0 (moment e left items) q.0 q.1.1 in record {
          result = q.0;
          ran = ran_on (program_turn v.program) c w e left items takes come oracle q.0 (agrees_asked c.at w (answers_of events) items same) q.1;
          more = asked_of c.at w grown.0 ++ end_of c.at w q.0 q.0.finish;
          due = pieces-are q.0.last.items c.at q.0 w ∙ ap (λ (x : List Item). asked_of c.at w x ++ end_of c.at w q.0 q.0.finish) grown.1
              ∙ ap (λ (x : List Told). x ++ end_of c.at w q.0 q.0.finish) (asked_of-more c.at w items grown.0)
              ∙ append_assoc (asked_of c.at w items) (asked_of c.at w grown.0) (end_of c.at w q.0 q.0.finish);
        }

    none_more : (xs ys : List Told) → answers_of ys ≡ [] → answers_of xs ≡ answers_of (xs ++ ys)
    none_more xs ys h = sym (append-nil (answers_of xs)) ∙ ap (λ (x : List ℕ). answers_of xs ++ x) (sym h) ∙ sym (answers_of-more xs ys)

    same_answers : (xs ys : List ℕ) → xs ≡ ys → SameAnswers xs ys
    same_answers xs ys e i = ap (λ (x : List ℕ). get_or x i 0) e

    cost_of : (events : List Told) → SameAnswers (answers_of events) (answers_of (asked_of c.at w g.items)) →
        spent + 1 ≤ (taking_moves (move (program_turn v.program) (by_list (answers_of events))) g.came.moves (moment c w []) + 1) * (v.gap + 1)
    cost_of events same =
        let a : spent + g.level ≤ g.takes * (v.gap + 1) + v.gap = g.spending.within in
        let e : (g.takes + 1) * (v.gap + 1) ≡ g.takes * (v.gap + 1) + (v.gap + 1) = grind arith in
        let n : taking_moves (move (program_turn v.program) (by_list (answers_of events))) g.came.moves (moment c w []) ≡ g.takes =
        g.came.counted (by_list (answers_of events)) (agrees_asked c.at w (answers_of events) g.items same) in
        subst (λ (x : ℕ). spent + 1 ≤ (x + 1) * (v.gap + 1)) (sym n) (omega arith)

    here : Within c d w
    here = (let q : d.at ≡ c.at + taken = g.place in let n : taken ≤ length w = g.taken_in in record { least = omega arith; most = omega arith })

    there : (e : Config) → e.at ≡ d.at → Within c e w
    there e s = (let q : d.at ≡ c.at + taken = g.place in let n : taken ≤ length w = g.taken_in in record { least = omega arith; most = omega arith })

    module _ (i : Instr) (e : Config) (span from : ℕ) (last : Shown View) (at : IsInstrAt v.program.states d.node i) (ti : instr_turn i d (drop taken w) ≡ Goes e 0 (item.Span span from d.at ∷ [])) (same_place : e.at ≡ d.at) where
      closed : (events : List Told) → answers_of events ≡ [] → Cut (g.items ++ item.Span span from d.at ∷ []) (asked_of c.at w g.items ++ events)
      closed events n =
          let t : program_turn v.program d (drop taken w) ≡ Goes e 0 (item.Span span from d.at ∷ []) = turn_at v.program d (drop taken w) i at ∙ ti in
          let l = level_free v.program v.gap g.good.ranks d e (drop taken w) g.level _ g.leveled t left_bytes in
          let same : answers_of (asked_of c.at w g.items) ≡ answers_of (asked_of c.at w (g.items ++ item.Span span from d.at ∷ [])) =
          none_more (asked_of c.at w g.items) (piece_of c.at w span from d.at true ∷ []) refl ∙ ap answers_of (sym (asked_of-more c.at w g.items (item.Span span from d.at ∷ []))) in
          cut (asked_of c.at w g.items ++ events) e (drop taken w) (g.items ++ item.Span span from d.at ∷ []) g.takes l.0 (came_tells (program_turn v.program) c w d (drop taken w) g.items g.takes g.came e _ t)
          left_bytes l.2 (subst AreAnswers (none_more (asked_of c.at w g.items) events n) g.answers)
          (same_answers _ _ (sym (none_more (asked_of c.at w g.items) events n) ∙ same))

      closed_due : (more : List Told) → asked_of c.at w (g.items ++ item.Span span from d.at ∷ []) ++ more ≡ asked_of c.at w g.items ++ ((piece_of c.at w span from d.at true ∷ []) ++ more)
      closed_due more =
          ap (λ (x : List Told). x ++ more) (asked_of-more c.at w g.items (item.Span span from d.at ∷ []))
          ∙ append_assoc (asked_of c.at w g.items) (piece_of c.at w span from d.at true ∷ []) more

      -- the piece_of of a close stopped the run
      pub fed_stopped : (answer : ℕ) → Fire allows next new last (piece_of c.at w span from d.at true ∷ []) d.at (fired.Stopped answer) →
          Fed allows next v.program v.gap c e w old last (spent + 1) (ended.Stopped answer)
      fed_stopped answer f =
          let r = closed f.events f.none in
          let due : asked_of c.at w g.items ++ ((piece_of c.at w span from d.at true ∷ []) ++ r.more) ≡ pieces r.result.last.items c.at r.result w = sym (r.due ∙ closed_due r.more) in record {
            events = asked_of c.at w g.items ++ f.events;
            went = went_more allows next old new last (asked_of c.at w g.items) f.events g.went f.went;
            result = r.result;
            ran = r.ran;
            ended = subst (λ (x : ℕ). IsStopped (pieces r.result.last.items c.at r.result w) (asked_of c.at w g.items ++ f.events) answer x) (sym same_place)
                (subst (λ (x : List Told). IsStopped x (asked_of c.at w g.items ++ f.events) answer d.at) due
                (stopped_after (asked_of c.at w g.items) _ f.events answer d.at (stopped_more (piece_of c.at w span from d.at true ∷ []) f.events r.more answer d.at f.fires)));
            within = there e same_place;
            fits = subst (TurnFits v.program) (turn_at v.program d (drop taken w) i at ∙ ti) (turn_fits i at);
            made = g.came.moves;
            least_fetches = omega arith;
            most_fetches = cost_of (asked_of c.at w g.items ++ f.events) (same_answers _ _ (sym (none_more (asked_of c.at w g.items) f.events f.none)));
          }

      pub fed_out : Fire allows next new last (piece_of c.at w span from d.at true ∷ []) d.at fired.Out → Fed allows next v.program v.gap c e w old last (spent + 1) ended.Out
      fed_out f =
          let r = closed f.events f.none in
          let due : asked_of c.at w g.items ++ ((piece_of c.at w span from d.at true ∷ []) ++ r.more) ≡ pieces r.result.last.items c.at r.result w = sym (r.due ∙ closed_due r.more) in record {
            events = asked_of c.at w g.items ++ f.events;
            went = went_more allows next old new last (asked_of c.at w g.items) f.events g.went f.went;
            result = r.result;
            ran = r.ran;
            ended = (
              subst (λ (x : List Told). IsRefused x (asked_of c.at w g.items ++ f.events)) due
                  (refused_after (asked_of c.at w g.items) _ f.events (refused_more (piece_of c.at w span from d.at true ∷ []) f.events r.more f.fires.0)),
              rose_after old.refusals new.refusals last.refusals g.went.refusals f.fires.1,
            );
            within = there e same_place;
            fits = subst (TurnFits v.program) (turn_at v.program d (drop taken w) i at ∙ ti) (turn_fits i at);
            made = g.came.moves;
            least_fetches = omega arith;
            most_fetches = cost_of (asked_of c.at w g.items ++ f.events) (same_answers _ _ (sym (none_more (asked_of c.at w g.items) f.events f.none)));
          }

    -- a call was refused
    pub fed_refused : (i : Instr) (code value : ℕ) (edge : ℕ → Config) (last : Shown View) → IsInstrAt v.program.states d.node i →
        instr_turn i d (drop taken w) ≡ Asks code value edge → Refused new last → Fed allows next v.program v.gap c d w old last (spent + 1) ended.Out
    fed_refused i code value edge last at ti f =
        let t : program_turn v.program d (drop taken w) ≡ Asks code value edge = turn_at v.program d (drop taken w) i at ∙ ti in
        let l = level_asks v.program v.gap g.good.ranks d (drop taken w) g.level code value edge 0 g.leveled t (omega arith) left_bytes in
        let told : Item = item.Call code value d.at d.values 0 in
        let question : Told = Called code value d.at d.values 0 in
        let same : answers_of (asked_of c.at w g.items) ++ 0 ∷ [] ≡ answers_of (asked_of c.at w (g.items ++ told ∷ [])) =
        sym (answers_of-more (asked_of c.at w g.items) (question ∷ [])) ∙ ap answers_of (sym (asked_of-more c.at w g.items (told ∷ []))) in
        let r = cut (asked_of c.at w g.items) (edge 0) (drop taken w) (g.items ++ told ∷ []) g.takes l.0 (came_asks (program_turn v.program) c w d (drop taken w) g.items g.takes g.came code value edge 0 t)
        left_bytes l.2 g.answers (λ j. zero_behind (answers_of (asked_of c.at w g.items)) j ∙ ap (λ (x : List ℕ). get_or x j 0) same) in record {
          events = asked_of c.at w g.items;
          went = went_refused allows next old new last (asked_of c.at w g.items) g.went f;
          result = r.result;
          ran = r.ran;
          ended = (
            record {
              after = r.more;
              question = question;
              due_is = r.due ∙ ap (λ (x : List Told). x ++ r.more) (asked_of-more c.at w g.items (told ∷ [])) ∙ append_assoc (asked_of c.at w g.items) (question ∷ []) r.more;
            },
            rose_refused allows next old new last (asked_of c.at w g.items) g.went f,
          );
          within = here;
          fits = g.fits;
          made = g.came.moves;
          least_fetches = omega arith;
          most_fetches = cost_of (asked_of c.at w g.items) (λ j. refl);
        }

    -- the run failed
    pub fed_failed : (i : Instr) (code : ℕ) (reason : Bor (List ℕ)) → IsInstrAt v.program.states d.node i → i ≡ Fail code reason.now → instr_turn i d (drop taken w) ≡ Fails code →
        Fed allows next v.program v.gap c d w old new (spent + 1) (ended.Failed code reason)
    fed_failed i code reason at says ti = record {
      events = asked_of c.at w g.items;
      went = g.went;
      result = record { finish = Failed code; last = moment d (drop taken w) g.items };
      ran = ran_breaks (program_turn v.program) c w d (drop taken w) g.items g.takes g.came (by_list (answers_of (asked_of c.at w g.items))) code
          (agrees_asked c.at w (answers_of (asked_of c.at w g.items)) g.items (λ j. refl)) (turn_at v.program d (drop taken w) i at ∙ ti);
      ended = (
        sym (pieces-are g.items c.at (record { finish = Failed code; last = moment d (drop taken w) g.items }) w ∙ append-nil (asked_of c.at w g.items)),
        record { finish_is = refl; config_is = refl },
        (at.0, at.1, at.2 ∙ says),
      );
      within = here;
      fits = g.fits;
      made = g.came.moves;
      least_fetches = omega arith;
      most_fetches = cost_of (asked_of c.at w g.items) (λ j. refl);
    }

    module _ (i : Instr) (e : Config) (last : Shown View) (at : IsInstrAt v.program.states d.node i) (ti : instr_turn i d (drop taken w) ≡ Rests e) where
      waits_place : Within c e w
      waits_place =
          let r : e.at ≡ d.at + length (drop taken w) = instr_rests i d e (drop taken w) ti in
          let long : length (drop taken w) ≡ length w - taken = length-drop taken w in
          let q : d.at ≡ c.at + taken = g.place in
          let n : taken ≤ length w = g.taken_in in
          record { least = omega arith; most = omega arith }

      waits_ran : (events : List Told) → answers_of events ≡ [] →
          RunEnds (program_turn v.program) (by_list (answers_of (asked_of c.at w g.items ++ events))) c w 0 (record { finish = Waiting; last = moment e [] g.items })
      waits_ran events n =
          ran_waits (program_turn v.program) c w d (drop taken w) g.items g.takes g.came (by_list (answers_of (asked_of c.at w g.items ++ events))) e
          (agrees_asked c.at w _ g.items (same_answers _ _ (sym (none_more (asked_of c.at w g.items) events n)))) (turn_at v.program d (drop taken w) i at ∙ ti)

      waits_due : pieces g.items c.at (record { finish = Waiting; last = moment e [] g.items }) w ≡ asked_of c.at w g.items ++ parts_of c.at w e.at 0 e.spans
      waits_due = pieces-are g.items c.at (record { finish = Waiting; last = moment e [] g.items }) w

      waits_stands : CanStand v.program e
      waits_stands = record {
        fits = subst (TurnFits v.program) (turn_at v.program d (drop taken w) i at ∙ ti) (turn_fits i at);
        lies = lies_waiting v.program v.gap g.good.ranks i d e (drop taken w) g.level at left_bytes g.leveled g.fits.values
            (λ q n same. (instr_at v g.good d.node (Consume q n) (at.0, at.1, at.2 ∙ same)).0) ti;
      }

      pub fed_waits : Fire allows next new last (parts_of c.at w e.at 0 e.spans) e.at fired.All → Fed allows next v.program v.gap c e w old last (spent + 1) ended.Waits
      fed_waits f = record {
        events = asked_of c.at w g.items ++ f.events;
        went = went_more allows next old new last (asked_of c.at w g.items) f.events g.went f.went;
        result = record { finish = Waiting; last = moment e [] g.items };
        ran = waits_ran f.events f.none;
        ended = (ap (λ (x : List Told). asked_of c.at w g.items ++ x) f.fires ∙ sym waits_due, record { finish_is = refl; config_is = refl }, waits_stands);
        within = waits_place;
        fits = waits_stands.fits;
        made = g.came.moves;
        least_fetches = omega arith;
        most_fetches = cost_of (asked_of c.at w g.items ++ f.events) (same_answers _ _ (sym (none_more (asked_of c.at w g.items) f.events f.none)));
      }

      pub fed_waits_stopped : (answer : ℕ) → Fire allows next new last (parts_of c.at w e.at 0 e.spans) e.at (fired.Stopped answer) → Fed allows next v.program v.gap c e w old last (spent + 1) (ended.Stopped answer)
      fed_waits_stopped answer f = record {
        events = asked_of c.at w g.items ++ f.events;
        went = went_more allows next old new last (asked_of c.at w g.items) f.events g.went f.went;
        result = record { finish = Waiting; last = moment e [] g.items };
        ran = waits_ran f.events f.none;
        ended = subst (λ (x : List Told). IsStopped x (asked_of c.at w g.items ++ f.events) answer e.at) (sym waits_due) (stopped_after (asked_of c.at w g.items) _ f.events answer e.at f.fires);
        within = waits_place;
        fits = waits_stands.fits;
        made = g.came.moves;
        least_fetches = omega arith;
        most_fetches = cost_of (asked_of c.at w g.items ++ f.events) (same_answers _ _ (sym (none_more (asked_of c.at w g.items) f.events f.none)));
      }

      pub fed_waits_out : Fire allows next new last (parts_of c.at w e.at 0 e.spans) e.at fired.Out → Fed allows next v.program v.gap c e w old last (spent + 1) ended.Out
      fed_waits_out f = record {
        events = asked_of c.at w g.items ++ f.events;
        went = went_more allows next old new last (asked_of c.at w g.items) f.events g.went f.went;
        result = record { finish = Waiting; last = moment e [] g.items };
        ran = waits_ran f.events f.none;
        ended = (subst (λ (x : List Told). IsRefused x (asked_of c.at w g.items ++ f.events)) (sym waits_due) (refused_after (asked_of c.at w g.items) _ f.events f.fires.0), rose_after old.refusals new.refusals last.refusals g.went.refusals f.fires.1);
        within = waits_place;
        fits = waits_stands.fits;
        made = g.came.moves;
        least_fetches = omega arith;
        most_fetches = cost_of (asked_of c.at w g.items ++ f.events) (same_answers _ _ (sym (none_more (asked_of c.at w g.items) f.events f.none)));
      }

    module _ (i : Instr) (code onto : ℕ) (last : Shown View) (at : IsInstrAt v.program.states d.node i) (ti : instr_turn i d (drop taken w) ≡ Stops code (resumed d onto)) where
      paused_due : asked_of c.at w g.items ++ parts_of c.at w d.at 0 d.spans ≡
          pieces (g.items ++ item.Pause code d.at ∷ []) c.at (record { finish = Paused code; last = moment d (drop taken w) (g.items ++ item.Pause code d.at ∷ []) }) w
      paused_due =
          ap (λ (x : List Told). x ++ parts_of c.at w d.at 0 d.spans) (sym (append-nil (asked_of c.at w g.items)) ∙ sym (asked_of-more c.at w g.items (item.Pause code d.at ∷ [])))
          ∙ sym (pieces-are (g.items ++ item.Pause code d.at ∷ []) c.at (record { finish = Paused code; last = moment d (drop taken w) (g.items ++ item.Pause code d.at ∷ []) }) w)

      pauses_ran : (events : List Told) → answers_of events ≡ [] →
          RunEnds (program_turn v.program) (by_list (answers_of (asked_of c.at w g.items ++ events))) c w 0 (record { finish = Paused code; last = moment d (drop taken w) (g.items ++ item.Pause code d.at ∷ []) })
      pauses_ran events n =
          ran_pauses (program_turn v.program) c w d (drop taken w) g.items g.takes g.came (by_list (answers_of (asked_of c.at w g.items ++ events))) code (resumed d onto)
          (agrees_asked c.at w _ g.items (same_answers _ _ (sym (none_more (asked_of c.at w g.items) events n)))) (turn_at v.program d (drop taken w) i at ∙ ti)

      pub fed_paused : Fire allows next new last (parts_of c.at w d.at 0 d.spans) d.at fired.All →
          (reason : Bor (List ℕ)) → i ≡ Pause code reason.now onto → Fed allows next v.program v.gap c d w old last (spent + 1) (ended.Paused code onto reason)
      fed_paused f reason says = record {
        events = asked_of c.at w g.items ++ f.events;
        went = went_more allows next old new last (asked_of c.at w g.items) f.events g.went f.went;
        result = record { finish = Paused code; last = moment d (drop taken w) (g.items ++ item.Pause code d.at ∷ []) };
        ran = pauses_ran f.events f.none;
        ended = (
          ap (λ (x : List Told). asked_of c.at w g.items ++ x) f.fires ∙ paused_due,
          record { finish_is = refl; config_is = refl },
          record {
            fits = subst (TurnFits v.program) (turn_at v.program d (drop taken w) i at ∙ ti) (turn_fits i at);
            lies = lies_paused v.program v.gap g.good.ranks d (resumed d onto) (drop taken w) g.level code g.leveled (turn_at v.program d (drop taken w) i at ∙ ti) left_bytes;
          },
          (at.0, at.1, at.2 ∙ says),
        );
        within = here;
        fits = g.fits;
        made = g.came.moves;
        least_fetches = omega arith;
        most_fetches = cost_of (asked_of c.at w g.items ++ f.events) (same_answers _ _ (sym (none_more (asked_of c.at w g.items) f.events f.none)));
      }

      pub fed_paused_stopped : (answer : ℕ) → Fire allows next new last (parts_of c.at w d.at 0 d.spans) d.at (fired.Stopped answer) → Fed allows next v.program v.gap c d w old last (spent + 1) (ended.Stopped answer)
      fed_paused_stopped answer f = record {
        events = asked_of c.at w g.items ++ f.events;
        went = went_more allows next old new last (asked_of c.at w g.items) f.events g.went f.went;
        result = record { finish = Paused code; last = moment d (drop taken w) (g.items ++ item.Pause code d.at ∷ []) };
        ran = pauses_ran f.events f.none;
        ended = subst (λ (x : List Told). IsStopped x (asked_of c.at w g.items ++ f.events) answer d.at) paused_due
            (stopped_after (asked_of c.at w g.items) (parts_of c.at w d.at 0 d.spans) f.events answer d.at f.fires);
        within = here;
        fits = g.fits;
        made = g.came.moves;
        least_fetches = omega arith;
        most_fetches = cost_of (asked_of c.at w g.items ++ f.events) (same_answers _ _ (sym (none_more (asked_of c.at w g.items) f.events f.none)));
      }

      pub fed_paused_out : Fire allows next new last (parts_of c.at w d.at 0 d.spans) d.at fired.Out → Fed allows next v.program v.gap c d w old last (spent + 1) ended.Out
      fed_paused_out f = record {
        events = asked_of c.at w g.items ++ f.events;
        went = went_more allows next old new last (asked_of c.at w g.items) f.events g.went f.went;
        result = record { finish = Paused code; last = moment d (drop taken w) (g.items ++ item.Pause code d.at ∷ []) };
        ran = pauses_ran f.events f.none;
        ended = (
          subst (λ (x : List Told). IsRefused x (asked_of c.at w g.items ++ f.events)) paused_due
              (refused_after (asked_of c.at w g.items) (parts_of c.at w d.at 0 d.spans) f.events f.fires.0),
          rose_after old.refusals new.refusals last.refusals g.went.refusals f.fires.1,
        );
        within = here;
        fits = g.fits;
        made = g.came.moves;
        least_fetches = omega arith;
        most_fetches = cost_of (asked_of c.at w g.items ++ f.events) (same_answers _ _ (sym (none_more (asked_of c.at w g.items) f.events f.none)));
      }
