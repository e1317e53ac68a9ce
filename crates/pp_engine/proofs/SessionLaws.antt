-- Feeds and resumes keep what a parser stands for.
use Rattle.std.proofs.Common.{subst, ◌≡◌, ℕ, zero, suc, ◌+◌, ◌-◌, ◌≤◌, ◌⊎◌, inl, inr, List, [], ◌∷◌, ◌++◌, Option, Some, None, Bool, true, false, refl, sym, ◌∙◌, ap, arith, append_assoc, append-nil, length, drop, length-drop, length-append}
use Rattle.std.proofs.lemmas.List.{drop-append-le}
use Rattle.std.specs.Prelude.{Result, slice_set, replicate, count_by}
use Rattle.pp_event.specs.declared.item.Item.{Item}
use Rattle.pp_event.specs.declared.item.Item.TheVariants as item
use Rattle.pp_event.specs.Answers.{by_list, is_call, answers_in, Honest}
use Rattle.pp_event.specs.Asked.{answers_of}
use Rattle.pp_event.specs.Chain.{Move, On, Over, then, run_for, Ends}
use Rattle.pp_event.specs.Events.{Shown}
use Rattle.pp_event.specs.Growth.{followed, followed_result, Onward, OnceResumed, behind, behind_result}
use Rattle.pp_event.specs.Joined.{first_at, joined, joined_from, begun_after, none_begun, besides_pauses}
use Rattle.pp_event.specs.Pieces.{pieces}
use Rattle.pp_event.specs.Run.{Config, Turn, Goes, Asks, Rests, Stops, Fails, Oracle, Stage, RunResult, Finish, Waiting, Paused, Failed, move, move_by, pass, telling, RunEnds}
use Rattle.pp_event.specs.Steady.{Keeps}
use Rattle.pp_event.specs.Told.{Told, Called, Pieced}
use Rattle.pp_event.specs.Turns.{slot}
use Rattle.pp_event.proofs.AgreeLaws.{answers_count, honest_list, agree_for, behind_for, behind_list}
use Rattle.pp_event.proofs.AskedLaws.{answers_of-more}
use Rattle.pp_event.proofs.CameLaws.{moment}
use Rattle.pp_event.proofs.JoinLaws.{joined_from-more, begun_after-more, besides-more}
use Rattle.pp_event.proofs.RunLaws.{onward, one_more_resume}
use Rattle.pp_program.specs.declared.program.Instr.TheVariants.{Pause}
use Rattle.pp_program.specs.Runnable.{IsRunnable, LeadsOnto}
use Rattle.pp_program.specs.States.{program_turn, program_entry}
use Rattle.pp_program.specs.Valid.{Sound}
use Rattle.pp_program.proofs.StateTurns.{program-steady, program-resumable}
use Rattle.pp_engine.specs.declared.run.Ended.{Ended}
use Rattle.pp_engine.specs.declared.run.Ended.TheVariants as ended
use Rattle.pp_engine.specs.declared.standing.NotPaused.{NotPaused}
use Rattle.pp_engine.specs.declared.standing.Outcome.{Outcome}
use Rattle.pp_engine.specs.declared.standing.Stand.{Stand}
use Rattle.pp_engine.specs.declared.standing.Stand.TheVariants as stand
use Rattle.pp_engine.specs.Adds.{stood_items, FeedAdds}
use Rattle.pp_engine.specs.Feeds.{Fits, Comes, IsEnded, resumed}
use Rattle.pp_engine.specs.Parsers.{begun, Ran, Tells, IsFed, IsFedAt, IsResumed, IsResumedAt}
use Rattle.pp_engine.specs.Parted.{parts_after, IsParted}
use Rattle.pp_engine.specs.Sessions.{earlier_than, Begun, Spanned, RunOf, EndsAt, PrefixOf, Fresh, Resumed, StandsAt, Stands, Runs, ResumeKeeps}
use Rattle.pp_engine.specs.Stood.{Shows, IsKept}
use Rattle.pp_engine.proofs.EffectLaws.{JoinedEnd, joins_for, unslot}
use Rattle.pp_engine.proofs.FitLaws.{turn_at}
use Rattle.pp_engine.proofs.PartLaws.{PartedEnd, parts_for}
use Rattle.pp_engine.proofs.TileLaws.{tiles_longer, parted_first, parts_after-more}

-- the answers of a log are those of its items
joined-answers : (begun : List (Option ℕ)) (log : List Told) → answers_in (joined_from begun log) ≡ answers_of log
joined-answers begun [] = refl
joined-answers begun (Called code value at values answer ∷ log) = ap (λ (l : List ℕ). answer ∷ l) (joined-answers begun log)
joined-answers begun (Pieced span at part true answer ∷ log) = joined-answers (slice_set begun span None) log
joined-answers begun (Pieced span at part false answer ∷ log) = joined-answers (slice_set begun span (Some (first_at begun span at))) log

besides-answers : (items : List Item) → answers_in (besides_pauses items) ≡ answers_in items
besides-answers [] = refl
besides-answers (item.Call code value at values answer ∷ items) = ap (λ (l : List ℕ). answer ∷ l) (besides-answers items)
besides-answers (item.Span span from to ∷ items) = besides-answers items
besides-answers (item.Pause code at ∷ items) = besides-answers items

-- more bytes behind the string change no part
parted_longer : (s more : List ℕ) (at : ℕ) (held : List (ℕ × List ℕ)) (x : Option ℕ) → at ≤ length s → IsParted s x at held → IsParted (s ++ more) x at held
parted_longer s more at held None n h = h
parted_longer s more at held (Some from) n h = tiles_longer s more from at held h n

log_answers : (log : List Told) (items : List Item) → joined log ≡ besides_pauses items → answers_of log ≡ answers_in items
log_answers log items h = sym (joined-answers none_begun log) ∙ ap answers_in h ∙ besides-answers items

module _ (v : Sound) (values : List ℕ) where
  -- the run of the string so far goes on from a configuration, with these bytes left
  record GoesOnFrom (s : List ℕ) (log : List Told) (r : ℕ) (d : Config) (left : List ℕ) : Type 0 where
    items : List Item
    items_are : joined log ≡ besides_pauses items
    onto : (oracle : Oracle) → Honest oracle items → (more : List ℕ) (q : RunResult) → Ends (move (program_turn v.program) oracle) (moment d (left ++ more) items) q →
        RunEnds (program_turn v.program) oracle (program_entry v.program values) (s ++ more) r q
    spanned : Spanned v.program s log left d

  from_fresh : (s : List ℕ) (log : List Told) (r : ℕ) (d : Config) (left : List ℕ) → Fresh v values s log r d left → Spanned v.program s log left d → GoesOnFrom s log r d left
  from_fresh s log r d left f sp = record {
    items = [];
    items_are = ap joined f.log_is;
    onto = λ oracle h more q e.
        subst (λ (l : List ℕ). RunEnds (program_turn v.program) oracle (program_entry v.program values) (l ++ more) r q) (sym f.string)
        (subst (λ (n : ℕ). RunEnds (program_turn v.program) oracle (program_entry v.program values) more n q) (sym f.resumes)
        (subst (λ (c : Config). RunEnds (program_turn v.program) oracle c more 0 q) f.config_is
        (subst (λ (l : List ℕ). Ends (move (program_turn v.program) oracle) (moment d (l ++ more) []) q) f.left_is e)));
    spanned = sp;
  }

  -- a log's run is a run under each oracle that gives its answers
  under : (s : List ℕ) (log : List Told) (r : ℕ) (finish : Finish) (x : RunOf v values s log r finish) (oracle : Oracle) → Honest oracle x.result.last.items →
      RunEnds (program_turn v.program) oracle (program_entry v.program values) s r x.result
  under s log r finish x oracle h = (x.ran.0, agree_for (program_turn v.program) (by_list (answers_of log)) oracle x.ran.0 _ x.result h x.ran.1)

  from_waiting : (s : List ℕ) (log : List Told) (r : ℕ) (d : Config) → (x : EndsAt v values s log r Waiting d) → x.run.result.last.rest ≡ [] → GoesOnFrom s log r d []
  from_waiting s log r d x none = record {
    items = x.run.result.last.items;
    items_are = x.run.items;
    onto = λ oracle h more q e.
        (let last : Stage = x.run.result.last in
        let there : followed last more ≡ moment d more last.items =
        ap (λ (c : Config). record { config = c; rest = last.rest ++ more; items = last.items; resumes = last.resumes }) x.config_is
        ∙ ap (λ (l : List ℕ). record { config = d; rest = l ++ more; items = last.items; resumes = last.resumes }) none
        ∙ ap (λ (n : ℕ). record { config = d; rest = more; items = last.items; resumes = n }) x.run.passed in
        let law = onward (program_turn v.program) oracle (program-steady v.program) (program-resumable v.program)
        (record { config = program_entry v.program values; rest = s; items = []; resumes = r }) more x.run.result q (under s log r Waiting x.run oracle h) in
        law.1 (waits x.run.result more q oracle x.run.result.finish x.run.finish_is
        (subst (λ (z : Stage). Ends (move (program_turn v.program) oracle) z q) (sym there) e)));
    spanned = subst (λ (l : List ℕ). Spanned v.program s log l d) none x.spanned;
  }
    where
      waits : (x : RunResult) (more : List ℕ) (q : RunResult) (oracle : Oracle) (f : Finish) → f ≡ Waiting → Ends (move (program_turn v.program) oracle) (followed x.last more) q →
          Onward (program_turn v.program) oracle x more q f
      waits x more q oracle Waiting h e = e
      waits x more q oracle (Paused code) h e = cc
      waits x more q oracle (Failed code) h e = cc

  from_resumed : (s : List ℕ) (log : List Told) (r : ℕ) (d : Config) (left : List ℕ) → Resumed v values s log r d left → GoesOnFrom s log r d left
  from_resumed s log r d left y =
      let x = y.before.run in
      let last : Stage = x.result.last in record {
        items = last.items;
        items_are = x.items;
        onto = λ oracle h more q e. (
            let longer : RunEnds (program_turn v.program) oracle (program_entry v.program values) (s ++ more) y.earlier (followed_result x.result more) =
            (onward (program_turn v.program) oracle (program-steady v.program) (program-resumable v.program)
            (record { config = program_entry v.program values; rest = s; items = []; resumes = y.earlier }) more x.result (followed_result x.result more) (under s log y.earlier (Paused y.code) x oracle h)).1
            (pauses x.result more oracle x.result.finish y.code x.finish_is) in
            let turn : program_turn v.program last.config (last.rest ++ more) ≡ Stops y.code d =
            kept (program_turn v.program last.config last.rest) (program_turn v.program last.config (last.rest ++ more)) (length last.rest) y.code d y.before.leads (program-steady v.program last.config last.rest more) in
            let there : moment d (left ++ more) last.items ≡ record (followed last more) { config = d } =
            ap (λ (l : List ℕ). record { config = d; rest = l ++ more; items = last.items; resumes = 0 }) (sym y.before.left_is)
            ∙ ap (λ (n : ℕ). record { config = d; rest = last.rest ++ more; items = last.items; resumes = n }) (sym x.passed) in
            subst (λ (n : ℕ). RunEnds (program_turn v.program) oracle (program_entry v.program values) (s ++ more) n q) (sym y.resumes)
            ((one_more_resume (program_turn v.program) oracle (record { config = program_entry v.program values; rest = s ++ more; items = []; resumes = y.earlier }) (followed_result x.result more) q longer).1
            (stops (followed_result x.result more) q oracle x.result.finish y.code x.finish_is d turn (subst (λ (z : Stage). Ends (move (program_turn v.program) oracle) z q) there e)))
            );
        spanned = y.before.spanned;
      }
    where
      pauses : (x : RunResult) (more : List ℕ) (oracle : Oracle) (f : Finish) (code : ℕ) → f ≡ Paused code → Onward (program_turn v.program) oracle x more (followed_result x more) f
      pauses x more oracle Waiting code h = cc
      pauses x more oracle (Paused c) code h = refl
      pauses x more oracle (Failed c) code h = refl

      kept : (t u : Turn) (n code : ℕ) (d : Config) → t ≡ Stops code d → Keeps n t u → u ≡ Stops code d
      kept t u n code d e k = subst (λ (x : Turn). Keeps n x u) e k

      stops : (x q : RunResult) (oracle : Oracle) (f : Finish) (code : ℕ) → f ≡ Paused code → (d : Config) → program_turn v.program x.last.config x.last.rest ≡ Stops code d →
          Ends (move (program_turn v.program) oracle) (record x.last { config = d }) q → OnceResumed (program_turn v.program) oracle x q f
      stops x q oracle Waiting code h d t e = cc
      stops x q oracle (Paused c) code h d t e = (d, (let same : c ≡ code = cc in subst (λ (n : ℕ). program_turn v.program x.last.config x.last.rest ≡ Stops n d) (sym same) t), e)
      stops x q oracle (Failed c) code h d t e = cc

  module _ (good : IsRunnable v) (s : List ℕ) (log : List Told) (r : ℕ) (d : Config) (left more w : List ℕ) (g : GoesOnFrom s log r d left) (fits : Fits v.program d) (w_is : w ≡ left ++ more)
      (events : List Told) (result : RunResult) (ran : RunEnds (program_turn v.program) (by_list (answers_of events)) d w 0 result) where
    whole : RunResult
    whole = behind_result g.items result

    earlier : List (Option ℕ)
    earlier = begun_after none_begun log

    -- the whole run
    goes_on : RunEnds (program_turn v.program) (by_list (answers_of (log ++ events))) (program_entry v.program values) (s ++ more) r (behind_result g.items result)
    goes_on =
        let known : answers_of log ≡ answers_in g.items = log_answers log g.items g.items_are in
        let counted : length (answers_of log) ≡ count_by is_call g.items = ap length known ∙ answers_count g.items in
        let oracle : Oracle = by_list (answers_of log ++ answers_of events) in
        let behind_run : run_for (move (program_turn v.program) oracle) ran.0 (behind g.items (moment d w [])) ≡ Some (behind_result g.items result) =
        behind_for (program_turn v.program) (by_list (answers_of events)) oracle g.items (λ xs code. behind_list (answers_of log) (answers_of events) g.items xs code counted) ran.0 (moment d w []) result ran.1 in
        let from : Ends (move (program_turn v.program) oracle) (moment d (left ++ more) g.items) (behind_result g.items result) =
        subst (λ (l : List ℕ). Ends (move (program_turn v.program) oracle) (moment d l g.items) (behind_result g.items result)) w_is
        (subst (λ (l : List Item). Ends (move (program_turn v.program) oracle) (moment d w l) (behind_result g.items result)) (append-nil g.items) (ran.0, behind_run)) in
        subst (λ (a : List ℕ). RunEnds (program_turn v.program) (by_list a) (program_entry v.program values) (s ++ more) r (behind_result g.items result)) (sym (answers_of-more log events))
        (g.onto oracle (honest_list (answers_of log ++ answers_of events) (answers_of events) g.items (ap (λ (l : List ℕ). l ++ answers_of events) known)) more (behind_result g.items result) from)

    joined_end : JoinedEnd v good (begun_after none_begun log) d.at w result
    joined_end = joins_for v good (begun_after none_begun log) d.at w (by_list (answers_of events)) ran.0 (moment d w []) result ran.1 (record {
      items = refl;
      begun_is = g.spanned.begun;
      place = refl;
      least = omega arith;
      fits = fits;
      right = g.spanned.right;
      resumes = refl;
    })

    str_is : drop d.at (s ++ more) ≡ w
    str_is = drop-append-le d.at s more g.spanned.within ∙ ap (λ (l : List ℕ). l ++ more) g.spanned.left_is ∙ sym w_is

    parts_end : PartedEnd v good (begun_after none_begun log) d.at w (s ++ more) (λ i. parts_after i [] log) str_is result
    parts_end = parts_for v good (begun_after none_begun log) d.at w (s ++ more) (λ i. parts_after i [] log) str_is (by_list (answers_of events)) ran.0 (moment d w []) result ran.1 (record {
      joining = record {
        items = refl;
        begun_is = g.spanned.begun;
        place = refl;
        least = omega arith;
        fits = fits;
        right = g.spanned.right;
        resumes = refl;
      };
      each = λ i. parted_first (s ++ more) d.at (parts_after i [] log) (slot d.spans i) (λ from x. fits.open_below i from (unslot d.spans i from x))
          (parted_longer s more d.at (parts_after i [] log) (slot d.spans i) g.spanned.within (g.spanned.parted i));
      left = str_is;
    })

    -- all that was due was asked
    module _ (due : events ≡ pieces result.last.items d.at result w) where
      run_of : (finish : Finish) → result.finish ≡ finish → RunOf v values (s ++ more) (log ++ events) r finish
      run_of finish f = record {
        result = behind_result g.items result;
        ran = goes_on;
        passed = joined_end.resumes;
        finish_is = f;
        items = joined_from-more none_begun log events
            ∙ ap (λ (l : List Item). l ++ joined_from (begun_after none_begun log) events) g.items_are
            ∙ ap (λ (l : List Told). besides_pauses g.items ++ joined_from (begun_after none_begun log) l) due
            ∙ ap (λ (l : List Item). besides_pauses g.items ++ l) joined_end.items
            ∙ sym (besides-more g.items result.last.items);
      }

      begun_of : (result.finish ≡ Waiting) ⊎ ((code : ℕ) × (result.finish ≡ Paused code)) → Begun (begun_after none_begun (log ++ events)) result.last.config.spans result.last.config.at
      begun_of h =
          subst (λ (l : List (Option ℕ)). Begun l result.last.config.spans result.last.config.at)
          (ap (λ (l : List Told). begun_after (begun_after none_begun log) l) (sym due) ∙ sym (begun_after-more none_begun log events))
          (joined_end.begun_is h)

all_shut : (n s : ℕ) → slot (replicate n None) s ≡ None
all_shut zero s = refl
all_shut (suc n) zero = refl
all_shut (suc n) (suc s) = all_shut n s

-- at the entry no span is open
spanned_entry : (v : Sound) → IsRunnable v → (values : List ℕ) → Spanned v.program [] [] [] (program_entry v.program values)
spanned_entry v good values = record {
  begun = record { long = refl; each = λ s. all_shut 32 s ∙ sym (ap (earlier_than 0) (all_shut (length v.program.spans) s)) };
  right = good.spans.entry values;
  parted = λ i. subst (λ (x : Option ℕ). IsParted [] x 0 []) (sym (all_shut (length v.program.spans) i)) refl;
  left_is = refl;
  within = omega arith;
}

spanned_fresh : (v : Sound) → IsRunnable v → (values s : List ℕ) (log : List Told) (r : ℕ) (d : Config) (left : List ℕ) → Fresh v values s log r d left → Spanned v.program s log left d
spanned_fresh v good values s log r d left f =
    subst (λ (x : List ℕ). Spanned v.program x log left d) (sym f.string)
    (subst (λ (l : List Told). Spanned v.program [] l left d) (sym f.log_is)
    (subst (λ (x : List ℕ). Spanned v.program [] [] x d) (sym f.left_is)
    (subst (Spanned v.program [] [] []) (sym f.config_is) (spanned_entry v good values))))

-- a new parser stands for the empty string
pub stands_new : (v : Sound) (values : List ℕ) → Stands (begun v values) values [] [] 0 []
stands_new v values = inl (record { string = refl; log_is = refl; resumes = refl; config_is = refl; left_is = refl })

-- behind a pause, once it is resumed
pub stands_resumed : (v : Sound) (values s : List ℕ) (log : List Told) (r code next : ℕ) (left : List ℕ) (d : Config) →
    StandsAt v values s log r left d (stand.Paused code next) → StandsAt v values s log (suc r) left (resumed d next) stand.Ready
stands_resumed v values s log r code next left d h = inr (record { earlier = r; code = code; resumes = refl; before = h.1 })

over_waits : (turn : Config → List ℕ → Turn) (oracle : Oracle) (s : Stage) (t : Turn) (r : RunResult) → move_by oracle s t ≡ Over r → r.finish ≡ Waiting → r.last.rest ≡ []
over_waits turn oracle s (Goes d k items) r e h = cc
over_waits turn oracle s (Asks code value next) r e h = cc
over_waits turn oracle s (Rests d) r e h = (let same : record { finish = Waiting; last = record { config = d; rest = []; items = s.items; resumes = s.resumes } } ≡ r = cc in sym (ap (λ (x : RunResult). x.last.rest) same))
over_waits turn oracle s (Stops code d) r e h = go s.resumes e
  where
    go : (n : ℕ) → pass s code d n ≡ Over r → r.last.rest ≡ []
    go zero q =
        (let x : RunResult = record { finish = Paused code; last = telling s (item.Pause code s.config.at ∷ []) s.config s.rest } in
        let same : x ≡ r = cc in let f : Paused code ≡ Waiting = ap (λ (y : RunResult). y.finish) same ∙ h in cc)
    go (suc n) q = cc
over_waits turn oracle s (Fails code) r e h =
    (let x : RunResult = record { finish = Failed code; last = s } in let same : x ≡ r = cc in let f : Failed code ≡ Waiting = ap (λ (y : RunResult). y.finish) same ∙ h in cc)

-- a run that waits has taken all bytes
waits_rest : (turn : Config → List ℕ → Turn) (oracle : Oracle) (n : ℕ) (s : Stage) (r : RunResult) → run_for (move turn oracle) n s ≡ Some r → r.finish ≡ Waiting → r.last.rest ≡ []
waits_rest turn oracle zero s r p h = cc
waits_rest turn oracle (suc n) s r p h = go (λ d q. waits_rest turn oracle n d r q h) (move turn oracle s) refl p
  where
    go : ((d : Stage) → run_for (move turn oracle) n d ≡ Some r → r.last.rest ≡ []) → (v : Move Stage RunResult) → move turn oracle s ≡ v → then (run_for (move turn oracle) n) v ≡ Some r → r.last.rest ≡ []
    go f (On d) e q = f d q
    go f (Over x) e q = (let same : x ≡ r = cc in over_waits turn oracle s (turn s.config s.rest) r (e ∙ ap Over same) h)

-- a piece's answer is no part of its item
joined-answer : (begun : List (Option ℕ)) (xs : List Told) (span at : ℕ) (part : List ℕ) (last : Bool) (a b : ℕ) →
    joined_from begun (xs ++ Pieced span at part last a ∷ []) ≡ joined_from begun (xs ++ Pieced span at part last b ∷ [])
joined-answer begun xs span at part last a b =
    joined_from-more begun xs (Pieced span at part last a ∷ []) ∙ ap (λ (l : List Item). joined_from begun xs ++ l) (one last)
    ∙ sym (joined_from-more begun xs (Pieced span at part last b ∷ []))
  where
    one : (last : Bool) → joined_from (begun_after begun xs) (Pieced span at part last a ∷ []) ≡ joined_from (begun_after begun xs) (Pieced span at part last b ∷ [])
    one true = refl
    one false = refl

module _ (v : Sound) (good : IsRunnable v) (values s : List ℕ) (log : List Told) (r : ℕ) (d : Config) (left more w : List ℕ)
    (g : GoesOnFrom v values s log r d left) (fits : Fits v.program d) (w_is : w ≡ left ++ more) where
  module _ (events : List Told) (result : RunResult) (ran : RunEnds (program_turn v.program) (by_list (answers_of events)) d w 0 result) where
    -- the spans where the feed waits or pauses
    ends_at : (e : Config) (finish : Finish) → events ≡ pieces result.last.items d.at result w → Comes e result finish → ((finish ≡ Waiting) ⊎ ((code : ℕ) × (finish ≡ Paused code))) →
        Spanned v.program (s ++ more) (log ++ events) result.last.rest e
    ends_at e finish due c h =
        let pe = parts_end v values good s log r d left more w g fits w_is events result ran in
        let str : drop d.at (s ++ more) ≡ w = str_is v values good s log r d left more w g fits w_is events result ran in
        let l1 : length (drop d.at (s ++ more)) ≡ length (s ++ more) - d.at = length-drop d.at (s ++ more) in
        let l2 : length (s ++ more) ≡ length s + length more = length-append s more in
        let l3 : length (drop d.at (s ++ more)) ≡ length w = ap length str in
        let j = joined_end v values good s log r d left more w g fits w_is events result ran in
        let how : (result.finish ≡ Waiting) ⊎ ((code : ℕ) × (result.finish ≡ Paused code)) = elim h [ inl a ↦ inl (c.finish_is ∙ a) | inr a ↦ inr (a.0, c.finish_is ∙ a.1) ] in
        subst (Spanned v.program (s ++ more) (log ++ events) result.last.rest) c.config_is (record {
          begun = begun_of v values good s log r d left more w g fits w_is events result ran due how;
          right = j.right;
          parted = λ i. subst (IsParted (s ++ more) (slot result.last.config.spans i) result.last.config.at)
              (ap (λ (l : List Told). parts_after i (parts_after i [] log) l) (sym due) ∙ sym (parts_after-more i [] log events)) (pe.each how i);
          left_is = pe.left;
          within = (let a : result.last.config.at ≤ d.at + length w = pe.within in let b : d.at ≤ length s = g.spanned.within in omega arith);
        })

    -- where not all was asked
    prefix_of : (xs ys : List Told) → joined_from (begun_after none_begun log) events ≡ joined_from (begun_after none_begun log) xs →
        pieces result.last.items d.at result w ≡ xs ++ ys → PrefixOf v values (s ++ more) (log ++ events) r
    prefix_of xs ys same due =
        let begun : List (Option ℕ) = begun_after none_begun log in
        let j = joined_end v values good s log r d left more w g fits w_is events result ran in
        let tail : List Item = joined_from (begun_after begun xs) ys in
        let all : besides_pauses result.last.items ≡ joined_from begun events ++ tail =
        sym j.items ∙ ap (joined_from begun) due ∙ joined_from-more begun xs ys ∙ ap (λ (l : List Item). l ++ tail) (sym same) in record {
          result = behind_result g.items result;
          ran = goes_on v values good s log r d left more w g fits w_is events result ran;
          more = tail;
          items = besides-more g.items result.last.items
              ∙ ap (λ (l : List Item). besides_pauses g.items ++ l) all
              ∙ sym (append_assoc (besides_pauses g.items) (joined_from begun events) tail)
              ∙ ap (λ (l : List Item). (l ++ joined_from begun events) ++ tail) (sym g.items_are)
              ∙ ap (λ (l : List Item). l ++ tail) (sym (joined_from-more none_begun log events));
        }

    -- by how the feed ended
    stands_by : {View : Type 0} (old new : Shown View) (e : Config) (x : Ended) (st : Stand) (before reason : List ℕ) (o : Outcome) →
        IsEnded v.program e result (pieces result.last.items d.at result w) events old new x → Tells d e before x st reason o →
        (unread : List ℕ) × StandsAt v values (s ++ more) (log ++ events) r unread e st
    unfolding run_of
    stands_by old new e ended.Waits st before reason o h t = (
      [],
      subst (StandsAt v values (s ++ more) (log ++ events) r [] e) (sym t.0) (
        record {
          run = run_of v values good s log r d left more w g fits w_is events result ran h.0 Waiting h.1.finish_is;
          config_is = h.1.config_is;
          spanned = ends_at e Waiting h.0 h.1 (inl refl);
        },
        refl,
      ),
    )
    stands_by old new e (ended.Paused code next why) st before reason o h t =
        let sp : Spanned v.program (s ++ more) (log ++ events) result.last.rest e = ends_at e (Paused code) h.0 h.1 (inr (code, refl)) in
        let run = run_of v values good s log r d left more w g fits w_is events result ran h.0 (Paused code) h.1.finish_is in
        let leads : program_turn v.program e result.last.rest ≡ Stops code (resumed e next) = turn_at v.program e result.last.rest (Pause code why.now next) h.3 in (
          result.last.rest,
          subst (StandsAt v values (s ++ more) (log ++ events) r result.last.rest e) (sym t.0) (
            record { run = run; config_is = h.1.config_is; spanned = sp },
            record {
              run = run;
              leads = subst (λ (c : Config). program_turn v.program c result.last.rest ≡ Stops code (resumed e next)) (sym h.1.config_is) leads;
              left_is = refl;
              spanned = record {
                begun = sp.begun;
                right = good.spans.kept e (resumed e next) result.last.rest sp.right (subst (λ (z : Turn). LeadsOnto z (resumed e next)) (sym leads) refl);
                parted = sp.parted;
                left_is = sp.left_is;
                within = sp.within;
              };
            },
          ),
        )
    stands_by old new e (ended.Failed code why) st before reason o h t = (
      [],
      subst (StandsAt v values (s ++ more) (log ++ events) r [] e) (sym t.0) (record {
        run = run_of v values good s log r d left more w g fits w_is events result ran h.0 (Failed code) h.1.finish_is;
        config_is = h.1.config_is;
      }),
    )
    stands_by old new e (ended.Stopped answer) st before reason o h t =
        let begun : List (Option ℕ) = begun_after none_begun log in (
          [],
          subst (StandsAt v values (s ++ more) (log ++ events) r [] e) (sym t.0)
              (prefix_of (h.before ++ Pieced h.span h.from h.part h.last 0 ∷ []) h.after
              (ap (joined_from begun) h.events_are ∙ joined-answer begun h.before h.span h.from h.part h.last answer 0)
              (h.due_is ∙ sym (append_assoc h.before (Pieced h.span h.from h.part h.last 0 ∷ []) h.after))),
        )
    stands_by old new e ended.Out st before reason o h t =
        ([], subst (StandsAt v values (s ++ more) (log ++ events) r [] e) (sym t.0) (prefix_of events (h.0.question ∷ h.0.after) refl h.0.due_is))

-- the run that a parser stands for, with its items
record FromItems (v : Sound) (values s : List ℕ) (log : List Told) (r : ℕ) (d : Config) (left : List ℕ) (items : List Item) : Type 0 where
  from : GoesOnFrom v values s log r d left
  items_is : from.items ≡ items

from_items : (v : Sound) → IsRunnable v → (values s : List ℕ) (log : List Told) (r : ℕ) (d : Config) (left : List ℕ) (st : Stand) → Runs st → (h : StandsAt v values s log r left d st) →
    FromItems v values s log r d left (stood_items v values s log r left d st h)
unfolding from_fresh from_resumed from_waiting
from_items v good values s log r d left stand.Ready h (inl f) = record { from = from_fresh v values s log r d left f (spanned_fresh v good values s log r d left f); items_is = refl }
from_items v good values s log r d left stand.Ready h (inr f) = record { from = from_resumed v values s log r d left f; items_is = refl }
from_items v good values s log r d left stand.Waiting h f =
    subst (λ (l : List ℕ). FromItems v values s log r d l f.0.run.result.last.items) (sym f.1) (record {
      from = from_waiting v values s log r d f.0
          (waits_rest (program_turn v.program) (by_list (answers_of log)) f.0.run.ran.0 _ f.0.run.result f.0.run.ran.1 f.0.run.finish_is);
      items_is = refl;
    })
from_items v good values s log r d left (stand.Paused code next) h f = absurd h
from_items v good values s log r d left (stand.Failed code) h f = absurd h
from_items v good values s log r d left (stand.Stopped answer) h f = absurd h
from_items v good values s log r d left (stand.Refused answer) h f = absurd h
from_items v good values s log r d left stand.Unsafe h f = absurd h
from_items v good values s log r d left stand.Spent h f = absurd h
from_items v good values s log r d left stand.Finished h f = absurd h

-- a feed that runs
stands_adds : {View : Type 0} (allows : View → Told → Type 0) (next : View → Told → View) (a b : Shows) (w : List ℕ) (old new : Shown View) (n : ℕ) (o : Outcome) →
    IsRunnable a.program → Fits a.program.program a.config → Ran allows next a b w old new n o → FeedAdds allows next a b w old new o
unfolding goes_on
stands_adds allows next a b w old new n o good fits ran values s log r left more runs w_is h =
    let f = ran.fed in
    let fi = from_items a.program good values s log r a.config left a.stand runs h in
    let g = fi.from in
    let st = stands_by a.program good values s log r a.config left more w g fits w_is
    f.events f.result f.ran old new b.config ran.ended b.stand a.reason b.reason o f.ended ran.tells in
    let j = joined_end a.program values good s log r a.config left more w g fits w_is f.events f.result f.ran in
    record {
      program = ran.program;
      events = f.events;
      went = f.went;
      result = f.result;
      ran = f.ran;
      ended = ran.ended;
      ended_is = f.ended;
      tells = ran.tells;
      whole = subst (λ (l : List Item). RunEnds (program_turn a.program.program) (by_list (answers_of (log ++ f.events))) (program_entry a.program.program values) (s ++ more) r (behind_result l f.result)) fi.items_is
          (goes_on a.program values good s log r a.config left more w g fits w_is f.events f.result f.ran);
      earlier = g.items_are ∙ ap besides_pauses fi.items_is;
      joins = j.items;
      spanned = g.spanned;
      input = str_is a.program values good s log r a.config left more w g fits w_is f.events f.result f.ran;
      place = (parts_end a.program values good s log r a.config left more w g fits w_is f.events f.result f.ran).within;
      unread = st.0;
      stands = subst (λ (v : Sound). StandsAt v values (s ++ more) (log ++ f.events) r st.0 b.config b.stand) (sym ran.program) st.1;
    }

-- where a feed runs, this is what it does
ran_of : {View : Type 0} (allows : View → Told → Type 0) (next : View → Told → View) (a b : Shows) (w : List ℕ) (old new : Shown View) (n : ℕ) (o : Outcome) (st : Stand) →
    Runs st → IsFedAt allows next a b w old new n o st → Ran allows next a b w old new n o
ran_of allows next a b w old new n o stand.Ready h f = f
ran_of allows next a b w old new n o stand.Waiting h f = f
ran_of allows next a b w old new n o (stand.Paused code onto) h f = absurd h
ran_of allows next a b w old new n o (stand.Failed code) h f = absurd h
ran_of allows next a b w old new n o (stand.Stopped answer) h f = absurd h
ran_of allows next a b w old new n o (stand.Refused answer) h f = absurd h
ran_of allows next a b w old new n o stand.Unsafe h f = absurd h
ran_of allows next a b w old new n o stand.Spent h f = absurd h
ran_of allows next a b w old new n o stand.Finished h f = absurd h

-- a feed adds to what the parser stands for
pub feed_adds : {View : Type 0} (allows : View → Told → Type 0) (next : View → Told → View) (a b : Shows) (w : List ℕ) (old new : Shown View) (n : ℕ) (o : Outcome) →
    IsFed allows next a b w old new n o → IsRunnable a.program → IsKept a → FeedAdds allows next a b w old new o
feed_adds allows next a b w old new n o f good kept values s log r left more runs w_is h =
    stands_adds allows next a b w old new n o good kept.fits (ran_of allows next a b w old new n o a.stand runs f)
    values s log r left more runs w_is h

resume_by : (a b : Shows) (result : Result (Unit {0}) NotPaused) (code next : ℕ) (st : Stand) → a.stand ≡ st → st ≡ stand.Paused code next → IsResumedAt a b result st →
    (values s : List ℕ) (log : List Told) (r : ℕ) (left : List ℕ) → Stands a values s log r left → Stands b values s log (suc r) left
resume_by a b result code next stand.Ready e n h values s log r left x = cc
resume_by a b result code next stand.Waiting e n h values s log r left x = cc
resume_by a b result code next (stand.Paused code' next') e n h values s log r left x =
    subst (λ (q : Shows). Stands q values s log (suc r) left) (sym h.0)
    (stands_resumed a.program values s log r code' next' left a.config (subst (StandsAt a.program values s log r left a.config) e x))
resume_by a b result code next (stand.Failed code') e n h values s log r left x = cc
resume_by a b result code next (stand.Stopped answer) e n h values s log r left x = cc
resume_by a b result code next (stand.Refused answer) e n h values s log r left x = cc
resume_by a b result code next stand.Unsafe e n h values s log r left x = cc
resume_by a b result code next stand.Spent e n h values s log r left x = cc
resume_by a b result code next stand.Finished e n h values s log r left x = cc

-- a resume keeps it
pub resume_keeps : (a b : Shows) (result : Result (Unit {0}) NotPaused) → IsResumed a b result → ResumeKeeps a b
resume_keeps a b result h code next e values s log r left x = resume_by a b result code next a.stand refl e h values s log r left x
