-- A machine with a rank table has its runs as a function.
use Rattle.std.proofs.Common.{subst, ◌≡◌, ℕ, zero, suc, ◌<◌, List, [], ◌∷◌, Bool, true, false, cond, refl, sym, arith, get_or, eqb, map}
use Rattle.std.specs.Prelude.{◌^◌, ◌&&◌, nat_lt, filter, count_by}
use Rattle.std.proofs.lemmas.Bool.{eq-eqb, eqb-true, ltb-true, lt-ltb}
use Rattle.pp_event.specs.declared.script.ScriptEntry.{ScriptEntry}
use Rattle.pp_event.specs.declared.script.ScriptTo.{ScriptTo}
use Rattle.pp_event.specs.declared.script.ScriptTo.TheVariants.{Code}
use Rattle.pp_event.specs.Chain.{Ends}
use Rattle.pp_event.specs.Run.{Config, RunResult, Waiting, RunEnds, move, start}
use Rattle.pp_event.specs.Steady.{IsSteady}
use Rattle.pp_event.specs.Loops.{Moves, IsRankTable, AreBytes}
use Rattle.pp_event.specs.Script.{answers_to, is_to}
use Rattle.pp_event.specs.Answers.{by_list, by_script, is_call, is_call_of}
use Rattle.pp_event.specs.Runs.{Answering, Runs, AreRuns, answers_fit, script_fits, are_bytes}
use Rattle.pp_event.proofs.LoopLaws.{run_ends}

and-both : (a b : Bool) → a && b ≡ true → (a ≡ true) × (b ≡ true)
and-both true b h = (refl, h)
and-both false b h = cc

both-and : (a b : Bool) → a ≡ true → b ≡ true → a && b ≡ true
both-and a b h k = subst (λ (x : Bool). x && b ≡ true) (sym h) k

bytes_are : (bytes : List ℕ) → are_bytes bytes ≡ true → AreBytes bytes
bytes_are [] h i = omega arith
bytes_are (b ∷ bytes) h zero = ltb-true b 256 (and-both (nat_lt b 256) (are_bytes bytes) h).0
bytes_are (b ∷ bytes) h (suc i) = bytes_are bytes (and-both (nat_lt b 256) (are_bytes bytes) h).1 i

are_bytes-of : (bytes : List ℕ) → AreBytes bytes → are_bytes bytes ≡ true
are_bytes-of [] h = refl
are_bytes-of (b ∷ bytes) h = both-and (nat_lt b 256) (are_bytes bytes) (lt-ltb b 256 (h 0)) (are_bytes-of bytes (λ i. h (suc i)))

module _ (m : Moves) (rank : ℕ → ℕ → ℕ) (table : IsRankTable m rank) (steady : IsSteady m.turn) (a : Answering) where
  test : Config → a.Data → List ℕ → Bool
  test c answers bytes = eqb c.node m.entry && (a.fits answers && are_bytes bytes)

  ended : (c : Config) (answers : a.Data) (bytes : List ℕ) (resumes : ℕ) → eqb c.node m.entry && (a.fits answers && are_bytes bytes) ≡ true →
      (q : RunResult) × Ends (move m.turn (a.oracle answers)) (start c bytes resumes) q
  ended c answers bytes resumes e =
      let first = and-both (eqb c.node m.entry) (a.fits answers && are_bytes bytes) e in
      let second = and-both (a.fits answers) (are_bytes bytes) first.1 in
      run_ends m rank table steady (a.oracle answers) (a.bounded answers second.0) c bytes resumes (eqb-true c.node m.entry first.0) (bytes_are bytes second.1)

  run_by : (c : Config) (answers : a.Data) (bytes : List ℕ) (resumes : ℕ) (b : Bool) → eqb c.node m.entry && (a.fits answers && are_bytes bytes) ≡ b → RunResult
  run_by c answers bytes resumes true e = (ended c answers bytes resumes e).0
  run_by c answers bytes resumes false e = record { finish = Waiting; last = start c bytes resumes }

  run_by-ends : (c : Config) (answers : a.Data) (bytes : List ℕ) (resumes : ℕ) (b : Bool) (e : eqb c.node m.entry && (a.fits answers && are_bytes bytes) ≡ b) → b ≡ true →
      RunEnds m.turn (a.oracle answers) c bytes resumes (run_by c answers bytes resumes b e)
  unfolding run_by
  run_by-ends c answers bytes resumes true e h = (ended c answers bytes resumes e).1
  run_by-ends c answers bytes resumes false e h = cc

  -- there is a function that gives the runs from the entry
  pub runs : (run : Runs a) × AreRuns m a run
  runs = (
    (λ c answers bytes resumes. run_by c answers bytes resumes (eqb c.node m.entry && (a.fits answers && are_bytes bytes)) refl),
    (λ c answers bytes resumes e f h.
        run_by-ends c answers bytes resumes (eqb c.node m.entry && (a.fits answers && are_bytes bytes)) refl
        (both-and (eqb c.node m.entry) (a.fits answers && are_bytes bytes) (eq-eqb c.node m.entry e) (both-and (a.fits answers) (are_bytes bytes) f (are_bytes-of bytes h)))),
  )

pub list_bounded : (answers : List ℕ) → answers_fit answers ≡ true → (k : ℕ) → get_or answers k 0 < 2 ^ 32
list_bounded [] h k = omega arith
list_bounded (n ∷ answers) h zero = ltb-true n (2 ^ 32) (and-both (nat_lt n (2 ^ 32)) (answers_fit answers) h).0
list_bounded (n ∷ answers) h (suc k) = list_bounded answers (and-both (nat_lt n (2 ^ 32)) (answers_fit answers) h).1 k

-- answers by a list
abbrev pub by_lists : Answering
by_lists = record {
  Data = List ℕ;
  oracle = by_list;
  fits = answers_fit;
  bounded = λ answers h items code. list_bounded answers h (count_by is_call items);
}

fit-if : (e : ScriptEntry) (entries : List ScriptEntry) (to : ScriptTo) (b : Bool) → nat_lt e.answer (2 ^ 32) ≡ true → answers_fit (answers_to entries to) ≡ true →
    answers_fit (map (λ (x : ScriptEntry). x.answer) (cond b (e ∷ filter (λ (x : ScriptEntry). is_to x.to to) entries) (filter (λ (x : ScriptEntry). is_to x.to to) entries))) ≡ true
fit-if e entries to true h k = both-and (nat_lt e.answer (2 ^ 32)) (answers_fit (answers_to entries to)) h k
fit-if e entries to false h k = k

pub script_answers-fit : (entries : List ScriptEntry) (to : ScriptTo) → script_fits entries ≡ true → answers_fit (answers_to entries to) ≡ true
script_answers-fit [] to h = refl
script_answers-fit (e ∷ entries) to h =
    let both = and-both (nat_lt e.answer (2 ^ 32)) (script_fits entries) h in
    fit-if e entries to (is_to e.to to) both.0 (script_answers-fit entries to both.1)

-- answers by a script
abbrev pub by_scripts : Answering
by_scripts = record {
  Data = List ScriptEntry;
  oracle = by_script;
  fits = script_fits;
  bounded = λ entries h items code. list_bounded (answers_to entries (Code code)) (script_answers-fit entries (Code code) h) (count_by (is_call_of code) items);
}
