-- What a connection tells, however its string is cut into records.
use Rattle.std.specs.Prelude.{◌≡◌, List, [], ◌∷◌, ◌++◌, ℕ, Bool, true, false, All, drop, fold, length}
use Rattle.pp_capture.specs.Spelling.{Record, Begins}
use Rattle.pp_event.specs.declared.item.Item.{Item}
use Rattle.pp_event.specs.declared.script.ScriptEntry.{ScriptEntry}
use Rattle.pp_event.specs.Loops.{AreBytes}
use Rattle.pp_event.specs.Runs.{script_fits}
use Rattle.pp_trace.specs.declared.mode.Mode.{Mode}
use Rattle.pp_trace.specs.Coherent.{Coherent}
use Rattle.pp_trace.specs.Connection.{Connection, advanced, carried, unfed}
use Rattle.pp_trace.specs.Step.{step}
use Rattle.pp_trace.specs.Subject.{Subject}

-- the items of a record: those of the run behind it beyond those of the run before it, unless the connection was done
abbrev pub news : Subject → Connection → Record → Bool → List Item
news subject c rec true = []
news subject c rec false = drop (length c.run.items) (advanced subject c rec).run.items

-- each record brings bytes
abbrev pub BringBytes : List Record → Type 0
BringBytes records = All (λ rec. AreBytes (carried rec)) records

module _ (subject : Subject) (mode : Mode) (limit : ℕ) where
  -- how the connection stands behind one record
  abbrev pub next : Connection → Record → Connection
  next c rec = (step subject mode limit c rec).connection

  -- how it stands behind these records
  abbrev pub behind : Connection → List Record → Connection
  behind c records = fold next c records

  -- the items of these records, one after another
  abbrev pub items_told : Connection → List Record → List Item
  items_told c [] = []
  items_told c (rec ∷ later) = news subject c rec c.done ++ items_told (next c rec) later

  -- the items told, all together, are those of the run of the connection's string and resumes
  abbrev pub TellsTheRun : Type 0
  TellsTheRun = (c : Connection) (records : List Record) → Coherent subject c → BringBytes records →
      Coherent subject (behind c records) × (c.run.items ++ items_told c records ≡ (behind c records).run.items)

  -- with other cuts, and the same string and resumes in the end, the same items are told
  abbrev pub CutsChangeNothing : Type 0
  CutsChangeNothing = (c : Connection) (xs ys : List Record) → Coherent subject c → BringBytes xs → BringBytes ys →
      (behind c xs).bytes ≡ (behind c ys).bytes → (behind c xs).resumes ≡ (behind c ys).resumes → items_told c xs ≡ items_told c ys

  -- how a connection stands behind its Begin record and others of its own
  abbrev pub begun_behind : List ℕ → List ScriptEntry → Record → List Record → Connection
  begun_behind values script first later = behind (unfed values script) (first ∷ later)

  -- the items of the run of a connection's string and resumes
  abbrev pub whole_items : Connection → List Item
  whole_items c = (subject.run c.values c.script c.bytes c.resumes).items

  -- from its Begin record on, a connection tells the items of the run of its string and resumes
  abbrev pub TellsAll : Type 0
  TellsAll = (values : List ℕ) (script : List ScriptEntry) (conn : ℕ) (sets entries : List (ℕ × ℕ)) (later : List Record) →
      script_fits script ≡ true → BringBytes later → Coherent subject (begun_behind values script (Begins conn sets entries) later)
      × (items_told (unfed values script) (Begins conn sets entries ∷ later) ≡ whole_items (begun_behind values script (Begins conn sets entries) later))
