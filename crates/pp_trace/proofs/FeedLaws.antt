-- Feeds: a record that feeds nothing tells nothing, and what is asked in a feed is told by the bytes of the string.
use Rattle.std.proofs.Common.{◌≡◌, ℕ, suc, ◌+◌, ◌-◌, ◌≤◌, arith, List, [], ◌∷◌, ◌++◌, Option, Some, None, Bool, true, false, cond, refl, sym, ◌∙◌, ap, subst, map, drop, take, append-nil}
use Rattle.std.specs.Prelude.{flat_map, max, nat_lt}
use Rattle.std.proofs.lemmas.Bool.{le-ltb}
use Rattle.std.proofs.Math.Seq.{drop-length}
use Rattle.std.proofs.lemmas.List.{drop-drop, map-append}
use Rattle.pp_capture.specs.Spelling.{Record, Begins, Carries, Resumes, Finishes, Halts}
use Rattle.pp_event.specs.declared.item.Item.{Item}
use Rattle.pp_event.specs.declared.item.Item.TheVariants as item
use Rattle.pp_event.specs.Run.{Finish, Waiting, Paused, Failed}
use Rattle.pp_event.specs.Loops.{AreBytes}
use Rattle.pp_event.specs.Told.{Told, Pieced}
use Rattle.pp_event.specs.Pieces.{Ask, AskCall, AskPiece, asked, parts, parts_at_end, asks, told_ask, between}
use Rattle.pp_trace.specs.Subject.{Subject, Seen}
use Rattle.pp_trace.specs.Connection.{Connection, advanced, carried, counted}
use Rattle.pp_trace.specs.declared.mode.Mode.{Mode}
use Rattle.pp_trace.specs.Feed.{Step, fed, feed_end, error_end, ask_lines}
use Rattle.pp_trace.specs.Heard.{heard}
use Rattle.pp_trace.specs.Kept.{feed_of, fed_part, fed_unread, CanGoOn}
use Rattle.pp_trace.specs.Growth.{Longer, Grow}
use Rattle.pp_trace.specs.Coherent.{Coherent}

-- the later of two places is not before the second
not_over : (from at : ℕ) → nat_lt (max from at) at ≡ false
not_over from at = le-ltb (max from at) at (omega arith)

-- no part is left where a feed ends at the place where it began
parts_none : (at span : ℕ) (spans : List (Option ℕ)) → parts at at span spans ≡ []
parts_none at span [] = refl
parts_none at span (None ∷ spans) = parts_none at (suc span) spans
parts_none at span (Some from ∷ spans) =
    ap (λ (b : Bool). cond b (AskPiece span from (max from at) at false ∷ parts at at (suc span) spans) (parts at at (suc span) spans)) (not_over from at)
    ∙ parts_none at (suc span) spans

-- nothing is asked there
asks_none : (at : ℕ) (spans : List (Option ℕ)) (finish : Finish) → asks [] at finish at spans ≡ []
asks_none at spans Waiting = parts_none at 0 spans
asks_none at spans (Paused code) = parts_none at 0 spans
asks_none at spans (Failed code) = refl

-- a run that didn't fail has no error line
error_end-open : (finish : Finish) (s : Step) → CanGoOn finish → error_end finish s ≡ s
error_end-open Waiting s o = refl
error_end-open (Paused code) s o = refl
error_end-open (Failed code) s o = absurd o

-- with the run as it was
idle_same : (mode : Mode) (c d : Connection) → CanGoOn c.run.finish →
    fed mode c (record d { run = c.run }) ≡ record { connection = record d { run = c.run; asked = c.asked ++ [] }; lines = [] }
idle_same mode c d o =
    let F : List Item → List Ask → Step = λ news l. feed_end news (heard c.script c.asked l).stop (record {
      connection = record d { run = c.run; asked = c.asked ++ (heard c.script c.asked l).asks };
      lines = flat_map (ask_lines mode d.bytes) (heard c.script c.asked l).asks;
    }) in
    ap (λ (l : List Item). F l (asks l c.run.at c.run.finish c.run.at c.run.spans)) (drop-length c.run.items)
    ∙ ap (F []) (asks_none c.run.at c.run.spans c.run.finish)
    ∙ error_end-open c.run.finish (record { connection = record d { run = c.run; asked = c.asked ++ [] }; lines = [] }) o

-- where the run is as before, nothing is asked and told
pub idle : (mode : Mode) (c d : Connection) → d.run ≡ c.run → CanGoOn c.run.finish →
    fed mode c d ≡ record { connection = record d { asked = c.asked ++ [] }; lines = [] }
idle mode c d e o =
    let same : record d { run = c.run } ≡ d = ap (λ (r : Seen). record d { run = r }) (sym e) in
    subst (λ (x : Connection). fed mode c x ≡ record { connection = record x { asked = c.asked ++ [] }; lines = [] }) same (idle_same mode c d o)

module _ (subject : Subject) (grow : Grow subject.run) where
  same_run : (c : Connection) (bytes : List ℕ) (resumes : ℕ) → Coherent subject c → bytes ≡ c.bytes → resumes ≡ c.resumes →
      subject.run c.values c.script bytes resumes ≡ c.run
  same_run c bytes resumes h e f =
      ap (λ (l : List ℕ). subject.run c.values c.script l resumes) e ∙ ap (λ (n : ℕ). subject.run c.values c.script c.bytes n) f ∙ sym h.run

  held_run : (c : Connection) (part : List ℕ) (resumes code : ℕ) → Coherent subject c → AreBytes (c.bytes ++ part) → c.run.finish ≡ Paused code → resumes ≡ c.resumes →
      subject.run c.values c.script (c.bytes ++ part) resumes ≡ c.run
  held_run c part resumes code h fit e f =
      let l = grow.longer c.values c.script c.bytes part c.resumes h.answers h.bytes fit in
      let m : Longer c.run (subject.run c.values c.script (c.bytes ++ part) c.resumes) c.run.finish =
      subst (λ (x : Seen). Longer x (subject.run c.values c.script (c.bytes ++ part) c.resumes) x.finish) (sym h.run) l in
      let k : subject.run c.values c.script (c.bytes ++ part) c.resumes ≡ c.run =
      subst (Longer c.run (subject.run c.values c.script (c.bytes ++ part) c.resumes)) e m in
      ap (subject.run c.values c.script (c.bytes ++ part)) f ∙ k

  no_feed_by : (c : Connection) (rec : Record) (finish : Finish) → c.run.finish ≡ finish → Coherent subject c → AreBytes (c.bytes ++ carried rec) → feed_of c rec ≡ None → CanGoOn finish →
      (advanced subject c rec).run ≡ c.run
  no_feed_by c (Begins conn sets script) finish e h fit n o = cc
  no_feed_by c (Carries conn part) Waiting e h fit n o = let k : Some part ≡ None = sym (ap (fed_part part) e) ∙ n in cc
  no_feed_by c (Carries conn part) (Paused code) e h fit n o = held_run c part (c.resumes + 0) code h fit e (omega arith)
  no_feed_by c (Carries conn part) (Failed code) e h fit n o = absurd o
  no_feed_by c (Resumes conn) Waiting e h fit n o =
      let none : counted c.run.finish ≡ 0 = ap counted e in
      same_run c (c.bytes ++ []) (c.resumes + counted c.run.finish) h (append-nil c.bytes) (omega (arith, none))
  no_feed_by c (Resumes conn) (Paused code) e h fit n o =
      let k : Some (drop c.run.at c.bytes) ≡ None = sym (ap (fed_unread (drop c.run.at c.bytes)) e) ∙ n in cc
  no_feed_by c (Resumes conn) (Failed code) e h fit n o = absurd o
  no_feed_by c (Finishes conn) finish e h fit n o = same_run c (c.bytes ++ []) (c.resumes + 0) h (append-nil c.bytes) (omega arith)
  no_feed_by c Halts finish e h fit n o = same_run c (c.bytes ++ []) (c.resumes + 0) h (append-nil c.bytes) (omega arith)

  -- a record that feeds nothing leaves the run
  pub no_feed : (c : Connection) (rec : Record) → Coherent subject c → AreBytes (c.bytes ++ carried rec) → feed_of c rec ≡ None → CanGoOn c.run.finish →
      (advanced subject c rec).run ≡ c.run
  no_feed c rec h fit n o = no_feed_by c rec c.run.finish refl h fit n o

  -- and no line comes of a feed
  pub no_lines : (mode : Mode) (c : Connection) (rec : Record) → Coherent subject c → AreBytes (c.bytes ++ carried rec) → feed_of c rec ≡ None → CanGoOn c.run.finish →
      (fed mode c (advanced subject c rec)).lines ≡ []
  no_lines mode c rec h fit n o = ap (λ (s : Step). s.lines) (idle mode c (advanced subject c rec) (no_feed c rec h fit n o) o)

-- the same bytes by the input of the feed and by the string
between-whole : (o : ℕ) (bytes : List ℕ) (at to : ℕ) → o ≤ at → between o (drop o bytes) at to ≡ between 0 bytes at to
between-whole o bytes at to h =
    let size : (to - o) - (at - o) ≡ (to - 0) - (at - 0) = omega (arith, h) in
    let place : o + (at - o) ≡ at - 0 = omega (arith, h) in
    ap (λ (l : List ℕ). take ((to - o) - (at - o)) l) (drop-drop (at - o) o bytes)
    ∙ ap (λ (k : ℕ). take ((to - o) - (at - o)) (drop k bytes)) place
    ∙ ap (λ (k : ℕ). take k (drop (at - 0) bytes)) size

-- so a piece is the same
told_piece : (o : ℕ) (bytes : List ℕ) (span from to : ℕ) (last : Bool) →
    told_ask o (drop o bytes) (AskPiece span from (max from o) to last) ≡ told_ask 0 bytes (AskPiece span from (max from o) to last)
told_piece o bytes span from to last =
    ap (λ (part : List ℕ). Pieced span (max from o) part last 0) (between-whole o bytes (max from o) to (omega arith))

map_cons : {X Y : Type 0} (f g : X → Y) (x : X) (xs : List X) → f x ≡ g x → map f xs ≡ map g xs → map f (x ∷ xs) ≡ map g (x ∷ xs)
map_cons f g x xs e h = ap (λ (y : _). y ∷ map f xs) e ∙ ap (λ (l : List _). g x ∷ l) h

map_cond : {X Y : Type 0} (f g : X → Y) (x : X) (xs : List X) → f x ≡ g x → map f xs ≡ map g xs → (b : Bool) → map f (cond b (x ∷ xs) xs) ≡ map g (cond b (x ∷ xs) xs)
map_cond f g x xs e h true = map_cons f g x xs e h
map_cond f g x xs e h false = h

-- those of the items
told_asked : (o : ℕ) (bytes : List ℕ) (items : List Item) → map (told_ask o (drop o bytes)) (asked o items) ≡ map (told_ask 0 bytes) (asked o items)
told_asked o bytes [] = refl
told_asked o bytes (item.Call code value at values answer ∷ items) =
    map_cons (told_ask o (drop o bytes)) (told_ask 0 bytes) (AskCall code value at values answer) (asked o items) refl (told_asked o bytes items)
told_asked o bytes (item.Span span from to ∷ items) =
    map_cons (told_ask o (drop o bytes)) (told_ask 0 bytes) (AskPiece span from (max from o) to true) (asked o items) (told_piece o bytes span from to true) (told_asked o bytes items)
told_asked o bytes (item.Pause code at ∷ items) = told_asked o bytes items

-- those of the open spans
told_parts : (o : ℕ) (bytes : List ℕ) (at span : ℕ) (spans : List (Option ℕ)) →
    map (told_ask o (drop o bytes)) (parts o at span spans) ≡ map (told_ask 0 bytes) (parts o at span spans)
told_parts o bytes at span [] = refl
told_parts o bytes at span (None ∷ spans) = told_parts o bytes at (suc span) spans
told_parts o bytes at span (Some from ∷ spans) =
    map_cond (told_ask o (drop o bytes)) (told_ask 0 bytes) (AskPiece span from (max from o) at false) (parts o at (suc span) spans)
    (told_piece o bytes span from at false) (told_parts o bytes at (suc span) spans) (nat_lt (max from o) at)

told_at_end : (o : ℕ) (bytes : List ℕ) (at : ℕ) (spans : List (Option ℕ)) (finish : Finish) →
    map (told_ask o (drop o bytes)) (parts_at_end o at spans finish) ≡ map (told_ask 0 bytes) (parts_at_end o at spans finish)
told_at_end o bytes at spans Waiting = told_parts o bytes at 0 spans
told_at_end o bytes at spans (Paused code) = told_parts o bytes at 0 spans
told_at_end o bytes at spans (Failed code) = refl

-- what is asked in a feed that begins at o, told by the bytes from o on, is what the string tells
pub told_whole : (o : ℕ) (bytes : List ℕ) (items : List Item) (finish : Finish) (at : ℕ) (spans : List (Option ℕ)) →
    map (told_ask o (drop o bytes)) (asks items o finish at spans) ≡ map (told_ask 0 bytes) (asks items o finish at spans)
told_whole o bytes items finish at spans =
    map-append (told_ask o (drop o bytes)) (asked o items) (parts_at_end o at spans finish)
    ∙ ap (λ (l : List Told). l ++ map (told_ask o (drop o bytes)) (parts_at_end o at spans finish)) (told_asked o bytes items)
    ∙ ap (λ (l : List Told). map (told_ask 0 bytes) (asked o items) ++ l) (told_at_end o bytes at spans finish)
    ∙ sym (map-append (told_ask 0 bytes) (asked o items) (parts_at_end o at spans finish))
