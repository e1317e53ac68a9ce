-- A list of answers gives the answers that items tell.
use Rattle.std.proofs.Common.{subst, ◌≡◌, ℕ, ◌+◌, List, [], ◌∷◌, ◌++◌, true, max, refl, sym, ◌∙◌, ap, append_assoc, append-nil, length, get_or, map, length-append, add-zero}
use Rattle.std.proofs.lemmas.List.{get_or-append-add}
use Rattle.std.specs.Prelude.{count_by}
use Rattle.pp_event.specs.declared.item.Item.{Item}
use Rattle.pp_event.specs.declared.item.Item.TheVariants.{Call, Span, Pause}
use Rattle.pp_event.specs.Run.{Oracle}
use Rattle.pp_event.specs.Answers.{Agrees, Honest, SameAnswers, by_list, is_call, answers_in}
use Rattle.pp_event.specs.Asked.{answers_of}
use Rattle.pp_event.specs.Pieces.{Ask, AskCall, AskPiece, asked, told_ask}
use Rattle.pp_event.proofs.AgreeLaws.{count-more}

-- a list that has the answers behind the earlier ones gives them
agrees_behind : (answers earlier : List ℕ) (before items : List Item) → length earlier ≡ count_by is_call before →
    SameAnswers answers (earlier ++ answers_in items) → Agrees (by_list answers) before items
agrees_behind answers earlier before [] n h = tt
agrees_behind answers earlier before (Call code value at values answer ∷ items) n h =
    let here : get_or answers (length earlier) 0 ≡ answer =
    h (length earlier) ∙ ap (λ (k : ℕ). get_or (earlier ++ answer ∷ answers_in items) k 0) (sym (add-zero (length earlier)))
    ∙ get_or-append-add earlier (answer ∷ answers_in items) 0 0 in
    let long : length (earlier ++ answer ∷ []) ≡ count_by is_call (before ++ Call code value at values answer ∷ []) =
    length-append earlier (answer ∷ []) ∙ ap (λ (k : ℕ). k + 1) n ∙ sym (count-more before (Call code value at values answer ∷ [])) in
    let later : SameAnswers answers ((earlier ++ answer ∷ []) ++ answers_in items) =
    λ i. h i ∙ ap (λ (l : List ℕ). get_or l i 0) (sym (append_assoc earlier (answer ∷ []) (answers_in items))) in (
      subst (λ (k : ℕ). get_or answers k 0 ≡ answer) n here,
      agrees_behind answers (earlier ++ answer ∷ []) (before ++ Call code value at values answer ∷ []) items long later,
    )
agrees_behind answers earlier before (Span span from to ∷ items) n h =
    agrees_behind answers earlier (before ++ Span span from to ∷ []) items (n ∙ sym (add-zero _) ∙ sym (count-more before (Span span from to ∷ []))) h
agrees_behind answers earlier before (Pause code at ∷ items) n h =
    agrees_behind answers earlier (before ++ Pause code at ∷ []) items (n ∙ sym (add-zero _) ∙ sym (count-more before (Pause code at ∷ []))) h

-- the answers that items tell answer them
pub agrees_list : (answers : List ℕ) (items : List Item) → SameAnswers answers (answers_in items) → Agrees (by_list answers) [] items
agrees_list answers items h = agrees_behind answers [] [] items refl h

-- the events of items have their answers
pub answers_of-asked : (o : ℕ) (w : List ℕ) (items : List Item) → answers_of (map (told_ask o w) (asked o items)) ≡ answers_in items
answers_of-asked o w [] = refl
answers_of-asked o w (Call code value at values answer ∷ items) = ap (λ (l : List ℕ). answer ∷ l) (answers_of-asked o w items)
answers_of-asked o w (Span span from to ∷ items) = answers_of-asked o w items
answers_of-asked o w (Pause code at ∷ items) = answers_of-asked o w items

-- and answer them
pub agrees_asked : (o : ℕ) (w answers : List ℕ) (items : List Item) → SameAnswers answers (answers_of (map (told_ask o w) (asked o items))) → Agrees (by_list answers) [] items
agrees_asked o w answers items h = agrees_list answers items (λ i. h i ∙ ap (λ (l : List ℕ). get_or l i 0) (answers_of-asked o w items))

-- what is asked for items in a row
pub asked-more : (o : ℕ) (xs ys : List Item) → asked o (xs ++ ys) ≡ asked o xs ++ asked o ys
asked-more o [] ys = refl
asked-more o (Call code value at values answer ∷ xs) ys = ap (λ (l : List Ask). AskCall code value at values answer ∷ l) (asked-more o xs ys)
asked-more o (Span span from to ∷ xs) ys = ap (λ (l : List Ask). AskPiece span from (max from o) to true ∷ l) (asked-more o xs ys)
asked-more o (Pause code at ∷ xs) ys = asked-more o xs ys

-- an oracle that agrees with items is honest of them
agrees_at : (oracle : Oracle) (before xs ys : List Item) (code value at : ℕ) (values : List ℕ) (answer : ℕ) →
    Agrees oracle before (xs ++ Call code value at values answer ∷ ys) → oracle (before ++ xs) code ≡ answer
agrees_at oracle before [] ys code value at values answer h = ap (λ (l : List Item). oracle l code) (append-nil before) ∙ h.0
agrees_at oracle before (Call a b c d e ∷ xs) ys code value at values answer h =
    ap (λ (l : List Item). oracle l code) (sym (append_assoc before (Call a b c d e ∷ []) xs)) ∙ agrees_at oracle (before ++ Call a b c d e ∷ []) xs ys code value at values answer h.1
agrees_at oracle before (Span a b c ∷ xs) ys code value at values answer h =
    ap (λ (l : List Item). oracle l code) (sym (append_assoc before (Span a b c ∷ []) xs)) ∙ agrees_at oracle (before ++ Span a b c ∷ []) xs ys code value at values answer h
agrees_at oracle before (Pause a b ∷ xs) ys code value at values answer h =
    ap (λ (l : List Item). oracle l code) (sym (append_assoc before (Pause a b ∷ []) xs)) ∙ agrees_at oracle (before ++ Pause a b ∷ []) xs ys code value at values answer h

pub agrees_honest : (oracle : Oracle) (items : List Item) → Agrees oracle [] items → Honest oracle items
agrees_honest oracle items h xs ys code value at values answer e =
    agrees_at oracle [] xs ys code value at values answer (subst (Agrees oracle []) e h)
