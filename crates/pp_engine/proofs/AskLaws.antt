-- What a feed asks, with the bytes of its parts.
use Rattle.std.proofs.Common.{◌≡◌, ℕ, List, ◌++◌, ◌∙◌, ap, map}
use Rattle.std.proofs.lemmas.List.{map-append}
use Rattle.pp_event.specs.declared.item.Item.{Item}
use Rattle.pp_event.specs.Pieces.{asked, parts_at_end, pieces, told_ask}
use Rattle.pp_event.specs.Run.{Finish, RunResult}
use Rattle.pp_event.specs.Told.{Told}
use Rattle.pp_event.proofs.AnswerLaws.{asked-more}

-- what items ask
abbrev pub asked_of : ℕ → List ℕ → List Item → List Told
asked_of o w items = map (told_ask o w) (asked o items)

-- what the end of a run asks
abbrev pub end_of : ℕ → List ℕ → RunResult → Finish → List Told
end_of o w r finish = map (told_ask o w) (parts_at_end o r.last.config.at r.last.config.spans finish)

pub asked_of-more : (o : ℕ) (w : List ℕ) (xs ys : List Item) → asked_of o w (xs ++ ys) ≡ asked_of o w xs ++ asked_of o w ys
asked_of-more o w xs ys = ap (map (told_ask o w)) (asked-more o xs ys) ∙ map-append (told_ask o w) (asked o xs) (asked o ys)

-- what a feed asks is what its items ask, and then what its end asks
pub pieces-are : (items : List Item) (o : ℕ) (r : RunResult) (w : List ℕ) → pieces items o r w ≡ asked_of o w items ++ end_of o w r r.finish
pieces-are items o r w = map-append (told_ask o w) (asked o items) (parts_at_end o r.last.config.at r.last.config.spans r.finish)
