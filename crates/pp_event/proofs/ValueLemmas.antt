-- Sets keep the number of values.
use Rattle.std.proofs.Common.{◌≡◌, ℕ, List, [], ◌∷◌, refl, ◌∙◌, set, length}
use Rattle.std.specs.Prelude.{replicate}
use Rattle.std.proofs.lemmas.List.{length-set, length-replicate}
use Rattle.pp_event.specs.Values.{with_sets, values_of}

with_sets-length : (sets : List (ℕ × ℕ)) (values : List ℕ) → length (with_sets sets values) ≡ length values
with_sets-length [] values = refl
with_sets-length (set_one ∷ sets) values = with_sets-length sets (set values set_one.0 set_one.1) ∙ length-set values set_one.0 set_one.1

pub values_of-length : (count : ℕ) (sets : List (ℕ × ℕ)) → length (values_of count sets) ≡ count
values_of-length count sets = with_sets-length sets (replicate count 0) ∙ length-replicate count 0
