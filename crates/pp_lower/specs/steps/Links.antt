-- Which texts are longer by one byte than others.
use Rattle.std.specs.Prelude.{◌≡◌, ℕ, suc, List, [], ◌∷◌, ◌++◌, Option, Some, length, map, slice_get, option_map, find, ◌==◌, Vec}
use Rattle.std.specs.declared.alloc.Global.{Global}
use Rattle.pp_lower.specs.declared.links.Link.{Link}
use Rattle.pp_lower.specs.Tree.{place_of}

-- where a byte leads
abbrev pub link_by : List Link → ℕ → Option ℕ
link_by links b = option_map (λ (l : Link). l.place) (find (λ (l : Link). l.byte == b) links)

-- a byte and where it leads, counted behind one text that stands before the others
abbrev pub next_on : List Link → ℕ → Option (ℕ × ℕ)
next_on links b = option_map (λ i. (b, suc i)) (link_by links b)

-- the links of each row
abbrev pub links_in : List (Vec Link Global) → List (List Link)
links_in rows = map (λ v. v.items) rows

-- Rows for the empty text and those of a list: each has, by each byte, the place of the first of some texts that is
-- longer by it.
pub record AreLinks (list texts : List (List ℕ)) (rows : List (List Link)) : Type 0 where
  pub long : length rows ≡ suc (length list)
  pub each : (j : ℕ) (p : List ℕ) (row : List Link) (b : ℕ) → slice_get ([] ∷ list) j ≡ Some p → slice_get rows j ≡ Some row → link_by row b ≡ place_of (p ++ b ∷ []) texts

-- for the empty text and those of a list the place of the first of some texts that is the same
pub record AreEnds (list texts : List (List ℕ)) (ends : List (Option ℕ)) : Type 0 where
  pub long : length ends ≡ suc (length list)
  pub each : (j : ℕ) (p : List ℕ) (end : Option ℕ) → slice_get ([] ∷ list) j ≡ Some p → slice_get ends j ≡ Some end → end ≡ place_of p texts
