use Rattle.std.proofs.Common.{◌≡◌, map, drop}
use Rattle.pp_http.specs.Names.{name_of, is_listed}
use Rattle.pp_http.proofs.names.name_in.Given as goal

abbrev pub invariant-loop-listed : goal.invariant-loop-listed
invariant-loop-listed l =
    (name_of (map (λ row. (row.0, row.1.now)) (drop l.listed-index l.rows)) l.number ≡ name_of (map (λ row. (row.0, row.1.now)) l.rows) l.number) ×
    (is_listed (map (λ row. (row.0, row.1.now)) (drop l.listed-index l.rows)) l.number ≡ is_listed (map (λ row. (row.0, row.1.now)) l.rows) l.number)
