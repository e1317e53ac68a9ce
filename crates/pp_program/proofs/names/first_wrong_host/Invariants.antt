use Rattle.std.proofs.Common.{◌≡◌, ℕ, ◌<◌, List, take, map}
use Rattle.std.specs.Prelude.{bytes_eq}
use Rattle.std.specs.List.{list_any}
use Rattle.pp_rules.specs.declared.declaration.HostDecl.{HostDecl}
use Rattle.pp_rules.specs.NameTables.{is_at}
use Rattle.pp_program.specs.Names.{NameFails}
use Rattle.pp_program.proofs.names.first_wrong_host.Given as goal

abbrev pub invariant-loop-i : goal.invariant-loop-i
invariant-loop-i l =
    ((name : List ℕ) → is_at l.table name ≡ list_any (λ other. bytes_eq other name) (take l.i (map (λ (d : HostDecl). d.name) l.hosts)))
    × ((j : ℕ) → j < l.i → NameFails (map (λ (d : HostDecl). d.name) l.hosts) j → ⊥)
