use Rattle.std.proofs.Common.{◌≡◌, ◌≤◌, true, sym, subst, ap, length, arith}
use Rattle.pp_bytes.specs.Bytes.{bytes_of}
use Rattle.pp_http.specs.Rows.{bytes_in}
use Rattle.pp_http.proofs.LoopLemmas.{set_len}
use Rattle.pp_graph.specs.Calls.{last_node, has_otherwise, KindHasForm}
use Rattle.pp_rules.specs.Names.{is_name}
use Rattle.pp_http.specs.Rows.{kind_named, row_fits, kind_has_form}
use Rattle.pp_http.proofs.TestLemmas.{and_right}
use Rattle.pp_http.proofs.RowLemmas.{kind_form}
use Rattle.pp_http.proofs.row.add_row.Goals as goal

pub node-requires-clause-kind_form : goal.node-requires-clause-kind_form
node-requires-clause-kind_form c =
    subst KindHasForm (sym c.kind_text.ensures)
    (kind_form (kind_named c.in-Node.kind)
    (and_right (is_name c.in-Node.name.now) (kind_has_form (kind_named c.in-Node.kind))
    (subst (λ r. row_fits (last_node c.args.b.now) (has_otherwise c.args.b.now) r ≡ true) c.in-Node.is c.requires.fits)))

pub keys-requires-clause-room : goal.keys-requires-clause-room
keys-requires-clause-room c =
    let same : length (bytes_of c.byte_set.result) ≡ length (bytes_in c.in-OnAny.bytes) = ap length c.byte_set.ensures in
    let few : length (bytes_in c.in-OnAny.bytes) ≤ 256 = set_len c.in-OnAny.bytes in
    omega (arith, c.requires.room)

pub peeks-requires-clause-room : goal.peeks-requires-clause-room
peeks-requires-clause-room c =
    let same : length (bytes_of c.byte_set-in-PeekAny.result) ≡ length (bytes_in c.in-PeekAny.bytes) = ap length c.byte_set-in-PeekAny.ensures in
    let few : length (bytes_in c.in-PeekAny.bytes) ≤ 256 = set_len c.in-PeekAny.bytes in
    omega (arith, c.requires.room)
