-- The edges of the bytes of a set, as keys or as peek bytes.
use Rattle.std.proofs.Common.{◌≡◌, List, ◌++◌, ◌∙◌, ap, sym, subst, arith, map}
use Rattle.std.specs.Prelude.{OnOk}
use Rattle.pp_bytes.specs.Bytes.{bytes_of}
use Rattle.pp_bytes.proofs.ByteLemmas.{few_bytes}
use Rattle.pp_rules.specs.declared.call.BuilderCall.{BuilderCall}
use Rattle.pp_text.specs.declared.calls.KeyUse.{KeyUse}
use Rattle.pp_text.specs.steps.Rows.{edge_call, keys_of}
use Rattle.pp_text.proofs.SetAddLemmas.{key_edges, peek_edges}
use Rattle.pp_text.proofs.calls.push_set.Goals as goal

pub keys-requires-clause-room : goal.keys-requires-clause-room
keys-requires-clause-room c = omega (arith, c.requires.room, few_bytes c.args.set)

pub peeks-requires-clause-room : goal.peeks-requires-clause-room
peeks-requires-clause-room c = omega (arith, c.requires.room, few_bytes c.args.set)

pub returns-in-Key : goal.returns-in-Key
returns-in-Key c =
    let target = c.args.target.now in
    let edges = key_edges c.in-Key.number target (bytes_of c.args.set) ∙ ap (λ (how : KeyUse). map (edge_call how target) (keys_of c.args.set)) (sym c.in-Key.is) in
    subst (λ (calls : List BuilderCall). OnOk c.keys.result (c.keys.new.self ≡ c.args.builder.now ++ calls)) edges c.keys.ensures.added

pub returns-in-Peek : goal.returns-in-Peek
returns-in-Peek c =
    let target = c.args.target.now in
    let edges = peek_edges target (bytes_of c.args.set) ∙ ap (λ (how : KeyUse). map (edge_call how target) (keys_of c.args.set)) (sym c.in-Peek.is) in
    subst (λ (calls : List BuilderCall). OnOk c.peeks.result (c.peeks.new.self ≡ c.args.builder.now ++ calls)) edges c.peeks.ensures.added
