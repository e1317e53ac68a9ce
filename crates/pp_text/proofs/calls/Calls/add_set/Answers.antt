-- The edges of a set's bytes stand behind a match node or not at all.
use Rattle.std.proofs.Common.{◌≡◌, ◌≢◌, [], ◌∷◌, ◌++◌, length, map, replicate, sym, ap, ◌∙◌, arith, rules}
use Rattle.std.proofs.lemmas.List.{length-append, length-map}
use Rattle.pp_bytes.specs.Bytes.{bytes_of}
use Rattle.pp_bytes.proofs.ByteLemmas.{few_bytes}
use Rattle.pp_graph.specs.declared.builder.LastNode.TheVariants as last
use Rattle.pp_graph.specs.Calls.{last_node}
use Rattle.pp_text.specs.steps.Lines.{lines_of}
use Rattle.pp_text.specs.steps.Rows.{edge_call, keys_of}
use Rattle.pp_text.specs.Text.{Told}
use Rattle.pp_text.proofs.RunLemmas.{lines-push}
use Rattle.pp_text.proofs.SetAddLemmas.{set_stays, set_told}
use Rattle.pp_text.proofs.calls.Calls.add_set.Goals as goal

pub returns-then-ne-clause-answer : goal.returns-then-ne-clause-answer
returns-then-ne-clause-answer c =
    let other : last_node c.self.inside.builder ≢ last.Match = search rules in
    set_stays c.args.line c.args.key_use c.args.target.now (bytes_of c.args.set) c.len-calls.result c.args.self.now c.len-calls.ensures
    (λ at. other (ap (λ (told : Told). last_node told.calls) c.self.view_is ∙ at))

pub returns-clause-answer : goal.returns-clause-answer
returns-clause-answer c =
    let at : last_node c.self.inside.builder ≡ last.Match = search rules in
    let calls : c.push_set.new.builder ≡ c.self.inside.builder ++ map (edge_call c.args.key_use c.args.target.now) (keys_of c.args.set) = search rules in
    let lines : lines_of c.push.new.self.items ≡ lines_of c.self.inside.runs.items ++ replicate c.len-calls.result c.args.line =
    ap lines_of c.in_ok-push.ensures.items ∙ lines-push c.self.inside.runs.items _ in
    set_told c.args.line c.args.key_use c.args.target.now (bytes_of c.args.set) c.len-calls.result c.args.self.now
    c.push_set.new.builder (lines_of c.push.new.self.items) c.len-calls.ensures
    (ap (λ (told : Told). last_node told.calls) (sym c.self.view_is) ∙ at)
    (calls ∙ ap (λ (told : Told). told.calls ++ map (edge_call c.args.key_use c.args.target.now) (keys_of c.args.set)) c.self.view_is)
    (lines ∙ ap (λ (told : Told). told.lines ++ replicate c.len-calls.result c.args.line) c.self.view_is)

pub returns-clause-count : goal.returns-clause-count
returns-clause-count c =
    let edge = edge_call c.args.key_use c.args.target.now in
    let calls : c.push_set.new.builder ≡ c.args.self.now.calls ++ map edge (keys_of c.args.set) = search rules in
    omega (arith, few_bytes c.args.set, ap length calls, length-append c.args.self.now.calls (map edge (keys_of c.args.set)), length-map (keys_of c.args.set) edge, length-map (bytes_of c.args.set) (λ b. b ∷ []))
