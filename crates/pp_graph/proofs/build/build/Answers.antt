use Rattle.std.proofs.Common.{◌≡◌, ◌∙◌, List, filter_map, ap, sym, subst}
use Rattle.std.specs.Prelude.{All}
use Rattle.pp_rules.specs.declared.call.BuilderCall.{BuilderCall}
use Rattle.pp_rules.specs.Declarations.{tables_of, prop_decl, host_decl, span_decl}
use Rattle.pp_graph.specs.Built.{built, nodes_in, entry_in, finish_in}
use Rattle.pp_graph.specs.Plan.{Plan, IsWellFormed}
use Rattle.pp_graph.specs.Ranges.{NodeInRange}
use Rattle.pp_graph.proofs.WellFormedLemmas.{IsWellFormed-built}
use Rattle.pp_graph.proofs.build.build.Goals as goal

-- what each list of the graph is, by the calls that the places are of
record ArePartsOf (calls : List BuilderCall) (g : Plan) : Type 0 where
  props : g.props ≡ filter_map prop_decl calls
  hosts : g.hosts ≡ filter_map host_decl calls
  spans : g.spans ≡ filter_map span_decl calls
  nodes : g.nodes ≡ nodes_in (tables_of calls) calls
  entry : g.entry ≡ entry_in (tables_of calls) calls
  finish : g.finish ≡ finish_in (tables_of calls) calls

-- so it is the graph of the calls
same : (calls : List BuilderCall) (g : Plan) → ArePartsOf calls g → g ≡ built calls
same calls g is = λ i. record { props = is.props i; hosts = is.hosts i; spans = is.spans i; nodes = is.nodes i; entry = is.entry i; finish = is.finish i }

-- and well formed
well : (calls : List BuilderCall) (g : Plan) → ArePartsOf calls g → IsWellFormed (built calls) → IsWellFormed g
well calls g is formed = subst IsWellFormed (sym (same calls g is)) formed

pub of-requires-2 : goal.of-requires-2
of-requires-2 c =
    let calls = c.args.declared.now in
    let nodes = c.in_ok-nodes.ensures ∙ ap (λ cs. nodes_in (tables_of cs) cs) c.in_ok-places.ensures in
    let range : All NodeInRange (built calls).nodes = subst (All NodeInRange) (c.deref.ensures.value ∙ nodes) c.numbers_fit.ensures in
    well calls _
    (record {
      props = c.in_ok-props_of.ensures ∙ ap (filter_map prop_decl) c.calls-calls.ensures;
      hosts = c.in_ok-hosts_of.ensures ∙ ap (filter_map host_decl) c.calls-calls.ensures;
      spans = c.in_ok-spans_of.ensures ∙ ap (filter_map span_decl) c.calls-calls.ensures;
      nodes = nodes;
      entry = c.entry_of.ensures ∙ ap (λ cs. entry_in (tables_of cs) cs) c.in_ok-places.ensures;
      finish = c.finish_of.ensures ∙ ap (λ cs. finish_in (tables_of cs) cs) c.in_ok-places.ensures;
    })
    (IsWellFormed-built calls c.requires.rules c.requires.forms range)

pub returns : goal.returns
returns c =
    let calls = c.args.declared.now in
    c.of-2.ensures ∙ same calls _ (record {
      props = c.in_ok-props_of.ensures ∙ ap (filter_map prop_decl) c.calls-calls.ensures;
      hosts = c.in_ok-hosts_of.ensures ∙ ap (filter_map host_decl) c.calls-calls.ensures;
      spans = c.in_ok-spans_of.ensures ∙ ap (filter_map span_decl) c.calls-calls.ensures;
      nodes = c.in_ok-nodes.ensures ∙ ap (λ cs. nodes_in (tables_of cs) cs) c.in_ok-places.ensures;
      entry = c.entry_of.ensures ∙ ap (λ cs. entry_in (tables_of cs) cs) c.in_ok-places.ensures;
      finish = c.finish_of.ensures ∙ ap (λ cs. finish_in (tables_of cs) cs) c.in_ok-places.ensures;
    })
