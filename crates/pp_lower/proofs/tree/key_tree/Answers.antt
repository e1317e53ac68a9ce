use Rattle.std.proofs.Common.{◌∙◌, ℕ, List, [], ◌∷◌, sym, ap, subst}
use Rattle.pp_graph.specs.Plan.{key_bytes}
use Rattle.pp_lower.specs.Tree.{keys_of, prefixes_by}
use Rattle.pp_lower.specs.steps.Order.{IsOrdered}
use Rattle.pp_lower.proofs.OrderLaws.{rows_ordered}
use Rattle.pp_lower.proofs.KeyTree.{few_prefixes, few_distinct, tree_is}
use Rattle.pp_lower.proofs.tree.key_tree.Goals as goal

pub nodes_of-requires-clause-ordered : goal.nodes_of-requires-clause-ordered
nodes_of-requires-clause-ordered c =
    subst (λ (z : List (List ℕ)). IsOrdered ([] ∷ z)) (sym (c.deref.ensures.value ∙ c.in_ok-list.ensures)) (rows_ordered 0 (key_bytes c.keys_in-keys.result.now))

pub nodes_of-requires-clause-few : goal.nodes_of-requires-clause-few
nodes_of-requires-clause-few c =
    few_prefixes c.deref.result.now (key_bytes (keys_of c.args.node.now.kind)) (key_bytes c.keys_in-keys.result.now) (c.deref.ensures.value ∙ c.in_ok-list.ensures)
    (ap key_bytes c.keys_in-keys.ensures) c.requires.fits

pub nodes_of-requires-clause-few_texts : goal.nodes_of-requires-clause-few_texts
nodes_of-requires-clause-few_texts c =
    few_distinct c.deref-2.result.now (key_bytes (keys_of c.args.node.now.kind)) (c.deref-2.ensures.value ∙ c.in_ok-texts.ensures ∙ ap key_bytes c.keys_in-keys.ensures) c.requires.distinct c.requires.fits

pub returns : goal.returns
returns c =
    tree_is c.deref.result.now c.deref-2.result.now (key_bytes (keys_of c.args.node.now.kind)) c.in_ok-nodes.nodes.items c.of.result
    (c.deref.ensures.value ∙ c.in_ok-list.ensures ∙ ap (λ keys. prefixes_by 0 (key_bytes keys)) c.keys_in-keys.ensures)
    (c.deref-2.ensures.value ∙ c.in_ok-texts.ensures ∙ ap key_bytes c.keys_in-keys.ensures) c.in_ok-nodes.ensures c.of.ensures
