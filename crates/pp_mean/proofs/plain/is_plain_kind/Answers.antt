use Rattle.std.proofs.Common.{◌↔◌, IsTrue, sym, subst, List}
use Rattle.pp_graph.specs.declared.node.Key.{Key}
use Rattle.pp_graph.specs.declared.node.Peek.{Peek}
use Rattle.pp_graph.specs.declared.node.Kind.{Kind}
use Rattle.pp_mean.specs.Plain.{IsPlainKind, IsPlainMatch}
use Rattle.pp_mean.proofs.plain.is_plain_kind.Goals as goal

pub returns-in-Match : goal.returns-in-Match
returns-in-Match c =
    let keys : IsTrue c.is_plain_match.result ↔ IsPlainMatch c.in-Match.fold c.in-Match.keys c.items-in-Match.result.now =
    subst (λ (l : List Key). IsTrue c.is_plain_match.result ↔ IsPlainMatch c.in-Match.fold l c.items-in-Match.result.now) c.items.ensures c.is_plain_match.ensures in
    let peeks : IsTrue c.is_plain_match.result ↔ IsPlainMatch c.in-Match.fold c.in-Match.keys c.in-Match.peeks =
    subst (λ (l : List Peek). IsTrue c.is_plain_match.result ↔ IsPlainMatch c.in-Match.fold c.in-Match.keys l) c.items-in-Match.ensures keys in
    subst (λ (k : Kind). IsTrue c.is_plain_match.result ↔ IsPlainKind k) (sym c.in-Match.is) peeks
