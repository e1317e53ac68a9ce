use Rattle.std.proofs.Common.{◌≡◌, ◌∙◌, ℕ, ◌-◌, List, ◌++◌, ◌∷◌, [], refl, sym, ap, take, get_or, length, arith}
use Rattle.pp_lower.specs.steps.Links.{links_in}
use Rattle.pp_lower.proofs.LinkLaws.{links_empty, links_apart, links_set, row_within, split_last}
use Rattle.pp_lower.proofs.links.add_link.Goals as goal

pub returns-then-text-eq0 : goal.returns-then-text-eq0
returns-then-text-eq0 c = λ texts n h. links_empty c.args.list.now texts (links_in c.args.rows.now.items) c.args.text.now c.if-text-eq0.true h

pub push_link-requires : goal.push_link-requires
push_link-requires c = row_within _ c.args.list.now c.in-Some.row (length c.args.rows.now.items) c.in-Some.ensures c.requires.long

pub returns-in_ok-push_link : goal.returns-in_ok-push_link
returns-in_ok-push_link c = λ texts n h.
    let text : List ℕ = c.args.text.now in
    let last : ℕ = get_or text (length text - 1) 0 in
    let split : text ≡ take (length text - 1) text ++ last ∷ [] = split_last text (length text - 1) last (omega (arith, c.if-text-eq0.false)) refl in
    links_set c.args.list.now texts (links_in c.args.rows.now.items) (links_in c.push_link.new.rows.items) text (take (length text - 1) text) last c.in-Some.row
    (record { byte = last; place = c.args.place }) c.requires.ordered split c.in-Some.ensures (ap (λ (k : ℕ). record { byte = last; place = k }) n) c.in_ok-push_link.ensures h

pub returns-in_default : goal.returns-in_default
returns-in_default c = λ texts n h.
    let text : List ℕ = c.args.text.now in
    let last : ℕ = get_or text (length text - 1) 0 in
    let split : text ≡ take (length text - 1) text ++ last ∷ [] = split_last text (length text - 1) last (omega (arith, c.if-text-eq0.false)) refl in
    links_apart c.args.list.now texts (links_in c.args.rows.now.items) text (take (length text - 1) text) last split (sym c.in_default.is ∙ c.row_of.ensures) h
