use Rattle.std.proofs.Common.{◌≡◌, ℕ, ◌||◌, Bool, get_or, ap, sym, ◌∙◌, arith}
use Rattle.std.specs.FinSet as set
use Rattle.pp_rules.proofs.KeySetLemmas.{contains-byte, begins-some}
use Rattle.pp_rules.proofs.rules.clash.key_set.add_first.Goals as goal

pub returns-in-len1-up : goal.returns-in-len1-up
returns-in-len1-up c =
    let first : ℕ = get_or c.args.key.now 0 0 in
    let added : c.add.new.self ≡ set.insert c.args.first_bytes.now first = cc in
    λ b. ap (λ s. set.contains s b) added ∙ contains-byte c.args.first_bytes.now first b ∙ ap (λ (t : Bool). set.contains c.args.first_bytes.now b || t) (sym (begins-some b c.args.key.now (omega arith)))
