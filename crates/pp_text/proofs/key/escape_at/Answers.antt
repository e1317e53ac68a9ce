use Rattle.std.proofs.Common.{arith, inl, inr, ◌∙◌}
use Rattle.std.proofs.lemmas.List.{take_rest}
use Rattle.pp_text.proofs.WrittenLemmas.{has_hex, behind_backslash}
use Rattle.pp_text.proofs.key.escape_at.Goals as goal

pub returns-in_ok-hex_byte-in-120-clause-found : goal.returns-in_ok-hex_byte-in-120-clause-found
returns-in_ok-hex_byte-in-120-clause-found c =
    has_hex c.args.place c.args.text.now c.in_ok-hex_byte-in-120.field-0 c.in-120.len_at_least (omega arith) c.in_ok-hex_byte-in-120.ensures.0 c.in_ok-hex_byte-in-120.ensures.1

pub returns-in_ok-hex_byte-in-120-clause-only : goal.returns-in_ok-hex_byte-in-120-clause-only
returns-in_ok-hex_byte-in-120-clause-only c byte rest begins = elim (behind_backslash c.args.place c.args.text.now byte rest begins) [
  | inl hex ↦ (c.in_ok-hex_byte-in-120.ensures.1 ∙ hex.means, take_rest c.args.text.now 3 ∙ hex.rest_is)
  | inr escape ↦ absurd (escape.no_x (omega arith))
]
