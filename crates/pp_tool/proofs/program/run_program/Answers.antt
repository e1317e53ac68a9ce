-- The number and the line are those of the command's answer.
use Rattle.std.proofs.Common.{◌≡◌, List, ℕ, sym, ◌∙◌}
use Rattle.std.specs.Prelude.{Result, Ok}
use Rattle.pp_tool.specs.declared.words.WordsFault.{WordsFault}
use Rattle.pp_tool.proofs.program.run_program.Goals as goal

ok_is : (a b : List (List ℕ)) (words : Result (List (List ℕ)) WordsFault) → words ≡ Ok a → words ≡ Ok b → a ≡ b
ok_is a b words e f = (let g : Ok a ≡ Ok b = sym e ∙ f in cc)

pub returns-in-Ok-clause-answer : goal.returns-in-Ok-clause-answer
returns-in-Ok-clause-answer g c = (
  c.tool.result,
  c.number.ensures,
  (c.tool.ensures.error_line.0, c.tool.ensures.error_line.1, c.tool.ensures.error_line.2),
  (λ named e command words bytes told. c.tool.ensures.verdict command (ok_is c.in-Ok.words named c.args.words c.in-Ok.is e ∙ words) bytes told),
)
