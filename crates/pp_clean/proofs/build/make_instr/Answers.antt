use Rattle.std.proofs.Common.{◌∙◌, ap, sym, map, get_or, ℕ, List}
use Rattle.pp_program.specs.declared.program.Edge.{Edge}
use Rattle.pp_program.specs.declared.program.Instr.{Instr}
use Rattle.pp_program.specs.declared.program.Instr.TheVariants.{Branch}
use Rattle.pp_program.specs.Merge.{merged}
use Rattle.pp_clean.specs.Map.{mapped, mapped_edge}
use Rattle.pp_clean.specs.Merge.{merged_instr}
use Rattle.pp_clean.proofs.build.make_instr.Goals as goal

pub returns-in_ok-edges-in-Branch : goal.returns-in_ok-edges-in-Branch
returns-in_ok-edges-in-Branch c =
    let f : ℕ → ℕ = λ t. get_or c.args.places.now t 0 in
    ap (λ (l : List Edge). Branch c.in-Branch.fold c.in-Branch.stay l (record { skip = c.in-Branch.rest.skip; number = c.in-Branch.rest.number; target = f c.in-Branch.rest.target }))
    (c.in_ok-edges-in-Branch.ensures ∙ ap merged (c.deref.ensures.value ∙ c.in_ok-moved-in-Branch.ensures ∙ ap (map (mapped_edge f)) c.items.ensures))
    ∙ ap (λ (i : Instr). merged_instr (mapped f i)) (sym c.in-Branch.is)
