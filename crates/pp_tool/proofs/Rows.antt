-- The first example, which the definitions compute.
use Rattle.std.proofs.Common.{◌≡◌, List, [], ◌∷◌, ◌++◌, flat_map, None, true, false, refl}
use Rattle.std.specs.Prelude.{codes}
use Rattle.std.specs.Fmt.{digits}
use Rattle.pp_bytes.specs.declared.fold.Fold.TheVariants.{Same}
use Rattle.pp_rules.specs.declared.call.NamedCode.TheVariants as code
use Rattle.pp_rules.specs.declared.call.NamedKind.TheVariants as kind
use Rattle.pp_rules.specs.declared.call.NamedEdge.TheVariants as edge
use Rattle.pp_rules.specs.declared.call.BuilderCall.{BuilderCall}
use Rattle.pp_rules.specs.declared.call.BuilderCall.TheVariants as call
use Rattle.pp_graph.specs.Plan.{Plan}
use Rattle.pp_graph.specs.Built.{built}
use Rattle.pp_text.specs.Printed.{printed}
use Rattle.pp_event.specs.declared.item.Item.TheVariants.{Call}
use Rattle.pp_event.specs.Run.{Waiting, RunResult}
use Rattle.pp_capture.specs.Pairs.{pairs}
use Rattle.pp_capture.specs.Spelling.{Begins, Halts, spelled, spelled_sets, spelled_script, spelled_part}
use Rattle.pp_tool.specs.Capture.{parts_records, joined}
use Rattle.pp_tool.specs.Report.{report_of}
use Rattle.pp_tool.specs.Trace.{RunsTo}

-- calls `hit` after each `a`
abbrev calls : List BuilderCall
calls =
    call.Host (codes "hit") false
    ∷ call.Entry (codes "start")
    ∷ call.Node (codes "start") (kind.Match Same)
    ∷ call.Edge (edge.Key (97 ∷ []) None) (codes "hit_it")
    ∷ call.Edge (edge.Otherwise true) (codes "start")
    ∷ call.Node (codes "hit_it") (kind.Invoke (code.Call (codes "hit")))
    ∷ call.Edge (edge.Otherwise false) (codes "start") ∷ []

abbrev graph : Plan
graph = built calls

-- its printed text
text : printed graph ≡ codes "graph 1\nhost hit match\nentry start\nnode start match\non \"a\" -> hit_it\nskip -> start\nnode hit_it call hit\nelse -> start\nend\n"
text = refl

-- the capture of `bab` in one part
capture : flat_map spelled (Begins 0 [] [] ∷ parts_records ((98 ∷ 97 ∷ 98 ∷ []) ∷ [])) ++ spelled Halts ≡ 1 ∷ 0 ∷ 0 ∷ 0 ∷ 0 ∷ 2 ∷ 0 ∷ 0 ∷ 3 ∷ 98 ∷ 97 ∷ 98 ∷ 5 ∷ []
unfolding spelled spelled_sets spelled_script spelled_part pairs
capture = refl

-- and what parts of a byte each hold
cut : joined ((98 ∷ []) ∷ (97 ∷ []) ∷ (98 ∷ []) ∷ []) ≡ joined ((98 ∷ 97 ∷ 98 ∷ []) ∷ [])
cut = refl

abbrev result : RunResult
result = record { finish = Waiting; last = record { config = record { node = 0; at = 3; carried = 0; values = []; spans = [] }; rest = []; items = Call 0 0 2 [] 0 ∷ []; resumes = 0 } }

-- the graph's run on it
run : RunsTo graph (98 ∷ 97 ∷ 98 ∷ []) result
run = (5, refl)

-- and its report
report : report_of graph result ≡ codes "0 call hit 0 @2 = 0\n0 wait start @3\n"
unfolding digits
report = refl
