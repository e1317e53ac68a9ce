use Rattle.std.proofs.Common.{◌∷◌, [], ◌++◌, take, drop, arith}
use Rattle.std.proofs.lemmas.List.{take_rest}
use Rattle.pp_frame.proofs.HeadLemmas.{read_more, empty_behind, no_end_no_head}
use Rattle.pp_frame.proofs.head.has_empty_line.Goals as goal

pub loop-len-preserved : goal.loop-len-preserved
loop-len-preserved c =
    let begins = rw (take_rest c.args.bytes.now c.loop-len.at) at c.in-Some.ensures.some in (
      c.loop-len.invariant.0 ++ take c.in-Some.len (drop c.loop-len.at c.args.bytes.now) ∷ [],
      read_more c.args.bytes.now c.loop-len.invariant.0 c.loop-len.at c.in-Some.len c.loop-len.invariant.1 begins (omega arith),
    )

pub returns : goal.returns
returns c = λ has.
    let no_end = rw (take_rest c.args.bytes.now c.loop-len.at) at c.in_default.ensures.none in
    no_end_no_head (drop c.loop-len.at c.args.bytes.now) no_end (empty_behind c.args.bytes.now c.loop-len.invariant.0 c.loop-len.at c.loop-len.invariant.1 has)
