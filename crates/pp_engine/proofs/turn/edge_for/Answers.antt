use Rattle.std.proofs.Common.{rules, sym, ltb, None, false}
use Rattle.std.proofs.lemmas.List.Sorted.{IsPartitionPoint-from_clause}
use Rattle.pp_engine.proofs.EdgeLaws.{ends_rise, edge_here, edge_above, edge_past}
use Rattle.pp_engine.proofs.turn.edge_for.Goals as goal

pub returns-then-place-edges : goal.returns-then-place-edges
returns-then-place-edges c =
    let point = IsPartitionPoint-from_clause (λ e. ltb e.hi c.args.byte) c.args.edges.now c.partition_point-place.result c.partition_point-place.ensures.partitioned (ends_rise c.args.byte c.args.edges.now c.requires) (λ a r q k. search rules) in
    sym (edge_past c.args.byte c.args.edges.now c.requires c.partition_point-place.result point (search rules))

pub returns-then-edge-byte : goal.returns-then-edge-byte
returns-then-edge-byte c =
    let point = IsPartitionPoint-from_clause (λ e. ltb e.hi c.args.byte) c.args.edges.now c.partition_point-place.result c.partition_point-place.ensures.partitioned (ends_rise c.args.byte c.args.edges.now c.requires) (λ a r q k. search rules) in
    sym (edge_here c.args.byte c.args.edges.now c.requires c.partition_point-place.result point (record { lo = 0; hi = 0; take = false; number = None; target = 0 }) (search rules) c.if-edge-byte.true)

pub returns-else-edge-byte : goal.returns-else-edge-byte
returns-else-edge-byte c =
    let point = IsPartitionPoint-from_clause (λ e. ltb e.hi c.args.byte) c.args.edges.now c.partition_point-place.result c.partition_point-place.ensures.partitioned (ends_rise c.args.byte c.args.edges.now c.requires) (λ a r q k. search rules) in
    sym (edge_above c.args.byte c.args.edges.now c.requires c.partition_point-place.result point (record { lo = 0; hi = 0; take = false; number = None; target = 0 }) (search rules) c.if-edge-byte.false)
