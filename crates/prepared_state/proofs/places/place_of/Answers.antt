use Rattle.std.proofs.Common.{rules, arith}
use Rattle.std.proofs.lemmas.List.Sorted.{IsPartitionPoint-from_clause}
use Rattle.mdb_base.specs.Names.{tid_before}
use Rattle.prepared_state.proofs.ByTid.{partitioned, count_before-place}
use Rattle.prepared_state.proofs.places.place_of.Goals as goal

pub returns-clause-count : goal.returns-clause-count
returns-clause-count c =
    let tid = c.args.tid in
    let doubts = c.args.doubts.now in
    let point = IsPartitionPoint-from_clause (λ doubt. tid_before doubt.tid tid) doubts c.partition_point.result c.partition_point.ensures.partitioned (partitioned tid doubts c.requires) (λ a r q k. search rules) in
    count_before-place tid doubts c.partition_point.result c.partition_point.ensures.bound (λ k d lt. point.0 k d (omega arith) lt) (λ k d le lt. point.1 k d le lt)
