use Rattle.std.proofs.Common.{rules, arith}
use Rattle.std.proofs.lemmas.List.Sorted.{IsPartitionPoint-from_clause}
use Rattle.mdb_base.specs.Names.{tid_before}
use Rattle.ticket_item.proofs.ByTid.{partitioned, count_before-place}
use Rattle.ticket_item.proofs.holders.place_of.Goals as goal

pub returns-clause-count : goal.returns-clause-count
returns-clause-count c =
    let tid = c.args.tid in
    let tids = c.args.tids.now in
    let point = IsPartitionPoint-from_clause (λ other. tid_before other tid) tids c.partition_point.result c.partition_point.ensures.partitioned (partitioned tid tids c.requires) (λ a r q k. search rules) in
    count_before-place tid tids c.partition_point.result c.partition_point.ensures.bound (λ k d lt. point.0 k d (omega arith) lt) (λ k d le lt. point.1 k d le lt)
