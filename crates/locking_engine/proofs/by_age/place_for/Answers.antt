use Rattle.std.proofs.Common.{nat_lt, rules, arith}
use Rattle.std.proofs.lemmas.List.Sorted.{IsPartitionPoint-from_clause}
use Rattle.run_book.specs.declared.rival.Rival.{Rival}
use Rattle.locking_engine.proofs.ByAge.{partitioned, count_older-place}
use Rattle.locking_engine.proofs.by_age.place_for.Goals as goal

pub returns-clause-count : goal.returns-clause-count
returns-clause-count c =
    let age = c.args.age in
    let holders = c.args.holders.now in
    let point = IsPartitionPoint-from_clause (λ (rival : Rival). nat_lt rival.rank age) holders c.partition_point.result c.partition_point.ensures.partitioned (partitioned age holders c.requires) (λ a r q k. search rules) in
    count_older-place age holders c.partition_point.result c.partition_point.ensures.bound (λ k d lt. point.0 k d (omega arith) lt) (λ k d le lt. point.1 k d le lt)
