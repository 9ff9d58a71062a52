-- What callers cite of chains, cycles, merges and the items of lists.
pub use Rattle.order_laws.proofs.Alike.{first_or_second, of_same, same_of}
pub use Rattle.order_laws.proofs.Chains.{acyclic_map, way_append, way_one}
pub use Rattle.order_laws.proofs.Earliest.{IsEarliest, earliest_push, not_before_self}
pub use Rattle.order_laws.proofs.InLaws.{append_in, before_irreflexive, distinct_joined, each_found_from, each_reverse, found_there, in_append, in_inserted, in_map, in_parts, inserted_first, item_at-in, none_pass, same_tids, same_tx-false_back, slice_get-in, those-in}
pub use Rattle.order_laws.proofs.Joined.{each_cut, each_not, in_more}
pub use Rattle.order_laws.proofs.Least.{free_in_at, least_is_merge, least_merge_one, not_self, without_first, without_other}
pub use Rattle.order_laws.proofs.LeastFound.{acyclic_without, all_fewer, free_is, is_free_in, merged_is_least, none_left}
pub use Rattle.order_laws.proofs.Lists.{among_is, among_map, among_weaker, bool_is, distinct_by_test, distinct_those, each_at, each_from, each_of_at, each_of_false, each_of_true, first_where_none, first_where_some, in_either, in_front, in_is_true, in_last, in_those, is_among, is_in_false, is_in_true, map_among, not_false, not_in_false, one_image, some_of_is, those_in, those_same}
pub use Rattle.order_laws.proofs.Members.{each_passes, in_each}
pub use Rattle.order_laws.proofs.Merge.{merge_acyclic, merge_distinct, merge_names}
pub use Rattle.order_laws.proofs.Names.{is_eq-tid_cmp, ranks_tids, tells_tids}
pub use Rattle.order_laws.proofs.Orders.{acyclic_distinct, before_in}
pub use Rattle.order_laws.proofs.Placed.{least_merge_placed, least_order_left}
pub use Rattle.order_laws.proofs.Reversed.{distinct_reverse, in_push, in_reverse, map_reverse, map_same}
pub use Rattle.order_laws.proofs.Search.{found, no_cycle}
pub use Rattle.order_laws.proofs.Sites.{sites_acyclic}
pub use Rattle.order_laws.proofs.SortedLists.{all_put, rest_merged, zero_below_one}
pub use Rattle.order_laws.proofs.Source.{path_one, some_source}
pub use Rattle.order_laws.proofs.Tickets.{above_is, acyclic_no_cycle, cycle_found, cycle_none, cycle_way, edge_some, is_above_true, linked, no_cycle_acyclic, way_cycle}
