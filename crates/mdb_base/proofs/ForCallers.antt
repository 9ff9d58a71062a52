-- What callers cite of small words, names, rows, programs and lists.
pub use Rattle.mdb_base.proofs.BoolLaws.{and_fails, and_false, and_true, cond_same, is_true_both, is_true_parts, never, not_both, not_true, or_fails, or_false, or_swap, or_swapped, or_true, when_either}
pub use Rattle.mdb_base.proofs.EachLaws.{all_append, among_append, among_behind, among_inserted, among_split, each_at_place, each_by_place, each_get_or, each_item_at, each_of_found, each_of_mapped, each_pushed, each_recursion, each_take}
pub use Rattle.mdb_base.proofs.JoinLaws.{all_push, append_nil, found_append, length-append, length-map, length-option, nothing_left, reverse_more, some_steps, two_pieces}
pub use Rattle.mdb_base.proofs.ListLaws.{among_map, among_some, append_each, append_none, each_all, each_among, each_append, each_filtered, each_found, each_inserted, each_map, each_of_map, each_self, each_those, empty_means, greatest_among, greatest_greatest, greatest_none, least_among, least_least, least_none, map_among, none_some_of, some_among, those_all, those_each, those_inserted, those_none, those_nothing, those_pass}
pub use Rattle.mdb_base.proofs.NameLaws.{apart_behind, before_apart, before_itself, before_not_back, before_onward, before_other, not_before_onward, same_key-equal, same_key-refl, same_key-sym, same_site-above, same_site-below, same_site-equal, same_site-refl, same_site-sym, same_tid-equal, same_tid-refl, same_tid-sym, same_tx-equal, same_tx-from, same_tx-refl, tests_agree}
pub use Rattle.mdb_base.proofs.NameOrders.{less_before, tid_ties, tids_exact, tids_total, tx_ties, txs_exact, txs_total}
pub use Rattle.mdb_base.proofs.NumberLaws.{is_eq-nat_cmp, is_eq-then, le-nat_cmp, less-nat_cmp, nat_cmp-equal, nat_cmp-less, nat_cmp-same, not_below, not_equal, not_same_after, positive, suc_not_zero}
pub use Rattle.mdb_base.proofs.OptionLaws.{by_given, cond_some, first_of, given_none, given_some, is_none-true, is_some-true, lent, no_number, none_from, none_left, nothing_is, some_mapped, some_number, some_parts}
pub use Rattle.mdb_base.proofs.PlaceLaws.{drop_all, drop_before, found_next, item_at-below, item_at-front, made_of, same_lists, slice_get-below, slice_get-front, slice_get-one, slice_get-there, take_left, take_none}
pub use Rattle.mdb_base.proofs.Registers.{bad_register-passes, bad_register-stops, next_of-past, next_of-within, program_register}
pub use Rattle.mdb_base.proofs.ResultLaws.{map_err, map_ok, map_on_err, on_err_anyway}
pub use Rattle.mdb_base.proofs.RisingLaws.{above_rising, first_least, one_place, rises_by_place, rising_rest, those_rise}
pub use Rattle.mdb_base.proofs.RowLaws.{each_with_row, look_up-value_in, nat_eq-sym, rising_tail, same_rows, value_in-with_row, value_in-with_rows}
pub use Rattle.mdb_base.proofs.TestLaws.{each_of-list_all, first_passes, how_many_at_most, how_many_joined, length_those, or_assoc, some_of-list_any, some_of-push, some_reverse, those_append}
pub use Rattle.mdb_base.proofs.Words.{cond-false, cond-true, item_at-past, item_at-slice_get, item_at-within, when-false, when-true}
