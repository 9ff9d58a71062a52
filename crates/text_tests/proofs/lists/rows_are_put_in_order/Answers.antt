use Rattle.std.specs.List.{IsDistinct}
use Rattle.std.proofs.Common.{refl}
use Rattle.text_tests.proofs.lists.rows_are_put_in_order.Goals as goal

pub sort_rows-rows-requires : goal.sort_rows-rows-requires
unfolding IsDistinct
sort_rows-rows-requires g c = rw c.in_ok-vec.ensures.items ((refl, tt), (tt, tt))
