use Rattle.std.proofs.Common.{◌≡◌, cond, is_ok, ap, sym, ◌∙◌}
use Rattle.std.specs.List.{insert}
use Rattle.mdb_base.specs.Words.{inserted}
use Rattle.prepared_state.specs.Book.{count_before, stands_before}
use Rattle.prepared_state.proofs.OneMore.{inserted-place, IsByTid-inserted}
use Rattle.prepared_state.proofs.places.insert.Goals as goal

items_are : (c : goal.After-unwrap) → c.insert-done.new.self.items ≡ inserted stands_before c.args.doubt c.args.doubts.now.items
items_are c =
    let old = c.args.doubts.now.items in
    let doubt = c.args.doubt in
    c.insert-done.ensures.items
    ∙ ap (λ r. cond (is_ok r) (insert old c.place_of-place.result doubt) old) c.unwrap.ensures
    ∙ ap (λ n. insert old n doubt) (c.place_of-place.ensures.count ∙ ap (count_before doubt.tid) c.deref.ensures.value)
    ∙ sym (inserted-place doubt old c.requires.order)

pub returns-clause-items : goal.returns-clause-items
returns-clause-items c = items_are c

pub returns-clause-order : goal.returns-clause-order
returns-clause-order c = rw (items_are c) (IsByTid-inserted c.args.doubt c.args.doubts.now.items c.requires.order c.requires.apart)
