use Rattle.std.proofs.Common.{◌≡◌, cond, is_ok, ap, sym, ◌∙◌}
use Rattle.std.specs.List.{insert}
use Rattle.mdb_base.specs.Names.{tid_before}
use Rattle.mdb_base.specs.Words.{inserted}
use Rattle.ticket_item.specs.Item.{count_before}
use Rattle.ticket_item.proofs.ByTid.{inserted-place, is_among-inserted, IsByTid-inserted}
use Rattle.ticket_item.proofs.holders.put_in.Goals as goal

items_are : (c : goal.After-unwrap) → c.insert-done.new.self.items ≡ inserted tid_before c.args.tid c.args.tids.now.items
items_are c =
    let old = c.args.tids.now.items in
    let tid = c.args.tid in
    c.insert-done.ensures.items
    ∙ ap (λ r. cond (is_ok r) (insert old c.place_of-place.result tid) old) c.unwrap.ensures
    ∙ ap (λ n. insert old n tid) (c.place_of-place.ensures.count ∙ ap (count_before tid) c.deref.ensures.value)
    ∙ sym (inserted-place tid old c.requires.order)

pub returns-clause-order : goal.returns-clause-order
returns-clause-order c = rw (items_are c) (IsByTid-inserted c.args.tid c.args.tids.now.items c.requires.order c.requires.apart)

pub returns-clause-members : goal.returns-clause-members
returns-clause-members c other = rw (items_are c) (is_among-inserted other c.args.tid c.args.tids.now.items)
