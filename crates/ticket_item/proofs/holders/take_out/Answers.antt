use Rattle.std.proofs.Common.{cond, ap, ◌∙◌, ◌+◌, vec_len}
use Rattle.ticket_item.proofs.ByTid.{is_among-at, is_among-remove, IsByTid-remove}
use Rattle.ticket_item.proofs.holders.take_out.Goals as goal

pub returns-in-Some-clause-order : goal.returns-in-Some-clause-order
returns-in-Some-clause-order c =
    let at = rw c.deref.ensures.value at c.in-Some.ensures.found in
    rw c.remove.ensures.items (IsByTid-remove c.args.tid _ _ c.requires at)

pub returns-in-Some-clause-others : goal.returns-in-Some-clause-others
returns-in-Some-clause-others c other =
    let at = rw c.deref.ensures.value at c.in-Some.ensures.found in
    rw c.remove.ensures.items (is_among-remove c.args.tid other _ _ c.requires at)

pub returns-in-Some-clause-count : goal.returns-in-Some-clause-count
returns-in-Some-clause-count c =
    let at = rw c.deref.ensures.value at c.in-Some.ensures.found in
    ap (λ b. vec_len c.remove.new.self + cond b 1 0) (is_among-at c.args.tid _ _ at) ∙ c.remove.ensures.len
