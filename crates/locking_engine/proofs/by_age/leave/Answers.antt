use Rattle.std.proofs.Common.{ℕ, length, List, sym, ap, ◌∙◌, arith}
use Rattle.std.specs.List.{remove}
use Rattle.run_book.specs.declared.rival.Rival.{Rival}
use Rattle.locking_engine.proofs.ByAge.{there_within, was_counted, was_there, without-place, without-absent}
use Rattle.locking_engine.proofs.by_age.leave.Goals as goal

pub remove-requires : goal.remove-requires
remove-requires c =
    let there = was_there c.args.age _ _ _ c.as_slice-held.ensures.value c.stands_at.ensures ∙ c.if-stands_at.true in
    let count = was_counted c.args.age _ _ _ c.as_slice-held.ensures.value c.place_for-place.ensures.count in
    let within = there_within c.args.age c.args.holders.now.items c.requires c.place_for-place.result count there in
    let len = c.as_slice-held.ensures.len in
    let same = ap (λ (xs : List Rival). length xs) c.as_slice-held.ensures.value in
    omega (arith, within, len, same)

pub returns-then-stands_at : goal.returns-then-stands_at
returns-then-stands_at c =
    let old = c.args.holders.now.items in
    c.remove.ensures.items
    ∙ (ap (λ (n : ℕ). remove old n) (was_counted c.args.age _ _ _ c.as_slice-held.ensures.value c.place_for-place.ensures.count)
    ∙ sym (without-place c.args.age old c.requires (was_there c.args.age _ _ _ c.as_slice-held.ensures.value c.stands_at.ensures ∙ c.if-stands_at.true)))

pub returns-else-stands_at : goal.returns-else-stands_at
returns-else-stands_at c = sym (without-absent c.args.age c.args.holders.now.items (was_there c.args.age _ _ _ c.as_slice-held.ensures.value c.stands_at.ensures ∙ c.if-stands_at.false))
