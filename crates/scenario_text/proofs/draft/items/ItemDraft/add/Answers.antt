use Rattle.std.proofs.Common.{sym}
use Rattle.scenario_text.proofs.SeenLemmas.{item_repeated, item_many, item_added, item_kept}
use Rattle.scenario_text.proofs.draft.items.ItemDraft.add.Goals as goal

pub returns-then-contains : goal.returns-then-contains
returns-then-contains c = rw (← c.self.view_is) (item_repeated c.args.line _ _ _ c.self.invariant (sym c.if-contains.ensures))

pub returns-then-count-ge-MOST_ITEMS : goal.returns-then-count-ge-MOST_ITEMS
returns-then-count-ge-MOST_ITEMS c =
    rw (← c.self.view_is) (item_many c.args.line _ _ _ c.self.invariant c.requires (sym c.if-contains.ensures) c.if-count-ge-MOST_ITEMS.true)

pub invariant_of-self-2 : goal.invariant_of-self-2
invariant_of-self-2 c =
    rw (c.push_reserved.ensures.items, c.reserve.ensures.items) (item_kept c.args.line _ _ _ c.self.invariant _ c.requires c.self.told c.in_ok-insert.ensures.updates)

pub returns : goal.returns
returns c =
    rw (← c.self.view_is, c.push_reserved.ensures.items, c.reserve.ensures.items)
    (item_added c.args.line _ _ _ c.self.invariant c.requires (sym c.if-contains.ensures) c.if-count-ge-MOST_ITEMS.false)
