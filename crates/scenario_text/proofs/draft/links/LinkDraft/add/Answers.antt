use Rattle.scenario_text.proofs.SeenLemmas.{link_to_kept, link_from_kept}
use Rattle.scenario_text.proofs.draft.links.LinkDraft.add.Goals as goal
use Rattle.scenario_text.proofs.draft.links.LinkDraft.add.Goals.{then-line+in_ok-insert, else-line+in_ok-insert-2}

pub invariant_of-self-2 : goal.invariant_of-self-2
invariant_of-self-2 c =
    elim c.if-line.branch [
      | then-line+in_ok-insert w ↦
          rw (c.push_reserved.ensures.items, w.self-inside-is, c.reserve.ensures.items)
          (link_to_kept c.args.line _ _ _ c.self.invariant _ w.if-line.true w.in_ok-insert.ensures.updates)
      | else-line+in_ok-insert-2 w ↦
          rw (c.push_reserved.ensures.items, w.self-inside-is, c.reserve.ensures.items)
          (link_from_kept c.args.line _ _ _ c.self.invariant _ w.if-line.false w.in_ok-insert-2.ensures.updates)
    ]
