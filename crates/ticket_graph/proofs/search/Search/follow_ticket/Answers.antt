use Rattle.std.proofs.Common.{[], ◌∷◌}
use Rattle.ticket_graph.proofs.StepLemmas.{follows_both, follows_one}
use Rattle.ticket_graph.proofs.search.Search.follow_ticket.Goals as goal

pub loop-entry-preserved : goal.loop-entry-preserved
loop-entry-preserved c =
    let before = c.loop-entry.self in
    let after = c.meet.new.self in
    follows_both c.args.from (c.args.ticket ∷ []) c.args.self.now.unmet before.unmet after.unmet c.args.self.now.steps.items before.steps.items after.steps.items
    c.loop-entry.invariant
    (follows_one c.args.from c.args.ticket c.in-Some.entry before.unmet after.unmet before.steps.items after.steps.items
    c.in-Some.ensures.unmet c.in-Some.ensures.above c.in_ok-meet.ensures.meets c.in_ok-meet.ensures.reaches)
