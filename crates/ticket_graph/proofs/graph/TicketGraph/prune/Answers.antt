use Rattle.std.proofs.Common.{[]}
use Rattle.ticket_graph.specs.Reach.{joined}
use Rattle.ticket_graph.proofs.graph.TicketGraph.prune.Goals as goal

pub prune_over-requires : goal.prune_over-requires
prune_over-requires c = (joined c.args.waiting.now, c.meet_all.ensures [] c.new-lowest.ensures)

pub returns : goal.returns
returns c =
    let low = c.meet_all.ensures [] c.new-lowest.ensures in
    record {
      pruned = c.prune_over.ensures.pruned c.args.waiting.now low;
      stands = c.prune_over.ensures.stands c.args.waiting.now low;
    }
