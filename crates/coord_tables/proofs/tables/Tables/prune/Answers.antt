use Rattle.std.proofs.Common.{map}
use Rattle.ticket_graph.specs.Reach.{joined}
use Rattle.coord_tables.specs.Stages.{stage_tickets}
use Rattle.coord_tables.proofs.tables.Tables.prune.Goals as goal

pub prune_over-requires : goal.prune_over-requires
prune_over-requires c = (joined (map stage_tickets c.args.self.now.stages.listed), c.lowest-lowest.ensures)

pub returns-clause-held : goal.returns-clause-held
returns-clause-held c = (c.prune_over.ensures.pruned (map stage_tickets c.args.self.now.stages.listed) c.lowest-lowest.ensures).held

pub returns-clause-stands : goal.returns-clause-stands
returns-clause-stands c = c.prune_over.ensures.stands (map stage_tickets c.args.self.now.stages.listed) c.lowest-lowest.ensures
