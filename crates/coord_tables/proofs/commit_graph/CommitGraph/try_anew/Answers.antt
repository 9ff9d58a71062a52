use Rattle.coord_tables.proofs.Graphs.{above_none, not_kept}
use Rattle.coord_tables.proofs.commit_graph.CommitGraph.try_anew.Goals as goal

pub try_add-requires-clause-new : goal.try_add-requires-clause-new
try_add-requires-clause-new c = not_kept c.args.tid c.args.commits.items c.restore.new.self c.requires.apart.0 c.in_ok-restore.ensures.stands

pub try_add-requires-clause-above : goal.try_add-requires-clause-above
try_add-requires-clause-above c = above_none c.restore.new.self c.args.tickets.now c.in_ok-restore.ensures.floor
