use Rattle.coord_tables.proofs.tables.Tables.new.Goals as goal

pub returns : goal.returns
returns c = record { known = c.in_ok-known.ensures; exec = c.in_ok-exec.ensures; stages = c.new-4.ensures; committed = c.new-5.ensures; graph = c.in_ok-graph.ensures }
