use Rattle.std.proofs.Common.{refl, ap, ◌∙◌}
use Rattle.mdb_base.proofs.ForCallers.{same_tid-refl}
use Rattle.global_exec.specs.Firsts.{taken_out}
use Rattle.global_exec.specs.Live as live
use Rattle.coord_tables.proofs.Beginnings.{taken_last}
use Rattle.coord_tables.proofs.tables.Tables.begin.Goals as goal

pub returns-in-Err-clause-kept : goal.returns-in-Err-clause-kept
returns-in-Err-clause-kept c = record {
  known = c.in-Err.ensures.kept;
  exec =
      c.refuse.ensures ∙ ap (taken_out (live.is_of c.args.stage.tid)) c.in_ok-sends.ensures.exec
      ∙ taken_last (live.is_of c.args.stage.tid) c.args.self.now.exec (live.submitted c.args.stage.tid c.args.program) c.requires.live (same_tid-refl c.args.stage.tid);
  stages = c.reserve.ensures.listed;
  committed = refl;
  graph = refl;
}
