use Rattle.std.proofs.Common.{ap, ◌∙◌}
use Rattle.mdb_base.proofs.ForCallers.{same_tid-refl}
use Rattle.global_exec.specs.Firsts.{taken_out}
use Rattle.global_exec.specs.Live as live
use Rattle.coord_tables.proofs.Beginnings.{taken_last}
use Rattle.coord_tables.proofs.going.submit.Goals as goal

pub returns-clause-kept : goal.returns-clause-kept
returns-clause-kept c =
    c.refuse.ensures ∙ ap (taken_out (live.is_of c.args.tid)) c.in_ok-dues.ensures.table
    ∙ taken_last (live.is_of c.args.tid) c.args.exec.now (live.submitted c.args.tid c.args.program) c.requires (same_tid-refl c.args.tid)
