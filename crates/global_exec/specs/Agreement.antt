-- When an attempt of the table is what the coordinator's past says of it.
use Rattle.std.specs.Prelude.{◌≡◌, is_some, List, map}
use Rattle.mdb_base.specs.declared.names.Tid.{Tid}
use Rattle.presumptions.specs.declared.Participant.{Participant}
use Rattle.fed_rules.specs.CoordPast.{CoordPast, program, participants_of, reads, steps_done, epoch_at, count_at, has_ticket_at, vote_at}
use Rattle.global_exec.specs.declared.progress.Progress.{Progress}
use Rattle.global_exec.specs.Live.{Live}

-- how far the attempt has come at a participant, by the past
abbrev pub progress_in : CoordPast → Tid → Participant → Progress
progress_in past tid participant = record {
  site = participant.site;
  epoch = epoch_at past tid participant.site;
  n = count_at past tid participant.site;
  ticket = has_ticket_at past tid participant.site;
  voted = is_some (vote_at past tid participant.site);
}

-- the attempt is what the past says of it
pub record IsOfPast (protocols : List Participant) (past : CoordPast) (tid : Tid) (live : Live) : Type 0 where
  pub program : live.program ≡ program past tid
  pub reads : live.reads ≡ reads past tid
  pub done : live.done ≡ steps_done past tid
  pub sites : live.sites ≡ map (progress_in past tid) (participants_of protocols live.program)
