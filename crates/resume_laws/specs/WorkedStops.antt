-- A session that is stopped while it goes on, and wrong rules for what it leaves. On the coordinator's disk a commit is found, and on the site's a
-- transaction that was prepared for it. The site is told, and then both stop before the coordinator hears of it.
use Rattle.std.specs.Prelude.{◌≡◌, ◌++◌, true, false, Some, List, [], ◌∷◌, map, take}
use Rattle.mdb_base.specs.declared.names.Engine.TheVariants.{Locking}
use Rattle.mdb_base.specs.declared.names.SiteId.{SiteId}
use Rattle.mdb_base.specs.declared.names.Tid.{Tid}
use Rattle.presumptions.specs.declared.Decision.TheVariants as Decided
use Rattle.presumptions.specs.declared.Participant.{Participant}
use Rattle.presumptions.specs.declared.Protocol.TheVariants as By
use Rattle.fed_rules.specs.declared.answers.Answer.TheVariants as Say
use Rattle.fed_rules.specs.declared.commands.Command.{Command}
use Rattle.fed_rules.specs.declared.commands.Command.TheVariants as Cmd
use Rattle.fed_rules.specs.declared.commands.Line.{Line}
use Rattle.fed_rules.specs.declared.records.CoordRecord.{CoordRecord}
use Rattle.fed_rules.specs.declared.records.CoordRecord.TheVariants as Coord_rec
use Rattle.fed_rules.specs.declared.records.SiteRecord.{SiteRecord}
use Rattle.fed_rules.specs.declared.records.SiteRecord.TheVariants as Rec
use Rattle.fed_rules.specs.declared.sums.CoordSum.{CoordSum}
use Rattle.fed_rules.specs.CoordRecords.{is_kept}
use Rattle.fed_rules.specs.Found.{Found, Journal}
use Rattle.fed_rules.specs.Reopened.{commit_read, coord_sum_read, initiation_read}
use Rattle.coord_laws.specs.CoordRestarts.{keeps}
use Rattle.resume_laws.specs.WorkedDisks.{first_try}

abbrev pub one : SiteId
one = record { 0 = 1 }

abbrev pub committed : Journal CoordRecord
committed = record { records = Coord_rec.Commit (first_try 1) (record { site = one; ticket = 1 } ∷ []) ∷ []; torn = 0 }

abbrev pub prepared : SiteRecord
prepared = Rec.Prepared (first_try 1) 1 1 1 (record { key = record { 0 = 5 }; value = 7 } ∷ [])

abbrev pub set_up : List SiteRecord
set_up = Rec.Start 1 ∷ Rec.Setup one Locking By.Nothing [] ∷ []

-- the disks that are found
abbrev pub in_doubt : Found
in_doubt = record { coordinator = Some committed; sites = record { records = prepared ∷ set_up; torn = 0 } ∷ [] }

-- what happens until both are stopped, the last command first
abbrev pub stopped_session : List Command
stopped_session = Cmd.Halt 0 0 ∷ Cmd.Halt 1 0 ∷ Cmd.Give one 0 ∷ Cmd.Again (first_try 1) ∷ Cmd.Back 1 ∷ Cmd.Back 0 ∷ []

-- the disks that this leaves
abbrev pub left_behind : Found
left_behind =
    record { coordinator = Some committed; sites = record { records = Rec.Ended (first_try 1) Decided.Commit ∷ Rec.Start 2 ∷ prepared ∷ set_up; torn = 0 } ∷ [] }

-- the lines of the session that goes on from these, the first one first
abbrev pub lines_behind : List Line
lines_behind =
    record { command = Cmd.Back 0; answer = Say.UpCoord 1; sends = [] }
    ∷ record { command = Cmd.Back 1; answer = Say.UpSite 3 0; sends = [] }
    ∷ record { command = Cmd.Again (first_try 1); answer = Say.Only; sends = record { site = one; place = 0 } ∷ [] }
    ∷ record { command = Cmd.Give one 0; answer = Say.Unheld (first_try 1); sends = record { site = one; place = 0 } ∷ [] }
    ∷ record { command = Cmd.Take one 0; answer = Say.Forgets; sends = [] }
    ∷ []

-- ---- wrong rules

-- the newest record of a journal alone
abbrev pub newest_of : {Record : Type 0} → Journal Record → Journal Record
newest_of journal = record { records = take 1 journal.records; torn = journal.torn }

-- what a session leaves, where only the newest record of each site's journal is taken
abbrev pub newest_left : Found → Found
newest_left found = record { coordinator = found.coordinator; sites = map newest_of found.sites }

-- what a Checkpoint of the coordinator is read as, where its Ends are left out
abbrev pub read_without_ends : CoordSum → List CoordRecord
read_without_ends sum = map commit_read sum.committed ++ map initiation_read sum.open_attempts

-- so an attempt is known after a restart that the Checkpoint has not open: what is read tells another thing than the Sum
pub record KnowsAForgottenOne : Type 0 where
  pub members : List Participant
  pub sum : CoordSum
  pub tid : Tid
  pub forgotten : keeps sum tid ≡ false
  pub rightly : is_kept members (coord_sum_read sum) tid ≡ false
  pub wrongly : is_kept members (read_without_ends sum) tid ≡ true
