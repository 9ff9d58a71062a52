-- What a journal that is found is read as: the actor is down with this journal on its disk, and looks back on what the journal says, in which a
-- Checkpoint stands for all before it.
use Rattle.std.specs.Prelude.{◌≡◌, ◌≤◌, ◌<◌, ◌+◌, ◌++◌, Bool, true, false, cond, Option, Some, None, List, [], ◌∷◌, length}
use Rattle.mdb_base.specs.declared.names.Tid.{Tid}
use Rattle.mdb_base.specs.declared.names.Tx.{Tx}
use Rattle.mdb_base.specs.Words.{Each}
use Rattle.order_laws.specs.Chains.{In}
use Rattle.presumptions.specs.declared.Participant.{Participant}
use Rattle.fed_rules.specs.declared.answers.Answer.{Answer}
use Rattle.fed_rules.specs.declared.answers.Answer.TheVariants as Say
use Rattle.fed_rules.specs.declared.messages.Sent.{Sent}
use Rattle.fed_rules.specs.declared.records.CoordRecord.{CoordRecord}
use Rattle.fed_rules.specs.declared.records.SiteRecord.{SiteRecord}
use Rattle.fed_rules.specs.declared.records.SiteRecord.TheVariants.{Setup, Start}
use Rattle.fed_rules.specs.CoordPast as Coordinator
use Rattle.fed_rules.specs.CoordRecords.{coord_frame, recorded}
use Rattle.fed_rules.specs.CoordSums.{coord_journal_sum}
use Rattle.fed_rules.specs.Disk.{bytes_of, held_bytes}
use Rattle.fed_rules.specs.Found.{Journal}
use Rattle.fed_rules.specs.Happenings.{Happening, is_down}
use Rattle.fed_rules.specs.Reopened.{opened_coordinator, opened_site}
use Rattle.fed_rules.specs.SitePast as Site
use Rattle.fed_rules.specs.SitePast.{SiteHappening}
use Rattle.fed_rules.specs.SiteRecords.{Home, doubts, site_frame, site_rows, start_of}
use Rattle.fed_rules.specs.SiteSums.{journal_sum, site_sum, start_from}
use Rattle.fed_rules.specs.Usable as Usable
use Rattle.fed_rules.specs.Usable.{IsUsableCoordinator}
use Rattle.coord_laws.specs.CoordRestarts.{TellsRecords, keeps, outcome_of}
use Rattle.coord_laws.specs.FoundCoordinators.{MembersRise, RiseBySite}
use Rattle.site_history.specs.FoundSites.{IsFoundSite}

-- what an actor said last
abbrev pub last_said : {Event Message Record : Type 0} → List (Happening Event Message Record) → Option Answer
last_said [] = None
last_said (x ∷ past) = Some x.answer

-- a record of a set-up
abbrev pub IsOfSetUp : SiteRecord → Type 0
IsOfSetUp (Setup site engine protocol items) = Unit {0}
IsOfSetUp (Start epoch) = epoch ≤ 1
IsOfSetUp other = ⊥

-- the records that are looked back on: those of the journal, with what a first Checkpoint stands for, behind a set-up
pub record AreRead (journal records : List SiteRecord) : Type 0 where
  pub set_up : List SiteRecord
  pub are : records ≡ Usable.read journal ++ set_up
  pub each : Each IsOfSetUp set_up

-- a site: it is down and no trip is armed; the journal stands on its disk with the torn rest; it stopped with as many records kept; it has begun no local
-- attempt and sent nothing, and no engine line is behind its last start; and its Sum, its epoch, those in doubt, its table and what its engine starts
-- from are what the journal says
pub record SiteIsReadAs (home : Home) (journal : Journal SiteRecord) : Type 0 where
  pub down : is_down (opened_site journal) ≡ true
  pub untripped : Site.trip (opened_site journal) ≡ None
  pub stands : Site.journal home (opened_site journal) ≡ journal.records
  pub bytes : held_bytes (Site.disk home (opened_site journal)) ≡ bytes_of site_frame journal.records + journal.torn
  pub kept : last_said (opened_site journal) ≡ Some (Say.Stopped (length journal.records))
  pub read : AreRead journal.records (Site.records home (opened_site journal))
  pub says : site_sum home (Site.records home (opened_site journal)) ≡ journal_sum home journal.records
  pub epoch : Site.epoch home (opened_site journal) ≡ (journal_sum home journal.records).epoch
  pub in_doubt : doubts (Site.records home (opened_site journal)) ≡ (journal_sum home journal.records).doubtful
  pub table : site_rows home (Site.records home (opened_site journal)) ≡ (journal_sum home journal.records).rows
  pub start : start_of home (Site.records home (opened_site journal)) ≡ start_from (journal_sum home journal.records)
  pub starts : Site.epoch_start home (opened_site journal) ≡ start_from (journal_sum home journal.records)
  pub idle : Site.engine_lines (opened_site journal) ≡ []
  pub none_begun : (tx : Tx) → Site.attempts_of (opened_site journal) tx ≡ 0
  pub silent : Each (λ (x : SiteHappening). x.sends ≡ []) (opened_site journal)

-- the coordinator: it is down and no trip is armed; the journal stands on its disk with the torn rest; it stopped with as many records kept; its records
-- are those of the journal, with what a first Checkpoint stands for; the outcomes, who is known after a restart, with which participants, and the
-- committed ones with their tickets are what the journal says; nobody is undecided; each attempt that a record names was begun, and of its
-- transaction those before it, and no other one, so that the next one is behind the greatest recorded one; and it has sent nothing
pub record CoordinatorIsReadAs (protocols : List Participant) (journal : Journal CoordRecord) : Type 0 where
  pub down : is_down (opened_coordinator protocols journal) ≡ true
  pub untripped : Coordinator.trip (opened_coordinator protocols journal) ≡ None
  pub stands : Coordinator.journal (opened_coordinator protocols journal) ≡ journal.records
  pub bytes : held_bytes (Coordinator.disk (opened_coordinator protocols journal)) ≡ bytes_of coord_frame journal.records + journal.torn
  pub kept : last_said (opened_coordinator protocols journal) ≡ Some (Say.Stopped (length journal.records))
  pub read : Coordinator.records (opened_coordinator protocols journal) ≡ Usable.coord_read journal.records
  pub tells : TellsRecords protocols (coord_journal_sum protocols journal.records) (Coordinator.records (opened_coordinator protocols journal))
  pub known : (tid : Tid) → Coordinator.known_decision protocols (opened_coordinator protocols journal) tid
      ≡ cond (keeps (coord_journal_sum protocols journal.records) tid) (Some (outcome_of (coord_journal_sum protocols journal.records) tid)) None
  pub decided : (tid : Tid) → Coordinator.is_open (opened_coordinator protocols journal) tid ≡ false
  pub begun : (tid : Tid) → In tid (recorded (Usable.coord_read journal.records)) → In tid (Coordinator.begun_tids (opened_coordinator protocols journal))
  pub begun_only : (tid : Tid) → In tid (Coordinator.begun_tids (opened_coordinator protocols journal))
      → (greater : Tid) × In greater (recorded (Usable.coord_read journal.records)) × (greater.tx ≡ tid.tx) × (tid.attempt ≤ greater.attempt)
  pub next : (tid : Tid) → In tid (recorded (Usable.coord_read journal.records)) → tid.attempt < Coordinator.attempts_of (opened_coordinator protocols journal) tid.tx
  pub silent : (test : Sent → Bool) → Coordinator.has_sent test (opened_coordinator protocols journal) ≡ false

-- each usable journal of a site is so read, and each usable one of the coordinator
abbrev pub SitesAreReadAs : Type 0
SitesAreReadAs = (home : Home) (local : Tx → Bool) (journal : Journal SiteRecord) → IsFoundSite home local journal → SiteIsReadAs home journal

abbrev pub CoordinatorsAreReadAs : Type 0
CoordinatorsAreReadAs =
    (protocols : List Participant) (journal : Journal CoordRecord) → RiseBySite protocols → IsUsableCoordinator protocols journal.records
    → Each MembersRise journal.records → CoordinatorIsReadAs protocols journal
