-- Rules of sites and of the coordinator that look right and aren't, and the stories that they make.
use Rattle.std.specs.Prelude.{ℕ, ◌==◌, ◌≡◌, true, cond, Option, Some, None, List, [], ◌∷◌, map, take}
use Rattle.mdb_base.specs.declared.names.SiteId.{SiteId}
use Rattle.mdb_base.specs.declared.names.Tid.{Tid}
use Rattle.mdb_base.specs.Words.{or_else}
use Rattle.presumptions.specs.declared.Decision.{Decision}
use Rattle.presumptions.specs.declared.Decision.TheVariants as Decided
use Rattle.presumptions.specs.declared.Participant.{Participant}
use Rattle.presumptions.specs.declared.Protocol.{Protocol}
use Rattle.fed_rules.specs.declared.answers.Answer.{Answer}
use Rattle.fed_rules.specs.declared.answers.Answer.TheVariants as Say
use Rattle.fed_rules.specs.declared.commands.Command.{Command}
use Rattle.fed_rules.specs.declared.events.CoordEvent.{CoordEvent}
use Rattle.fed_rules.specs.declared.events.SiteEvent.{SiteEvent}
use Rattle.fed_rules.specs.declared.events.SiteEvent.TheVariants as Ev
use Rattle.fed_rules.specs.declared.messages.Sent.{Sent}
use Rattle.fed_rules.specs.declared.messages.ToSite.{ToSite}
use Rattle.fed_rules.specs.declared.messages.ToSite.TheVariants as To
use Rattle.fed_rules.specs.declared.records.CoordRecord.{CoordRecord}
use Rattle.fed_rules.specs.declared.scenario.Scenario.{Scenario}
use Rattle.fed_rules.specs.Coord.{coord_line}
use Rattle.fed_rules.specs.CoordPast as Coordinator
use Rattle.fed_rules.specs.CoordPast.{CoordHappening, CoordPast}
use Rattle.fed_rules.specs.CoordRecords.{coord_frame, outcome}
use Rattle.fed_rules.specs.Disk.{Call, Append, is_torn}
use Rattle.fed_rules.specs.Policies.{Policy}
use Rattle.fed_rules.specs.Scenarios.{home_of, policy, protocols}
use Rattle.fed_rules.specs.Site.{site_line}
use Rattle.fed_rules.specs.SitePast.{SiteHappening, SitePast, epoch}
use Rattle.fed_rules.specs.SiteRecords.{Home}
use Rattle.fed_rules.specs.Story.{Story, Happened, AtSite, AtCoordinator, Nowhere, past_of, coord_past, happens}
use Rattle.commit_laws.specs.Outcomes.{Settles}
use Rattle.commit_laws.specs.LaterRuns.{is_finished}
use Rattle.commit_laws.specs.Seals.{seals, IsPrepareOf}

-- what makes the next line of a site, and of the coordinator
pub record Rules : Type 0 where
  pub site : Home → SitePast → SiteEvent → SiteHappening
  pub coordinator : List Participant → Policy → CoordPast → CoordEvent → CoordHappening

abbrev pub at_home : Rules → Story → SiteId → SiteEvent → Option Home → Happened
at_home rules story site event None = Nowhere Say.None
at_home rules story site event (Some home) = AtSite site (rules.site home (past_of site story) event)

-- what happens, with the line that these rules make of the event
abbrev pub made_by : Rules → Scenario → Story → Happened → Happened
made_by rules scenario story (AtSite site x) = at_home rules story site x.event (home_of scenario site)
made_by rules scenario story (AtCoordinator x) = AtCoordinator (rules.coordinator (protocols scenario) (policy scenario) (coord_past story) x.event)
made_by rules scenario story (Nowhere answer) = Nowhere answer

-- the story of these commands by these rules, the last one first
abbrev pub story_by : Rules → Scenario → List Command → Story
story_by rules scenario [] = []
story_by rules scenario (command ∷ commands) =
    record {
      command = command;
      happened = made_by rules scenario (story_by rules scenario commands) (happens scenario (story_by rules scenario commands) command);
    }
    ∷ story_by rules scenario commands

-- the rules themselves, in this form
abbrev pub right_rules : Rules
right_rules = record { site = site_line; coordinator = coord_line }

-- a site that answers its abort before the Ended record is synced
abbrev pub unsynced_abort : SiteHappening → Answer → SiteHappening
unsynced_abort x (Say.Settles tid Decided.Abort) = record x { calls = take 1 x.calls }
unsynced_abort x answer = x

abbrev pub aborts_acknowledged_early : Rules
aborts_acknowledged_early =
    record right_rules { site = λ home past event. (let x = site_line home past event in unsynced_abort x x.answer) }

-- a coordinator that forgets a commit at once, whatever acknowledgements are required
abbrev pub forgotten_commit : CoordHappening → Answer → CoordHappening
forgotten_commit x (Say.Decides Decided.Commit cause forgets) = record x { answer = Say.Decides Decided.Commit cause true }
forgotten_commit x answer = x

abbrev pub commits_forgotten_at_once : Rules
commits_forgotten_at_once =
    record right_rules { coordinator = λ protocols policy past event. (let x = coord_line protocols policy past event in forgotten_commit x x.answer) }

abbrev pub abort_message : ToSite → ToSite
abort_message (To.Decide tid decision) = To.Decide tid Decided.Abort
abort_message message = message

abbrev pub abort_sent : Sent → Sent
abort_sent sent = record sent { message = abort_message sent.message }

-- a coordinator that answers every inquiry about an attempt that it doesn't know by abort
abbrev pub presumed_abort : CoordHappening → Answer → CoordHappening
presumed_abort x (Say.Presumes decision) = record x { answer = Say.Presumes Decided.Abort; sends = map abort_sent x.sends }
presumed_abort x answer = x

abbrev pub abort_always_presumed : Rules
abort_always_presumed =
    record right_rules { coordinator = λ protocols policy past event. (let x = coord_line protocols policy past event in presumed_abort x x.answer) }

abbrev pub commit_message : ToSite → ToSite
commit_message (To.Decide tid decision) = To.Decide tid Decided.Commit
commit_message message = message

abbrev pub commit_sent : Sent → Sent
commit_sent sent = record sent { message = commit_message sent.message }

-- a coordinator that answers every inquiry about an attempt that it doesn't know by commit
abbrev pub presumed_commit : CoordHappening → Answer → CoordHappening
presumed_commit x (Say.Presumes decision) = record x { answer = Say.Presumes Decided.Commit; sends = map commit_sent x.sends }
presumed_commit x answer = x

abbrev pub commit_always_presumed : Rules
commit_always_presumed =
    record right_rules { coordinator = λ protocols policy past event. (let x = coord_line protocols policy past event in presumed_commit x x.answer) }

-- a coordinator that sends a Prepare while the Initiation is only appended
abbrev pub unsynced_initiation : CoordHappening → Answer → CoordHappening
unsynced_initiation x Say.Initiates = record x { calls = take 1 x.calls }
unsynced_initiation x answer = x

abbrev pub prepares_sent_early : Rules
prepares_sent_early =
    record right_rules { coordinator = λ protocols policy past event. (let x = coord_line protocols policy past event in unsynced_initiation x x.answer) }

-- the message, read as one of this epoch
abbrev pub of_this_epoch : ℕ → SiteEvent → SiteEvent
of_this_epoch own (Ev.Give (To.Work tid e n act)) = Ev.Give (To.Work tid (cond (n == 0) e own) n act)
of_this_epoch own (Ev.Give (To.Take tid e n)) = Ev.Give (To.Take tid own n)
of_this_epoch own (Ev.Give (To.Prepare tid e n)) = Ev.Give (To.Prepare tid own n)
of_this_epoch own event = event

-- a site that compares no epochs
abbrev pub epochs_ignored : Rules
epochs_ignored =
    record right_rules {
      site = λ home past event. record (site_line home past (of_this_epoch (epoch home past) event)) { event = event };
    }

-- the last record that these calls append
abbrev pub last_appended : List (Call CoordRecord) → Option CoordRecord
last_appended [] = None
last_appended (Append kept ∷ calls) = Some (or_else (last_appended calls) kept)
last_appended (call ∷ calls) = last_appended calls

-- the record that the last line tore
abbrev pub torn_record : CoordPast → Option CoordRecord
torn_record [] = None
torn_record (x ∷ past) = cond (is_torn coord_frame (Coordinator.disk (x ∷ past))) (last_appended x.calls) None

-- a coordinator that at a restart takes the torn rest for its record, and doesn't cut it back
abbrev pub torn_taken : CoordHappening → Answer → Option CoordRecord → CoordHappening
torn_taken x (Say.UpCoord known) (Some torn) = record x { calls = Append torn ∷ [] }
torn_taken x answer torn = x

abbrev pub torn_records_kept : Rules
torn_records_kept =
    record right_rules {
      coordinator = λ protocols policy past event. (let x = coord_line protocols policy past event in torn_taken x x.answer (torn_record past));
    }

-- by these rules a site of this protocol settles an attempt otherwise than by its outcome
pub record BreaksTheOutcome (rules : Rules) (protocol : Protocol) : Type 0 where
  pub scenario : Scenario
  pub commands : List Command  -- the last one first
  pub site : SiteId
  pub home : Home
  pub declared : home_of scenario site ≡ Some home
  pub follows : home.protocol ≡ protocol
  pub tid : Tid
  pub decision : Decision
  pub settles : Settles (past_of site (story_by rules scenario commands)) tid decision
  pub wrong : decision ≡ outcome (Coordinator.records (coord_past (story_by rules scenario commands))) tid → ⊥

-- the last line of the site seals the attempt, and takes no Prepare of it that names the site's epoch
abbrev pub SealsElsewhere : Home → Tid → SitePast → Type 0
SealsElsewhere home tid [] = ⊥
SealsElsewhere home tid (x ∷ older) = (seals tid x ≡ true) × (IsPrepareOf tid (epoch home older) x.event → ⊥)

-- by these rules a site seals an attempt in another epoch than its Prepare names
pub record BreaksTheEpoch (rules : Rules) : Type 0 where
  pub scenario : Scenario
  pub commands : List Command  -- the last one first
  pub site : SiteId
  pub home : Home
  pub declared : home_of scenario site ≡ Some home
  pub tid : Tid
  pub seals : SealsElsewhere home tid (past_of site (story_by rules scenario commands))

-- the last line of the site seals an attempt that was finished there before
abbrev pub SealsAFinished : Tid → SitePast → Type 0
SealsAFinished tid [] = ⊥
SealsAFinished tid (x ∷ older) = (seals tid x ≡ true) × (is_finished older tid ≡ true)

-- by these rules a site seals a later run of an attempt that is finished there
pub record SealsALaterRun (rules : Rules) : Type 0 where
  pub scenario : Scenario
  pub commands : List Command  -- the last one first
  pub site : SiteId
  pub home : Home
  pub declared : home_of scenario site ≡ Some home
  pub tid : Tid
  pub seals : SealsAFinished tid (past_of site (story_by rules scenario commands))
