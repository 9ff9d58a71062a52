-- Rules of the coordinator that look right and aren't: by each of them the coordinator of some story has a past of which a law of all
-- coordinators doesn't hold.
use Rattle.std.specs.Prelude.{List, [], ◌∷◌, ◌++◌, Some, map}
use Rattle.presumptions.specs.declared.Decision.TheVariants as Decided
use Rattle.presumptions.specs.declared.Participant.{Participant}
use Rattle.fed_rules.specs.declared.answers.Answer.{Answer}
use Rattle.fed_rules.specs.declared.answers.Answer.TheVariants as Say
use Rattle.fed_rules.specs.declared.commands.Command.{Command}
use Rattle.fed_rules.specs.declared.events.CoordEvent.{CoordEvent}
use Rattle.fed_rules.specs.declared.events.CoordEvent.TheVariants as Ev
use Rattle.fed_rules.specs.declared.messages.FromSite.TheVariants as From
use Rattle.fed_rules.specs.declared.records.CoordRecord.{CoordRecord}
use Rattle.fed_rules.specs.declared.records.CoordRecord.TheVariants as Rec
use Rattle.fed_rules.specs.declared.scenario.Scenario.{Scenario}
use Rattle.fed_rules.specs.Coord.{coord_line}
use Rattle.fed_rules.specs.CoordPast.{CoordHappening, CoordPast, message_tid}
use Rattle.fed_rules.specs.Disk.{Call, Append, Sync}
use Rattle.fed_rules.specs.Requests.{attempt}
use Rattle.fed_rules.specs.Scenarios.{policy, protocols}
use Rattle.fed_rules.specs.Story.{coord_past}
use Rattle.coord_laws.specs.Pasts.{IsMadeByEvents}
use Rattle.commit_laws.specs.WrongRules.{Rules, right_rules, story_by}

-- by these rules the coordinator of some story has a past of which the fact doesn't hold
pub record BreaksTheFact (P : List Participant → CoordPast → Type 0) (rules : Rules) : Type 0 where
  pub scenario : Scenario
  pub commands : List Command  -- the last one first
  pub broken : P (protocols scenario) (coord_past (story_by rules scenario commands)) → ⊥

-- by these rules the coordinator of some story has a past that no events make
pub record IsMadeByNoEvents (rules : Rules) : Type 0 where
  pub scenario : Scenario
  pub commands : List Command  -- the last one first
  pub broken : IsMadeByEvents (protocols scenario) (policy scenario) (coord_past (story_by rules scenario commands)) → ⊥

-- a coordinator that decides commit without a record of it
abbrev pub unrecorded : CoordHappening → Answer → CoordHappening
unrecorded x (Say.Decides Decided.Commit cause forgets) = record x { calls = [] }
unrecorded x answer = x

abbrev pub commits_unrecorded : Rules
commits_unrecorded =
    record right_rules { coordinator = λ protocols policy past event. (let x = coord_line protocols policy past event in unrecorded x x.answer) }

-- a coordinator that writes the Commit record as soon as it asks for votes
abbrev pub committed_early : CoordEvent → CoordHappening → Answer → CoordHappening
committed_early (Ev.Take site message) x Say.Initiates =
    record x { calls = x.calls ++ Append (Rec.Commit (message_tid message) []) ∷ Sync ∷ [] }
committed_early event x answer = x

abbrev pub commits_recorded_early : Rules
commits_recorded_early =
    record right_rules { coordinator = λ protocols policy past event. (let x = coord_line protocols policy past event in committed_early event x x.answer) }

-- a coordinator that records an abort at all sites, where it is asked for the fate of a transaction of which it never began an attempt
abbrev pub aborted_unbegun : List Participant → CoordEvent → CoordHappening → Answer → CoordHappening
aborted_unbegun protocols (Ev.Fate tx) x Say.Unbegun = record x { calls = Append (Rec.Abort (attempt tx 0) protocols) ∷ Sync ∷ [] }
aborted_unbegun protocols event x answer = x

abbrev pub fates_of_unbegun_recorded : Rules
fates_of_unbegun_recorded =
    record right_rules {
      coordinator = λ protocols policy past event. (let x = coord_line protocols policy past event in aborted_unbegun protocols event x x.answer);
    }

-- a coordinator the Initiations of which name every site
abbrev pub naming_all : List Participant → Call CoordRecord → Call CoordRecord
naming_all protocols (Append (Rec.Initiation tid members)) = Append (Rec.Initiation tid protocols)
naming_all protocols call = call

abbrev pub initiations_name_every_site : Rules
initiations_name_every_site =
    record right_rules {
      coordinator = λ protocols policy past event. (let x = coord_line protocols policy past event in record x { calls = map (naming_all protocols) x.calls });
    }

-- a coordinator that records a Commit once more at a yes vote that it ignores
abbrev pub committed_again : CoordEvent → CoordHappening → Answer → CoordHappening
committed_again (Ev.Take site (From.Vote tid (Some ticket))) x Say.Ignored = record x { calls = Append (Rec.Commit tid []) ∷ Sync ∷ [] }
committed_again event x answer = x

abbrev pub repeated_votes_commit_again : Rules
repeated_votes_commit_again =
    record right_rules { coordinator = λ protocols policy past event. (let x = coord_line protocols policy past event in committed_again event x x.answer) }
