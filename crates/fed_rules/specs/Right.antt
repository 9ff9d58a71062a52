-- When a list of printed lines is right: each line's answer and places are those of the story of the commands before it.
-- One thing is free: which cycle a refusal prints. It is a cycle of ticket edges that begins and ends at the refused attempt.
use Rattle.std.specs.Prelude.{◌≡◌, Some, List, [], ◌∷◌, map, reverse}
use Rattle.mdb_base.specs.declared.names.Tid.{Tid}
use Rattle.mdb_base.specs.declared.replies.Edge.{Edge}
use Rattle.presumptions.specs.declared.Participant.{Participant}
use Rattle.order_laws.specs.Tickets.{Ticketed, IsCycle}
use Rattle.fed_rules.specs.declared.answers.Answer.{Answer}
use Rattle.fed_rules.specs.declared.answers.Answer.TheVariants as Say
use Rattle.fed_rules.specs.declared.answers.Cause.TheVariants as For
use Rattle.fed_rules.specs.declared.commands.Command.{Command}
use Rattle.fed_rules.specs.declared.commands.Line.{Line}
use Rattle.fed_rules.specs.declared.events.CoordEvent.{CoordEvent}
use Rattle.fed_rules.specs.declared.events.CoordEvent.TheVariants as Ev
use Rattle.fed_rules.specs.declared.scenario.Scenario.{Scenario}
use Rattle.fed_rules.specs.Coord.{vote_tickets}
use Rattle.fed_rules.specs.CoordPast.{CoordHappening, CoordPast, records, participants, message_tid}
use Rattle.fed_rules.specs.CoordRecords.{commits}
use Rattle.fed_rules.specs.Scenarios.{protocols}
use Rattle.fed_rules.specs.Story.{Story, Happened, AtSite, AtCoordinator, Nowhere, story_of, tell, places_of, coord_past}

-- the same answer, but that of a refusal by a cycle another cycle of which the fact holds may be printed
abbrev pub SameButCycle : (List Edge → Type 0) → Answer → Answer → Type 0
SameButCycle IsOne (Say.Decides decision (Some (For.Cycle edges)) forgets) (Say.Decides told (Some (For.Cycle others)) told_forgets) =
    (decision ≡ told) × (forgets ≡ told_forgets) × IsOne edges
SameButCycle IsOne printed told = printed ≡ told

-- the attempt with the tickets of its votes
abbrev pub refused : List Participant → CoordPast → Tid → Ticketed
refused protocols past tid = record { tid = tid; tickets = vote_tickets past tid (participants protocols past tid) }

-- a cycle of the committed attempts and the refused one, which begins and ends at it
abbrev pub IsRefusal : List Participant → CoordPast → CoordHappening → Tid → List Edge → Type 0
IsRefusal protocols past x tid edges = IsCycle (refused protocols (x ∷ past) tid ∷ commits (records past)) tid edges

-- what may be printed for the answer of a line of the coordinator
abbrev pub MayPrint : List Participant → CoordPast → CoordHappening → CoordEvent → Answer → Type 0
MayPrint protocols past x (Ev.Take site message) printed =
    SameButCycle (IsRefusal protocols past x (message_tid message)) printed x.answer
MayPrint protocols past x event printed = printed ≡ x.answer

-- what may be printed for the answer of a line
abbrev pub IsAnswer : List Participant → Story → Happened → Answer → Type 0
IsAnswer protocols story (AtSite site x) printed = printed ≡ x.answer
IsAnswer protocols story (AtCoordinator x) printed = MayPrint protocols (coord_past story) x x.event printed
IsAnswer protocols story (Nowhere answer) printed = printed ≡ answer

-- the line is the next one of the story
pub record IsNext (scenario : Scenario) (story : Story) (line : Line) : Type 0 where
  pub answer : IsAnswer (protocols scenario) story (tell scenario story line.command).happened line.answer
  pub sends : line.sends ≡ places_of story (tell scenario story line.command).happened

-- the story that printed lines tell, the last one first
abbrev pub story_told : Scenario → List Line → Story
story_told scenario lines = story_of scenario (map (λ line. line.command) lines)

-- each line is the next one on the lines before it; the last one stands first
abbrev pub IsRightStory : Scenario → List Line → Type 0
IsRightStory scenario [] = Unit {0}
IsRightStory scenario (line ∷ lines) = IsRightStory scenario lines × IsNext scenario (story_told scenario lines) line

-- these are the right lines of these commands, the first line first
pub record AreLines (lines : List Line) (scenario : Scenario) (commands : List Command) : Type 0 where
  pub commands_are : map (λ line. line.command) (reverse lines) ≡ commands
  pub right : IsRightStory scenario (reverse lines)
