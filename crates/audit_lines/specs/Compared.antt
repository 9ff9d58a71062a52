-- What is compared of the answers of two lines of one command, and the first reason for which the printed one isn't the due one.
use Rattle.std.specs.Prelude.{◌≡◌, Bool, true, false, not, ◌&&◌, Option, Some, None, List}
use Rattle.mdb_base.specs.declared.replies.Edge.{Edge}
use Rattle.mdb_base.specs.Words.{when}
use Rattle.presumptions.specs.declared.Participant.{Participant}
use Rattle.fed_rules.specs.declared.answers.Answer.{Answer}
use Rattle.fed_rules.specs.declared.commands.Command.{Command}
use Rattle.fed_rules.specs.declared.commands.Command.TheVariants as Cmd
use Rattle.fed_rules.specs.declared.commands.Line.{Line}
use Rattle.fed_rules.specs.declared.events.CoordEvent.{CoordEvent}
use Rattle.fed_rules.specs.declared.events.CoordEvent.TheVariants as Ev
use Rattle.fed_rules.specs.CoordPast.{CoordHappening, CoordPast, message_tid}
use Rattle.fed_rules.specs.Story.{Story, Happened, AtSite, AtCoordinator, Nowhere, coord_past}
use Rattle.audit_rules.specs.declared.verdict.What.{What}
use Rattle.audit_rules.specs.declared.verdict.What.TheVariants as Fails
use Rattle.audit_rules.specs.Faults.{may_name, names_cycle}
use Rattle.audit_rules.specs.Same.{same_answer, same_places, without_edges}

-- whether the command has the coordinator take a message
abbrev pub is_take : Command → Bool
is_take (Cmd.Take site place) = true
is_take command = false

-- of an answer to a message that the coordinator takes, not the edges of a cycle
abbrev pub compared_in : Command → Answer → Answer
compared_in (Cmd.Take site place) answer = without_edges answer
compared_in command answer = answer

-- the reason, by the due line, where it is known whether the printed edges are wrong
abbrev pub fault_by : Line → Line → Bool → Option What
fault_by printed due wrong =
    when (not (same_answer (compared_in due.command printed.answer) (compared_in due.command due.answer))) (Some Fails.Answer)
    (when (not (same_places printed.sends due.sends)) (Some Fails.Places)
    (when (is_take due.command && names_cycle due.answer && wrong) (Some Fails.Cycle) None))

-- should the coordinator refuse by a cycle what it takes, it is told whether other edges than those of a cycle stand there
abbrev pub TellsAt : List Participant → CoordPast → CoordHappening → CoordEvent → List Edge → Bool → Type 0
TellsAt protocols past x (Ev.Take site message) edges wrong =
    names_cycle x.answer ≡ true → wrong ≡ not (may_name protocols past x (message_tid message) edges)
TellsAt protocols past x event edges wrong = Unit {0}

abbrev pub TellsWrong : List Participant → Story → Happened → List Edge → Bool → Type 0
TellsWrong protocols story (AtSite site x) edges wrong = Unit {0}
TellsWrong protocols story (AtCoordinator x) edges wrong = TellsAt protocols (coord_past story) x x.event edges wrong
TellsWrong protocols story (Nowhere answer) edges wrong = Unit {0}
