-- The first reason for which a printed line isn't the next one of the story: its answer, but for the edges of a cycle where one is due;
-- else its places; else the edges that it names, where a refusal by a cycle is due.
use Rattle.std.specs.Prelude.{Bool, true, false, not, ◌&&◌, nat_lt, Option, Some, None, List, [], ◌∷◌}
use Rattle.mdb_base.specs.declared.names.SiteId.{SiteId}
use Rattle.mdb_base.specs.declared.names.Tid.{Tid}
use Rattle.mdb_base.specs.declared.replies.Edge.{Edge}
use Rattle.mdb_base.specs.Names.{same_site, same_tid}
use Rattle.mdb_base.specs.Words.{some_of, each_of, when}
use Rattle.presumptions.specs.declared.Participant.{Participant}
use Rattle.order_laws.specs.Tickets.{Ticketed}
use Rattle.fed_rules.specs.declared.answers.Answer.{Answer}
use Rattle.fed_rules.specs.declared.answers.Answer.TheVariants as Say
use Rattle.fed_rules.specs.declared.answers.Cause.TheVariants as For
use Rattle.fed_rules.specs.declared.commands.Command.{Command}
use Rattle.fed_rules.specs.declared.commands.Command.TheVariants as Cmd
use Rattle.fed_rules.specs.declared.commands.Line.{Line}
use Rattle.fed_rules.specs.declared.events.CoordEvent.{CoordEvent}
use Rattle.fed_rules.specs.declared.events.CoordEvent.TheVariants as Ev
use Rattle.fed_rules.specs.declared.scenario.Scenario.{Scenario}
use Rattle.fed_rules.specs.CoordPast.{CoordHappening, CoordPast, records, message_tid}
use Rattle.fed_rules.specs.CoordRecords.{commits}
use Rattle.fed_rules.specs.Plans.{is_declared, is_actor}
use Rattle.fed_rules.specs.Right.{refused}
use Rattle.fed_rules.specs.Scenarios.{protocols}
use Rattle.fed_rules.specs.Story.{Story, Happened, AtSite, AtCoordinator, Nowhere, tell, answer_of, places_of, coord_past}
use Rattle.audit_rules.specs.declared.verdict.What.{What}
use Rattle.audit_rules.specs.declared.verdict.What.TheVariants as Fails
use Rattle.audit_rules.specs.Same.{same_answer, same_places, without_edges}

-- whether the sites and actors that a command names are declared
abbrev pub names_declared : Scenario → Command → Bool
names_declared scenario (Cmd.Give site place) = is_declared scenario.sites site
names_declared scenario (Cmd.Take site place) = is_declared scenario.sites site
names_declared scenario (Cmd.Ask site tid) = is_declared scenario.sites site
names_declared scenario (Cmd.Drop site tid) = is_declared scenario.sites site
names_declared scenario (Cmd.Halt actor cut) = is_actor scenario.sites actor
names_declared scenario (Cmd.Trip actor calls cut) = is_actor scenario.sites actor
names_declared scenario (Cmd.Back actor) = is_actor scenario.sites actor
names_declared scenario (Cmd.Check actor) = is_actor scenario.sites actor
names_declared scenario command = true

-- whether at this site both attempts have a ticket, and the first one's is smaller
abbrev pub precedes : Ticketed → Ticketed → SiteId → Bool
precedes a b site =
    some_of (λ k. same_site k.site site && some_of (λ l. same_site l.site site && nat_lt k.ticket l.ticket) b.tickets) a.tickets

-- whether an edge leads from one of these attempts to another at its site
abbrev pub is_edge : List Ticketed → Edge → Bool
is_edge attempts edge =
    some_of (λ a. same_tid a.tid edge.from && some_of (λ b. same_tid b.tid edge.to && precedes a b edge.site) attempts) attempts

-- whether the first edge leaves the attempt, each enters the one that the next leaves, and the last enters the other
abbrev pub leads : Tid → List Edge → Tid → Bool
leads a [] b = same_tid a b
leads a (edge ∷ edges) b = same_tid edge.from a && leads edge.to edges b

-- whether these are one or more edges of the attempts that go round from this one to itself
abbrev pub is_cycle : List Ticketed → Tid → List Edge → Bool
is_cycle attempts tid [] = false
is_cycle attempts tid (edge ∷ edges) = each_of (is_edge attempts) (edge ∷ edges) && leads tid (edge ∷ edges) tid

-- whether the answer names a cycle
abbrev pub names_cycle : Answer → Bool
names_cycle (Say.Decides decision (Some (For.Cycle edges)) forgets) = true
names_cycle answer = false

-- the edges that it names
abbrev pub edges_of : Answer → List Edge
edges_of (Say.Decides decision (Some (For.Cycle edges)) forgets) = edges
edges_of answer = []

-- what is compared of an answer: of one to a message that the coordinator takes, not the edges of a cycle
abbrev pub compared_at : CoordEvent → Answer → Answer
compared_at (Ev.Take site message) answer = without_edges answer
compared_at event answer = answer

abbrev pub compared : Happened → Answer → Answer
compared (AtSite site x) answer = answer
compared (AtCoordinator x) answer = compared_at x.event answer
compared (Nowhere answer) printed = printed

-- whether the edges may stand there: a cycle of the committed attempts and the refused one, through it
abbrev pub may_name : List Participant → CoordPast → CoordHappening → Tid → List Edge → Bool
may_name protocols past x tid edges = is_cycle (refused protocols (x ∷ past) tid ∷ commits (records past)) tid edges

-- whether a refusal by a cycle is due and other edges than those of a cycle stand there
abbrev pub errs_at : List Participant → CoordPast → CoordHappening → CoordEvent → List Edge → Bool
errs_at protocols past x (Ev.Take site message) edges = names_cycle x.answer && not (may_name protocols past x (message_tid message) edges)
errs_at protocols past x event edges = false

abbrev pub errs : List Participant → Story → Happened → List Edge → Bool
errs protocols story (AtSite site x) edges = false
errs protocols story (AtCoordinator x) edges = errs_at protocols (coord_past story) x x.event edges
errs protocols story (Nowhere answer) edges = false

-- the first reason for which the line isn't what happened, if there is one
unfoldable pub fault_in : Scenario → Story → Happened → Line → Option What
fault_in scenario story happened line =
    when (not (same_answer (compared happened line.answer) (compared happened (answer_of happened)))) (Some Fails.Answer)
    (when (not (same_places line.sends (places_of story happened))) (Some Fails.Places)
    (when (errs (protocols scenario) story happened (edges_of line.answer)) (Some Fails.Cycle) None))

-- the first reason for which a printed line isn't the next one, if there is one
unfoldable pub fault_of : Scenario → Story → Line → Option What
fault_of scenario story line =
    when (not (names_declared scenario line.command)) (Some Fails.Form)
    (fault_in scenario story (tell scenario story line.command).happened line)
