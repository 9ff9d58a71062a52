-- Which answers a command can have, and where places of sent messages stand.
use Rattle.std.specs.Prelude.{ℕ, List, [], ◌∷◌, Option, Some, None, Bool, true, false, not, ◌&&◌, ◌||◌, nat_lt, nat_eq}
use Rattle.mdb_base.specs.declared.names.SiteId.{SiteId}
use Rattle.mdb_base.specs.declared.replies.Reply.{Reply}
use Rattle.mdb_base.specs.declared.replies.Reply.TheVariants.{Refused}
use Rattle.mdb_base.specs.declared.replies.Why.{Why}
use Rattle.mdb_base.specs.declared.replies.Why.TheVariants as Refusal
use Rattle.presumptions.specs.declared.Decision.{Decision}
use Rattle.presumptions.specs.declared.Decision.TheVariants as Final
use Rattle.fed_rules.specs.declared.commands.Command.{Command}
use Rattle.fed_rules.specs.declared.commands.Command.TheVariants as Ask
use Rattle.fed_rules.specs.declared.commands.Line.{Line}
use Rattle.fed_rules.specs.declared.commands.Place.{Place}
use Rattle.fed_rules.specs.declared.answers.Answer.{Answer}
use Rattle.fed_rules.specs.declared.answers.Answer.TheVariants as Say
use Rattle.fed_rules.specs.declared.answers.Cause.{Cause}
use Rattle.fed_rules.specs.declared.answers.Cause.TheVariants as Because

-- an operation is answered by each reply but the refusals of a sealing
abbrev pub is_reply : Reply → Bool
is_reply (Refused (Refusal.Invalid by key)) = false
is_reply (Refused (Refusal.TicketMoved by)) = false
is_reply reply = true

-- a Prepare is refused where it fits nothing, or by a refusal of the sealing
abbrev pub is_no : Option Why → Bool
is_no None = true
is_no (Some (Refusal.Invalid by key)) = true
is_no (Some (Refusal.TicketMoved by)) = true
is_no (Some why) = false

-- a cycle has an edge
abbrev pub is_cause : Cause → Bool
is_cause (Because.Cycle []) = false
is_cause cause = true

-- a decision has a cause exactly on abort
abbrev pub is_decided : Decision → Option Cause → Bool
is_decided Final.Commit None = true
is_decided Final.Abort (Some cause) = is_cause cause
is_decided decision cause = false

-- an attempt that is given up is decided abort
abbrev pub is_given_up : Decision → Option Cause → Bool
is_given_up Final.Commit cause = false
is_given_up Final.Abort cause = is_decided Final.Abort cause

-- the answers of the beginning of an attempt, local or global
abbrev pub is_begin_answer : Answer → Bool
is_begin_answer Say.None = true
is_begin_answer Say.Down = true
is_begin_answer (Say.Committed tid) = true
is_begin_answer (Say.Running tid) = true
is_begin_answer Say.Spent = true
is_begin_answer (Say.Begun tid) = true
is_begin_answer answer = false

-- the answers of a step of a local attempt
abbrev pub is_step_answer : Answer → Bool
is_step_answer Say.None = true
is_step_answer Say.Down = true
is_step_answer Say.Idle = true
is_step_answer Say.End = true
is_step_answer (Say.Read key value) = true
is_step_answer (Say.Wrote key value) = true
is_step_answer (Say.Waits by) = true
is_step_answer (Say.Dies by) = true
is_step_answer (Say.Late by) = true
is_step_answer answer = false

-- the answers of the commit of a local attempt
abbrev pub is_commit_answer : Answer → Bool
is_commit_answer Say.None = true
is_commit_answer Say.Down = true
is_commit_answer Say.Idle = true
is_commit_answer Say.Unfinished = true
is_commit_answer (Say.Invalid by key) = true
is_commit_answer (Say.Stopped kept) = true
is_commit_answer (Say.Sealed tid number) = true
is_commit_answer answer = false

-- the answers of the abort of a local attempt
abbrev pub is_abort_answer : Answer → Bool
is_abort_answer Say.None = true
is_abort_answer Say.Down = true
is_abort_answer Say.Idle = true
is_abort_answer (Say.Aborted tid) = true
is_abort_answer answer = false

-- the answers to how a transaction ended
abbrev pub is_fate_answer : Answer → Bool
is_fate_answer Say.None = true
is_fate_answer Say.Down = true
is_fate_answer (Say.Committed tid) = true
is_fate_answer (Say.Running tid) = true
is_fate_answer Say.Unbegun = true
is_fate_answer Say.Ended = true
is_fate_answer answer = false

-- the answers of sending again what is outstanding
abbrev pub is_again_answer : Answer → Bool
is_again_answer Say.None = true
is_again_answer Say.Down = true
is_again_answer Say.Idle = true
is_again_answer Say.Defers = true
is_again_answer Say.Only = true
is_again_answer answer = false

-- the answers of giving an attempt up
abbrev pub is_late_answer : Answer → Bool
is_late_answer Say.None = true
is_late_answer Say.Down = true
is_late_answer Say.Idle = true
is_late_answer (Say.Decides decision cause forgets) = is_given_up decision cause
is_late_answer (Say.Stopped kept) = true
is_late_answer answer = false

-- the answers of a site that takes a message
abbrev pub is_give_answer : Answer → Bool
is_give_answer Say.None = true
is_give_answer Say.Down = true
is_give_answer (Say.Did tid reply) = is_reply reply
is_give_answer (Say.VotesYes tid ticket) = true
is_give_answer (Say.VotesNo tid why) = is_no why
is_give_answer (Say.Settles tid decision) = true
is_give_answer (Say.Unheld tid) = true
is_give_answer (Say.Stopped kept) = true
is_give_answer answer = false

-- the answers of the coordinator that takes a message
abbrev pub is_take_answer : Answer → Bool
is_take_answer Say.None = true
is_take_answer Say.Down = true
is_take_answer Say.Ignored = true
is_take_answer Say.TookWaits = true
is_take_answer Say.Voted = true
is_take_answer Say.Acked = true
is_take_answer Say.Forgets = true
is_take_answer Say.Undecided = true
is_take_answer (Say.Answers decision) = true
is_take_answer (Say.Presumes decision) = true
is_take_answer Say.Initiates = true
is_take_answer Say.Defers = true
is_take_answer (Say.Decides decision cause forgets) = is_decided decision cause
is_take_answer Say.Only = true
is_take_answer (Say.Stopped kept) = true
is_take_answer answer = false

-- the answers of a site that asks about an attempt in doubt
abbrev pub is_ask_answer : Answer → Bool
is_ask_answer Say.Down = true
is_ask_answer Say.Idle = true
is_ask_answer (Say.Asks tid) = true
is_ask_answer answer = false

-- the answers of a site that drops a subtransaction
abbrev pub is_drop_answer : Answer → Bool
is_drop_answer Say.Down = true
is_drop_answer Say.Idle = true
is_drop_answer (Say.Dropped tid) = true
is_drop_answer answer = false

-- the answers of a stop
abbrev pub is_halt_answer : Answer → Bool
is_halt_answer Say.Down = true
is_halt_answer (Say.Stopped kept) = true
is_halt_answer answer = false

-- the answer of a stop that is set
abbrev pub is_trip_answer : Answer → Bool
is_trip_answer Say.Set = true
is_trip_answer answer = false

-- the answers of a start, of the coordinator or of a site
abbrev pub is_back_answer : ℕ → Answer → Bool
is_back_answer actor Say.Awake = true
is_back_answer actor (Say.Stopped kept) = true
is_back_answer actor (Say.UpCoord known) = nat_eq actor 0
is_back_answer actor (Say.UpSite epoch doubtful) = nat_lt 0 actor
is_back_answer actor answer = false

-- the answers of a Checkpoint
abbrev pub is_check_answer : Answer → Bool
is_check_answer Say.Down = true
is_check_answer Say.Large = true
is_check_answer (Say.Stopped kept) = true
is_check_answer Say.Checked = true
is_check_answer answer = false

-- the answers that a command can have
abbrev pub answer_fits : Command → Answer → Bool
answer_fits (Ask.Begin tx) = is_begin_answer
answer_fits (Ask.Step tx) = is_step_answer
answer_fits (Ask.Commit tx) = is_commit_answer
answer_fits (Ask.Abort tx) = is_abort_answer
answer_fits (Ask.Fate tx) = is_fate_answer
answer_fits (Ask.Go tx) = is_begin_answer
answer_fits (Ask.Again tid) = is_again_answer
answer_fits (Ask.Late tid) = is_late_answer
answer_fits (Ask.Give site place) = is_give_answer
answer_fits (Ask.Take site place) = is_take_answer
answer_fits (Ask.Ask site tid) = is_ask_answer
answer_fits (Ask.Drop site tid) = is_drop_answer
answer_fits (Ask.Halt actor cut) = is_halt_answer
answer_fits (Ask.Trip actor calls cut) = is_trip_answer
answer_fits (Ask.Back actor) = is_back_answer actor
answer_fits (Ask.Check actor) = is_check_answer

-- the answers of the coordinator that can send
abbrev pub coordinator_sends : Command → Answer → Bool
coordinator_sends (Ask.Go tx) (Say.Begun tid) = true
coordinator_sends (Ask.Again tid) Say.Only = true
coordinator_sends (Ask.Late tid) (Say.Decides decision cause forgets) = true
coordinator_sends (Ask.Take site place) (Say.Decides decision cause forgets) = true
coordinator_sends (Ask.Take site place) (Say.Answers decision) = true
coordinator_sends (Ask.Take site place) (Say.Presumes decision) = true
coordinator_sends (Ask.Take site place) Say.Initiates = true
coordinator_sends (Ask.Take site place) Say.Defers = true
coordinator_sends (Ask.Take site place) Say.Only = true
coordinator_sends command answer = false

-- the site whose answer can send, where it can
abbrev pub sending_site : Command → Answer → Option SiteId
sending_site (Ask.Give site place) (Say.Did tid reply) = Some site
sending_site (Ask.Give site place) (Say.VotesYes tid ticket) = Some site
sending_site (Ask.Give site place) (Say.VotesNo tid why) = Some site
sending_site (Ask.Give site place) (Say.Settles tid decision) = Some site
sending_site (Ask.Give site place) (Say.Unheld tid) = Some site
sending_site (Ask.Ask site tid) (Say.Asks same) = Some site
sending_site command answer = None

-- whether the sites of the places rise
abbrev pub sites_rise : List Place → Bool
sites_rise [] = true
sites_rise (sent ∷ []) = true
sites_rise (sent ∷ next ∷ more) = nat_lt sent.site.0 next.site.0 && sites_rise (next ∷ more)

-- whether there is one place, of this site
abbrev pub is_one_of : Option SiteId → List Place → Bool
is_one_of (Some site) (sent ∷ []) = nat_eq sent.site.0 site.0
is_one_of site places = false

-- an answer of what is sent alone
abbrev pub is_only : Answer → Bool
is_only Say.Only = true
is_only answer = false

-- no places stand only where something else is said; the coordinator's places rise, and a site has one
abbrev pub places_fit : Command → Answer → List Place → Bool
places_fit command answer [] = not (is_only answer)
places_fit command answer (sent ∷ more) =
    (coordinator_sends command answer && sites_rise (sent ∷ more)) || is_one_of (sending_site command answer) (sent ∷ more)

-- whether the answer and the places are some that the command can have
abbrev pub line_fits : Line → Bool
line_fits line = answer_fits line.command line.answer && places_fit line.command line.answer line.sends
