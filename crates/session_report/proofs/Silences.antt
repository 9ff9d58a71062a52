-- What is answered to commands that no actor hears of, and what the coordinator answers to a reply with a value.
use Rattle.std.proofs.Common.{◌≡◌, ℕ, Bool, true, false, Option, Some, None, List, [], ◌∷◌, refl, ap, subst}
use Rattle.mdb_base.specs.declared.names.SiteId.{SiteId}
use Rattle.mdb_base.specs.declared.names.Tid.{Tid}
use Rattle.mdb_base.specs.declared.names.Tx.{Tx}
use Rattle.mdb_base.specs.declared.replies.Reply.TheVariants as Reply_is
use Rattle.mdb_base.specs.Words.{when, given, item_at}
use Rattle.presumptions.specs.declared.Participant.{Participant}
use Rattle.fed_rules.specs.declared.answers.Answer.{Answer}
use Rattle.fed_rules.specs.declared.answers.Answer.TheVariants as Say
use Rattle.fed_rules.specs.declared.commands.Command.{Command}
use Rattle.fed_rules.specs.declared.commands.Command.TheVariants as Cmd
use Rattle.fed_rules.specs.declared.events.CoordEvent.{CoordEvent}
use Rattle.fed_rules.specs.declared.events.CoordEvent.TheVariants as To_coord
use Rattle.fed_rules.specs.declared.events.SiteEvent.{SiteEvent}
use Rattle.fed_rules.specs.declared.messages.Due.{Due}
use Rattle.fed_rules.specs.declared.messages.FromSite.TheVariants as From
use Rattle.fed_rules.specs.declared.scenario.Scenario.{Scenario}
use Rattle.fed_rules.specs.Coord.{answered, coord_line, defers_some, did_reply, of_did, of_take, sends_dues, sends_news}
use Rattle.fed_rules.specs.CoordCommands.{go_next, go_request}
use Rattle.fed_rules.specs.CoordPast as Coordinator
use Rattle.fed_rules.specs.CoordPast.{CoordHappening, CoordPast, counts, begun_tids}
use Rattle.fed_rules.specs.CoordRecords.{coord_frame}
use Rattle.fed_rules.specs.Happenings.{Trip, stopped, tripped}
use Rattle.fed_rules.specs.Policies.{Policy}
use Rattle.fed_rules.specs.Requests.{Declines, Request, Submits, unless_begun}
use Rattle.fed_rules.specs.Scenarios.{global_program, local_home, policy, protocols}
use Rattle.fed_rules.specs.SiteCommands.{Begin, Step_on, begin_next, next_step, request, with_live}
use Rattle.fed_rules.specs.SiteRecords.{Home}
use Rattle.fed_rules.specs.Story.{Story, Happened, AtSite, AtCoordinator, Nowhere, coord_requested, happens, on_go, on_local, on_take, requested, sent_from}
use Rattle.session_report.specs.Told.{is_counted}

-- no attempt begins by the answer
abbrev pub BeginsNone : Answer → Type 0
BeginsNone (Say.Begun tid) = ⊥
BeginsNone answer = Unit {0}

-- no value is read by the answer
abbrev pub ReadsNone : Answer → Type 0
ReadsNone (Say.Read key value) = ⊥
ReadsNone answer = Unit {0}

-- what the answer says to a command that no actor hears of
abbrev pub IsSilent : Command → Answer → Type 0
IsSilent (Cmd.Begin tx) answer = BeginsNone answer
IsSilent (Cmd.Step tx) answer = ReadsNone answer
IsSilent (Cmd.Go tx) answer = BeginsNone answer
IsSilent (Cmd.Take site place) answer = answer ≡ Say.None
IsSilent command answer = Unit {0}

abbrev pub Silence : Command → Happened → Type 0
Silence command (AtSite site x) = Unit {0}
Silence command (AtCoordinator x) = Unit {0}
Silence command (Nowhere answer) = IsSilent command answer

record Silent (command : Command) (happened : Happened) : Type 0 where
  silence : Silence command happened

none_begins : (answer : Answer) → BeginsNone (unless_begun answer)
none_begins (Say.Begun tid) = tt
none_begins Say.None = tt
none_begins Say.Down = tt
none_begins Say.Idle = tt
none_begins Say.Spent = tt
none_begins Say.End = tt
none_begins Say.Unfinished = tt
none_begins Say.Unbegun = tt
none_begins Say.Ended = tt
none_begins Say.Set = tt
none_begins Say.Awake = tt
none_begins Say.Only = tt
none_begins Say.Defers = tt
none_begins Say.Ignored = tt
none_begins Say.TookWaits = tt
none_begins Say.Voted = tt
none_begins Say.Acked = tt
none_begins Say.Forgets = tt
none_begins Say.Undecided = tt
none_begins Say.Initiates = tt
none_begins Say.Large = tt
none_begins Say.Checked = tt
none_begins (Say.Committed tid) = tt
none_begins (Say.Running tid) = tt
none_begins (Say.Aborted tid) = tt
none_begins (Say.Unheld tid) = tt
none_begins (Say.Asks tid) = tt
none_begins (Say.Dropped tid) = tt
none_begins (Say.Read key value) = tt
none_begins (Say.Wrote key value) = tt
none_begins (Say.Waits tid) = tt
none_begins (Say.Dies tid) = tt
none_begins (Say.Late tid) = tt
none_begins (Say.Invalid tid key) = tt
none_begins (Say.Sealed tid number) = tt
none_begins (Say.Stopped kept) = tt
none_begins (Say.Did tid reply) = tt
none_begins (Say.VotesYes tid ticket) = tt
none_begins (Say.VotesNo tid why) = tt
none_begins (Say.Settles tid decision) = tt
none_begins (Say.Answers decision) = tt
none_begins (Say.Presumes decision) = tt
none_begins (Say.Decides decision cause forgets) = tt
none_begins (Say.UpSite epoch doubtful) = tt
none_begins (Say.UpCoord known) = tt

silent_given : {A : Type 0} (command : Command) (o : Option A) (none : Happened) (some : A → Happened) → Silent command none → ((z : A) → Silent command (some z)) → Silent command (given o some none)
unfolding given
silent_given command None none some p q = p
silent_given command (Some z) none some p q = q z

-- a request that is declined is declined silently
record IsQuiet {Event : Type 0} (command : Command) (r : Request Event) : Type 0 where
  quiet : (answer : Answer) → r ≡ Declines answer → IsSilent command answer

quiet_given : {A Event : Type 0} (command : Command) (o : Option A) (none : Request Event) (some : A → Request Event) → IsQuiet command none → ((z : A) → IsQuiet command (some z)) → IsQuiet command (given o some none)
unfolding given
quiet_given command None none some p q = p
quiet_given command (Some z) none some p q = q z

quiet_when : {Event : Type 0} (command : Command) (b : Bool) (x y : Request Event) → IsQuiet command x → IsQuiet command y → IsQuiet command (when b x y)
unfolding when
quiet_when command true x y p q = p
quiet_when command false x y p q = q

submitted : {Event : Type 0} (command : Command) (event : Event) → IsQuiet command (Submits event)
submitted command event = record { quiet = λ answer e. cc }

abbrev said_by : {Event : Type 0} → Answer → Request Event → Answer
said_by other (Submits event) = other
said_by other (Declines answer) = answer

declined : {Event : Type 0} (command : Command) (said : Answer) → IsSilent command said → IsQuiet {Event = Event} command (Declines said)
declined {Event} command said s = record { quiet = λ answer e. subst (IsSilent command) (ap (said_by said) e) s }

module _ (scenario : Scenario) (story : Story) where
  silent_request : (command : Command) (home : Home) (r : Request SiteEvent) → IsQuiet command r → Silent command (requested home story r)
  silent_request command home (Submits event) q = record { silence = tt }
  silent_request command home (Declines answer) q = record { silence = q.quiet answer refl }

  silent_coord : (command : Command) (r : Request CoordEvent) → IsQuiet command r → Silent command (coord_requested scenario story r)
  silent_coord command (Submits event) q = record { silence = tt }
  silent_coord command (Declines answer) q = record { silence = q.quiet answer refl }

  silent_begin : (tx : Tx) → Silent (Cmd.Begin tx) (on_local scenario story Begin tx (Nowhere Say.None))
  unfolding on_local request begin_next
  silent_begin tx =
      silent_given (Cmd.Begin tx) (local_home scenario tx) _ _ (record { silence = tt })
      (λ home. silent_request (Cmd.Begin tx) home _ (quiet_when (Cmd.Begin tx) _ _ _ (declined (Cmd.Begin tx) _ (none_begins _)) (submitted (Cmd.Begin tx) _)))

  silent_step : (tx : Tx) → Silent (Cmd.Step tx) (on_local scenario story Step_on tx (Nowhere Say.None))
  unfolding on_local request with_live next_step
  silent_step tx =
      silent_given (Cmd.Step tx) (local_home scenario tx) _ _ (record { silence = tt })
      (λ home. silent_request (Cmd.Step tx) home _ (quiet_when (Cmd.Step tx) _ _ _ (declined (Cmd.Step tx) Say.Down tt)
      (quiet_given (Cmd.Step tx) _ _ _ (declined (Cmd.Step tx) Say.Idle tt) (λ tid. quiet_given (Cmd.Step tx) _ _ _ (declined (Cmd.Step tx) Say.Idle tt)
      (λ run. quiet_given (Cmd.Step tx) _ _ _ (declined (Cmd.Step tx) Say.End tt) (λ step. submitted (Cmd.Step tx) _))))))

  silent_go : (tx : Tx) → Silent (Cmd.Go tx) (on_go scenario story tx)
  unfolding on_go go_request go_next
  silent_go tx =
      silent_coord (Cmd.Go tx) _ (quiet_given (Cmd.Go tx) (global_program scenario tx) _ _ (declined (Cmd.Go tx) Say.None tt)
      (λ steps. quiet_when (Cmd.Go tx) _ _ _ (declined (Cmd.Go tx) _ (none_begins _)) (submitted (Cmd.Go tx) _)))

  silent_take : (site : SiteId) (place : ℕ) → Silent (Cmd.Take site place) (on_take scenario story site place)
  unfolding on_take
  silent_take site place = silent_given (Cmd.Take site place) (item_at (sent_from site story) place) _ _ (record { silence = refl }) (λ message. record { silence = tt })

  any_silent : (command : Command) (happened : Happened) → ((answer : Answer) → IsSilent command answer) → Silence command happened
  any_silent command (AtSite site x) s = tt
  any_silent command (AtCoordinator x) s = tt
  any_silent command (Nowhere answer) s = s answer

  -- what is answered where no actor hears of a command
  pub silent : (command : Command) → Silence command (happens scenario story command)
  unfolding happens
  silent (Cmd.Begin tx) = (silent_begin tx).silence
  silent (Cmd.Step tx) = (silent_step tx).silence
  silent (Cmd.Go tx) = (silent_go tx).silence
  silent (Cmd.Take site place) = (silent_take site place).silence
  silent (Cmd.Commit tx) = any_silent (Cmd.Commit tx) _ (λ answer. tt)
  silent (Cmd.Abort tx) = any_silent (Cmd.Abort tx) _ (λ answer. tt)
  silent (Cmd.Fate tx) = any_silent (Cmd.Fate tx) _ (λ answer. tt)
  silent (Cmd.Again tid) = any_silent (Cmd.Again tid) _ (λ answer. tt)
  silent (Cmd.Late tid) = any_silent (Cmd.Late tid) _ (λ answer. tt)
  silent (Cmd.Give site place) = any_silent (Cmd.Give site place) _ (λ answer. tt)
  silent (Cmd.Ask site tid) = any_silent (Cmd.Ask site tid) _ (λ answer. tt)
  silent (Cmd.Drop site tid) = any_silent (Cmd.Drop site tid) _ (λ answer. tt)
  silent (Cmd.Halt actor cut) = any_silent (Cmd.Halt actor cut) _ (λ answer. tt)
  silent (Cmd.Trip actor calls cut) = any_silent (Cmd.Trip actor calls cut) _ (λ answer. tt)
  silent (Cmd.Back actor) = any_silent (Cmd.Back actor) _ (λ answer. tt)
  silent (Cmd.Check actor) = any_silent (Cmd.Check actor) _ (λ answer. tt)

-- a line whose answer counts where the rules say so
pub record Says (x : CoordHappening) : Type 0 where
  pub says : is_counted x.answer ≡ counts x.answer

says_when : (b : Bool) (x y : CoordHappening) → Says x → Says y → Says (when b x y)
unfolding when
says_when true x y p q = p
says_when false x y p q = q

says_tripped : (past : CoordPast) (o : Option Trip) (x : CoordHappening) → Says x → Says (tripped coord_frame (Coordinator.disk past) o x)
unfolding tripped stopped
says_tripped past None x p = p
says_tripped past (Some t) x p = says_when _ _ _ (record { says = refl }) p

defers_says : (dues : List Due) → is_counted (defers_some dues) ≡ counts (defers_some dues)
defers_says [] = refl
defers_says (due ∷ dues) = refl

-- of a reply with a value the coordinator never answers none
pub value_says : (protocols : List Participant) (policy : Policy) (past : CoordPast) (site : SiteId) (tid : Tid) (epoch n value : ℕ)
    → Says (coord_line protocols policy past (To_coord.Take site (From.Did tid epoch n (Reply_is.Value value))))
unfolding coord_line answered of_take of_did did_reply sends_news sends_dues
value_says protocols policy past site tid epoch n value =
    says_when _ _ _ (record { says = refl })
    (says_tripped past (Coordinator.trip past) _ (says_when _ _ _ (says_when _ _ _ (record { says = refl }) (record { says = defers_says _ })) (record { says = refl })))
