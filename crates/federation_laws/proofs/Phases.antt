-- A line of the coordinator sends a Take only of the attempt that it is about, where the policy lets it take tickets, and refuses a commit for a
-- cycle only at the last vote.
use Rattle.std.proofs.Common.{◌≡◌, ◌==◌, ℕ, Bool, true, false, cond, not, ◌&&◌, ◌||◌, Option, Some, None, List, [], ◌∷◌, drop, map, refl, sym, ap, ◌∙◌}
use Rattle.std.proofs.lemmas.Bool.{and_parts}
use Rattle.mdb_base.specs.declared.acts.Step.{Step}
use Rattle.mdb_base.specs.declared.names.SiteId.{SiteId}
use Rattle.mdb_base.specs.declared.names.SiteTicket.{SiteTicket}
use Rattle.mdb_base.specs.declared.names.Tid.{Tid}
use Rattle.mdb_base.specs.declared.names.Tx.{Tx}
use Rattle.mdb_base.specs.declared.replies.Edge.{Edge}
use Rattle.mdb_base.specs.declared.replies.Reply.{Reply}
use Rattle.mdb_base.specs.declared.replies.Reply.TheVariants as Reply_is
use Rattle.mdb_base.specs.declared.replies.Why.TheVariants as Because
use Rattle.mdb_base.specs.Names.{same_site}
use Rattle.mdb_base.specs.Programs.{plain_act}
use Rattle.mdb_base.specs.Words.{Each, when, given, how_many, found, with_some}
use Rattle.mdb_base.proofs.ForCallers.{cond-true, each_map, same_tid-refl, those_pass}
use Rattle.presumptions.specs.declared.Decision.{Decision}
use Rattle.presumptions.specs.declared.Participant.{Participant}
use Rattle.order_laws.specs.Search.{cycle_through}
use Rattle.order_laws.specs.Tickets.{edge_between}
use Rattle.fed_rules.specs.declared.answers.Answer.{Answer}
use Rattle.fed_rules.specs.declared.answers.Answer.TheVariants as Say
use Rattle.fed_rules.specs.declared.answers.Cause.{Cause}
use Rattle.fed_rules.specs.declared.answers.Cause.TheVariants as For
use Rattle.fed_rules.specs.declared.events.CoordEvent.{CoordEvent}
use Rattle.fed_rules.specs.declared.events.CoordEvent.TheVariants as Ev
use Rattle.fed_rules.specs.declared.messages.Due.{Due}
use Rattle.fed_rules.specs.declared.messages.Due.TheVariants as Due_is
use Rattle.fed_rules.specs.declared.messages.FromSite.{FromSite}
use Rattle.fed_rules.specs.declared.messages.FromSite.TheVariants as From
use Rattle.fed_rules.specs.declared.messages.ToSite.{ToSite}
use Rattle.fed_rules.specs.declared.messages.ToSite.TheVariants as To
use Rattle.fed_rules.specs.Coord.{message_of, send_due, is_take, decide_to, may_take, held_back, let_through, defers_some, defers_all, sends_dues, sends_news, sends_all, all_outstanding, news, aborts, commits_it, of_go, fits, did_reply, of_did, vote_tickets, last_vote, yes_vote, vote_counts, vote_counted, of_vote, missing, ack_counts, acked_while, of_ack, asked_while, of_inquiry, of_take, again_while, of_again, of_late, of_fate, of_back, answered, unless_tripped, coord_line, of_check}
use Rattle.fed_rules.specs.CoordPast.{CoordHappening, CoordPast, Standing, Undecided, Decided, Gone, disk, records, trip, is_open, is_about, known_decision, standing, program, visits, participants, counted, reads, epoch_at, count_at, next_step, has_step_left, has_ticket_at, work_at, take_at, prepare_at, outstanding, is_wait, is_ticket}
use Rattle.fed_rules.specs.CoordRecords.{coord_frame, commits}
use Rattle.fed_rules.specs.Happenings.{Trip, quiet, is_down, stopped, tripped}
use Rattle.fed_rules.specs.Policies.{Policy}
use Rattle.fed_rules.proofs.ForCallers.{undecided_open}

-- the attempt that the line is about is undecided, and may take tickets
pub record MayTake (protocols : List Participant) (policy : Policy) (past : CoordPast) (event : CoordEvent) (tid : Tid) : Type 0 where
  pub about : is_about tid event ≡ true
  pub opened : is_open past tid ≡ true
  pub allowed : may_take protocols policy past tid ≡ true

-- a Take may be sent
abbrev pub MayBeSent : List Participant → Policy → CoordPast → CoordEvent → ToSite → Type 0
MayBeSent protocols policy past event (To.Take tid epoch n) = MayTake protocols policy past event tid
MayBeSent protocols policy past event message = Unit {0}

-- the last vote of the attempt counts, and its tickets are on this cycle
pub record IsOnCycle (protocols : List Participant) (past : CoordPast) (event : CoordEvent) (edges : List Edge) : Type 0 where
  pub tid : Tid
  pub site : SiteId
  pub ticket : ℕ
  pub is_vote : event ≡ Ev.Take site (From.Vote tid (Some ticket))
  pub is_counted : vote_counts past site tid ≡ true
  pub cycle : cycle_through edge_between (record { tid = tid; tickets = vote_tickets (quiet event Say.Voted ∷ past) tid (participants protocols past tid) }) (commits (records past)) ≡ Some edges

abbrev pub Causes : List Participant → CoordPast → CoordEvent → Cause → Type 0
Causes protocols past event (For.Cycle edges) = IsOnCycle protocols past event edges
Causes protocols past event cause = Unit {0}

-- what an answer refuses for a cycle is on it
abbrev pub Refuses : List Participant → CoordPast → CoordEvent → Answer → Type 0
Refuses protocols past event (Say.Decides decision (Some cause) forgets) = Causes protocols past event cause
Refuses protocols past event answer = Unit {0}

-- a line that sends Takes, and refuses for cycles, as it may
pub record IsChecked (protocols : List Participant) (policy : Policy) (past : CoordPast) (event : CoordEvent) (x : CoordHappening) : Type 0 where
  pub takes : Each (λ sent. MayBeSent protocols policy past event sent.message) x.sends
  pub refuses : Refuses protocols past event x.answer

module _ (protocols : List Participant) (policy : Policy) (past : CoordPast) where
  checked_when : (event : CoordEvent) (t : Bool) (a b : CoordHappening) → (t ≡ true → IsChecked protocols policy past event a) → (t ≡ false → IsChecked protocols policy past event b) → IsChecked protocols policy past event (when t a b)
  unfolding when
  checked_when event true a b p q = p refl
  checked_when event false a b p q = q refl

  checked_given : {A : Type 0} (event : CoordEvent) (o : Option A) (none : CoordHappening) (some : A → CoordHappening) → (o ≡ None → IsChecked protocols policy past event none) → ((a : A) → o ≡ Some a → IsChecked protocols policy past event (some a)) → IsChecked protocols policy past event (given o some none)
  unfolding given
  checked_given event None none some p q = p refl
  checked_given event (Some a) none some p q = q a refl

  quiet_checked : (event : CoordEvent) (answer : Answer) → Refuses protocols past event answer → IsChecked protocols policy past event (quiet event answer)
  quiet_checked event answer r = record { takes = tt; refuses = r }

  -- decisions are no Takes
  decides_checked : (event : CoordEvent) (tid : Tid) (decision : Decision) (members : List Participant) → Each (λ sent. MayBeSent protocols policy past event sent.message) (decide_to tid decision members)
  decides_checked event tid decision [] = tt
  decides_checked event tid decision (member ∷ members) = (tt, decides_checked event tid decision members)

  aborts_checked : (event : CoordEvent) (tid : Tid) (cause : Cause) → Causes protocols past event cause → IsChecked protocols policy past event (aborts protocols past event tid cause)
  unfolding aborts
  aborts_checked event tid cause c = record { takes = decides_checked event tid _ (participants protocols past tid); refuses = c }

  commits_checked : (event : CoordEvent) (tid : Tid) (tickets : List SiteTicket) → IsChecked protocols policy past event (commits_it protocols past event tid tickets)
  unfolding commits_it
  commits_checked event tid tickets = record { takes = decides_checked event tid _ (participants protocols past tid); refuses = tt }

  messages_checked : (event : CoordEvent) (tid : Tid) (dues : List Due) → Each (λ due. MayBeSent protocols policy past event (message_of tid due)) dues → Each (λ sent. MayBeSent protocols policy past event sent.message) (map (send_due tid) dues)
  messages_checked event tid [] h = tt
  messages_checked event tid (due ∷ dues) h = (h.0, messages_checked event tid dues h.1)

  dues_checked : (event : CoordEvent) (tid : Tid) (answer : Answer) (dues : List Due) → Refuses protocols past event answer → Each (λ due. MayBeSent protocols policy past event (message_of tid due)) dues → IsChecked protocols policy past event (sends_dues protocols past event tid answer dues)
  unfolding sends_dues
  dues_checked event tid answer dues r h =
      let sent = messages_checked event tid dues h in
      checked_when event _ _ _ (λ t. record { takes = sent; refuses = tt }) (λ t. record { takes = sent; refuses = r })

  some_refuses : (event : CoordEvent) (held : List Due) → Refuses protocols past event (defers_some held)
  some_refuses event [] = tt
  some_refuses event (due ∷ held) = tt

  all_refuses : (event : CoordEvent) (held sent : List Due) → Refuses protocols past event (defers_all held sent)
  all_refuses event held [] = some_refuses event held
  all_refuses event held (due ∷ sent) = tt

  -- what isn't held back may be sent
  due_checked : (event : CoordEvent) (tid : Tid) → is_about tid event ≡ true → is_open past tid ≡ true → (due : Due) → not (is_take due && not (may_take protocols policy past tid)) ≡ true → MayBeSent protocols policy past event (message_of tid due)
  due_checked event tid about opened (Due_is.Work site epoch n act) e = tt
  due_checked event tid about opened (Due_is.Prepare site epoch n) e = tt
  due_checked event tid about opened (Due_is.Take site epoch n) e =
      record { about = about; opened = opened; allowed = twice (may_take protocols policy past tid) e }
    where
      twice : (b : Bool) → not (not b) ≡ true → b ≡ true
      twice true e = refl
      twice false e = cc

  through_checked : (event : CoordEvent) (tid : Tid) (dues : List Due) → is_about tid event ≡ true → is_open past tid ≡ true → Each (λ due. MayBeSent protocols policy past event (message_of tid due)) (let_through protocols policy past tid dues)
  through_checked event tid dues about opened =
      each_map (λ due. not (is_take due && not (may_take protocols policy past tid)) ≡ true) (λ due. MayBeSent protocols policy past event (message_of tid due))
      (due_checked event tid about opened) (let_through protocols policy past tid dues)
      (those_pass (λ due. not (is_take due && not (may_take protocols policy past tid))) dues)

-- what is outstanding first is no Take
work-no_take : (past : CoordPast) (tid : Tid) (site : SiteId) (step : Option Step) (due : Due) → work_at past tid site step ≡ Some due → is_take due ≡ false
work-no_take past tid site None due e = cc
work-no_take past tid site (Some step) due e = by_test (same_site step.site site) e
  where
    by_test : (t : Bool) → cond t (Some (Due_is.Work site (epoch_at past tid site) (count_at past tid site) (plain_act (reads past tid) step.act))) None ≡ Some due → is_take due ≡ false
    by_test true e = let same : Due_is.Work site (epoch_at past tid site) (count_at past tid site) (plain_act (reads past tid) step.act) ≡ due = cc in sym (ap is_take same)
    by_test false e = cc

first-no_take : (past : CoordPast) (tid : Tid) (steps : List Step) (site : SiteId) (due : Due) → outstanding (quiet (Ev.Go tid steps) (Say.Begun tid) ∷ past) tid site ≡ Some due → is_take due ≡ false
first-no_take past tid steps site due e = by_tests (visits site (program now tid)) (has_step_left now tid site) (has_ticket_at now tid site) refl refl e
  where
    now : CoordPast
    now = quiet (Ev.Go tid steps) (Say.Begun tid) ∷ past

    none : counted (quiet (Ev.Go tid steps) (Say.Begun tid) ∷ past) tid ≡ []
    none = cond-true _ _ _ (same_tid-refl tid)

    left : has_step_left (quiet (Ev.Go tid steps) (Say.Begun tid) ∷ past) tid site ≡ visits site (program (quiet (Ev.Go tid steps) (Say.Begun tid) ∷ past) tid)
    left = ap (λ replies. visits site (drop (how_many (λ reply. not (is_wait reply.reply) && not (is_ticket reply.reply)) replies) (program (quiet (Ev.Go tid steps) (Say.Begun tid) ∷ past) tid))) none

    by_tests : (v l t : Bool) → visits site (program now tid) ≡ v → has_step_left now tid site ≡ l → cond v (cond l (work_at now tid site (next_step now tid)) (cond t (prepare_at now tid site) (take_at now tid site))) None ≡ Some due → is_take due ≡ false
    by_tests true true t p q e = work-no_take now tid site (next_step now tid) due e
    by_tests true false t p q e = (let clash = sym q ∙ (left ∙ p) in cc)
    by_tests false l t p q e = cc

module _ (protocols : List Participant) (policy : Policy) (past : CoordPast) where
  first_checked : (tid : Tid) (steps : List Step) (due : Due) → is_take due ≡ false → MayBeSent protocols policy past (Ev.Go tid steps) (message_of tid due)
  first_checked tid steps (Due_is.Work site epoch n act) e = tt
  first_checked tid steps (Due_is.Prepare site epoch n) e = tt
  first_checked tid steps (Due_is.Take site epoch n) e = cc

  go_sends : (tid : Tid) (steps : List Step) (members : List Participant) → Each (λ due. MayBeSent protocols policy past (Ev.Go tid steps) (message_of tid due)) (found (λ member. outstanding (quiet (Ev.Go tid steps) (Say.Begun tid) ∷ past) tid member.site) members)
  go_sends tid steps [] = tt
  go_sends tid steps (member ∷ members) = with_one (outstanding (quiet (Ev.Go tid steps) (Say.Begun tid) ∷ past) tid member.site) (first-no_take past tid steps member.site) (go_sends tid steps members)
    where
      rest : List Due
      rest = found (λ member. outstanding (quiet (Ev.Go tid steps) (Say.Begun tid) ∷ past) tid member.site) members

      with_one : (o : Option Due) → ((due : Due) → o ≡ Some due → is_take due ≡ false) → Each (λ due. MayBeSent protocols policy past (Ev.Go tid steps) (message_of tid due)) rest → Each (λ due. MayBeSent protocols policy past (Ev.Go tid steps) (message_of tid due)) (with_some o rest)
      with_one None f h = h
      with_one (Some due) f h = (first_checked tid steps due (f due refl), h)

  go_checked : (tid : Tid) (steps : List Step) → IsChecked protocols policy past (Ev.Go tid steps) (of_go protocols past tid steps)
  unfolding of_go
  go_checked tid steps =
      checked_given protocols policy past _ _ _ _
      (λ e. checked_given protocols policy past _ _ _ _
      (λ f. record { takes = messages_checked protocols policy past (Ev.Go tid steps) tid _ (go_sends tid steps (participants protocols (quiet (Ev.Go tid steps) (Say.Begun tid) ∷ past) tid)); refuses = tt })
      (λ running f. quiet_checked protocols policy past _ _ tt))
      (λ committed e. quiet_checked protocols policy past _ _ tt)

  news_checked : (site : SiteId) (message : FromSite) (tid : Tid) → is_about tid (Ev.Take site message) ≡ true → is_open past tid ≡ true → IsChecked protocols policy past (Ev.Take site message) (sends_news protocols policy past (Ev.Take site message) tid (news protocols past (quiet (Ev.Take site message) Say.Only ∷ past) tid site))
  unfolding sends_news
  news_checked site message tid about opened =
      let dues = news protocols past (quiet (Ev.Take site message) Say.Only ∷ past) tid site in
      dues_checked protocols policy past (Ev.Take site message) tid (defers_some (held_back protocols policy past tid dues)) (let_through protocols policy past tid dues)
      (some_refuses protocols policy past (Ev.Take site message) (held_back protocols policy past tid dues))
      (through_checked protocols policy past (Ev.Take site message) tid dues about opened)

  reply_checked : (site : SiteId) (tid : Tid) (epoch n : ℕ) (reply : Reply) → is_open past tid ≡ true → IsChecked protocols policy past (Ev.Take site (From.Did tid epoch n reply)) (did_reply protocols policy past site (From.Did tid epoch n reply) tid reply)
  unfolding did_reply
  reply_checked site tid epoch n (Reply_is.Wait by) opened = quiet_checked protocols policy past _ _ tt
  reply_checked site tid epoch n (Reply_is.Refused (Because.Die by)) opened = aborts_checked protocols policy past _ tid (For.Dies site by) tt
  reply_checked site tid epoch n (Reply_is.Refused (Because.Late by)) opened = aborts_checked protocols policy past _ tid (For.TooLate site by) tt
  reply_checked site tid epoch n Reply_is.Unknown opened = aborts_checked protocols policy past _ tid (For.Unknown site) tt
  reply_checked site tid epoch n reply opened = news_checked site (From.Did tid epoch n reply) tid (same_tid-refl tid) opened

  did_checked : (site : SiteId) (tid : Tid) (epoch n : ℕ) (reply : Reply) → IsChecked protocols policy past (Ev.Take site (From.Did tid epoch n reply)) (of_did protocols policy past site tid epoch n reply)
  unfolding of_did
  did_checked site tid epoch n reply =
      checked_when protocols policy past _ _ _ _
      (λ t. reply_checked site tid epoch n reply (and_parts (is_open past tid) (fits (outstanding past tid site) n reply) (and_parts (is_open past tid && fits (outstanding past tid site) n reply) ((epoch_at past tid site == 0) || (epoch == epoch_at past tid site)) t).0).0)
      (λ t. quiet_checked protocols policy past _ _ tt)

  yes_checked : (site : SiteId) (tid : Tid) (ticket : ℕ) → vote_counts past site tid ≡ true → IsChecked protocols policy past (Ev.Take site (From.Vote tid (Some ticket))) (yes_vote protocols past (Ev.Take site (From.Vote tid (Some ticket))) tid)
  unfolding yes_vote last_vote
  yes_checked site tid ticket t =
      checked_when protocols policy past _ _ _ _
      (λ all. checked_given protocols policy past _ _ _ _ (λ none. commits_checked protocols policy past _ tid _)
      (λ edges e. aborts_checked protocols policy past _ tid (For.Cycle edges) (record { tid = tid; site = site; ticket = ticket; is_vote = refl; is_counted = t; cycle = e })))
      (λ more. quiet_checked protocols policy past _ _ tt)

  counted_checked : (site : SiteId) (tid : Tid) (vote : Option ℕ) → vote_counts past site tid ≡ true → IsChecked protocols policy past (Ev.Take site (From.Vote tid vote)) (vote_counted protocols past site tid vote)
  unfolding vote_counted
  counted_checked site tid None t = aborts_checked protocols policy past _ tid (For.No site) tt
  counted_checked site tid (Some ticket) t = yes_checked site tid ticket t

  vote_checked : (site : SiteId) (tid : Tid) (vote : Option ℕ) → IsChecked protocols policy past (Ev.Take site (From.Vote tid vote)) (of_vote protocols past site tid vote)
  unfolding of_vote
  vote_checked site tid vote =
      checked_when protocols policy past _ _ _ _ (λ t. counted_checked site tid vote t) (λ t. quiet_checked protocols policy past _ _ tt)

  acks_checked : (site : SiteId) (tid : Tid) (decision : Decision) → IsChecked protocols policy past (Ev.Take site (From.Ack tid)) (ack_counts protocols past site tid decision)
  unfolding ack_counts
  acks_checked site tid decision =
      checked_when protocols policy past _ _ _ _ (λ t. record { takes = tt; refuses = tt }) (λ t. quiet_checked protocols policy past _ _ tt)

  acked_checked : (site : SiteId) (tid : Tid) (s : Standing) → IsChecked protocols policy past (Ev.Take site (From.Ack tid)) (acked_while protocols past site tid s)
  unfolding acked_while
  acked_checked site tid (Decided decision) =
      checked_when protocols policy past _ _ _ _ (λ t. acks_checked site tid decision) (λ t. quiet_checked protocols policy past _ _ tt)
  acked_checked site tid Undecided = quiet_checked protocols policy past _ _ tt
  acked_checked site tid Gone = quiet_checked protocols policy past _ _ tt

  asked_checked : (site : SiteId) (tid : Tid) (s : Standing) → IsChecked protocols policy past (Ev.Take site (From.Inquiry tid)) (asked_while protocols site tid s)
  unfolding asked_while
  asked_checked site tid Undecided = quiet_checked protocols policy past _ _ tt
  asked_checked site tid (Decided decision) = record { takes = (tt, tt); refuses = tt }
  asked_checked site tid Gone = record { takes = (tt, tt); refuses = tt }

  take_checked : (site : SiteId) (message : FromSite) → IsChecked protocols policy past (Ev.Take site message) (of_take protocols policy past site message)
  unfolding of_take of_ack of_inquiry
  take_checked site (From.Did tid epoch n reply) = did_checked site tid epoch n reply
  take_checked site (From.Vote tid vote) = vote_checked site tid vote
  take_checked site (From.Ack tid) = acked_checked site tid (standing protocols past tid)
  take_checked site (From.Inquiry tid) = asked_checked site tid (standing protocols past tid)

  all_checked : (tid : Tid) → is_open past tid ≡ true → IsChecked protocols policy past (Ev.Again tid) (sends_all protocols policy past (Ev.Again tid) tid (all_outstanding protocols past tid))
  unfolding sends_all
  all_checked tid opened =
      let dues = all_outstanding protocols past tid in
      dues_checked protocols policy past (Ev.Again tid) tid (defers_all (held_back protocols policy past tid dues) (let_through protocols policy past tid dues)) (let_through protocols policy past tid dues)
      (all_refuses protocols policy past (Ev.Again tid) (held_back protocols policy past tid dues) (let_through protocols policy past tid dues))
      (through_checked protocols policy past (Ev.Again tid) tid dues (same_tid-refl tid) opened)

  again_checked : (tid : Tid) (s : Standing) → standing protocols past tid ≡ s → IsChecked protocols policy past (Ev.Again tid) (again_while protocols policy past tid s)
  unfolding again_while
  again_checked tid Undecided is = all_checked tid (undecided_open (is_open past tid) (known_decision protocols past tid) is)
  again_checked tid (Decided decision) is = record { takes = decides_checked protocols policy past (Ev.Again tid) tid decision (missing protocols past tid decision); refuses = tt }
  again_checked tid Gone is = quiet_checked protocols policy past _ _ tt

  fate_refuses : (tx : Tx) (t : Bool) → Refuses protocols past (Ev.Fate tx) (cond t Say.Unbegun Say.Ended)
  fate_refuses tx true = tt
  fate_refuses tx false = tt

  back_checked : IsChecked protocols policy past Ev.Back (of_back protocols past)
  unfolding of_back
  back_checked = record { takes = tt; refuses = tt }

  check_checked : IsChecked protocols policy past Ev.Check (of_check protocols past)
  unfolding of_check
  check_checked =
      checked_when protocols policy past _ _ _ _ (λ large. quiet_checked protocols policy past _ _ tt) (λ fits. record { takes = tt; refuses = tt })

  answered_checked : (event : CoordEvent) → IsChecked protocols policy past event (answered protocols policy past event)
  unfolding answered of_again of_late of_fate
  answered_checked (Ev.Go tid steps) = go_checked tid steps
  answered_checked (Ev.Take site message) = take_checked site message
  answered_checked (Ev.Again tid) = again_checked tid (standing protocols past tid) refl
  answered_checked (Ev.Late tid) =
      checked_when protocols policy past _ _ _ _ (λ t. aborts_checked protocols policy past _ tid For.Late tt) (λ t. quiet_checked protocols policy past _ _ tt)
  answered_checked (Ev.Fate tx) =
      checked_given protocols policy past _ _ _ _
      (λ none. checked_given protocols policy past _ _ _ _ (λ n. quiet_checked protocols policy past _ _ (fate_refuses tx _)) (λ running e. quiet_checked protocols policy past _ _ tt))
      (λ committed e. quiet_checked protocols policy past _ _ tt)
  answered_checked (Ev.Halt cut) = quiet_checked protocols policy past _ _ tt
  answered_checked (Ev.Trip calls cut) = quiet_checked protocols policy past _ _ tt
  answered_checked Ev.Back = back_checked
  answered_checked Ev.Check = check_checked

  -- a line that a stop ends sends nothing
  tripped_checked : (event : CoordEvent) (t : Option Trip) (x : CoordHappening) → IsChecked protocols policy past event x → IsChecked protocols policy past event (tripped coord_frame (disk past) t x)
  unfolding tripped stopped
  tripped_checked event None x c = c
  tripped_checked event (Some t) x c =
      checked_when protocols policy past event _ _ _ (λ b. record { takes = tt; refuses = tt }) (λ b. c)

  up_checked : (event : CoordEvent) → IsChecked protocols policy past event (when (is_down past) (quiet event Say.Down) (unless_tripped past (answered protocols policy past event)))
  up_checked event =
      checked_when protocols policy past event _ _ _ (λ d. quiet_checked protocols policy past event Say.Down tt)
      (λ d. tripped_checked event (trip past) _ (answered_checked event))

  -- so is each line of the coordinator
  pub coord_checked : (event : CoordEvent) → IsChecked protocols policy past event (coord_line protocols policy past event)
  unfolding coord_line stopped
  coord_checked (Ev.Trip calls cut) = quiet_checked protocols policy past _ _ tt
  coord_checked (Ev.Halt cut) =
      checked_when protocols policy past _ _ _ _ (λ d. quiet_checked protocols policy past _ _ tt) (λ d. record { takes = tt; refuses = tt })
  coord_checked Ev.Back =
      checked_when protocols policy past _ _ _ _ (λ d. tripped_checked Ev.Back (trip past) (of_back protocols past) back_checked)
      (λ d. quiet_checked protocols policy past _ _ tt)
  coord_checked (Ev.Go tid steps) = up_checked (Ev.Go tid steps)
  coord_checked (Ev.Take site message) = up_checked (Ev.Take site message)
  coord_checked (Ev.Again tid) = up_checked (Ev.Again tid)
  coord_checked (Ev.Late tid) = up_checked (Ev.Late tid)
  coord_checked (Ev.Fate tx) = up_checked (Ev.Fate tx)
  coord_checked Ev.Check = up_checked Ev.Check
