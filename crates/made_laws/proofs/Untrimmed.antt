-- Where no command is a check nothing is trimmed, and each journal is all the records.
use Rattle.std.proofs.Common.{◌≡◌, ℕ, Bool, true, false, cond, Option, Some, None, List, [], ◌∷◌, refl, sym, subst, ◌∙◌}
use Rattle.mdb_base.specs.declared.names.SiteId.{SiteId}
use Rattle.mdb_base.specs.declared.names.Tid.{Tid}
use Rattle.mdb_base.specs.declared.names.SiteTicket.{SiteTicket}
use Rattle.mdb_base.specs.declared.names.Tx.{Tx}
use Rattle.mdb_base.specs.declared.acts.Step.{Step}
use Rattle.mdb_base.specs.declared.replies.Reply.{Reply}
use Rattle.mdb_base.specs.declared.replies.Reply.TheVariants as Reply_is
use Rattle.mdb_base.specs.declared.replies.Why.TheVariants as Because
use Rattle.mdb_base.specs.Names.{same_site}
use Rattle.mdb_base.specs.Words.{when}
use Rattle.mdb_base.proofs.ForCallers.{when_either}
use Rattle.presumptions.specs.declared.Participant.{Participant}
use Rattle.fed_rules.specs.declared.answers.Answer.{Answer}
use Rattle.fed_rules.specs.declared.answers.Answer.TheVariants as Say
use Rattle.fed_rules.specs.declared.answers.Cause.{Cause}
use Rattle.fed_rules.specs.declared.commands.Command.{Command}
use Rattle.fed_rules.specs.declared.commands.Command.TheVariants as Cmd
use Rattle.fed_rules.specs.declared.events.CoordEvent.{CoordEvent}
use Rattle.fed_rules.specs.declared.events.CoordEvent.TheVariants as Coord_event
use Rattle.fed_rules.specs.declared.events.SiteEvent.{SiteEvent}
use Rattle.fed_rules.specs.declared.messages.Due.{Due}
use Rattle.fed_rules.specs.declared.messages.FromSite.{FromSite}
use Rattle.fed_rules.specs.declared.messages.FromSite.TheVariants as From
use Rattle.fed_rules.specs.declared.records.CoordRecord.{CoordRecord}
use Rattle.fed_rules.specs.declared.scenario.Scenario.{Scenario}
use Rattle.fed_rules.specs.Coord as C
use Rattle.fed_rules.specs.CoordPast as Coordinator
use Rattle.fed_rules.specs.CoordPast.{CoordHappening, CoordPast, Standing, Undecided, Decided, Gone, standing}
use Rattle.fed_rules.specs.CoordRecords.{coord_frame}
use Rattle.fed_rules.specs.Disk.{CutBack, is_torn}
use Rattle.fed_rules.specs.Happenings.{is_down, quiet, stopped}
use Rattle.fed_rules.specs.Policies.{Policy}
use Rattle.fed_rules.specs.Scenarios.{policy, protocols}
use Rattle.fed_rules.specs.SitePast as Site
use Rattle.fed_rules.specs.SitePast.{SiteHappening, SitePast}
use Rattle.fed_rules.specs.SiteRecords.{Home, site_frame}
use Rattle.fed_rules.specs.Story.{Happened, AtCoordinator, AtSite, Nowhere, Story, coord_past, happens, past_of, story_of, with_coordinator, with_site}
use Rattle.fed_rules.specs.Lines.{CoordCause, IsCoordLine, IsLine, IsSiteLine, SiteCause}
use Rattle.fed_rules.proofs.ForCallers.{line_is}
use Rattle.made_laws.specs.Unchecked.{AreUnchecked, UncheckedJournalsAreWhole, is_check}
use Rattle.made_laws.proofs.Trimless.{TrimsNothing, Trimless, by_given, by_trip, is_trim, trimmed_stays, whole_journal}
use Rattle.made_laws.proofs.SitesTrimNothing.{IsSiteCheck, site_trims}

-- ---- the coordinator

abbrev IsCoordCheck : CoordEvent → Type 0
IsCoordCheck Coord_event.Check = Unit {0}
IsCoordCheck event = ⊥

module _ (table : List Participant) (rule : Policy) (past : CoordPast) where
  forced_trims : (rs : List CoordRecord) → Trimless (C.forced rs)
  unfolding Trimless is_trim
  forced_trims [] = tt
  forced_trims (r ∷ rs) = (refl, (refl, forced_trims rs))

  aborts_trims : (event : CoordEvent) (tid : Tid) (cause : Cause) → TrimsNothing (C.aborts table past event tid cause)
  unfolding C.aborts
  aborts_trims event tid cause = record { calls = forced_trims (C.abort_records table past tid) }

  commits_trims : (event : CoordEvent) (tid : Tid) (tickets : List SiteTicket) → TrimsNothing (C.commits_it table past event tid tickets)
  unfolding C.commits_it Trimless is_trim
  commits_trims event tid tickets = record { calls = (refl, (refl, tt)) }

  dues_trims : (event : CoordEvent) (tid : Tid) (answer : Answer) (dues : List Due) → TrimsNothing (C.sends_dues table past event tid answer dues)
  unfolding C.sends_dues Trimless is_trim
  dues_trims event tid answer dues = when_either TrimsNothing _ _ _ (record { calls = (refl, (refl, tt)) }) (record { calls = tt })

  go_trims : (tid : Tid) (steps : List Step) → TrimsNothing (C.of_go table past tid steps)
  unfolding C.of_go Trimless
  go_trims tid steps = by_given TrimsNothing _ _ _ (by_given TrimsNothing _ _ _ (record { calls = tt }) (λ running. record { calls = tt })) (λ committed. record { calls = tt })

  news_trims : (event : CoordEvent) (tid : Tid) (dues : List Due) → TrimsNothing (C.sends_news table rule past event tid dues)
  unfolding C.sends_news
  news_trims event tid dues = dues_trims event tid _ _

  reply_trims : (site : SiteId) (message : FromSite) (tid : Tid) (reply : Reply) → TrimsNothing (C.did_reply table rule past site message tid reply)
  unfolding C.did_reply Trimless
  reply_trims site message tid (Reply_is.Wait by) = record { calls = tt }
  reply_trims site message tid (Reply_is.Refused (Because.Die by)) = aborts_trims _ tid _
  reply_trims site message tid (Reply_is.Refused (Because.Late by)) = aborts_trims _ tid _
  reply_trims site message tid Reply_is.Unknown = aborts_trims _ tid _
  reply_trims site message tid (Reply_is.Refused (Because.Invalid by key)) = news_trims _ tid _
  reply_trims site message tid (Reply_is.Refused (Because.TicketMoved by)) = news_trims _ tid _
  reply_trims site message tid (Reply_is.Value value) = news_trims _ tid _
  reply_trims site message tid Reply_is.Done = news_trims _ tid _
  reply_trims site message tid (Reply_is.Ticket ticket) = news_trims _ tid _

  vote_trims : (site : SiteId) (tid : Tid) (vote : Option ℕ) → TrimsNothing (C.of_vote table past site tid vote)
  unfolding C.of_vote C.vote_counted C.yes_vote C.last_vote Trimless
  vote_trims site tid vote = when_either TrimsNothing _ _ _ (by_vote vote) (record { calls = tt })
    where
      by_vote : (v : Option ℕ) → TrimsNothing (C.vote_counted table past site tid v)
      by_vote None = aborts_trims _ tid _
      by_vote (Some ticket) = when_either TrimsNothing _ _ _ (by_given TrimsNothing _ _ _ (commits_trims _ tid _) (λ edges. aborts_trims _ tid _)) (record { calls = tt })

  ack_trims : (site : SiteId) (tid : Tid) → TrimsNothing (C.of_ack table past site tid)
  unfolding C.of_ack C.acked_while C.ack_counts Trimless is_trim
  ack_trims site tid = by_standing (standing table past tid)
    where
      by_standing : (s : Standing) → TrimsNothing (C.acked_while table past site tid s)
      by_standing Undecided = record { calls = tt }
      by_standing (Decided decision) = when_either TrimsNothing _ _ _ (when_either TrimsNothing _ _ _ (record { calls = (refl, tt) }) (record { calls = tt })) (record { calls = tt })
      by_standing Gone = record { calls = tt }

  inquiry_trims : (site : SiteId) (tid : Tid) → TrimsNothing (C.of_inquiry table past site tid)
  unfolding C.of_inquiry C.asked_while Trimless
  inquiry_trims site tid = by_standing (standing table past tid)
    where
      by_standing : (s : Standing) → TrimsNothing (C.asked_while table site tid s)
      by_standing Undecided = record { calls = tt }
      by_standing (Decided decision) = record { calls = tt }
      by_standing Gone = record { calls = tt }

  taken_trims : (site : SiteId) (message : FromSite) → TrimsNothing (C.of_take table rule past site message)
  unfolding C.of_take C.of_did Trimless
  taken_trims site (From.Did tid epoch n reply) = when_either TrimsNothing _ _ _ (reply_trims site (From.Did tid epoch n reply) tid reply) (record { calls = tt })
  taken_trims site (From.Vote tid vote) = vote_trims site tid vote
  taken_trims site (From.Ack tid) = ack_trims site tid
  taken_trims site (From.Inquiry tid) = inquiry_trims site tid

  again_trims : (tid : Tid) → TrimsNothing (C.of_again table rule past tid)
  unfolding C.of_again C.again_while C.sends_all Trimless
  again_trims tid = by_standing (standing table past tid)
    where
      by_standing : (s : Standing) → TrimsNothing (C.again_while table rule past tid s)
      by_standing Undecided = dues_trims _ tid _ _
      by_standing (Decided decision) = record { calls = tt }
      by_standing Gone = record { calls = tt }

  late_trims : (tid : Tid) → TrimsNothing (C.of_late table past tid)
  unfolding C.of_late Trimless
  late_trims tid = when_either TrimsNothing _ _ _ (aborts_trims _ tid _) (record { calls = tt })

  told_trims : (tx : Tx) → TrimsNothing (C.of_fate past tx)
  unfolding C.of_fate Trimless
  told_trims tx = by_given TrimsNothing _ _ _ (by_given TrimsNothing _ _ _ (record { calls = tt }) (λ running. record { calls = tt })) (λ committed. record { calls = tt })

  up_trims : TrimsNothing (C.of_back table past)
  unfolding C.of_back Trimless is_trim
  up_trims = by_torn (is_torn coord_frame (Coordinator.disk past))
    where
      by_torn : (b : Bool) → TrimsNothing (record (C.of_back table past) { calls = cond b (CutBack ∷ []) [] })
      by_torn true = record { calls = (refl, tt) }
      by_torn false = record { calls = tt }

  up_or_not : (event : CoordEvent) (x : CoordHappening) → TrimsNothing x → TrimsNothing (when (is_down past) (quiet event Say.Down) (C.unless_tripped past x))
  unfolding Trimless
  up_or_not event x t = when_either TrimsNothing _ _ _ (record { calls = tt }) (by_trip coord_frame (Coordinator.disk past) (Coordinator.trip past) x t)

  coord_trims : (event : CoordEvent) → (IsCoordCheck event → ⊥) → TrimsNothing (C.coord_line table rule past event)
  unfolding C.coord_line C.answered stopped Trimless is_trim
  coord_trims (Coord_event.Trip calls cut) n = record { calls = tt }
  coord_trims (Coord_event.Halt cut) n = when_either TrimsNothing _ _ _ (record { calls = tt }) (record { calls = (refl, tt) })
  coord_trims Coord_event.Back n = when_either TrimsNothing _ _ _ (by_trip coord_frame (Coordinator.disk past) (Coordinator.trip past) (C.of_back table past) up_trims) (record { calls = tt })
  coord_trims (Coord_event.Go tid steps) n = up_or_not (Coord_event.Go tid steps) (C.of_go table past tid steps) (go_trims tid steps)
  coord_trims (Coord_event.Take site message) n = up_or_not (Coord_event.Take site message) (C.of_take table rule past site message) (taken_trims site message)
  coord_trims (Coord_event.Again tid) n = up_or_not (Coord_event.Again tid) (C.of_again table rule past tid) (again_trims tid)
  coord_trims (Coord_event.Late tid) n = up_or_not (Coord_event.Late tid) (C.of_late table past tid) (late_trims tid)
  coord_trims (Coord_event.Fate tx) n = up_or_not (Coord_event.Fate tx) (C.of_fate past tx) (told_trims tx)
  coord_trims Coord_event.Check n = absurd (n tt)

-- ---- a story

module _ (scenario : Scenario) (story : Story) (command : Command) (other : is_check command ≡ false) where
  never_site : (home : Home) (event : SiteEvent) → SiteCause scenario home story command event → IsSiteCheck event → ⊥
  never_site home event c b = by_command command other c
    where
      by_command : (k : Command) → is_check k ≡ false → SiteCause scenario home story k event → ⊥
      by_command (Cmd.Begin other) o c = subst IsSiteCheck c.asks.is b
      by_command (Cmd.Step other) o c = subst IsSiteCheck c.asks.is b
      by_command (Cmd.Commit other) o c = subst IsSiteCheck c.asks.is b
      by_command (Cmd.Abort other) o c = subst IsSiteCheck c.asks.is b
      by_command (Cmd.Fate other) o c = subst IsSiteCheck c.asks b
      by_command (Cmd.Give site place) o c = subst IsSiteCheck c.1.is b
      by_command (Cmd.Ask site tid) o c = subst IsSiteCheck c.1 b
      by_command (Cmd.Drop site tid) o c = subst IsSiteCheck c.1 b
      by_command (Cmd.Halt actor cut) o c = subst IsSiteCheck c.1 b
      by_command (Cmd.Trip actor calls cut) o c = subst IsSiteCheck c.1 b
      by_command (Cmd.Back actor) o c = subst IsSiteCheck c.1 b
      by_command (Cmd.Check actor) o c = cc
      by_command (Cmd.Go other) o c = c
      by_command (Cmd.Again tid) o c = c
      by_command (Cmd.Late tid) o c = c
      by_command (Cmd.Take site place) o c = c

  never_coord : (event : CoordEvent) → CoordCause scenario story command event → IsCoordCheck event → ⊥
  never_coord event c b = by_command command other c
    where
      by_command : (k : Command) → is_check k ≡ false → CoordCause scenario story k event → ⊥
      by_command (Cmd.Go other) o c = subst IsCoordCheck c.is b
      by_command (Cmd.Fate other) o c = subst IsCoordCheck c.is b
      by_command (Cmd.Again tid) o c = subst IsCoordCheck c b
      by_command (Cmd.Late tid) o c = subst IsCoordCheck c b
      by_command (Cmd.Take site place) o c = subst IsCoordCheck c.is b
      by_command (Cmd.Halt actor cut) o c = subst IsCoordCheck c.1 b
      by_command (Cmd.Trip actor calls cut) o c = subst IsCoordCheck c.1 b
      by_command (Cmd.Back actor) o c = subst IsCoordCheck c.1 b
      by_command (Cmd.Check actor) o c = cc
      by_command (Cmd.Begin other) o c = c
      by_command (Cmd.Step other) o c = c
      by_command (Cmd.Commit other) o c = c
      by_command (Cmd.Abort other) o c = c
      by_command (Cmd.Give site place) o c = c
      by_command (Cmd.Ask site tid) o c = c
      by_command (Cmd.Drop site tid) o c = c

  site_line_trims : (site : SiteId) (x : SiteHappening) → IsSiteLine scenario story command site x → TrimsNothing x
  site_line_trims site x line = subst TrimsNothing (sym line.is_next) (site_trims line.home (past_of line.home.site story) line.event (never_site line.home line.event line.cause))

  coord_line_trims : (x : CoordHappening) → IsCoordLine scenario story command x → TrimsNothing x
  coord_line_trims x line = subst TrimsNothing (sym line.is_next) (coord_trims (protocols scenario) (policy scenario) (coord_past story) line.event (never_coord line.event line.cause))

site_untrimmed : (scenario : Scenario) (home : Home) (site : SiteId) (commands : List Command) → AreUnchecked commands → (Site.disk home (past_of site (story_of scenario commands))).trimmed ≡ 0
site_untrimmed scenario home site [] u = refl
site_untrimmed scenario home site (command ∷ commands) u = by_line (happens scenario (story_of scenario commands) command) (line_is scenario (story_of scenario commands) command) (site_untrimmed scenario home site commands u.1)
  where
    by_line : (h : Happened) → IsLine scenario (story_of scenario commands) command h → (Site.disk home (past_of site (story_of scenario commands))).trimmed ≡ 0
        → (Site.disk home (with_site site h (past_of site (story_of scenario commands)))).trimmed ≡ 0
    by_line (AtCoordinator x) line e = e
    by_line (Nowhere answer) line e = e
    by_line (AtSite at x) line e = by_test (same_site at site)
      where
        by_test : (b : Bool) → (Site.disk home (cond b (x ∷ past_of site (story_of scenario commands)) (past_of site (story_of scenario commands)))).trimmed ≡ 0
        by_test true = trimmed_stays site_frame (Site.disk home (past_of site (story_of scenario commands))) x.calls (site_line_trims scenario (story_of scenario commands) command u.0 at x line).calls ∙ e
        by_test false = e

coord_untrimmed : (scenario : Scenario) (commands : List Command) → AreUnchecked commands → (Coordinator.disk (coord_past (story_of scenario commands))).trimmed ≡ 0
coord_untrimmed scenario [] u = refl
coord_untrimmed scenario (command ∷ commands) u = by_line (happens scenario (story_of scenario commands) command) (line_is scenario (story_of scenario commands) command) (coord_untrimmed scenario commands u.1)
  where
    by_line : (h : Happened) → IsLine scenario (story_of scenario commands) command h → (Coordinator.disk (coord_past (story_of scenario commands))).trimmed ≡ 0
        → (Coordinator.disk (with_coordinator h (coord_past (story_of scenario commands)))).trimmed ≡ 0
    by_line (AtSite at x) line e = e
    by_line (Nowhere answer) line e = e
    by_line (AtCoordinator x) line e =
        trimmed_stays coord_frame (Coordinator.disk (coord_past (story_of scenario commands))) x.calls (coord_line_trims scenario (story_of scenario commands) command u.0 x line).calls ∙ e

pub journals_whole : UncheckedJournalsAreWhole
journals_whole scenario commands u = record {
  sites = λ home site. whole_journal site_frame (Site.disk home (past_of site (story_of scenario commands))) (site_untrimmed scenario home site commands u);
  coordinator = whole_journal coord_frame (Coordinator.disk (coord_past (story_of scenario commands))) (coord_untrimmed scenario commands u);
}
