-- The lines that the coordinator makes while a session is closed.
use Rattle.std.proofs.Common.{◌≡◌, ℕ, Bool, true, false, cond, Some, None, List, [], ◌∷◌, ◌++◌, refl, sym, ap, subst, ◌∙◌}
use Rattle.mdb_base.specs.declared.names.SiteId.{SiteId}
use Rattle.mdb_base.specs.declared.names.Tid.{Tid}
use Rattle.mdb_base.specs.Names.{same_tid}
use Rattle.mdb_base.specs.Words.{when, given, item_at, some_of}
use Rattle.mdb_base.proofs.ForCallers.{among_some, same_tid-refl, when-true}
use Rattle.presumptions.specs.declared.Decision.TheVariants as Decided_as
use Rattle.order_laws.proofs.ForCallers.{is_among}
use Rattle.fed_rules.specs.declared.answers.Answer.TheVariants as Say
use Rattle.fed_rules.specs.declared.answers.Cause.TheVariants as For
use Rattle.fed_rules.specs.declared.commands.Command.{Command}
use Rattle.fed_rules.specs.declared.commands.Command.TheVariants as Cmd
use Rattle.fed_rules.specs.declared.events.CoordEvent.{CoordEvent}
use Rattle.fed_rules.specs.declared.events.CoordEvent.TheVariants as Ev
use Rattle.fed_rules.specs.declared.messages.FromSite.{FromSite}
use Rattle.fed_rules.specs.declared.messages.FromSite.TheVariants as From
use Rattle.fed_rules.specs.declared.scenario.Scenario.{Scenario}
use Rattle.fed_rules.specs.Coord.{coord_line, sends_dues, aborts, ack_counts, acked_while, of_ack, asked_while, of_inquiry, of_take, again_while, of_again, of_late, forgets_at_once, sends_all, abort_records, defers_some, defers_all}
use Rattle.fed_rules.specs.CoordPast.{CoordHappening, CoordPast, Standing, Undecided, Decided, Gone, standing, begun_tids, trip_of, is_open, known_decision, standing_of, records}
use Rattle.fed_rules.specs.Scenarios.{protocols, policy}
use Rattle.fed_rules.specs.Sessions.{Session}
use Rattle.fed_rules.specs.Story.{Story, AtCoordinator, Nowhere, coord_past, sent_from, at_coordinator, on_attempt, on_take, happens, story_in, coord_requested}
use Rattle.commit_laws.proofs.ForCallers.{CoordinatorFits, member_of, nowhere, session_sound}
use Rattle.coord_laws.proofs.ForCallers.{IsBegun, begun_in, coord_lines, is_undecided}
use Rattle.closing_laws.proofs.Calm.{lates, agains, takes, IsPlain, plain_mild, undecided_open}
use Rattle.closing_laws.proofs.Onward.{IsCalm, IsGentle, gentle_nowhere, onward_next}
use Rattle.fed_rules.specs.declared.messages.Due.{Due}
use Rattle.fed_rules.specs.CoordCommands.{attempt_request}
use Rattle.fed_rules.specs.Requests.{Submits, Declines}
use Rattle.fed_rules.proofs.ForCallers.{IsNoGo}

-- branches of a rule
plain_when : (t : Bool) (a b : CoordHappening) → IsPlain a.answer → IsPlain b.answer → IsPlain (when t a b).answer
unfolding when
plain_when true a b p q = p
plain_when false a b p q = q

plain_late : (scenario : Scenario) (past : CoordPast) (tid : Tid) → IsPlain (of_late (protocols scenario) past tid).answer
unfolding of_late aborts
plain_late scenario past tid = plain_when (is_open past tid) _ _ refl refl

plain_some : (held : List Due) → IsPlain (defers_some held)
plain_some [] = refl
plain_some (due ∷ held) = refl

plain_defers : (held sent : List Due) → IsPlain (defers_all held sent)
plain_defers held [] = plain_some held
plain_defers held (due ∷ sent) = refl

plain_again : (scenario : Scenario) (past : CoordPast) (tid : Tid) → IsPlain (of_again (protocols scenario) (policy scenario) past tid).answer
unfolding of_again again_while sends_all sends_dues
plain_again scenario past tid = by_standing (standing (protocols scenario) past tid)
  where
    by_standing : (s : Standing) → IsPlain (again_while (protocols scenario) (policy scenario) past tid s).answer
    by_standing Undecided = plain_when _ _ _ refl (plain_defers _ _)
    by_standing (Decided decision) = refl
    by_standing Gone = refl

plain_ack : (scenario : Scenario) (past : CoordPast) (site : SiteId) (tid : Tid) → IsPlain (of_ack (protocols scenario) past site tid).answer
unfolding of_ack acked_while ack_counts
plain_ack scenario past site tid = by_standing (standing (protocols scenario) past tid)
  where
    by_standing : (s : Standing) → IsPlain (acked_while (protocols scenario) past site tid s).answer
    by_standing Undecided = refl
    by_standing (Decided decision) = plain_when _ _ _ (plain_when _ _ _ refl refl) refl
    by_standing Gone = refl

plain_inquiry : (scenario : Scenario) (past : CoordPast) (site : SiteId) (tid : Tid) → IsPlain (of_inquiry (protocols scenario) past site tid).answer
unfolding of_inquiry asked_while
plain_inquiry scenario past site tid = by_standing (standing (protocols scenario) past tid)
  where
    by_standing : (s : Standing) → IsPlain (asked_while (protocols scenario) site tid s).answer
    by_standing Undecided = refl
    by_standing (Decided decision) = refl
    by_standing Gone = refl

-- a plain line of the coordinator, no `go`, is gentle
gentle_line : (session : Session) (fits : CoordinatorFits session) (commands : List Command) (event : CoordEvent) (tid : Tid) → IsPlain (coord_line (protocols session.plan) (policy session.plan) (coord_past (story_in session commands)) event).answer
    → IsNoGo event → trip_of event ≡ None → IsGentle session.plan (story_in session commands) (at_coordinator session.plan (story_in session commands) event)
gentle_line session fits commands event tid p calm t =
    let past = coord_past (story_in session commands) in
    let firm = (session_sound session fits (member_of nowhere) tid commands).firm in
    record { mildly = plain_mild (protocols session.plan) (policy session.plan) past event (coord_line (protocols session.plan) (policy session.plan) past event) firm refl (coord_lines (protocols session.plan) (policy session.plan) tid past event firm).is p calm t }

-- an event about an attempt, where its line is gentle
gentle_attempt : (scenario : Scenario) (story : Story) (tid : Tid) (event : CoordEvent) → IsGentle scenario story (at_coordinator scenario story event)
    → IsGentle scenario story (on_attempt scenario story tid event)
unfolding on_attempt attempt_request when
gentle_attempt scenario story tid event g = by_test (some_of (same_tid tid) (begun_tids (coord_past story)))
  where
    by_test : (b : Bool) → IsGentle scenario story (coord_requested scenario story (when b (Submits event) (Declines Say.None)))
    by_test true = g
    by_test false = gentle_nowhere scenario story Say.None

pub gentle_late : (session : Session) (fits : CoordinatorFits session) (commands : List Command) (tid : Tid) → IsCalm (story_in session commands) → IsGentle session.plan (story_in session commands) (happens session.plan (story_in session commands) (Cmd.Late tid))
unfolding happens
gentle_late session fits commands tid c =
    let past = coord_past (story_in session commands) in
    gentle_attempt session.plan (story_in session commands) tid (Ev.Late tid)
    (gentle_line session fits commands (Ev.Late tid) tid (subst (λ x. IsPlain x.answer) (sym (lates (protocols session.plan) (policy session.plan) past tid c.coordinator)) (plain_late session.plan past tid)) tt refl)

pub gentle_again : (session : Session) (fits : CoordinatorFits session) (commands : List Command) (tid : Tid) → IsCalm (story_in session commands) → IsGentle session.plan (story_in session commands) (happens session.plan (story_in session commands) (Cmd.Again tid))
unfolding happens
gentle_again session fits commands tid c =
    let past = coord_past (story_in session commands) in
    gentle_attempt session.plan (story_in session commands) tid (Ev.Again tid)
    (gentle_line session fits commands (Ev.Again tid) tid (subst (λ x. IsPlain x.answer) (sym (agains (protocols session.plan) (policy session.plan) past tid c.coordinator)) (plain_again session.plan past tid)) tt refl)

-- what the coordinator takes at a place
pub takes_there : (scenario : Scenario) (story : Story) (site : SiteId) (n : ℕ) (message : FromSite) → item_at (sent_from site story) n ≡ Some message
    → happens scenario story (Cmd.Take site n) ≡ at_coordinator scenario story (Ev.Take site message)
unfolding happens on_take given
takes_there scenario story site n message e = ap (λ o. given o (λ m. at_coordinator scenario story (Ev.Take site m)) (Nowhere Say.None)) e

pub gentle_ack : (session : Session) (fits : CoordinatorFits session) (commands : List Command) (site : SiteId) (n : ℕ) (tid : Tid) → IsCalm (story_in session commands) → item_at (sent_from site (story_in session commands)) n ≡ Some (From.Ack tid)
    → IsGentle session.plan (story_in session commands) (happens session.plan (story_in session commands) (Cmd.Take site n))
unfolding of_take
gentle_ack session fits commands site n tid c e =
    let past = coord_past (story_in session commands) in
    subst (IsGentle session.plan (story_in session commands)) (sym (takes_there session.plan (story_in session commands) site n (From.Ack tid) e))
    (gentle_line session fits commands (Ev.Take site (From.Ack tid)) tid (subst (λ x. IsPlain x.answer) (sym (takes (protocols session.plan) (policy session.plan) past site (From.Ack tid) c.coordinator)) (plain_ack session.plan past site tid)) tt refl)

pub gentle_inquiry : (session : Session) (fits : CoordinatorFits session) (commands : List Command) (site : SiteId) (n : ℕ) (tid : Tid) → IsCalm (story_in session commands) → item_at (sent_from site (story_in session commands)) n ≡ Some (From.Inquiry tid)
    → IsGentle session.plan (story_in session commands) (happens session.plan (story_in session commands) (Cmd.Take site n))
unfolding of_take
gentle_inquiry session fits commands site n tid c e =
    let past = coord_past (story_in session commands) in
    subst (IsGentle session.plan (story_in session commands)) (sym (takes_there session.plan (story_in session commands) site n (From.Inquiry tid) e))
    (gentle_line session fits commands (Ev.Take site (From.Inquiry tid)) tid (subst (λ x. IsPlain x.answer) (sym (takes (protocols session.plan) (policy session.plan) past site (From.Inquiry tid) c.coordinator)) (plain_inquiry session.plan past site tid)) tt refl)

-- so the coordinator hears of it
pub hears_of : (scenario : Scenario) (story : Story) (tid : Tid) (event : CoordEvent) → IsBegun (coord_past story) tid → on_attempt scenario story tid event ≡ at_coordinator scenario story event
unfolding on_attempt attempt_request
hears_of scenario story tid event b =
    ap (coord_requested scenario story) (when-true _ _ _ (among_some (same_tid tid) (begun_tids (coord_past story)) (is_among (λ t. same_tid tid t ≡ true) tid (begun_tids (coord_past story)) (begun_in (coord_past story) tid b) (same_tid-refl tid))))

-- an abort leaves it decided or forgotten
aborted_decided : (scenario : Scenario) (past : CoordPast) (tid : Tid) → is_undecided (standing (protocols scenario) (aborts (protocols scenario) past (Ev.Late tid) tid For.Late ∷ past) tid) ≡ false
unfolding aborts
aborted_decided scenario past tid =
    ap (λ b. is_undecided (standing_of (cond b false (is_open past tid)) (cond b (cond forgets None (Some Decided_as.Abort)) (known_decision (protocols scenario) past tid)))) (same_tid-refl tid)
    ∙ by_test forgets
  where
    forgets : Bool
    forgets = forgets_at_once (protocols scenario) (abort_records (protocols scenario) past tid ++ records past) tid Decided_as.Abort

    by_test : (b : Bool) → is_undecided (standing_of false (cond b None (Some Decided_as.Abort))) ≡ false
    by_test true = refl
    by_test false = refl

-- an attempt that is given up is decided then
pub late_decides : (session : Session) (fits : CoordinatorFits session) (commands : List Command) (tid : Tid) → IsCalm (story_in session commands)
    → is_undecided (standing (protocols session.plan) (coord_past (story_in session (Cmd.Late tid ∷ commands))) tid) ≡ false
unfolding happens of_late
late_decides session fits commands tid c = by_test (is_undecided (standing (protocols session.plan) past tid)) refl
  where
    story : Story
    story = story_in session commands

    past : CoordPast
    past = coord_past story

    by_test : (b : Bool) → is_undecided (standing (protocols session.plan) past tid) ≡ b → is_undecided (standing (protocols session.plan) (coord_past (story_in session (Cmd.Late tid ∷ commands))) tid) ≡ false
    by_test false e = (onward_next session.plan story (Cmd.Late tid) (happens session.plan story (Cmd.Late tid)) c (gentle_late session fits commands tid c)).decided tid e
    by_test true e =
        let begun = (session_sound session fits (member_of nowhere) tid commands).undecided e in
        let line : coord_line (protocols session.plan) (policy session.plan) past (Ev.Late tid) ≡ aborts (protocols session.plan) past (Ev.Late tid) tid For.Late =
        lates (protocols session.plan) (policy session.plan) past tid c.coordinator ∙ when-true _ _ _ (undecided_open (is_open past tid) (known_decision (protocols session.plan) past tid) e) in
        let told : happens session.plan story (Cmd.Late tid) ≡ AtCoordinator (aborts (protocols session.plan) past (Ev.Late tid) tid For.Late) =
        hears_of session.plan story tid (Ev.Late tid) begun ∙ ap (λ x. AtCoordinator x) line in
        subst (λ h. is_undecided (standing (protocols session.plan) (coord_past (record { command = Cmd.Late tid; happened = h } ∷ story)) tid) ≡ false) (sym told) (aborted_decided session.plan past tid)
