-- Where tickets are taken conservatively, a printed line refuses a commit for a cycle no more than the line of the story does.
use Rattle.std.proofs.Common.{◌≡◌, ℕ, zero, suc, Bool, true, false, Option, Some, None, List, [], ◌∷◌, map, refl, subst}
use Rattle.fed_rules.specs.declared.answers.Answer.{Answer}
use Rattle.fed_rules.specs.declared.answers.Answer.TheVariants as Say
use Rattle.fed_rules.specs.declared.answers.Cause.TheVariants as For
use Rattle.fed_rules.specs.declared.commands.Line.{Line}
use Rattle.mdb_base.specs.declared.replies.Edge.{Edge}
use Rattle.fed_rules.specs.declared.events.CoordEvent.{CoordEvent}
use Rattle.fed_rules.specs.declared.events.CoordEvent.TheVariants as Ev
use Rattle.fed_rules.specs.declared.scenario.Scenario.{Scenario}
use Rattle.fed_rules.specs.CoordPast.{CoordHappening, CoordPast}
use Rattle.fed_rules.specs.Plans.{IsScenario}
use Rattle.fed_rules.specs.Right.{IsAnswer, IsNext, MayPrint, SameButCycle}
use Rattle.fed_rules.specs.Scenarios.{protocols}
use Rattle.fed_rules.specs.Sessions.{fresh}
use Rattle.fed_rules.specs.Story.{Happened, AtSite, AtCoordinator, Nowhere, Story, coord_past, happens, story_of}
use Rattle.federation_laws.specs.Conservative.{ConservativeTicketsCloseNoCycle, RefusesForCycle}
use Rattle.line_laws.specs.Refusals.{ConservativeLinesRefuseNone, ConservativeNextLinesRefuseNone}
use Rattle.mdb_base.specs.declared.names.SiteId.{SiteId}
use Rattle.mdb_base.specs.declared.names.Tid.{Tid}
use Rattle.fed_rules.specs.SiteRecords.{Home}
use Rattle.mdb_base.specs.Words.{given, item_at, when}
use Rattle.fed_rules.specs.declared.commands.Command.{Command}
use Rattle.fed_rules.specs.declared.commands.Command.TheVariants as Cmd
use Rattle.fed_rules.specs.declared.events.SiteEvent.{SiteEvent}
use Rattle.fed_rules.specs.Requests.{Submits, Declines}
use Rattle.fed_rules.specs.CoordCommands.{attempt_request}
use Rattle.fed_rules.specs.Scenarios.{home_of}
use Rattle.fed_rules.specs.Story.{coord_requested, on_actor, on_attempt, on_give, on_site, on_take, sent_from, sent_to}
use Rattle.fed_rules.specs.Lines.{IsLine, SiteCause}
use Rattle.fed_rules.proofs.ForCallers.{line_is}
use Rattle.line_text.specs.Fits.{answer_fits}
use Rattle.line_laws.proofs.Happened.{Word, site_line_fit, word}
use Rattle.line_laws.proofs.RightLines.{state_of}
use Rattle.line_laws.proofs.Starts.{Starts, State, fresh_starts}

-- what may be answered a refusal for a cycle
abbrev MayRefuse : Command → Type 0
MayRefuse (Cmd.Late tid) = Unit {0}
MayRefuse (Cmd.Take site place) = Unit {0}
MayRefuse command = ⊥

no_refusal : (command : Command) (answer : Answer) → (MayRefuse command → ⊥) → answer_fits command answer ≡ true → RefusesForCycle answer → ⊥
no_refusal command (Say.Decides d (Some (For.Cycle edges)) f) never fits r = by_command command never fits
  where
    by_command : (k : Command) → (MayRefuse k → ⊥) → answer_fits k (Say.Decides d (Some (For.Cycle edges)) f) ≡ true → ⊥
    by_command (Cmd.Late tid) never fits = never tt
    by_command (Cmd.Take site place) never fits = never tt
    by_command k never fits = cc
no_refusal command answer never fits r = absurd r

-- ---- what nobody hears

abbrev Silent : Happened → Type 0
Silent (AtSite site x) = Unit {0}
Silent (AtCoordinator x) = Unit {0}
Silent (Nowhere answer) = RefusesForCycle answer → ⊥

record Quiet (h : Happened) : Type 0 where
  quiet : Silent h

quiet_given : {A : Type 0} (o : Option A) (none : Happened) (some : A → Happened) → Quiet none → ((a : A) → Quiet (some a)) → Quiet (given o some none)
unfolding given
quiet_given None none some p q = p
quiet_given (Some a) none some p q = q a

said_none : Quiet (Nowhere Say.None)
said_none = record { quiet = λ r. r }

module _ (scenario : Scenario) (whole : IsScenario scenario) (commands : List Command) where
  abbrev story : Story
  story = story_of scenario commands

  start : Starts (fresh scenario)
  start = fresh_starts scenario whole

  state : State (fresh scenario) commands
  state = state_of (fresh scenario) start commands

  from_word : (command : Command) (h : Happened) → (MayRefuse command → ⊥) → Word (fresh scenario) start commands state command h → Quiet h
  from_word command (AtSite site x) never w = record { quiet = tt }
  from_word command (AtCoordinator x) never w = record { quiet = tt }
  from_word command (Nowhere answer) never w = record { quiet = no_refusal command answer never w.word.fits }

  quiet_attempt : (tid : Tid) (event : CoordEvent) → Quiet (on_attempt scenario story tid event)
  unfolding on_attempt attempt_request when
  quiet_attempt tid event = by_test _
    where
      by_test : (b : Bool) → Quiet (coord_requested scenario story (when b (Submits event) (Declines Say.None)))
      by_test true = record { quiet = tt }
      by_test false = said_none

  quiet_site : (site : SiteId) (event : SiteEvent) → Quiet (on_site scenario story site event)
  unfolding on_site
  quiet_site site event = quiet_given (home_of scenario site) _ _ said_none (λ home. record { quiet = tt })

  quiet_give : (site : SiteId) (place : ℕ) → Quiet (on_give scenario story site place)
  unfolding on_give
  quiet_give site place = quiet_given (item_at (sent_to site story) place) _ _ said_none (λ message. quiet_site site _)

  quiet_take : (site : SiteId) (place : ℕ) → Quiet (on_take scenario story site place)
  unfolding on_take
  quiet_take site place = quiet_given (item_at (sent_from site story) place) _ _ said_none (λ message. record { quiet = tt })

  quiet_actor : (actor : ℕ) (at_coord : CoordEvent) (at : SiteEvent) → Quiet (on_actor scenario story actor at_coord at)
  unfolding on_actor
  quiet_actor zero at_coord at = record { quiet = tt }
  quiet_actor (suc n) at_coord at = quiet_site (record { 0 = suc n }) at

  quiet_command : (command : Command) → Quiet (happens scenario story command)
  unfolding happens
  quiet_command (Cmd.Begin tx) = from_word (Cmd.Begin tx) _ (λ x. x) (word (fresh scenario) start commands state (Cmd.Begin tx) tt)
  quiet_command (Cmd.Step tx) = from_word (Cmd.Step tx) _ (λ x. x) (word (fresh scenario) start commands state (Cmd.Step tx) tt)
  quiet_command (Cmd.Commit tx) = from_word (Cmd.Commit tx) _ (λ x. x) (word (fresh scenario) start commands state (Cmd.Commit tx) tt)
  quiet_command (Cmd.Abort tx) = from_word (Cmd.Abort tx) _ (λ x. x) (word (fresh scenario) start commands state (Cmd.Abort tx) tt)
  quiet_command (Cmd.Fate tx) = from_word (Cmd.Fate tx) _ (λ x. x) (word (fresh scenario) start commands state (Cmd.Fate tx) tt)
  quiet_command (Cmd.Go tx) = from_word (Cmd.Go tx) _ (λ x. x) (word (fresh scenario) start commands state (Cmd.Go tx) tt)
  quiet_command (Cmd.Again tid) = quiet_attempt tid _
  quiet_command (Cmd.Late tid) = quiet_attempt tid _
  quiet_command (Cmd.Give site place) = quiet_give site place
  quiet_command (Cmd.Take site place) = quiet_take site place
  quiet_command (Cmd.Ask site tid) = quiet_site site _
  quiet_command (Cmd.Drop site tid) = quiet_site site _
  quiet_command (Cmd.Halt actor cut) = quiet_actor actor _ _
  quiet_command (Cmd.Trip actor calls cut) = quiet_actor actor _ _
  quiet_command (Cmd.Back actor) = quiet_actor actor _ _
  quiet_command (Cmd.Check actor) = quiet_actor actor _ _

  -- a site hears neither of these
  site_never : (home : Home) (command : Command) (event : SiteEvent) → SiteCause scenario home story command event → MayRefuse command → ⊥
  site_never home (Cmd.Late tid) event c m = c
  site_never home (Cmd.Take site place) event c m = c
  site_never home command event c m = m

  -- ---- what is printed

  told_refuses : (IsOne : List Edge → Type 0) (printed told : Answer) → SameButCycle IsOne printed told → RefusesForCycle printed → RefusesForCycle told
  told_refuses IsOne (Say.Decides d (Some (For.Cycle edges)) f) (Say.Decides e (Some (For.Cycle others)) g) s r = tt
  told_refuses IsOne printed told s r = subst RefusesForCycle s r

  coord_refuses : (past : CoordPast) (x : CoordHappening) (event : CoordEvent) (printed : Answer) → MayPrint (protocols scenario) past x event printed → RefusesForCycle printed → RefusesForCycle x.answer
  coord_refuses past x (Ev.Take site message) printed m r = told_refuses _ printed x.answer m r
  coord_refuses past x event printed m r = subst RefusesForCycle m r

  module _ (conservative : scenario.conservative ≡ true) (law : ConservativeTicketsCloseNoCycle) where
    unrefused : (command : Command) (h : Happened) (printed : Answer) → happens scenario story command ≡ h → IsLine scenario story command h → Quiet h → IsAnswer (protocols scenario) story h printed → RefusesForCycle printed → ⊥
    unrefused command (AtSite site x) printed e line q a r =
        no_refusal command x.answer (site_never line.home command line.event line.cause) (site_line_fit (fresh scenario) start commands state command site x line).answer (subst RefusesForCycle a r)
    unrefused command (AtCoordinator x) printed e line q a r = law scenario whole conservative commands x (command, e) (coord_refuses (coord_past story) x x.event printed a r)
    unrefused command (Nowhere answer) printed e line q a r = q.quiet (subst RefusesForCycle a r)

    pub next_unrefused : (line : Line) → IsNext scenario story line → RefusesForCycle line.answer → ⊥
    next_unrefused line next = unrefused line.command (happens scenario story line.command) line.answer refl (line_is scenario story line.command) (quiet_command line.command) next.answer

pub nexts_unrefused : ConservativeTicketsCloseNoCycle → ConservativeNextLinesRefuseNone
nexts_unrefused law scenario whole conservative commands line next = next_unrefused scenario whole commands conservative law line next

pub lines_unrefused : ConservativeTicketsCloseNoCycle → ConservativeLinesRefuseNone
lines_unrefused law scenario whole conservative [] right = tt
lines_unrefused law scenario whole conservative (line ∷ lines) right =
    (next_unrefused scenario whole (map (λ (l : Line). l.command) lines) conservative law line right.1, lines_unrefused law scenario whole conservative lines right.0)
