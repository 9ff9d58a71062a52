-- A command that begins no attempt leaves the number of the attempts of each transaction as it was, and no command takes a commit away.
use Rattle.std.proofs.Common.{◌≡◌, ◌++◌, suc, Bool, true, false, cond, is_some, Option, Some, None, List, [], ◌∷◌, refl, sym, ap, subst, ◌∙◌}
use Rattle.mdb_base.specs.declared.acts.Step.{Step}
use Rattle.mdb_base.specs.declared.names.Tid.{Tid}
use Rattle.mdb_base.specs.declared.names.Tx.{Tx}
use Rattle.mdb_base.specs.Names.{same_site, same_tx}
use Rattle.mdb_base.specs.Words.{how_many, with_some}
use Rattle.fed_rules.specs.declared.commands.Command.{Command}
use Rattle.fed_rules.specs.declared.commands.Command.TheVariants as Cmd
use Rattle.fed_rules.specs.declared.events.CoordEvent.TheVariants as Coord_event
use Rattle.fed_rules.specs.declared.events.SiteEvent.{SiteEvent}
use Rattle.fed_rules.specs.declared.scenario.Scenario.{Scenario}
use Rattle.fed_rules.specs.Closing.{is_done, is_done_at}
use Rattle.fed_rules.specs.CoordPast as Coordinator
use Rattle.fed_rules.specs.CoordPast.{CoordHappening, CoordPast, begins, begun_by, begun_tids, kept_decision, standing, standing_of}
use Rattle.fed_rules.specs.CoordRecords.{committed_of}
use Rattle.fed_rules.specs.Scenarios.{home_of, local_home, protocols}
use Rattle.fed_rules.specs.Site.{site_line}
use Rattle.fed_rules.specs.SitePast.{SiteHappening, SitePast, attempts_of, begins_tx, records}
use Rattle.fed_rules.specs.SiteRecords.{Home, local_of}
use Rattle.fed_rules.specs.Story.{Story, Happened, AtSite, AtCoordinator, Nowhere, coord_past, happens, past_of, story_of}
use Rattle.fed_rules.specs.Lines.{CoordCause, IsLine, IsCoordLine, SiteCause}
use Rattle.fed_rules.proofs.ForCallers.{begins_nothing, line_is}
use Rattle.coord_laws.proofs.ForCallers.{begins_go}
use Rattle.federation_laws.proofs.ForCallers.{local_home-declared}
use Rattle.closing_laws.specs.Finished.{begun, begun_at}
use Rattle.closing_laws.proofs.ForCallers.{Begins, BeginsNoneOf, IsBeginOf, among_committed, among_local, begun_is, by_line, commit_stays, committed_among, local_among, local_stays, no_begin, no_go, turn_line}
use Rattle.mdb_base.specs.Words.{Each}
use Rattle.mdb_base.proofs.ForCallers.{same_site-equal, some_parts}
use Rattle.progress_laws.specs.Added.{is_of_closing}

pub closing_begins_nothing : (command : Command) → is_of_closing command ≡ true → begins_nothing command ≡ true
closing_begins_nothing (Cmd.Begin tx) e = cc
closing_begins_nothing (Cmd.Go tx) e = cc
closing_begins_nothing command e = refl

begins_none : (tx : Tx) (command : Command) → begins_nothing command ≡ true → BeginsNoneOf tx command
begins_none tx (Cmd.Begin other) e = cc
begins_none tx (Cmd.Go other) e = cc
begins_none tx command e = tt

-- one command
module _ (scenario : Scenario) (commands : List Command) (command : Command) (tx : Tx) where
  abbrev story : Story
  story = story_of scenario commands

  -- at the home of a local transaction
  module _ (home : Home) (declared : home_of scenario home.site ≡ Some home) (x : SiteHappening) (told : happens scenario story command ≡ AtSite home.site x)
      (event : SiteEvent) (is_next : x ≡ site_line home (past_of home.site story) event) (cause : SiteCause scenario home story command event) where
    abbrev past : SitePast
    past = past_of home.site story

    done_local : is_some (local_of (records home past) tx) ≡ true → is_some (local_of (records home (x ∷ past)) tx) ≡ true
    done_local e = among_local tx (records home (x ∷ past)) (local_stays scenario commands command tx home declared x told (local_among tx (records home past) e))

    same_begun : begins_nothing command ≡ true → attempts_of (x ∷ past) tx ≡ attempts_of past tx
    same_begun nothing = by_begun (begins_tx tx x.answer) refl
      where
        begins_it : begins_tx tx x.answer ≡ true → IsBeginOf tx event
        begins_it = (subst (Begins tx event) (sym is_next) (by_line tx home past event)).begins

        by_begun : (b : Bool) → begins_tx tx x.answer ≡ b → cond b (suc (attempts_of past tx)) (attempts_of past tx) ≡ attempts_of past tx
        by_begun true q = absurd (no_begin scenario story command tx (begins_none tx command nothing) home event cause (begins_it q))
        by_begun false q = refl

  -- at the coordinator
  module _ (x : CoordHappening) (told : happens scenario story command ≡ AtCoordinator x) (line : IsCoordLine scenario story command x) where
    abbrev own : CoordPast
    own = coord_past story

    done_committed : is_some (committed_of (Coordinator.records own) tx) ≡ true → is_some (committed_of (Coordinator.records (x ∷ own)) tx) ≡ true
    done_committed e = let (t, same, i) = committed_among tx (Coordinator.records own) e in among_committed tx t (Coordinator.records (x ∷ own)) same (commit_stays scenario commands command x told line t i)

    same_attempts : begins_nothing command ≡ true → Coordinator.attempts_of (x ∷ own) tx ≡ Coordinator.attempts_of own tx
    same_attempts nothing = by_begun (begun_by x.answer) refl
      where
        by_begun : (o : Option Tid) → begun_by x.answer ≡ o → how_many (λ (tid : Tid). same_tx tid.tx tx) (with_some o (begun_tids own)) ≡ how_many (λ (tid : Tid). same_tx tid.tx tx) (begun_tids own)
        by_begun None q = refl
        by_begun (Some t) q =
            let (steps, is) = begins_go (protocols scenario) t own x (turn_line scenario commands command x told line t).stood (begun_is x.answer t q) in
            let named : line.event ≡ Coord_event.Go t steps = sym (turn_line scenario commands command x told line t).is ∙ is in
            by_test steps named (same_tx t.tx tx) refl
          where
            by_test : (steps : List Step) → line.event ≡ Coord_event.Go t steps → (b : Bool) → same_tx t.tx tx ≡ b
                → cond b (suc (how_many (λ (tid : Tid). same_tx tid.tx tx) (begun_tids own))) (how_many (λ (tid : Tid). same_tx tid.tx tx) (begun_tids own)) ≡ how_many (λ (tid : Tid). same_tx tid.tx tx) (begun_tids own)
            by_test steps named true same = absurd (no_go scenario story command tx (begins_none tx command nothing) t steps (subst (CoordCause scenario story command) named line.cause) same)
            by_test steps named false same = refl

  -- behind it what was done is done, and where it begins nothing as many attempts were begun as before
  pub record Goes (before now : Story) : Type 0 where
    pub done : is_done scenario before tx ≡ true → is_done scenario now tx ≡ true
    pub attempts : begins_nothing command ≡ true → begun scenario now tx ≡ begun scenario before tx

  pub goes_one : Goes story (story_of scenario (command ∷ commands))
  goes_one = by_case (happens scenario story command) refl (line_is scenario story command)
    where
      by_case : (happened : Happened) → happens scenario story command ≡ happened → IsLine scenario story command happened → Goes story (record { command = command; happened = happened } ∷ story)
      by_case (Nowhere answer) told line = record { done = by_home (local_home scenario tx); attempts = as_many (local_home scenario tx) }
        where
          by_home : (o : Option Home) → is_done_at o story tx ≡ true → is_done_at o (record { command = command; happened = Nowhere answer } ∷ story) tx ≡ true
          by_home None e = e
          by_home (Some home) e = e

          as_many : (o : Option Home) → begins_nothing command ≡ true → begun_at o (record { command = command; happened = Nowhere answer } ∷ story) tx ≡ begun_at o story tx
          as_many None n = refl
          as_many (Some home) n = refl
      by_case (AtCoordinator x) told line = record { done = by_home (local_home scenario tx); attempts = as_many (local_home scenario tx) }
        where
          by_home : (o : Option Home) → is_done_at o story tx ≡ true → is_done_at o (record { command = command; happened = AtCoordinator x } ∷ story) tx ≡ true
          by_home None e = done_committed x told line e
          by_home (Some home) e = e

          as_many : (o : Option Home) → begins_nothing command ≡ true → begun_at o (record { command = command; happened = AtCoordinator x } ∷ story) tx ≡ begun_at o story tx
          as_many None n = same_attempts x told line n
          as_many (Some home) n = refl
      by_case (AtSite at x) told line = record { done = by_home (local_home scenario tx) refl; attempts = as_many (local_home scenario tx) refl }
        where
          here : (home : Home) → same_site at home.site ≡ true → happens scenario story command ≡ AtSite home.site x
          here home q = told ∙ ap (λ s. AtSite s x) (same_site-equal at home.site q)

          same_home : (home : Home) → home_of scenario home.site ≡ Some home → same_site at home.site ≡ true → line.home ≡ home
          same_home home declared q = some_parts (sym line.declared ∙ (ap (home_of scenario) (sym line.here ∙ same_site-equal at home.site q) ∙ declared))

          next_here : (home : Home) → line.home ≡ home → x ≡ site_line home (past_of home.site story) line.event
          next_here home same = subst (λ (z : Home). x ≡ site_line z (past_of z.site story) line.event) same line.is_next

          cause_here : (home : Home) → line.home ≡ home → SiteCause scenario home story command line.event
          cause_here home same = subst (λ z. SiteCause scenario z story command line.event) same line.cause

          by_home : (o : Option Home) → local_home scenario tx ≡ o → is_done_at o story tx ≡ true → is_done_at o (record { command = command; happened = AtSite at x } ∷ story) tx ≡ true
          by_home None e d = d
          by_home (Some home) e d = by_test (same_site at home.site) refl d
            where
              by_test : (b : Bool) → same_site at home.site ≡ b → is_some (local_of (records home (past_of home.site story)) tx) ≡ true
                  → is_some (local_of (records home (cond b (x ∷ past_of home.site story) (past_of home.site story))) tx) ≡ true
              by_test false q d = d
              by_test true q d =
                  let declared = local_home-declared scenario tx home e in
                  let same = same_home home declared q in
                  done_local home declared x (here home q) line.event (next_here home same) (cause_here home same) d

          as_many : (o : Option Home) → local_home scenario tx ≡ o → begins_nothing command ≡ true → begun_at o (record { command = command; happened = AtSite at x } ∷ story) tx ≡ begun_at o story tx
          as_many None e n = refl
          as_many (Some home) e n = by_test (same_site at home.site) refl
            where
              by_test : (b : Bool) → same_site at home.site ≡ b → attempts_of (cond b (x ∷ past_of home.site story) (past_of home.site story)) tx ≡ attempts_of (past_of home.site story) tx
              by_test false q = refl
              by_test true q =
                  let declared = local_home-declared scenario tx home e in
                  let same = same_home home declared q in
                  same_begun home declared x (here home q) line.event (next_here home same) (cause_here home same) n

-- behind commands that begin nothing
pub record Keeps (scenario : Scenario) (tx : Tx) (before now : Story) : Type 0 where
  pub done : is_done scenario before tx ≡ true → is_done scenario now tx ≡ true
  pub attempts : begun scenario now tx ≡ begun scenario before tx

pub keeps_all : (scenario : Scenario) (tx : Tx) (front commands : List Command) → Each (λ command. begins_nothing command ≡ true) front → Keeps scenario tx (story_of scenario commands) (story_of scenario (front ++ commands))
keeps_all scenario tx [] commands each = record { done = λ e. e; attempts = refl }
keeps_all scenario tx (command ∷ front) commands each =
    let rest = keeps_all scenario tx front commands each.1 in
    let one = goes_one scenario (front ++ commands) command tx in
    record { done = λ e. one.done (rest.done e); attempts = one.attempts each.0 ∙ rest.attempts }
