-- A session that goes on from the disks that it finds, without transactions, is at rest once it is closed.
use Rattle.std.proofs.Common.{◌≡◌, Bool, true, false, not, Option, Some, None, List, [], ◌∷◌, refl, sym, ap, subst, ◌∙◌}
use Rattle.mdb_base.specs.declared.names.SiteId.{SiteId}
use Rattle.mdb_base.specs.declared.names.Tid.{Tid}
use Rattle.mdb_base.specs.Words.{those}
use Rattle.fed_rules.specs.declared.commands.Command.{Command}
use Rattle.fed_rules.specs.declared.commands.Command.TheVariants as Cmd
use Rattle.fed_rules.specs.declared.scenario.Scenario.{Scenario}
use Rattle.fed_rules.specs.Closing.{ask_all, bring_up, clear, clear_site, closed_in, disarm, end_known, for_each, give_up, live_at, rising}
use Rattle.fed_rules.specs.CoordPast.{begun_tids, is_open, known_decision, standing_of}
use Rattle.presumptions.specs.declared.Decision.{Decision}
use Rattle.fed_rules.specs.Plans.{AreSites}
use Rattle.fed_rules.specs.Scenarios.{home_of, protocols, sites}
use Rattle.fed_rules.specs.Sessions.{Session}
use Rattle.fed_rules.specs.SitePast.{is_local}
use Rattle.fed_rules.specs.SiteRecords.{Home}
use Rattle.fed_rules.specs.Story.{Story, coord_past, past_of, story_in}
use Rattle.coord_laws.proofs.ForCallers.{is_undecided}
use Rattle.commit_laws.proofs.ForCallers.{CoordinatorFits, home-again}
use Rattle.closing_laws.specs.AtRest.{AllUp, IsAtRest, StaysUp}
use Rattle.closing_laws.proofs.ForCallers.{IsCalm, IsUnknown, UndeclaredAreSilent, brought_calm, calm_up, ended, none_live_at, nothing_passes, quiet_rests, settled}
use Rattle.found_laws.proofs.ForCallers.{NobodyIsOpen}
use Rattle.resume_laws.proofs.SiteLives.{NobodyLives}

-- ---- what adds nothing

clears_nothing : (scenario : Scenario) (story : Story) (site : SiteId) (commands : List Command) → live_at (home_of scenario site) story ≡ [] → clear_site scenario story site commands ≡ commands
clears_nothing scenario story site commands e = ap (λ tids. all_cleared tids) e
  where
    all_cleared : List Tid → List Command
    all_cleared tids =
        for_each (λ tid more. Cmd.Drop site tid ∷ more) (those (λ tid. not (is_local (past_of site story) tid)) tids)
        (for_each (λ tid more. Cmd.Abort tid.tx ∷ more) (those (is_local (past_of site story)) tids) commands)

each_nothing : (scenario : Scenario) (story : Story) (ss : List SiteId) (commands : List Command) → ((site : SiteId) → live_at (home_of scenario site) story ≡ [])
    → for_each (clear_site scenario story) ss commands ≡ commands
each_nothing scenario story [] commands e = refl
each_nothing scenario story (site ∷ ss) commands e =
    ap (λ cs. for_each (clear_site scenario story) ss cs) (clears_nothing scenario story site commands (e site)) ∙ each_nothing scenario story ss commands e

not_undecided : (b : Bool) (d : Option Decision) → b ≡ false → is_undecided (standing_of b d) ≡ false
not_undecided true d e = cc
not_undecided false None e = refl
not_undecided false (Some decision) e = refl

-- ---- the law

-- what closing needs of a session: nobody is undecided, and nothing lives at a declared site
pub record IsLifeless (session : Session) (commands : List Command) : Type 0 where
  pub nobody : NobodyIsOpen (coord_past (story_in session commands))
  pub lives : (home : Home) → home_of session.plan home.site ≡ Some home → NobodyLives home (past_of home.site (story_in session commands))

module _ (session : Session) (fits : CoordinatorFits session) (whole : AreSites session.plan.sites) (commands : List Command) (silent : UndeclaredAreSilent session)
    (lifeless : IsLifeless session (bring_up session (disarm session commands))) where
  abbrev up : List Command
  up = bring_up session (disarm session commands)

  late : give_up session up ≡ up
  late = ap (λ tids. for_each (λ (tid : Tid) more. Cmd.Late tid ∷ more) (rising tids) up) (nothing_passes (is_open (coord_past (story_in session up))) (begun_tids (coord_past (story_in session up))) lifeless.nobody)

  lifeless_at : (site : SiteId) (o : Option Home) → home_of session.plan site ≡ o → live_at o (story_in session up) ≡ []
  lifeless_at site None e = refl
  lifeless_at site (Some home) e = none_live_at home (story_in session up) (lifeless.lives home (home-again session.plan site home e))

  swept : clear session up ≡ up
  swept = each_nothing session.plan (story_in session up) (sites session.plan) up (λ site. lifeless_at site (home_of session.plan site) refl)

  same : clear session (give_up session up) ≡ up
  same = ap (clear session) late ∙ swept

  calm : IsCalm (story_in session up)
  calm = brought_calm session silent commands whole

  all_ended : IsUnknown session fits (story_in session up) (story_in session (end_known session up))
  all_ended = ended session fits up whole calm (λ tid. not_undecided (is_open (coord_past (story_in session up)) tid) (known_decision (protocols session.plan) (coord_past (story_in session up)) tid) (lifeless.nobody tid))

  pub closed_rests : IsAtRest session.plan (story_in session (closed_in session commands))
  closed_rests =
      let told = end_known session up in
      let settles = settled session fits told all_ended.onward.calm all_ended.gone in
      subst (λ cs. IsAtRest session.plan (story_in session (ask_all session (end_known session cs)))) (sym same)
      (quiet_rests session.plan (story_in session (ask_all session told)) (record {
        calm = settles.onward.calm;
        clear = λ home tid d. settles.onward.quiets home tid d (all_ended.onward.quiets home tid d (lifeless.lives home d tid));
        settled = settles.settled;
        gone = λ tid. settles.onward.gone tid (all_ended.gone tid);
      }))

  -- and every actor is up from the second step on
  pub closed_up : StaysUp session commands
  closed_up = record {
    brought_up = calm_up (story_in session up) calm;
    given_up = subst (λ cs. AllUp (story_in session cs)) (sym late) (calm_up (story_in session up) calm);
    cleared = subst (λ cs. AllUp (story_in session cs)) (sym same) (calm_up (story_in session up) calm);
    ended = subst (λ cs. AllUp (story_in session (end_known session cs))) (sym same) (calm_up (story_in session (end_known session up)) all_ended.onward.calm);
  }
