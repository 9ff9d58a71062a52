-- Through a session without transactions that nothing stops: nothing ever lives at a site.
use Rattle.std.proofs.Common.{◌≡◌, inl, inr, Bool, true, false, cond, Some, None, List, [], ◌∷◌, ◌++◌, refl, sym, ap, subst, ◌∙◌}
use Rattle.mdb_base.specs.Names.{same_site}
use Rattle.mdb_base.specs.Words.{Each}
use Rattle.mdb_base.proofs.ForCallers.{among_split, append_nil, same_site-equal, some_parts}
use Rattle.order_laws.specs.Chains.{In}
use Rattle.fed_rules.specs.declared.commands.Command.{Command}
use Rattle.fed_rules.specs.declared.messages.ToSite.{ToSite}
use Rattle.fed_rules.specs.declared.records.CoordRecord.{CoordRecord}
use Rattle.fed_rules.specs.declared.records.SiteRecord.{SiteRecord}
use Rattle.fed_rules.specs.declared.scenario.Scenario.{Scenario}
use Rattle.fed_rules.specs.CoordPast.{CoordPast}
use Rattle.fed_rules.specs.Found.{Journal}
use Rattle.fed_rules.specs.Reopened.{opened_coordinator, opened_site}
use Rattle.fed_rules.specs.Scenarios.{home_of, policy, protocols}
use Rattle.fed_rules.specs.Sessions.{Session}
use Rattle.fed_rules.specs.Site.{site_line}
use Rattle.fed_rules.specs.SitePast.{SitePast, trip}
use Rattle.fed_rules.specs.SiteRecords.{Home}
use Rattle.fed_rules.specs.Story.{AtCoordinator, AtSite, Happened, Nowhere, Story, coord_past, found_sites, happens, past_of, sends_to, sent_to, story_in, with_coordinator, with_site}
use Rattle.fed_rules.specs.Lines.{IsLine, SiteCause}
use Rattle.fed_rules.proofs.ForCallers.{line_is}
use Rattle.coord_laws.proofs.ForCallers.{coord_made}
use Rattle.commit_laws.proofs.ForCallers.{IsNext, linked, restored-sealed}
use Rattle.resume_laws.specs.Gentle.{IsGentle}
use Rattle.found_laws.proofs.ForCallers.{IsDecide, IsIdle, NobodyIsOpen, begins_nothing, decisions_alone, each_here, session_begins, still_nobody}
use Rattle.resume_laws.proofs.SiteGentle.{gentle_line, gentle_resumes}
use Rattle.resume_laws.proofs.SiteLives.{NobodyLives, still_lifeless}
use Rattle.resume_laws.proofs.Walk.{of_cause}

pub record IsDormant (home : Home) (past : CoordPast) (here : SitePast) (sent : List ToSite) : Type 0 where
  pub untripped : trip here ≡ None
  pub nobody : NobodyIsOpen past
  pub decides : (m : ToSite) → In m sent → IsDecide m
  pub lives : NobodyLives home here

abbrev pub IsDormantIn : Home → Story → Type 0
IsDormantIn home story = IsDormant home (coord_past story) (past_of home.site story) (sent_to home.site story)

module _ (scenario : Scenario) (idle : IsIdle scenario) (home : Home) (declared : home_of scenario home.site ≡ Some home) where
  dormant_next : (story : Story) (command : Command) (happened : Happened) → IsGentle command → IsLine scenario story command happened → IsNext scenario story happened → IsDormantIn home story
      → IsDormant home (with_coordinator happened (coord_past story)) (with_site home.site happened (past_of home.site story)) (sent_to home.site story ++ sends_to home.site happened)
  dormant_next story command (Nowhere answer) gentle line next r =
      subst (IsDormant home (coord_past story) (past_of home.site story)) (sym (append_nil (sent_to home.site story))) r
  dormant_next story command (AtCoordinator x) gentle line (event, is, came) r =
      let calm = begins_nothing scenario story event idle came in
      let made = coord_made (protocols scenario) (policy scenario) (coord_past story) event in
      subst (λ y. IsDormant home (y ∷ coord_past story) (past_of home.site story) (sent_to home.site story ++ sends_to home.site (AtCoordinator y))) (sym is) (record {
        untripped = r.untripped;
        nobody = still_nobody (protocols scenario) (coord_past story) event _ made calm r.nobody;
        decides = λ m i. elim (among_split (λ y. y ≡ m) (sent_to home.site story) _ i) [
          | inl old ↦ r.decides m old
          | inr new ↦ each_here home.site _ m (decisions_alone (protocols scenario) (policy scenario) (coord_past story) r.nobody event calm) new
        ];
        lives = r.lives;
      })
  dormant_next story command (AtSite at x) gentle line next r =
      subst (IsDormant home (coord_past story) (with_site home.site (AtSite at x) (past_of home.site story))) (sym (append_nil (sent_to home.site story))) (by_test (same_site at home.site) refl)
    where
      same_home : same_site at home.site ≡ true → line.home ≡ home
      same_home q = some_parts (sym line.declared ∙ ap (home_of scenario) (sym line.here ∙ same_site-equal at home.site q) ∙ declared)

      here : (own : Home) → own ≡ home → x ≡ site_line own (past_of own.site story) line.event → SiteCause scenario own story command line.event
          → IsDormant home (coord_past story) (x ∷ past_of home.site story) (sent_to home.site story)
      here own same is cause =
          let q = of_cause scenario home story command line.event idle gentle r.decides (subst (λ h. SiteCause scenario h story command line.event) same cause) in
          let mine : x ≡ site_line home (past_of home.site story) line.event = is ∙ ap (λ (h : Home). site_line h (past_of h.site story) line.event) same in
          subst (λ y. IsDormant home (coord_past story) (y ∷ past_of home.site story) (sent_to home.site story)) (sym mine) (record {
            untripped = (gentle_line home (past_of home.site story) line.event r.untripped q.gentle).untripped;
            nobody = r.nobody;
            decides = r.decides;
            lives = still_lifeless home (past_of home.site story) line.event (gentle_resumes line.event q.gentle) r.lives;
          })

      by_test : (b : Bool) → same_site at home.site ≡ b → IsDormant home (coord_past story) (cond b (x ∷ past_of home.site story) (past_of home.site story)) (sent_to home.site story)
      by_test false q = r
      by_test true q = here line.home (same_home q) line.is_next line.cause

pub dormant_on : (session : Session) → IsIdle session.plan → (home : Home) → home_of session.plan home.site ≡ Some home → IsDormantIn home (story_in session [])
    → (commands : List Command) → Each IsGentle commands → IsDormantIn home (story_in session commands)
dormant_on session idle home declared first [] h = first
dormant_on session idle home declared first (command ∷ commands) h =
    dormant_next session.plan idle home declared (story_in session commands) command (happens session.plan (story_in session commands) command) h.0
    (line_is session.plan (story_in session commands) command) (linked session.plan (story_in session commands) command).next (dormant_on session idle home declared first commands h.1)

-- before the first command
pub opens_dormant : (session : Session) (journal : Journal CoordRecord) → session.found.coordinator ≡ Some journal → (home : Home) (found : Journal SiteRecord)
    → past_of home.site (found_sites session.found.sites) ≡ opened_site found → IsDormantIn home (story_in session [])
opens_dormant session journal is home found at =
    let b = session_begins session journal is home.site in
    subst (λ past. IsDormant home past (past_of home.site (story_in session [])) (sent_to home.site (story_in session []))) (sym b.coordinator)
    (subst (λ here. IsDormant home (opened_coordinator (protocols session.plan) journal) here (sent_to home.site (story_in session []))) (sym (b.here ∙ at))
    (subst (λ sent. IsDormant home (opened_coordinator (protocols session.plan) journal) (opened_site found) sent) (sym b.to) (record {
      untripped = refl;
      nobody = λ tid. refl;
      decides = λ m i. absurd i;
      lives = λ tid. restored-sealed _ tid;
    })))
