-- What it means that a session is at rest, by attempt: every actor is ready, and nothing is live, in doubt or known.
use Rattle.std.proofs.Common.{◌≡◌, Bool, true, false, cond, not, Option, Some, None, List, [], ◌∷◌, map, refl, sym, ap, subst, ◌∙◌}
use Rattle.mdb_base.specs.declared.names.SiteId.{SiteId}
use Rattle.mdb_base.specs.declared.names.Tid.{Tid}
use Rattle.mdb_base.specs.Words.{those, found, with_some}
use Rattle.order_laws.specs.Chains.{In}
use Rattle.order_laws.proofs.ForCallers.{in_those}
use Rattle.fed_rules.specs.declared.commands.Command.{Command}
use Rattle.fed_rules.specs.declared.scenario.Scenario.{Scenario}
use Rattle.fed_rules.specs.Closing.{rising, live_at, in_doubt_at}
use Rattle.fed_rules.specs.CoordPast.{Standing, Undecided, Decided, Gone, standing, is_known, begun_tids}
use Rattle.fed_rules.specs.Runs.{Run, run_at, attempts, is_sealed}
use Rattle.fed_rules.specs.Scenarios.{home_of, protocols}
use Rattle.fed_rules.specs.SitePast.{epoch_start, engine_lines, live_one, live, records}
use Rattle.fed_rules.specs.SiteRecords.{Home, Held, doubt_of, prepared_tids, by_tid}
use Rattle.fed_rules.specs.Story.{Story, coord_past, past_of, story_of}
use Rattle.commit_laws.proofs.ForCallers.{coord-sound, home-again, nowhere}
use Rattle.site_history.specs.Stories.{StoriesHaveRightLines}
use Rattle.fed_rules.proofs.ForCallers.{rising_in}
use Rattle.closing_laws.specs.AtRest.{IsAtRest}
use Rattle.closing_laws.proofs.Clear.{live_listed}
use Rattle.coord_laws.proofs.ForCallers.{begun_in, is_undecided}
use Rattle.closing_laws.proofs.Inquire.{doubt_listed}
use Rattle.closing_laws.proofs.Onward.{IsCalm}
use Rattle.fed_rules.specs.Attempts.{each_attempt}

-- lists of what isn't there
nothing_found : {A B : Type 0} (look : A → Option B) (xs : List A) → ((x : A) → look x ≡ None) → found look xs ≡ []
nothing_found look [] none = refl
nothing_found look (x ∷ xs) none = ap (λ o. with_some o (found look xs)) (none x) ∙ nothing_found look xs none

nothing_open : (look : Tid → Option Run) (xs : List Tid) → ((x : Tid) → live_one (look x) ≡ None) → those (λ run. not (is_sealed run)) (found look xs) ≡ []
nothing_open look [] none = refl
nothing_open look (x ∷ xs) none = by_look (look x) (none x) (nothing_open look xs none)
  where
    by_look : (o : Option Run) → live_one o ≡ None → those (λ run. not (is_sealed run)) (found look xs) ≡ [] → those (λ run. not (is_sealed run)) (with_some o (found look xs)) ≡ []
    by_look None e k = k
    by_look (Some run) e k = by_seal (is_sealed run) e
      where
        by_seal : (b : Bool) → cond b None (Some run) ≡ None → cond (not b) (run ∷ those (λ r. not (is_sealed r)) (found look xs)) (those (λ r. not (is_sealed r)) (found look xs)) ≡ []
        by_seal true f = k
        by_seal false f = cc

pub nothing_passes : (test : Tid → Bool) (xs : List Tid) → ((x : Tid) → test x ≡ false) → those test xs ≡ []
nothing_passes test [] none = refl
nothing_passes test (x ∷ xs) none = ap (λ b. cond b (x ∷ those test xs) (those test xs)) (none x) ∙ nothing_passes test xs none

-- what isn't live at a site isn't listed there
pub none_live_at : (home : Home) (story : Story) → ((tid : Tid) → live home (past_of home.site story) tid ≡ None) → live_at (Some home) story ≡ []
none_live_at home story none =
    ap (λ rs. rising (map (λ (run : Run). run.tid) rs))
    (nothing_open (run_at (epoch_start home (past_of home.site story)) (engine_lines (past_of home.site story)))
    (attempts (epoch_start home (past_of home.site story)) (engine_lines (past_of home.site story))) none)

-- every actor is ready, and nothing is live, in doubt or known
pub record IsQuiet (scenario : Scenario) (story : Story) : Type 0 where
  pub calm : IsCalm story
  pub clear : (home : Home) (tid : Tid) → home_of scenario home.site ≡ Some home → live home (past_of home.site story) tid ≡ None
  pub settled : (home : Home) (tid : Tid) → home_of scenario home.site ≡ Some home → doubt_of (records home (past_of home.site story)) tid ≡ None
  pub gone : (tid : Tid) → standing (protocols scenario) (coord_past story) tid ≡ Gone

pub quiet_rests : (scenario : Scenario) (story : Story) → IsQuiet scenario story → IsAtRest scenario story
quiet_rests scenario story q = record {
  coordinator_up = q.calm.coordinator.up;
  coordinator_untripped = q.calm.coordinator.untripped;
  sites_up = λ site. (q.calm.sites site).up;
  sites_untripped = λ site. (q.calm.sites site).untripped;
  none_live = λ site. lives site (home_of scenario site) refl;
  none_in_doubt = λ site. doubted site (home_of scenario site) refl;
  none_known = ap rising (nothing_passes (λ tid. is_known (standing (protocols scenario) (coord_past story) tid)) (begun_tids (coord_past story)) (λ tid. ap is_known (q.gone tid)));
}
  where
    lives : (site : SiteId) (o : Option Home) → home_of scenario site ≡ o → live_at o story ≡ []
    lives site None e = refl
    lives site (Some home) e = none_live_at home story (λ tid. q.clear home tid (home-again scenario site home e))

    doubted : (site : SiteId) (o : Option Home) → home_of scenario site ≡ o → in_doubt_at o story ≡ []
    doubted site None e = refl
    doubted site (Some home) e =
        ap (λ hs. rising (map (λ (held : Held). held.tid) (by_tid hs)))
        (nothing_found (doubt_of (records home (past_of home.site story))) (each_attempt (prepared_tids (records home (past_of home.site story)))) (λ tid. q.settled home tid (home-again scenario site home e)))

-- and back, in the story of any commands
pub rests_quiet : StoriesHaveRightLines → (scenario : Scenario) (commands : List Command) → IsAtRest scenario (story_of scenario commands) → IsQuiet scenario (story_of scenario commands)
rests_quiet rights scenario commands r = record {
  calm = record {
    coordinator = record { up = r.coordinator_up; untripped = r.coordinator_untripped };
    sites = λ site. record { up = r.sites_up site; untripped = r.sites_untripped site };
  };
  clear = λ home tid d. not_live home tid d (live home (past_of home.site story) tid) refl;
  settled = λ home tid d. not_in_doubt home tid d (doubt_of (records home (past_of home.site story)) tid) refl;
  gone = λ tid. not_known tid (standing (protocols scenario) (coord_past story) tid) refl;
}
  where
    story : Story
    story = story_of scenario commands

    not_live : (home : Home) (tid : Tid) → home_of scenario home.site ≡ Some home → (o : Option Run) → live home (past_of home.site story) tid ≡ o → live home (past_of home.site story) tid ≡ None
    not_live home tid d None e = e
    not_live home tid d (Some run) e =
        absurd (subst (λ ts. In tid ts) (ap (λ h. live_at h story) (sym d) ∙ r.none_live home.site) (live_listed rights scenario commands home tid run d e))

    not_in_doubt : (home : Home) (tid : Tid) → home_of scenario home.site ≡ Some home → (o : Option Held) → doubt_of (records home (past_of home.site story)) tid ≡ o
        → doubt_of (records home (past_of home.site story)) tid ≡ None
    not_in_doubt home tid d None e = e
    not_in_doubt home tid d (Some held) e =
        absurd (subst (λ ts. In tid ts) (ap (λ h. in_doubt_at h story) (sym d) ∙ r.none_in_doubt home.site) (doubt_listed home story tid held e))

    listed_known : (tid : Tid) → In tid (begun_tids (coord_past story)) → is_known (standing (protocols scenario) (coord_past story) tid) ≡ true → ⊥
    listed_known tid i e = subst (λ ts. In tid ts) r.none_known (rising_in _ tid (in_those (λ t. is_known (standing (protocols scenario) (coord_past story) t)) tid (begun_tids (coord_past story)) i e))

    not_known : (tid : Tid) (s : Standing) → standing (protocols scenario) (coord_past story) tid ≡ s → standing (protocols scenario) (coord_past story) tid ≡ Gone
    not_known tid Undecided e = absurd (listed_known tid (begun_in (coord_past story) tid ((coord-sound scenario nowhere tid commands).undecided (ap is_undecided e))) (ap is_known e))
    not_known tid (Decided decision) e = absurd (listed_known tid (begun_in (coord_past story) tid ((coord-sound scenario nowhere tid commands).decided decision e).0) (ap is_known e))
    not_known tid Gone e = e
