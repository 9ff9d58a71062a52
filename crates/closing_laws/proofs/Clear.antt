-- The fourth step: at each site each live local attempt is aborted, and then each live subtransaction is dropped.
use Rattle.std.proofs.Common.{◌≡◌, Bool, true, false, cond, not, is_some, Option, Some, None, List, [], ◌∷◌, inl, inr, refl, sym, ap, subst, ◌∙◌}
use Rattle.mdb_base.specs.declared.names.SiteId.{SiteId}
use Rattle.mdb_base.specs.declared.names.Tid.{Tid}
use Rattle.mdb_base.specs.Words.{Each, those}
use Rattle.mdb_base.proofs.ForCallers.{given_some, same_site-refl, same_tid-refl, when-false}
use Rattle.order_laws.specs.Chains.{In}
use Rattle.order_laws.proofs.ForCallers.{each_from, in_those, those_in}
use Rattle.fed_rules.specs.declared.answers.Answer.TheVariants as Say
use Rattle.fed_rules.specs.declared.commands.Command.{Command}
use Rattle.fed_rules.specs.declared.commands.Command.TheVariants as Cmd
use Rattle.fed_rules.specs.declared.events.SiteEvent.TheVariants as Ev
use Rattle.fed_rules.specs.declared.scenario.Scenario.{Scenario}
use Rattle.fed_rules.specs.Closing.{for_each, live_at, clear_site, clear}
use Rattle.fed_rules.specs.EngineLines.{IsRight}
use Rattle.fed_rules.specs.Plans.{IsScenario}
use Rattle.fed_rules.specs.Runs.{Run, Aborts, attempts, run_at}
use Rattle.fed_rules.specs.Scenarios.{home_of, local_home, sites}
use Rattle.fed_rules.specs.Sessions.{fresh}
use Rattle.fed_rules.specs.Site.{with_lines, of_abort, of_drop}
use Rattle.fed_rules.specs.SitePast.{SiteHappening, SitePast, epoch_start, engine_lines, live, live_of_tx, is_local}
use Rattle.fed_rules.specs.SiteRecords.{Home}
use Rattle.fed_rules.specs.Story.{Story, AtSite, past_of, with_site, happens, story_of, on_local, requested}
use Rattle.commit_laws.proofs.ForCallers.{home-again, its-site}
use Rattle.engine_laws.proofs.ForCallers.{abort_ends, attempts_have, tid_is}
use Rattle.site_history.specs.Stories.{StoriesHaveRightLines}
use Rattle.closing_laws.proofs.OpenRuns.{in_open}
use Rattle.fed_rules.proofs.ForCallers.{rising_in}
use Rattle.site_history.proofs.ForCallers.{live_is}
use Rattle.federation_laws.proofs.ForCallers.{declared-in, local_home-declared}
use Rattle.closing_laws.proofs.Calm.{aborts_here, drops, ended_run}
use Rattle.closing_laws.proofs.Locals.{local_at_home, live_is_found}
use Rattle.closing_laws.proofs.Onward.{IsCalm, Onward, onward_here, onward_on, onward_next, at_home, gentle_abort, gentle_drop}
use Rattle.fed_rules.specs.SiteCommands.{request, with_live}

-- what an abort and a drop make happen
abort_told : (scenario : Scenario) (story : Story) (home : Home) (tid : Tid) (run : Run) → IsCalm story → local_home scenario tid.tx ≡ Some home
    → live_of_tx home (past_of home.site story) tid.tx ≡ Some tid → live home (past_of home.site story) tid ≡ Some run
    → happens scenario story (Cmd.Abort tid.tx) ≡ AtSite home.site (with_lines (Ev.Abort tid) (Say.Aborted tid) (Aborts tid ∷ []))
unfolding happens on_local request with_live of_abort
abort_told scenario story home tid run c here found_one is_live =
    given_some (local_home scenario tid.tx) _ _ home here
    ∙ (ap (requested home story) (when-false _ _ _ (c.sites home.site).up
    ∙ (given_some (live_of_tx home (past_of home.site story) tid.tx) _ _ tid found_one
    ∙ given_some (live home (past_of home.site story) tid) _ _ run is_live))
    ∙ ap (λ x. AtSite home.site x) (aborts_here home (past_of home.site story) tid (c.sites home.site) ∙ given_some (live home (past_of home.site story) tid) _ _ run is_live))

drop_told : (scenario : Scenario) (story : Story) (home : Home) (tid : Tid) (run : Run) → IsCalm story → home_of scenario home.site ≡ Some home
    → is_local (past_of home.site story) tid ≡ false → live home (past_of home.site story) tid ≡ Some run
    → happens scenario story (Cmd.Drop home.site tid) ≡ AtSite home.site (with_lines (Ev.Drop tid) (Say.Dropped tid) (Aborts tid ∷ []))
unfolding happens of_drop
drop_told scenario story home tid run c d global is_live =
    at_home scenario story home (Ev.Drop tid) d
    ∙ ap (λ x. AtSite home.site x) (drops home (past_of home.site story) tid (c.sites home.site) ∙ (when-false _ _ _ global ∙ given_some (live home (past_of home.site story) tid) _ _ run is_live))

module _ (rights : StoriesHaveRightLines) (scenario : Scenario) where
  aborts_clear : (commands : List Command) (home : Home) (tid : Tid) → IsScenario scenario → IsCalm (story_of scenario commands) → local_home scenario tid.tx ≡ Some home
      → live home (past_of home.site (story_of scenario (Cmd.Abort tid.tx ∷ commands))) tid ≡ None
  aborts_clear commands home tid whole c here = by_live (live home (past_of home.site story) tid) refl
    where
      story : Story
      story = story_of scenario commands

      x : SiteHappening
      x = with_lines (Ev.Abort tid) (Say.Aborted tid) (Aborts tid ∷ [])

      by_live : (o : Option Run) → live home (past_of home.site story) tid ≡ o → live home (past_of home.site (story_of scenario (Cmd.Abort tid.tx ∷ commands))) tid ≡ None
      by_live None e = (onward_next scenario story (Cmd.Abort tid.tx) (happens scenario story (Cmd.Abort tid.tx)) c (gentle_abort scenario story tid.tx c)).quiets home tid (local_home-declared scenario tid.tx home here) e
      by_live (Some run) e =
          subst (λ h. live home (with_site home.site h (past_of home.site story)) tid ≡ None)
          (sym (abort_told scenario story home tid run c here (live_is_found rights scenario commands home tid run whole here e) e))
          (subst (λ b. live home (cond b (x ∷ past_of home.site story) (past_of home.site story)) tid ≡ None) (sym (same_site-refl home.site))
          (ended_run home (past_of home.site story) x (Aborts tid) tid refl refl (abort_ends tid) (same_tid-refl tid)))

  drops_clear : (commands : List Command) (home : Home) (tid : Tid) → IsCalm (story_of scenario commands) → home_of scenario home.site ≡ Some home → is_local (past_of home.site (story_of scenario commands)) tid ≡ false
      → live home (past_of home.site (story_of scenario (Cmd.Drop home.site tid ∷ commands))) tid ≡ None
  drops_clear commands home tid c d global = by_live (live home (past_of home.site story) tid) refl
    where
      story : Story
      story = story_of scenario commands

      x : SiteHappening
      x = with_lines (Ev.Drop tid) (Say.Dropped tid) (Aborts tid ∷ [])

      by_live : (o : Option Run) → live home (past_of home.site story) tid ≡ o → live home (past_of home.site (story_of scenario (Cmd.Drop home.site tid ∷ commands))) tid ≡ None
      by_live None e = (onward_next scenario story (Cmd.Drop home.site tid) (happens scenario story (Cmd.Drop home.site tid)) c (gentle_drop scenario story home.site tid c)).quiets home tid d e
      by_live (Some run) e =
          subst (λ h. live home (with_site home.site h (past_of home.site story)) tid ≡ None) (sym (drop_told scenario story home tid run c d global e))
          (subst (λ b. live home (cond b (x ∷ past_of home.site story) (past_of home.site story)) tid ≡ None) (sym (same_site-refl home.site))
          (ended_run home (past_of home.site story) x (Aborts tid) tid refl refl (abort_ends tid) (same_tid-refl tid)))

  -- behind these commands these attempts aren't live at the site
  record Clears (home : Home) (tids : List Tid) (before now : Story) : Type 0 where
    onward : Onward scenario before now
    cleared : (tid : Tid) → In tid tids → live home (past_of home.site now) tid ≡ None

  abort_all : (tids : List Tid) (commands : List Command) (home : Home) → IsScenario scenario → IsCalm (story_of scenario commands) → home_of scenario home.site ≡ Some home
      → Each (λ (tid : Tid). local_home scenario tid.tx ≡ Some home) tids → Clears home tids (story_of scenario commands) (story_of scenario (for_each (λ tid more. Cmd.Abort tid.tx ∷ more) tids commands))
  abort_all [] commands home whole c d each = record { onward = onward_here scenario (story_of scenario commands) c; cleared = λ tid i. absurd i }
  abort_all (tid ∷ tids) commands home whole c d each =
      let story = story_of scenario commands in
      let first = onward_next scenario story (Cmd.Abort tid.tx) (happens scenario story (Cmd.Abort tid.tx)) c (gentle_abort scenario story tid.tx c) in
      let rest = abort_all tids (Cmd.Abort tid.tx ∷ commands) home whole first.calm d each.1 in
      record {
        onward = onward_on scenario story (story_of scenario (Cmd.Abort tid.tx ∷ commands)) _ first rest.onward;
        cleared = λ other i. elim i [
          | inl e ↦ rest.onward.quiets home other d (subst (λ t. live home (past_of home.site (story_of scenario (Cmd.Abort tid.tx ∷ commands))) t ≡ None) e (aborts_clear commands home tid whole c each.0))
          | inr j ↦ rest.cleared other j
        ];
      }

  drop_all : (tids : List Tid) (commands : List Command) (home : Home) → IsCalm (story_of scenario commands) → home_of scenario home.site ≡ Some home
      → Each (λ tid. is_local (past_of home.site (story_of scenario commands)) tid ≡ false) tids → Clears home tids (story_of scenario commands) (story_of scenario (for_each (λ tid more. Cmd.Drop home.site tid ∷ more) tids commands))
  drop_all [] commands home c d each = record { onward = onward_here scenario (story_of scenario commands) c; cleared = λ tid i. absurd i }
  drop_all (tid ∷ tids) commands home c d each =
      let story = story_of scenario commands in
      let first = onward_next scenario story (Cmd.Drop home.site tid) (happens scenario story (Cmd.Drop home.site tid)) c (gentle_drop scenario story home.site tid c) in
      let rest = drop_all tids (Cmd.Drop home.site tid ∷ commands) home first.calm d (global_still story (story_of scenario (Cmd.Drop home.site tid ∷ commands)) first tids each.1) in
      record {
        onward = onward_on scenario story (story_of scenario (Cmd.Drop home.site tid ∷ commands)) _ first rest.onward;
        cleared = λ other i. elim i [
          | inl e ↦ rest.onward.quiets home other d (subst (λ t. live home (past_of home.site (story_of scenario (Cmd.Drop home.site tid ∷ commands))) t ≡ None) e (drops_clear commands home tid c d each.0))
          | inr j ↦ rest.cleared other j
        ];
      }
    where
      global_still : (before now : Story) → Onward scenario before now → (ts : List Tid) → Each (λ t. is_local (past_of home.site before) t ≡ false) ts → Each (λ t. is_local (past_of home.site now) t ≡ false) ts
      global_still before now o [] h = tt
      global_still before now o (t ∷ ts) h = (o.locals home.site t ∙ h.0, global_still before now o ts h.1)

  -- who is live at a site is listed there
  pub live_listed : (commands : List Command) (home : Home) (tid : Tid) (run : Run) → home_of scenario home.site ≡ Some home → live home (past_of home.site (story_of scenario commands)) tid ≡ Some run
      → In tid (live_at (Some home) (story_of scenario commands))
  live_listed commands home tid run d e =
      rising_in _ tid
      (in_open (run_at (epoch_start home past) (engine_lines past)) (attempts (epoch_start home past) (engine_lines past)) tid run
      (attempts_have (epoch_start home past) (engine_lines past) right tid run at.0) at.0 (tid_is (epoch_start home past) (engine_lines past) right tid run at.0) (ap is_some at.1))
    where
      past : SitePast
      past = past_of home.site (story_of scenario commands)

      right : IsRight (epoch_start home past) (engine_lines past)
      right = (rights scenario commands home.site home d).right

      at : (run_at (epoch_start home past) (engine_lines past) tid ≡ Some run) × (run.sealed ≡ None)
      at = live_is (run_at (epoch_start home past) (engine_lines past) tid) run e

  -- behind these commands nothing is live at these sites
  pub record AreClear (ss : List SiteId) (before now : Story) : Type 0 where
    pub onward : Onward scenario before now
    pub clear : (home : Home) (tid : Tid) → home_of scenario home.site ≡ Some home → In home.site ss → live home (past_of home.site now) tid ≡ None

  -- a site is cleared by what was live there at first
  site_cleared : (first commands : List Command) (home : Home) → IsScenario scenario → home_of scenario home.site ≡ Some home → Onward scenario (story_of scenario first) (story_of scenario commands)
      → AreClear (home.site ∷ []) (story_of scenario commands) (story_of scenario (clear_site scenario (story_of scenario first) home.site commands))
  site_cleared first commands home whole d o = subst (λ h. AreClear (home.site ∷ []) story (story_of scenario (cleared_by h))) (sym d) (record {
    onward = onward_on scenario story (story_of scenario aborted) _ abort_part.onward drop_part.onward;
    clear = λ other tid e i. elim i [ inl same ↦ here other tid e same | inr j ↦ absurd j ];
  })
    where
      story : Story
      story = story_of scenario commands

      at_first : SitePast
      at_first = past_of home.site (story_of scenario first)

      cleared_by : Option Home → List Command
      cleared_by h =
          for_each (λ tid more. Cmd.Drop home.site tid ∷ more) (those (λ tid. not (is_local at_first tid)) (live_at h (story_of scenario first)))
          (for_each (λ tid more. Cmd.Abort tid.tx ∷ more) (those (is_local at_first) (live_at h (story_of scenario first))) commands)

      ones : List Tid
      ones = live_at (Some home) (story_of scenario first)

      aborted : List Command
      aborted = for_each (λ tid more. Cmd.Abort tid.tx ∷ more) (those (is_local at_first) ones) commands

      abort_part : Clears home (those (is_local at_first) ones) story (story_of scenario aborted)
      abort_part = abort_all (those (is_local at_first) ones) commands home whole o.calm d
          (each_from (λ (tid : Tid). local_home scenario tid.tx ≡ Some home) (those (is_local at_first) ones) (λ tid i. local_at_home scenario first home tid d (those_in (is_local at_first) tid ones i).1))

      not_true : (b : Bool) → not b ≡ true → b ≡ false
      not_true true e = cc
      not_true false e = refl

      drop_part : Clears home (those (λ tid. not (is_local at_first tid)) ones) (story_of scenario aborted) (story_of scenario (cleared_by (Some home)))
      drop_part = drop_all (those (λ tid. not (is_local at_first tid)) ones) aborted home abort_part.onward.calm d
          (each_from (λ tid. is_local (past_of home.site (story_of scenario aborted)) tid ≡ false) (those (λ tid. not (is_local at_first tid)) ones)
          (λ tid i. abort_part.onward.locals home.site tid ∙ (o.locals home.site tid ∙ not_true _ (those_in (λ t. not (is_local at_first t)) tid ones i).1)))

      now : SitePast
      now = past_of home.site (story_of scenario (cleared_by (Some home)))

      by_local : (tid : Tid) (run : Run) → live home at_first tid ≡ Some run → (b : Bool) → is_local at_first tid ≡ b → live home now tid ≡ None
      by_local tid run e true l = drop_part.onward.quiets home tid d (abort_part.cleared tid (in_those (is_local at_first) tid ones (live_listed first home tid run d e) l))
      by_local tid run e false l = drop_part.cleared tid (in_those (λ t. not (is_local at_first t)) tid ones (live_listed first home tid run d e) (ap not l))

      by_live : (tid : Tid) (q : Option Run) → live home at_first tid ≡ q → live home now tid ≡ None
      by_live tid None e = drop_part.onward.quiets home tid d (abort_part.onward.quiets home tid d (o.quiets home tid d e))
      by_live tid (Some run) e = by_local tid run e (is_local at_first tid) refl

      here : (other : Home) (tid : Tid) → home_of scenario other.site ≡ Some other → home.site ≡ other.site → live other (past_of other.site (story_of scenario (cleared_by (Some home)))) tid ≡ None
      here other tid e same =
          let one : home ≡ other = (let t : Some home ≡ Some other = sym d ∙ (ap (home_of scenario) same ∙ e) in cc) in
          subst (λ h. live h (past_of h.site (story_of scenario (cleared_by (Some home)))) tid ≡ None) one (by_live tid (live home at_first tid) refl)

  -- so is a site of any number
  one_cleared : (first commands : List Command) (site : SiteId) → IsScenario scenario → Onward scenario (story_of scenario first) (story_of scenario commands)
      → AreClear (site ∷ []) (story_of scenario commands) (story_of scenario (clear_site scenario (story_of scenario first) site commands))
  one_cleared first commands site whole o = by_home (home_of scenario site) refl
    where
      cleared_by : Option Home → List Command
      cleared_by h =
          for_each (λ tid more. Cmd.Drop site tid ∷ more) (those (λ tid. not (is_local (past_of site (story_of scenario first)) tid)) (live_at h (story_of scenario first)))
          (for_each (λ tid more. Cmd.Abort tid.tx ∷ more) (those (is_local (past_of site (story_of scenario first))) (live_at h (story_of scenario first))) commands)

      by_home : (h : Option Home) → home_of scenario site ≡ h → AreClear (site ∷ []) (story_of scenario commands) (story_of scenario (clear_site scenario (story_of scenario first) site commands))
      by_home None e = subst (λ h. AreClear (site ∷ []) (story_of scenario commands) (story_of scenario (cleared_by h))) (sym e) (record {
        onward = onward_here scenario (story_of scenario commands) o.calm;
        clear = λ home tid d i. elim i [ inl same ↦ (let found = ap (home_of scenario) same ∙ d in let clash = sym e ∙ found in cc) | inr j ↦ absurd j ];
      })
      by_home (Some home) e =
          subst (λ s. AreClear (s ∷ []) (story_of scenario commands) (story_of scenario (clear_site scenario (story_of scenario first) s commands))) (its-site scenario site home e)
          (site_cleared first commands home whole (home-again scenario site home e) o)

  all_cleared : (first : List Command) (ss : List SiteId) (commands : List Command) → IsScenario scenario → Onward scenario (story_of scenario first) (story_of scenario commands)
      → AreClear ss (story_of scenario commands) (story_of scenario (for_each (clear_site scenario (story_of scenario first)) ss commands))
  all_cleared first [] commands whole o = record { onward = onward_here scenario (story_of scenario commands) o.calm; clear = λ home tid d i. absurd i }
  all_cleared first (site ∷ ss) commands whole o =
      let next = clear_site scenario (story_of scenario first) site commands in
      let here = one_cleared first commands site whole o in
      let rest = all_cleared first ss next whole (onward_on scenario (story_of scenario first) (story_of scenario commands) (story_of scenario next) o here.onward) in
      record {
        onward = onward_on scenario (story_of scenario commands) (story_of scenario next) _ here.onward rest.onward;
        clear = λ home tid d i. elim i [
          | inl same ↦ rest.onward.quiets home tid d (here.clear home tid d (inl same))
          | inr j ↦ rest.clear home tid d j
        ];
      }

  -- behind the step nothing is live anywhere
  pub record IsClear (before now : Story) : Type 0 where
    pub onward : Onward scenario before now
    pub clear : (home : Home) (tid : Tid) → home_of scenario home.site ≡ Some home → live home (past_of home.site now) tid ≡ None

  pub cleared : (commands : List Command) → IsScenario scenario → IsCalm (story_of scenario commands) → IsClear (story_of scenario commands) (story_of scenario (clear (fresh scenario) commands))
  cleared commands whole c =
      let all = all_cleared commands (sites scenario) commands whole (onward_here scenario (story_of scenario commands) c) in
      record { onward = all.onward; clear = λ home tid d. all.clear home tid d (declared-in scenario home.site home d) }
