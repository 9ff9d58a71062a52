-- A message is given at its site, and what the site sends is taken.
use Rattle.std.proofs.Common.{◌≡◌, ℕ, suc, Bool, true, false, cond, Some, None, List, [], ◌∷◌, ◌++◌, length, refl, sym, ap, subst, ◌∙◌}
use Rattle.std.proofs.lemmas.List.{append-nil}
use Rattle.mdb_base.specs.declared.names.SiteId.{SiteId}
use Rattle.mdb_base.specs.Names.{same_site}
use Rattle.mdb_base.specs.Words.{given, item_at}
use Rattle.mdb_base.proofs.ForCallers.{cond-false, same_site-equal, same_site-refl}
use Rattle.fed_rules.specs.declared.answers.Answer.TheVariants as Say
use Rattle.fed_rules.specs.declared.commands.Command.{Command}
use Rattle.fed_rules.specs.declared.commands.Command.TheVariants as Cmd
use Rattle.fed_rules.specs.declared.commands.Place.{Place}
use Rattle.fed_rules.specs.declared.events.SiteEvent.TheVariants as Ev
use Rattle.fed_rules.specs.declared.messages.FromSite.{FromSite}
use Rattle.fed_rules.specs.declared.messages.ToSite.{ToSite}
use Rattle.fed_rules.specs.declared.scenario.Scenario.{Scenario}
use Rattle.fed_rules.specs.Closing.{take_answers, sent_next, deliver_all}
use Rattle.fed_rules.specs.Coord.{of_take}
use Rattle.fed_rules.specs.CoordPast as Coordinator
use Rattle.fed_rules.specs.CoordPast.{CoordHappening, CoordPast}
use Rattle.fed_rules.specs.Happenings.{stops}
use Rattle.fed_rules.specs.Scenarios.{home_of, protocols, policy}
use Rattle.fed_rules.specs.Site.{of_give}
use Rattle.fed_rules.specs.SitePast.{SiteHappening, trip_of}
use Rattle.fed_rules.specs.SiteRecords.{Home}
use Rattle.fed_rules.specs.Story.{Story, AtSite, AtCoordinator, Nowhere, past_of, coord_past, with_site, with_coordinator, sent_to, sends_to, sent_from, on_site, on_give, happens, place_from, places_of, story_of}
use Rattle.closing_laws.proofs.Calm.{IsReady, ready_next, gives, takes}
use Rattle.closing_laws.proofs.CoordTurns.{takes_there}
use Rattle.closing_laws.proofs.Delivered.{sent_behind}
use Rattle.closing_laws.proofs.Onward.{IsCalm, at_home}

-- a message, the line that it makes at its site, what that sends, and the line of the coordinator that takes it
pub record IsExchange (scenario : Scenario) (commands : List Command) (home : Home) (place : ℕ) (to : ToSite) (x : SiteHappening) (from : FromSite) (y : CoordHappening) : Type 0 where
  pub calm : IsCalm (story_of scenario commands)
  pub declared : home_of scenario home.site ≡ Some home
  pub there : item_at (sent_to home.site (story_of scenario commands)) place ≡ Some to
  pub gives : of_give home (past_of home.site (story_of scenario commands)) to ≡ x
  pub sends : x.sends ≡ from ∷ []
  pub stays : stops x.answer ≡ false
  pub unarmed : trip_of x.event ≡ None
  pub takes : of_take (protocols scenario) (policy scenario) (coord_past (story_of scenario commands)) home.site from ≡ y
  pub goes : stops y.answer ≡ false
  pub unset : Coordinator.trip_of y.event ≡ None

module _ (scenario : Scenario) (commands : List Command) (home : Home) (place : ℕ) (to : ToSite) (x : SiteHappening) (from : FromSite) (y : CoordHappening) (ex : IsExchange scenario commands home place to x from y) where
  abbrev before : Story
  before = story_of scenario commands

  abbrev pub with_give : List Command
  with_give = Cmd.Give home.site place ∷ commands

  abbrev pub both : List Command
  both = Cmd.Take home.site (length (sent_from home.site (story_of scenario commands))) ∷ Cmd.Give home.site place ∷ commands

  give_so : happens scenario before (Cmd.Give home.site place) ≡ AtSite home.site x
  unfolding happens on_give given
  give_so =
      ap (λ o. given o (λ m. on_site scenario before home.site (Ev.Give m)) (Nowhere Say.None)) ex.there
      ∙ (at_home scenario before home (Ev.Give to) ex.declared
      ∙ ap (λ z. AtSite home.site z) (gives home (past_of home.site before) to (ex.calm.sites home.site) ∙ ex.gives))

  pub past_given : past_of home.site (story_of scenario with_give) ≡ x ∷ past_of home.site before
  past_given =
      ap (λ h. with_site home.site h (past_of home.site before)) give_so
      ∙ ap (λ b. cond b (x ∷ past_of home.site before) (past_of home.site before)) (same_site-refl home.site)

  pub other_given : (site : SiteId) → same_site home.site site ≡ false → past_of site (story_of scenario with_give) ≡ past_of site before
  other_given site e = ap (λ h. with_site site h (past_of site before)) give_so ∙ cond-false _ _ _ e

  pub coord_given : coord_past (story_of scenario with_give) ≡ coord_past before
  coord_given = ap (λ h. with_coordinator h (coord_past before)) give_so

  pub sent_given : (site : SiteId) → sent_to site (story_of scenario with_give) ≡ sent_to site before
  sent_given site = ap (λ h. sent_to site before ++ sends_to site h) give_so ∙ append-nil (sent_to site before)

  calm_given : IsCalm (story_of scenario with_give)
  calm_given = record {
    coordinator = subst (IsReady Coordinator.trip_of) (sym coord_given) ex.calm.coordinator;
    sites = λ site. by_test site (same_site home.site site) refl;
  }
    where
      by_test : (site : SiteId) (b : Bool) → same_site home.site site ≡ b → IsReady trip_of (past_of site (story_of scenario with_give))
      by_test site true q = subst (λ s. IsReady trip_of (past_of s (story_of scenario with_give))) (same_site-equal home.site site q)
          (subst (IsReady trip_of) (sym past_given) (ready_next trip_of (past_of home.site before) x ex.stays ex.unarmed (ex.calm.sites home.site)))
      by_test site false q = subst (IsReady trip_of) (sym (other_given site q)) (ex.calm.sites site)

  answer_there : item_at (sent_from home.site (story_of scenario with_give)) (length (sent_from home.site before)) ≡ Some from
  answer_there =
      ap (λ h. item_at (sent_from home.site (record { command = Cmd.Give home.site place; happened = h } ∷ before)) (length (sent_from home.site before))) give_so
      ∙ sent_behind before (Cmd.Give home.site place) home.site x from ex.sends

  take_so : happens scenario (story_of scenario with_give) (Cmd.Take home.site (length (sent_from home.site before))) ≡ AtCoordinator y
  take_so =
      takes_there scenario (story_of scenario with_give) home.site (length (sent_from home.site before)) from answer_there
      ∙ ap (λ z. AtCoordinator z) (takes (protocols scenario) (policy scenario) (coord_past (story_of scenario with_give)) home.site from calm_given.coordinator
      ∙ (ap (λ past. of_take (protocols scenario) (policy scenario) past home.site from) coord_given ∙ ex.takes))

  pub coord_both : coord_past (story_of scenario both) ≡ y ∷ coord_past before
  coord_both = ap (λ h. with_coordinator h (coord_past (story_of scenario with_give))) take_so ∙ ap (λ past. y ∷ past) coord_given

  pub past_both : (site : SiteId) → past_of site (story_of scenario both) ≡ past_of site (story_of scenario with_give)
  past_both site = ap (λ h. with_site site h (past_of site (story_of scenario with_give))) take_so

  pub sent_both : (site : SiteId) → sent_to site (story_of scenario both) ≡ sent_to site before ++ sends_to site (AtCoordinator y)
  sent_both site = ap (λ h. sent_to site (story_of scenario with_give) ++ sends_to site h) take_so ∙ ap (λ ms. ms ++ sends_to site (AtCoordinator y)) (sent_given site)

  pub calm_both : IsCalm (story_of scenario both)
  calm_both = record {
    coordinator = subst (IsReady Coordinator.trip_of) (sym coord_both) (ready_next Coordinator.trip_of (coord_past before) y ex.goes ex.unset ex.calm.coordinator);
    sites = λ site. subst (IsReady trip_of) (sym (past_both site)) (calm_given.sites site);
  }

  -- the delivery goes on with what the coordinator sent
  pub goes_on : (n : ℕ) (places : List Place) → deliver_all scenario (suc n) (record { site = home.site; place = place } ∷ places) commands
      ≡ deliver_all scenario n (places ++ places_of (story_of scenario with_give) (AtCoordinator y)) both
  goes_on n places =
      ap (λ ps. deliver_all scenario n (places ++ sent_next scenario (take_answers ps with_give) ps) (take_answers ps with_give)) (ap (places_of before) give_so ∙ ap (place_from home.site (length (sent_from home.site before))) ex.sends)
      ∙ ap (λ ps. deliver_all scenario n (places ++ ps) both) (ap (places_of (story_of scenario with_give)) take_so)
