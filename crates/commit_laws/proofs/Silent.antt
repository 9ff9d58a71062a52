-- A site that the scenario doesn't declare sends nothing.
use Rattle.std.proofs.Common.{◌≡◌, Bool, true, false, cond, None, List, [], ◌∷◌, ◌++◌, refl, sym, ◌∙◌, ap}
use Rattle.std.proofs.lemmas.List.{append-nil}
use Rattle.mdb_base.specs.declared.names.SiteId.{SiteId}
use Rattle.mdb_base.specs.Names.{same_site}
use Rattle.mdb_base.proofs.ForCallers.{same_site-equal}
use Rattle.fed_rules.specs.declared.commands.Command.{Command}
use Rattle.fed_rules.specs.declared.scenario.Scenario.{Scenario}
use Rattle.fed_rules.specs.Scenarios.{home_of}
use Rattle.fed_rules.specs.Story.{Story, Happened, AtSite, AtCoordinator, Nowhere, happens, sends_from, sent_from, story_of}
use Rattle.commit_laws.proofs.Links.{Linked, linked}

-- who sends is declared
pub declared_sends : (scenario : Scenario) (commands : List Command) (site : SiteId) → home_of scenario site ≡ None → sent_from site (story_of scenario commands) ≡ []
declared_sends scenario [] site none = refl
declared_sends scenario (command ∷ commands) site none = by_line (happens scenario story command) (linked scenario story command) (declared_sends scenario commands site none)
  where
    story : Story
    story = story_of scenario commands

    by_line : (happened : Happened) → Linked scenario story happened → sent_from site story ≡ [] → sent_from site story ++ sends_from site happened ≡ []
    by_line (Nowhere answer) l e = append-nil (sent_from site story) ∙ e
    by_line (AtCoordinator x) l e = append-nil (sent_from site story) ∙ e
    by_line (AtSite at x) l e = by_test (same_site at site) refl
      where
        by_test : (b : Bool) → same_site at site ≡ b → sent_from site story ++ cond b x.sends [] ≡ []
        by_test true is = (let same = same_site-equal at site is in let found = sym none ∙ ap (home_of scenario) (sym same) ∙ l.next.1 in cc)
        by_test false is = append-nil (sent_from site story) ∙ e
