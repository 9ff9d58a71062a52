-- The test for rest looks at the declared sites alone: at another one nothing happens.
use Rattle.std.proofs.Common.{◌≡◌, true, Option, Some, None, List, refl, ap}
use Rattle.mdb_base.specs.declared.names.SiteId.{SiteId}
use Rattle.order_laws.proofs.ForCallers.{each_at, each_from}
use Rattle.fed_rules.specs.declared.commands.Command.{Command}
use Rattle.fed_rules.specs.declared.scenario.Scenario.{Scenario}
use Rattle.fed_rules.specs.Closing.{live_at, in_doubt_at}
use Rattle.fed_rules.specs.Happenings.{is_down}
use Rattle.fed_rules.specs.Scenarios.{home_of, sites}
use Rattle.fed_rules.specs.SitePast.{trip}
use Rattle.fed_rules.specs.SiteRecords.{Home}
use Rattle.fed_rules.specs.Story.{Story, story_of}
use Rattle.closing_laws.specs.AtRest.{IsAtRest}
use Rattle.commit_laws.proofs.ForCallers.{undeclared}
use Rattle.federation_laws.proofs.ForCallers.{declared-in}
use Rattle.audit_rules.specs.Agreements.{SiteRests, Rests}
use Rattle.audit_rules.specs.Ends.{rests}
use Rattle.audit_rules.proofs.ForCallers.{rest_means, rest_passes}

each_rests : (scenario : Scenario) (commands : List Command) → Rests scenario (story_of scenario commands) → (site : SiteId) → SiteRests scenario (story_of scenario commands) site
each_rests scenario commands r site = by_home (home_of scenario site) refl where
  story : Story
  story = story_of scenario commands

  by_home : (o : Option Home) → home_of scenario site ≡ o → SiteRests scenario story site
  by_home None e =
      let none = undeclared scenario site commands e in
      record {
        up = ap (λ past. is_down past) none;
        untripped = ap (λ past. trip past) none;
        none_live = ap (λ o. live_at o story) e;
        none_in_doubt = ap (λ o. in_doubt_at o story) e;
      }
  by_home (Some home) e = each_at (SiteRests scenario story) site (sites scenario) r.sites (declared-in scenario site home e)

pub at_rest_means : (scenario : Scenario) (commands : List Command) → rests scenario (story_of scenario commands) ≡ true → IsAtRest scenario (story_of scenario commands)
at_rest_means scenario commands e =
    let r = rest_means scenario (story_of scenario commands) e in
    let each = each_rests scenario commands r in
    record {
      coordinator_up = r.coordinator_up;
      coordinator_untripped = r.coordinator_untripped;
      sites_up = λ site. (each site).up;
      sites_untripped = λ site. (each site).untripped;
      none_live = λ site. (each site).none_live;
      none_in_doubt = λ site. (each site).none_in_doubt;
      none_known = r.none_known;
    }

pub at_rest_passes : (scenario : Scenario) (commands : List Command) → IsAtRest scenario (story_of scenario commands) → rests scenario (story_of scenario commands) ≡ true
at_rest_passes scenario commands r =
    rest_passes scenario (story_of scenario commands) (record {
      coordinator_up = r.coordinator_up;
      coordinator_untripped = r.coordinator_untripped;
      none_known = r.none_known;
      sites = each_from (SiteRests scenario (story_of scenario commands)) (sites scenario) (λ site i. record {
        up = r.sites_up site;
        untripped = r.sites_untripped site;
        none_live = r.none_live site;
        none_in_doubt = r.none_in_doubt site;
      });
    })
