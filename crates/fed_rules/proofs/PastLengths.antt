-- How long the past of a site gets in a story.
use Rattle.std.proofs.Common.{◌≤◌, Bool, true, false, cond, List, [], ◌∷◌, length, arith}
use Rattle.mdb_base.specs.declared.names.SiteId.{SiteId}
use Rattle.mdb_base.specs.Names.{same_site}
use Rattle.fed_rules.specs.declared.commands.Command.{Command}
use Rattle.fed_rules.specs.declared.scenario.Scenario.{Scenario}
use Rattle.fed_rules.specs.Story.{Happened, AtSite, AtCoordinator, Nowhere, happens, past_of, story_of, with_site}

-- the past of a site has at most as many lines as there are commands
pub past_short : (scenario : Scenario) (commands : List Command) (site : SiteId) → length (past_of site (story_of scenario commands)) ≤ length commands
past_short scenario [] site = omega arith
past_short scenario (command ∷ commands) site = by_line (happens scenario (story_of scenario commands) command) (past_short scenario commands site)
  where
    by_line : (h : Happened) → length (past_of site (story_of scenario commands)) ≤ length commands
        → length (with_site site h (past_of site (story_of scenario commands))) ≤ length (command ∷ commands)
    by_line (AtCoordinator x) less = omega (arith, less)
    by_line (Nowhere answer) less = omega (arith, less)
    by_line (AtSite at x) less = by_test (same_site at site)
      where
        by_test : (t : Bool) → length (cond t (x ∷ past_of site (story_of scenario commands)) (past_of site (story_of scenario commands))) ≤ length (command ∷ commands)
        by_test true = omega (arith, less)
        by_test false = omega (arith, less)
