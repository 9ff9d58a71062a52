-- By the rules themselves, in the form of the wrong ones, the story is the story.
use Rattle.std.proofs.Common.{◌≡◌, List, [], ◌∷◌, refl, sym, ap, subst, ◌∙◌}
use Rattle.mdb_base.specs.declared.names.Tid.{Tid}
use Rattle.fed_rules.specs.declared.commands.Command.{Command}
use Rattle.fed_rules.specs.declared.scenario.Scenario.{Scenario}
use Rattle.fed_rules.specs.Coord.{coord_line}
use Rattle.fed_rules.specs.Scenarios.{policy, protocols}
use Rattle.fed_rules.specs.Site.{site_line}
use Rattle.fed_rules.specs.Story.{Happened, AtSite, AtCoordinator, Nowhere, past_of, coord_past, happens, story_of}
use Rattle.commit_laws.specs.WrongRules.{at_home, made_by, story_by, right_rules}
use Rattle.commit_laws.proofs.Agreed.{agreed, coord-sound}
use Rattle.coord_laws.proofs.ForCallers.{coord_lines}
use Rattle.commit_laws.proofs.Links.{IsNext, linked, home-again, its-site}
use Rattle.commit_laws.proofs.PreparedLaws.{nowhere}
use Rattle.commit_laws.proofs.SiteLines.{site-lines}

abbrev some_attempt : Tid
some_attempt = record { tx = record { 0 = 0 }; attempt = 0 }

made : (scenario : Scenario) (commands : List Command) (happened : Happened) → IsNext scenario (story_of scenario commands) happened
    → made_by right_rules scenario (story_of scenario commands) happened ≡ happened
made scenario commands (Nowhere answer) l = refl
made scenario commands (AtSite site x) (home, found, event, is, came) =
    let again = home-again scenario site home found in
    let firm = (agreed scenario home some_attempt commands again).firm in
    let same : x.event ≡ event = ap (λ y. y.event) is ∙ subst
    (λ s. (site_line home (past_of s (story_of scenario commands)) event).event ≡ event) (its-site scenario site home found)
    (site-lines home some_attempt (past_of home.site (story_of scenario commands)) event firm).is in
    ap (at_home right_rules (story_of scenario commands) site x.event) found
    ∙ ap (AtSite site) (ap (site_line home (past_of site (story_of scenario commands))) same ∙ sym is)
made scenario commands (AtCoordinator x) (event, is, came) =
    let line = coord_lines (protocols scenario) (policy scenario) some_attempt (coord_past (story_of scenario commands)) event
    (coord-sound scenario nowhere some_attempt commands).firm in
    let same : x.event ≡ event = ap (λ y. y.event) is ∙ line.is in
    ap AtCoordinator (ap (coord_line (protocols scenario) (policy scenario) (coord_past (story_of scenario commands))) same ∙ sym is)

pub right-rules : (scenario : Scenario) (commands : List Command) → story_by right_rules scenario commands ≡ story_of scenario commands
right-rules scenario [] = refl
right-rules scenario (command ∷ commands) =
    ap (λ story. record { command = command; happened = made_by right_rules scenario story (happens scenario story command) } ∷ story)
    (right-rules scenario commands)
    ∙ ap (λ happened. record { command = command; happened = happened } ∷ story_of scenario commands)
    (made scenario commands (happens scenario (story_of scenario commands) command)
    (linked scenario (story_of scenario commands) command).next)
