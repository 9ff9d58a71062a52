-- What holds of each next line holds at each line of a story; and nothing happens at a site that isn't declared.
use Rattle.std.proofs.Common.{◌≡◌, Bool, true, false, cond, Some, None, List, [], ◌∷◌, refl, subst}
use Rattle.mdb_base.specs.declared.names.SiteId.{SiteId}
use Rattle.mdb_base.specs.Names.{same_site}
use Rattle.mdb_base.proofs.ForCallers.{same_site-equal}
use Rattle.fed_rules.specs.declared.commands.Command.{Command}
use Rattle.fed_rules.specs.declared.scenario.Scenario.{Scenario}
use Rattle.fed_rules.specs.CoordPast.{CoordHappening, CoordPast}
use Rattle.fed_rules.specs.Endings.{AtEach}
use Rattle.fed_rules.specs.Scenarios.{home_of}
use Rattle.fed_rules.specs.Story.{Story, Told, Happened, AtSite, AtCoordinator, Nowhere, coord_past, past_of, with_coordinator, with_site, tell, happens, story_of}
use Rattle.commit_laws.specs.Forgetting.{IsNextOfCoordinator}
use Rattle.commit_laws.proofs.Links.{Linked, linked}

-- what holds at each line holds of whatever follows from it
pub at-each : {A : Type 0} {P Q : A → List A → Type 0} → ((x : A) (xs : List A) → P x xs → Q x xs) → (xs : List A) → AtEach P xs → AtEach Q xs
at-each step [] p = tt
at-each step (x ∷ xs) p = (step x xs p.0, at-each step xs p.1)

pub at-both : {A : Type 0} {P Q R : A → List A → Type 0} → ((x : A) (xs : List A) → P x xs → Q x xs → R x xs) → (xs : List A)
    → AtEach P xs → AtEach Q xs → AtEach R xs
at-both step [] p q = tt
at-both step (x ∷ xs) p q = (step x xs p.0 q.0, at-both step xs p.1 q.1)

-- what holds of each next line of the coordinator holds at each of its lines
pub coord-each : (scenario : Scenario) (P : CoordHappening → CoordPast → Type 0)
    → ((commands : List Command) (x : CoordHappening) → IsNextOfCoordinator scenario commands x → P x (coord_past (story_of scenario commands)))
    → (commands : List Command) → AtEach P (coord_past (story_of scenario commands))
coord-each scenario P each [] = tt
coord-each scenario P each (command ∷ commands) =
    more (happens scenario (story_of scenario commands) command) refl (coord-each scenario P each commands)
  where
    more : (happened : Happened) → happens scenario (story_of scenario commands) command ≡ happened
        → AtEach P (coord_past (story_of scenario commands)) → AtEach P (with_coordinator happened (coord_past (story_of scenario commands)))
    more (Nowhere answer) e rest = rest
    more (AtSite at x) e rest = rest
    more (AtCoordinator x) e rest = (each commands x (command, e), rest)

-- and so it is of all lines
pub story-each : (scenario : Scenario) (P : Told → Story → Type 0)
    → ((commands : List Command) (command : Command) → P (tell scenario (story_of scenario commands) command) (story_of scenario commands))
    → (commands : List Command) → AtEach P (story_of scenario commands)
story-each scenario P each [] = tt
story-each scenario P each (command ∷ commands) = (each commands command, story-each scenario P each commands)

-- the coordinator's past behind its next line
pub past-behind : (scenario : Scenario) (P : CoordPast → Type 0) → ((commands : List Command) → P (coord_past (story_of scenario commands)))
    → (commands : List Command) (x : CoordHappening) → IsNextOfCoordinator scenario commands x → P (x ∷ coord_past (story_of scenario commands))
past-behind scenario P each commands x (command, e) =
    subst (λ happened. P (with_coordinator happened (coord_past (story_of scenario commands)))) e (each (command ∷ commands))

-- nothing happens at a site that isn't declared
pub undeclared : (scenario : Scenario) (site : SiteId) (commands : List Command) → home_of scenario site ≡ None
    → past_of site (story_of scenario commands) ≡ []
undeclared scenario site [] none = refl
undeclared scenario site (command ∷ commands) none =
    more (happens scenario story command) (linked scenario story command) (undeclared scenario site commands none)
  where
    story : Story
    story = story_of scenario commands

    more : (happened : Happened) → Linked scenario story happened → past_of site story ≡ [] → with_site site happened (past_of site story) ≡ []
    more (Nowhere answer) l e = e
    more (AtCoordinator x) l e = e
    more (AtSite at x) l e = by_test (same_site at site) refl
      where
        by_test : (b : Bool) → same_site at site ≡ b → cond b (x ∷ past_of site story) (past_of site story) ≡ []
        by_test false q = e
        by_test true q = (let found : home_of scenario site ≡ Some l.next.0 = subst (λ s. home_of scenario s ≡ Some l.next.0) (same_site-equal at site q) l.next.1 in cc)
