-- Whatever is committed stands in the orders of the sites.
use Rattle.std.proofs.Common.{◌≡◌, Bool, true, false, ◌||◌, List, [], ◌∷◌, inl, inr, refl, sym, ap, subst, ◌∙◌}
use Rattle.mdb_base.specs.declared.acts.Step.{Step}
use Rattle.mdb_base.specs.Names.{same_site}
use Rattle.mdb_base.proofs.ForCallers.{same_site-refl}
use Rattle.order_laws.specs.Chains.{In}
use Rattle.fed_rules.specs.declared.commands.Command.{Command}
use Rattle.fed_rules.specs.declared.scenario.Scenario.{Scenario}
use Rattle.fed_rules.specs.CoordPast.{visits}
use Rattle.fed_rules.specs.Orders.{is_committed, records_of}
use Rattle.fed_rules.specs.Plans.{IsScenario}
use Rattle.fed_rules.specs.Scenarios.{program_of}
use Rattle.fed_rules.specs.Story.{story_of}
use Rattle.federation_laws.specs.OneOrder.{AllAreOrdered}
use Rattle.federation_laws.proofs.Globals.{visited-member}
use Rattle.federation_laws.proofs.Members.{local-member}
use Rattle.federation_laws.proofs.StoryGlobals.{story-holds}

-- the steps of a list visit the site of each of them
step-visits : (steps : List Step) (step : Step) → In step steps → visits step.site steps ≡ true
step-visits [] step i = absurd i
step-visits (s ∷ steps) step (inl own) = ap (λ b. b || visits step.site steps) (ap (λ (x : Step). same_site x.site step.site) own ∙ same_site-refl step.site)
step-visits (s ∷ steps) step (inr i) = second (same_site s.site step.site) (visits step.site steps) (step-visits steps step i)
  where
    second : (a b : Bool) → b ≡ true → (a || b) ≡ true
    second true b e = refl
    second false b e = e

-- so it is in every story
pub all-ordered : (scenario : Scenario) → IsScenario scenario → (commands : List Command) → AllAreOrdered scenario (story_of scenario commands)
all-ordered scenario good commands =
    record {
      locals = λ site tid number writes i. local-member (is_committed (story_of scenario commands)) (records_of scenario (story_of scenario commands) site) tid number writes i;
      globals = λ tid commit step i.
          let h = story-holds scenario good commands tid in
          let own = h.programmed (h.holds.committed commit).known in
          visited-member scenario good commands step.site tid own.1 commit
          (subst (λ steps. visits step.site steps ≡ true) (sym own.0) (step-visits (program_of scenario tid.tx) step i));
    }
