-- Of each transaction at most one attempt stands in the orders of the sites.
use Rattle.std.proofs.Common.{◌≡◌, inr, List, sym, ap, subst, ◌∙◌}
use Rattle.mdb_base.specs.declared.names.Tid.{Tid}
use Rattle.mdb_base.proofs.ForCallers.{some_parts}
use Rattle.fed_rules.specs.declared.commands.Command.{Command}
use Rattle.fed_rules.specs.declared.scenario.Scenario.{Scenario}
use Rattle.fed_rules.specs.Plans.{IsScenario}
use Rattle.fed_rules.specs.Scenarios.{home_at, local_site, local_home}
use Rattle.fed_rules.specs.SiteRecords.{Home}
use Rattle.fed_rules.specs.Story.{past_of, story_of}
use Rattle.site_history.specs.Stories.{StoriesHaveRightLines}
use Rattle.federation_laws.specs.OneOrder.{OneAttemptEach}
use Rattle.federation_laws.proofs.Declared.{member-declared}
use Rattle.federation_laws.proofs.Members.{IsLocal}
use Rattle.federation_laws.proofs.Memberships.{Kind, AtHome, Roaming, kind-of}
use Rattle.federation_laws.proofs.OnceGlobal.{global-once}
use Rattle.federation_laws.proofs.OnceLocal.{local-once}
use Rattle.federation_laws.proofs.Told.{local_home-declared}
use Rattle.fed_rules.specs.SitePast.{records}

-- two members of one transaction are one attempt: both local, at one home, or both global
once-kinds : StoriesHaveRightLines → (scenario : Scenario) → IsScenario scenario → (commands : List Command) (here there : Home) (a b : Tid) → a.tx ≡ b.tx → Kind scenario commands here a → Kind scenario commands there b → a ≡ b
once-kinds right scenario good commands here there a b s (AtHome p) (AtHome q) =
    let one : there ≡ here = some_parts (sym q.here ∙ (ap (local_home scenario) (sym s) ∙ p.here)) in
    local-once right scenario good commands here (local_home-declared scenario a.tx here p.here) a b p.here s (inr p.record_kept)
    (inr (subst (λ (h : Home). IsLocal (records h (past_of h.site (story_of scenario commands))) b) one q.record_kept))
once-kinds right scenario good commands here there a b s (AtHome p) (Roaming q) =
    (let none = ap (home_at scenario) (ap (local_site scenario) s ∙ q.roams) in let found = p.here in let clash = sym none ∙ found in cc)
once-kinds right scenario good commands here there a b s (Roaming p) (AtHome q) =
    (let none = ap (home_at scenario) (ap (local_site scenario) (sym s) ∙ p.roams) in let found = q.here in let clash = sym none ∙ found in cc)
once-kinds right scenario good commands here there a b s (Roaming p) (Roaming q) = (global-once scenario commands).once a b s (inr p.commit) (inr q.commit)

-- so it is in every story
pub one-attempt : StoriesHaveRightLines → (scenario : Scenario) → IsScenario scenario → (commands : List Command) → OneAttemptEach scenario (story_of scenario commands)
one-attempt right scenario good commands site other a b i j s =
    let (here, p) = member-declared scenario (story_of scenario commands) site a i in
    let (there, q) = member-declared scenario (story_of scenario commands) other b j in
    once-kinds right scenario good commands here there a b s (kind-of scenario good commands site here a p i) (kind-of scenario good commands other there b q j)
