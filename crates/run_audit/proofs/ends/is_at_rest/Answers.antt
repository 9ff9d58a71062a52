use Rattle.std.proofs.Common.{List, sym, ap, ◌∙◌}
use Rattle.fed_rules.specs.declared.scenario.Scenario.{Scenario}
use Rattle.fed_rules.specs.declared.scenario.SiteLine.{SiteLine}
use Rattle.fed_rules.specs.Sessions.{fresh}
use Rattle.fed_rules.specs.Story.{story_of}
use Rattle.closing.proofs.ForCallers.{on_ok}
use Rattle.run_audit.specs.Resting.{sites_rest}
use Rattle.run_audit.proofs.Rests.{by_sites, not_rested}
use Rattle.run_audit.proofs.ends.is_at_rest.Goals as goal

pub returns-then-not-branch : goal.returns-then-not-branch
returns-then-not-branch c = λ scenario commands r.
    not_rested scenario (story_of scenario commands) (sym c.if-not-branch.true ∙ c.in_ok-coordinator_rests.ensures scenario commands r)

pub returns : goal.returns
returns c =
    on_ok _ _ c.sites_rest.result
    (λ rest so scenario commands r.
    by_sites scenario (story_of scenario commands) rest (sym c.if-not-branch.false ∙ c.in_ok-coordinator_rests.ensures scenario commands r)
    (so scenario commands r
    ∙ ap (λ (lines : List SiteLine). sites_rest scenario (story_of scenario commands) lines) (c.as_slice.ensures ∙ (ap (λ (z : Scenario). z.sites) c.behind-world.view_is ∙ ap (λ (z : Scenario). z.sites) (c.scenario.ensures (fresh scenario) commands r.has)))))
    c.sites_rest.ensures
