use Rattle.std.proofs.Common.{◌≡◌, Bool, IfOk, List, [], sym, ap, subst, ◌∙◌}
use Rattle.mdb_base.specs.Rising.{IsRising}
use Rattle.mdb_base.specs.Words.{Each}
use Rattle.presumptions.specs.declared.Participant.{Participant}
use Rattle.record_fields.specs.Named.{IsSite}
use Rattle.fed_rules.specs.declared.scenario.Scenario.{Scenario}
use Rattle.fed_rules.specs.declared.scenario.SiteLine.{SiteLine}
use Rattle.fed_rules.specs.declared.scenario.TxLine.{TxLine}
use Rattle.fed_rules.specs.Plans.{IsScenario}
use Rattle.fed_rules.specs.Policies.{Policy}
use Rattle.fed_rules.specs.Scenarios.{policy, protocols, protocols_in}
use Rattle.journal_disk.specs.Disk.{Seen}
use Rattle.conservative_take.specs.AnyPolicies.{policy_is}
use Rattle.commit_laws.proofs.ForCallers.{members_rise}
use Rattle.coord_core.specs.Stands.{IsEmptyDisk}
use Rattle.global_manager.specs.Stands as Manager
use Rattle.global_manager.specs.Stands.{IsDeclared}
use Rattle.fed_world.proofs.DeclaredSites.{members_ranged}
use Rattle.fed_world.proofs.DeclaredTransactions.{transactions_declared}
use Rattle.fed_world.proofs.setting_up.new_coordinator.Goals as goal

pub of-requires : goal.of-requires
of-requires c =
    let whole : IsScenario c.args.scenario.now = subst (λ (s : Scenario). IsScenario s) c.scenario.view_is c.scenario.invariant in
    let members : c.in-Ok.protocols.items ≡ protocols c.args.scenario.now =
    c.in-Ok.ensures ∙ (ap (λ (ls : List SiteLine). protocols_in ls) c.as_slice.ensures ∙ ap (λ (s : Scenario). protocols s) c.scenario.view_is) in
    subst (λ (ps : List Participant). IsRising (λ (m : Participant). m.site.0) ps) (sym members) (members_rise c.args.scenario.now whole)

pub new-requires-clause-sites : goal.new-requires-clause-sites
new-requires-clause-sites c =
    let whole : IsScenario c.args.scenario.now = subst (λ (s : Scenario). IsScenario s) c.scenario.view_is c.scenario.invariant in
    let members : c.of.result ≡ protocols c.args.scenario.now =
    c.of.ensures ∙ (c.in-Ok.ensures ∙ (ap (λ (ls : List SiteLine). protocols_in ls) c.as_slice.ensures ∙ ap (λ (s : Scenario). protocols s) c.scenario.view_is)) in
    subst (λ (ps : List Participant). Each (λ (m : Participant). IsSite m.site) ps) (sym members) (members_ranged c.args.scenario.now whole)

pub new-requires-clause-declared : goal.new-requires-clause-declared
new-requires-clause-declared c =
    let whole : IsScenario c.args.scenario.now = subst (λ (s : Scenario). IsScenario s) c.scenario.view_is c.scenario.invariant in
    let members : c.of.result ≡ protocols c.args.scenario.now =
    c.of.ensures ∙ (c.in-Ok.ensures ∙ (ap (λ (ls : List SiteLine). protocols_in ls) c.as_slice.ensures ∙ ap (λ (s : Scenario). protocols s) c.scenario.view_is)) in
    let lines : c.as_slice-in-Ok.result.now ≡ c.args.scenario.now.transactions = c.as_slice-in-Ok.ensures ∙ ap (λ (s : Scenario). s.transactions) c.scenario.view_is in
    subst (λ (ps : List Participant). Each (IsDeclared ps) c.as_slice-in-Ok.result.now) (sym members)
    (subst (λ (xs : List TxLine). Each (IsDeclared (protocols c.args.scenario.now)) xs) (sym lines) (transactions_declared c.args.scenario.now whole))

pub returns-in-Ok : goal.returns-in-Ok
returns-in-Ok c =
    let members : c.of.result ≡ protocols c.args.scenario.now =
    c.of.ensures ∙ (c.in-Ok.ensures ∙ (ap (λ (ls : List SiteLine). protocols_in ls) c.as_slice.ensures ∙ ap (λ (s : Scenario). protocols s) c.scenario.view_is)) in
    let lines : c.as_slice-in-Ok.result.now ≡ c.args.scenario.now.transactions = c.as_slice-in-Ok.ensures ∙ ap (λ (s : Scenario). s.transactions) c.scenario.view_is in
    let rule : policy_is c.of-in-Ok.result ≡ policy c.args.scenario.now = c.of-in-Ok.ensures ∙ ap (λ (s : Scenario). policy s) c.scenario.view_is in
    subst (λ (ps : List Participant). IfOk c.new.result (λ manager. (tells : Bool) (seen : Seen) → IsEmptyDisk tells seen → Manager.Stands policy_is tells manager seen (record { protocols = ps; policy = policy c.args.scenario.now }) (Manager.own_programs c.args.scenario.now.transactions) [])) members
    (subst (λ (p : Policy). IfOk c.new.result (λ manager. (tells : Bool) (seen : Seen) → IsEmptyDisk tells seen → Manager.Stands policy_is tells manager seen (record { protocols = c.of.result; policy = p }) (Manager.own_programs c.args.scenario.now.transactions) [])) rule
    (subst (λ (xs : List TxLine). IfOk c.new.result (λ manager. (tells : Bool) (seen : Seen) → IsEmptyDisk tells seen → Manager.Stands policy_is tells manager seen (record { protocols = c.of.result; policy = policy_is c.of-in-Ok.result }) (Manager.own_programs xs) [])) lines c.new.ensures))
