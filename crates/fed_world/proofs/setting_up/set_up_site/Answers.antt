use Rattle.std.proofs.Common.{◌≡◌, ◌≤◌, List, length, refl, sym, ap, subst, ◌∙◌, arith}
use Rattle.mdb_base.specs.declared.rows.Put.{Put}
use Rattle.mdb_base.specs.Words.{Each}
use Rattle.fed_rules.specs.declared.scenario.ItemLine.{ItemLine}
use Rattle.fed_rules.specs.declared.scenario.Scenario.{Scenario}
use Rattle.fed_rules.specs.declared.scenario.TxLine.{TxLine}
use Rattle.fed_rules.specs.Disk.{empty_disk}
use Rattle.fed_rules.specs.Plans.{IsScenario}
use Rattle.fed_rules.specs.Scenarios.{items_of}
use Rattle.fed_rules.specs.SitePast.{set_up_calls}
use Rattle.fed_rules.specs.SiteRecords.{Home}
use Rattle.local_dbms.specs.Stands.{IsNamed}
use Rattle.session_routes.specs.Rows.{DifferInRow}
use Rattle.site_core.specs.Store.{SomeStop}
use Rattle.fed_world.proofs.DeclaredSites.{few_items, its_home, line_ranged}
use Rattle.fed_world.proofs.DeclaredTransactions.{transactions_named}
use Rattle.fed_world.proofs.Routed.{site_stands}
use Rattle.fed_world.proofs.setting_up.set_up_site.Goals as goal

pub first_rows-requires : goal.first_rows-requires
first_rows-requires g c = subst (λ (xs : List ItemLine). DifferInRow xs) (sym c.as_slice.ensures) c.scenario.invariant.items.differ

pub returns-in_default-clause-untouched : goal.returns-in_default-clause-untouched
returns-in_default-clause-untouched g c e = c.requires.empty

pub returns-in_default-clause-broken : goal.returns-in_default-clause-broken
returns-in_default-clause-broken g c e home declared = cc

pub returns-in_default-clause-cause : goal.returns-in_default-clause-cause
returns-in_default-clause-cause g c = record { later = omega arith; failed = λ e. cc; clean = λ other. refl }

pub returns-in_default-new-clause-untouched : goal.returns-in_default-new-clause-untouched
returns-in_default-new-clause-untouched g c e = c.requires.empty

pub returns-in_default-new-clause-broken : goal.returns-in_default-new-clause-broken
returns-in_default-new-clause-broken g c e home declared = cc

pub returns-in_default-new-clause-cause : goal.returns-in_default-new-clause-cause
returns-in_default-new-clause-cause g c = record { later = omega arith; failed = λ e. cc; clean = λ other. refl }

pub same-items : goal.same-items
same-items g c = refl

pub set_up-requires-clause-told : goal.set_up-requires-clause-told
set_up-requires-clause-told g c = c.requires.told

pub set_up-requires-clause-empty : goal.set_up-requires-clause-empty
set_up-requires-clause-empty g c = c.requires.empty

pub set_up-requires-clause-site : goal.set_up-requires-clause-site
set_up-requires-clause-site g c =
    let whole : IsScenario c.args.scenario.now = subst (λ (s : Scenario). IsScenario s) c.scenario.view_is c.scenario.invariant in
    line_ranged c.args.scenario.now c.args.line whole c.requires.declared

pub set_up-requires-clause-few : goal.set_up-requires-clause-few
set_up-requires-clause-few g c =
    let whole : IsScenario c.args.scenario.now = subst (λ (s : Scenario). IsScenario s) c.scenario.view_is c.scenario.invariant in
    let rows : c.in-Ok.items ≡ items_of c.args.scenario.now.items c.args.line.site =
    c.in-Ok.ensures ∙ (ap (λ (xs : List ItemLine). items_of xs c.args.line.site) c.as_slice.ensures ∙ ap (λ (s : Scenario). items_of s.items c.args.line.site) c.scenario.view_is) in
    subst (λ (puts : List Put). length puts ≤ 4096) (sym rows) (few_items c.args.scenario.now c.args.line.site whole)

pub set_up-requires-clause-fresh : goal.set_up-requires-clause-fresh
set_up-requires-clause-fresh g c = c.in-Ok-new.ensures

pub set_up-requires-clause-named : goal.set_up-requires-clause-named
set_up-requires-clause-named g c =
    let whole : IsScenario c.args.scenario.now = subst (λ (s : Scenario). IsScenario s) c.scenario.view_is c.scenario.invariant in
    subst (λ (xs : List TxLine). Each IsNamed xs) (sym (c.as_slice-2.ensures ∙ ap (λ (s : Scenario). s.transactions) c.scenario.view_is)) (transactions_named c.args.scenario.now whole)

pub returns-clause-stands : goal.returns-clause-stands
returns-clause-stands g c =
    let rows : c.in-Ok.items ≡ items_of c.args.scenario.now.items c.args.line.site =
    c.in-Ok.ensures ∙ (ap (λ (xs : List ItemLine). items_of xs c.args.line.site) c.as_slice.ensures ∙ ap (λ (s : Scenario). items_of s.items c.args.line.site) c.scenario.view_is) in
    site_stands c.set_up.result g.D.Disk.tells (g.D.Disk.seen c.set_up.new.disk) c.args.scenario.now c.args.line c.in-Ok.items c.as_slice-2.result.now c.requires.declared rows
    (c.as_slice-2.ensures ∙ ap (λ (s : Scenario). s.transactions) c.scenario.view_is) c.set_up.ensures.stands

pub returns-clause-untouched : goal.returns-clause-untouched
returns-clause-untouched g c = c.set_up.ensures.untouched

pub returns-clause-broken : goal.returns-clause-broken
returns-clause-broken g c e home declared =
    let rows : c.in-Ok.items ≡ items_of c.args.scenario.now.items c.args.line.site =
    c.in-Ok.ensures ∙ (ap (λ (xs : List ItemLine). items_of xs c.args.line.site) c.as_slice.ensures ∙ ap (λ (s : Scenario). items_of s.items c.args.line.site) c.scenario.view_is) in
    subst (λ (h : Home). SomeStop (g.D.Disk.seen c.set_up.new.disk).image empty_disk (set_up_calls h)) (its_home c.args.scenario.now c.args.line c.in-Ok.items home c.requires.declared rows declared) (c.set_up.ensures.broken e)

pub returns-clause-cause : goal.returns-clause-cause
returns-clause-cause g c = c.set_up.ensures.cause
